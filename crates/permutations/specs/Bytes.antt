-- Numbers as bytes, the highest byte first. Assumes nothing.
use Rattle.std.specs.Prelude.{ℕ, zero, suc, ◌+◌, ◌*◌, ◌/◌, ◌%◌, ◌^◌, List, [], ◌∷◌, ◌++◌, length, take, drop, bit_xor}

-- the number that bytes stand for
unfoldable pub load : List ℕ → ℕ
load [] = 0
load (b ∷ bs) = b * 256 ^ length bs + load bs

-- the n bytes of a number
unfoldable pub store : ℕ → ℕ → List ℕ
store zero x = []
store (suc n) x = (x / 256 ^ n % 256) ∷ store n x

-- n numbers of w bytes each, one after the other
unfoldable pub loads : ℕ → ℕ → List ℕ → List ℕ
loads w zero s = []
loads w (suc n) s = load (take w s) ∷ loads w n (drop w s)

unfoldable pub stores : ℕ → List ℕ → List ℕ
stores w [] = []
stores w (x ∷ xs) = store w x ++ stores w xs

-- xor byte by byte, as far as both go
unfoldable pub xors : List ℕ → List ℕ → List ℕ
xors [] ys = []
xors (x ∷ xs) [] = []
xors (x ∷ xs) (y ∷ ys) = bit_xor x y ∷ xors xs ys
