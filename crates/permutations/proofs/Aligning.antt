-- A number set right-aligned, digit by digit from its end. Assumes nothing.
use Rattle.std.proofs.Common.{◌≡◌, ℕ, zero, suc, ◌+◌, ◌-◌, ◌/◌, ◌%◌, ◌^◌, ◌<◌, ◌≤◌, List, [], ◌∷◌, ◌++◌, length, drop, replicate, set, sym, ap, ap₂, ◌∙◌, refl, arith, length-append, append_assoc, inl, inr, subst}
use Rattle.std.specs.Prelude.{decimal, false, if◌then◌else◌, ◌==◌}
use Rattle.std.proofs.lemmas.Fmt.{decimal_digit, decimal_step}
use Rattle.std.proofs.lemmas.Bool.{cases_lt, cond-false}
use Rattle.std.proofs.lemmas.List.{replicate-append-replicate, drop-set, drop-replicate}
use Rattle.std.proofs.Math.Dec.{eqb-suc-zero}
use Rattle.std.proofs.Math.Nat.{mod-eq_of_lt, div-eq_of_lt, div-lt_iff_lt-mul, pow-suc}
use Rattle.permutations.specs.Page.{field_of}

-- what stands in the first i columns, where this is left of a number
abbrev pub front : ℕ → ℕ → List ℕ
front i zero = replicate i 32
front i (suc n) = field_of i (suc n)

-- its last column
abbrev pub glyph : ℕ → ℕ
glyph k = if k == 0 then 32 else 48 + k % 10

front_some : (i k : ℕ) → 1 ≤ k → front i k ≡ field_of i k
front_some i zero h = absurd (omega arith)
front_some i (suc k) h = refl

-- the last digit shows; those before it as far as any is left
pub last_shown : (i k : ℕ) → k < 2 ^ 64 → field_of (i + 1) k ≡ front i (k / 10) ++ ((48 + k % 10) ∷ [])
last_shown i k h =
    let text : List ℕ → List ℕ = λ ds. replicate (i + 1 - length ds) 32 ++ ds in
    let goal : Type 0 = field_of (i + 1) k ≡ front i (k / 10) ++ ((48 + k % 10) ∷ []) in
    let one : k < 10 → goal =
    λ small.
    let columns : i + 1 - 1 ≡ i = omega arith in
    ap text (decimal_digit k small)
    ∙ ap (λ n. replicate n 32 ++ ((48 + k) ∷ [])) columns
    ∙ ap₂ (λ q r. front i q ++ ((48 + r) ∷ [])) (sym (div-eq_of_lt small)) (sym (mod-eq_of_lt small)) in
    let more : 10 ≤ k → goal =
    λ great.
    let q : ℕ = k / 10 in
    let d : List ℕ = (48 + k % 10) ∷ [] in
    let some : 1 ≤ q = omega arith in
    let long : length (decimal q ++ d) ≡ length (decimal q) + 1 = length-append (decimal q) d in
    let columns : i + 1 - length (decimal q ++ d) ≡ i - length (decimal q) = omega (arith, long) in
    ap text (decimal_step k great h)
    ∙ ap (λ n. replicate n 32 ++ (decimal q ++ d)) columns
    ∙ sym (append_assoc (replicate (i - length (decimal q)) 32) (decimal q) d)
    ∙ ap (λ t. t ++ d) (sym (front_some i q some)) in
    elim (cases_lt k 10) [ inl small ↦ one small | inr great ↦ more great ]

front_next : (i k : ℕ) → k < 2 ^ 64 → front (i + 1) k ≡ front i (k / 10) ++ (glyph k ∷ [])
front_next i zero h = sym (replicate-append-replicate i 1 32)
front_next i (suc k) h =
    let shows : (suc k == 0) ≡ false = eqb-suc-zero k in
    last_shown i (suc k) h ∙ ap (λ g. front i (suc k / 10) ++ (g ∷ [])) (sym (cond-false (suc k == 0) 32 (48 + suc k % 10) shows))

-- one column more is written, from the end
pub column_more : (n number i rest d : ℕ) (text : List ℕ) → 0 < i → i ≤ length text → rest < 2 ^ 64 → d ≡ glyph rest
    → field_of n number ≡ front i rest ++ drop i text → field_of n number ≡ front (i - 1) (rest / 10) ++ drop (i - 1) (set text (i - 1) d)
column_more n number i rest d text some most small is so_far =
    let e : i - 1 + 1 ≡ i = omega arith in
    let rest_of : List ℕ = drop i text in
    so_far
    ∙ ap (λ m. front m rest ++ rest_of) (sym e)
    ∙ ap (λ t. t ++ rest_of) (front_next (i - 1) rest small)
    ∙ append_assoc (front (i - 1) (rest / 10)) (glyph rest ∷ []) rest_of
    ∙ ap₂ (λ g m. front (i - 1) (rest / 10) ++ (g ∷ drop m text)) (sym is) (sym e)
    ∙ ap (λ t. front (i - 1) (rest / 10) ++ t) (sym (drop-set text (i - 1) d (omega arith)))

-- before that the last column is there
pub column_last : (n number d : ℕ) → 1 ≤ n → number < 2 ^ 64 → d ≡ 48 + number % 10 → field_of n number ≡ front (n - 1) (number / 10) ++ drop (n - 1) (replicate n d)
column_last n number d some small is =
    let e : n - 1 + 1 ≡ n = omega arith in
    let one : n - (n - 1) ≡ 1 = omega arith in
    ap (λ m. field_of m number) (sym e)
    ∙ last_shown (n - 1) number small
    ∙ ap (λ x. front (n - 1) (number / 10) ++ (x ∷ [])) (sym is)
    ∙ ap (λ t. front (n - 1) (number / 10) ++ t) (sym (drop-replicate (n - 1) n d ∙ ap (λ m. replicate m d) one))

-- no column is left, and nothing of the number
pub column_none : (n number rest : ℕ) (text : List ℕ) → rest < 1 → field_of n number ≡ front 0 rest ++ drop 0 text → field_of n number ≡ text
column_none n number zero text h is = is
column_none n number (suc rest) text h is = absurd (omega arith)

-- a column less is enough for a digit less
pub tenth_lt : (n k : ℕ) → 0 < n → k < 10 ^ n → k / 10 < 10 ^ (n - 1)
tenth_lt zero k some h = absurd (omega arith)
tenth_lt (suc n) k some h =
    let e : suc n - 1 ≡ n = omega arith in
    let ten : 0 < 10 = omega arith in
    subst (λ m. k / 10 < 10 ^ m) (sym e) ((div-lt_iff_lt-mul ten).1 (subst (λ z. k < z) (pow-suc 10 n) h))
