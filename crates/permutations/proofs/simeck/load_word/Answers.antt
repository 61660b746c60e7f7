use Rattle.std.proofs.Common.{◌≡◌, ℕ, ◌-◌, ◌*◌, ◌^◌, ◌≤◌, List, [], ◌∷◌, length, sym, ap, ◌∙◌, arith, length-append, length-take, length-drop}
use Rattle.std.proofs.ByRecursion.{All-from_get_or}
use borrow.Rule.Slice.PartMut.{put_mid}
use Rattle.permutations.specs.Bytes.{load}
use Rattle.permutations.specs.Loading.{pow_bytes}
use Rattle.permutations.specs.Words.{load_4, load_end, load_lt}
use Rattle.permutations.proofs.simeck.load_word.Goals as goal

pub returns : goal.returns
returns g c =
    let w = g.W.Width.BYTES in
    let n = c.BYTES.result in
    let part = c.args.part.now in
    let most : n ≤ 4 = omega (arith, g.W.Width.most) in
    let bytes : List ℕ = put_mid (4 - n) (4 - (4 - n)) (0 ∷ 0 ∷ 0 ∷ 0 ∷ []) c.copy_from_slice.new.self in
    let e : length bytes ≡ 4 = simp (length-append, length-take, length-drop) (omega (arith, c.copy_from_slice.ensures.len, c.requires)) in
    let value : c.from_be_bytes.result ≡ load part =
    c.from_be_bytes.ensures ∙ sym (load_4 bytes e) ∙ load_end n c.copy_from_slice.new.self most ∙ ap load c.copy_from_slice.ensures.after in
    let size : 256 ^ length part ≡ 2 ^ (8 * w) = ap (λ z. 256 ^ z) c.requires ∙ pow_bytes w in
    record { value = value; fits = omega (arith, load_lt part (All-from_get_or _ part 0 (λ j h. (c.type_inv.part j).fits))) }
