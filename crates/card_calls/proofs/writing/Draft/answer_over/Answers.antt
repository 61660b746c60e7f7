use Rattle.std.proofs.Common.{◌≡◌, ℕ, List, replicate, vec_items, string_bytes, ap, ◌∙◌, arith, rules}
use Rattle.std.proofs.lemmas.List.{with_items_is}
use Rattle.std.specs.Vec.{with_items}
use Rattle.card_calls.specs.Writings.{Written, draft_in, write_on, written_text, draft_over}
use Rattle.card_calls.proofs.Writers.{made_same}
use Rattle.card_calls.proofs.writing.Draft.answer_over.Goals as goal

pub returns : goal.returns
unfolding draft_in draft_over
returns g c =
    let S = g.C.Sealer.meaning in
    let d = draft_in c.args.self.now in
    let filled : vec_items c.in_ok-medium.medium ≡ replicate d.size d.fill = search rules in
    let em = c.as_mut_slice.ensures.value ∙ filled in
    let mm = c.write_on.new.medium in
    let lines = string_bytes c.in_ok-lines.lines in
    let e1 = with_items_is c.in_ok-medium.medium mm (omega arith) in
    let is : ◌≡◌ {A = Written} record { lines = lines; medium = vec_items (with_items c.in_ok-medium.medium mm) } (write_on S d (replicate d.size d.fill)) =
    ap (λ (m : List ℕ). record { lines = lines; medium = m }) e1 ∙ c.in_ok-lines.ensures ∙ ap (write_on S d) em in
    made_same c.to_string.result c.to_string.ensures.ok (ap written_text is)
