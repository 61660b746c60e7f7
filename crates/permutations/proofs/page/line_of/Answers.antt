use Rattle.std.proofs.Common.{◌≡◌, ℕ, ◌+◌, ◌*◌, List, [], ◌∷◌, ◌++◌, length, take, set, refl, sym, ap, ◌∙◌, subst, ◌<◌, arith, rules}
use Rattle.std.proofs.lemmas.List.{take_more_set, take_all, length-set}
use Rattle.permutations.specs.Page.{count_for, field_of, texts}
use Rattle.std.proofs.ByRecursion.{All-set}
use Rattle.permutations.proofs.AsciiParts.{Ascii, ascii_replicate, ascii_put_mid}
use Rattle.permutations.proofs.Lines.{texts_none, sum_none, sum_next, text_more, put_mid_length}
use Rattle.permutations.proofs.page.line_of.Goals as goal

pub loop-j-init : goal.loop-j-init
loop-j-init g c =
    let count = count_for g.P.Bijection.meaning c.args.s c.args.state.now in
    let own : ℕ → ℕ = λ j. count (8 * c.args.k + j) in
    (texts_none (λ j. field_of 4 (own j)), sum_none own, omega arith, refl, ascii_replicate 33 0 (omega arith))

pub loop-j-preserved : goal.loop-j-preserved
loop-j-preserved g c =
    let count = count_for g.P.Bijection.meaning c.args.s c.args.state.now in
    let own : ℕ → ℕ = λ j. count (8 * c.args.k + j) in
    let text : ℕ → List ℕ = λ j. field_of 4 (own j) in
    let l = c.loop-j in
    let written = c.copy_from_slice.ensures.after in
    let wide : length c.right_aligned.result ≡ 4 = search rules in (
      text_more text 4 l.j _ l.text c.copy_from_slice.new.self (ap length written ∙ wide) (omega (arith, c.loop-j-test.true, l.invariant.3))
          l.invariant.0 (written ∙ c.right_aligned.ensures.value ∙ ap (field_of 4) c.count_for-count.ensures.value),
      omega (arith, l.invariant.1, c.count_for-count.ensures.value, sum_next own l.j),
      omega (arith, l.invariant.2, c.count_for-count.ensures.bound),
      put_mid_length (4 * l.j) _ l.text c.copy_from_slice.new.self (omega (arith, c.loop-j-test.true, l.invariant.3)) (ap length written ∙ wide ∙ omega arith) ∙ l.invariant.3,
      ascii_put_mid (4 * l.j) _ l.text c.copy_from_slice.new.self l.invariant.4 (subst Ascii (sym written) c.right_aligned.ensures.ascii),
    )

pub returns-clause-text : goal.returns-clause-text
returns-clause-text g c =
    let count = count_for g.P.Bijection.meaning c.args.s c.args.state.now in
    let own : ℕ → ℕ = λ j. count (8 * c.args.k + j) in
    let l = c.loop-j in
    let done : l.j ≡ 8 = omega (arith, c.loop-j-test.false, l.auto.j-end) in
    let size = l.invariant.3 in
    let long : length (set l.text 32 10) ≡ 33 = length-set l.text 32 10 ∙ size in
    sym (take_all 33 (set l.text 32 10) (omega (arith, long)))
    ∙ take_more_set l.text 32 10 (omega (arith, size))
    ∙ ap (λ t. t ++ (10 ∷ [])) (ap (λ n. take (4 * n) l.text) (sym done) ∙ l.invariant.0 ∙ ap (texts (λ j. field_of 4 (own j))) done)

pub returns-clause-ascii : goal.returns-clause-ascii
returns-clause-ascii g c = All-set (λ b. b < 128) c.loop-j.text 32 10 (omega arith) c.loop-j.invariant.4
