use Rattle.std.proofs.Common.{◌≡◌, ℕ, List, ◌++◌, length, drop, ap, ap₂, ◌∙◌, rules}
use Rattle.cards.specs.Plain.{overwrite}
use Rattle.writer.proofs.Putting.{whole, parts_written}
use Rattle.writer.proofs.writer.Writer.put.Goals as goal

pub returns : goal.returns
returns g c =
    let me = c.args.self.now in
    let m = c.args.medium.now in
    let h = c.args.head.now in
    let b = c.args.body.now in
    let text : List ℕ → List ℕ → List ℕ = λ n d. g.C.Sealer.meaning.ciphertext me.key n d b ++ g.C.Sealer.meaning.tag me.key n d b in
    let n = c.record_nonce-nonce.result in
    let d = c.record_data-data.result in
    let o = c.split_at_mut-body_part.result.0.now in
    let t = c.split_at_mut-tag_part.result.0.now in
    let tag_long : length t ≡ g.C.Sealer.meaning.width = c.split_at_mut-tag_part.ensures.front_len ∙ (c.WIDTH.ensures ∙ g.met.C.Sealer.width_is) in
    let w = whole g.C.Sealer.meaning me.key n d b o t (search rules) (search rules) (search rules) c.requires.short c.split_at_mut-body_part.ensures.front_len tag_long in
    let nine : 9 ≡ length c.copy_from_slice.new.self = search rules in
    let body_size : length b ≡ length c.seal.new.out = search rules in
    let tag_size : c.WIDTH.result ≡ length c.seal.new.tag = search rules in
    let behind : c.split_at_mut-tag_part.result.1.now ≡ drop (length c.seal.new.tag) (drop (length c.seal.new.out) (drop (length c.copy_from_slice.new.self) (drop me.place m))) =
    c.split_at_mut-tag_part.ensures.back
    ∙ ap (λ i. drop i c.split_at_mut-body_part.result.1.now) tag_size
    ∙ ap (drop (length c.seal.new.tag)) (c.split_at_mut-body_part.ensures.back ∙ ap (λ i. drop i c.split_at_mut-head_part.result.1.now) body_size)
    ∙ ap (λ (l : List ℕ). drop (length c.seal.new.tag) (drop (length c.seal.new.out) l)) (c.split_at_mut-head_part.ensures.back ∙ ap (λ i. drop i c.split_at_mut-rest.result.1.now) nine ∙ ap (drop (length c.copy_from_slice.new.self)) c.split_at_mut-rest.ensures.back) in
    ap (λ (l : List ℕ). l ++ (c.copy_from_slice.new.self ++ (c.seal.new.out ++ (c.seal.new.tag ++ c.split_at_mut-tag_part.result.1.now)))) c.split_at_mut-rest.ensures.front
    ∙ parts_written me.place m c.copy_from_slice.new.self c.seal.new.out c.seal.new.tag c.split_at_mut-tag_part.result.1.now behind
    ∙ ap (λ (l : List ℕ). overwrite me.place (l ++ (c.seal.new.out ++ c.seal.new.tag)) m) c.copy_from_slice.ensures.after
    ∙ ap₂ (λ (x y : List ℕ). overwrite me.place (h ++ (x ++ y)) m) (c.seal.ensures.out ∙ w.0) (c.seal.ensures.tag ∙ w.1)
    ∙ ap₂ (λ x y. overwrite me.place (h ++ text x y) m) c.record_nonce-nonce.ensures c.record_data-data.ensures
