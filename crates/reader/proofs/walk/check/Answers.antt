use Rattle.std.proofs.Common.{◌≡◌, ℕ, suc, ◌≤◌, List, length, Err, Result, sym, ap, ◌∙◌, arith, rules}
use Rattle.std.proofs.lemmas.Result.{err_from_is_err_and}
use Rattle.sealer.specs.Sealing.{Sealing, Laws}
use Rattle.cards.specs.Faults.{Fault, told, of_card}
use Rattle.cards.specs.Reader.{Card, check_bytes, filled, how_many, place_of}
use Rattle.cards.proofs.Claims.{card_claims}
use Rattle.reader.specs.Cards.{passes}
use Rattle.reader.proofs.Checking.{read_of, refused_at, filled_at}
use Rattle.reader.proofs.Wiping.{wiped_over}
use Rattle.reader.proofs.walk.check.Given as given
use Rattle.reader.proofs.walk.check.Goals as goal

abbrev cipher : given.Over → Sealing
cipher g = g.C.Sealer.meaning

laws : (g : given.Over) → Laws (cipher g)
laws g = g.met.C.Sealer.laws

pub returns-in_err-key-clause-claims : goal.returns-in_err-key-clause-claims
returns-in_err-key-clause-claims g c = card_claims (cipher g) (laws g)

pub returns-in_err-part-clause-claims : goal.returns-in_err-part-clause-claims
returns-in_err-part-clause-claims g c = card_claims (cipher g) (laws g)

-- the count of the walk under the key as it was handed in
counted : (g : given.Over) (k k' bs : List ℕ) (a : Result ℕ Fault) → k' ≡ k → a ≡ how_many 0 (check_bytes (cipher g) k' bs) → a ≡ how_many 0 (check_bytes (cipher g) k bs)
counted g k k' bs a same is = is ∙ ap (λ z. how_many 0 (check_bytes (cipher g) z bs)) same

pub returns-in_err-count : goal.returns-in_err-count
returns-in_err-count g c =
    let k = c.args.key.now in
    let bs = c.args.bytes.now in
    let s = c.args.scratch.now in
    let key = read_of k c.try_from.result c.in_ok-key.key c.try_from.ensures.1 (sym c.ok.ensures.value ∙ c.in_ok-key.ensures.ok_part) in
    let room : 16 ≤ length s = search rules in
    let f = of_card c.in_err-count.field-0.0 in
    let e = refused_at (cipher g) k bs (length s) key.long room f (counted g k c.in_ok-key.key bs (Err f) key.same c.in_err-count.ensures.answer) in
    let res = err_from_is_err_and c.from_residual-in_err-count.result c.from_residual-in_err-count.ensures.1 in
    record {
      answer = ap told (res.1 ∙ ap Err res.2) ∙ ap passes (sym e);
      fills = c.empty.ensures ∙ ap filled (sym e);
      scratch = wiped_over k s _ key.long room c.in_err-count.ensures.zero;
      claims = card_claims (cipher g) (laws g);
    }

same_card : {k k' : List ℕ} {v v' r r' n n' : ℕ} (bs : List ℕ) → k ≡ k' → v ≡ v' → r ≡ r' → n ≡ n' → ◌≡◌ {A = Card} (record { bytes = bs; key = k; version = v; width = r; count = n }) (record { bytes = bs; key = k'; version = v'; width = r'; count = n' })
same_card bs p q r s = cc

pub invariant_of-card : goal.invariant_of-card
invariant_of-card g c =
    let k = c.args.key.now in
    let bs = c.args.bytes.now in
    let s = c.args.scratch.now in
    let key = read_of k c.try_from.result c.in_ok-key.key c.try_from.ensures.1 (sym c.ok.ensures.value ∙ c.in_ok-key.ensures.ok_part) in
    let room : 16 ≤ length s = search rules in
    let x = filled_at (cipher g) k bs (length s) key.long room c.in_ok-count.count (counted g k c.in_ok-key.key bs _ key.same c.in_ok-count.ensures.answer) in
    record {
      runs = λ _. ap (λ r. place_of r bs (suc c.in_ok-count.count)) (c.WIDTH.ensures ∙ g.met.C.Sealer.width_is) ∙ x.runs;
      none = λ none. absurd (omega (arith, x.long));
      small = omega (arith, (c.WIDTH.ensures ∙ g.met.C.Sealer.width_is), g.met.C.Sealer.laws.width_high);
    }

pub returns : goal.returns
returns g c =
    let k = c.args.key.now in
    let bs = c.args.bytes.now in
    let s = c.args.scratch.now in
    let key = read_of k c.try_from.result c.in_ok-key.key c.try_from.ensures.1 (sym c.ok.ensures.value ∙ c.in_ok-key.ensures.ok_part) in
    let room : 16 ≤ length s = search rules in
    let x = filled_at (cipher g) k bs (length s) key.long room c.in_ok-count.count (counted g k c.in_ok-key.key bs _ key.same c.in_ok-count.ensures.answer) in
    record {
      answer = ap passes (sym x.is);
      fills = same_card bs key.same (c.VERSION.ensures ∙ g.met.C.Sealer.version_is) (c.WIDTH.ensures ∙ g.met.C.Sealer.width_is) (sym x.many) ∙ ap filled (sym x.is);
      scratch = wiped_over k s _ key.long room c.in_ok-count.ensures.zero;
      claims = card_claims (cipher g) (laws g);
    }
