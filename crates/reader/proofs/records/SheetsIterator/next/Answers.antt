use Rattle.std.proofs.Common.{◌≡◌, ap, arith}
use Rattle.cards.specs.Reader.{length_of}
use Rattle.reader.specs.declared.rest.SheetHead.{SheetHead}
use Rattle.reader.proofs.Within.{after_held, held_fits}
use Rattle.reader.proofs.records.SheetsIterator.next.Goals as goal

pub head-requires : goal.head-requires
head-requires c =
    let s = c.args.self.now in
    omega (arith, held_fits s (omega (arith, s.within)))

pub after-self-requires-clause-within : goal.after-self-requires-clause-within
after-self-requires-clause-within c =
    let s = c.args.self.now in
    let l : c.head.result.«length» ≡ length_of s.rest.bytes.now = ap (λ (h : SheetHead). h.«length») c.head.ensures.fields in
    omega (arith, held_fits s (omega (arith, s.within)))

pub invariant_of-self : goal.invariant_of-self
invariant_of-self c =
    let s = c.args.self.now in
    let l : c.head.result.«length» ≡ length_of s.rest.bytes.now = ap (λ (h : SheetHead). h.«length») c.head.ensures.fields in
    let at = after_held s c.after-self.result _ (omega arith) c.after-self.ensures.bytes c.after-self.ensures.number c.after-self.ensures.place in
    record {
      place = at.place_is;
      bytes = at.bytes;
      within = omega (arith, s.within, c.after-self.ensures.number);
    }
