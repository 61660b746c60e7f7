use Rattle.std.proofs.Common.{◌<◌, rules, arith, length, refl, sym, subst}
use Rattle.std.proofs.lemmas.Result.{err_from_is_err_and}
use Rattle.std.specs.Io.KnownBytes.{Appends}
use Rattle.std.proofs.KnownBytes.{Appends-nil, Appends-trans}
use Rattle.streams.specs.Fronts.{AppendsFront}
use Rattle.streams.proofs.Known.{fronts_more}
use Rattle.lister.specs.Printed.{sheet_lines}
use Rattle.lister.proofs.Lines.{lines_none, lines_more, lines_split}
use Rattle.lister.proofs.Passing.{line_is, never_refused}
use Rattle.lister.proofs.listing.list_sheets.Goals as goal

pub loop-i-init : goal.loop-i-init
loop-i-init g c = (search rules, λ xs h. subst (Appends _ _) (sym (lines_none 0)) (Appends-nil _))

pub loop-i-preserved : goal.loop-i-preserved
loop-i-preserved g c = (
  search rules,
  λ xs h.
      let i = c.loop-i.i in
      let within : i < length xs = omega (arith, h.counts, c.count-i-end.ensures) in
      let line = line_is _ _ _ _ xs _ h within c.loop-i.invariant.0 c.in_ok-head.ensures.answer in
      subst (Appends _ _) (sym (lines_more xs i within)) (Appends-trans _ _ _ _ _ (c.loop-i.invariant.1 xs h) (subst (Appends _ _) line c.in_ok-write_line.ensures)),
)

pub returns-in_err-head : goal.returns-in_err-head
returns-in_err-head g c = λ xs h.
    absurd (never_refused _ _ _ _ xs _ h (omega (arith, h.counts, c.count-i-end.ensures)) c.loop-i.invariant.0 c.in_err-head.ensures.answer)

pub returns-in_err-write_line : goal.returns-in_err-write_line
returns-in_err-write_line g c = λ xs h.
    let i = c.loop-i.i in
    let within : i < length xs = omega (arith, h.counts, c.count-i-end.ensures) in
    let line = line_is _ _ _ _ xs _ h within c.loop-i.invariant.0 c.in_ok-head.ensures.answer in
    let res = err_from_is_err_and c.from_residual-in_err-write_line.result c.from_residual-in_err-write_line.ensures.1 in
    rw (res.1, res.2) (sheet_lines 0 xs, refl, fronts_more _ _ _ _ _ _ _ (lines_split xs i within) (c.loop-i.invariant.1 xs h) (subst (AppendsFront _ _) line c.in_err-write_line.ensures))
