use Rattle.std.proofs.Common.{◌≡◌, ◌-◌, ◌*◌, length}
use Rattle.std.specs.Slice.Iter.{chunks_rest, chunks_size}
use Rattle.spoc.specs.Feed.{run, masks}
use Rattle.spoc.specs.Turns.{ended_if}
use Rattle.spoc.proofs.mode.Duplex.absorb_data.Given as goal

abbrev pub invariant-loop-i : goal.invariant-loop-i
invariant-loop-i g l =
    let p = g.S.Bijection.meaning in
    let q = g.S.SuiteModel.plan in
    let rest = chunks_rest l.i-iterator.iter in
    (goal.iterator-loop-i g).can_next l.i-iterator
    × (goal.iterator-loop-i g).is_finite l.i-iterator
    × (chunks_size l.i-iterator.iter ≡ q.rate)
    × (length rest ≡ length l.data - l.i-iterator.count * q.rate)
    × (run p l.self.state (ended_if l.ends q (masks p q 32 rest)) ≡ run p l.initial.self.state (ended_if l.ends q (masks p q 32 l.data)))
