use Rattle.std.proofs.Common.{◌≡◌, ◌-◌, ◌*◌, length}
use Rattle.std.specs.Slice.Iter.{chunks_rest, chunks_size}
use Rattle.spoc.specs.Feed.{run}
use Rattle.spoc.specs.Turns.{opened_masks}
use Rattle.spoc.proofs.mode.Duplex.open_over.Given as goal

abbrev pub invariant-loop-i : goal.invariant-loop-i
invariant-loop-i g l =
    let p = g.S.Bijection.meaning in
    let q = g.S.SuiteModel.plan in
    let s = l.self.state in
    let s0 = l.initial.self.state in
    let rest = chunks_rest l.i-iterator.iter in
    (goal.iterator-loop-i g).can_next l.i-iterator
    × (goal.iterator-loop-i g).is_finite l.i-iterator
    × (chunks_size l.i-iterator.iter ≡ q.rate)
    × (length rest ≡ length l.ciphertext - l.i-iterator.count * q.rate)
    × (run p s (opened_masks p q s rest) ≡ run p s0 (opened_masks p q s0 l.ciphertext))
