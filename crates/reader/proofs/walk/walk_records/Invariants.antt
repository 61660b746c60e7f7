use Rattle.std.proofs.Common.{◌≡◌, ◌-◌, ◌≤◌}
use Rattle.cards.specs.Reader.{how_many, walk}
use Rattle.cards.proofs.Counting.{total}
use Rattle.reader.proofs.walk.walk_records.Given as goal

abbrev pub invariant-loop-body : goal.invariant-loop-body
invariant-loop-body g l =
    (l.rest.number ≤ 512)
    × (total g.C.Sealer.meaning l.key.key.now l.key.header.now l.rest.number l.rest.place l.rest.bytes.now ≡ how_many 0 (walk g.C.Sealer.meaning l.key.key.now l.key.header.now 512 0 13 l.initial.rest.bytes.now))

abbrev pub decreases-loop-body : goal.decreases-loop-body
decreases-loop-body g l = 513 - l.rest.number
