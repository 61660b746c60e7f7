use Rattle.std.proofs.Common.{◌≤◌, length, arith}
use Rattle.cards.proofs.Claims.{runs_hold}
use Rattle.writer.proofs.Replays.{made_is_run}
use Rattle.writer.proofs.runs.replay.Goals as goal

pub returns-clause-started : goal.returns-clause-started
returns-clause-started g c = λ key number before begun w earlier starts past left stands.
    let made = c.make_calls.ensures in
    let slots = length c.args.answers.now in
    let long : slots ≤ length c.make_calls.new.answers = omega (arith, c.make_calls.auto.answers) in
    made_is_run g.C.Sealer.meaning g.met.C.Sealer.laws key number before begun w earlier starts past left c.args.calls.now slots c.make_calls.result.made c.args.answers.now c.make_calls.new.answers c.make_calls.new.medium c.make_calls.result.closed made.made long (made.same w stands) (made.closed w stands) made.well

pub returns-clause-law : goal.returns-clause-law
returns-clause-law g c = runs_hold g.C.Sealer.meaning g.met.C.Sealer.laws
