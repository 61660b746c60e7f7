use Rattle.std.proofs.Common.{◌∙◌, subst}
use Rattle.streams.specs.Fronts.{Writes}
use Rattle.streams.proofs.Lines.{of_written}
use Rattle.streams.proofs.writing.write_line.Goals as goal

pub returns : goal.returns
returns g c =
    let written = Writes c.write_bytes.result (g.W.Write.contents c.args.out.now) (g.W.Write.contents c.write_bytes.new.out) in
    of_written (g.D.Display.output c.args.line) c.new-text.result c.write.new.self written c.new-text.ensures.intact c.new-text.ensures.text c.in_ok-write.ensures.writes
    (subst written (c.as_bytes.ensures.value ∙ c.as_str.ensures.value) c.write_bytes.ensures)
