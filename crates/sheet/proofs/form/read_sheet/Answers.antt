use Rattle.sheet.proofs.Verdicts.{come_end}
use Rattle.sheet.proofs.form.read_sheet.Goals as goal

pub returns : goal.returns
returns c =
    let inv = c.loop-line.invariant in
    record { size = c.in_ok-line-items.ensures.0; fine = come_end c.loop-line.line-iterator c.next.new.self inv.3 inv.2 c.in-None.ensures.steps }
