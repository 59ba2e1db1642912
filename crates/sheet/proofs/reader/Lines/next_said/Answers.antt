use Rattle.std.proofs.Common.{rules}
use Rattle.sheet.proofs.Verdicts.{next_from}
use Rattle.sheet.proofs.reader.Lines.next_said.Goals as goal

pub returns-clause-said : goal.returns-clause-said
returns-clause-said c =
    next_from c.args.self.now.last c.in-Some.line c.read_line.result c.map.result c.map_err.result _ _ c.in-Some.ensures.taken c.read_line.ensures c.map.ensures.cases c.map_err.ensures.cases (λ x y h. search rules) (λ e f h. search rules)
