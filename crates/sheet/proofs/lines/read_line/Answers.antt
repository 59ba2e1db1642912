use Rattle.sheet.specs.Reading.{raw, rest_words}
use Rattle.sheet.proofs.Verdicts.{verdict}
use Rattle.sheet.proofs.lines.read_line.Goals as goal

pub returns : goal.returns
returns c =
    verdict c.args.last (raw c.args.line) c.in-Some-apart.kind (rest_words c.in-Some-apart.rest) c.may_follow.result c.said.result c.letter_first.result
    c.in_default.ensures c.in-Some-apart.ensures.0 c.may_follow.ensures c.said.ensures c.letter_first.ensures
