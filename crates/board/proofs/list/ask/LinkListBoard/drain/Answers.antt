-- What is left to show of `drain`.
use Rattle.std.proofs.Common.{sym, ◌∙◌, arith, rules, tests}
use Rattle.std.proofs.lemmas.Iterator.{YieldsList-from_slice, YieldsList-from_map}
use Rattle.std.proofs.lemmas.Iterator.Consumers.{YieldsList-at, sum_by_from_yields_List, fits_by_from_yields_list}
use Rattle.board.specs.Links.{to_drain}
use Rattle.board.specs.Walks.{s_le}
use Rattle.board.specs.Tables.{s_of_whole}
use Rattle.board.specs.Listed.{list_sound}
use Rattle.board.proofs.list.ask.LinkListBoard.drain.Goals as goal

pub sum-requires-clause-fits : goal.sum-requires-clause-fits
sum-requires-clause-fits c =
    let xs = c.args.self.now.records.items in
    fits_by_from_yields_list (λ l. to_drain l c.args.v) xs c.map.result _
    (YieldsList-from_map _ (λ l. to_drain l c.args.v) (YieldsList-at c.map.ensures.source (YieldsList-from_slice xs (cc))) c.map.ensures.closure (λ x r q k. search (rules, tests)))
    (omega (arith, s_of_whole xs c.args.v, s_le (list_sound c.args.self.now) c.args.v))

pub returns : goal.returns
returns c =
    let xs = c.args.self.now.records.items in
    sum_by_from_yields_List (λ l. to_drain l c.args.v) xs c.map.result c.sum.result c.sum.ensures.ran
    (YieldsList-from_map _ (λ l. to_drain l c.args.v) (YieldsList-at c.map.ensures.source (YieldsList-from_slice xs (cc))) c.map.ensures.closure (λ x r q k. search (rules, tests)))
    ∙ sym (s_of_whole xs c.args.v)
