-- What is left to show of `links_left`.
use Rattle.std.proofs.Common.{◌≤◌, rules, sum_by}
use Rattle.std.proofs.iter.runs.Made.{chains}
use Rattle.board.specs.declared.link.Link.{Link}
use Rattle.board.specs.Links.{between}
use Rattle.layer.specs.Cutting.{taken_m_low}
use Rattle.layer.proofs.cut.Cut.links_left.Goals as goal

pub sum-taken-requires-clause-fits : goal.sum-taken-requires-clause-fits
sum-taken-requires-clause-fits g c =
    let low : sum_by (λ (l : Link). between l c.args.u c.args.v) c.deref.result.now ≤ 16000000
    = rw c.deref.ensures.0 (taken_m_low c.args.self.now.entries.items c.args.u c.args.v (rw (← c.deref.ensures.0) c.deref.ensures.1) c.args.self.now.low) in
    search (rules, chains)
