-- What is left to show of `next`.
use Rattle.std.proofs.Common.{sym}
use Rattle.layer.specs.Merges.{joined_m}
use Rattle.layer.specs.Uplifts.{none_up, least_down}
use Rattle.layer.specs.Merged.{seen}
use Rattle.layer.proofs.merge.MergeBoard.next.Goals as goal

pub returns-in_err-u : goal.returns-in_err-u
returns-in_err-u g c =
    let x = g.B.Board.shape c.args.self.now.below in
    let p = c.in-Some.pair in
    let same = seen x c.args.self.now.pair p c.in-Some.ensures.is c.args.v _ c.lifted.ensures in
    rw c.from_residual.ensures (none_up p.a (joined_m p.a p.b x _) _ same c.args.j _ c.lifted-2.ensures c.in_err-u.ensures)

pub returns : goal.returns
returns g c =
    let x = g.B.Board.shape c.args.self.now.below in
    let p = c.in-Some.pair in
    let same = seen x c.args.self.now.pair p c.in-Some.ensures.is c.args.v _ c.lifted.ensures in
    least_down p.a (joined_m p.a p.b x _) _ same c.args.j _ _ _ c.lifted-2.ensures c.in_ok-u.ensures (sym c.lowered.ensures)
