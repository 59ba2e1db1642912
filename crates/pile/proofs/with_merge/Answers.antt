-- What is left to show of `with_merge`.
use Rattle.std.proofs.Common.{Ok, ap, ◌∙◌}
use Rattle.layer.specs.Merges.{merge_of}
use Rattle.pile.proofs.Fresh.{fresh_merge}
use Rattle.pile.proofs.with_merge.Goals as goal

pub returns : goal.returns
returns g c =
    let start = c.idle-merge.result in
    let same = ap g.B.Board.shape c.idle-merge.ensures.below in
    let h = fresh_merge (g.B.Board.shape start.below) (g.B.Board.shape c.args.board) start.pair c.merge.new.self.pair c.args.a c.args.b (Ok tt)
    same c.idle-merge.ensures.unset c.in_ok-merge.ensures.set in
    (h.0, ap (λ b. merge_of (g.B.Board.shape b) c.merge.new.self.pair) (c.in_ok-merge.ensures.below ∙ c.idle-merge.ensures.below) ∙ h.2)
