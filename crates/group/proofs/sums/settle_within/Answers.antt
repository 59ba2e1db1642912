-- What is left to show of `settle_within`.
use Rattle.std.proofs.Common.{length, arith}
use Rattle.std.proofs.lemmas.List.{get_or-replicate}
use Rattle.firing.specs.Firing.{at}
use Rattle.firing.proofs.Reach.{reach_linked}
use Rattle.group.proofs.Grains.{not_over, is_over}
use Rattle.group.proofs.sums.settle_within.Goals as goal

pub returns-then-outcome : goal.returns-then-outcome
returns-then-outcome g c =
    let b = g.B.Board.shape c.args.board.now in
    let ended = c.in_ok-outcome.ensures.1 in (
      ended.settled (reach_linked b c.requires.reach) c.if-outcome.true,
      not_over b (at c.args.heights.now) (at c.settle.new.heights) c.args.budget c.in_ok-outcome.outcome ended c.requires.reach c.if-outcome.true,
    )

pub returns : goal.returns
returns g c =
    let b = g.B.Board.shape c.args.board.now in
    let ok = g.met.B.Board.sound c.args.board.now in (
      is_over b ok (at c.args.heights.now) (at c.settle.new.heights) c.args.budget c.in_ok-outcome.outcome c.in_ok-outcome.ensures.1 c.requires.reach c.if-outcome.false,
      λ v l. rw (c.fill.ensures.after (λ y e. e)) (get_or-replicate (length c.settle.new.heights) v 0 0 (omega arith)),
      c.refuse.ensures,
    )
