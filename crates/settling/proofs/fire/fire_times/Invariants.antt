-- The loop of `fire_times`: what has been sent, and what falls with each turn.
use Rattle.std.proofs.Common.{◌-◌}
use Rattle.settling.proofs.Spread.{Spread}
use Rattle.settling.proofs.fire.fire_times.Given as goal

abbrev pub invariant-loop-u : goal.invariant-loop-u
invariant-loop-u g l = Spread (g.B.Board.shape l.board) l.v l.times l.j l.initial.heights l.heights

abbrev pub decreases-loop-u : goal.decreases-loop-u
decreases-loop-u g l = (g.B.Board.shape l.board).sites - l.j
