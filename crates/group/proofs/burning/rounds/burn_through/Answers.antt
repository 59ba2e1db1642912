-- What is left to show of `burn_through`.
use Rattle.std.proofs.Common.{◌≡◌, ℕ, ◌<◌, ◌≤◌, length, subst, arith}
use Rattle.settling.specs.Searches.{mark}
use Rattle.settling.specs.Reaching.{Says}
use Rattle.firing.specs.Firing.{at}
use Rattle.group.specs.Flames.{Ended, Cleared}
use Rattle.group.proofs.Ends.{cleared_rounds, cleared_says}
use Rattle.group.proofs.burning.rounds.burn_through.Goals as goal

pub returns : goal.returns
returns g c =
    let b = g.B.Board.shape c.args.board.now in
    let ok = g.met.B.Board.sound c.args.board.now in
    let h = at c.args.heights.now in
    let fs = c.spread.new.self.marks.now in
    let xs = c.spread.new.rounds in
    let xs' = c.clear_unburnt.new.rounds in
    let size : length xs ≡ b.sites = omega arith in
    let ended = subst (λ hs. Ended b (at hs) fs xs) c.light.ensures.same c.spread.ensures.ended in
    let cleared = subst (λ n. Cleared n fs xs xs') size c.clear_unburnt.ensures.cleared in
    record {
      rounds = cleared_rounds b ok h fs xs xs' ended cleared;
      all = cleared_says b ok h fs xs xs' ended cleared c.clear_unburnt.result (subst (λ n. Says c.clear_unburnt.result ((u : ℕ) → u < n → 1 ≤ mark fs u)) size c.clear_unburnt.ensures.all);
    }
