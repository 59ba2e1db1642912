-- What is left to show of `fire_counted`.
use Rattle.std.proofs.Common.{refl, ◌∙◌}
use Rattle.refusal.specs.declared.Part.TheVariants.{Bench as the_bench}
use Rattle.bench.proofs.Waving.{fired_fires, fired_ok, movable_passes}
use Rattle.bench.proofs.firings.fire_counted.Goals as goal

pub unwrap-requires : goal.unwrap-requires
unwrap-requires g c =
    let s = g.B.Board.shape c.args.board.now in
    let xs = c.args.heights.now in
    fired_ok s xs c.fire_near.new.heights c.args.v the_bench c.fire_near.result (movable_passes s xs c.args.counts.now c.args.v c.requires.fit c.requires.on c.requires.can) c.fire_near.ensures

pub returns : goal.returns
returns g c =
    let s = g.B.Board.shape c.args.board.now in
    let xs = c.args.heights.now in
    record {
      fires = fired_fires s xs c.fire_near.new.heights c.args.v the_bench c.fire_near.result (movable_passes s xs c.args.counts.now c.args.v c.requires.fit c.requires.on c.requires.can) c.fire_near.ensures;
      counts = refl;
      drains = c.from.ensures ∙ c.drain.ensures;
    }
