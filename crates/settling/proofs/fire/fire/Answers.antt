-- What is left to show of `fire`.
use Rattle.settling.proofs.Spread.{low_weighed}
use Rattle.settling.proofs.fire.fire.Goals as goal

pub fire_light-requires-clause-low : goal.fire_light-requires-clause-low
fire_light-requires-clause-low g c = λ u near. low_weighed c.args.heights.now 1000000 c.all_grains.result c.is_none.result c.is_none.ensures c.if-is_none.false c.all_grains.ensures u
