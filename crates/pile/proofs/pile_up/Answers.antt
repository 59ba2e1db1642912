-- What is left to show of `pile_up`.
use Rattle.layer.specs.Earths.{earth_of}
use Rattle.layer.specs.Merges.{merge_of}
use Rattle.layer.specs.Cuts.{cut_of}
use Rattle.pile.proofs.Fresh.{third}
use Rattle.pile.proofs.pile_up.Goals as goal

pub returns : goal.returns
returns g c =
    let earth = c.in_ok-earth.earth in
    let merge = c.in_ok-merge.merge in
    let he = c.in_ok-earth.ensures in
    let hm = c.in_ok-merge.ensures in
    third (g.B.Board.shape c.args.board) (merge_of (earth_of (g.B.Board.shape merge.below.below) merge.below.site) merge.pair)
    (earth_of (g.B.Board.shape earth.below) earth.site) c.args.plan.site c.args.plan.pair c.args.plan.link c.from.result
    (λ e. cut_of (merge_of (earth_of (g.B.Board.shape e.below.below.below) e.below.below.site) e.below.pair) e.entries.items)
    c.with_cut.result c.from.ensures he.1 hm.1 he.0 hm.0 c.with_cut.ensures
