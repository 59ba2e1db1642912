-- What is left to show of `on_list`.
use Rattle.board.specs.Adding.{shape_of}
use Rattle.layer.specs.Earths.{earth_of}
use Rattle.layer.specs.Merges.{merge_of}
use Rattle.layer.specs.Cuts.{cut_of}
use Rattle.pile.specs.Piles.{row_of_three}
use Rattle.pile.proofs.Fresh.{renamed}
use Rattle.pile.proofs.on_list.Goals as goal

pub returns : goal.returns
returns c =
    renamed (shape_of c.in_ok-row_of_three.field-0) row_of_three c.args.plan.site c.args.plan.pair c.args.plan.link
    (λ e. cut_of (merge_of (earth_of (shape_of e.below.below.below) e.below.below.site) e.below.pair) e.entries.items)
    c.pile_up.result c.in_ok-row_of_three.ensures c.pile_up.ensures
