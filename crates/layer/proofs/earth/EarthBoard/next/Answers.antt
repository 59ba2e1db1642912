-- What is left to show of `next`.
use Rattle.std.proofs.Common.{◌≡◌, ℕ, Some, Option, sym, ap, ◌∙◌}
use Rattle.board.specs.Shape.{Shape}
use Rattle.layer.specs.Layers.{up}
use Rattle.layer.specs.Earths.{earth_active, earth_of}
use Rattle.layer.specs.Earthed.{at_m}
use Rattle.layer.specs.Uplifts.{none_up, least_down}
use Rattle.layer.proofs.earth.EarthBoard.next.Goals as goal

-- the links of v, seen from below
seen : (b : Shape) (o : Option ℕ) (w : ℕ) → earth_active b o ≡ Some w → (v v1 : ℕ) → v1 ≡ up w v → (k : ℕ) → (earth_of b o).m v k ≡ b.m v1 (up w k)
seen b o w e v v1 ev k = at_m b o w e v k ∙ ap (λ x. b.m x (up w k)) (sym ev)

pub returns-in_err-u : goal.returns-in_err-u
returns-in_err-u g c =
    let b = g.B.Board.shape c.args.self.now.below in
    let same = seen b c.args.self.now.site c.in-Some.w c.in-Some.ensures.is c.args.v _ c.lifted.ensures in
    rw c.from_residual.ensures (none_up c.in-Some.w (b.m _) _ same c.args.j _ c.lifted-2.ensures c.in_err-u.ensures)

pub returns : goal.returns
returns g c =
    let b = g.B.Board.shape c.args.self.now.below in
    let same = seen b c.args.self.now.site c.in-Some.w c.in-Some.ensures.is c.args.v _ c.lifted.ensures in
    least_down c.in-Some.w (b.m _) _ same c.args.j _ _ _ c.lifted-2.ensures c.in_ok-u.ensures (sym c.lowered.ensures)
