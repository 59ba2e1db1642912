-- All worked results, one list.
use Rattle.std.specs.Prelude.{[], ◌∷◌, Ok, Err}
use Rattle.refusal.specs.declared.Row.TheVariants as row
use Rattle.refusal.specs.declared.Part.TheVariants as part
use Rattle.board.specs.Grids.{grid_of}
use Rattle.firing.specs.Worked.{Worked}
use Rattle.pile.specs.Worked.{MiddleEarthed, EndsMerged}
use Rattle.certificate.specs.Verdicts.{Verdict}

pub record Results : Type 0 where
  -- settling, burning and the identity on grids
  pub grids : Worked
  -- layers on the grid 1×3
  pub middle_earthed : MiddleEarthed
  pub ends_merged : EndsMerged
  -- certificates on the grid 1×2: (4,3), (1,1), (1,0) is accepted; (4,3), (1,0), (0,4) refused by 14 at 1; (3,3), (1,1), (0,0) by 15 at 0
  pub accepted : Verdict (grid_of 1 2) (4 ∷ 3 ∷ []) (1 ∷ 1 ∷ []) (1 ∷ 0 ∷ []) 2 2 (Ok tt)
  pub end_fires : Verdict (grid_of 1 2) (4 ∷ 3 ∷ []) (1 ∷ 0 ∷ []) (0 ∷ 4 ∷ []) 2 2 (Err (record { row = row.EndFires; place = 1; part = part.Certificate }))
  pub taken_back : Verdict (grid_of 1 2) (3 ∷ 3 ∷ []) (1 ∷ 1 ∷ []) (0 ∷ 0 ∷ []) 2 2 (Err (record { row = row.TakenBack; place = 0; part = part.Certificate }))
