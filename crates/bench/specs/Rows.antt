-- The rows of each call are those of its checks, in the order of the table.
use Rattle.std.specs.Prelude.{◌≡◌, ℕ, List}
use Rattle.refusal.specs.Table.{InOrder, rows}
use Rattle.board.specs.Shape.{Shape}
use Rattle.bench.specs.declared.GrainDrop.{GrainDrop}
use Rattle.bench.specs.declared.rows.CallRows.{CallRows}
use Rattle.bench.specs.States.{State}
use Rattle.bench.specs.Checks.{create_checks, resume_checks, drop_checks, fire_checks, run_checks, wave_checks, close_checks, shelve_checks}

pub record RowsAre (r : CallRows) : Type 0 where
  pub create : (s : Shape) (start counts opened : List ℕ) (slots bytes ceiling : ℕ) → (r.create ≡ rows (create_checks s start counts opened slots bytes ceiling)) × InOrder (create_checks s start counts opened slots bytes ceiling)
  pub resume : (s : Shape) (x : State) → (r.resume ≡ rows (resume_checks s x)) × InOrder (resume_checks s x)
  pub dropping : (s : Shape) (x : State) (d : GrainDrop) → (r.«drop» ≡ rows (drop_checks s x d)) × InOrder (drop_checks s x d)
  pub fire : (s : Shape) (x : State) (v : ℕ) → (r.fire ≡ rows (fire_checks s x v)) × InOrder (fire_checks s x v)
  pub run : (s : Shape) (x : State) (slots bytes budget : ℕ) → (r.run ≡ rows (run_checks s x slots bytes budget)) × InOrder (run_checks s x slots bytes budget)
  pub wave : (s : Shape) (x : State) (bytes : ℕ) → (r.wave ≡ rows (wave_checks s x bytes)) × InOrder (wave_checks s x bytes)
  pub close : (s : Shape) (x : State) (t room held : ℕ) → (r.close ≡ rows (close_checks s x t room held)) × InOrder (close_checks s x t room held)
  pub shelve : (s : Shape) (x : State) (t : ℕ) → (r.shelve ≡ rows (shelve_checks s x t)) × InOrder (shelve_checks s x t)
