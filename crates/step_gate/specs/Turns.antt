-- A seat between two atomic steps of a call. Own.
use Rattle.std.specs.Prelude.{◌≡◌, ℕ, ◌+◌, ◌%◌, ◌^◌, ◌<◌, [], ◌∷◌}
use Rattle.atomic_table.specs.Seated.{TableId}
use Rattle.atomic_table.specs.declared.shared.Seat.{Seat}
use Rattle.step_gate.specs.declared.view.View.{View}
use Rattle.step_gate.specs.declared.view.Turn.TheVariants.{Has}
use Rattle.step_gate.specs.Kept.{holding}

-- the seat has the turn, with the value that it found, and still knows what it knew
pub record Takes {S E R : Type 0} (id : TableId) (at : ℕ) (before : View S E R) (seat : Seat S (View S E R)) : Type 0 where
  pub found : S
  pub table : seat.table_id ≡ id
  pub slot : seat.me.1 ≡ (0, found) ∷ []
  pub view : seat.me.0 ≡ holding (Has at found) before
  pub odd : at % 2 ≡ 1
  pub small : at < 2 ^ 63 + 2

-- nothing changed
pub record Waits {S E R : Type 0} (before seat : Seat S (View S E R)) : Type 0 where
  pub table : seat.table_id ≡ before.table_id
  pub empty : seat.me.1 ≡ []
  pub view : seat.me.0 ≡ before.me.0
