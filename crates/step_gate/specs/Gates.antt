-- What the contracts of a gate say: which seats belong to it, and what a call did to a seat. Own.
use Rattle.std.specs.Prelude.{◌≡◌, ℕ, ◌^◌, ◌≤◌, true, List, [], ◌∷◌, ◌++◌, length, Some}
use mathlib.Core.List.{IsPrefix}
use Rattle.atomic_table.specs.Seated.{TableId}
use Rattle.atomic_table.specs.declared.shared.Seat.{Seat}
use Rattle.step_gate.specs.declared.gate.Gate.{Gate}
use Rattle.step_gate.specs.declared.view.HistoryEntry.{HistoryEntry}
use Rattle.step_gate.specs.declared.view.Made.{Made}
use Rattle.step_gate.specs.declared.view.View.{View}
use Rattle.step_gate.specs.declared.view.Turn.TheVariants.{Idle}
use Rattle.step_gate.specs.History.{LegalHistory, entry, made, made_by}

-- the seats of a gate of machine S, with events E and replies R
abbrev pub SeatOf : Type 0 → Type 0 → Type 0 → Type 0
SeatOf S E R = Seat S (View S E R)

module _ {S E R : Type 0} where
  -- which gate it is
  abbrev pub gate_id : Gate S E R → TableId
  gate_id g = g.table.shared.table_id

  -- the value that the machine had when the gate was made
  abbrev pub opening_of : Gate S E R → S
  opening_of g = g.table.shared.key.value

  -- the history that the seat has seen
  abbrev pub seen_of : Seat S (View S E R) → List (HistoryEntry E R)
  seen_of s = s.me.0.seen

  -- the entries of it that the seat made, with their places
  abbrev pub mine_of : Seat S (View S E R) → List (Made E R)
  mine_of s = s.me.0.mine

  -- the number by which entries name the seat
  abbrev pub number_of : Seat S (View S E R) → ℕ
  number_of s = s.me.0.number

  -- A seat of the gate, which is idle. What it has seen is a legal history from the gate's opening value, and its own
  -- entries are those of it that name the seat.
  pub record IsSeatOf (moves : S → E → R → S → Type 0) (gate : Gate S E R) (seat : Seat S (View S E R)) : Type 0 where
    pub table : seat.table_id ≡ gate_id gate
    pub empty : seat.me.1 ≡ []
    pub live : seat.me.0.live ≡ true
    pub from : seat.me.0.opening ≡ Some (opening_of gate)
    pub named : seat.me.0.named ≡ true
    pub idle : seat.me.0.turn ≡ Idle
    pub legal : LegalHistory moves (opening_of gate) (seen_of seat)
    pub own : made_by (number_of seat) (seen_of seat) ≡ mine_of seat

  -- these entries were added to the seat's own, in this order
  pub record Grows (es : List (Made E R)) (before after : Seat S (View S E R)) : Type 0 where
    pub mine : mine_of after ≡ mine_of before ++ es
    pub seen : IsPrefix (seen_of before) (seen_of after)
    pub number : number_of after ≡ number_of before

  -- the seat made no entry
  pub record KeepsMine (before after : Seat S (View S E R)) : Type 0 where
    pub mine : mine_of after ≡ mine_of before
    pub seen : IsPrefix (seen_of before) (seen_of after)
    pub number : number_of after ≡ number_of before

  -- the seat has seen the history to its end, where its one new entry was added
  pub record Adds (event : E) (reply : R) (before after : Seat S (View S E R)) : Type 0 where
    pub between : List (HistoryEntry E R)
    pub seen : seen_of after ≡ (seen_of before ++ between) ++ entry (number_of before) event reply ∷ []
    pub mine : mine_of after ≡ mine_of before ++ made (length (seen_of before ++ between)) (entry (number_of before) event reply) ∷ []
    pub small : length (seen_of after) ≤ 2 ^ 62
    pub number : number_of after ≡ number_of before

  -- the seat has seen the whole history, which can take no more, and has no new entry
  pub record SeesLast (before after : Seat S (View S E R)) : Type 0 where
    pub seen : IsPrefix (seen_of before) (seen_of after)
    pub full : length (seen_of after) ≡ 2 ^ 62
    pub mine : mine_of after ≡ mine_of before
    pub number : number_of after ≡ number_of before
