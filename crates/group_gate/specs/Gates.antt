-- What the contracts of a gate say: which seats belong to it, and what a call did to a seat. Own.
use Rattle.std.specs.Prelude.{◌≡◌, ℕ, ◌^◌, ◌<◌, ◌≤◌, true, List, [], ◌∷◌, ◌++◌, length, Some}
use mathlib.Core.Option as m
use mathlib.Core.List.{IsPrefix}
use lib.ListN.{get_elem?}
use Rattle.atomic_table.specs.Seated.{TableId}
use Rattle.atomic_table.specs.declared.shared.Seat.{Seat}
use Rattle.group_gate.specs.declared.gate.GroupGate.{GroupGate}
use Rattle.group_gate.specs.declared.view.Done.{Done}
use Rattle.group_gate.specs.declared.view.GroupEntry.{GroupEntry}
use Rattle.group_gate.specs.declared.view.Held.{Held}
use Rattle.group_gate.specs.declared.view.Held.TheVariants.{Nothing}
use Rattle.group_gate.specs.declared.view.Sits.{Sits}
use Rattle.group_gate.specs.declared.view.Sits.TheVariants.{Stands, At, Waits}
use Rattle.group_gate.specs.declared.view.Turn.TheVariants.{Idle}
use Rattle.group_gate.specs.declared.view.View.{View}
use Rattle.group_gate.specs.History.{LegalHistory, asked, made_at}

-- the seats of a gate of machine S, with asks A and answers R
abbrev pub SeatOf : Type 0 → Type 0 → Type 0 → Type 0
SeatOf S A R = Seat (Held S A R) (View S A R)

module _ {A R : Type 0} where
  -- what was asked and answered at a seat's place
  abbrev pub made_there : Sits A R → List (Done A R)
  made_there Stands = []
  made_there (At i ds) = ds
  made_there (Waits i ds a since) = ds

module _ {S A R : Type 0} where
  -- which gate it is
  abbrev pub gate_id : GroupGate S A R → TableId
  gate_id g = g.table.shared.table_id

  -- the value that the machine had when the gate was made
  abbrev pub opening_of : GroupGate S A R → S
  opening_of g = g.table.shared.key.value

  -- the history that the seat has seen
  abbrev pub seen_of : SeatOf S A R → List (GroupEntry A R)
  seen_of s = s.me.0.seen

  -- what was asked and answered at the seat's place; the first of it may be others', who had the place before
  abbrev pub mine_of : SeatOf S A R → List (Done A R)
  mine_of s = made_there s.me.0.sits

  -- A seat of the gate that is idle. What it has seen is a legal history from the gate's opening value.
  pub record IsIdle (moves : S → List A → List R → S → Type 0) (gate : GroupGate S A R) (seat : SeatOf S A R) : Type 0 where
    pub table : seat.table_id ≡ gate_id gate
    pub live : seat.me.0.live ≡ true
    pub from : seat.me.0.opening ≡ Some (opening_of gate)
    pub idle : seat.me.0.turn ≡ Idle
    pub legal : LegalHistory moves (opening_of gate) (seen_of seat)

  -- the same, and it has no place
  pub record IsSeatOf (moves : S → List A → List R → S → Type 0) (gate : GroupGate S A R) (seat : SeatOf S A R) : Type 0 where
    pub idle : IsIdle moves gate seat
    pub empty : seat.me.1 ≡ []
    pub stands : seat.me.0.sits ≡ Stands

  -- The same, and it sits at this place. What was asked there is just what the seat's history has in the place's name.
  pub record SitsAt (moves : S → List A → List R → S → Type 0) (gate : GroupGate S A R) (place : ℕ) (seat : SeatOf S A R) : Type 0 where
    pub idle : IsIdle moves gate seat
    pub empty : seat.me.1 ≡ (place, Nothing) ∷ []
    pub sits : seat.me.0.sits ≡ At place (mine_of seat)
    pub own : made_at place (seen_of seat) ≡ mine_of seat
    pub above : 0 < place
    pub below : place ≤ gate.places

  -- The same, and it has asked this at the place since what it had seen was all that it has seen.
  pub record WaitsAt (moves : S → List A → List R → S → Type 0) (gate : GroupGate S A R) (place : ℕ) (ask : A) (seat : SeatOf S A R) : Type 0 where
    pub idle : IsIdle moves gate seat
    pub empty : seat.me.1 ≡ []
    pub sits : seat.me.0.sits ≡ Waits place (mine_of seat) ask (length (seen_of seat))
    pub own : made_at place (seen_of seat) ≡ mine_of seat
    pub above : 0 < place
    pub below : place ≤ gate.places

  -- nothing was asked at the seat's place, and what it had seen is a prefix of what it has seen
  pub record KeepsMine (before after : SeatOf S A R) : Type 0 where
    pub mine : mine_of after ≡ mine_of before
    pub seen : IsPrefix (seen_of before) (seen_of after)

  -- The ask stands in one entry that the seat has now seen and had not seen before, with this answer at the same index.
  -- Of what was asked at the place since the call began it is all.
  pub record AnsweredIn (place : ℕ) (ask : A) (answer : R) (before after : SeatOf S A R) : Type 0 where
    pub done : Done A R
    pub entry : GroupEntry A R
    pub seen : IsPrefix (seen_of before) (seen_of after)
    pub new_entry : length (seen_of before) ≤ done.entry
    pub stands : get_elem? (seen_of after) done.entry ≡ m.some entry
    pub ask_is : get_elem? entry.asks done.index ≡ m.some (asked place ask)
    pub answer_is : get_elem? entry.answers done.index ≡ m.some answer
    pub mine : mine_of after ≡ mine_of before ++ done ∷ []
    pub small : length (seen_of after) ≤ 2 ^ 62

  -- the seat has seen the whole history, which can take no more, and nothing was asked at its place
  pub record SeesLast (before after : SeatOf S A R) : Type 0 where
    pub seen : IsPrefix (seen_of before) (seen_of after)
    pub full : length (seen_of after) ≡ 2 ^ 62
    pub mine : mine_of after ≡ mine_of before
