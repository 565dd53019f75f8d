-- A seat between two atomic steps of a call. Own.
use Rattle.std.specs.Prelude.{◌≡◌, ℕ, ◌<◌, ◌≤◌, true, List, [], ◌∷◌, ◌++◌, length, All, vec_capacity}
use Rattle.group_gate.specs.declared.gate.GroupGate.{GroupGate}
use Rattle.group_gate.specs.declared.view.Asked.{Asked}
use Rattle.group_gate.specs.declared.view.Core.{Core}
use Rattle.group_gate.specs.declared.view.Done.{Done}
use Rattle.group_gate.specs.declared.view.Held.{Held}
use Rattle.group_gate.specs.declared.view.Held.TheVariants.{Nothing}
use Rattle.group_gate.specs.declared.view.Turn.{Turn}
use Rattle.group_gate.specs.declared.view.Turn.TheVariants.{Idle, Leads, Owes, Shut}
use Rattle.group_gate.specs.History.{asks_in}
use Rattle.group_gate.specs.Gates.{SeatOf, gate_id}

module _ {S A R : Type 0} where
  -- the slots of these places, emptied, of which the last was taken last, on top of the others
  abbrev pub stacked : List ℕ → List (ℕ × Held S A R) → List (ℕ × Held S A R)
  stacked [] below = below
  stacked (p ∷ ps) below = stacked ps ((p, Nothing) ∷ below)

  -- the slot of the machine, emptied
  abbrev pub bottom : List (ℕ × Held S A R)
  bottom = (0, Nothing) ∷ []

  -- the seat has the turn, by this word, and knows this value
  abbrev pub IsHolder : ℕ → S → Turn S A R → Type 0
  IsHolder at x Idle = ⊥
  IsHolder at x (Leads b y cs) = (b ≡ at) × (y ≡ x)
  IsHolder at x (Owes b y ds) = (b ≡ at) × (y ≡ x)
  IsHolder at x Shut = ⊥

  -- the last of the answers that the seat owes is this one, at this place
  abbrev pub OwesLast : ℕ → R → Turn S A R → Type 0
  OwesLast place answer t = (at : ℕ) × (y : S) × (ds : List (Done A R)) × (d : Done A R) × (t ≡ Owes at y (ds ++ d ∷ [])) × (d.place ≡ place) × (d.answer ≡ answer)

  -- there is room for what stands at each place
  abbrev pub HasRoom : ℕ → Core S A R → Type 0
  HasRoom places c = (places ≤ vec_capacity c.asks) × (places ≤ vec_capacity c.answers) × (places ≤ vec_capacity c.places)

module _ {A : Type 0} where
  -- the places of these asks
  abbrev pub places_of : List (Asked A) → List ℕ
  places_of [] = []
  places_of (c ∷ cs) = c.place ∷ places_of cs

module _ {A R : Type 0} where
  -- the places at which these are owed
  abbrev pub places_owed : List (Done A R) → List ℕ
  places_owed [] = []
  places_owed (d ∷ ds) = d.place ∷ places_owed ds

  -- the answers alone
  abbrev pub answers_in : List (Done A R) → List R
  answers_in [] = []
  answers_in (d ∷ ds) = d.answer ∷ answers_in ds

module _ {S A R : Type 0} where
  -- the places of a gate
  abbrev pub Inside : GroupGate S A R → ℕ → Type 0
  Inside gate p = (0 < p) × (p ≤ gate.places)

  -- the seat has the turn, by this word, and has taken these asks; the machine is as it was found
  pub record Gathers (takes : A → Type 0) (gate : GroupGate S A R) (at : ℕ) (seat : SeatOf S A R) (core : Core S A R) : Type 0 where
    pub asked : List (Asked A)
    pub table : seat.table_id ≡ gate_id gate
    pub live : seat.me.0.live ≡ true
    pub turn : seat.me.0.turn ≡ Leads at core.machine asked
    pub slots : seat.me.1 ≡ stacked (places_of asked) bottom
    pub asks : core.asks.items ≡ asks_in asked
    pub taken : All takes core.asks.items
    pub answers : core.answers.items ≡ []
    pub places : core.places.items ≡ places_of asked
    pub inside : All (Inside gate) core.places.items
    pub room : HasRoom gate.places core
    pub few : length core.asks.items ≤ gate.places

  -- the step is in the history, and these answers are owed
  pub record Settles (gate : GroupGate S A R) (at : ℕ) (seat : SeatOf S A R) (core : Core S A R) : Type 0 where
    pub owed : List (Done A R)
    pub table : seat.table_id ≡ gate_id gate
    pub live : seat.me.0.live ≡ true
    pub turn : seat.me.0.turn ≡ Owes at core.machine owed
    pub slots : seat.me.1 ≡ stacked (places_owed owed) bottom
    pub asks : core.asks.items ≡ []
    pub answers : core.answers.items ≡ answers_in owed
    pub places : core.places.items ≡ places_owed owed
    pub inside : All (Inside gate) core.places.items
    pub room : HasRoom gate.places core
