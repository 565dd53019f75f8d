-- What marks say about an actor: whether it is active, and its open turns; and what the marks of one step are. Own.
use Rattle.std.specs.Prelude.{◌≡◌, ◌⊎◌, ℕ, Bool, true, false, if◌then◌else◌, List, [], ◌∷◌, ◌++◌, Option, None, Some}
use Rattle.actor_names.specs.declared.actor_key.ActorKey.{ActorKey}
use Rattle.turn_core.specs.declared.cell.Turn.{Turn}
use Rattle.turn_core.specs.Cell.{without_turn}
use Rattle.turn_core.specs.CellMarks.{TurnMark, Began, Ended}
use Rattle.turn_core.specs.CellSound.{In}
use Rattle.part_model.specs.declared.event.PartEvent.{PartEvent}
use Rattle.part_model.specs.declared.event.PartEvent.TheVariants as events
use Rattle.part_model.specs.declared.actor_cell.ActorCell.{ActorCell}
use Rattle.actor_names.specs.Same.{same_key}
use Rattle.part_model.specs.Settings.{settings_of}
use Rattle.part_model.specs.Cells.{cell_at}
use Rattle.part_model.specs.Marks.{PartMark, TurnBegan, TurnEnded, BecameActive, BecameInactive, PartOpened}
use Rattle.part_model.specs.Part.{PartState}

pub record Activity : Type 0 where
  pub active : Bool
  pub turns : List Turn

abbrev pub no_activity : Activity
no_activity = record { active = false; turns = [] }

abbrev pub activity_in : ActorCell → Activity
activity_in c = record { active = c.active; turns = c.inner.turns }

-- the activity that an actor's cell shows, if it has one
abbrev pub activity_of : Option ActorCell → Activity
activity_of None = no_activity
activity_of (Some c) = activity_in c

-- the activity after a mark of the actor itself
abbrev pub after_mark : PartMark → Activity → Activity
after_mark (TurnBegan key call chain) a = record { active = a.active; turns = a.turns ++ record { call = call; chain = chain } ∷ [] }
after_mark (TurnEnded key call) a = record { active = a.active; turns = without_turn call a.turns }
after_mark (BecameActive key version) a = record { active = true; turns = a.turns }
after_mark (BecameInactive key) a = record { active = false; turns = a.turns }
after_mark (PartOpened number version) a = a

abbrev pub is_mark_of : PartMark → ActorKey → Bool
is_mark_of (TurnBegan key call chain) k = same_key k key
is_mark_of (TurnEnded key call) k = same_key k key
is_mark_of (BecameActive key version) k = same_key k key
is_mark_of (BecameInactive key) k = same_key k key
is_mark_of (PartOpened number version) k = false

-- the actor's activity after these marks
abbrev pub replay : List PartMark → ActorKey → Activity → Activity
replay [] k a = a
replay (m ∷ ms) k a = replay ms k (if is_mark_of m k then after_mark m a else a)

-- the actor's turns that begin and end in these marks
abbrev pub turn_marks : ActorKey → List PartMark → List TurnMark
turn_marks k [] = []
turn_marks k (TurnBegan key call chain ∷ ms) = if same_key k key then Began call chain ∷ turn_marks k ms else turn_marks k ms
turn_marks k (TurnEnded key call ∷ ms) = if same_key k key then Ended call ∷ turn_marks k ms else turn_marks k ms
turn_marks k (BecameActive key version ∷ ms) = turn_marks k ms
turn_marks k (BecameInactive key ∷ ms) = turn_marks k ms
turn_marks k (PartOpened number version ∷ ms) = turn_marks k ms

-- ---- the marks of one step

abbrev pub is_inactive_of : PartMark → ActorKey → Bool
is_inactive_of (BecameInactive key) k = same_key k key
is_inactive_of _ k = false

-- no mark of the actor follows the beginning of its turn, and it doesn't become inactive after it became active
abbrev pub IsLastWord : PartMark → List PartMark → Type 0
IsLastWord (TurnBegan key call chain) ms = (m : PartMark) → In m ms → is_mark_of m key ≡ true → ⊥
IsLastWord (BecameActive key version) ms = (m : PartMark) → In m ms → is_inactive_of m key ≡ true → ⊥
IsLastWord (TurnEnded key call) ms = Unit {0}
IsLastWord (BecameInactive key) ms = Unit {0}
IsLastWord (PartOpened number version) ms = Unit {0}

abbrev pub AreTidy : List PartMark → Type 0
AreTidy [] = Unit {0}
AreTidy (m ∷ ms) = IsLastWord m ms × AreTidy ms

-- actors become active at this version, and no part opens
abbrev pub IsAtVersion : ℕ → PartMark → Type 0
IsAtVersion v (BecameActive key version) = version ≡ v
IsAtVersion v (PartOpened number version) = ⊥
IsAtVersion v _ = Unit {0}

abbrev pub AreAt : ℕ → List PartMark → Type 0
AreAt v [] = Unit {0}
AreAt v (m ∷ ms) = IsAtVersion v m × AreAt v ms

-- no actor becomes inactive
abbrev pub AreCalm : List PartMark → Type 0
AreCalm ms = (m : PartMark) (k : ActorKey) → In m ms → is_inactive_of m k ≡ true → ⊥

-- the event is an Ask or AskAt of the actor
abbrev pub IsAsked : PartEvent → ActorKey → Type 0
IsAsked (events.Ask key chain now) k = key ≡ k
IsAsked (events.AskAt key chain least now) k = key ≡ k
IsAsked _ k = ⊥

-- the actor had a cell, or is asked
abbrev pub IsFrom : PartEvent → PartState → ActorKey → Type 0
IsFrom e p k = ((c : ActorCell) × In c p.cells × (c.key ≡ k)) ⊎ IsAsked e k

-- where a cell comes from, and its depth
abbrev pub IsFromCell : PartEvent → PartState → ActorCell → Type 0
IsFromCell e p x =
    ((c : ActorCell) × In c p.cells × (c.key ≡ x.key) × (c.inner.depth ≡ x.inner.depth)) ⊎ (IsAsked e x.key × ((settings_of p.kinds x.key.kind).depth ≡ x.inner.depth))

-- The marks of a step from p to q say what its cells became. A step that opens the part says so first.
pub record Replays (e : PartEvent) (p q : PartState) (marks : List PartMark) : Type 0 where
  pub activity : (k : ActorKey) → activity_of (cell_at q.cells k) ≡ replay marks k (activity_of (cell_at p.cells k))
  pub cells : (c : ActorCell) → In c q.cells → IsFromCell e p c
  pub marked : (m : PartMark) (k : ActorKey) → In m marks → is_mark_of m k ≡ true → IsFrom e p k
  pub tidy : AreTidy marks
  pub at : (AreAt q.opened marks × (q.opened ≡ p.opened)) ⊎ ((rest : List PartMark) × (marks ≡ PartOpened p.number q.opened ∷ rest) × AreAt q.opened rest × AreCalm rest)
