-- The turns that a script's lines print as begun, and the marks of those turns. Own: docs/scripts.md.
use Rattle.std.specs.Prelude.{◌≡◌, ℕ, List, [], ◌∷◌, ◌++◌, length, Option, None, Some, Result, Ok}
use Rattle.actor_names.specs.declared.member.Member.{Member}
use Rattle.actor_names.specs.declared.actor_key.ActorKey.{ActorKey}
use Rattle.turn_core.specs.declared.cell.Turn.{Turn}
use Rattle.turn_core.specs.CellSound.{In}
use Rattle.part_model.specs.declared.actor_cell.ActorCell.{ActorCell}
use Rattle.part_model.specs.Marks.{PartMark, TurnBegan}
use Rattle.part_model.specs.Part.{PartState}
use Rattle.world_events.specs.declared.event.WorldEvent.{WorldEvent}
use Rattle.world_events.specs.declared.event.WorldEvent.TheVariants as lines
use Rattle.world_events.specs.declared.outcome.Outcome.{Outcome}
use Rattle.world_events.specs.declared.outcome.Outcome.TheVariants as out
use Rattle.world_events.specs.declared.outcome.TurnOutcome.TheVariants as turn
use Rattle.world_events.specs.declared.error.WorldError.{WorldError}
use Rattle.cluster_model.specs.World.{ClusterState, CallPlace, TraceMark}
use Rattle.cluster_model.specs.Asked.{AskedCall, WasAsked}

-- ---- what the marks say

-- a turn that began: its actor on its member, the number that its part has for the call, and the call's chain
pub record BegunTurn : Type 0 where
  pub member : Member
  pub key : ActorKey
  pub call : ℕ
  pub chain : Option (List ℕ)

abbrev pub begun_by : Member → PartMark → List BegunTurn
begun_by m (TurnBegan key call chain) = record { member = m; key = key; call = call; chain = chain } ∷ []
begun_by m mark = []

-- the turns that begin in these marks, in order
abbrev pub begun_in : List TraceMark → List BegunTurn
begun_in [] = []
begun_in (x ∷ xs) = begun_by x.member x.what ++ begun_in xs

-- ---- what the lines say

abbrev pub listed : Option ℕ → List ℕ
listed None = []
listed (Some n) = n ∷ []

-- the numbers that a printed line has after `begin`
abbrev pub printed_begins : Result Outcome WorldError → List ℕ
printed_begins (Ok (out.Turn (turn.Begun number))) = number ∷ []
printed_begins (Ok (out.Turn (turn.Ended number next))) = listed next
printed_begins (Ok (out.Closed key next)) = listed next
printed_begins printed = []

-- those whose turns the line's event began: a `poll` prints that a turn is open, and begins none
abbrev pub line_begins : WorldEvent → Result Outcome WorldError → List ℕ
line_begins (lines.Poll number) printed = []
line_begins event printed = printed_begins printed

-- ---- both

-- as many numbers as turns, and each number is that of the turn at its place
abbrev pub AreInStep : (ℕ → BegunTurn → Type 0) → List ℕ → List BegunTurn → Type 0
AreInStep IsNumber [] [] = Unit {0}
AreInStep IsNumber [] (t ∷ ts) = ⊥
AreInStep IsNumber (n ∷ ns) [] = ⊥
AreInStep IsNumber (n ∷ ns) (t ∷ ts) = IsNumber n t × AreInStep IsNumber ns ts

-- The turns that an event began are those that its line prints, in order; of a part that opens the line prints how many.
abbrev pub AreTold : (ℕ → BegunTurn → Type 0) → WorldEvent → Result Outcome WorldError → List BegunTurn → Type 0
AreTold IsNumber event (Ok (out.Opened version begun moved)) ts = length ts ≡ begun
AreTold IsNumber event printed ts = AreInStep IsNumber (line_begins event printed) ts

-- A poll that prints that a turn has begun finds it open.
abbrev pub FindsOpen : (ℕ → Type 0) → WorldEvent → Result Outcome WorldError → Type 0
FindsOpen IsOpen (lines.Poll call) (Ok (out.Turn (turn.Begun number))) = IsOpen number
FindsOpen IsOpen event printed = Unit {0}

-- The part of an actor among a number of parts is a parameter of what follows.
module _ (part_of : ActorKey → ℕ → ℕ) (number_of_parts : ℕ) (parts : List PartState) (calls : List (Option CallPlace)) (asked : List AskedCall) where
  -- The script's number of a turn's call: the `call` line of that number made it, at the turn's member and of its actor,
  -- and the part of both took it under the number that the mark has.
  abbrev pub IsNumberAt : ℕ → BegunTurn → Type 0
  IsNumberAt number t = (line : WasAsked part_of number_of_parts parts calls asked t.member t.key t.call t.chain) × (line.number ≡ number)

  -- the turn of this number's call is open in a part
  pub record IsOpenAt (number : ℕ) : Type 0 where
    pub part : PartState
    pub cell : ActorCell
    pub open_turn : Turn
    pub in_parts : In part parts
    pub in_part : In cell part.cells
    pub in_cell : In open_turn cell.inner.turns
    pub numbered : IsNumberAt number (record { member = part.member; key = cell.key; call = open_turn.call; chain = open_turn.chain })

-- An event leads from one world to the next and prints a line. The turns that begin in the marks that it adds are those
-- that the line tells; and if a poll says that a turn has begun, it is open.
pub record BeginsAreTold (part_of : ActorKey → ℕ → ℕ) (w next : ClusterState) (asked : List AskedCall) (event : WorldEvent) (printed : Result Outcome WorldError) : Type 0 where
  pub added : List TraceMark
  pub marks : next.marks ≡ w.marks ++ added
  pub told : AreTold (IsNumberAt part_of next.settings.parts next.parts next.calls asked) event printed (begun_in added)
  pub polled : FindsOpen (IsOpenAt part_of next.settings.parts next.parts next.calls asked) event printed
