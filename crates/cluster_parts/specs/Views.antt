-- What contracts see of a cluster's parts, and of a step of one of them. Own.
use Rattle.std.specs.Prelude.{◌≡◌, ◌⊎◌, ℕ, zero, suc, ◌+◌, ◌-◌, ◌^◌, min, Bool, true, false, if◌then◌else◌, List, map, length, set, slice_get, Option, None, Some}
use Rattle.actor_names.specs.declared.member.Member.{Member}
use Rattle.part_model.specs.declared.event.PartEvent.{PartEvent}
use Rattle.part_model.specs.declared.event.PartEvent.TheVariants as events
use Rattle.part_model.specs.Receipts.{PartReply}
use Rattle.part_model.specs.declared.event.Reply.TheVariants as replies
use Rattle.part_model.specs.Marks.{PartMark, begun_calls, ended_calls}
use Rattle.part_model.specs.Part.{PartState, PartStep, part_step, ring_owner}
use Rattle.part_model.specs.Rooms.{PartView}
use Rattle.cluster_parts.specs.declared.tally.Tally.{Tally}

-- The parts of all members, how many a member has, how many members there are, and how many turns have begun and ended.
pub record PartsView : Type 0 where
  pub per : ℕ
  pub boots : ℕ
  pub parts : List PartState
  pub begun : ℕ
  pub ended : ℕ

abbrev pub state_in : PartView → PartState
state_in v = v.state

-- the parts' states
abbrev pub states_of : List PartView → List PartState
states_of vs = map state_in vs

-- whose part it is, if there is one
abbrev pub member_in : Option PartState → Option Member
member_in None = None
member_in (Some p) = Some p.member

-- a count stops at the greatest number of 64 bits
abbrev pub capped : ℕ → ℕ
capped n = min n (2 ^ 64 - 1)

-- a count raised by another, up to the greatest number of 64 bits
abbrev pub more : ℕ → ℕ → ℕ
more n zero = n
more n (suc k) = capped (n + suc k)

-- how many turns began and ended
abbrev pub began_in : List PartMark → ℕ
began_in ms = length (begun_calls ms)

abbrev pub ended_in : List PartMark → ℕ
ended_in ms = length (ended_calls ms)

-- the parts after one of them has taken a step
abbrev pub stepped : PartsView → ℕ → PartStep → PartsView
stepped v at s = record v { parts = set v.parts at s.part; begun = more v.begun (began_in s.marks); ended = more v.ended (ended_in s.marks) }

-- the event may run out of memory
abbrev pub MayWant : PartEvent → Type 0
MayWant (events.Ask key chain now) = Unit {0}
MayWant (events.AskAt key chain least now) = Unit {0}
MayWant (events.Poll call) = Unit {0}
MayWant (events.TakeClosing now) = Unit {0}
MayWant event = ⊥

abbrev pub wants : PartReply → Bool
wants replies.OutOfMemory = true
wants reply = false

-- a Tick or a stop, which end turns of their own accord
abbrev pub closes : PartEvent → Bool
closes (events.Tick now) = true
closes events.StopPart = true
closes event = false

abbrev pub is_ended : PartReply → Bool
is_ended (replies.Ended next) = true
is_ended reply = false

-- how many turns a step began and ended, from the number of calls that it reports
abbrev pub tally_of : Bool → Bool → ℕ → Tally
tally_of true one count = record { began = 0; ended = count }
tally_of false one count = record { began = count; ended = if one then 1 else 0 }

-- the calls that a step reports: those that ended for a Tick or a stop, else those that began
abbrev pub told_calls : PartEvent → List PartMark → List ℕ
told_calls (events.Tick now) ms = ended_calls ms
told_calls events.StopPart ms = ended_calls ms
told_calls event ms = begun_calls ms

-- The part ran out of memory and is as before, or the reply, the part and the calls are those of the step.
abbrev pub StepsPart : PartEvent → PartReply → PartState → PartView → Type 0
StepsPart event reply old new =
    (MayWant event × (wants reply ≡ true) × (new.state ≡ old) × (length new.recent ≡ 0))
    ⊎ ((MayWant event → wants reply ≡ false) × (reply ≡ (part_step ring_owner old event).reply) × (new.state ≡ (part_step ring_owner old event).part) × (new.recent ≡ told_calls event (part_step ring_owner old event).marks))

-- the same for the part at a place; the others stay
abbrev pub StepsAt : PartEvent → PartReply → ℕ → PartsView → PartsView → Type 0
StepsAt event reply at old new =
    (p : PartState) → slice_get old.parts at ≡ Some p →
    (MayWant event × (wants reply ≡ true) × (new ≡ old))
    ⊎ ((MayWant event → wants reply ≡ false) × (reply ≡ (part_step ring_owner p event).reply) × (new ≡ stepped old at (part_step ring_owner p event)))
