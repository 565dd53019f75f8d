-- Events that a fenced store is given together. Own.
use Rattle.std.specs.Prelude.{◌≡◌, ◌⊎◌, ℕ, Bool, true, false, List, [], ◌∷◌, Option, None, Some}
use Rattle.std.specs.List.{AllByRecursion}
use Rattle.frame_wire.specs.declared.store_command.StoreCommand.{StoreCommand}
use Rattle.frame_wire.specs.declared.store_command.StoreCommand.TheVariants.{Due}
use Rattle.store_tables.specs.Contents.{Timed}
use Rattle.store_core.specs.declared.events.CompactEnd.TheVariants as ends
use Rattle.store_core.specs.Store.{StoreState}
use Rattle.store_core.specs.Lists.{Rules, AnswersAll}
use Rattle.fence_rows.specs.declared.event.FencedAnswer.{FencedAnswer}
use Rattle.fence_rows.specs.declared.event.FencedAnswer.TheVariants as fence
use Rattle.fence_rows.specs.declared.event.FencedCommand.{FencedCommand}
use Rattle.fence_rows.specs.declared.event.FencedCommand.TheVariants as fenced
use Rattle.fence_rows.specs.declared.event.FencedEvent.{FencedEvent}
use Rattle.fence_rows.specs.declared.event.FencedEvent.TheVariants.{Command, Compact}
use Rattle.fence_rows.specs.declared.event.FencedOutcome.{FencedOutcome}
use Rattle.fence_rows.specs.declared.event.FencedOutcome.TheVariants.{Answer, CompactIs}
use Rattle.fence_rows.specs.Fences.{HasShortEpoch, FencedAnswerFits, MayFence, given_at, fence_answer}
use Rattle.fence_rows.specs.Events.{Allows}

-- ---- one after another

-- each event is a step of its own, with its answer
abbrev pub OneByOne : StoreState → List FencedEvent → List FencedOutcome → StoreState → Type 0
OneByOne old [] [] new = new ≡ old
OneByOne old [] (answer ∷ answers) new = ⊥
OneByOne old (event ∷ events) [] new = ⊥
OneByOne old (event ∷ events) (answer ∷ answers) new = (mid : StoreState) × Allows old event answer mid × OneByOne mid events answers new

-- ---- commands that share syncs

-- no compaction is among them
abbrev pub are_commands : List FencedEvent → Bool
are_commands [] = true
are_commands (Command command now ∷ events) = are_commands events
are_commands (Compact least now ∷ events) = false

-- an event that is a command, and may be sent
abbrev pub MayShare : FencedEvent → Type 0
MayShare (Command command now) = MayFence command now
MayShare (Compact least now) = ⊥

-- its epoch is a number of eight bytes
abbrev pub SharesShort : FencedEvent → Type 0
SharesShort (Command command now) = HasShortEpoch command
SharesShort (Compact least now) = ⊥

-- its answer can be written as a frame
abbrev pub SharedFits : FencedOutcome → Type 0
SharedFits (Answer answer) = FencedAnswerFits answer
SharedFits (CompactIs end) = ⊥

-- a transaction of an epoch: its epoch is read, and an operation is added
abbrev pub is_fenced : FencedCommand → Bool
is_fenced (fenced.Plain c) = false
is_fenced (fenced.Tx epoch c) = true

-- what the store is given for an event; a compaction is none of its commands, and isn't shared
abbrev pub given_of : FencedEvent → Timed
given_of (Command command now) = given_at command now
given_of (Compact least now) = record { now = now; command = Due None 1 }

abbrev pub outcome_in : Option FencedAnswer → Option FencedOutcome
outcome_in None = None
outcome_in (Some answer) = Some (Answer answer)

abbrev pub refusal_of : FencedEvent → StoreState → Option FencedOutcome
refusal_of (Command command now) s = outcome_in (fence_answer command now s)
refusal_of (Compact least now) s = Some (CompactIs ends.OutOfMemory)

abbrev pub wants_memory : FencedEvent → Bool
wants_memory (Command command now) = is_fenced command
wants_memory (Compact least now) = false

-- The fence before the store: the same commands, and the same refusals in the same order, by the contents that the
-- commands before it in the list leave.
abbrev pub fence_rules : Rules FencedEvent FencedOutcome
fence_rules = record {
  given = given_of;
  refusal = refusal_of;
  memory = wants_memory;
  told = λ given. Answer (fence.Answer given);
}

-- Commands one after another, each answered by what those before it leave, and all on the disk in batches before the
-- first is told.
pub record Shares (old : StoreState) (events : List FencedEvent) (answers : List FencedOutcome) (new : StoreState) : Type 0 where
  pub all : AnswersAll fence_rules old events answers new
  pub may : AllByRecursion MayShare events
  pub short : AllByRecursion SharesShort events
  pub fits : AllByRecursion SharedFits answers

-- What a fenced store may answer to events that it is given together, and what it is then.
abbrev pub AllowsAll : StoreState → List FencedEvent → List FencedOutcome → StoreState → Type 0
AllowsAll old events answers new = OneByOne old events answers new ⊎ Shares old events answers new
