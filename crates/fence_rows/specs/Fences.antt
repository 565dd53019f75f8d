-- What a fenced store answers, and what it is then. Own.
use Rattle.std.specs.Prelude.{◌≡◌, ◌⊎◌, ◌<◌, ◌^◌, ℕ, suc, Bool, true, false, nat_lt, if◌then◌else◌, List, [], ◌∷◌, length, Option, None, Some, Result, Ok, Err}
use Rattle.actor_names.specs.declared.actor_key.ActorKey.{ActorKey}
use Rattle.state_rows.specs.declared.op.StateOp.{StateOp}
use Rattle.frame_wire.specs.declared.store_answer.StoreAnswer.TheVariants.{NotThere, Refused}
use Rattle.frame_wire.specs.declared.store_command.StoreCommand.{StoreCommand}
use Rattle.frame_wire.specs.declared.store_command.StoreCommand.TheVariants.{Tx, Get}
use Rattle.frame_wire.specs.declared.store_refusal.StoreRefusal.{StoreRefusal}
use Rattle.frame_wire.specs.declared.store_refusal.StoreRefusal.TheVariants.{Reopen, TooManyOps, OutOfMemory}
use Rattle.frame_wire.specs.Store.{AnswerFits}
use Rattle.store_tables.specs.Contents.{Timed}
use Rattle.store_payloads.specs.Laws.{MayCome}
use Rattle.store_core.specs.Store.{StoreState, Moves}
use Rattle.fence_rows.specs.declared.event.FencedAnswer.{FencedAnswer}
use Rattle.fence_rows.specs.declared.event.FencedAnswer.TheVariants.{Answer, StaleEpoch, ReservedKey, Unfenced}
use Rattle.fence_rows.specs.declared.event.FencedCommand.{FencedCommand}
use Rattle.fence_rows.specs.declared.event.FencedCommand.TheVariants as fenced
use Rattle.fence_rows.specs.Epochs.{is_epoch_key, actor_epoch, key_of, fenced_transaction}

-- ---- what may be asked

abbrev pub IsTransaction : StoreCommand → Type 0
IsTransaction (Tx s actor ops) = Unit {0}
IsTransaction c = ⊥

-- a command that may be sent to the store; under an epoch it is a transaction
abbrev pub MayFence : FencedCommand → ℕ → Type 0
MayFence (fenced.Plain c) now = MayCome (record { now = now; command = c })
MayFence (fenced.Tx epoch c) now = IsTransaction c × MayCome (record { now = now; command = c })

-- an epoch is a number of eight bytes
abbrev pub HasShortEpoch : FencedCommand → Type 0
HasShortEpoch (fenced.Plain c) = Unit {0}
HasShortEpoch (fenced.Tx epoch c) = epoch < 2 ^ 64

-- the command that the store is given
abbrev pub given_command : FencedCommand → StoreCommand
given_command (fenced.Plain c) = c
given_command (fenced.Tx epoch c) = fenced_transaction epoch c

abbrev pub given_at : FencedCommand → ℕ → Timed
given_at command now = record { now = now; command = given_command command }

-- ---- the refusals, in order

-- the first answer, if there is one
abbrev pub first_answer : Option FencedAnswer → Option FencedAnswer → Option FencedAnswer
first_answer None later = later
first_answer (Some answer) later = Some answer

-- a store that met a fault can't tell the epoch
abbrev pub reopen_answer : Bool → Option FencedAnswer
reopen_answer true = Some (Answer (Refused Reopen))
reopen_answer false = None

-- the epoch is below the one that the actor has
abbrev pub stale_answer : ℕ → ℕ → Option FencedAnswer
stale_answer epoch seen = if nat_lt epoch seen then Some (StaleEpoch seen) else None

-- the first operation that names the key of the epoch, if the first one of the list has this index
abbrev pub reserved_from : ℕ → List StateOp → Option ℕ
reserved_from at [] = None
reserved_from at (op ∷ ops) = if is_epoch_key (key_of op) then Some at else reserved_from (suc at) ops

abbrev pub reserved_answer : Option ℕ → Option FencedAnswer
reserved_answer None = None
reserved_answer (Some op) = Some (ReservedKey op)

-- there is no room for the operation that sets the epoch
abbrev pub many_answer : ℕ → Option FencedAnswer
many_answer n = if nat_lt 999 n then Some (Answer (Refused (TooManyOps n))) else None

-- a transaction of an epoch, and the epoch of its actor
abbrev pub tx_answer : ℕ → List StateOp → Bool → ℕ → Option FencedAnswer
tx_answer epoch ops is_broken seen = first_answer (reopen_answer is_broken) (first_answer (stale_answer epoch seen) (first_answer (reserved_answer (reserved_from 0 ops)) (many_answer (length ops))))

-- a command without an epoch: a transaction is refused, and the key isn't there
abbrev pub plain_answer : StoreCommand → Option FencedAnswer
plain_answer (Tx s actor ops) = Some Unfenced
plain_answer (Get actor key) = if is_epoch_key key then Some (Answer NotThere) else None
plain_answer c = None

abbrev pub epoch_answer : ℕ → StoreCommand → ℕ → StoreState → Option FencedAnswer
epoch_answer epoch (Tx s actor ops) now st = tx_answer epoch ops st.journal.is_broken (actor_epoch actor now st.contents)
epoch_answer epoch c now st = None

-- what a command is answered in place of the store; None if it is the store's
abbrev pub fence_answer : FencedCommand → ℕ → StoreState → Option FencedAnswer
fence_answer (fenced.Plain c) now s = plain_answer c
fence_answer (fenced.Tx epoch c) now s = epoch_answer epoch c now s

-- ---- the step

-- there was no memory to read the epoch, or for the operation that sets it, and nothing has changed
abbrev pub RunsOut : FencedCommand → StoreState → FencedAnswer → StoreState → Type 0
RunsOut (fenced.Plain c) old answer new = ⊥
RunsOut (fenced.Tx epoch c) old answer new = (answer ≡ Answer (Refused OutOfMemory)) × (new ≡ old)

-- the answer is the store's, to the command that it was given
abbrev pub IsOfStore : Timed → StoreState → FencedAnswer → StoreState → Type 0
IsOfStore c old (Answer given) new = Moves old c given new
IsOfStore c old answer new = ⊥

-- this answer, and nothing has changed; or the step is the store's
abbrev pub Follows : Option FencedAnswer → Timed → StoreState → FencedAnswer → StoreState → Type 0
Follows (Some given) c old answer new = (answer ≡ given) × (new ≡ old)
Follows None c old answer new = IsOfStore c old answer new

-- What a fenced store may answer to a command, and what it is then.
abbrev pub FencedMoves : StoreState → FencedCommand → ℕ → FencedAnswer → StoreState → Type 0
FencedMoves old command now answer new = RunsOut command old answer new ⊎ Follows (fence_answer command now old) (given_at command now) old answer new

-- an answer can be written as a frame: one with the store's words fits, and a number of the fence's own has eight bytes
abbrev pub FencedAnswerFits : FencedAnswer → Type 0
FencedAnswerFits (Answer given) = AnswerFits given
FencedAnswerFits (StaleEpoch seen) = seen < 2 ^ 64
FencedAnswerFits (ReservedKey op) = op < 2 ^ 64
FencedAnswerFits Unfenced = Unit {0}

-- ---- reading the epoch

-- the epoch of an actor, or why the store doesn't tell it
abbrev pub SeesEpoch : StoreState → ActorKey → ℕ → Result ℕ StoreRefusal → Type 0
SeesEpoch s actor now (Ok epoch) = (s.journal.is_broken ≡ false) × (epoch ≡ actor_epoch actor now s.contents)
SeesEpoch s actor now (Err Reopen) = s.journal.is_broken ≡ true
SeesEpoch s actor now (Err OutOfMemory) = Unit {0}
SeesEpoch s actor now (Err refusal) = ⊥
