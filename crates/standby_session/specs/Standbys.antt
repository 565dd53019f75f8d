-- What a standby keeps of a list of calls. Own.
use Rattle.std.specs.Prelude.{◌≡◌, ◌⊎◌, ◌<◌, ◌≤◌, ℕ, suc, List, [], ◌∷◌, ◌++◌, length, map, take, Some}
use Rattle.actor_ports.specs.declared.session.SessionEnd.TheVariants.{Done}
use Rattle.actor_ports.specs.Traffic.{Traffic}
use Rattle.disk_model.specs.Disk.{DiskState}
use Rattle.frame_wire.specs.declared.mirror.MirrorCommand.{MirrorCommand}
use Rattle.frame_wire.specs.declared.mirror.MirrorCommand.TheVariants as commands
use Rattle.frame_wire.specs.Mirrors.{most_piece}
use Rattle.standby_core.specs.declared.call.MirrorCall.{MirrorCall}
use Rattle.standby_core.specs.declared.call.MirrorCall.TheVariants.{Write, Cut, Sync}
use Rattle.standby_core.specs.Replicas.{ReplicaOf}
use Rattle.standby_core.specs.Telling.{calls_bytes}
use Rattle.standby_core.specs.Attaching.{IsAttach}
use Rattle.standby_session.specs.Sessions.{IsStandby}

-- the call as a frame says it
abbrev pub command_of : MirrorCall → MirrorCommand
command_of (Write at bytes) = commands.Write at bytes.items
command_of (Cut len) = commands.Cut len
command_of Sync = commands.Sync

abbrev pub commands_of : List MirrorCall → List MirrorCommand
commands_of calls = map command_of calls

-- each write has at most 1,048,576 bytes
abbrev pub AreShort : List MirrorCall → Type 0
AreShort [] = Unit {0}
AreShort (Write at bytes ∷ calls) = (length bytes.items ≤ most_piece) × AreShort calls
AreShort (Cut len ∷ calls) = AreShort calls
AreShort (Sync ∷ calls) = AreShort calls

-- each place and each length is a number of 64 bits, as those of every `MirrorCall` are
abbrev pub HaveNumbers : List MirrorCommand → Type 0
HaveNumbers [] = Unit {0}
HaveNumbers (commands.Write at new ∷ calls) = (at < 18446744073709551616) × HaveNumbers calls
HaveNumbers (commands.Cut len ∷ calls) = (len < 18446744073709551616) × HaveNumbers calls
HaveNumbers (commands.Sync ∷ calls) = HaveNumbers calls

-- the spellings of the calls of an attach and of the first n of these, and perhaps that of the next
abbrev pub IsGiven : List MirrorCommand → List MirrorCommand → ℕ → List ℕ → Type 0
IsGiven attach calls n given = (given ≡ calls_bytes (attach ++ take n calls)) ⊎ (given ≡ calls_bytes (attach ++ take (suc n) calls))

-- A standby whose session was given these, met no fault and read all of them, reads as the replica after n answered
-- calls on the bytes that the attach was of, which are no more than a disk's length can say.
abbrev pub KeepsAnswered : List MirrorCommand → ℕ → Type 0
KeepsAnswered calls n =
    (bytes : List ℕ) (attach : List MirrorCommand) (old new : DiskState) (t0 t1 : Traffic) (requests : ℕ)
    → IsAttach bytes attach → length bytes < 18446744073709551616 → HaveNumbers calls → IsGiven attach calls n t0.left
    → IsStandby (Some old) (Some new) (Some t0) (Some t1) (Done requests) → ReplicaOf bytes calls n new.bytes
