-- The placement, and the messages that were added; a table is kept once for each version. Own.
use Rattle.std.specs.Prelude.{◌≡◌, ℕ, zero, suc, ◌<◌, ◌-◌, Bool, true, false, ◌&&◌, ◌==◌, if◌then◌else◌, List, [], ◌∷◌, ◌++◌, length, map, bytes_eq, slice_get, Option, None, Some}
use Rattle.actor_names.specs.declared.member.Member.{Member}
use Rattle.place_table.specs.declared.host.HostInfo.{HostInfo}
use Rattle.place_table.specs.Hosts.{PlacementTable}
use Rattle.part_model.specs.Part.{no_table}
use Rattle.round_core.specs.declared.event.PlaceEvent.{PlaceEvent}
use Rattle.round_core.specs.declared.event.PlaceEvent.TheVariants as changes
use Rattle.round_core.specs.declared.event.PlaceReply.{PlaceReply}
use Rattle.round_core.specs.declared.event.PlaceReply.TheVariants as replies
use Rattle.round_core.specs.Room.{last_version}
use Rattle.placement_core.specs.Placement.{SpaceRoom, PlacementState, placement_step}
use Rattle.member_roster.specs.Members.{Joined, is_late}
use Rattle.cluster_model.specs.World.{table_in}
use Rattle.cluster_model.specs.Messages.{Request, Register, Beat, Ack, Leave, LockAt, UpdateTo, UnlockAt, Says, Message, Asks, Tells, table_of, answer_of, change_of, asker_of, told_event}
use Rattle.world_run.specs.declared.kept.Kept.{Kept}
use Rattle.world_run.specs.declared.kept.Kept.TheVariants as kept
use Rattle.world_run.specs.declared.kept.Told.{Told}
use Rattle.world_run.specs.declared.kept.Asked.{Asked}
use Rattle.world_run.specs.declared.kept.Spot.{Spot}
use Rattle.world_run.specs.declared.kept.Wanted.{Wanted}

pub record PostView : Type 0 where
  pub placement : PlacementState
  pub messages : List Message

abbrev pub table_or : Option PlacementTable → PlacementTable
table_or None = no_table []
table_or (Some t) = t

-- the message that is kept in this form, if these are the tables that were sent
abbrev pub message_in : List PlacementTable → Kept → Message
message_in ts (kept.Register host) = Asks (Register host)
message_in ts (kept.Beat m) = Asks (Beat m)
message_in ts (kept.Ack m stage version) = Asks (Ack m stage version)
message_in ts (kept.Leave m) = Asks (Leave m)
message_in ts (kept.Lock m version) = Tells m (LockAt version)
message_in ts (kept.Update m at) = Tells m (UpdateTo (table_or (slice_get ts at)))
message_in ts (kept.Unlock m version) = Tells m (UnlockAt version)
message_in ts (kept.Says m reply) = Tells m (Says reply)

abbrev pub messages_in : List PlacementTable → List Kept → List Message
messages_in ts ks = map (message_in ts) ks

-- the table that the placement fixed last in a space and that isn't built yet, if its version was sent
abbrev pub pending_table : Option Wanted → PlacementState → List PlacementTable
pending_table None s = []
pending_table (Some w) s = table_of w.space w.version (table_in s w.space) ∷ []

-- all tables that were sent
abbrev pub told_tables : List PlacementTable → Option Wanted → PlacementState → List PlacementTable
told_tables built pending s = built ++ pending_table pending s

-- an Update message names a table that was sent
abbrev pub names_table : ℕ → Kept → Type 0
names_table n (kept.Update m at) = at < n
names_table n k = Unit {0}

-- whether the message at a place carries the table at another
abbrev pub brings : ℕ → Option Kept → Bool
brings at (Some (kept.Update m place)) = place == at
brings at k = false

-- Each Update message names a table that was sent, and the message at `last` carries the last of these.
pub record IsPostKept (tables : ℕ) (ks : List Kept) (last : ℕ) : Type 0 where
  pub named : (k : ℕ) (x : Kept) → slice_get ks k ≡ Some x → names_table tables x
  pub told : 0 < tables → brings (tables - 1) (slice_get ks last) ≡ true

-- messages are numbered from 1
abbrev pub numbered : List Message → ℕ → Option Message
numbered ms zero = None
numbered ms (suc k) = slice_get ms k

-- what a message brings, and to whom
abbrev pub told_of : Option Message → ℕ → Option Told
told_of None now = None
told_of (Some (Asks r)) now = None
told_of (Some (Tells m answer)) now = Some (record { member = m; event = told_event answer now })

-- the placement's answer to a request is the next message
abbrev pub answered : PostView → Request → ℕ → PostView
answered v r now =
    let s = placement_step v.placement (change_of r) now in
    record { placement = s.state; messages = v.messages ++ Tells (asker_of r) (answer_of (asker_of r).space (table_in s.state (asker_of r).space) s.reply) ∷ [] }

-- what comes of the delivery of a message to the placement: nothing if there is no such request
abbrev pub Delivers : Option Message → ℕ → Option PlaceReply → PostView → PostView → Type 0
Delivers (Some (Asks r)) now result old new = (result ≡ Some (placement_step old.placement (change_of r) now).reply) × (new ≡ answered old r now)
Delivers x now result old new = (result ≡ None) × (new ≡ old)

-- If the answer is an Update, each table of its space and version that was sent is the one that the placement fixed
-- last.
abbrev pub AgreesOn : List Message → ℕ → List ℕ → List HostInfo → PlaceReply → Type 0
AgreesOn ms now space hosts (replies.Update version) =
    (m : Member) (t : PlacementTable) (k : ℕ) → slice_get ms k ≡ Some (Tells m (UpdateTo t)) → t.space ≡ space → t.version ≡ version → t ≡ table_of space version hosts
AgreesOn ms now space hosts reply = Unit {0}

abbrev pub Agrees : Option Message → ℕ → PostView → Type 0
Agrees (Some (Asks r)) now v = (let s = placement_step v.placement (change_of r) now in AgreesOn v.messages now (asker_of r).space (table_in s.state (asker_of r).space) s.reply)
Agrees x now v = Unit {0}

-- ---- how the next message is kept

-- a request, by whom and what it makes the placement do
abbrev pub asked_of : Option Message → Option Asked
asked_of None = None
asked_of (Some (Asks r)) = Some (record { member = asker_of r; event = change_of r })
asked_of (Some (Tells m answer)) = None

abbrev pub is_request : Kept → Bool
is_request (kept.Register host) = true
is_request (kept.Beat m) = true
is_request (kept.Ack m stage version) = true
is_request (kept.Leave m) = true
is_request k = false

abbrev pub kept_answer : Member → PlaceReply → ℕ → Kept
kept_answer m (replies.Lock version) at = kept.Lock m version
kept_answer m (replies.Update version) at = kept.Update m at
kept_answer m (replies.Unlock version) at = kept.Unlock m version
kept_answer m reply at = kept.Says m reply

-- the version of an Update
abbrev pub updated_version : PlaceReply → Option ℕ
updated_version (replies.Update version) = Some version
updated_version reply = None

abbrev pub is_wanted : List ℕ → ℕ → Option PlacementTable → Bool
is_wanted space version None = false
is_wanted space version (Some t) = bytes_eq t.space space && (t.version == version)

-- the place of the table of a space and version: the last one if it is that table, else the next
abbrev pub spot_for : List PlacementTable → List ℕ → Option ℕ → Spot
spot_for ts space None = record { table = 0; pending = None }
spot_for ts space (Some version) =
    if is_wanted space version (slice_get ts (length ts - 1)) then record { table = length ts - 1; pending = None }
    else record { table = length ts; pending = Some (record { space = space; version = version }) }

abbrev pub is_register : PlaceEvent → Bool
is_register (changes.Register host) = true
is_register event = false

abbrev pub place_wants : PlaceReply → Bool
place_wants replies.OutOfMemory = true
place_wants reply = false

-- the member, if a Tick at this moment drops it
abbrev pub late_member : ℕ → Joined → Option Member
late_member now j = if is_late now j then Some j.host.member else None

-- the reply and the state of a step
abbrev pub GivesReply : PlaceEvent → ℕ → PlaceReply → PlacementState → PlacementState → Type 0
GivesReply event now reply old new = (reply ≡ (placement_step old event now).reply) × (new ≡ (placement_step old event now).state)

abbrev pub version_in : SpaceRoom → ℕ
version_in r = last_version r.room

-- the version of the round that a restart started, from the last versions before and after it
abbrev pub started_version : ℕ → ℕ → ℕ
started_version before after = if after == before then 0 else after

-- the place of the message that brought the last table, after one more
abbrev pub last_for : Option ℕ → ℕ → ℕ → ℕ
last_for None count last = last
last_for (Some version) count last = count

-- the last message is a request
abbrev pub LastAsks : List Message → Type 0
LastAsks ms = (front : List Message) × ((r : Request) × (ms ≡ front ++ Asks r ∷ []))
