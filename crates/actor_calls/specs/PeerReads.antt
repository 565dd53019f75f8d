-- What a peer is told, as another sidecar reads it. Own.
use Rattle.std.specs.Prelude.{◌≡◌, ◌≤◌, ◌<◌, ◌^◌, ℕ, None, []}
use Rattle.actor_names.specs.Names.{space_fault, node_fault, app_id_fault}
use Rattle.place_table.specs.declared.host.HostInfo.{HostInfo}
use Rattle.actors_api.specs.declared.reply.ApiReply.{ApiReply}
use Rattle.actors_api.specs.declared.reply.ApiReply.TheVariants.{Elsewhere, Made, Refused}
use Rattle.actors_api.specs.declared.refusal.ApiRefusal.{ApiRefusal}
use Rattle.actors_api.specs.declared.refusal.ApiRefusal.TheVariants as refusals
use Rattle.app_texts.specs.declared.word.RefusalWord.{RefusalWord}
use Rattle.app_texts.specs.declared.word.RefusalWord.TheVariants as words
use Rattle.app_texts.specs.declared.peer_reply.PeerReply.{PeerReply}
use Rattle.app_texts.specs.declared.peer_reply.PeerReply.TheVariants as peers
use Rattle.app_texts.specs.PeerReplies.{reply_reading}

-- the word of each refusal
abbrev pub word_for : ApiRefusal → RefusalWord
word_for refusals.NoRoute = words.NoRoute
word_for refusals.WrongMethod = words.WrongMethod
word_for (refusals.BadName what) = words.BadName
word_for refusals.MalformedBody = words.MalformedBody
word_for refusals.OtherNumber = words.FractionNumber
word_for (refusals.TooLarge index) = words.TooLarge
word_for (refusals.BadSchedule fault) = words.Schedule
word_for refusals.OutOfMemory = words.OutOfMemory
word_for refusals.MalformedHead = words.MalformedHead
word_for refusals.HeadTooLong = words.HeadTooLong
word_for refusals.Chunked = words.Chunked
word_for refusals.BodyTooLong = words.BodyTooLong
word_for refusals.NotActive = words.InstanceMissing
word_for refusals.TimersFull = words.TimersFull
word_for refusals.NoReminder = words.ReminderNotFound
word_for (refusals.NoHost version) = words.NoHost
word_for (refusals.Depth turns) = words.StackDepth
word_for refusals.QueueFull = words.QueueFull
word_for refusals.PartFull = words.PartFull
word_for refusals.Aborted = words.Aborted
word_for refusals.Stopped = words.Stopped
word_for (refusals.Moved versions) = words.Moved
word_for (refusals.NotRising last version) = words.PeerVersion
word_for (refusals.Behind seen) = words.PeerBehind
word_for refusals.AppFault = words.AppFault
word_for refusals.PeerFault = words.PeerFault
word_for refusals.StoreFault = words.StoreFault
word_for refusals.AppReply = words.AppReply
word_for refusals.PeerReply = words.PeerReply
word_for refusals.StoreReply = words.StoreReply
word_for (refusals.StoreRefused code) = words.StoreRefused
word_for refusals.CallRunning = words.CallRunning
word_for (refusals.AnswerGone status) = words.AnswerGone
word_for (refusals.CallOld floor) = words.CallOld
word_for (refusals.CallBoot boot) = words.CallBoot
word_for refusals.CallLanes = words.CallLanes
word_for refusals.BookFull = words.BookFull
word_for refusals.Spent = words.Spent

-- an owner as another sidecar knows it, which isn't told its types
abbrev pub told_owner : HostInfo → HostInfo
told_owner owner = record { member = owner.member; app = owner.app; address = owner.address; kinds = [] }

-- what a reply says to the sidecar that handed the call on; a response that was made before is read as it was then
abbrev pub told_to_peer : ApiReply → PeerReply
told_to_peer (Elsewhere version owner) = peers.Elsewhere version (told_owner owner)
told_to_peer (Refused refusal) = peers.Refusal (word_for refusal)
told_to_peer (Made response) = reply_reading response
told_to_peer reply = peers.Application

-- A version of a table, and an owner, with the names and numbers that such values have: the law below ranges over all
-- values.
pub record IsTellable (version : ℕ) (owner : HostInfo) : Type 0 where
  pub version_fits : version ≤ 2 ^ 62
  pub space : space_fault owner.member.space ≡ None
  pub node : node_fault owner.member.node ≡ None
  pub boot_counts : 1 ≤ owner.member.boot
  pub boot_fits : owner.member.boot ≤ 2 ^ 62
  pub app : app_id_fault owner.app ≡ None
  pub ip_fits : owner.address.ip < 2 ^ 32
  pub port_fits : owner.address.port < 2 ^ 16

abbrev pub CanBeTold : ApiReply → Type 0
CanBeTold (Elsewhere version owner) = IsTellable version owner
CanBeTold reply = Unit {0}
