-- The lines of a log: `YYYY-MM-DDThh:mm:ss.mmmZ` and what happened. Own: docs/operations.md has the list.
use Rattle.std.specs.Prelude.{ℕ, ◌+◌, ◌*◌, ◌/◌, ◌%◌, List, [], ◌∷◌, ◌++◌, take, codes, decimal, Option, Some, None}
use Rattle.actor_names.specs.declared.address.Address.{Address}
use Rattle.actor_names.specs.declared.member.Member.{Member}
use Rattle.call_names.specs.Texts.{address_text, member_text}
use Rattle.schedule_text.specs.Range.{moment_of}
use Rattle.schedule_text.specs.Moments.{moment_text, two_digits}
use Rattle.event_log.specs.declared.batch.Line.{Line}
use Rattle.event_log.specs.declared.notice.Dismissal.{Dismissal}
use Rattle.event_log.specs.declared.notice.Dismissal.TheVariants as reasons
use Rattle.event_log.specs.declared.notice.Notice.{Notice}
use Rattle.event_log.specs.declared.notice.Notice.TheVariants as notices
use Rattle.event_log.specs.declared.notice.Peer.{Peer}
use Rattle.event_log.specs.declared.notice.Peer.TheVariants as peers

-- ---- moments

abbrev pub three_digits : ℕ → List ℕ
three_digits n = (48 + n / 100) ∷ two_digits (n % 100)

-- a second, printed up to its seconds, and the milliseconds behind it
abbrev pub stamp_parts : ℕ → ℕ → List ℕ
stamp_parts second millis = take 19 (moment_text second) ++ codes "." ++ three_digits millis ++ codes "Z "

abbrev pub stamp_by : Option ℕ → ℕ → List ℕ
stamp_by None millis = []
stamp_by (Some second) millis = stamp_parts second millis

-- a moment in milliseconds since 1970, and a space; nothing from 9999 on
unfoldable pub stamp_text : ℕ → List ℕ
stamp_text ms = stamp_by (moment_of (ms / 1000 * 1000000000)) (ms % 1000)

-- ---- parts of a line

-- a number between words
abbrev pub counted : List ℕ → ℕ → List ℕ → List ℕ
counted front n back = front ++ decimal n ++ back

-- an address between words
abbrev pub placed : List ℕ → Address → List ℕ → List ℕ
placed front at back = front ++ address_text at ++ back

abbrev pub member_line : Member → List ℕ → List ℕ
member_line m back = codes "member " ++ member_text m ++ back

abbrev pub round_line : List ℕ → ℕ → List ℕ → List ℕ
round_line space version back = counted (codes "round ") version (codes " of ") ++ space ++ back

abbrev pub round_end : List ℕ → ℕ → ℕ → List ℕ
round_end space version within = round_line space version (codes " ended within ") ++ counted [] within (codes " ms")

abbrev pub compacted_line : ℕ → ℕ → List ℕ
compacted_line rows len = counted (codes "compacted to ") rows (codes " rows in ") ++ counted [] len (codes " bytes")

abbrev pub refusal_line : Address → ℕ → List ℕ
refusal_line at code = placed (codes "the store at ") at (codes " refused with code ") ++ decimal code

abbrev pub peer_text : Peer → List ℕ
peer_text peers.Placement = codes "the placement at "
peer_text peers.Store = codes "the store at "
peer_text peers.Application = codes "the application at "

-- the words that a sidecar prints of such an answer, too
abbrev pub dismissal_text : Dismissal → List ℕ
dismissal_text (reasons.StaleBoot greatest) = counted (codes "stale-boot ") greatest []
dismissal_text (reasons.NotMember greatest) = counted (codes "not-member ") greatest []
dismissal_text (reasons.SpacesFull spaces) = counted (codes "spaces-full ") spaces []
dismissal_text (reasons.Full members) = counted (codes "full ") members []

-- ---- lines

abbrev pub notice_text : Notice → List ℕ
notice_text (notices.Listening at) = placed (codes "listening at ") at []
notice_text (notices.Joined member) = member_line member (codes " joined")
notice_text (notices.Left member) = member_line member (codes " left")
notice_text (notices.Lost member) = member_line member (codes " is lost")
notice_text (notices.Gone member) = member_line member (codes " is gone")
notice_text (notices.RoundBegan space version) = round_line space version (codes " began")
notice_text (notices.RoundEnded space version within) = round_end space version within
notice_text (notices.Compacted rows len) = compacted_line rows len
notice_text notices.NotCompacted = codes "a compaction couldn't be made"
notice_text notices.DiskFailed = codes "stops: a disk failed"
notice_text (notices.LeaseEnded silent) = counted (codes "stops: the lease ended after ") silent (codes " ms")
notice_text (notices.Dismissed why) = codes "stops: the placement answered " ++ dismissal_text why
notice_text (notices.Away peer at) = placed (peer_text peer) at (codes " is away")
notice_text (notices.Back peer at) = placed (peer_text peer) at (codes " is back")
notice_text (notices.StoreRefused at code) = refusal_line at code
notice_text (notices.NotConfigured at) = placed (peer_text peers.Application) at (codes " gave no configuration")
notice_text notices.Attached = codes "a placement is connected"
notice_text (notices.Detached calls) = counted (codes "the placement is gone after ") calls (codes " calls")
notice_text notices.Ended = codes "ends"

abbrev pub line_text : Line → List ℕ
line_text line = stamp_text line.at_ms ++ notice_text line.notice ++ codes "\n"

-- that so many lines were lost, up to this moment
abbrev pub lost_text : ℕ → ℕ → List ℕ
lost_text at lost = stamp_text at ++ counted [] lost (codes " lines were lost\n")
