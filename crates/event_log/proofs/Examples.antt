-- Worked examples of lines.
use Rattle.std.proofs.Common.{◌≡◌, refl, codes}
use Rattle.std.specs.Fmt.{digits}
use Rattle.call_names.specs.Texts.{ip_text, address_text}
use Rattle.schedule_text.specs.Calendar.{date_of}
use Rattle.schedule_text.specs.Moments.{moment_text}
use Rattle.event_log.specs.declared.notice.Dismissal.TheVariants.{StaleBoot}
use Rattle.event_log.specs.declared.notice.Notice.TheVariants.{Listening, Joined, RoundEnded, Compacted, Dismissed, Away}
use Rattle.event_log.specs.declared.notice.Peer.TheVariants.{Store}
use Rattle.event_log.specs.Lines.{line_text, notice_text, stamp_text, lost_text}

-- 2026-12-01T06:19:28.123Z
stamped : stamp_text 1796105968123 ≡ codes "2026-12-01T06:19:28.123Z "
unfolding stamp_text moment_text date_of
stamped = refl

first : stamp_text 7 ≡ codes "1970-01-01T00:00:00.007Z "
unfolding stamp_text moment_text date_of
first = refl

never : stamp_text 253370764800000 ≡ codes ""
unfolding stamp_text
never = refl

round : line_text (record { at_ms = 1796105968123; notice = RoundEnded (codes "default") 7 12 }) ≡ codes "2026-12-01T06:19:28.123Z round 7 of default ended within 12 ms\n"
unfolding stamp_text moment_text date_of digits
round = refl

listens : notice_text (Listening (record { ip = 2130706433; port = 50005 })) ≡ codes "listening at 127.0.0.1:50005"
unfolding digits ip_text address_text
listens = refl

joins : notice_text (Joined (record { space = codes "shop"; node = codes "n-1"; boot = 3 })) ≡ codes "member shop:n-1/3 joined"
unfolding digits
joins = refl

compacts : notice_text (Compacted 1200 88000) ≡ codes "compacted to 1200 rows in 88000 bytes"
unfolding digits
compacts = refl

sent_away : notice_text (Dismissed (StaleBoot 5)) ≡ codes "stops: the placement answered stale-boot 5"
unfolding digits
sent_away = refl

missing : notice_text (Away Store (record { ip = 167772161; port = 80 })) ≡ codes "the store at 10.0.0.1:80 is away"
unfolding digits ip_text address_text
missing = refl

lines_lost : lost_text 7 12 ≡ codes "1970-01-01T00:00:00.007Z 12 lines were lost\n"
unfolding stamp_text moment_text date_of digits
lines_lost = refl
