use Rattle.std.proofs.Common.{◌≡◌, ◌+◌, ◌*◌, arith, ap, ◌∙◌, Ok}
use Rattle.jiff_core.specs.declared.civil.time.Time.{Time}
use Rattle.jiff_core.specs.Time.{time_seconds}
use Rattle.jiff_core.proofs.SignedLemmas.{signed_casts}
use Rattle.schedule_text.specs.Moments.{instant_at}
use Rattle.schedule_text.proofs.Instants.{instant_of-parts}
use Rattle.schedule_text.proofs.moment_reading.shown_at.Goals as goal

pub returns : goal.returns
unfolding instant_at
returns c =
    let date = c.in-Ok.ensures.reading in
    let joint = c.in_ok-behind.ensures in
    let clock = c.in_ok-hour.ensures.reading in
    let fraction = c.in_ok-nanos.ensures.reading in
    let zone = c.in_ok-zone.ensures.reading in
    let hms = c.time-clock.ensures in
    let time : c.time-clock.result.hour * 3600 + c.time-clock.result.minute * 60 + c.time-clock.result.second ≡ c.in_ok-hour.hour * 3600 + c.in_ok-hour.minute * 60 + c.in_ok-hour.second = omega (arith, signed_casts, hms, c.in_ok-hour.ensures) in
    let nanos : c.time-clock.result.subsec_nanosecond ≡ c.in_ok-nanos.nanos = omega (arith, signed_casts, hms, c.in_ok-nanos.ensures.range) in
    let same : c.from_parts.result.time ≡ c.time-clock.result = c.from_parts.ensures.time in
    let whole = ap time_seconds same ∙ time in
    rw (date, joint, clock, fraction, ← zone) (ap Ok (instant_of-parts c.from_parts.result c.offset_of.result c.in-Ok.read.0 _ _ c.in_ok-zone.zone c.from_parts.ensures.date c.in-Ok.ensures.year whole (ap (λ (t : Time). t.subsec_nanosecond) same ∙ nanos) c.in_ok-zone.ensures.range c.offset_of.ensures))
