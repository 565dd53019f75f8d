use Rattle.std.proofs.Common.{◌≡◌, pos, ap, refl, ◌∙◌, ◌%◌, ◌==◌, nat_eq, of_z, w32}
use Rattle.std.specs.String.{string_bytes}
use Rattle.jiff_core.specs.DateTime.{civil_nanos}
use Rattle.jiff_core.specs.declared.timestamp.Timestamp.{Timestamp}
use Rattle.schedule_text.specs.Numbers.{billionth}
use Rattle.schedule_text.specs.Moments.{moment_text}
use Rattle.schedule_text.proofs.RoundTrips.{read_moment-moment_text}
use Rattle.schedule_text.proofs.Printed.{printed-moment}
use Rattle.schedule_text.proofs.moment_printing.print_moment.Goals as goal

text_is : (c : goal.In_ok-from_str) → string_bytes c.in_ok-from_str.field-0 ≡ moment_text c.args.moment
text_is c =
    let shown = c.timestamp_text-text.ensures in
    let civil : civil_nanos shown.0 ≡ pos c.args.moment = shown.1 ∙ ap (λ (t : Timestamp). t.nanosecond) c.to_plain.ensures ∙ c.timestamp_of-timestamp.ensures.nanos in
    let whole : (c.args.moment % billionth == 0) ≡ nat_eq (of_z w32 c.subsec_nanosecond-is_whole.result) 0 = rw (c.subsec_nanosecond-is_whole.ensures, c.timestamp_of-timestamp.ensures.nanos) refl in
    c.in_ok-from_str.ensures.ok ∙ c.as_str.ensures.value ∙ shown.2 ∙ printed-moment c.printer.result shown.0 c.args.moment _ c.printer.ensures civil c.timestamp_of-timestamp.ensures.range whole

pub returns-clause-text : goal.returns-clause-text
returns-clause-text c = text_is c

pub returns-clause-reads_back : goal.returns-clause-reads_back
returns-clause-reads_back c = rw (text_is c) (read_moment-moment_text c.args.moment c.timestamp_of-timestamp.ensures.range)
