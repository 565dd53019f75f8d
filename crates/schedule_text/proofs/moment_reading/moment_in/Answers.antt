use Rattle.std.proofs.Common.{sym, ◌∙◌}
use Rattle.schedule_text.specs.Moments.{read_moment}
use Rattle.schedule_text.proofs.Instants.{moment_at-shown, in_range-ok_or}
use Rattle.schedule_text.proofs.moment_reading.moment_in.Goals as goal

pub returns-in-Ok : goal.returns-in-Ok
unfolding read_moment
returns-in-Ok c =
    let read = c.in-Ok.ensures in
    rw read (c.ok_or.ensures.value ∙ sym (in_range-ok_or c.moment_shown.result) ∙ rw c.moment_shown.ensures (sym (moment_at-shown c.in-Ok.read.0 c.in-Ok.read.1)))
