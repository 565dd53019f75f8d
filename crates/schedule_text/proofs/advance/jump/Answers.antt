use Rattle.std.proofs.Common.{◌-◌, arith, refl}
use Rattle.schedule_text.proofs.Jumps.{first_after-jumped}
use Rattle.schedule_text.proofs.advance.jump.Goals as goal

pub returns : goal.returns
returns c =
    let missed = first_after-jumped (c.args.now - c.args.moment) c.args.period.now c.args.now c.args.moment c.requires.months c.requires.nanos (omega arith) in
    rw (missed, c.from_nanos.ensures, c.saturating_sub-gap.ensures, c.nanos.ensures.value, c.nanos-start.ensures.value) refl
