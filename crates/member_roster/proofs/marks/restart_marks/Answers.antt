use Rattle.std.proofs.Common.{◌<◌, length, get_or, arith}
use Rattle.std.proofs.lemmas.List.{get_or_default}
use Rattle.std.proofs.lemmas.List.Edits.{map_over_more}
use Rattle.member_roster.specs.Roster.{restarted_mark}
use Rattle.member_roster.proofs.Rosters.{no_mark}
use Rattle.member_roster.proofs.marks.restart_marks.Goals as goal

pub loop-mark-preserved : goal.loop-mark-preserved
loop-mark-preserved c =
    let x = get_or c.loop-mark.mark-items c.loop-mark.mark-index no_mark in
    let within : c.loop-mark.mark-index < length c.loop-mark.mark-items = omega arith in
    map_over_more (restarted_mark c.args.now) c.deref_mut-mark-items.result.now c.loop-mark.mark-items c.loop-mark.mark-index x (omega arith) c.loop-mark.invariant (get_or_default c.loop-mark.mark-items c.loop-mark.mark-index no_mark x within)
