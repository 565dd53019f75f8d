use Rattle.fence_rows.specs.Groups.{FlattensGroups}
use Rattle.fence_rows.proofs.GroupLaw.{flattens_groups}
use Rattle.fence_rows.proofs.GroupEpochs.{group_never_falls, ahead_keeps, part_keeps}
use Rattle.fence_rows.proofs.groups.group_law.Goals as goal

pub returns : goal.returns
returns c =
    let flattens : FlattensGroups = flattens_groups c.fence_law.ensures.keeps c.fence_law.ensures.risks in
    record { flattens = flattens; never_falls = group_never_falls flattens c.fence_law.ensures.never_falls; ahead = ahead_keeps; part = part_keeps }
