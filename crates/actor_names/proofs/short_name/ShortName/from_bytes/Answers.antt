use Rattle.std.proofs.Common.{◌≤◌, length}
use Rattle.actor_names.proofs.FormFaults.{has_form}
use Rattle.actor_names.proofs.PaddingLemmas.{IsPadded-fill, take-fill}
use Rattle.actor_names.proofs.short_name.ShortName.from_bytes.Goals as goal

pub invariant_of-result : goal.invariant_of-result
invariant_of-result g c =
    let low : length c.args.text.now ≤ 64 = g.met.F.ShortForm.is_short c.args.text.now c.requires in
    rw c.copy_from_slice.ensures.after (IsPadded-fill c.args.text.now low, rw (take-fill c.args.text.now low) (has_form _ _ c.requires))
