use Rattle.std.proofs.Common.{◌≡◌, List, map, subst, ◌∙◌, Ok}
use Rattle.placement_core.specs.Entries.{EntryOf}
use Rattle.placement_core.specs.Placement.{SpaceRoom, new_placement}
use Rattle.placement_core.specs.Readings.{entries_of, IsBadIn}
use Rattle.placement_core.specs.Restores.{rooms_after}
use Rattle.placement_core.proofs.Restored.{run_restarts, run_is_good}
use Rattle.placement_core.proofs.placement.Placement.restore.Goals as goal

pub returns-in-Ok-restarted-clause-run : goal.returns-in-Ok-restarted-clause-run
returns-in-Ok-restarted-clause-run c = λ run e.
    let records = map entries_of c.args.records.now in
    let rs = c.follow_all.new.replay in
    let opening = subst (λ (s : List SpaceRoom). rooms_after 0 s records ≡ Ok rs) c.in-Ok.ensures c.in-Ok-follow_all.ensures.after in
    let after = subst (λ (xs : List (List EntryOf)). rooms_after 0 new_placement.rooms xs ≡ Ok rs) e opening in
    c.in-Ok-restarted.ensures.state ∙ run_restarts run c.args.now rs after

pub returns-in-Err-follow_all-clause-run_is_good : goal.returns-in-Err-follow_all-clause-run_is_good
returns-in-Err-follow_all-clause-run_is_good c = λ run e.
    let records = map entries_of c.args.records.now in
    let error = c.in-Err-follow_all.error in
    let opening = subst (λ (s : List SpaceRoom). IsBadIn error (rooms_after 0 s records)) c.in-Ok.ensures c.in-Err-follow_all.ensures.bad in
    run_is_good error run (subst (λ (xs : List (List EntryOf)). IsBadIn error (rooms_after 0 new_placement.rooms xs)) e opening)
