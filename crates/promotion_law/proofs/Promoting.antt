-- A standby's file is one that a crash of the placement's own disk might have left, so what holds of those holds of it.
use Rattle.std.proofs.Common.{◌≡◌, ◌⊎◌, ◌∙◌, inl, inr, sym, subst, ℕ, Bool, false, List, Some}
use Rattle.disk_model.specs.Disk.{DiskState, Tells, MayLeave}
use Rattle.tx_journal.specs.Pair.{Files, read_files}
use Rattle.tx_journal.specs.Calls.{told}
use Rattle.round_core.specs.Runs.{RunEvent}
use Rattle.placement_core.specs.Runs.{AreRooms}
use Rattle.placement_node.specs.declared.error.PlacementOpenError.{PlacementOpenError}
use Rattle.placement_node.specs.Node.{NodeState}
use Rattle.placement_node.specs.Openings.{OpensNode, RefusesNode}
use Rattle.placement_node.specs.Runs.{RunFits, LeftByEither, with_restart, IsAt}
use Rattle.placement_node.specs.Crashes.{IsLeftOf, IsShortEnough, CrashLeaves, OpensAtLeft, RefusesLeft, MayRefuse}
use Rattle.standby_session.specs.Images.{Covers}
use Rattle.promotion_law.specs.Promotions.{IsFileOf, IsPromoted, Promotes, RefusesPromotion}

pub image_of : (first standby : DiskState) (bytes : List ℕ) → Covers first standby → IsFileOf standby bytes → MayLeave first.instant bytes
image_of first standby bytes covers (inl reads) = subst (λ (b : List ℕ). MayLeave first.instant b) (sym (reads ∙ covers.reads)) covers.image
image_of first standby bytes covers (inr left) = covers.leaves bytes left

left_of : (run maybe : List RunEvent) (n : NodeState) (files copy : Files) (standby : DiskState) → IsPromoted run maybe n files copy standby → IsLeftOf files copy
left_of run maybe n files copy standby p = record { alone = p.alone; alone_left = p.copy_alone; image = image_of files.first standby copy.first.bytes p.covers p.file }

pub opens_either : OpensAtLeft → (run maybe : List RunEvent) (m : NodeState) (copy : Files) (create : Bool) (now : ℕ) → RunFits run × RunFits maybe → LeftByEither run maybe (read_files copy)
    → AreRooms m.state.rooms → m.journal.is_broken ≡ false → Tells (OpensNode create now m.state) (Some copy) (told m.journal) → IsAt (with_restart run now) m ⊎ IsAt (with_restart maybe now) m
opens_either opens run maybe m copy create now fits (inl left) rooms works opened = inl (opens run create now m copy fits.0 left rooms works opened)
opens_either opens run maybe m copy create now fits (inr left) rooms works opened = inr (opens maybe create now m copy fits.1 left rooms works opened)

pub promotes : CrashLeaves → OpensAtLeft → Promotes
promotes crash opens run maybe n m files copy standby create now p rooms works opened =
    let left = crash run maybe n files copy p.stands p.told (left_of run maybe n files copy standby p) in
    opens_either opens run maybe m copy create now p.stands.fits left.0 rooms works opened

pub refuses_either : RefusesLeft → (run maybe : List RunEvent) (copy : Files) (create : Bool) (now : ℕ) (e : PlacementOpenError) → LeftByEither run maybe (read_files copy) → IsShortEnough copy → RefusesNode create now e copy → MayRefuse create now e copy
refuses_either refuses run maybe copy create now e (inl left) short refused = refuses run create now e copy left short refused
refuses_either refuses run maybe copy create now e (inr left) short refused = refuses maybe create now e copy left short refused

pub refuses_promotion : CrashLeaves → RefusesLeft → RefusesPromotion
refuses_promotion crash refuses run maybe n files copy standby create now e p refused =
    let left = crash run maybe n files copy p.stands p.told (left_of run maybe n files copy standby p) in
    refuses_either refuses run maybe copy create now e left.0 left.1 refused
