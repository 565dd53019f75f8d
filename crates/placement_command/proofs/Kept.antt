-- What came of the disk of a placement.
use Rattle.std.proofs.Common.{◌≡◌, inl, inr, ℕ, Bool, false, List, [], ◌∷◌, Option, Some, refl, sym, ap, subst}
use Rattle.actor_names.specs.declared.address.Address.{Address}
use Rattle.disk_model.specs.Disk.{DiskState, Tells}
use Rattle.server_ports.specs.Hosts.{Handed, Hands}
use Rattle.server_ports.proofs.Handed.{hands_nothing, hands_both}
use Rattle.step_gate.specs.History.{HistoryLeadsTo}
use Rattle.tx_journal.specs.Calls.{told, tell_one, first_side}
use Rattle.tx_journal.specs.Pair.{Files}
use Rattle.placement_core.specs.Runs.{AreRooms}
use Rattle.placement_node.specs.declared.error.PlacementOpenError.{PlacementOpenError}
use Rattle.placement_node.specs.Node.{NodeState, NodeAllows}
use Rattle.placement_node.specs.Openings.{OpensNode, KeepsNode, RefusesNode, IsNodeError}
use Rattle.placement_node.specs.Runs.{OpensAtEnd, StepsAtEnd, StandsAfter}
use Rattle.placement_node.specs.Histories.{NodeHistory, FollowsHistory}
use Rattle.placement_command.specs.declared.command.PlacementEnd.{PlacementEnd}
use Rattle.placement_command.specs.declared.command.PlacementEnd.TheVariants as ends
use Rattle.placement_command.specs.Runs.{IsServedEnd, EndsNode, end_of, RunsDisk, IsUncopied, RunsMirrored, RunsWith, RunsPlacement, given_back, disk_opened}
use Rattle.placement_command.proofs.Crashes.{goes_on, keeps_all}

-- what an open node tells when it is given back
abbrev pub node_back : NodeState → List (Option DiskState)
node_back n = (first_side n.journal).told ∷ []

pub served_with : StepsAtEnd → StandsAfter → FollowsHistory → (n last : NodeState) (h : NodeHistory) (end : PlacementEnd) (before mid after : Option Handed)
    → HistoryLeadsTo NodeAllows n h last → IsServedEnd end → mid ≡ before → Hands mid (given_back (node_back last)) after
    → (back : List (Option DiskState)) × Hands before (given_back back) after × EndsNode n end back
served_with steps stands follows n last h end before mid after leads opened same hands = (
  node_back last,
  subst (λ (m : Option Handed). Hands m (given_back (node_back last)) after) same hands,
  inl (opened, record { history = h; last = last; leads = leads; keeps = keeps_all steps stands follows n last h leads; returned = refl }),
)

-- it wasn't served
pub unserved : StepsAtEnd → StandsAfter → FollowsHistory → (n : NodeState) (end : PlacementEnd) (before mid after : Option Handed)
    → IsServedEnd end → mid ≡ before → Hands mid (given_back (node_back n)) after
    → (back : List (Option DiskState)) × Hands before (given_back back) after × EndsNode n end back
unserved steps stands follows n end before mid after opened same hands = served_with steps stands follows n n [] end before mid after refl opened same hands

-- it is lost with its disk
pub lost : (n : NodeState) (before after : Option Handed) → after ≡ before → (back : List (Option DiskState)) × Hands before (given_back back) after × EndsNode n ends.OutOfMemory back
lost n before after same = ([], hands_nothing before after same, inr (refl, refl))

-- the node of the disk wasn't opened
pub refused_runs : (create : Bool) (now : ℕ) (disk disk_back : Option DiskState) (e : PlacementOpenError) (end : PlacementEnd) (before after : Option Handed)
    → end ≡ end_of e → IsNodeError e → ((files : Files) → tell_one disk ≡ Some files → RefusesNode create now e files) → Tells (KeepsNode create now) (tell_one disk) (tell_one disk_back)
    → Hands before (given_back (disk_back ∷ [])) after
    → (back : List (Option DiskState)) × Hands before (given_back back) after × RunsDisk create now disk end back
refused_runs create now disk disk_back e end before after is error cause crash hands =
    (disk_back ∷ [], hands, inl (e, is, record { error = error; cause = cause; disk_back = disk_back; returned = refl; crash = crash }))

-- it was opened
pub opened_runs : OpensAtEnd → (create : Bool) (now : ℕ) (disk : Option DiskState) (n : NodeState) (end : PlacementEnd) (before after : Option Handed)
    → Tells (OpensNode create now n.state) (tell_one disk) (told n.journal) → Tells (KeepsNode create now) (tell_one disk) (told n.journal) → n.journal.is_broken ≡ false → AreRooms n.state.rooms
    → ((back : List (Option DiskState)) × Hands before (given_back back) after × EndsNode n end back)
    → (back : List (Option DiskState)) × Hands before (given_back back) after × RunsDisk create now disk end back
opened_runs law create now disk n end before after opened crash works rooms (back, hands, came) =
    (back, hands, inr (n, record { opened = opened; crash = crash; works = works; goes_on = goes_on law create now disk n opened rooms works }, came))

-- the moment is the one that the clock showed
pub at_moment : (create : Bool) (now shown : ℕ) (disk : Option DiskState) (end : PlacementEnd) (before after : Option Handed) → shown ≡ now
    → ((back : List (Option DiskState)) × Hands before (given_back back) after × RunsDisk create now disk end back)
    → (back : List (Option DiskState)) × Hands before (given_back back) after × RunsDisk create shown disk end back
at_moment create now shown disk end before after is (back, hands, runs) = (back, hands, subst (λ (m : ℕ). RunsDisk create m disk end back) (sym is) runs)

-- a standby wasn't reached, or got no copy
pub uncopied : (create : Bool) (now : ℕ) (disk disk_back : Option DiskState) (end : PlacementEnd) (before after : Option Handed) → IsUncopied end → disk_back ≡ disk → Hands before (given_back (disk_back ∷ [])) after
    → (back : List (Option DiskState)) × Hands before (given_back back) after × RunsMirrored create now disk end back
uncopied create now disk disk_back end before after is same hands = (disk_back ∷ [], hands, inl (is, ap (λ (d : Option DiskState). d ∷ []) same))

-- it got one
pub copied : (create : Bool) (now : ℕ) (disk mirrored : Option DiskState) (end : PlacementEnd) (before after : Option Handed) → mirrored ≡ disk
    → ((back : List (Option DiskState)) × Hands before (given_back back) after × RunsDisk create now mirrored end back)
    → (back : List (Option DiskState)) × Hands before (given_back back) after × RunsMirrored create now disk end back
copied create now disk mirrored end before after same (back, hands, runs) = (back, hands, inr (subst (λ (d : Option DiskState). RunsDisk create now d end back) same runs))

-- the disk was opened, and something came of it
pub opened_disk : (standby : Option Address) (path : List ℕ) (create : Bool) (now : ℕ) (disk : Option DiskState) (end : PlacementEnd) (before mid after : Option Handed)
    → Hands before (record { opened = disk_opened path create disk ∷ []; returned = [] }) mid
    → ((back : List (Option DiskState)) × Hands mid (given_back back) after × RunsWith standby create now disk end back)
    → (given : Handed) × Hands before given after × RunsPlacement standby path create now end given
opened_disk standby path create now disk end before mid after opens (back, hands, came) = (
  record { opened = disk_opened path create disk ∷ []; returned = back },
  hands_both before mid after (record { opened = disk_opened path create disk ∷ []; returned = [] }) (given_back back) opens hands,
  inr (disk, back, refl, came),
)
