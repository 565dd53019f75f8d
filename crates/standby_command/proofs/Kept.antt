-- What came of the disk of a standby.
use Rattle.std.proofs.Common.{◌≡◌, inl, inr, ℕ, Bool, List, [], ◌∷◌, Option, Some, refl, subst}
use Rattle.disk_model.specs.Disk.{DiskState}
use Rattle.server_ports.specs.Hosts.{Handed, Hands, nothing_handed}
use Rattle.server_ports.proofs.Handed.{hands_both}
use Rattle.standby_command.specs.declared.command.StandbyEnd.{StandbyEnd}
use Rattle.standby_command.specs.Runs.{Serves, ServesDisk, IsUnserved, ended_by, disk_opened, given_back, RunsDisk, RunsStandby}

-- sessions were served on it
pub served_disk : (most : Option ℕ) (disk last : Option DiskState) (served end : StandbyEnd) (disk_failed port_failed : Bool) (before mid after : Option Handed)
    → Serves most disk last served → end ≡ ended_by served disk_failed port_failed → mid ≡ before → Hands mid (given_back (last ∷ [])) after
    → (back : List (Option DiskState)) × Hands before (given_back back) after × ServesDisk most disk end back
served_disk most disk last served end disk_failed port_failed before mid after serves is same hands =
    (last ∷ [], subst (λ (m : Option Handed). Hands m (given_back (last ∷ [])) after) same hands, (served, disk_failed, port_failed, last, serves, is, refl))

-- it was opened, and something came of it
pub opened_disk : (path : List ℕ) (most : Option ℕ) (disk : Option DiskState) (end : StandbyEnd) (before mid after : Option Handed)
    → Hands before (record { opened = disk_opened path disk ∷ []; returned = [] }) mid
    → ((back : List (Option DiskState)) × Hands mid (given_back back) after × RunsDisk most disk end back)
    → (given : Handed) × Hands before given after × RunsStandby path most end given
opened_disk path most disk end before mid after opens (back, hands, came) = (
  record { opened = disk_opened path disk ∷ []; returned = back },
  hands_both before mid after (record { opened = disk_opened path disk ∷ []; returned = [] }) (given_back back) opens hands,
  inr (disk, back, refl, came),
)

-- its port wasn't bound
pub unserved : (most : Option ℕ) (disk : Option DiskState) (end : StandbyEnd) (before mid after : Option Handed) → IsUnserved end → mid ≡ before → Hands mid (given_back (disk ∷ [])) after
    → (back : List (Option DiskState)) × Hands before (given_back back) after × RunsDisk most disk end back
unserved most disk end before mid after is same hands =
    (disk ∷ [], subst (λ (m : Option Handed). Hands m (given_back (disk ∷ [])) after) same hands, inl (is, refl))

pub sessions_served : (most : Option ℕ) (disk : Option DiskState) (end : StandbyEnd) (before mid after : Option Handed) → mid ≡ before
    → ((back : List (Option DiskState)) × Hands mid (given_back back) after × ServesDisk most disk end back)
    → (back : List (Option DiskState)) × Hands before (given_back back) after × RunsDisk most disk end back
sessions_served most disk end before mid after same (back, hands, came) = (back, subst (λ (m : Option Handed). Hands m (given_back back) after) same hands, inr came)
