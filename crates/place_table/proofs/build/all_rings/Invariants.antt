use Rattle.std.proofs.Common.{◌≡◌, ℕ, List, true, take, All}
use Rattle.std.specs.List.{list_any}
use Rattle.place_table.specs.Hosts.{serves}
use Rattle.place_table.specs.Tables.{is_known, IsRingOf}
use Rattle.place_table.proofs.build.all_rings.Given as goal

abbrev pub invariant-loop-host : goal.invariant-loop-host
invariant-loop-host l = All (λ r. IsRingOf l.hosts r.kind r.slots.items) l.rings.items × ((k : List ℕ) → list_any (λ h. serves h k) (take l.host-index l.hosts) ≡ true → is_known k l.rings.items ≡ true)
