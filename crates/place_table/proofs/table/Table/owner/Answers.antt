use Rattle.std.proofs.Common.{◌≡◌, ◌∙◌, ap, subst, IfSome, List}
use Rattle.place_table.specs.declared.point.Point.{Point}
use Rattle.place_table.specs.declared.host.HostInfo.{HostInfo}
use Rattle.place_table.specs.declared.table.Kept.{Kept}
use Rattle.place_table.specs.Ring.{IsOwner}
use Rattle.place_table.specs.Hosts.{PlacementTable, key_place, ring_points, node_of}
use Rattle.place_table.proofs.table.Table.owner.Goals as goal

pub returns-clause-point : goal.returns-clause-point
returns-clause-point g c =
    let hosts : c.as_slice.result.now ≡ c.args.self.now.hosts = c.as_slice.ensures.value ∙ ap (λ (k : Kept). k.hosts.items) c.deref-kept.ensures ∙ ap (λ (t : PlacementTable). t.hosts) c.self.view_is in
    subst (λ (hs : List HostInfo). IfSome c.owner_host.result (λ h. (p : Point) × IsOwner (ring_points hs c.args.key.now.kind) (key_place c.args.key.now.id) p × (p.node ≡ node_of h.now))) hosts c.owner_host.ensures.point
