use Rattle.std.proofs.Common.{◌∙◌, ap, ◌≤◌, length, take_all, List}
use Rattle.std.specs.List.{list_any}
use Rattle.place_table.specs.declared.host.HostInfo.{HostInfo}
use Rattle.place_table.specs.Hosts.{serves}
use Rattle.place_table.proofs.RingBuilds.{rings_kept}
use Rattle.place_table.proofs.build.all_rings.Goals as goal

pub returns : goal.returns
returns c =
    let over : length c.args.hosts.now ≤ c.loop-host.host-index = c.loop-host-test.false in
    rings_kept c.args.hosts.now c.loop-host.rings.items c.loop-host.invariant.0
    (λ k e. c.loop-host.invariant.1 k (ap (λ (hs : List HostInfo). list_any (λ h. serves h k) hs) (take_all c.loop-host.host-index c.args.hosts.now over) ∙ e))
