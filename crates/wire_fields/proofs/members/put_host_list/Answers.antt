use Rattle.std.proofs.Common.{◌++◌, None, option_map, sym, ap, ◌∙◌}
use Rattle.wire_fields.specs.Parts.{host, host_member, host_behind}
use Rattle.wire_fields.proofs.Loops.{fits_at, wrote_more}
use Rattle.wire_fields.proofs.PartLaws.{host_from_after, host_after-spell}
use Rattle.wire_fields.proofs.members.put_host_list.Goals as goal

pub put_host-requires : goal.put_host-requires
put_host-requires c =
    rw c.host-item.is (fits_at host_behind host.Fits (λ b h fits. host_from_after (option_map host_member b) h fits) None c.args.hosts.now c.loop-host.host-index _ c.requires c.loop-host-test.true)

pub loop-host-preserved : goal.loop-host-preserved
loop-host-preserved c =
    let one = c.host-item.result in
    let wrote = c.in_ok-put_host.ensures ∙ ap (λ l. c.loop-host.out.items ++ l) (sym (host_after-spell None one)) in
    wrote_more (host_behind None).spell c.args.hosts.now c.loop-host.host-index one _ c.loop-host.out.items c.put_host.new.out.items c.loop-host-test.true c.host-item.is c.loop-host.invariant wrote
