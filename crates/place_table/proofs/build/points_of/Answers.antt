use Rattle.std.proofs.Common.{◌≡◌, ◌∙◌, ap, sym, subst, ◌<◌, length, arith, List, map, All}
use Rattle.place_table.specs.declared.table.Slot.{Slot}
use Rattle.place_table.specs.Hosts.{serves}
use Rattle.place_table.specs.Tables.{slot_point, places_of}
use Rattle.place_table.proofs.RingBuilds.{ring_step, numbers_step, row_at}
use Rattle.place_table.proofs.build.points_of.Goals as goal

pub loop-i-preserved : goal.loop-i-preserved
loop-i-preserved c =
    let within : c.loop-i.i < length c.args.hosts.now = omega arith in
    let row : c.as_slice.result.now ≡ places_of c.index-hosts-i.result =
    c.as_slice.ensures.value ∙ row_at c.args.rows.now c.args.hosts.now c.loop-i.i c.index-rows-i.result c.index-hosts-i.result c.requires within c.index-rows-i.is c.index-hosts-i.is in (
      ap (map (slot_point c.args.hosts.now)) c.in_ok-push_host.ensures
          ∙ ring_step c.args.hosts.now c.args.kind.now c.loop-i.slots.items c.loop-i.i c.index-hosts-i.result c.as_slice.result.now within c.index-hosts-i.is row c.loop-i.invariant.0,
      subst (λ (ss : List Slot). All (λ (s : Slot). s.host < length c.args.hosts.now) ss) (sym c.in_ok-push_host.ensures)
          (numbers_step (length c.args.hosts.now) c.loop-i.slots.items c.loop-i.i c.as_slice.result.now (serves c.index-hosts-i.result c.args.kind.now) within c.loop-i.invariant.1),
    )
