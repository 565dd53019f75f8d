use Rattle.std.proofs.Common.{◌≡◌, sym, ap, refl, length, ◌<◌, rules}
use Rattle.std.specs.Prelude.{option_and_then}
use Rattle.place_table.specs.Tables.{slot_point}
use Rattle.place_table.specs.Hosts.{key_place, ring_points, host_of}
use Rattle.place_table.proofs.PointSearch.{places_rise}
use Rattle.place_table.proofs.SlotOrder.{kept_ring, next_number, some_point, none_point, ring_length}
use Rattle.place_table.proofs.TableOwners.{found_host, owner_is, owner_point_is, none_owns, some_owns, owner_node_is, no_owner_node}
use Rattle.place_table.proofs.table.owner_host.Goals as goal

pub owner_slot-requires : goal.owner_slot-requires
owner_slot-requires g c =
    let hosts = c.args.hosts.now in
    let kind = c.args.key.now.kind in
    let slots = c.ring_slots-slots.result.now in
    let ring = kept_ring hosts c.args.rings.now kind slots c.requires.kept c.ring_slots-slots.ensures in
    places_rise hosts slots ring.ordered

pub offset_bounds-hosts-slot : goal.offset_bounds-hosts-slot
offset_bounds-hosts-slot g c =
    let hosts = c.args.hosts.now in
    let kind = c.args.key.now.kind in
    let slots = c.ring_slots-slots.result.now in
    let ring = kept_ring hosts c.args.rings.now kind slots c.requires.kept c.ring_slots-slots.ensures in
    let number : c.in-Some.slot.host < length hosts = next_number hosts kind slots c.args.place c.in-Some.slot ring c.in-Some.ensures.owner in
    search rules

pub bounds-hosts-slot : goal.bounds-hosts-slot
bounds-hosts-slot g c =
    let hosts = c.args.hosts.now in
    let kind = c.args.key.now.kind in
    let slots = c.ring_slots-slots.result.now in
    let ring = kept_ring hosts c.args.rings.now kind slots c.requires.kept c.ring_slots-slots.ensures in
    next_number hosts kind slots c.args.place c.in-Some.slot ring c.in-Some.ensures.owner

pub returns-in-None-clause-owner : goal.returns-in-None-clause-owner
returns-in-None-clause-owner g c =
    let hosts = c.args.hosts.now in
    let kind = c.args.key.now.kind in
    let slots = c.ring_slots-slots.result.now in
    let ring = kept_ring hosts c.args.rings.now kind slots c.requires.kept c.ring_slots-slots.ensures in
    let none = none_point hosts kind slots c.args.place (key_place c.args.key.now.id) ring c.requires.placed c.in-None.ensures.owner in
    ap (λ o. option_and_then (host_of hosts) o) (no_owner_node hosts c.args.key.now none)

pub returns-in-None-clause-node : goal.returns-in-None-clause-node
returns-in-None-clause-node g c =
    let hosts = c.args.hosts.now in
    let kind = c.args.key.now.kind in
    let slots = c.ring_slots-slots.result.now in
    let ring = kept_ring hosts c.args.rings.now kind slots c.requires.kept c.ring_slots-slots.ensures in
    let none = none_point hosts kind slots c.args.place (key_place c.args.key.now.id) ring c.requires.placed c.in-None.ensures.owner in
    no_owner_node hosts c.args.key.now none

pub returns-in-None-clause-none : goal.returns-in-None-clause-none
returns-in-None-clause-none g c =
    let hosts = c.args.hosts.now in
    let kind = c.args.key.now.kind in
    let slots = c.ring_slots-slots.result.now in
    let ring = kept_ring hosts c.args.rings.now kind slots c.requires.kept c.ring_slots-slots.ensures in
    let none = none_point hosts kind slots c.args.place (key_place c.args.key.now.id) ring c.requires.placed c.in-None.ensures.owner in
    (λ _. none_owns hosts kind (key_place c.args.key.now.id) none, λ _. refl)

pub returns-in-None-clause-probes : goal.returns-in-None-clause-probes
returns-in-None-clause-probes g c =
    let hosts = c.args.hosts.now in
    let kind = c.args.key.now.kind in
    let slots = c.ring_slots-slots.result.now in
    let ring = kept_ring hosts c.args.rings.now kind slots c.requires.kept c.ring_slots-slots.ensures in
    let n : length slots ≡ length (ring_points hosts kind) = ring_length hosts kind slots ring in
    rw (sym n) c.owner_slot.ensures.probes

pub returns-in-Some-clause-owner : goal.returns-in-Some-clause-owner
returns-in-Some-clause-owner g c =
    let hosts = c.args.hosts.now in
    let kind = c.args.key.now.kind in
    let slots = c.ring_slots-slots.result.now in
    let ring = kept_ring hosts c.args.rings.now kind slots c.requires.kept c.ring_slots-slots.ensures in
    let owns = some_point hosts kind slots c.args.place (key_place c.args.key.now.id) c.in-Some.slot ring c.requires.placed c.in-Some.ensures.owner in
    let number : c.in-Some.slot.host < length hosts = next_number hosts kind slots c.args.place c.in-Some.slot ring c.in-Some.ensures.owner in
    let found = found_host hosts c.in-Some.slot.host c.index-hosts-slot.result number c.index-hosts-slot.is in
    owner_is hosts c.args.key.now c.in-Some.slot c.index-hosts-slot.result c.requires.kept.ordered found owns

pub returns-in-Some-clause-node : goal.returns-in-Some-clause-node
returns-in-Some-clause-node g c =
    let hosts = c.args.hosts.now in
    let kind = c.args.key.now.kind in
    let slots = c.ring_slots-slots.result.now in
    let ring = kept_ring hosts c.args.rings.now kind slots c.requires.kept c.ring_slots-slots.ensures in
    let owns = some_point hosts kind slots c.args.place (key_place c.args.key.now.id) c.in-Some.slot ring c.requires.placed c.in-Some.ensures.owner in
    let number : c.in-Some.slot.host < length hosts = next_number hosts kind slots c.args.place c.in-Some.slot ring c.in-Some.ensures.owner in
    let found = found_host hosts c.in-Some.slot.host c.index-hosts-slot.result number c.index-hosts-slot.is in
    owner_node_is hosts c.args.key.now c.in-Some.slot c.index-hosts-slot.result found owns

pub returns-in-Some-clause-point : goal.returns-in-Some-clause-point
returns-in-Some-clause-point g c =
    let hosts = c.args.hosts.now in
    let kind = c.args.key.now.kind in
    let slots = c.ring_slots-slots.result.now in
    let ring = kept_ring hosts c.args.rings.now kind slots c.requires.kept c.ring_slots-slots.ensures in
    let owns = some_point hosts kind slots c.args.place (key_place c.args.key.now.id) c.in-Some.slot ring c.requires.placed c.in-Some.ensures.owner in
    let number : c.in-Some.slot.host < length hosts = next_number hosts kind slots c.args.place c.in-Some.slot ring c.in-Some.ensures.owner in
    let found = found_host hosts c.in-Some.slot.host c.index-hosts-slot.result number c.index-hosts-slot.is in
    owner_point_is hosts kind (key_place c.args.key.now.id) c.in-Some.slot c.index-hosts-slot.result found owns

pub returns-in-Some-clause-among : goal.returns-in-Some-clause-among
returns-in-Some-clause-among g c =
    let hosts = c.args.hosts.now in
    let kind = c.args.key.now.kind in
    let slots = c.ring_slots-slots.result.now in
    let ring = kept_ring hosts c.args.rings.now kind slots c.requires.kept c.ring_slots-slots.ensures in
    let number : c.in-Some.slot.host < length hosts = next_number hosts kind slots c.args.place c.in-Some.slot ring c.in-Some.ensures.owner in
    (c.in-Some.slot.host, number, sym c.index-hosts-slot.is)

pub returns-in-Some-clause-none : goal.returns-in-Some-clause-none
returns-in-Some-clause-none g c =
    let hosts = c.args.hosts.now in
    let kind = c.args.key.now.kind in
    let slots = c.ring_slots-slots.result.now in
    let ring = kept_ring hosts c.args.rings.now kind slots c.requires.kept c.ring_slots-slots.ensures in
    let owns = some_point hosts kind slots c.args.place (key_place c.args.key.now.id) c.in-Some.slot ring c.requires.placed c.in-Some.ensures.owner in
    (λ e. search, some_owns hosts kind (key_place c.args.key.now.id) (slot_point hosts c.in-Some.slot) owns)

pub returns-in-Some-clause-probes : goal.returns-in-Some-clause-probes
returns-in-Some-clause-probes g c =
    let hosts = c.args.hosts.now in
    let kind = c.args.key.now.kind in
    let slots = c.ring_slots-slots.result.now in
    let ring = kept_ring hosts c.args.rings.now kind slots c.requires.kept c.ring_slots-slots.ensures in
    let n : length slots ≡ length (ring_points hosts kind) = ring_length hosts kind slots ring in
    rw (sym n) c.owner_slot.ensures.probes
