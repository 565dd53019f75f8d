use Rattle.std.proofs.Common.{◌≡◌, ◌-◌, None, Option, option_map}
use Rattle.place_table.specs.declared.host.HostInfo.{HostInfo}
use Rattle.wire_fields.specs.Fields.{many_at}
use Rattle.wire_fields.specs.Parts.{host_member, host_behind}
use Rattle.wire_fields.proofs.Loops.{Stands}
use Rattle.wire_fields.proofs.members.host_list_at.Given as goal

abbrev pub invariant-loop : goal.invariant-loop
invariant-loop l = (b : Option HostInfo) × (l.before ≡ option_map host_member b) × Stands host_behind b l.hosts.items (l.count - l.counter) l.rest.now (many_at host_behind None l.count l.fn.rest.now)
