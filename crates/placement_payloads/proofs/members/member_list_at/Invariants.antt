use Rattle.std.proofs.Common.{◌-◌, None, Option}
use Rattle.actor_names.specs.declared.member.Member.{Member}
use Rattle.wire_fields.specs.Fields.{many_at, in_any_order}
use Rattle.wire_fields.proofs.Loops.{Stands}
use Rattle.placement_payloads.specs.Payloads.{local_member}
use Rattle.placement_payloads.proofs.members.member_list_at.Given as goal

abbrev pub invariant-loop : goal.invariant-loop
invariant-loop l = (b : Option Member) × Stands (in_any_order (local_member l.space)) b l.members.items (l.count - l.counter) l.rest.now (many_at (in_any_order (local_member l.space)) None l.count l.fn.rest.now)
