use Rattle.std.proofs.Common.{◌≡◌, ◌++◌, None, take}
use Rattle.wire_fields.specs.Fields.{spell_all}
use Rattle.wire_fields.specs.Parts.{host_behind}
use Rattle.wire_fields.proofs.members.put_host_list.Given as goal

abbrev pub invariant-loop-host : goal.invariant-loop-host
invariant-loop-host l = l.out.items ≡ l.initial.out.items ++ spell_all (host_behind None).spell (take l.host-index l.hosts)
