use Rattle.std.proofs.Common.{◌≡◌, ◌≤◌, drop}
use Rattle.app_texts.specs.Config.{treatment_or}
use Rattle.app_texts.proofs.hosting.treatment_of.Given as goal

abbrev pub invariant-loop-group : goal.invariant-loop-group
invariant-loop-group l = record {
  treatment : treatment_or l.found (drop l.group-index l.groups) l.kind ≡ treatment_or l.fn.outer l.groups l.kind;
  shallow : l.found.depth ≤ 1024;
}
