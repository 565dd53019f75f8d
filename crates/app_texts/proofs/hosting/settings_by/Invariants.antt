use Rattle.std.proofs.Common.{◌≡◌, ◌++◌, drop}
use Rattle.part_model.specs.Settings.{AreShallow}
use Rattle.app_texts.specs.Config.{settings_by}
use Rattle.app_texts.proofs.hosting.settings_by.Given as goal

abbrev pub invariant-loop-kind : goal.invariant-loop-kind
invariant-loop-kind l = record {
  settings : l.list.items ++ settings_by l.outer l.groups (drop l.kind-index l.types) ≡ settings_by l.outer l.groups l.types;
  shallow : AreShallow l.list.items;
}
