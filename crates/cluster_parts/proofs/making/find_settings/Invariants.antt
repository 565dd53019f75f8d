use Rattle.std.proofs.Common.{◌≡◌, unwrap_or, drop}
use Rattle.std.specs.Option.{option_copied}
use Rattle.part_model.specs.Settings.{settings_or}
use Rattle.cluster_model.specs.World.{unnamed_settings, settings_in}
use Rattle.cluster_parts.proofs.making.find_settings.Given as goal

abbrev pub invariant-loop-entry : goal.invariant-loop-entry
invariant-loop-entry l =
    settings_or (unwrap_or (option_copied l.found) (unnamed_settings l.fn.settings l.kind)) (drop l.entry-index l.kinds) l.kind ≡ settings_in l.fn.settings l.kind
