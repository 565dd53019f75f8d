use Rattle.std.proofs.Common.{◌≡◌, unwrap_or, drop}
use Rattle.std.specs.Option.{option_copied}
use Rattle.part_model.specs.Settings.{default_settings, settings_or, settings_of}
use Rattle.part_core.proofs.settings.find_settings.Given as goal

abbrev pub invariant-loop-settings : goal.invariant-loop-settings
invariant-loop-settings l =
    settings_or (unwrap_or (option_copied l.found) (default_settings l.kind)) (drop l.settings-index l.kinds) l.kind ≡ settings_of l.kinds l.kind
