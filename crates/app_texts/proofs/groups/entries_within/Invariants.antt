use Rattle.std.proofs.Common.{◌≡◌}
use Rattle.app_texts.specs.declared.config_key.ConfigKey.TheVariants.{EntitiesConfig}
use Rattle.app_texts.specs.Groups.{entry_reading, list_reading}
use Rattle.app_texts.proofs.Listed.{read_from}
use Rattle.app_texts.proofs.groups.entries_within.Given as goal

abbrev pub invariant-loop-index : goal.invariant-loop-index
invariant-loop-index l = read_from entry_reading l.groups.items l.index l.value ≡ list_reading EntitiesConfig entry_reading l.value
