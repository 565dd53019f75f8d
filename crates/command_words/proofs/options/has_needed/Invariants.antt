use Rattle.std.proofs.Common.{◌≡◌, drop, map, not, ◌||◌}
use Rattle.std.specs.List.{list_all}
use Rattle.command_words.specs.Options.{is_among, is_needed, has_needed}
use Rattle.command_words.specs.Told.{told_option}
use Rattle.command_words.proofs.options.has_needed.Given as goal

abbrev pub invariant-loop-option : goal.invariant-loop-option
invariant-loop-option l =
    list_all (λ o. not (is_needed o.1) || is_among (map (λ n. n.now) l.names) o.0) (map told_option (drop l.option-index l.options))
    ≡ has_needed (map told_option l.options) (map (λ n. n.now) l.names)
