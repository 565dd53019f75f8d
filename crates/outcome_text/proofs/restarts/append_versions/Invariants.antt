use Rattle.std.proofs.Common.{◌≡◌, ◌++◌, take}
use Rattle.outcome_text.specs.Outcomes.{versions_text}
use Rattle.outcome_text.proofs.restarts.append_versions.Given as goal

abbrev pub invariant-loop-version : goal.invariant-loop-version
invariant-loop-version l = l.into.items ≡ l.fn.into.items ++ versions_text (take l.version-index l.versions)
