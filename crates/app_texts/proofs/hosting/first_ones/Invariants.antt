use Rattle.std.proofs.Common.{◌≡◌, [], ◌++◌, drop}
use Rattle.app_texts.specs.Config.{first_ones}
use Rattle.app_texts.proofs.hosting.first_ones.Given as goal

abbrev pub invariant-loop-kind : goal.invariant-loop-kind
invariant-loop-kind l = l.first.items ++ first_ones l.first.items (drop l.kind-index l.types) ≡ first_ones [] l.types
