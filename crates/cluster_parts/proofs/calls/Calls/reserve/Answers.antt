use Rattle.std.proofs.Common.{◌∙◌, sym, ap, List}
use Rattle.std.specs.Prelude.{Option}
use Rattle.cluster_parts.specs.declared.calls.CallAt.{CallAt}
use Rattle.cluster_parts.specs.CallIndex.{calls_of, first_call}
use Rattle.cluster_parts.proofs.calls.Calls.reserve.Goals as goal

pub invariant_of-self-2 : goal.invariant_of-self-2
invariant_of-self-2 c place call =
    c.reserve-2.ensures.entries.2 (place, call) ∙ c.self.invariant place call ∙ ap (λ (xs : List (Option CallAt)). first_call (calls_of xs) 1 place call) (sym c.reserve.ensures.items)
