use Rattle.std.proofs.Common.{◌≡◌, ◌∙◌, ◌++◌, ◌∷◌, [], sym, ap, List, subst}
use Rattle.std.specs.Prelude.{Option, None}
use Rattle.cluster_model.specs.World.{CallPlace}
use Rattle.cluster_parts.specs.declared.calls.CallAt.{CallAt}
use Rattle.cluster_parts.specs.CallIndex.{calls_of, IsIndexed}
use Rattle.cluster_parts.proofs.CallNumbers.{indexed_none, calls-push}
use Rattle.cluster_parts.proofs.calls.Calls.add.Goals as goal

pub invariant_of-self : goal.invariant_of-self
invariant_of-self c =
    let pushed : calls_of c.push.new.self.items ≡ calls_of c.self.inside.items.items ++ None ∷ [] =
    ap (λ (xs : List (Option CallAt)). calls_of xs) (rw c.unwrap.ensures at c.push.ensures.items) ∙ calls-push c.self.inside.items.items None in
    subst (λ (xs : List (Option CallPlace)). IsIndexed xs c.self.inside.numbers) (sym pushed) (indexed_none (calls_of c.self.inside.items.items) c.self.inside.numbers c.self.invariant)
