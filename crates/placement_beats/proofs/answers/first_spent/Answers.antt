use Rattle.std.proofs.Common.{◌≡◌, ◌<◌, ◌∙◌, ◌+◌, List, [], ◌∷◌, None, length, drop, sym, ap, rules}
use Rattle.sidecar_node.specs.Turns.{Said, first_spent}
use Rattle.placement_beats.proofs.Folds.{drop_here, spent_hit, spent_on}
use Rattle.placement_beats.proofs.answers.first_spent.Goals as goal

pub returns-in-Some : goal.returns-in-Some
returns-in-Some c =
    let xs : List Said = c.args.saids.now in
    let within : c.loop-said.said-index < length xs = c.loop-said-test.true in
    let here = drop_here xs c.loop-said.said-index c.said-item.result within c.said-item.is in
    sym (spent_hit xs (drop (c.loop-said.said-index + 1) xs) c.said-item.result c.in-Some.spent (c.loop-said.invariant ∙ ap (λ (l : List Said). first_spent l) here) c.in-Some.ensures)

pub loop-said-preserved : goal.loop-said-preserved
loop-said-preserved c =
    let xs : List Said = c.args.saids.now in
    let within : c.loop-said.said-index < length xs = c.loop-said-test.true in
    let here = drop_here xs c.loop-said.said-index c.said-item.result within c.said-item.is in
    let on : first_spent (c.said-item.result ∷ []) ≡ None = search rules in
    spent_on xs (drop (c.loop-said.said-index + 1) xs) c.said-item.result (c.loop-said.invariant ∙ ap (λ (l : List Said). first_spent l) here) on
