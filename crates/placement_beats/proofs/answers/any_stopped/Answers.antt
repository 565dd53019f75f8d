use Rattle.std.proofs.Common.{◌≡◌, ◌<◌, ◌∙◌, ◌+◌, List, true, false, length, drop, sym, ap, rules}
use Rattle.sidecar_node.specs.Turns.{Said}
use Rattle.placement_beats.specs.Answers.{says_stopped, any_stopped}
use Rattle.placement_beats.proofs.Folds.{drop_here, any_hit, any_on}
use Rattle.placement_beats.proofs.answers.any_stopped.Goals as goal

pub returns-then-says_stopped : goal.returns-then-says_stopped
returns-then-says_stopped c =
    let xs : List Said = c.args.saids.now in
    let within : c.loop-said.said-index < length xs = c.loop-said-test.true in
    let here = drop_here xs c.loop-said.said-index c.said-item.result within c.said-item.is in
    let hit : says_stopped c.said-item.result ≡ true = search rules in
    sym (any_hit xs (drop (c.loop-said.said-index + 1) xs) c.said-item.result (c.loop-said.invariant ∙ ap (λ (l : List Said). any_stopped l) here) hit)

pub loop-said-preserved : goal.loop-said-preserved
loop-said-preserved c =
    let xs : List Said = c.args.saids.now in
    let within : c.loop-said.said-index < length xs = c.loop-said-test.true in
    let here = drop_here xs c.loop-said.said-index c.said-item.result within c.said-item.is in
    let on : says_stopped c.said-item.result ≡ false = search rules in
    any_on xs (drop (c.loop-said.said-index + 1) xs) c.said-item.result (c.loop-said.invariant ∙ ap (λ (l : List Said). any_stopped l) here) on
