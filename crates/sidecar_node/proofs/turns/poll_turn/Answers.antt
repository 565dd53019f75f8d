use Rattle.std.proofs.Common.{rules}
use Rattle.sidecar_node.proofs.Makings.{wait_ends}
use Rattle.sidecar_node.proofs.turns.poll_turn.Goals as goal

pub returns-clause-polls : goal.returns-clause-polls
returns-clause-polls g c =
    wait_ends _ _ c.args.call c.args.seat c.wait_until.result.0 c.wait_until.result.1 (λ e h. search rules) (λ r h. search rules) (λ r h. search rules) c.wait_until.ensures.entries c.wait_until.ensures.spent
