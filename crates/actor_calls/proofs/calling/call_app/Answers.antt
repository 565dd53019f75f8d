use Rattle.std.proofs.Common.{subst, ℕ, List}
use Rattle.std.specs.Option.{option_copied}
use Rattle.exchanges.specs.Replies.{IsHttpExchange, place_at}
use Rattle.actor_calls.specs.Texts.{call_text}
use Rattle.actor_calls.proofs.calling.call_app.Goals as goal

pub returns-clause-exchange : goal.returns-clause-exchange
returns-clause-exchange g c =
    let x = c.call_method.ensures in
    let at = c.args.links.now.app_at in (
      x.0,
      subst (λ (m : List ℕ). IsHttpExchange (call_text at c.args.invoke.now.actor m (option_copied c.args.chain) c.args.request.now) (place_at at) x.0 c.call_method.result) c.as_slice.ensures x.1,
      x.2,
    )
