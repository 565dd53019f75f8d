use Rattle.std.proofs.Common.{refl, subst, ◌∙◌, ℕ, List, []}
use Rattle.exchanges.specs.Replies.{IsHttpExchange, place_at}
use Rattle.exchanges.proofs.Diallings.{none_made}
use Rattle.actor_calls.proofs.Texts.{call_text_of}
use Rattle.actor_calls.proofs.calling.call_method.Goals as goal

pub returns-in-Err : goal.returns-in-Err
returns-in-Err g c = ([], refl, none_made _ _)

pub returns-in-Ok : goal.returns-in-Ok
returns-in-Ok g c =
    let x = c.exchange_text_at.ensures in (
      x.0,
      subst (λ (t : List ℕ). IsHttpExchange t (place_at c.args.at.now) x.0 c.exchange_text_at.result) (c.as_slice.ensures.value ∙ c.in-Ok.ensures ∙ call_text_of c.args.at.now c.args.call.now) x.1,
      x.2,
    )
