use Rattle.std.proofs.Common.{refl, subst, ◌∙◌, ℕ, List, [], Err}
use Rattle.http_edge.specs.declared.error.EdgeError.TheVariants as edge
use Rattle.exchanges.specs.Replies.{IsHttpExchange, place_at}
use Rattle.exchanges.proofs.Diallings.{none_made}
use Rattle.actor_calls.specs.Texts.{forward_text}
use Rattle.actor_calls.specs.Hops.{AtMostTwice, AtMostThrice}
use Rattle.actor_calls.proofs.Texts.{forward_text_of}
use Rattle.actor_calls.proofs.Tries.{tries_once}
use Rattle.actor_calls.proofs.calling.hand_on.Goals as goal

pub returns-in-Err : goal.returns-in-Err
returns-in-Err g c =
    let text = forward_text c.args.at.now c.args.call.now.request.now c.args.call.now.least c.args.call.now.name.now in
    let at = place_at c.args.at.now in
    ([], tries_once (IsHttpExchange text at) (AtMostTwice text at) [] (Err edge.OutOfMemory) refl refl, none_made _ _)

pub returns-in-Ok : goal.returns-in-Ok
returns-in-Ok g c =
    let x = c.ask_thrice.ensures in (
      x.0,
      subst (λ (t : List ℕ). AtMostThrice t (place_at c.args.at.now) x.0 c.ask_thrice.result) (c.in-Ok.ensures ∙ forward_text_of c.args.at.now c.args.call.now) x.1,
      x.2,
    )
