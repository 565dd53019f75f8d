use Rattle.std.proofs.Common.{refl, subst, ◌∙◌, ℕ, List, []}
use Rattle.app_texts.specs.Texts.{reminder_text}
use Rattle.exchanges.specs.Replies.{IsHttpExchange, place_at}
use Rattle.exchanges.proofs.Diallings.{none_made}
use Rattle.reminder_turns.proofs.Turns.{remind_text_of}
use Rattle.reminder_turns.proofs.calling.ask_app.Goals as goal

pub returns-in-Err : goal.returns-in-Err
returns-in-Err g c = ([], refl, none_made _ _)

pub returns-in-Ok : goal.returns-in-Ok
returns-in-Ok g c =
    let x = c.exchange_at.ensures in (
      x.0,
      subst (λ (t : List ℕ). IsHttpExchange t (place_at c.args.at.now) x.0 c.exchange_at.result) (◌∙◌ {b = reminder_text c.args.at.now c.args.callback.now} c.in-Ok.ensures (remind_text_of c.args.at.now c.args.callback.now)) x.1,
      x.2,
    )
