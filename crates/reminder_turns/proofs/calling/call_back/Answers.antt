use Rattle.std.proofs.Common.{subst, ℕ, List}
use Rattle.std.specs.Option.{option_copied}
use Rattle.exchanges.specs.Replies.{IsHttpExchange, place_at}
use Rattle.reminder_turns.proofs.Turns.{remind_text_by}
use Rattle.reminder_turns.proofs.calling.call_back.Goals as goal

pub returns : goal.returns
returns g c =
    let x = c.ask_app.ensures in
    let e = c.args.entry.now in (
      x.0,
      subst (λ (t : List ℕ). IsHttpExchange t (place_at c.args.at.now) x.0 c.ask_app.result)
          (remind_text_by c.args.at.now e.key.actor e.key.name (option_copied c.args.chain) _ e.payload _ e.due _ e.period c.payload_of.ensures c.as_str.ensures c.as_str-2.ensures) x.1,
      x.2,
    )
