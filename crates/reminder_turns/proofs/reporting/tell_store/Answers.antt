use Rattle.std.proofs.Common.{subst}
use Rattle.frame_wire.specs.declared.store_command.Stamp.{Stamp}
use Rattle.frame_wire.specs.declared.store_command.StoreCommand.TheVariants.{Fired}
use Rattle.exchanges.specs.Replies.{place_at}
use Rattle.exchanges.specs.Asked.{IsStoreExchange}
use Rattle.reminder_turns.proofs.reporting.tell_store.Goals as goal

pub returns : goal.returns
returns g c =
    let x = c.ask_store.ensures in
    let key = c.args.key in (
      x.0,
      subst (λ (s : Stamp). IsStoreExchange (Fired s key.actor key.name key.moment) (place_at c.args.at.now) x.0 c.ask_store.result) c.stamp_of-stamp.ensures x.1,
      x.2,
    )
