-- No history of lists lowers the epoch of an actor.
use Rattle.std.proofs.Common.{ℕ, ◌≤◌, [], ◌∷◌, sym, subst}
use Rattle.actor_names.specs.declared.actor_key.ActorKey.{ActorKey}
use Rattle.store_tables.specs.Tables.{Tables}
use Rattle.store_core.specs.Store.{StoreState}
use Rattle.fence_rows.specs.declared.event.FencedEvent.{FencedEvent}
use Rattle.fence_rows.specs.declared.event.FencedEvent.TheVariants.{Command, Compact}
use Rattle.fence_rows.specs.declared.event.FencedOutcome.{FencedOutcome}
use Rattle.fence_rows.specs.declared.event.FencedOutcome.TheVariants.{Answer, CompactIs}
use Rattle.fence_rows.specs.Epochs.{epoch_entry, actor_epoch}
use Rattle.fence_rows.specs.Runs.{FencedHistory, IsLasting, EpochNeverFalls}
use Rattle.fence_rows.specs.Groups.{quiet, AllowsUntold, RunsUntold, Flattens, FlattensGroups, GroupEpochNeverFalls, AheadKeepsEpoch, PartKeepsEpoch}
use Rattle.fence_rows.proofs.Steps.{RaisesOn, raises_then, moves_raises, allows_raises, runs_raise, raised}

untold_raises : (b : ActorKey) (old new : StoreState) (event : FencedEvent) (outcome : FencedOutcome) → AllowsUntold old event outcome new → RaisesOn b old new
untold_raises b old new (Command command now) (Answer answer) allows = moves_raises b old new command now answer allows.0 allows.1
untold_raises b old new (Command command now) (CompactIs end) allows = absurd allows
untold_raises b old new (Compact least now) (Answer answer) allows = absurd allows
untold_raises b old new (Compact least now) (CompactIs end) allows = allows_raises b old new (Compact least now) (CompactIs end) allows

untold_run : (b : ActorKey) (old new : StoreState) (entries : FencedHistory) → RunsUntold old entries new → RaisesOn b old new
untold_run b old new [] is = runs_raise b old new [] is
untold_run b old new (e ∷ es) runs =
    raises_then b (epoch_entry b old.contents) (epoch_entry b runs.0.contents) (epoch_entry b new.contents) (untold_raises b old runs.0 e.event e.reply runs.1) (untold_run b runs.0 new es runs.2)

pub group_never_falls : FlattensGroups → EpochNeverFalls → GroupEpochNeverFalls
group_never_falls flattens never maybe old new entries actor before after lasting stands runs works =
    let f : Flattens maybe old entries new = flattens maybe old new entries stands runs in
    subst (λ (s : StoreState). actor_epoch actor before old.contents ≤ actor_epoch actor after s.contents) (f.works works) (never (quiet old) (quiet f.last) f.flat actor before after lasting f.runs)

pub ahead_keeps : AheadKeepsEpoch
ahead_keeps old entries flat known ahead actor before after is = (
  λ lasting. at_ahead (raised actor old.contents is.reached.contents before after first lasting),
  λ lasting. at_ahead (subst (λ (t : Tables). actor_epoch actor before t ≤ actor_epoch actor after is.reached.contents) is.acknowledged (raised actor is.mid.contents is.reached.contents before after on (subst (λ (t : Tables). IsLasting before (epoch_entry actor t)) (sym is.acknowledged) lasting))),
)
  where
    on : RaisesOn actor is.mid is.reached
    on = untold_run actor is.mid is.reached is.foreseen is.leads

    first : RaisesOn actor old is.reached
    first = raises_then actor (epoch_entry actor old.contents) (epoch_entry actor is.mid.contents) (epoch_entry actor is.reached.contents) (runs_raise actor (quiet old) is.mid is.before is.runs) on

    at_ahead : {n : ℕ} → n ≤ actor_epoch actor after is.reached.contents → n ≤ actor_epoch actor after ahead
    at_ahead {n} low = subst (λ (t : Tables). n ≤ actor_epoch actor after t) is.contents low

pub part_keeps : PartKeepsEpoch
part_keeps old new part actor before after lasting is = raised actor old.contents is.reached.contents before after (untold_run actor (quiet old) is.reached is.foreseen is.leads) lasting
