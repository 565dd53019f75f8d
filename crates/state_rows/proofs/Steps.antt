-- One more step after the others.
use Rattle.std.proofs.Common.{◌≡◌, List, [], ◌∷◌, ◌++◌, refl}
use Rattle.actor_names.specs.declared.actor_key.ActorKey.{ActorKey}
use Rattle.state_rows.specs.declared.entry.StateEntry.{StateEntry}
use Rattle.state_rows.specs.declared.prepared.Step.{Step}
use Rattle.state_rows.specs.Prepared.{after_step, after_steps}

pub after_steps-more : (actor : ActorKey) (ss : List Step) (s : Step) (rows : List StateEntry) → after_steps actor (ss ++ s ∷ []) rows ≡ after_step actor s (after_steps actor ss rows)
after_steps-more actor [] s rows = refl
after_steps-more actor (t ∷ ss) s rows = after_steps-more actor ss s (after_step actor t rows)
