-- How a prepared transaction changes entries. Own.
use Rattle.std.specs.Prelude.{◌≡◌, List, [], ◌∷◌}
use Rattle.actor_names.specs.declared.actor_key.ActorKey.{ActorKey}
use Rattle.lists_and_limits.specs.Lists.{without, with_put}
use Rattle.state_rows.specs.declared.entry.StateEntry.{StateEntry}
use Rattle.state_rows.specs.declared.prepared.Step.{Step}
use Rattle.state_rows.specs.declared.prepared.Step.TheVariants.{Put, Remove}
use Rattle.state_rows.specs.declared.prepared.PreparedTx.{PreparedTx}
use Rattle.state_rows.specs.Entries.{row_cmp, at_row}

-- an entry is put, or the entry of a key is removed
abbrev pub after_step : ActorKey → Step → List StateEntry → List StateEntry
after_step actor (Put node) rows = with_put row_cmp node.value.element rows
after_step actor (Remove key) rows = without (at_row actor key) rows

abbrev pub after_steps : ActorKey → List Step → List StateEntry → List StateEntry
after_steps actor [] rows = rows
after_steps actor (s ∷ ss) rows = after_steps actor ss (after_step actor s rows)

-- the entries after a prepared transaction, from those before it
abbrev pub after_tx : PreparedTx → List StateEntry → List StateEntry
after_tx tx rows = after_steps tx.actor tx.steps.items rows
