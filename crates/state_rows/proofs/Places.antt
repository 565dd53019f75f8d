-- Each actor and key cuts entries that are in order into those before and those after it; entries stay in order.
use Rattle.std.proofs.Common.{ℕ, List, [], None}
use Rattle.actor_names.specs.declared.actor_key.ActorKey.{ActorKey}
use Rattle.lists_and_limits.specs.Cuts.{IsCut}
use Rattle.lists_and_limits.specs.Orders.{Ascends, OrderLaw}
use Rattle.lists_and_limits.proofs.Orders.{law}
use Rattle.state_rows.specs.declared.entry.StateEntry.{StateEntry}
use Rattle.state_rows.specs.Entries.{row_cmp, at_row}
use Rattle.state_rows.specs.Orders.{rows_total}

pub order_law : OrderLaw row_cmp
order_law = law row_cmp rows_total

-- some entry of an actor and a key
abbrev pub entry_of : ActorKey → List ℕ → StateEntry
entry_of actor key = record { actor = actor; key = key; value = []; absent = None }

pub cut_row : (actor : ActorKey) (key : List ℕ) (rows : List StateEntry) → Ascends row_cmp rows → IsCut (at_row actor key) rows
cut_row actor key rows a = let l = order_law in l.cut_element (entry_of actor key) rows a
