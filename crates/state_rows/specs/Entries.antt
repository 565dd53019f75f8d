-- The entries of actors in order of actor and key, and how a transaction changes them. Own; the operations follow
-- the state transactions of Dapr's actors.
use Rattle.std.specs.Prelude.{ℕ, ◌+◌, ◌*◌, Bool, false, nat_le, if◌then◌else◌, List, [], ◌∷◌, Option, None, Some, option_map}
use Rattle.std.specs.declared.cmp.Ordering.{Ordering}
use Rattle.std.specs.Ordering.{nat_cmp, ordering_then}
use Rattle.std.specs.Cmp.Lexicographic.{slice_cmp}
use Rattle.actor_names.specs.declared.actor_key.ActorKey.{ActorKey}
use Rattle.actor_names.specs.contracts.actor_key.ActorKeyOrd.TheImpl as actor_ord
use Rattle.lists_and_limits.specs.Lists.{found, without, with_put}
use Rattle.state_rows.specs.declared.op.StateOp.{StateOp}
use Rattle.state_rows.specs.declared.op.StateOp.TheVariants.{Upsert, Delete}
use Rattle.state_rows.specs.declared.entry.StateEntry.{StateEntry}

-- the order of actors
abbrev pub actor_cmp : ActorKey → ActorKey → Ordering
actor_cmp = (actor_ord.ghosts).cmp

-- by actor, then by key in byte order
abbrev pub place_cmp : ActorKey → List ℕ → ActorKey → List ℕ → Ordering
place_cmp actor key other other_key = ordering_then (actor_cmp actor other) (slice_cmp nat_cmp key other_key)

abbrev pub row_cmp : StateEntry → StateEntry → Ordering
row_cmp a b = place_cmp a.actor a.key b.actor b.key

-- how an entry compares with an actor and a key
abbrev pub at_row : ActorKey → List ℕ → StateEntry → Ordering
at_row actor key e = place_cmp e.actor e.key actor key

-- the entry of an actor and a key
abbrev pub entry_at : ActorKey → List ℕ → List StateEntry → Option StateEntry
entry_at actor key rows = found (at_row actor key) rows

-- ---- what is read

-- now is at or past the moment from which on it is absent
abbrev pub is_over : ℕ → Option ℕ → Bool
is_over now None = false
is_over now (Some absent) = nat_le absent now

abbrev pub value_by : ℕ → Option StateEntry → Option (List ℕ)
value_by now None = None
value_by now (Some e) = if is_over now e.absent then None else Some e.value

-- the value of an actor's key at a moment
abbrev pub value_at : ActorKey → List ℕ → ℕ → List StateEntry → Option (List ℕ)
value_at actor key now rows = value_by now (entry_at actor key rows)

-- ---- what operations leave

-- the moment that many seconds later, in milliseconds
abbrev pub absent_from : ℕ → Option ℕ → Option ℕ
absent_from now ttl = option_map (λ seconds. now + seconds * 1000) ttl

-- the entry that is set at a moment
abbrev pub new_entry : ActorKey → ℕ → List ℕ → List ℕ → Option ℕ → StateEntry
new_entry actor now key value ttl = record { actor = actor; key = key; value = value; absent = absent_from now ttl }

abbrev pub after_op : ActorKey → ℕ → StateOp → List StateEntry → List StateEntry
after_op actor now (Upsert key value ttl) rows = with_put row_cmp (new_entry actor now key value ttl) rows
after_op actor now (Delete key) rows = without (at_row actor key) rows

-- the operations of a transaction, one after another
abbrev pub after_ops : ActorKey → ℕ → List StateOp → List StateEntry → List StateEntry
after_ops actor now [] rows = rows
after_ops actor now (op ∷ ops) rows = after_ops actor now ops (after_op actor now op rows)

-- ---- rows that were kept

abbrev pub restored_over : Option StateEntry → StateEntry → List StateEntry → Option (List StateEntry)
restored_over None e rows = Some (with_put row_cmp e rows)
restored_over (Some there) e rows = None

-- the entries with one that was kept as it is; None if its actor and key have one already
abbrev pub restored : StateEntry → List StateEntry → Option (List StateEntry)
restored e rows = restored_over (entry_at e.actor e.key rows) e rows
