-- Worked examples of the definitions.
use Rattle.std.proofs.Common.{◌≡◌, ℕ, List, [], ◌∷◌, Some, None, refl}
use Rattle.actor_names.specs.Names.{default_space}
use Rattle.std.specs.Prelude.{codes}
use Rattle.actor_names.specs.declared.actor_key.ActorKey.{ActorKey}
use Rattle.state_rows.specs.declared.entry.StateEntry.{StateEntry}
use Rattle.state_rows.specs.declared.op.StateOp.TheVariants.{Upsert, Delete}
use Rattle.state_rows.specs.declared.error.StateError.TheVariants.{KeyTooLong}
use Rattle.state_rows.specs.Checks.{ops_fault}
use Rattle.state_rows.specs.Entries.{after_ops, new_entry, value_at}

cart : ActorKey
cart = record { space = default_space; kind = codes "cart"; id = codes "1" }

other : ActorKey
other = record { space = default_space; kind = codes "cart"; id = codes "10" }

a : List ℕ
a = codes "a"

b : List ℕ
b = codes "b"

one_left : List StateEntry
one_left = new_entry cart 5 b (2 ∷ []) None ∷ []

-- upsert a, delete a, upsert b
operations_apply_in_order : after_ops cart 5 (Upsert a (1 ∷ []) None ∷ Delete a ∷ Upsert b (2 ∷ []) None ∷ []) [] ≡ one_left
unfolding one_left cart a b
operations_apply_in_order = refl

-- another actor's entry of the same key stays, and comes after
other_actor_keeps_its_key : after_ops cart 5 (Upsert b (2 ∷ []) None ∷ []) (after_ops other 5 (Upsert b (3 ∷ []) None ∷ []) []) ≡ new_entry cart 5 b (2 ∷ []) None ∷ new_entry other 5 b (3 ∷ []) None ∷ []
unfolding cart other b
other_actor_keeps_its_key = refl

later_upsert_replaces : after_ops cart 5 (Upsert b (1 ∷ []) (Some 7) ∷ Upsert b (2 ∷ []) None ∷ []) [] ≡ one_left
unfolding one_left cart b
later_upsert_replaces = refl

two_seconds : List StateEntry
two_seconds = after_ops cart 1000 (Upsert a (1 ∷ []) (Some 2) ∷ []) []

value_stays_until_its_ttl : value_at cart a 2999 two_seconds ≡ Some (1 ∷ [])
unfolding two_seconds cart a
value_stays_until_its_ttl = refl

value_is_absent_from_its_ttl_on : value_at cart a 3000 two_seconds ≡ None
unfolding two_seconds cart a
value_is_absent_from_its_ttl_on = refl

empty_key_is_refused : ops_fault (Delete a ∷ Delete [] ∷ []) ≡ Some (KeyTooLong 1 0)
unfolding a
empty_key_is_refused = refl

no_operation_is_allowed : ops_fault [] ≡ None
no_operation_is_allowed = refl
