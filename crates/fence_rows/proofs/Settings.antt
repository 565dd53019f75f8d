-- What a transaction leaves at the key of the epoch.
use Rattle.std.proofs.Common.{◌≡◌, inl, inr, ℕ, ◌≤◌, ◌<◌, ◌^◌, Bool, true, false, List, [], ◌∷◌, ◌++◌, Option, None, Some, refl, sym, ap, ◌∙◌, arith}
use Rattle.std.specs.Prelude.{if◌then◌else◌, decimal}
use Rattle.std.specs.declared.cmp.Ordering.{Ordering}
use Rattle.std.specs.declared.cmp.Ordering.TheVariants.{Less, Equal, Greater}
use Rattle.std.specs.Ordering.{is_eq, nat_cmp, ordering_then}
use Rattle.std.specs.Cmp.Lexicographic.{slice_cmp}
use Rattle.std.proofs.lemmas.Cmp.{nat_list_cmp_total, tied_itself}
use Rattle.actor_names.specs.declared.actor_key.ActorKey.{ActorKey}
use Rattle.lists_and_limits.proofs.DecimalTexts.{number_of-decimal}
use Rattle.lists_and_limits.proofs.Maps.{put-there, put-others, without-others, found-put, found-tied}
use Rattle.state_rows.specs.declared.entry.StateEntry.{StateEntry}
use Rattle.state_rows.specs.declared.op.StateOp.{StateOp}
use Rattle.state_rows.specs.declared.op.StateOp.TheVariants.{Upsert, Delete}
use Rattle.state_rows.specs.Entries.{actor_cmp, place_cmp, row_cmp, entry_at, value_by, new_entry, after_op, after_ops}
use Rattle.state_rows.specs.Orders.{rows_total}
use Rattle.fence_rows.specs.Epochs.{epoch_key, or_zero, epoch_in, epoch_upsert, fenced_ops}
use Rattle.fence_rows.specs.Runs.{IsLasting}

-- ---- entries at the key

abbrev pub at_key : ActorKey → List StateEntry → Option StateEntry
at_key actor rows = entry_at actor epoch_key rows

-- the epoch that an entry tells at a moment
abbrev pub epoch_at : ℕ → Option StateEntry → ℕ
epoch_at now e = epoch_in (value_by now e)

-- some entry of an actor at the key
abbrev probe : ActorKey → StateEntry
probe actor = record { actor = actor; key = epoch_key; value = []; absent = None }

-- the entry that a transaction of this epoch sets
abbrev pub set_entry : ActorKey → ℕ → ℕ → StateEntry
set_entry actor now epoch = new_entry actor now epoch_key (decimal epoch) None

apart_then : (o p : Ordering) → is_eq o ≡ false → is_eq (ordering_then o p) ≡ false
apart_then Less p apart = refl
apart_then Equal p apart = absurd (cc)
apart_then Greater p apart = refl

-- another actor, another place
other_place : (a b : ActorKey) (key : List ℕ) → is_eq (actor_cmp a b) ≡ false → is_eq (place_cmp a key b epoch_key) ≡ false
other_place a b key apart = apart_then (actor_cmp a b) (slice_cmp nat_cmp key epoch_key) apart

then_equal : (o p : Ordering) → p ≡ Equal → ordering_then o p ≡ o
then_equal Less p is = refl
then_equal Equal p is = is
then_equal Greater p is = refl

-- at the key the actors alone tell places apart
same_key : (a b : ActorKey) → place_cmp a epoch_key b epoch_key ≡ actor_cmp a b
same_key a b = then_equal (actor_cmp a b) (slice_cmp nat_cmp epoch_key epoch_key) (tied_itself nat_list_cmp_total epoch_key)

-- what a transaction does to one actor leaves the epoch of another
kept_by_op : (a b : ActorKey) (now : ℕ) (op : StateOp) (rows : List StateEntry) → is_eq (actor_cmp a b) ≡ false → at_key b (after_op a now op rows) ≡ at_key b rows
kept_by_op a b now (Upsert key value ttl) rows apart = put-others (λ x. x) row_cmp rows_total (new_entry a now key value ttl) (probe b) rows (other_place a b key apart)
kept_by_op a b now (Delete key) rows apart = without-others (λ x. x) row_cmp rows_total (record { actor = a; key = key; value = []; absent = None }) (probe b) rows (other_place a b key apart)

kept_by_ops : (a b : ActorKey) (now : ℕ) (ops : List StateOp) (rows : List StateEntry) → is_eq (actor_cmp a b) ≡ false → at_key b (after_ops a now ops rows) ≡ at_key b rows
kept_by_ops a b now [] rows apart = refl
kept_by_ops a b now (op ∷ ops) rows apart = kept_by_ops a b now ops (after_op a now op rows) apart ∙ kept_by_op a b now op rows apart

after_both : (a : ActorKey) (now : ℕ) (ops more : List StateOp) (rows : List StateEntry) → after_ops a now (ops ++ more) rows ≡ after_ops a now more (after_ops a now ops rows)
after_both a now [] more rows = refl
after_both a now (op ∷ ops) more rows = after_both a now ops more (after_op a now op rows)

-- a fenced transaction sets the epoch of its actor
pub own_entry : (a : ActorKey) (now epoch : ℕ) (ops : List StateOp) (rows : List StateEntry) → at_key a (after_ops a now (fenced_ops epoch ops) rows) ≡ Some (set_entry a now epoch)
own_entry a now epoch ops rows =
    ap (at_key a) (after_both a now ops (epoch_upsert epoch ∷ []) rows)
    ∙ put-there (λ x. x) row_cmp rows_total (set_entry a now epoch) (after_ops a now ops rows)

-- What it leaves at the key of any actor: for its own the new epoch, for any other what was there.
pub data Leaves (a b : ActorKey) (now epoch : ℕ) (rows after : List StateEntry) : Type 0 where
  Own : at_key b rows ≡ at_key a rows → at_key b after ≡ Some (set_entry a now epoch) → Leaves a b now epoch rows after
  Other : at_key b after ≡ at_key b rows → Leaves a b now epoch rows after

pub leaves_at : (a b : ActorKey) (now epoch : ℕ) (ops : List StateOp) (rows : List StateEntry) → Leaves a b now epoch rows (after_ops a now (fenced_ops epoch ops) rows)
leaves_at a b now epoch ops rows = go (is_eq (actor_cmp a b)) refl
  where
    there : at_key b (after_ops a now (fenced_ops epoch ops) rows) ≡ (if is_eq (actor_cmp a b) then Some (set_entry a now epoch) else at_key b (after_ops a now ops rows))
    there =
        ap (at_key b) (after_both a now ops (epoch_upsert epoch ∷ []) rows)
        ∙ found-put (λ x. x) row_cmp rows_total (set_entry a now epoch) (probe b) (after_ops a now ops rows)
        ∙ ap (λ o. if is_eq o then Some (set_entry a now epoch) else at_key b (after_ops a now ops rows)) (same_key a b)

    go : (own : Bool) → is_eq (actor_cmp a b) ≡ own → Leaves a b now epoch rows (after_ops a now (fenced_ops epoch ops) rows)
    go true own =
        Own (sym (found-tied (λ x. x) row_cmp rows_total (probe a) (probe b) (ap is_eq (same_key a b) ∙ own) rows))
        (there ∙ ap (λ o. if o then Some (set_entry a now epoch) else at_key b (after_ops a now ops rows)) own)
    go false apart = Other (there ∙ ap (λ o. if o then Some (set_entry a now epoch) else at_key b (after_ops a now ops rows)) apart ∙ kept_by_ops a b now ops rows apart)

-- ---- epochs

-- an epoch that was set is read at every moment
pub epoch_set : (a : ActorKey) (now epoch later : ℕ) → epoch < 2 ^ 64 → epoch_at later (Some (set_entry a now epoch)) ≡ epoch
epoch_set a now epoch later short = ap or_zero (number_of-decimal 18446744073709551615 epoch (omega arith) short)

-- a value that lasts gives the epoch at every moment
pub lasts : (before after : ℕ) (e : Option StateEntry) → IsLasting before e → epoch_at before e ≤ epoch_at after e
lasts before after None lasting = omega arith
lasts before after (Some e) (inl over) = rw over (omega arith)
lasts before after (Some e) (inr stays) = rw stays (omega arith)
