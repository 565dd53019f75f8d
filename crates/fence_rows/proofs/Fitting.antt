-- The commands that the store is given may be sent to it.
use Rattle.std.proofs.Common.{ℕ, ◌≤◌, ◌<◌, ◌^◌, List, [], ◌∷◌, ◌++◌, Option, Some, None, length, length-append, refl, arith, lit<}
use Rattle.std.specs.Prelude.{decimal, Err}
use Rattle.std.specs.Str.{is_utf8, chars}
use Rattle.std.proofs.lemmas.Fmt.{length-decimal-le}
use Rattle.actor_names.specs.declared.actor_key.ActorKey.{ActorKey}
use Rattle.state_rows.specs.declared.op.StateOp.{StateOp}
use Rattle.wire_fields.specs.Fields.{Field, AllFit, in_any_order, number16, number32, number64}
use Rattle.wire_fields.specs.Records.{text, blob, op, ops_list}
use Rattle.frame_wire.specs.declared.store_command.Stamp.{Stamp}
use Rattle.frame_wire.specs.declared.store_command.StoreCommand.TheVariants.{Tx, Get}
use Rattle.frame_wire.specs.declared.store_answer.StoreAnswer.TheVariants.{Refused}
use Rattle.frame_wire.specs.declared.store_refusal.StoreRefusal.{StoreRefusal}
use Rattle.frame_wire.specs.declared.store_refusal.StoreRefusal.TheVariants.{Reopen, TooManyOps, OutOfMemory}
use Rattle.frame_wire.specs.Store.{command, AnswerFits}
use Rattle.frame_wire.specs.StoreParts.{store_refusal}
use Rattle.store_payloads.specs.Laws.{MayCome}
use Rattle.store_core.specs.Store.{StoreState}
use Rattle.fence_rows.specs.Epochs.{epoch_key, epoch_upsert, fenced_ops}
use Rattle.fence_rows.specs.Fences.{SeesEpoch}

key_fits : text.Fits epoch_key
unfolding text number16 is_utf8 chars lib.Utf8.encode
key_fits = (lit< tt, refl)

-- the text of an epoch is short
value_fits : (epoch : ℕ) → epoch < 2 ^ 64 → blob.Fits (decimal epoch)
unfolding blob number32
value_fits epoch short = let low : length (decimal epoch) ≤ 20 = length-decimal-le 20 epoch (omega arith) (omega arith) short in omega arith

upsert_fits : (epoch : ℕ) → epoch < 2 ^ 64 → op.Fits (epoch_upsert epoch)
unfolding op
upsert_fits epoch short = (key_fits, (value_fits epoch short, tt))

-- one more value behind those that fit
all_behind : {A : Type 0} (f : Field A) (before : Option A) (xs : List A) (y : A) → AllFit (in_any_order f) before xs → f.Fits y → AllFit (in_any_order f) before (xs ++ y ∷ [])
all_behind f before [] y all fits = (fits, tt)
all_behind f before (x ∷ xs) y all fits = (all.0, all_behind f (Some x) xs y all.1 fits)

ops_few : (ops : List StateOp) → ops_list.Fits ops → length ops ≤ 65535
unfolding ops_list number16
ops_few ops fits = let few : length ops < 2 ^ 16 = fits.0 in omega arith

ops_fit : (epoch : ℕ) (ops : List StateOp) → epoch < 2 ^ 64 → length ops ≤ 999 → ops_list.Fits ops → ops_list.Fits (fenced_ops epoch ops)
unfolding ops_list number16
ops_fit epoch ops short few fits = (omega (arith, length-append ops (epoch_upsert epoch ∷ [])), all_behind op None ops (epoch_upsert epoch) fits.1 (upsert_fits epoch short))

-- ---- commands

get_fits : (s : Stamp) (actor : ActorKey) (ops : List StateOp) → command.Fits (Tx s actor ops) → command.Fits (Get actor epoch_key)
unfolding command
get_fits s actor ops fits = (fits.1.0, key_fits)

tx_few : (s : Stamp) (actor : ActorKey) (ops : List StateOp) → command.Fits (Tx s actor ops) → length ops ≤ 65535
unfolding command
tx_few s actor ops fits = ops_few ops fits.1.1

tx_fits : (s : Stamp) (actor : ActorKey) (ops : List StateOp) (epoch : ℕ) → epoch < 2 ^ 64 → length ops ≤ 999 → command.Fits (Tx s actor ops) → command.Fits (Tx s actor (fenced_ops epoch ops))
unfolding command
tx_fits s actor ops epoch short few fits = (fits.0, (fits.1.0, ops_fit epoch ops short few fits.1.1))

-- the question for the epoch of a transaction's actor
pub get_comes : (now : ℕ) (s : Stamp) (actor : ActorKey) (ops : List StateOp) → MayCome (record { now = now; command = Tx s actor ops }) → MayCome (record { now = now; command = Get actor epoch_key })
get_comes now s actor ops may = record { command = get_fits s actor ops may.command; now = may.now }

pub ops_come : (now : ℕ) (s : Stamp) (actor : ActorKey) (ops : List StateOp) → MayCome (record { now = now; command = Tx s actor ops }) → length ops ≤ 65535
ops_come now s actor ops may = tx_few s actor ops may.command

pub tx_comes : (now : ℕ) (s : Stamp) (actor : ActorKey) (ops : List StateOp) (epoch : ℕ) → epoch < 2 ^ 64 → length ops ≤ 999 → MayCome (record { now = now; command = Tx s actor ops })
    → MayCome (record { now = now; command = Tx s actor (fenced_ops epoch ops) })
tx_comes now s actor ops epoch short few may = record { command = tx_fits s actor ops epoch short few may.command; now = may.now }

-- ---- refusals

pub unseen_fits : (s : StoreState) (actor : ActorKey) (now : ℕ) (r : StoreRefusal) → SeesEpoch s actor now (Err r) → AnswerFits (Refused r)
unfolding store_refusal number64
unseen_fits s actor now Reopen broken = ((lit< tt, refl), (lit< tt, refl))
unseen_fits s actor now OutOfMemory u = ((lit< tt, refl), (lit< tt, refl))
unseen_fits s actor now r none = absurd none

pub memory_fits : AnswerFits (Refused OutOfMemory)
unfolding store_refusal number64
memory_fits = ((lit< tt, refl), (lit< tt, refl))

pub reopen_fits : AnswerFits (Refused Reopen)
unfolding store_refusal number64
reopen_fits = ((lit< tt, refl), (lit< tt, refl))

pub many_fits : (n : ℕ) → n ≤ 65535 → AnswerFits (Refused (TooManyOps n))
unfolding store_refusal number64
many_fits n few = (omega arith, (lit< tt, refl))
