-- Turns with a callback, in each case.
use Rattle.std.proofs.Common.{◌≡◌, ◌≢◌, ◌≤◌, refl, sym, ℕ, List, [], ◌++◌, Option, None, Ok, Err}
use Rattle.std.proofs.lemmas.List.{append-nil}
use Rattle.std.specs.Option.{option_copied}
use Rattle.step_gate.specs.declared.gate.Spent.{Spent}
use Rattle.actor_names.specs.declared.actor_key.ActorKey.{ActorKey}
use Rattle.actor_names.specs.declared.address.Address.{Address}
use Rattle.part_model.specs.Receipts.{PartReply}
use Rattle.part_model.specs.declared.event.Reply.TheVariants as replies
use Rattle.app_texts.specs.declared.callbacks.Callback.{Callback}
use Rattle.app_texts.specs.Texts.{reminder_text}
use Rattle.frame_wire.specs.declared.store_answer.DueEntry.{DueEntry}
use Rattle.sidecar_node.specs.Entries.{PartEntry}
use Rattle.sidecar_node.specs.Turns.{Said, Begins}
use Rattle.exchanges.specs.Exchanges.{Exchange}
use Rattle.reminder_turns.specs.declared.results.Turned.{Turned}
use Rattle.reminder_turns.specs.declared.results.Turned.TheVariants.{Refused}
use Rattle.reminder_turns.specs.Callbacks.{remind_text, IsIdle, Follows, IsTurn}

-- ---- the text

pub remind_text_of : (app : Address) (c : Callback) → reminder_text app c ≡ remind_text app c.actor.now c.name.now (option_copied c.chain) (option_copied c.payload) c.due.now c.period.now
unfolding reminder_text remind_text
remind_text_of app c = refl

-- the same text, if what is registered goes by other names
pub remind_text_by : (app : Address) (actor : ActorKey) (name : List ℕ) (chain payload kept : Option (List ℕ)) (due due_text period period_text : List ℕ)
    → payload ≡ kept → due ≡ due_text → period ≡ period_text → remind_text app actor name chain payload due period ≡ remind_text app actor name chain kept due_text period_text
remind_text_by app actor name chain payload kept due due_text period period_text a b c = cc

-- ---- the turn

pub idle : (now : ℕ) → IsIdle now now [] []
idle now = record { now = refl; entries = refl; exchanges = refl }

module _ (app : Address) (e : DueEntry) where
  -- a last reply that begins no turn
  pub follows_other : (reply : PartReply) (now : ℕ) → ((call : ℕ) (chain : Option (List ℕ)) → reply ≢ replies.Begun call chain) → Follows app e (Ok reply) now now [] [] (Refused (Ok reply))
  follows_other (replies.Begun call chain) now h = absurd (h call chain refl)
  follows_other reply now h = (idle now, refl)

  -- a beginning and what follows it
  pub turn_follows :
      (first middle last : ℕ) (said : Said) (es fs : List PartEntry) (xs : List Exchange) (turned : Turned)
      → first ≤ middle → Begins e.key.actor None None middle es said → Follows app e said middle last fs xs turned → IsTurn app e first last (es ++ fs) xs turned
  turn_follows first middle last said es fs xs turned later b f =
      record { middle = middle; front = es; back = fs; said = said; entries = refl; later = later; begins = b; follows = f }

  -- the gate took no further entry
  pub turn_spent :
      (first middle : ℕ) (spent : Spent) (es : List PartEntry)
      → first ≤ middle → Begins e.key.actor None None middle es (Err spent) → IsTurn app e first middle es [] (Refused (Err spent))
  turn_spent first middle spent es later b =
      record { middle = middle; front = es; back = []; said = Err spent; entries = sym (append-nil es); later = later; begins = b; follows = (idle middle, refl) }
