-- A turn of an actor with one callback of its application: how it begins, the exchange, its end. The callback is that of
-- a reminder in Dapr's actor runtime; the rest is own.
use Rattle.std.specs.Prelude.{◌≡◌, ◌≤◌, ℕ, List, [], ◌++◌, codes, Option, Some, None, Ok, Err}
use Rattle.actor_names.specs.declared.address.Address.{Address}
use Rattle.actor_names.specs.declared.actor_key.ActorKey.{ActorKey}
use Rattle.part_model.specs.declared.event.Reply.TheVariants as replies
use Rattle.json_text.specs.Texts.{text_of}
use Rattle.json_text.specs.Values.{text}
use Rattle.app_texts.specs.Texts.{message, method_path, escaped, call_lines, data_text}
use Rattle.frame_wire.specs.declared.store_answer.DueEntry.{DueEntry}
use Rattle.sidecar_node.specs.declared.node.Seats.{Seats}
use Rattle.sidecar_node.specs.Entries.{PartEntry}
use Rattle.sidecar_node.specs.Turns.{Said, Begins, Ends}
use Rattle.sidecar_node.specs.Nodes.{SpentAt}
use Rattle.exchanges.specs.Exchanges.{Exchange}
use Rattle.exchanges.specs.Replies.{Got, place_at, IsHttpExchange}
use Rattle.reminder_turns.specs.declared.results.Turned.{Turned}
use Rattle.reminder_turns.specs.declared.results.Turned.TheVariants.{Called, Refused}

-- ---- the text

-- what a reminder's callback is given: its data, or `null`, and the texts that were registered
abbrev pub remind_body : Option (List ℕ) → List ℕ → List ℕ → List ℕ
remind_body payload due period =
    codes "{" ++ (codes "\"data\":" ++ data_text payload ++ codes ",\"dueTime\":" ++ text_of (text due) ++ codes ",\"period\":" ++ text_of (text period) ++ codes "}")

-- the text that calls a reminder's callback at the application, under the chain that the turn was told
unfoldable pub remind_text : Address → ActorKey → List ℕ → Option (List ℕ) → Option (List ℕ) → List ℕ → List ℕ → List ℕ
remind_text app actor name chain payload due period =
    message (codes "PUT") (method_path actor (codes "remind/" ++ escaped name)) (call_lines app (Some (codes "application/json")) chain) (remind_body payload due period)

-- the text for a reminder that the store has listed
abbrev pub entry_text : Address → DueEntry → Option (List ℕ) → List ℕ
entry_text app e chain = remind_text app e.key.actor e.key.name chain e.payload e.due e.period

-- ---- the turn

-- no entry and no exchange was made, and the clock wasn't read
pub record IsIdle (first last : ℕ) (es : List PartEntry) (xs : List Exchange) : Type 0 where
  pub now : last ≡ first
  pub entries : es ≡ []
  pub exchanges : xs ≡ []

-- In what follows `first` and `last` are the moments that the clock showed before and after, `es` are the entries on the
-- part of the actor and `xs` the exchanges with the application.
module _ (app : Address) (e : DueEntry) where
  -- a turn that began: one exchange with the application, under the chain that the turn was told, and one End
  pub record IsCalled (call : ℕ) (chain : Option (List ℕ)) (first last : ℕ) (es : List PartEntry) (xs : List Exchange) (got : Got) (ended : Said) : Type 0 where
    pub exchange : IsHttpExchange (entry_text app e chain) (place_at app) xs got
    pub later : first ≤ last
    pub ends : Ends call last es ended

  -- what follows the last reply of the beginning: the callback if the turn began, and nothing otherwise
  abbrev pub Follows : Said → ℕ → ℕ → List PartEntry → List Exchange → Turned → Type 0
  Follows (Ok (replies.Begun call chain)) first last es xs turned =
      (got : Got) × (ended : Said) × IsCalled call chain first last es xs got ended × (turned ≡ Called got ended)
  Follows (Ok reply) first last es xs turned = IsIdle first last es xs × (turned ≡ Refused (Ok reply))
  Follows (Err spent) first last es xs turned = IsIdle first last es xs × (turned ≡ Refused (Err spent))

  -- the actor was asked for a turn, under no chain, and what followed
  pub record IsTurn (first last : ℕ) (es : List PartEntry) (xs : List Exchange) (turned : Turned) : Type 0 where
    pub middle : ℕ
    pub front : List PartEntry
    pub back : List PartEntry
    pub said : Said
    pub entries : es ≡ front ++ back
    pub later : first ≤ middle
    pub begins : Begins e.key.actor None None middle front said
    pub follows : Follows said middle last back xs turned

-- if the gate of the part took an entry no more, its history is full afterwards
abbrev pub TurnedFull : ℕ → Turned → Seats → Type 0
TurnedFull part (Called got ended) after = SpentAt part ended after
TurnedFull part (Refused said) after = SpentAt part said after
