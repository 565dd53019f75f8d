-- The text of a timer's callback, of plain values: that of `timer_request`. Own.
use Rattle.std.specs.Prelude.{ℕ, List, ◌++◌, codes, Option, Some}
use Rattle.actor_names.specs.declared.address.Address.{Address}
use Rattle.actor_names.specs.declared.actor_key.ActorKey.{ActorKey}
use Rattle.json_text.specs.Texts.{text_of}
use Rattle.json_text.specs.Values.{text}
use Rattle.app_texts.specs.Texts.{message, method_path, call_lines, escaped, data_text}
use Rattle.timer_book.specs.declared.entry.DueTimer.{DueTimer}

-- what the application is given; `method` is what the timer's callback names
abbrev pub plain_timer_body : List ℕ → Option (List ℕ) → List ℕ → List ℕ → List ℕ
plain_timer_body method payload due period =
    codes "{\"callback\":" ++ text_of (text method) ++ codes "," ++ (codes "\"data\":" ++ data_text payload ++ codes ",\"dueTime\":" ++ text_of (text due) ++ codes ",\"period\":" ++ text_of (text period) ++ codes "}")

-- the text that calls the application back, under the chain of the turn
unfoldable pub plain_timer_text : Address → List ℕ → ActorKey → List ℕ → Option (List ℕ) → Option (List ℕ) → List ℕ → List ℕ → List ℕ
plain_timer_text app method actor name chain payload due period =
    message (codes "PUT") (method_path actor (codes "timer/" ++ escaped name)) (call_lines app (Some (codes "application/json")) chain) (plain_timer_body method payload due period)

-- the same for a timer that is due
abbrev pub timer_call : Address → DueTimer → Option (List ℕ) → List ℕ
timer_call app d chain = plain_timer_text app d.timer.callback d.key d.name chain d.timer.payload d.timer.due d.timer.period
