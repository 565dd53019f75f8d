-- The text of a timer's callback, of plain values.
use Rattle.std.proofs.Common.{◌≡◌, refl, ap, ℕ, List, ◌++◌, codes, Some}
use Rattle.std.specs.Option.{option_copied}
use Rattle.actor_names.specs.declared.address.Address.{Address}
use Rattle.app_texts.specs.declared.callbacks.Callback.{Callback}
use Rattle.app_texts.specs.Texts.{message, method_path, call_lines, escaped, timer_body, timer_text}
use Rattle.clock_turns.specs.Callbacks.{plain_timer_body, plain_timer_text}

body_of : (method : List ℕ) (c : Callback) → timer_body method c ≡ plain_timer_body method (option_copied c.payload) c.due.now c.period.now
body_of method c = refl

pub timer_text_of : (app : Address) (method : List ℕ) (c : Callback) → timer_text app method c ≡ plain_timer_text app method c.actor.now c.name.now (option_copied c.chain) (option_copied c.payload) c.due.now c.period.now
unfolding timer_text plain_timer_text
timer_text_of app method c =
    ap (λ (body : List ℕ). message (codes "PUT") (method_path c.actor.now (codes "timer/" ++ escaped c.name.now)) (call_lines app (Some (codes "application/json")) (option_copied c.chain)) body) (body_of method c)
