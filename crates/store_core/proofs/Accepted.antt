-- Accepted commands: how they are answered, and what several of them lead to.
use Rattle.std.proofs.Common.{append_assoc, ◌≡◌, ◌⊎◌, inl, inr, ℕ, zero, suc, ◌+◌, ◌<◌, ◌≤◌, true, false, List, [], ◌∷◌, ◌++◌, Option, Some, None, refl, sym, ◌∙◌, ap, subst, arith}
use Rattle.std.specs.Prelude.{Result, Ok, Err, option_and_then}
use Rattle.schedule_text.specs.declared.advance.Next.{Next}
use Rattle.reminder_rows.specs.declared.error.FiredError.{FiredError}
use Rattle.stamp_lanes.specs.declared.answer.LaneAnswer.TheVariants as lane_answers
use Rattle.frame_wire.specs.declared.store_answer.StoreAnswer.{StoreAnswer}
use Rattle.frame_wire.specs.declared.store_command.StoreCommand.{StoreCommand}
use Rattle.frame_wire.specs.declared.store_command.StoreCommand.TheVariants.{Boot, Tx, Get, PutReminder, GetReminder, DeleteReminder, Due, Fired}
use Rattle.frame_wire.specs.declared.store_command.Stamp.{Stamp}
use Rattle.frame_wire.specs.declared.store_answer.StoreAnswer.TheVariants.{Booted}
use Rattle.state_rows.specs.Checks.{ops_fault}
use Rattle.state_rows.specs.Entries.{after_ops}
use Rattle.reminder_rows.specs.Reminders.{row_at, fired_answer, fired_rows}
use Rattle.stamp_lanes.specs.Stamps.{greatest_boot, draw_fault, after_draw}
use Rattle.store_tables.specs.Tables.{Tables, Outcome, Told, Accepted, told_or, nanos_of, stamp_answer, accepted, boot_answer, ops_answer, tx_outcome, put_outcome, delete_outcome, by_fired, fired_outcome, store_outcome}
use Rattle.store_tables.specs.Contents.{Timed, outcome_of, accepted_in, after_accepted}
use Rattle.store_tables.specs.Runs.{Carries, IsAccepted, tables_after, after_calls, AcceptsOnce}
use Rattle.store_core.specs.Runs.{is_refusal}

-- one of two numbers is below the other
pub below_or : (m n : ℕ) → (m < n) ⊎ (n ≤ m)
below_or zero zero = inr (omega arith)
below_or zero (suc n) = inl (omega arith)
below_or (suc m) zero = inr (omega arith)
below_or (suc m) (suc n) = elim (below_or m n) [
  | inl lt ↦ inl (omega (arith, lt))
  | inr le ↦ inr (omega (arith, le))
]

-- ---- no accepted answer is a refusal

abbrev IsPlain : Outcome → Type 0
IsPlain (Told given) = Unit {0}
IsPlain (Accepted given after) = is_refusal given ≡ false

or_plain : (told : Option StoreAnswer) (o : Outcome) → IsPlain o → IsPlain (told_or told o)
or_plain None o plain = plain
or_plain (Some given) o plain = tt

fired_plain : (r : Result Next FiredError) (f : Next → Outcome) → ((n : Next) → IsPlain (f n)) → IsPlain (by_fired r f)
fired_plain (Ok n) f plain = plain n
fired_plain (Err e) f plain = tt

outcome_plain : (t : Tables) (c : StoreCommand) (now : ℕ) → IsPlain (store_outcome t c now)
unfolding store_outcome
outcome_plain t (Boot space node) now = or_plain (boot_answer (draw_fault space node t.nodes)) (Accepted (Booted (greatest_boot t.nodes + 1)) (record t { nodes = after_draw space node t.nodes })) refl
outcome_plain t (Tx s actor ops) now =
    or_plain (stamp_answer s t) (tx_outcome s actor ops now t)
    (or_plain (ops_answer (ops_fault ops)) (accepted s (lane_answers.Done true) (record t { rows = after_ops actor now ops t.rows })) refl)
outcome_plain t (Get actor key) now = tt
outcome_plain t (PutReminder s actor name reminder) now = or_plain (stamp_answer s t) (put_outcome s actor name reminder t) refl
outcome_plain t (GetReminder actor name) now = tt
outcome_plain t (DeleteReminder s actor name) now = or_plain (stamp_answer s t) (delete_outcome s actor name t) refl
outcome_plain t (Due after limit) now = tt
outcome_plain t (Fired s actor name moment) now =
    or_plain (stamp_answer s t) (fired_outcome s actor name moment (nanos_of now) t)
    (fired_plain (fired_answer (row_at actor name t.reminders) moment (nanos_of now)) (λ next. accepted s (lane_answers.NextIs next) (record t { reminders = fired_rows actor name (row_at actor name t.reminders) moment (nanos_of now) t.reminders })) (λ n. refl))

pub accepted_plain : (t : Tables) (c : Timed) (given : StoreAnswer) (after : Tables) → outcome_of t c ≡ Accepted given after → is_refusal given ≡ false
accepted_plain t c given after is = subst IsPlain is (outcome_plain t c.command c.now)

-- ---- one after another

some_is : (t u : Tables) → Some t ≡ Some u → t ≡ u
some_is t u is = cc

-- the one list leads from t to u, and the other one from there
pub append_led : (cs ds : List Timed) (t u v : Tables) → after_accepted cs t ≡ Some u → after_accepted ds u ≡ Some v → after_accepted (cs ++ ds) t ≡ Some v
append_led [] ds t u v first second = ap (after_accepted ds) (some_is t u first) ∙ second
append_led (c ∷ cs) ds t u v first second = go (accepted_in (outcome_of t c)) (λ mid led. append_led cs ds mid u v led second) first
  where
    go : (o : Option Tables) → ((mid : Tables) → after_accepted cs mid ≡ Some u → after_accepted (cs ++ ds) mid ≡ Some v) → option_and_then (λ after. after_accepted cs after) o ≡ Some u → option_and_then (λ after. after_accepted (cs ++ ds) after) o ≡ Some v
    go None rest led = absurd (let e : None ≡ Some u = led in cc)
    go (Some mid) rest led = rest mid led

-- a list that leads somewhere, in two parts
pub split_led : (cs ds : List Timed) (t v : Tables) → after_accepted (cs ++ ds) t ≡ Some v → (u : Tables) × (after_accepted cs t ≡ Some u) × (after_accepted ds u ≡ Some v)
split_led [] ds t v led = (t, refl, led)
split_led (c ∷ cs) ds t v led = go (accepted_in (outcome_of t c)) (λ mid rest. split_led cs ds mid v rest) led
  where
    go : (o : Option Tables) → ((mid : Tables) → after_accepted (cs ++ ds) mid ≡ Some v → (u : Tables) × (after_accepted cs mid ≡ Some u) × (after_accepted ds u ≡ Some v)) → option_and_then (λ after. after_accepted (cs ++ ds) after) o ≡ Some v → (u : Tables) × (option_and_then (λ after. after_accepted cs after) o ≡ Some u) × (after_accepted ds u ≡ Some v)
    go None rest led = absurd (let e : None ≡ Some v = led in cc)
    go (Some mid) rest led = rest mid led

-- the first of a list that leads somewhere is accepted
first_led : (c : Timed) (cs : List Timed) (t v : Tables) → after_accepted (c ∷ cs) t ≡ Some v → IsAccepted t c
first_led c cs t v led = go (outcome_of t c) led
  where
    go : (o : Outcome) → option_and_then (λ after. after_accepted cs after) (accepted_in o) ≡ Some v → (answer : StoreAnswer) × (after : Tables) × (o ≡ Accepted answer after)
    go (Told given) led = absurd (let e : None ≡ Some v = led in cc)
    go (Accepted given after) led = (given, after, refl)

-- commands that are all accepted leave the same if they are called
calls_led : (cs : List Timed) (t u : Tables) → after_accepted cs t ≡ Some u → after_calls cs t ≡ u
calls_led [] t u led = some_is t u led
calls_led (c ∷ cs) t u led = go (outcome_of t c) (λ after rest. calls_led cs after u rest) led
  where
    go : (o : Outcome) → ((after : Tables) → after_accepted cs after ≡ Some u → after_calls cs after ≡ u) → option_and_then (λ after. after_accepted cs after) (accepted_in o) ≡ Some u → after_calls cs (tables_after o t) ≡ u
    go (Told given) rest led = absurd (let e : None ≡ Some u = led in cc)
    go (Accepted given after) rest led = rest after led

-- no stamp stands twice in a list that leads somewhere
pub led_once : AcceptsOnce → (s : Stamp) (c d : Timed) (before between behind : List Timed) (t v : Tables) → Carries s c → Carries s d → after_accepted (before ++ c ∷ between ++ d ∷ behind) t ≡ Some v → ⊥
led_once once s c d before between behind t v first second led =
    let whole_led : after_accepted (before ++ ((c ∷ between) ++ (d ∷ behind))) t ≡ Some v = ap (λ (l : List Timed). after_accepted l t) (sym (append_assoc before (c ∷ between) (d ∷ behind))) ∙ led in
    let front = split_led before ((c ∷ between) ++ (d ∷ behind)) t v whole_led in
    let back = split_led (c ∷ between) (d ∷ behind) front.0 v front.2 in
    let taken : IsAccepted (after_calls before t) c = subst (λ (x : Tables). IsAccepted x c) (sym (calls_led before t front.0 front.1)) (first_led c (between ++ (d ∷ behind)) front.0 v front.2) in
    let whole : after_accepted (before ++ c ∷ between) t ≡ Some back.0 = append_led before (c ∷ between) t front.0 back.0 front.1 back.1 in
    let again : IsAccepted (after_calls (before ++ c ∷ between) t) d = subst (λ (x : Tables). IsAccepted x d) (sym (calls_led (before ++ c ∷ between) t back.0 whole)) (first_led d behind back.0 v back.2) in
    once s c d before between t first second taken again
