-- A firing is refused by the moment of the reminder's schedule, if the reminder is due at that moment.
use Rattle.std.proofs.Common.{◌≡◌, ℕ, ◌==◌, Bool, true, false, if◌then◌else◌, List, [], ◌∷◌, Option, Some, None, refl, sym, ap, ◌∙◌}
use Rattle.std.specs.Result.{result_err}
use Rattle.std.specs.declared.cmp.Ordering.{Ordering}
use Rattle.std.specs.Ordering.{is_eq}
use Rattle.actor_names.specs.declared.actor_key.ActorKey.{ActorKey}
use Rattle.lists_and_limits.specs.Lists.{found}
use Rattle.reminder_rows.specs.declared.reminder.Reminder.{Reminder}
use Rattle.reminder_rows.specs.declared.row.ReminderRow.{ReminderRow}
use Rattle.reminder_rows.specs.declared.error.FiredError.TheVariants.{NotThere, OtherMoment}
use Rattle.reminder_rows.specs.Reminders.{row_at, reminder_in, fired_answer, IsTimely, AreTimely}

-- a record that is there is timely
abbrev pub IsTimelyIf : Option ReminderRow → Type 0
IsTimelyIf None = Unit {0}
IsTimelyIf (Some e) = IsTimely e

found-timely : (at : ReminderRow → Ordering) (rows : List ReminderRow) → AreTimely rows → IsTimelyIf (found at rows)
found-timely at [] a = tt
found-timely at (x ∷ xs) a = go (is_eq (at x)) (found-timely at xs a.1)
  where
    go : (b : Bool) → IsTimelyIf (found at xs) → IsTimelyIf (if b then Some x else found at xs)
    go true ih = a.0
    go false ih = ih

pub row-timely : (actor : ActorKey) (name : List ℕ) (rows : List ReminderRow) → AreTimely rows → IsTimelyIf (row_at actor name rows)
row-timely actor name rows a = found-timely _ rows a

module _ (o : Option ReminderRow) (moment at : ℕ) where
  pub none-there : reminder_in o ≡ None → result_err (fired_answer o moment at) ≡ Some NotThere
  none-there h = go o h
    where
      go : (p : Option ReminderRow) → reminder_in p ≡ None → result_err (fired_answer p moment at) ≡ Some NotThere
      go None k = refl
      go (Some e) k = absurd (cc)

  pub other-moment : (r : Reminder) (next : ℕ) → IsTimelyIf o → reminder_in o ≡ Some r → r.schedule.first ≡ Some next → (next == moment) ≡ false → result_err (fired_answer o moment at) ≡ Some (OtherMoment next)
  other-moment r next t h f apart = go o t h
    where
      go : (p : Option ReminderRow) → IsTimelyIf p → reminder_in p ≡ Some r → result_err (fired_answer p moment at) ≡ Some (OtherMoment next)
      go None u k = absurd (cc)
      go (Some e) u k =
          let first : e.reminder.schedule.first ≡ Some next = (let s : e.reminder ≡ r = cc in ap (λ (x : Reminder). x.schedule.first) s ∙ f) in
          let due : e.key.moment ≡ next = (let g = sym u ∙ first in cc) in
          rw (due, apart) refl

  pub same-moment : (r : Reminder) (next : ℕ) → IsTimelyIf o → reminder_in o ≡ Some r → r.schedule.first ≡ Some next → (next == moment) ≡ true → result_err (fired_answer o moment at) ≡ None
  same-moment r next t h f same = go o t h
    where
      go : (p : Option ReminderRow) → IsTimelyIf p → reminder_in p ≡ Some r → result_err (fired_answer p moment at) ≡ None
      go None u k = absurd (cc)
      go (Some e) u k =
          let first : e.reminder.schedule.first ≡ Some next = (let s : e.reminder ≡ r = cc in ap (λ (x : Reminder). x.schedule.first) s ∙ f) in
          let due : e.key.moment ≡ next = (let g = sym u ∙ first in cc) in
          rw (due, same) refl

  pub has-first : (r : Reminder) → IsTimelyIf o → reminder_in o ≡ Some r → r.schedule.first ≡ None → ⊥
  has-first r t h f = go o t h
    where
      go : (p : Option ReminderRow) → IsTimelyIf p → reminder_in p ≡ Some r → ⊥
      go None u k = absurd (cc)
      go (Some e) u k = let s : e.reminder ≡ r = cc in let g : Some e.key.moment ≡ None = sym u ∙ (ap (λ (x : Reminder). x.schedule.first) s ∙ f) in cc
