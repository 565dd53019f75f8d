-- How records are filed: in one tree by actor and name, and their keys in another one by moment. Own.
use Rattle.std.specs.Prelude.{◌≡◌, ℕ, suc, zero, Bool, false, if◌then◌else◌, List, Option, None, Some}
use Rattle.std.specs.declared.cmp.Ordering.{Ordering}
use Rattle.std.specs.Ordering.{is_eq, is_lt, is_gt}
use Rattle.actor_names.specs.declared.actor_key.ActorKey.{ActorKey}
use Rattle.lists_and_limits.specs.Lists.{with_put}
use Rattle.lists_and_limits.specs.Orders.{Ascends}
use Rattle.reminder_rows.specs.declared.row.ReminderRow.{ReminderRow}
use Rattle.reminder_rows.specs.declared.row.DueKey.{DueKey}
use Rattle.reminder_rows.specs.declared.filing.Filing.{Filing}
use Rattle.reminder_rows.specs.Reminders.{at_name, row_cmp, row_at, due_cmp, by_due, fired_row}

-- the records are in order, and the keys are theirs
pub record IsFiled (rows : List ReminderRow) (dues : List DueKey) : Type 0 where
  pub order : Ascends row_cmp rows
  pub keys : dues ≡ by_due rows

-- the record of a filing
abbrev pub row_in : Option Filing → Option ReminderRow
row_in None = None
row_in (Some f) = Some f.row.value.element

-- the key of a filing is that of its record
abbrev pub IsKeyed : Option Filing → Type 0
IsKeyed None = Unit {0}
IsKeyed (Some f) = f.key.value.element ≡ f.row.value.element.key

-- ---- a record that is not filed yet

-- the records with it
abbrev pub with_fresh : Option ReminderRow → List ReminderRow → List ReminderRow
with_fresh None rows = rows
with_fresh (Some e) rows = with_put row_cmp e rows

-- there is room for one record if none is waiting to be filed
abbrev pub spare_of : Option ReminderRow → ℕ
spare_of None = suc zero
spare_of (Some e) = zero

-- no record of its actor and name is filed
abbrev pub IsNew : Option ReminderRow → List ReminderRow → Type 0
IsNew None rows = Unit {0}
IsNew (Some e) rows = row_at e.key.actor e.key.name rows ≡ None

-- it is the record of an actor and a name
abbrev pub is_named : ActorKey → List ℕ → Option ReminderRow → Bool
is_named actor name None = false
is_named actor name (Some e) = is_eq (at_name actor name e)

-- it is due again, if it is the record of an actor and a name
abbrev pub fired_fresh : ActorKey → List ℕ → ℕ → Option ℕ → Option ReminderRow → Option ReminderRow
fired_fresh actor name moment left None = None
fired_fresh actor name moment left (Some e) = if is_eq (at_name actor name e) then Some (fired_row e moment left) else Some e

-- the earlier of a key that was found behind a place and another one
abbrev pub earlier_of : Option DueKey → DueKey → DueKey
earlier_of None k = k
earlier_of (Some x) k = if is_lt (due_cmp x k) then x else k

-- the first key behind a place, from the one that was found there and another one
abbrev pub first_with : (DueKey → Ordering) → DueKey → Option DueKey → Option DueKey
first_with at k filed = if is_gt (at k) then Some (earlier_of filed k) else filed
