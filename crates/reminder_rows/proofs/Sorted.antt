-- Records in the order in which they are due, and how that changes when a record is put or taken out.
use Rattle.std.proofs.Common.{◌≡◌, ℕ, Bool, true, false, ◌==◌, List, [], ◌∷◌, Option, Some, None, refl, sym, ap, ◌∙◌, arith}
use Rattle.std.specs.declared.cmp.Ordering.{Ordering}
use Rattle.std.specs.declared.cmp.Ordering.TheVariants.{Less, Equal, Greater}
use Rattle.std.specs.Ordering.{nat_cmp, ordering_then, is_eq}
use Rattle.std.proofs.lemmas.Bool.Decides.{nat_tests}
use Rattle.actor_names.specs.declared.actor_key.ActorKey.{ActorKey}
use Rattle.lists_and_limits.specs.Cuts.{IsCut}
use Rattle.lists_and_limits.specs.Lists.{found, put_by, with_put, without}
use Rattle.lists_and_limits.specs.Orders.{Ascends, OrderLaw}
use Rattle.lists_and_limits.proofs.Orders.{law}
use Rattle.reminder_rows.specs.declared.row.ReminderRow.{ReminderRow}
use Rattle.reminder_rows.specs.declared.row.DueKey.{DueKey}
use Rattle.reminder_rows.specs.Reminders.{at_name, row_cmp, row_at, without_row, due_cmp, by_due, key_in}
use Rattle.reminder_rows.specs.Filing.{IsFiled}
use Rattle.reminder_rows.specs.Orders.{rows_total, dues_total}
use Rattle.lists_and_limits.proofs.Maps as maps

pub rows_law : OrderLaw row_cmp
rows_law = law row_cmp rows_total

pub dues_law : OrderLaw due_cmp
dues_law = law due_cmp dues_total

-- some record of an actor and a name
abbrev pub row_of : ActorKey → List ℕ → ReminderRow
row_of actor name =
    record {
      key = record { moment = 0; actor = actor; name = name };
      reminder = record {
        schedule = record { first = None; period = None; left = None; «end» = None };
        due = [];
        period = [];
        ttl = [];
        payload = None;
      };
    }

-- how a key compares with another one
abbrev pub at_key : DueKey → DueKey → Ordering
at_key k x = due_cmp x k

pub cut_name : (actor : ActorKey) (name : List ℕ) (rows : List ReminderRow) → Ascends row_cmp rows → IsCut (at_name actor name) rows
cut_name actor name rows a = let l = rows_law in l.cut_element (row_of actor name) rows a

pub cut_row : (e : ReminderRow) (rows : List ReminderRow) → Ascends row_cmp rows → IsCut (λ x. row_cmp x e) rows
cut_row e rows a = let l = rows_law in l.cut_element e rows a

pub cut_key : (k : DueKey) (dues : List DueKey) → Ascends due_cmp dues → IsCut (at_key k) dues
cut_key k dues a = let l = dues_law in l.cut_element k dues a

pub due-order : (rows : List ReminderRow) → Ascends due_cmp (by_due rows)
due-order [] = tt
due-order (x ∷ xs) = let l = dues_law in l.put x.key (by_due xs) (due-order xs)

second : (a b : Ordering) → is_eq b ≡ false → is_eq (ordering_then a b) ≡ false
second Less b h = refl
second Equal b h = h
second Greater b h = refl

-- records with different names have different keys
pub apart : (a b : ReminderRow) → is_eq (row_cmp a b) ≡ false → is_eq (due_cmp a.key b.key) ≡ false
apart a b h = second (nat_cmp a.key.moment b.key.moment) (row_cmp a b) h

apart_back : (x e : ReminderRow) → is_eq (row_cmp x e) ≡ false → is_eq (row_cmp e x) ≡ false
apart_back x e h = go (is_eq (row_cmp e x)) refl
  where
    go : (b : Bool) → is_eq (row_cmp e x) ≡ b → is_eq (row_cmp e x) ≡ false
    go true t = absurd (let k : is_eq (row_cmp x e) ≡ true = maps.back (λ x. x) row_cmp rows_total e x t in cc)
    go false t = t

-- if the record of a name isn't found, it is neither the first record nor one of the others
module _ (e x : ReminderRow) (xs : List ReminderRow) (new : row_at e.key.actor e.key.name (x ∷ xs) ≡ None) where
  new_first : is_eq (row_cmp x e) ≡ false
  new_first = go (is_eq (row_cmp x e)) refl
    where
      go : (b : Bool) → is_eq (row_cmp x e) ≡ b → is_eq (row_cmp x e) ≡ false
      go true t = absurd (let k : Some x ≡ None = rw t at new in cc)
      go false t = t

  new_rest : row_at e.key.actor e.key.name xs ≡ None
  new_rest = let t = new_first in rw t at new

-- ---- a new record

module _ (e : ReminderRow) where
  pub by_due-put : (rows : List ReminderRow) → row_at e.key.actor e.key.name rows ≡ None → by_due (with_put row_cmp e rows) ≡ with_put due_cmp e.key (by_due rows)
  by_due-put [] new = refl
  by_due-put (x ∷ xs) new = go (row_cmp x e) refl (by_due-put xs (new_rest e x xs new))
    where
      go : (o : Ordering) → row_cmp x e ≡ o → by_due (with_put row_cmp e xs) ≡ with_put due_cmp e.key (by_due xs) → by_due (put_by o e x xs (with_put row_cmp e xs)) ≡ with_put due_cmp e.key (by_due (x ∷ xs))
      go Less is ih = rw ih (maps.put-put (λ x. x) due_cmp dues_total x.key e.key (by_due xs) (due-order xs) (apart x e (new_first e x xs new)))
      go Equal is ih = absurd (let k : is_eq (row_cmp x e) ≡ true = ap is_eq is in let n = new_first e x xs new in cc)
      go Greater is ih = refl

  pub new-due : (rows : List ReminderRow) → row_at e.key.actor e.key.name rows ≡ None → found (at_key e.key) (by_due rows) ≡ None
  new-due [] new = refl
  new-due (x ∷ xs) new =
      let n : is_eq (due_cmp x.key e.key) ≡ false = apart x e (new_first e x xs new) in
      maps.found-put (λ x. x) due_cmp dues_total x.key e.key (by_due xs) ∙ rw n (new-due xs (new_rest e x xs new))

-- ---- a record that is taken out

module _ (actor : ActorKey) (name : List ℕ) (rows : List ReminderRow) (a : Ascends row_cmp rows) where
  pub order-without : Ascends row_cmp (without_row actor name rows)
  order-without = let l = rows_law in l.without_one (at_name actor name) rows a

  pub gone : row_at actor name (without_row actor name rows) ≡ None
  gone = maps.found-without (λ x. x) row_cmp rows_total (row_of actor name) (row_of actor name) rows a ∙ rw (maps.itself (λ x. x) row_cmp rows_total (row_of actor name)) refl

  -- a record takes the place of the one of its name that was taken out
  pub put-named : (f : ReminderRow) → is_eq (at_name actor name f) ≡ true → with_put row_cmp f (without_row actor name rows) ≡ with_put row_cmp f rows
  put-named f n = maps.put-without (λ x. x) row_cmp rows_total (row_of actor name) f rows a n

  module _ (e : ReminderRow) (h : row_at actor name rows ≡ Some e) where
    pub named : is_eq (at_name actor name e) ≡ true
    named = maps.found-is (at_name actor name) e rows h

    -- no record of its name is left
    pub gone-name : row_at e.key.actor e.key.name (without_row actor name rows) ≡ None
    gone-name = maps.found-tied (λ x. x) row_cmp rows_total e (row_of actor name) named (without_row actor name rows) ∙ gone

    put_again : with_put row_cmp e (without_row actor name rows) ≡ rows
    put_again = maps.put-back (λ x. x) row_cmp rows_total (row_of actor name) e rows a h

    with_key : by_due rows ≡ with_put due_cmp e.key (by_due (without_row actor name rows))
    with_key = ap by_due (sym put_again) ∙ by_due-put e (without_row actor name rows) gone-name

    pub due-found : found (at_key e.key) (by_due rows) ≡ Some e.key
    due-found =
        rw with_key
        (maps.found-put (λ x. x) due_cmp dues_total e.key e.key (by_due (without_row actor name rows)) ∙ rw (maps.itself (λ x. x) due_cmp dues_total e.key) refl)

    pub by_due-without : without (at_key e.key) (by_due rows) ≡ by_due (without_row actor name rows)
    by_due-without =
        rw with_key
        (maps.without-put (λ x. x) due_cmp dues_total e.key e.key (by_due (without_row actor name rows)) (due-order (without_row actor name rows)) (maps.itself (λ x. x) due_cmp dues_total e.key) (new-due e (without_row actor name rows) gone-name))

-- ---- the keys are those of the records

same_moment : (m n : ℕ) (o : Ordering) → is_eq o ≡ true → is_eq (ordering_then (nat_cmp m n) o) ≡ (m == n)
same_moment m n o t = grind (arith, nat_tests)

-- some record of a key
abbrev row_with : DueKey → ReminderRow
row_with k = record { key = k; reminder = (row_of k.actor k.name).reminder }

pub found-key : (k : DueKey) (rows : List ReminderRow) → Ascends row_cmp rows → found (at_key k) (by_due rows) ≡ key_in k.moment (row_at k.actor k.name rows)
found-key k rows a = go (row_at k.actor k.name rows) refl
  where
    go : (r : Option ReminderRow) → row_at k.actor k.name rows ≡ r → found (at_key k) (by_due rows) ≡ key_in k.moment r
    go None h = new-due (row_with k) rows h
    go (Some e) h =
        let left = without_row k.actor k.name rows in
        let none : found (at_key k) (by_due left) ≡ None = new-due (row_with k) left (gone k.actor k.name rows a) in
        let is : is_eq (due_cmp e.key k) ≡ (e.key.moment == k.moment) = same_moment e.key.moment k.moment (at_name k.actor k.name e) (named k.actor k.name rows a e h) in
        rw (with_key k.actor k.name rows a e h)
        (maps.found-put (λ x. x) due_cmp dues_total e.key k (by_due left) ∙ rw (is, none) refl)

-- ---- both trees

pub none-without : (actor : ActorKey) (name : List ℕ) (rows : List ReminderRow) → row_at actor name rows ≡ None → without_row actor name rows ≡ rows
none-without actor name rows h = maps.without-none (at_name actor name) rows h

pub filed_dues : (rows : List ReminderRow) (dues : List DueKey) → IsFiled rows dues → Ascends due_cmp dues
filed_dues rows dues f = rw f.keys (due-order rows)

pub filed_put : (e : ReminderRow) (rows : List ReminderRow) (dues : List DueKey) → IsFiled rows dues → row_at e.key.actor e.key.name rows ≡ None → IsFiled (with_put row_cmp e rows) (with_put due_cmp e.key dues)
filed_put e rows dues f new = record {
  order = (let l = rows_law in l.put e rows f.order);
  keys = rw f.keys (sym (by_due-put e rows new));
}

pub filed_without : (actor : ActorKey) (name : List ℕ) (rows : List ReminderRow) (dues : List DueKey) (e : ReminderRow) → IsFiled rows dues → row_at actor name rows ≡ Some e → IsFiled (without_row actor name rows) (without (at_key e.key) dues)
filed_without actor name rows dues e f h = record {
  order = order-without actor name rows f.order;
  keys = rw f.keys (by_due-without actor name rows f.order e h);
}
