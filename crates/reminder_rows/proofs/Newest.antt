-- The filed records together with one that isn't filed yet.
use Rattle.std.proofs.Common.{◌≡◌, ℕ, ◌≤◌, Bool, true, false, if◌then◌else◌, List, Option, Some, None, is_some, refl, sym, ap, ◌∙◌, arith}
use Rattle.std.specs.Ordering.{is_eq}
use Rattle.actor_names.specs.declared.actor_key.ActorKey.{ActorKey}
use Rattle.lists_and_limits.specs.Lists.{first_behind, with_put}
use Rattle.lists_and_limits.specs.Orders.{Ascends}
use Rattle.reminder_rows.specs.declared.row.ReminderRow.{ReminderRow}
use Rattle.reminder_rows.specs.declared.row.DueKey.{DueKey}
use Rattle.reminder_rows.specs.Reminders.{at_name, row_cmp, row_at, without_row, by_due, after_at, fired_row, refired}
use Rattle.reminder_rows.specs.Filing.{with_fresh, spare_of, IsNew, is_named, fired_fresh, first_with}
use Rattle.reminder_rows.specs.Orders.{rows_total}
use Rattle.lists_and_limits.proofs.Maps as maps
use Rattle.reminder_rows.proofs.Sorted.{rows_law, row_of, by_due-put, new-due}
use Rattle.reminder_rows.proofs.Dues.{first-put}

-- the records stay in order
pub fresh-order : (o : Option ReminderRow) (rows : List ReminderRow) → Ascends row_cmp rows → Ascends row_cmp (with_fresh o rows)
fresh-order None rows a = a
fresh-order (Some e) rows a = let l = rows_law in l.put e rows a

-- if there is room, all records are filed
pub none_fresh : (o : Option ReminderRow) → 1 ≤ spare_of o → o ≡ None
none_fresh None h = refl
none_fresh (Some e) h = absurd (omega arith)

-- ---- what is found

module _ (actor : ActorKey) (name : List ℕ) (rows : List ReminderRow) where
  found-fresh : (e : ReminderRow) → row_at actor name (with_put row_cmp e rows) ≡ (if is_eq (at_name actor name e) then Some e else row_at actor name rows)
  found-fresh e = maps.found-put (λ x. x) row_cmp rows_total e (row_of actor name) rows

  pub its : (e : ReminderRow) → is_eq (at_name actor name e) ≡ true → row_at actor name (with_put row_cmp e rows) ≡ Some e
  its e n = found-fresh e ∙ rw n refl

  pub other : (o : Option ReminderRow) → is_named actor name o ≡ false → row_at actor name (with_fresh o rows) ≡ row_at actor name rows
  other None n = refl
  other (Some e) n = found-fresh e ∙ rw n refl

  -- none of its name is filed
  none_named : (e : ReminderRow) → is_eq (at_name actor name e) ≡ true → IsNew (Some e) rows → row_at actor name rows ≡ None
  none_named e n new = sym (maps.found-tied (λ x. x) row_cmp rows_total e (row_of actor name) n rows) ∙ new

  -- after another record was taken out, it still isn't filed
  module _ (a : Ascends row_cmp rows) where
    pub new-without : (o : Option ReminderRow) → IsNew o rows → IsNew o (without_row actor name rows)
    new-without None new = tt
    new-without (Some e) new = maps.found-without (λ x. x) row_cmp rows_total (row_of actor name) e rows a ∙ go (is_eq (row_cmp (row_of actor name) e))
      where
        go : (b : Bool) → (if b then None else row_at e.key.actor e.key.name rows) ≡ None
        go true = refl
        go false = new

    -- ---- what is left without a record of an actor and a name

    pub there-named : (o : Option ReminderRow) → is_named actor name o ≡ true → is_some (row_at actor name (with_fresh o rows)) ≡ true
    there-named None n = absurd (cc)
    there-named (Some e) n = rw (its e n) refl

    pub without-named : (o : Option ReminderRow) → is_named actor name o ≡ true → IsNew o rows → without_row actor name (with_fresh o rows) ≡ rows
    without-named None n new = absurd (cc)
    without-named (Some e) n new = maps.without-put (λ x. x) row_cmp rows_total (row_of actor name) e rows a n (none_named e n new)

    pub without-other : (o : Option ReminderRow) → is_named actor name o ≡ false → without_row actor name (with_fresh o rows) ≡ with_fresh o (without_row actor name rows)
    without-other None n = refl
    without-other (Some e) n = maps.without-other (λ x. x) row_cmp rows_total (row_of actor name) e rows a n

    -- ---- what a firing leaves

    module _ (moment : ℕ) (left : Option ℕ) where
      pub fired-new : (o : Option ReminderRow) → IsNew o rows → IsNew (fired_fresh actor name moment left o) rows
      fired-new None new = tt
      fired-new (Some e) new = go (is_eq (at_name actor name e))
        where
          go : (b : Bool) → IsNew (if b then Some (fired_row e moment left) else Some e) rows
          go true = new
          go false = new

      pub fired-spare : (o : Option ReminderRow) → spare_of (fired_fresh actor name moment left o) ≡ spare_of o
      fired-spare None = refl
      fired-spare (Some e) = go (is_eq (at_name actor name e))
        where
          go : (b : Bool) → spare_of (if b then Some (fired_row e moment left) else Some e) ≡ spare_of (Some e)
          go true = refl
          go false = refl

      pub fired-other : (o : Option ReminderRow) → is_named actor name o ≡ false → fired_fresh actor name moment left o ≡ o
      fired-other None n = refl
      fired-other (Some e) n = rw n refl

      pub refired-named : (o : Option ReminderRow) → is_named actor name o ≡ true → with_fresh (fired_fresh actor name moment left o) rows ≡ refired (row_at actor name (with_fresh o rows)) moment left (with_fresh o rows)
      refired-named None n = absurd (cc)
      refired-named (Some e) n =
          let tied : is_eq (row_cmp (fired_row e moment left) e) ≡ true = maps.itself (λ x. x) row_cmp rows_total e in
          rw (n, its e n) (sym (maps.put-over (λ x. x) row_cmp rows_total (fired_row e moment left) e rows a tied))

      -- a filed record of another name isn't the one that fired
      apart : (f e : ReminderRow) → is_eq (at_name actor name f) ≡ false → is_eq (at_name actor name e) ≡ true → is_eq (row_cmp f (fired_row e moment left)) ≡ false
      apart f e n m = go (is_eq (row_cmp f e)) refl
        where
          go : (b : Bool) → is_eq (row_cmp f e) ≡ b → is_eq (row_cmp f e) ≡ false
          go true t =
              let back : is_eq (row_cmp (row_of actor name) e) ≡ true = maps.back (λ x. x) row_cmp rows_total e (row_of actor name) m in
              let k : is_eq (row_cmp f (row_of actor name)) ≡ true = maps.meet (λ x. x) row_cmp rows_total f (row_of actor name) e t back in
              absurd (cc)
          go false t = t

      fired-filed : (o : Option ReminderRow) (e : ReminderRow) → is_named actor name o ≡ false → is_eq (at_name actor name e) ≡ true → with_fresh o (with_put row_cmp (fired_row e moment left) rows) ≡ with_put row_cmp (fired_row e moment left) (with_fresh o rows)
      fired-filed None e n m = refl
      fired-filed (Some f) e n m = maps.put-put (λ x. x) row_cmp rows_total f (fired_row e moment left) rows a (apart f e n m)

      new-filed : (o : Option ReminderRow) (e : ReminderRow) → is_named actor name o ≡ false → is_eq (at_name actor name e) ≡ true → IsNew o rows → IsNew o (with_put row_cmp (fired_row e moment left) rows)
      new-filed None e n m new = tt
      new-filed (Some f) e n m new = maps.found-put (λ x. x) row_cmp rows_total (fired_row e moment left) f rows ∙ rw (not_back (is_eq (row_cmp (fired_row e moment left) f)) refl) new
        where
          not_back : (b : Bool) → is_eq (row_cmp (fired_row e moment left) f) ≡ b → is_eq (row_cmp (fired_row e moment left) f) ≡ false
          not_back true t =
              let k : is_eq (row_cmp f (fired_row e moment left)) ≡ true = maps.back (λ x. x) row_cmp rows_total (fired_row e moment left) f t in
              let other_side : is_eq (row_cmp f (fired_row e moment left)) ≡ false = apart f e n m in
              absurd (cc)
          not_back false t = t

      pub refired-other : (o : Option ReminderRow) → is_named actor name o ≡ false → with_fresh o (refired (row_at actor name rows) moment left rows) ≡ refired (row_at actor name (with_fresh o rows)) moment left (with_fresh o rows)
      refired-other o n = rw (other o n) (go (row_at actor name rows) refl)
        where
          go : (r : Option ReminderRow) → row_at actor name rows ≡ r → with_fresh o (refired r moment left rows) ≡ refired r moment left (with_fresh o rows)
          go None h = refl
          go (Some e) h = fired-filed o e n (maps.found-is (at_name actor name) e rows h)

      pub new-refired : (o : Option ReminderRow) → is_named actor name o ≡ false → IsNew o rows → IsNew o (refired (row_at actor name rows) moment left rows)
      new-refired o n new = go (row_at actor name rows) refl
        where
          go : (r : Option ReminderRow) → row_at actor name rows ≡ r → IsNew o (refired r moment left rows)
          go None h = new
          go (Some e) h = new-filed o e n (maps.found-is (at_name actor name) e rows h) new

-- ---- what is due

pub first-fresh : (p : Option DueKey) (e : ReminderRow) (rows : List ReminderRow) → IsNew (Some e) rows → first_behind (after_at p) (by_due (with_put row_cmp e rows)) ≡ first_with (after_at p) e.key (first_behind (after_at p) (by_due rows))
first-fresh p e rows new = ap (first_behind (after_at p)) (by_due-put e rows new) ∙ first-put p e.key (by_due rows) (new-due e rows new)
