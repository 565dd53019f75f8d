-- The first timer of a list that is cut in two, and the one that is due.
use Rattle.std.proofs.Common.{◌≡◌, ℕ, ◌<◌, ◌≤◌, Bool, true, false, not, ◌&&◌, nat_le, if◌then◌else◌, List, [], ◌∷◌, ◌++◌, Option, Some, None, refl, sym, ap, subst, ◌∙◌, arith}
use Rattle.std.specs.declared.cmp.Ordering.TheVariants.{Less}
use Rattle.lists_and_limits.specs.Orders.{IsBelowAll}
use Rattle.timer_book.specs.declared.entry.TimerEntry.{TimerEntry}
use Rattle.timer_book.specs.Entries.{entry_place, place_cmp, Ascends, is_earlier, is_waiting, earlier_of, due_entry}
use Rattle.timer_book.specs.Soonest.{is_first, sooner, moment_in, first_in, idle, first_of, soonest_of, by_now}

-- the moment of the first timer is the first moment
moment_first : (a b : Option TimerEntry) → moment_in (first_in a b) ≡ sooner (moment_in a) (moment_in b)
moment_first None b = refl
moment_first (Some a) None = refl
moment_first (Some a) (Some b) = go (nat_le a.moment b.moment)
  where
    go : (t : Bool) → moment_in (if t then Some a else Some b) ≡ (if t then Some a.moment else Some b.moment)
    go true = refl
    go false = refl

assoc : (a b c : Option TimerEntry) → first_in (first_in a b) c ≡ first_in a (first_in b c)
assoc None b c = refl
assoc (Some a) None c = refl
assoc (Some a) (Some b) None = go (nat_le a.moment b.moment)
  where
    go : (t : Bool) → first_in (if t then Some a else Some b) None ≡ (if t then Some a else Some b)
    go true = refl
    go false = refl
assoc (Some a) (Some b) (Some c) = grind arith

pub first_append : (l r : List TimerEntry) → first_of (l ++ r) ≡ first_in (first_of l) (first_of r)
first_append [] r = refl
first_append (x ∷ l) r = rw (first_append l r) (sym (assoc (idle x) (first_of l) (first_of r)))

pub soonest_fork : (l : List TimerEntry) (x : TimerEntry) (r : List TimerEntry) → soonest_of (l ++ x ∷ r) ≡ sooner (soonest_of l) (sooner (moment_in (idle x)) (soonest_of r))
soonest_fork l x r =
    ap moment_in (first_append l (x ∷ r))
    ∙ moment_first (first_of l) (first_of (x ∷ r))
    ∙ ap (λ m. sooner (soonest_of l) m) (moment_first (idle x) (first_of r))

-- ---- which side has the first one

pick : (a b : Option TimerEntry) (t : Bool) → is_first (moment_in a) (moment_in b) ≡ t → first_in a b ≡ (if t then a else b)
pick a b t h = rw h refl

idle_is : (x : TimerEntry) (m : Option ℕ) → is_first (moment_in (idle x)) m ≡ true → idle x ≡ Some x
idle_is x m h = go x.running h
  where
    go : (b : Bool) → is_first (moment_in (if b then None else Some x)) m ≡ true → (if b then None else Some x) ≡ Some x
    go true h = absurd (cc)
    go false h = refl

module _ (l : List TimerEntry) (x : TimerEntry) (r : List TimerEntry) where
  rest_is : moment_in (first_of (x ∷ r)) ≡ sooner (moment_in (idle x)) (soonest_of r)
  rest_is = moment_first (idle x) (first_of r)

  pub first_left : is_first (soonest_of l) (sooner (moment_in (idle x)) (soonest_of r)) ≡ true → first_of (l ++ x ∷ r) ≡ first_of l
  first_left h = first_append l (x ∷ r) ∙ pick (first_of l) (first_of (x ∷ r)) true (rw rest_is h)

  pub first_not_left : is_first (soonest_of l) (sooner (moment_in (idle x)) (soonest_of r)) ≡ false → first_of (l ++ x ∷ r) ≡ first_of (x ∷ r)
  first_not_left h = first_append l (x ∷ r) ∙ pick (first_of l) (first_of (x ∷ r)) false (rw rest_is h)

  pub first_here : is_first (soonest_of l) (sooner (moment_in (idle x)) (soonest_of r)) ≡ false → is_first (moment_in (idle x)) (soonest_of r) ≡ true → first_of (l ++ x ∷ r) ≡ Some x
  first_here h k = first_not_left h ∙ pick (idle x) (first_of r) true k ∙ idle_is x (soonest_of r) k

  pub first_right : is_first (soonest_of l) (sooner (moment_in (idle x)) (soonest_of r)) ≡ false → is_first (moment_in (idle x)) (soonest_of r) ≡ false → first_of (l ++ x ∷ r) ≡ first_of r
  first_right h k = first_not_left h ∙ pick (idle x) (first_of r) false k

-- ---- the one that is due

pub first_below : (p : List (List ℕ)) (xs : List TimerEntry) (f : TimerEntry) → IsBelowAll entry_place place_cmp p xs → first_of xs ≡ Some f → place_cmp p (entry_place f) ≡ Less
first_below p [] f b h = absurd (cc)
first_below p (x ∷ xs) f b h = go (is_first (moment_in (idle x)) (soonest_of xs)) refl (λ e. first_below p xs f b.1 e)
  where
    go : (t : Bool) → is_first (moment_in (idle x)) (soonest_of xs) ≡ t → (first_of xs ≡ Some f → place_cmp p (entry_place f) ≡ Less) → place_cmp p (entry_place f) ≡ Less
    go true is ih =
        let e : Some x ≡ Some f = sym (pick (idle x) (first_of xs) true is ∙ idle_is x (soonest_of xs) is) ∙ h in
        let same : x ≡ f = cc in
        subst (λ (z : TimerEntry). place_cmp p (entry_place z) ≡ Less) same b.0
    go false is ih = ih (sym (pick (idle x) (first_of xs) false is) ∙ h)

earlier_is : (x f : TimerEntry) → place_cmp (entry_place x) (entry_place f) ≡ Less → is_earlier x f ≡ nat_le x.moment f.moment
earlier_is x f h = rw h (grind arith)

due_with : (now : ℕ) (x : TimerEntry) (o : Option TimerEntry) → ((f : TimerEntry) → o ≡ Some f → place_cmp (entry_place x) (entry_place f) ≡ Less) → (if nat_le x.moment now then earlier_of x (by_now now o) else by_now now o) ≡ by_now now (first_in (Some x) o)
due_with now x None h = refl
due_with now x (Some f) h = let e = earlier_is x f (h f refl) in grind (arith, e)

due_step : (now : ℕ) (x : TimerEntry) (o : Option TimerEntry) → ((f : TimerEntry) → o ≡ Some f → place_cmp (entry_place x) (entry_place f) ≡ Less) → (if is_waiting now x then earlier_of x (by_now now o) else by_now now o) ≡ by_now now (first_in (idle x) o)
due_step now x o h = go x.running
  where
    go : (b : Bool) → (if not b && nat_le x.moment now then earlier_of x (by_now now o) else by_now now o) ≡ by_now now (first_in (if b then None else Some x) o)
    go true = refl
    go false = due_with now x o h

pub due_first : (now : ℕ) (xs : List TimerEntry) → Ascends xs → due_entry now xs ≡ by_now now (first_of xs)
due_first now [] a = refl
due_first now (x ∷ xs) a = rw (due_first now xs a.1) (due_step now x (first_of xs) (λ f h. first_below (entry_place x) xs f a.0 h))

pub by_now_yes : (now : ℕ) (e : TimerEntry) → e.moment ≤ now → by_now now (Some e) ≡ Some e
by_now_yes now e h = grind arith

pub by_now_no : (now : ℕ) (e : TimerEntry) → now < e.moment → by_now now (Some e) ≡ None
by_now_no now e h = grind arith
