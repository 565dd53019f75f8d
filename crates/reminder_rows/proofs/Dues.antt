-- The keys behind a place, one after another, and those of them that are due.
use Rattle.std.proofs.Common.{◌≡◌, ◌⊎◌, inl, inr, ℕ, zero, suc, ◌+◌, ◌-◌, ◌<◌, ◌≤◌, Bool, true, false, nat_le, List, [], ◌∷◌, ◌++◌, length, filter, take, Option, Some, None, refl, sym, ap, subst, ◌∙◌, append_assoc, arith}
use Rattle.std.specs.List.{last_or, slice_get}
use Rattle.std.specs.declared.cmp.Ordering.{Ordering}
use Rattle.std.specs.declared.cmp.Ordering.TheVariants.{Less, Equal, Greater}
use Rattle.std.specs.Ordering.{nat_cmp, ordering_then, ordering_reverse, is_eq, is_gt}
use Rattle.std.proofs.lemmas.Bool.Decides.{nat_tests}
use Rattle.std.proofs.lemmas.List.{append-nil}
use Rattle.std.proofs.lemmas.Cmp.{tied_itself}
use Rattle.lists_and_limits.specs.Cuts.{IsCut}
use Rattle.lists_and_limits.specs.Lists.{first_behind, found, put_by, with_put}
use Rattle.lists_and_limits.specs.Orders.{IsBelow, Ascends, IsPlace}
use Rattle.lists_and_limits.proofs.Orders.{place_key, cut}
use Rattle.reminder_rows.specs.declared.row.DueKey.{DueKey}
use Rattle.reminder_rows.specs.Reminders.{place_cmp, due_cmp, after_at, is_after, is_due}
use Rattle.reminder_rows.specs.Filing.{first_with}
use Rattle.reminder_rows.specs.Orders.{dues_total}
use Rattle.reminder_rows.proofs.Sorted.{at_key}

-- the comparison with a place in the order is one that a search tree can use
pub after_place : (p : Option DueKey) → IsPlace due_cmp (after_at p)
after_place None a b h = inr refl
after_place (Some k) a b h = place_key (λ x. x) due_cmp dues_total k a b h

pub cut_after : (p : Option DueKey) (dues : List DueKey) → Ascends due_cmp dues → IsCut (after_at p) dues
cut_after p dues a = cut (λ x. x) due_cmp (after_at p) dues (after_place p) a

forth : (a b : DueKey) → due_cmp a b ≡ Less → due_cmp b a ≡ Greater
forth a b l = dues_total.antisymm b a ∙ ap ordering_reverse l

back : (a b : DueKey) → due_cmp a b ≡ Greater → due_cmp b a ≡ Less
back a b g = dues_total.antisymm b a ∙ ap ordering_reverse g

module _ (p : Option DueKey) where
  -- what is behind a key that is behind a place is behind the place too
  behind_too : (a b : DueKey) → due_cmp a b ≡ Less → is_gt (after_at p a) ≡ true → is_gt (after_at p b) ≡ true
  behind_too a b l h = go (after_place p a b l)
    where
      go : (after_at p a ≡ Less) ⊎ (after_at p b ≡ Greater) → is_gt (after_at p b) ≡ true
      go (inl e) = absurd (let w : is_gt (after_at p a) ≡ false = ap is_gt e in cc)
      go (inr g) = ap is_gt g

  -- ---- one that is not filed yet

  pub first-put : (k : DueKey) (dues : List DueKey) → found (at_key k) dues ≡ None → first_behind (after_at p) (with_put due_cmp k dues) ≡ first_with (after_at p) k (first_behind (after_at p) dues)
  first-put k [] new = refl
  first-put k (x ∷ xs) new = go (due_cmp x k) refl (λ n. first-put k xs n)
    where
      less : (b : Bool) → is_gt (after_at p x) ≡ b → due_cmp x k ≡ Less → first_behind (after_at p) (with_put due_cmp k xs) ≡ first_with (after_at p) k (first_behind (after_at p) xs) → first_behind (after_at p) (x ∷ with_put due_cmp k xs) ≡ first_with (after_at p) k (first_behind (after_at p) (x ∷ xs))
      less true h l ih = rw (h, behind_too x k l h, l) refl
      less false h l ih = rw h ih

      greater : (b : Bool) → is_gt (after_at p k) ≡ b → due_cmp x k ≡ Greater → first_behind (after_at p) (k ∷ x ∷ xs) ≡ first_with (after_at p) k (first_behind (after_at p) (x ∷ xs))
      greater true h g = rw (h, behind_too k x (back x k g) h, g) refl
      greater false h g = rw h refl

      go : (o : Ordering) → due_cmp x k ≡ o → (found (at_key k) xs ≡ None → first_behind (after_at p) (with_put due_cmp k xs) ≡ first_with (after_at p) k (first_behind (after_at p) xs)) → first_behind (after_at p) (put_by o k x xs (with_put due_cmp k xs)) ≡ first_with (after_at p) k (first_behind (after_at p) (x ∷ xs))
      go Less is ih =
          let other : is_eq (due_cmp x k) ≡ false = ap is_eq is in
          less (is_gt (after_at p x)) refl is (ih (rw other at new))
      go Equal is ih =
          absurd (let t : is_eq (due_cmp x k) ≡ true = ap is_eq is in let n : Some x ≡ None = rw t at new in cc)
      go Greater is ih = greater (is_gt (after_at p k)) refl is

-- ---- the first one behind a place, and those behind it

module _ (x : DueKey) where
  below_first : (at : DueKey → Ordering) (xs : List DueKey) (r : DueKey) → IsBelow due_cmp x xs → first_behind at xs ≡ Some r → due_cmp x r ≡ Less
  below_first at [] r b h = absurd (cc)
  below_first at (y ∷ ys) r b h = go (is_gt (at y)) refl (λ e. below_first at ys r b.1 e)
    where
      go : (t : Bool) → is_gt (at y) ≡ t → (first_behind at ys ≡ Some r → due_cmp x r ≡ Less) → due_cmp x r ≡ Less
      go true is ih =
          let e : Some y ≡ Some r = rw is at h in
          let same : y ≡ r = cc in
          subst (λ (z : DueKey). due_cmp x z ≡ Less) same b.0
      go false is ih = ih (rw is at h)

  -- all keys behind one that is behind a place
  all_after : (p : Option DueKey) (xs : List DueKey) → is_gt (after_at p x) ≡ true → IsBelow due_cmp x xs → filter (is_after p) xs ≡ xs
  all_after p [] h b = refl
  all_after p (y ∷ ys) h b = rw (behind_too p x y b.0 h) (ap (λ zs. y ∷ zs) (all_after p ys h b.1))

  all_behind : (xs : List DueKey) → IsBelow due_cmp x xs → filter (is_after (Some x)) xs ≡ xs
  all_behind [] b = refl
  all_behind (y ∷ ys) b =
      let g : is_gt (due_cmp y x) ≡ true = ap is_gt (forth x y b.0) in
      rw g (ap (λ zs. y ∷ zs) (all_behind ys b.1))

module _ (p : Option DueKey) where
  pub after-first : (xs : List DueKey) (r : DueKey) → Ascends due_cmp xs → first_behind (after_at p) xs ≡ Some r → filter (is_after p) xs ≡ r ∷ filter (is_after (Some r)) xs
  after-first [] r a h = absurd (cc)
  after-first (x ∷ xs) r a h = go (is_gt (after_at p x)) refl (λ e. after-first xs r a.1 e)
    where
      go : (b : Bool) → is_gt (after_at p x) ≡ b → (first_behind (after_at p) xs ≡ Some r → filter (is_after p) xs ≡ r ∷ filter (is_after (Some r)) xs) → filter (is_after p) (x ∷ xs) ≡ r ∷ filter (is_after (Some r)) (x ∷ xs)
      go true is ih =
          let e : Some x ≡ Some r = rw is at h in
          let same : x ≡ r = cc in
          let itself : is_gt (due_cmp x x) ≡ false = ap is_gt (tied_itself dues_total x) in
          subst (λ (z : DueKey). filter (is_after p) (x ∷ xs) ≡ z ∷ filter (is_after (Some z)) (x ∷ xs)) same
          (rw (is, all_after x p xs is a.0, itself, all_behind x xs a.0) refl)
      go false is ih =
          let e : first_behind (after_at p) xs ≡ Some r = rw is at h in
          let before : is_gt (due_cmp x r) ≡ false = ap is_gt (below_first x (after_at p) xs r a.0 e) in
          rw (is, before) (ih e)

  pub after-none : (xs : List DueKey) → first_behind (after_at p) xs ≡ None → filter (is_after p) xs ≡ []
  after-none [] h = refl
  after-none (x ∷ xs) h = go (is_gt (after_at p x)) refl (λ e. after-none xs e)
    where
      go : (b : Bool) → is_gt (after_at p x) ≡ b → (first_behind (after_at p) xs ≡ None → filter (is_after p) xs ≡ []) → filter (is_after p) (x ∷ xs) ≡ []
      go true is ih = absurd (let e : Some x ≡ None = rw is at h in cc)
      go false is ih = rw is (ih (rw is at h))

-- ---- those that are due

later : (m n : ℕ) (o : Ordering) → is_gt (ordering_then (nat_cmp m n) o) ≡ true → n ≤ m
later m n o h = grind (arith, nat_tests)

none_due : (now : ℕ) (r : DueKey) → now < r.moment → (xs : List DueKey) → filter (is_due now) (filter (is_after (Some r)) xs) ≡ []
none_due now r l [] = refl
none_due now r l (x ∷ xs) = go (is_after (Some r) x) refl (none_due now r l xs)
  where
    go : (b : Bool) → is_after (Some r) x ≡ b → filter (is_due now) (filter (is_after (Some r)) xs) ≡ [] → filter (is_due now) (filter (is_after (Some r)) (x ∷ xs)) ≡ []
    go true is ih =
        let le : r.moment ≤ x.moment = later x.moment r.moment (place_cmp x.actor x.name r.actor r.name) is in
        let not : nat_le x.moment now ≡ false = grind (arith, nat_tests) in
        rw (is, not) ih
    go false is ih = rw is ih

-- the first ones of those that are due
abbrev pub first_due : ℕ → Option DueKey → ℕ → List DueKey → List DueKey
first_due now after limit dues = take limit (filter (is_due now) (filter (is_after after) dues))

abbrev no_key : List DueKey
no_key = []

take_none : (n : ℕ) → take n no_key ≡ []
take_none zero = refl
take_none (suc n) = refl

module _ (now : ℕ) (p : Option DueKey) (xs : List DueKey) where
  pub due-more : (n : ℕ) (r : DueKey) → Ascends due_cmp xs → first_behind (after_at p) xs ≡ Some r → r.moment ≤ now → first_due now p (suc n) xs ≡ r ∷ first_due now (Some r) n xs
  due-more n r a h l =
      let yes : nat_le r.moment now ≡ true = grind (arith, nat_tests) in
      rw (after-first p xs r a h, yes) refl

  pub due-late : (n : ℕ) (r : DueKey) → Ascends due_cmp xs → first_behind (after_at p) xs ≡ Some r → now < r.moment → first_due now p n xs ≡ []
  due-late n r a h l =
      let not : nat_le r.moment now ≡ false = grind (arith, nat_tests) in
      rw (after-first p xs r a h, not, none_due now r l xs) (take_none n)

  pub due-end : (n : ℕ) → first_behind (after_at p) xs ≡ None → first_due now p n xs ≡ []
  due-end n h = rw (after-none p xs h) (take_none n)

-- ---- the last of the keys that were told

last-get : (o : Option DueKey) (xs : List DueKey) (n : ℕ) (x : DueKey) → length xs ≡ suc n → slice_get xs n ≡ Some x → last_or o xs ≡ Some x
last-get o [] n x l h = absurd (cc)
last-get o (y ∷ []) zero x l h = h
last-get o (y ∷ []) (suc n) x l h = absurd (omega arith)
last-get o (y ∷ z ∷ zs) zero x l h = absurd (omega arith)
last-get o (y ∷ z ∷ zs) (suc n) x l h =
    let m : length (z ∷ zs) ≡ suc n = omega arith in
    last-get (Some y) (z ∷ zs) n x m h

pub last-is : (o : Option DueKey) (xs : List DueKey) (x : DueKey) → slice_get xs (length xs - 1) ≡ Some x → last_or o xs ≡ Some x
last-is o [] x h = absurd (cc)
last-is o (y ∷ ys) x h =
    let n : length (y ∷ ys) - 1 ≡ length ys = omega arith in
    last-get o (y ∷ ys) (length ys) x refl (rw n at h)

pub last-push : (o : Option DueKey) (xs : List DueKey) (x : DueKey) → last_or o (xs ++ x ∷ []) ≡ Some x
last-push o [] x = refl
last-push o (y ∷ ys) x = last-push (Some y) ys x

-- ---- the keys that were told, and those that follow

module _ (now : ℕ) (p : Option DueKey) (dues : List DueKey) (a : Ascends due_cmp dues) (limit i : ℕ) (keys : List DueKey) where
  abbrev Follows : List DueKey → ℕ → Type 0
  Follows told n = first_due now p limit dues ≡ told ++ first_due now (last_or p told) (limit - n) dues

  -- one more key
  pub told-more : (r : DueKey) → i < limit → Follows keys i → first_behind (after_at (last_or p keys)) dues ≡ Some r → r.moment ≤ now → Follows (keys ++ r ∷ []) (i + 1)
  told-more r l f h m =
      let n : limit - i ≡ suc (limit - (i + 1)) = omega arith in
      let more : first_due now p limit dues ≡ keys ++ first_due now (last_or p keys) (suc (limit - (i + 1))) dues = rw n at f in
      more
      ∙ rw (due-more now (last_or p keys) dues (limit - (i + 1)) r a h m, last-push p keys r, append_assoc) refl

  -- no more keys
  pub told-none : Follows keys i → first_behind (after_at (last_or p keys)) dues ≡ None → keys ≡ first_due now p limit dues
  told-none f h = sym (f ∙ rw (due-end now (last_or p keys) dues (limit - i) h) (append-nil keys))

  pub told-late : (r : DueKey) → Follows keys i → first_behind (after_at (last_or p keys)) dues ≡ Some r → now < r.moment → keys ≡ first_due now p limit dues
  told-late r f h m = sym (f ∙ rw (due-late now (last_or p keys) dues (limit - i) r a h m) (append-nil keys))

  pub told-all : limit ≤ i → Follows keys i → keys ≡ first_due now p limit dues
  told-all l f =
      let n : limit - i ≡ zero = omega arith in
      let end : first_due now p limit dues ≡ keys ++ first_due now (last_or p keys) zero dues = rw n at f in
      sym (end ∙ append-nil keys)
