-- Replaying marks from the cells as they were gives the cells as they are: look-ups after changes, and lists of marks.
use Rattle.std.proofs.Common.{◌≡◌, ℕ, Bool, true, false, cond, List, [], ◌∷◌, ◌++◌, Option, None, Some, refl, sym, ap, ◌∙◌, subst, inl, inr}
use Rattle.std.proofs.lemmas.Bool.{or_parts, cond_both, cond-true, cond-false, false≢true, true≢false, cases_Bool}
use Rattle.actor_names.specs.declared.actor_key.ActorKey.{ActorKey}
pub use Rattle.lists_and_limits.proofs.Elements.{In-append}
use Rattle.turn_core.specs.declared.cell.Turn.{Turn}
use Rattle.turn_core.specs.CellSound.{In}
use Rattle.part_model.specs.declared.actor_cell.ActorCell.{ActorCell}
use Rattle.actor_names.specs.Same.{same_key, key_before}
use Rattle.part_model.specs.Cells.{cell_at, insert_cell, drop_cell, keep_cell, is_kept}
use Rattle.part_model.specs.Marks.{PartMark, TurnBegan, TurnEnded, BecameActive, BecameInactive, PartOpened}
use Rattle.part_model.specs.Order.{AreInOrder}
use Rattle.part_model.specs.Sound.{IsActorSound}
use Rattle.part_model.specs.Activity.{Activity, activity_in, activity_of, after_mark, is_mark_of, replay, is_inactive_of, IsLastWord, AreTidy, IsAtVersion, AreAt}
use Rattle.part_model.proofs.KeyOrders.{same_keys, before, same_key-true, same_key-self}
use Rattle.part_model.proofs.Elements.{other_key}

-- ---- keys

pub same_key-from : (a b : ActorKey) → a ≡ b → same_key a b ≡ true
same_key-from a b e = subst (λ (z : ActorKey). same_key a z ≡ true) e (same_key-self a)

pub same_key-false : (a b : ActorKey) → same_key a b ≡ false → a ≡ b → ⊥
same_key-false a b f e = true≢false (sym (same_key-from a b e) ∙ f)

pub not_same_key : (a b : ActorKey) → (a ≡ b → ⊥) → same_key a b ≡ false
not_same_key a b h = elim (cases_Bool (same_key a b)) [ inl t ↦ absurd (h (same_key-true a b t)) | inr f ↦ f ]

-- keys in order are distinct
pub later_key : (a b : ActorKey) → key_before a b ≡ true → b ≡ a → ⊥
later_key a b h e = same_key-false b a (same_keys a b _ (before a b h)) e

-- ---- look-ups

cell_at-drop : (cs : List ActorCell) (key k : ActorKey) → cell_at (drop_cell cs key) k ≡ cond (same_key k key) None (cell_at cs k)
cell_at-drop [] key k = sym (cond_both (same_key k key) _ _ (λ (r : Option ActorCell). r ≡ None) (λ _. refl) (λ _. refl))
cell_at-drop (c ∷ cs) key k =
    let more = cell_at-drop cs key k in
    cond_both (same_key key c.key) _ _ (λ r. cell_at r k ≡ cond (same_key k key) None (cell_at (c ∷ cs) k))
    (λ t. more ∙ cond_both (same_key k key) _ _ (λ r. cond (same_key k key) None (cell_at cs k) ≡ r)
    (λ a. cond-true _ _ _ a)
    (λ a. cond-false _ _ _ a ∙ sym (cond-false (same_key k c.key) _ _ (subst (λ (z : ActorKey). same_key k z ≡ false) (same_key-true key c.key t) a))))
    (λ f. cond_both (same_key k c.key) _ _ (λ r. r ≡ cond (same_key k key) None (cell_at (c ∷ cs) k))
    (λ a. sym (cond-false (same_key k key) _ _ (not_same_key k key (λ e. same_key-false key c.key f (sym e ∙ same_key-true k c.key a))) ∙ cond-true (same_key k c.key) _ _ a))
    (λ a. more ∙ ap (λ (r : Option ActorCell). cond (same_key k key) None r) (sym (cond-false (same_key k c.key) _ _ a))))

cell_at-insert : (cs : List ActorCell) (x : ActorCell) (k : ActorKey) → ((c : ActorCell) → In c cs → same_key x.key c.key ≡ false) → cell_at (insert_cell cs x) k ≡ cond (same_key k x.key) (Some x) (cell_at cs k)
cell_at-insert [] x k h = refl
cell_at-insert (c ∷ cs) x k h =
    let more = cell_at-insert cs x k (λ y i. h y (inr i)) in
    cond_both (key_before x.key c.key) _ _ (λ r. cell_at r k ≡ cond (same_key k x.key) (Some x) (cell_at (c ∷ cs) k))
    (λ _. refl)
    (λ _. cond_both (same_key k c.key) _ _ (λ r. r ≡ cond (same_key k x.key) (Some x) (cell_at (c ∷ cs) k))
    (λ a. sym (cond-false (same_key k x.key) _ _ (not_same_key k x.key (λ e. same_key-false x.key c.key (h c (inl refl)) (sym e ∙ same_key-true k c.key a))) ∙ cond-true (same_key k c.key) _ _ a))
    (λ a. more ∙ ap (λ (r : Option ActorCell). cond (same_key k x.key) (Some x) r) (sym (cond-false (same_key k c.key) _ _ a))))

-- an inactive cell has no open turn
pub no_turns : (x : ActorCell) → IsActorSound x → x.active ≡ false → x.inner.turns ≡ []
no_turns x s f = go x.inner.turns (s.open_active)
  where
    go : (ts : List Turn) → ((t : Turn) → In t ts → x.active ≡ true) → ts ≡ []
    go [] h = refl
    go (t ∷ ts) h = absurd (true≢false (sym (h t (inl refl)) ∙ f))

-- what is known after one cell was written
pub activity-keep : (cs : List ActorCell) (x : ActorCell) (k : ActorKey) → (x.active ≡ false → x.inner.turns ≡ [])
    → activity_of (cell_at (keep_cell cs x) k) ≡ cond (same_key k x.key) (activity_in x) (activity_of (cell_at cs k))
activity-keep cs x k s =
    cond_both (is_kept x) _ _ (λ r. activity_of (cell_at r k) ≡ cond (same_key k x.key) (activity_in x) (activity_of (cell_at cs k)))
    (λ _. ap (λ (o : Option ActorCell). activity_of o) (cell_at-insert (drop_cell cs x.key) x k (λ c i. other_key cs x.key c i) ∙ ap (λ (r : Option ActorCell). cond (same_key k x.key) (Some x) r) (cell_at-drop cs x.key k)) ∙ both (same_key k x.key))
    (λ f. ap (λ (o : Option ActorCell). activity_of o) (cell_at-drop cs x.key k) ∙ gone f (same_key k x.key))
  where
    both : (b : Bool) → activity_of (cond b (Some x) (cond b None (cell_at cs k))) ≡ cond b (activity_in x) (activity_of (cell_at cs k))
    both true = refl
    both false = refl

    gone : is_kept x ≡ false → (b : Bool) → activity_of (cond b None (cell_at cs k)) ≡ cond b (activity_in x) (activity_of (cell_at cs k))
    gone f false = refl
    gone f true =
        let a = (or_parts x.active _ f).0 in
        let t = s a in
        λ i. record { active = sym a i; turns = sym t i }

pub cell_at-In : (cs : List ActorCell) (c : ActorCell) → AreInOrder cs → In c cs → cell_at cs c.key ≡ Some c
cell_at-In [] c d i = absurd i
cell_at-In (x ∷ cs) c d i =
    let more = cell_at-In cs c d.1 in
    elim i [
      | inl e ↦ cond-true (same_key c.key x.key) _ _ (same_key-from c.key x.key (ap (λ (z : ActorCell). z.key) e)) ∙ ap (λ (z : ActorCell). Some z) (sym e)
      | inr j ↦ cond-false (same_key c.key x.key) _ _ (not_same_key c.key x.key (later_key x.key c.key (d.0 c j))) ∙ more j
    ]

-- ---- marks of one actor

abbrev pub IsOf : PartMark → ActorKey → Type 0
IsOf (TurnBegan key call chain) k = key ≡ k
IsOf (TurnEnded key call) k = key ≡ k
IsOf (BecameActive key version) k = key ≡ k
IsOf (BecameInactive key) k = key ≡ k
IsOf (PartOpened number version) k = ⊥

abbrev pub AreOf : ActorKey → List PartMark → Type 0
AreOf k [] = Unit {0}
AreOf k (x ∷ xs) = IsOf x k × AreOf k xs

abbrev pub replay_all : List PartMark → Activity → Activity
replay_all [] h = h
replay_all (x ∷ xs) h = replay_all xs (after_mark x h)

is_mark-of : (x : PartMark) (k key : ActorKey) → IsOf x key → is_mark_of x k ≡ same_key k key
is_mark-of (TurnBegan a call chain) k key e = ap (λ (z : ActorKey). same_key k z) e
is_mark-of (TurnEnded a call) k key e = ap (λ (z : ActorKey). same_key k z) e
is_mark-of (BecameActive a v) k key e = ap (λ (z : ActorKey). same_key k z) e
is_mark-of (BecameInactive a) k key e = ap (λ (z : ActorKey). same_key k z) e
is_mark-of (PartOpened i v) k key e = absurd e

pub replay-of : (xs : List PartMark) (k key : ActorKey) (h : Activity) → AreOf key xs → replay xs k h ≡ cond (same_key k key) (replay_all xs h) h
replay-of [] k key h a = sym (cond_both (same_key k key) _ _ (λ (r : Activity). r ≡ h) (λ _. refl) (λ _. refl))
replay-of (x ∷ xs) k key h a =
    replay-of xs k key (cond (is_mark_of x k) (after_mark x h) h) a.1
    ∙ ap (λ (b : Bool). cond (same_key k key) (replay_all xs (cond b (after_mark x h) h)) (cond b (after_mark x h) h)) (is_mark-of x k key a.0)
    ∙ both (same_key k key)
  where
    both : (b : Bool) → cond b (replay_all xs (cond b (after_mark x h) h)) (cond b (after_mark x h) h) ≡ cond b (replay_all xs (after_mark x h)) h
    both true = refl
    both false = refl

pub replay-append : (xs ys : List PartMark) (k : ActorKey) (h : Activity) → replay (xs ++ ys) k h ≡ replay ys k (replay xs k h)
replay-append [] ys k h = refl
replay-append (x ∷ xs) ys k h = replay-append xs ys k (cond (is_mark_of x k) (after_mark x h) h)

pub replay_all-append : (xs ys : List PartMark) (h : Activity) → replay_all (xs ++ ys) h ≡ replay_all ys (replay_all xs h)
replay_all-append [] ys h = refl
replay_all-append (x ∷ xs) ys h = replay_all-append xs ys (after_mark x h)

pub AreOf-append : (key : ActorKey) (xs ys : List PartMark) → AreOf key xs → AreOf key ys → AreOf key (xs ++ ys)
AreOf-append key [] ys a b = b
AreOf-append key (x ∷ xs) ys a b = (a.0, AreOf-append key xs ys a.1 b)

pub key_of_mark : (x : PartMark) (key k : ActorKey) → IsOf x key → is_mark_of x k ≡ true → key ≡ k
key_of_mark (TurnBegan a call chain) key k e t = sym e ∙ sym (same_key-true k a t)
key_of_mark (TurnEnded a call) key k e t = sym e ∙ sym (same_key-true k a t)
key_of_mark (BecameActive a v) key k e t = sym e ∙ sym (same_key-true k a t)
key_of_mark (BecameInactive a) key k e t = sym e ∙ sym (same_key-true k a t)
key_of_mark (PartOpened i v) key k e t = absurd e

pub AreOf-In : (xs : List PartMark) (key : ActorKey) (x : PartMark) → AreOf key xs → In x xs → IsOf x key
AreOf-In [] key x a i = absurd i
AreOf-In (y ∷ xs) key x a (inl e) = subst (λ (z : PartMark). IsOf z key) (sym e) a.0
AreOf-In (y ∷ xs) key x a (inr i) = AreOf-In xs key x a.1 i

-- ---- tidy marks

pub tidy_split : (ys : List PartMark) (x : PartMark) (zs : List PartMark) → AreTidy (ys ++ x ∷ zs) → IsLastWord x zs
tidy_split [] x zs t = t.0
tidy_split (y ∷ ys) x zs t = tidy_split ys x zs t.1

pub inactive_marked : (y : PartMark) (k : ActorKey) → is_inactive_of y k ≡ true → is_mark_of y k ≡ true
inactive_marked (TurnBegan a c d) k e = absurd (false≢true e)
inactive_marked (TurnEnded a c) k e = absurd (false≢true e)
inactive_marked (BecameActive a v) k e = absurd (false≢true e)
inactive_marked (BecameInactive a) k e = e
inactive_marked (PartOpened i v) k e = absurd (false≢true e)

pub word_append : (x : PartMark) (k : ActorKey) (xs ys : List PartMark) → IsOf x k → ((y : PartMark) → In y ys → is_mark_of y k ≡ true → ⊥) → IsLastWord x xs → IsLastWord x (xs ++ ys)
word_append (TurnBegan a c d) k xs ys of away w = λ y i e. elim (In-append xs ys y i) [ inl j ↦ w y j e | inr j ↦ away y j (subst (λ (z : ActorKey). is_mark_of y z ≡ true) of e) ]
word_append (TurnEnded a c) k xs ys of away w = tt
word_append (BecameActive a v) k xs ys of away w = λ y i e. elim (In-append xs ys y i) [ inl j ↦ w y j e | inr j ↦ away y j (subst (λ (z : ActorKey). is_mark_of y z ≡ true) of (inactive_marked y a e)) ]
word_append (BecameInactive a) k xs ys of away w = tt
word_append (PartOpened i v) k xs ys of away w = tt

-- marks of one actor, and then of others
pub tidy_append : (k : ActorKey) (xs ys : List PartMark) → AreOf k xs → ((y : PartMark) → In y ys → is_mark_of y k ≡ true → ⊥) → AreTidy xs → AreTidy ys → AreTidy (xs ++ ys)
tidy_append k [] ys of away a b = b
tidy_append k (x ∷ xs) ys of away a b = (word_append x k xs ys of.0 away a.0, tidy_append k xs ys of.1 away a.1 b)

pub unmarked : (xs : List PartMark) (k : ActorKey) (h : Activity) → ((y : PartMark) → In y xs → is_mark_of y k ≡ true → ⊥) → replay xs k h ≡ h
unmarked [] k h away = refl
unmarked (x ∷ xs) k h away =
    ap (λ (z : Activity). replay xs k z) (cond_both (is_mark_of x k) _ _ (λ (r : Activity). r ≡ h) (λ t. absurd (away x (inl refl) t)) (λ _. refl)) ∙ unmarked xs k h (λ y i. away y (inr i))

still_active_mark : (x : PartMark) (k : ActorKey) (h : Activity) → h.active ≡ true → (is_inactive_of x k ≡ true → ⊥) → (cond (is_mark_of x k) (after_mark x h) h).active ≡ true
still_active_mark (TurnBegan a c d) k h e away = cond_both (same_key k a) _ _ (λ (r : Activity). r.active ≡ true) (λ _. e) (λ _. e)
still_active_mark (TurnEnded a c) k h e away = cond_both (same_key k a) _ _ (λ (r : Activity). r.active ≡ true) (λ _. e) (λ _. e)
still_active_mark (BecameActive a v) k h e away = cond_both (same_key k a) _ _ (λ (r : Activity). r.active ≡ true) (λ _. refl) (λ _. e)
still_active_mark (BecameInactive a) k h e away = cond_both (same_key k a) _ _ (λ (r : Activity). r.active ≡ true) (λ t. absurd (away t)) (λ _. e)
still_active_mark (PartOpened i v) k h e away = e

-- an active actor stays active if it doesn't become inactive
pub still_active : (xs : List PartMark) (k : ActorKey) (h : Activity) → h.active ≡ true → ((y : PartMark) → In y xs → is_inactive_of y k ≡ true → ⊥) → (replay xs k h).active ≡ true
still_active [] k h e away = e
still_active (x ∷ xs) k h e away = still_active xs k _ (still_active_mark x k h e (away x (inl refl))) (λ y i. away y (inr i))

-- ---- versions

pub at_append : (v : ℕ) (xs ys : List PartMark) → AreAt v xs → AreAt v ys → AreAt v (xs ++ ys)
at_append v [] ys a b = b
at_append v (x ∷ xs) ys a b = (a.0, at_append v xs ys a.1 b)

pub at_front : (v : ℕ) (xs ys : List PartMark) → AreAt v (xs ++ ys) → AreAt v xs
at_front v [] ys a = tt
at_front v (x ∷ xs) ys a = (a.0, at_front v xs ys a.1)

pub at_middle : (v : ℕ) (xs ys : List PartMark) (x : PartMark) → AreAt v (xs ++ x ∷ ys) → IsAtVersion v x
at_middle v [] ys x a = a.0
at_middle v (y ∷ xs) ys x a = at_middle v xs ys x a.1
