-- A pass over the cells.
use Rattle.std.proofs.Common.{◌≡◌, ◌⊎◌, ℕ, ◌+◌, ◌-◌, ◌^◌, ◌≤◌, min, Bool, not, ◌&&◌, ◌||◌, List, [], ◌∷◌, ◌++◌, length, drop, map, Option, Some, None, refl, sym, ap, subst, ◌∙◌, inl, inr, arith}
use Rattle.std.specs.Prelude.{◌==◌, option_map, if◌then◌else◌}
use Rattle.std.specs.List.{between}
use Rattle.std.proofs.lemmas.List.{drop_at, append-nil, append_assoc}
use Rattle.std.proofs.lemmas.Slice.{between_to_end}
use Rattle.std.proofs.lemmas.Bool.{cond_both, cond-true, cond-false}
use Rattle.actor_names.specs.declared.actor_key.ActorKey.{ActorKey}
use Rattle.turn_core.specs.declared.cell.Turn.{Turn}
use Rattle.turn_core.specs.declared.cell.Waiter.{Waiter}
use Rattle.turn_core.specs.Cell.{has_turn, turn_calls, first_unmoved, unmoved, is_free, next_call}
use Rattle.turn_core.specs.CellSound.{In}
use Rattle.part_model.specs.declared.actor_cell.ActorCell.{ActorCell}
use Rattle.part_model.specs.Cells.{calls_in, total}
use Rattle.part_cells.specs.Slots.{is_among, with_found, cells_in, AreSlotsKept, IsVisited, each_list, list_at, number_at, first_where, least_of, lesser_at, open_calls, late_calls, next_calls, opened_calls}
use Rattle.part_model.specs.Order.{AreInOrder}
use Rattle.lists_and_limits.proofs.Elements.{In-right, In-append}
use Rattle.part_cells.proofs.Placed.{front_apart, behind_apart, same_cells}

pub among-turns : (m : ℕ) (ts : List Turn) → is_among m (turn_calls ts) ≡ has_turn m ts
among-turns m [] = refl
among-turns m (t ∷ ts) = ap (λ b. (m == t.call) || b) (among-turns m ts)

pub length-turn_calls : (ts : List Turn) → length (turn_calls ts) ≡ length ts
length-turn_calls [] = refl
length-turn_calls (t ∷ ts) = let more = length-turn_calls ts in omega arith

pub behind : (xs old ys : List ℕ) (from n : ℕ) → xs ≡ old ++ ys → from ≡ length old → length xs ≤ n → between from n xs ≡ ys
behind xs old ys from n e f h = between_to_end xs from n h ∙ (λ i. drop (f i) (e i)) ∙ drop_at old ys (length old) refl

-- ---- what one more place adds

pub first-none : (test : ActorCell → Bool) (o : Option ActorCell) (cs : List ActorCell) → first_where test (with_found o []) ≡ None → first_where test (with_found o cs) ≡ first_where test cs
first-none test None cs e = refl
first-none test (Some c) cs e = cond_both (test c) (Some c) None (λ r. r ≡ None → (if test c then Some c else first_where test cs) ≡ first_where test cs) (λ _ q. absurd (cc)) (λ f _. cond-false (test c) _ _ f) e

pub first-some : (test : ActorCell → Bool) (o : Option ActorCell) (cs : List ActorCell) (d : ActorCell) → first_where test (with_found o []) ≡ Some d → first_where test (with_found o cs) ≡ Some d
first-some test None cs d e = absurd (cc)
first-some test (Some c) cs d e = cond_both (test c) (Some c) None (λ r. r ≡ Some d → (if test c then Some c else first_where test cs) ≡ Some d) (λ t q. cond-true (test c) _ _ t ∙ q) (λ _ q. absurd (cc)) e

pub each_list-found : (g : ActorCell → List ℕ) (o : Option ActorCell) (cs : List ActorCell) → each_list g (with_found o cs) ≡ list_at g o ++ each_list g cs
each_list-found g None cs = refl
each_list-found g (Some c) cs = refl

pub total-found : (h : ActorCell → ℕ) (o : Option ActorCell) (cs : List ActorCell) → total h (with_found o cs) ≡ number_at h o + total h cs
total-found h None cs = omega arith
total-found h (Some c) cs = refl

pub least-found : (f : ActorCell → ℕ) (o : Option ActorCell) (cs : List ActorCell) (n : ℕ) → min (lesser_at f o n) (least_of f cs) ≡ min n (least_of f (with_found o cs))
least-found f None cs n = refl
least-found f (Some c) cs n = omega arith

pub lesser_le : (f : ActorCell → ℕ) (o : Option ActorCell) (n : ℕ) → lesser_at f o n ≤ n
lesser_le f None n = omega arith
lesser_le f (Some c) n = omega arith

pub least-most : (f : ActorCell → ℕ) (cs : List ActorCell) → least_of f cs ≤ 2 ^ 64 - 1
least-most f [] = omega arith
least-most f (c ∷ cs) = let m = least-most f cs in omega arith

-- a cell's number is no less than the least
pub least_le : (f : ActorCell → ℕ) (cs : List ActorCell) (c : ActorCell) → In c cs → least_of f cs ≤ f c
least_le f [] c i = absurd i
least_le f (d ∷ cs) c (inl e) = let q = ap f e in omega arith
least_le f (d ∷ cs) c (inr i) = let m = least_le f cs c i in omega arith

-- a cell lists no more calls than it has
pub list_short : (g : ActorCell → List ℕ) → ((c : ActorCell) → length (g c) ≤ calls_in c) → (o : Option ActorCell) → length (list_at g o) ≤ number_at calls_in o
list_short g h None = omega arith
list_short g h (Some c) = h c

pub open_calls-short : (c : ActorCell) → length (open_calls c) ≤ calls_in c
open_calls-short c = let n = length-turn_calls c.inner.turns in omega arith

pub late_calls-short : (test : ActorCell → Bool) (c : ActorCell) → length (late_calls test c) ≤ calls_in c
late_calls-short test c = cond_both (test c) (open_calls c) [] (λ (l : List ℕ). length l ≤ calls_in c) (λ _. open_calls-short c) (λ _. omega arith)

first_short : (ws : List Waiter) → length (next_calls (first_unmoved ws)) ≤ length ws
first_short [] = omega arith
first_short (w ∷ ws) =
    let more = first_short ws in
    cond_both w.moved (first_unmoved ws) (Some w) (λ (r : Option Waiter). length (next_calls r) ≤ length (w ∷ ws)) (λ _. omega arith) (λ _. omega arith)

pub opened_calls-short : (own : ActorCell → Bool) (c : ActorCell) → length (opened_calls own c) ≤ calls_in c
opened_calls-short own c =
    let f = first_short c.inner.queue in
    cond_both (own c) (next_calls (next_call (not c.closing) c.inner)) [] (λ (l : List ℕ). length l ≤ calls_in c)
    (λ _. cond_both (not c.closing && is_free c.inner) (first_unmoved c.inner.queue) None (λ (r : Option Waiter). length (next_calls r) ≤ calls_in c) (λ _. omega arith) (λ _. omega arith))
    (λ _. omega arith)

pub unmoved_short : (ws : List Waiter) → unmoved ws ≤ length ws
unmoved_short [] = omega arith
unmoved_short (w ∷ ws) =
    let more = unmoved_short ws in
    cond_both w.moved (unmoved ws) (1 + unmoved ws) (λ (n : ℕ). n ≤ length (w ∷ ws)) (λ _. omega arith) (λ _. omega arith)

-- the cells of places, where each place has one, are as many as the places
pub length-placed : (at : ℕ → Option ActorCell) (ps : List (ActorKey × ℕ)) → ((p : ActorKey × ℕ) → In p ps → (c : ActorCell) × (at p.1 ≡ Some c) × (c.key ≡ p.0)) → length (cells_in at ps) ≡ length ps
length-placed at [] h = refl
length-placed at (p ∷ ps) h =
    let more = length-placed at ps (λ q i. h q (inr i)) in
    let f = h p (inl refl) in
    ap (λ o. length (with_found o (cells_in at ps))) f.1 ∙ omega arith

-- ---- every cell by a function of it

module _ (f : ActorCell → ActorCell) (at at' : ℕ → Option ActorCell) where
  found-map : (o : Option ActorCell) (cs : List ActorCell) → with_found (option_map f o) (map f cs) ≡ map f (with_found o cs)
  found-map None cs = refl
  found-map (Some c) cs = refl

  cells-map : (ps : List (ActorKey × ℕ)) → ((p : ActorKey × ℕ) → In p ps → at' p.1 ≡ option_map f (at p.1)) → cells_in at' ps ≡ map f (cells_in at ps)
  cells-map [] h = refl
  cells-map (p ∷ ps) h = (λ i. with_found (h p (inl refl) i) (cells-map ps (λ q j. h q (inr j)) i)) ∙ found-map (at p.1) (cells_in at ps)

-- ---- how far a pass has come

-- The places of `done` were visited, and those of `left` weren't. The pass began with `cells`, and a list with `before`;
-- what the cells to come will give is known.
pub record IsInPass (f : ActorCell → ActorCell) (g : ActorCell → List ℕ) (h : ActorCell → ℕ) (places left : List (ActorKey × ℕ)) (cells : List ActorCell) (at : ℕ → Option ActorCell) (before after : List ℕ) (n : ℕ) : Type 0 where
  pub first : ℕ → Option ActorCell
  pub done : List (ActorKey × ℕ)
  pub begun : cells_in first places ≡ cells
  pub cut : places ≡ done ++ left
  pub visited : (p : ActorKey × ℕ) → In p done → at p.1 ≡ option_map f (first p.1)
  pub coming : (p : ActorKey × ℕ) → In p left → at p.1 ≡ first p.1
  pub listed : after ++ each_list g (cells_in at left) ≡ before ++ each_list g cells
  pub summed : n + total h (cells_in at left) ≡ total h cells

module _ (f : ActorCell → ActorCell) (g : ActorCell → List ℕ) (h : ActorCell → ℕ) (places : List (ActorKey × ℕ)) (cells : List ActorCell) (before : List ℕ) where
  pub pass_begins : (at : ℕ → Option ActorCell) → cells_in at places ≡ cells → IsInPass f g h places places cells at before before 0
  pass_begins at e =
      record {
        first = at;
        done = [];
        begun = e;
        cut = refl;
        visited = λ p i. absurd i;
        coming = λ p i. refl;
        listed = ap (λ cs. before ++ each_list g cs) e;
        summed = (let t = ap (total h) e in omega arith);
      }

  pub pass_ends : (at : ℕ → Option ActorCell) (after : List ℕ) (n : ℕ) → IsInPass f g h places [] cells at before after n
      → (cells_in at places ≡ map f cells) × ((after ≡ before ++ each_list g cells) × (n ≡ total h cells))
  pass_ends at after n s =
      let whole : places ≡ s.done = s.cut ∙ append-nil s.done in (
        cells-map f s.first at places (λ p i. s.visited p (subst (In p) whole i)) ∙ ap (map f) s.begun,
        (sym (append-nil after) ∙ s.listed, (let t = s.summed in omega arith)),
      )

  -- one more place is visited
  module _ (p : ActorKey × ℕ) (left : List (ActorKey × ℕ)) (at : ℕ → Option ActorCell) (after : List ℕ) (n : ℕ) (s : IsInPass f g h places (p ∷ left) cells at before after n) (look : ℕ → Option ℕ) (count : ℕ) (k : AreSlotsKept at places look count) where
    apart : (q : ActorKey × ℕ) → In q s.done ⊎ In q left → q.1 ≡ p.1 → ⊥
    apart q i same =
        let m = k.placed p (subst (In p) (sym s.cut) (In-right s.done (p ∷ left) p (inl refl))) in
        let it : p ≡ (m.0.key, p.1) = λ j. (sym m.2 j, p.1) in
        let o : AreInOrder (cells_in at (s.done ++ (m.0.key, p.1) ∷ left)) = subst (λ (z : ActorKey × ℕ). AreInOrder (cells_in at (s.done ++ z ∷ left))) it (subst (λ qs. AreInOrder (cells_in at qs)) s.cut k.in_order) in
        elim i [
          | inl a ↦ front_apart at p.1 m.0 m.1 s.done left o q a same
          | inr b ↦ behind_apart at p.1 m.0 m.1 s.done left o q b same
        ]

    -- the cells to come stay
    pub stays_left : (at' : ℕ → Option ActorCell) → ((m : ℕ) → (m ≡ p.1 → ⊥) → at' m ≡ at m) → cells_in at' left ≡ cells_in at left
    stays_left at' others = same_cells at at' left (λ q i. others q.1 (apart q (inr i)))

    pub pass_goes : (at' : ℕ → Option ActorCell) (after' : List ℕ) (m : ℕ) → IsVisited f g h at at' p.1 after after' m → IsInPass f g h places left cells at' before after' (n + m)
    pass_goes at' after' m v =
        record {
          first = s.first;
          done = s.done ++ p ∷ [];
          begun = s.begun;
          cut = s.cut ∙ sym (append_assoc s.done (p ∷ []) left);
          visited = λ q i. elim (In-append s.done (p ∷ []) q i) [
            | inl a ↦ v.others q.1 (apart q (inl a)) ∙ s.visited q a
            | inr b ↦ elim b [
              | inl e ↦ ap (λ (z : ActorKey × ℕ). at' z.1) e ∙ v.cell ∙ ap (option_map f) (s.coming p (inl refl)) ∙ ap (λ (z : ActorKey × ℕ). option_map f (s.first z.1)) (sym e)
              | inr z ↦ absurd z
            ]
          ];
          coming = λ q i. v.others q.1 (apart q (inr i)) ∙ s.coming q (inr i);
          listed =
              (λ i. v.listed i ++ each_list g (stays_left at' v.others i))
              ∙ append_assoc after (list_at g (at p.1)) (each_list g (cells_in at left))
              ∙ ap (λ ns. after ++ ns) (sym (each_list-found g (at p.1) (cells_in at left)))
              ∙ s.listed;
          summed = (
              let a = ap (total h) (stays_left at' v.others) in
              let b = total-found h (at p.1) (cells_in at left) in
              let d = v.number in
              let t : n + total h (with_found (at p.1) (cells_in at left)) ≡ total h cells = s.summed in
              omega arith
              );
        }
