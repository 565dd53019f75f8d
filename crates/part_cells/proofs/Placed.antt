-- Places and the cells in their slots.
use Rattle.std.proofs.Common.{◌≡◌, ◌⊎◌, ℕ, Bool, true, false, ◌&&◌, List, [], ◌∷◌, ◌++◌, Option, Some, None, refl, sym, ap, subst, ◌∙◌, inl, inr, cond}
use Rattle.std.specs.declared.cmp.Ordering.{Ordering}
use Rattle.std.specs.declared.cmp.Ordering.TheVariants.{Less, Equal, Greater}
use Rattle.std.specs.Ordering.{nat_cmp, ordering_then, is_eq, is_lt, match_ordering}
use Rattle.std.specs.Cmp.{tied_then}
use Rattle.std.specs.Cmp.Lexicographic.{slice_cmp}
use Rattle.std.specs.BTreeMap.{is_at, insert_entry}
use Rattle.std.specs.Map.{lookup, remove_entry}
use Rattle.std.proofs.lemmas.Bool.{cond_both, cond-true, cond-false, true≢false}
use Rattle.std.proofs.lemmas.Map.Text.{is_eq-slice_cmp}
use Rattle.actor_names.specs.declared.actor_key.ActorKey.{ActorKey}
use Rattle.turn_core.specs.CellSound.{In}
use Rattle.part_model.specs.declared.actor_cell.ActorCell.{ActorCell}
use Rattle.actor_names.specs.Same.{same_key, key_cmp, key_before}
use Rattle.part_model.specs.Cells.{cell_at, drop_cell, insert_cell, put_cell}
use Rattle.part_model.specs.Order.{AreInOrder}
use Rattle.part_model.proofs.KeyOrders.{back, before, equal_self}
use Rattle.part_model.proofs.Orders.{before_middle, behind_middle}
use Rattle.part_model.proofs.Forks.{put_here, drop_here}
use Rattle.part_cells.specs.Slots.{with_found, cells_in}

-- ---- keys

pub same-tied : (a b : ActorKey) → same_key a b ≡ is_eq (key_cmp a b)
same-tied a b =
    let kinds = slice_cmp nat_cmp a.kind b.kind in
    let ids = slice_cmp nat_cmp a.id b.id in
    (λ i. sym (is_eq-slice_cmp a.space b.space) i && (sym (is_eq-slice_cmp a.kind b.kind) i && sym (is_eq-slice_cmp a.id b.id) i))
    ∙ ap (λ (z : Bool). is_eq (slice_cmp nat_cmp a.space b.space) && z) (tied_then kinds ids)
    ∙ tied_then (slice_cmp nat_cmp a.space b.space) (ordering_then kinds ids)

pub never_before : (k : ActorKey) → key_before k k ≡ true → ⊥
never_before k h = true≢false (sym h ∙ ap is_lt (equal_self k))

-- ---- cells of places

-- the cell of the slot, if there is one
abbrev pub at_slot : (ℕ → Option ActorCell) → Option ℕ → Option ActorCell
at_slot at None = None
at_slot at (Some s) = at s

abbrev pub IsPlaced : (ℕ → Option ActorCell) → List (ActorKey × ℕ) → Type 0
IsPlaced at ps = (p : ActorKey × ℕ) → In p ps → (c : ActorCell) × (at p.1 ≡ Some c) × (c.key ≡ p.0)

found-append : (o : Option ActorCell) (cs ds : List ActorCell) → with_found o (cs ++ ds) ≡ with_found o cs ++ ds
found-append None cs ds = refl
found-append (Some c) cs ds = refl

In-found : (o : Option ActorCell) (cs : List ActorCell) (c : ActorCell) → In c cs → In c (with_found o cs)
In-found None cs c i = i
In-found (Some d) cs c i = inr i

module _ (at : ℕ → Option ActorCell) where
  pub cells-append : (l r : List (ActorKey × ℕ)) → cells_in at (l ++ r) ≡ cells_in at l ++ cells_in at r
  cells-append [] r = refl
  cells-append (p ∷ l) r = ap (with_found (at p.1)) (cells-append l r) ∙ found-append (at p.1) (cells_in at l) (cells_in at r)

  from_found : (o : Option ActorCell) (p : ActorKey × ℕ) (ps : List (ActorKey × ℕ)) (c : ActorCell) → at p.1 ≡ o → (In c (cells_in at ps) → (q : ActorKey × ℕ) × (In q ps) × (at q.1 ≡ Some c)) → In c (with_found o (cells_in at ps)) → (q : ActorKey × ℕ) × (In q (p ∷ ps)) × (at q.1 ≡ Some c)
  from_found None p ps c e more j = let m = more j in (m.0, inr m.1, m.2)
  from_found (Some d) p ps c e more (inl q) = (p, inl refl, e ∙ ap (λ (z : ActorCell). Some z) (sym q))
  from_found (Some d) p ps c e more (inr j) = let m = more j in (m.0, inr m.1, m.2)

  pub In-cells : (ps : List (ActorKey × ℕ)) (c : ActorCell) → In c (cells_in at ps) → (p : ActorKey × ℕ) × (In p ps) × (at p.1 ≡ Some c)
  In-cells [] c i = absurd i
  In-cells (p ∷ ps) c i = from_found (at p.1) p ps c refl (λ j. In-cells ps c j) i

  pub cells-In : (ps : List (ActorKey × ℕ)) (p : ActorKey × ℕ) (c : ActorCell) → In p ps → at p.1 ≡ Some c → In c (cells_in at ps)
  cells-In [] p c i e = absurd i
  cells-In (q ∷ ps) p c (inl s) e = subst (λ o. In c (with_found o (cells_in at ps))) (sym e ∙ ap (λ (z : ActorKey × ℕ). at z.1) s) (inl refl)
  cells-In (q ∷ ps) p c (inr i) e = In-found (at q.1) (cells_in at ps) c (cells-In ps p c i e)

  -- a look-up of the key gives the slot of its cell
  pub look_up : (key : ActorKey) (ps : List (ActorKey × ℕ)) → IsPlaced at ps → cell_at (cells_in at ps) key ≡ at_slot at (lookup (is_at (key_cmp key)) ps)
  look_up key [] h = refl
  look_up key (p ∷ ps) h =
      let f = h p (inl refl) in
      let more = look_up key ps (λ q i. h q (inr i)) in
      let first : cell_at (cells_in at (p ∷ ps)) key ≡ cond (same_key key f.0.key) (Some f.0) (cell_at (cells_in at ps) key) = ap (λ o. cell_at (with_found o (cells_in at ps)) key) f.1 in
      let same : same_key key f.0.key ≡ is_eq (key_cmp key p.0) = same-tied key f.0.key ∙ ap (λ (k : ActorKey). is_eq (key_cmp key k)) f.2 in
      cond_both (is_eq (key_cmp key p.0)) _ _ (λ r. cell_at (cells_in at (p ∷ ps)) key ≡ at_slot at r)
      (λ t. first ∙ cond-true (same_key key f.0.key) _ _ (same ∙ t) ∙ sym f.1)
      (λ n. first ∙ cond-false (same_key key f.0.key) _ _ (same ∙ n) ∙ more)

pub same_cells : (at at' : ℕ → Option ActorCell) (ps : List (ActorKey × ℕ)) → ((p : ActorKey × ℕ) → In p ps → at' p.1 ≡ at p.1) → cells_in at' ps ≡ cells_in at ps
same_cells at at' [] h = refl
same_cells at at' (p ∷ ps) h = λ i. with_found (h p (inl refl) i) (same_cells at at' ps (λ q j. h q (inr j)) i)

-- ---- places cut at a slot

module _ (at : ℕ → Option ActorCell) (s : ℕ) (c : ActorCell) (e : at s ≡ Some c) (l r : List (ActorKey × ℕ)) (o : AreInOrder (cells_in at (l ++ (c.key, s) ∷ r))) where
  pub whole : cells_in at (l ++ (c.key, s) ∷ r) ≡ cells_in at l ++ c ∷ cells_in at r
  whole = cells-append at l ((c.key, s) ∷ r) ∙ ap (λ m. cells_in at l ++ with_found m (cells_in at r)) e

  pub ordered : AreInOrder (cells_in at l ++ c ∷ cells_in at r)
  ordered = subst AreInOrder whole o

  pub front_apart : (q : ActorKey × ℕ) → In q l → q.1 ≡ s → ⊥
  front_apart q i h = never_before c.key (before_middle (cells_in at l) c (cells_in at r) ordered c (cells-In at l q c i (ap at h ∙ e)))

  pub behind_apart : (q : ActorKey × ℕ) → In q r → q.1 ≡ s → ⊥
  behind_apart q i h = never_before c.key (behind_middle (cells_in at l) c (cells_in at r) ordered c (cells-In at r q c i (ap at h ∙ e)))

  module _ (at' : ℕ → Option ActorCell) (others : (n : ℕ) → (n ≡ s → ⊥) → at' n ≡ at n) where
    same_front : cells_in at' l ≡ cells_in at l
    same_front = same_cells at at' l (λ q i. others q.1 (front_apart q i))

    same_behind : cells_in at' r ≡ cells_in at r
    same_behind = same_cells at at' r (λ q i. others q.1 (behind_apart q i))

    -- the slot's cell changes
    pub changed_here : (x : ActorCell) → at' s ≡ Some x → x.key ≡ c.key → cells_in at' (l ++ (c.key, s) ∷ r) ≡ put_cell (cells_in at (l ++ (c.key, s) ∷ r)) x
    changed_here x e' k =
        cells-append at' l ((c.key, s) ∷ r)
        ∙ ap (λ m. cells_in at' l ++ with_found m (cells_in at' r)) e'
        ∙ (λ i. same_front i ++ x ∷ same_behind i)
        ∙ sym (put_here x (cells_in at l) c (cells_in at r) ordered (ap (key_cmp c.key) k ∙ equal_self c.key))
        ∙ ap (λ cs. put_cell cs x) (sym whole)

    -- the slot is emptied, and its place goes
    pub dropped_here : cells_in at' (l ++ r) ≡ drop_cell (cells_in at (l ++ (c.key, s) ∷ r)) c.key
    dropped_here =
        cells-append at' l r
        ∙ (λ i. same_front i ++ same_behind i)
        ∙ sym (drop_here c.key (cells_in at l) c (cells_in at r) ordered (equal_self c.key))
        ∙ ap (λ cs. drop_cell cs c.key) (sym whole)

  without_place : (m : List (ActorKey × ℕ)) → ((q : ActorKey × ℕ) → In q m → is_eq (key_cmp c.key q.0) ≡ false) → remove_entry (is_at (key_cmp c.key)) (m ++ (c.key, s) ∷ r) ≡ m ++ r
  without_place [] h = cond-true (is_eq (key_cmp c.key c.key)) _ _ (ap is_eq (equal_self c.key))
  without_place (q ∷ m) h = cond-false (is_eq (key_cmp c.key q.0)) _ _ (h q (inl refl)) ∙ ap (λ qs. q ∷ qs) (without_place m (λ z i. h z (inr i)))

  -- and its place is the one that a removal of its key takes
  pub removed_here : IsPlaced at l → remove_entry (is_at (key_cmp c.key)) (l ++ (c.key, s) ∷ r) ≡ l ++ r
  removed_here h =
      without_place l (λ q i. (
      let f = h q i in
      let less = before f.0.key c.key (before_middle (cells_in at l) c (cells_in at r) ordered f.0 (cells-In at l q f.0 i f.1)) in
      ap is_eq (ap (key_cmp c.key) (sym f.2) ∙ back f.0.key c.key Less less)
      ))

-- ---- a new place

module _ (at at' : ℕ → Option ActorCell) (s : ℕ) (x : ActorCell) (e' : at' s ≡ Some x) where
  -- the keys of the places differ from the cell's
  abbrev pub AreOtherPlaces : List (ActorKey × ℕ) → Type 0
  AreOtherPlaces ps = (p : ActorKey × ℕ) → In p ps → key_cmp x.key p.0 ≡ Equal → ⊥

  added_at : (o : Ordering) (p : ActorKey × ℕ) (ps : List (ActorKey × ℕ)) → key_cmp x.key p.0 ≡ o → (o ≡ Equal → ⊥)
      → ((c : ActorCell) × (at p.1 ≡ Some c) × (c.key ≡ p.0)) → ((q : ActorKey × ℕ) → In q (p ∷ ps) → at' q.1 ≡ at q.1) → cells_in at' (insert_entry key_cmp ps x.key s) ≡ insert_cell (cells_in at ps) x
      → cells_in at' (match_ordering o ((x.key, s) ∷ p ∷ ps) ((p.0, s) ∷ ps) (p ∷ insert_entry key_cmp ps x.key s)) ≡ insert_cell (cells_in at (p ∷ ps)) x
  added_at Less p ps q d f same more =
      ap (λ m. with_found m (cells_in at' (p ∷ ps))) e'
      ∙ ap (λ cs. x ∷ cs) (same_cells at at' (p ∷ ps) same ∙ ap (λ m. with_found m (cells_in at ps)) f.1)
      ∙ sym (ap (λ m. insert_cell (with_found m (cells_in at ps)) x) f.1 ∙ cond-true (key_before x.key f.0.key) _ _ (ap (λ (k : ActorKey). is_lt (key_cmp x.key k)) f.2 ∙ ap is_lt q))
  added_at Equal p ps q d f same more = absurd (d refl)
  added_at Greater p ps q d f same more =
      (λ i. with_found ((same p (inl refl) ∙ f.1) i) (more i))
      ∙ sym (ap (λ m. insert_cell (with_found m (cells_in at ps)) x) f.1 ∙ cond-false (key_before x.key f.0.key) _ _ (ap (λ (k : ActorKey). is_lt (key_cmp x.key k)) f.2 ∙ ap is_lt q))

  pub added_here : (ps : List (ActorKey × ℕ)) → IsPlaced at ps → AreOtherPlaces ps → ((p : ActorKey × ℕ) → In p ps → at' p.1 ≡ at p.1) → cells_in at' (insert_entry key_cmp ps x.key s) ≡ insert_cell (cells_in at ps) x
  added_here [] h d same = ap (λ m. with_found m []) e'
  added_here (p ∷ ps) h d same =
      added_at (key_cmp x.key p.0) p ps refl (d p (inl refl)) (h p (inl refl)) same (added_here ps (λ z j. h z (inr j)) (λ z j. d z (inr j)) (λ z j. same z (inr j)))

module _ (k : ActorKey) (s : ℕ) (q : ActorKey × ℕ) where
  placed_at : (o : Ordering) (p : ActorKey × ℕ) (ps : List (ActorKey × ℕ)) → (o ≡ Equal → ⊥) → (((q ≡ (k, s)) ⊎ In q ps) → In q (insert_entry key_cmp ps k s))
      → (q ≡ (k, s)) ⊎ In q (p ∷ ps) → In q (match_ordering o ((k, s) ∷ p ∷ ps) ((p.0, s) ∷ ps) (p ∷ insert_entry key_cmp ps k s))
  placed_at Less p ps d more h = h
  placed_at Equal p ps d more h = absurd (d refl)
  placed_at Greater p ps d more (inl same) = inr (more (inl same))
  placed_at Greater p ps d more (inr (inl same)) = inl same
  placed_at Greater p ps d more (inr (inr j)) = inr (more (inr j))

  from_placed : (o : Ordering) (p : ActorKey × ℕ) (ps : List (ActorKey × ℕ)) → (o ≡ Equal → ⊥) → (In q (insert_entry key_cmp ps k s) → (q ≡ (k, s)) ⊎ In q ps)
      → In q (match_ordering o ((k, s) ∷ p ∷ ps) ((p.0, s) ∷ ps) (p ∷ insert_entry key_cmp ps k s)) → (q ≡ (k, s)) ⊎ In q (p ∷ ps)
  from_placed Less p ps d more j = j
  from_placed Equal p ps d more j = absurd (d refl)
  from_placed Greater p ps d more (inl same) = inr (inl same)
  from_placed Greater p ps d more (inr j) = elim (more j) [ inl same ↦ inl same | inr m ↦ inr (inr m) ]

  -- a new place is there, and so are the others
  pub In-placed : (ps : List (ActorKey × ℕ)) → ((p : ActorKey × ℕ) → In p ps → key_cmp k p.0 ≡ Equal → ⊥) → (q ≡ (k, s)) ⊎ In q ps → In q (insert_entry key_cmp ps k s)
  In-placed [] d h = h
  In-placed (p ∷ ps) d h = placed_at (key_cmp k p.0) p ps (d p (inl refl)) (In-placed ps (λ z j. d z (inr j))) h

  -- and there is no other
  pub placed-In : (ps : List (ActorKey × ℕ)) → ((p : ActorKey × ℕ) → In p ps → key_cmp k p.0 ≡ Equal → ⊥) → In q (insert_entry key_cmp ps k s) → (q ≡ (k, s)) ⊎ In q ps
  placed-In [] d i = i
  placed-In (p ∷ ps) d i = from_placed (key_cmp k p.0) p ps (d p (inl refl)) (placed-In ps (λ z j. d z (inr j))) i
