-- What is kept of slots, through each change.
use Rattle.std.proofs.Common.{◌≡◌, ◌⊎◌, ℕ, ◌+◌, true, false, List, [], ◌∷◌, ◌++◌, Option, Some, None, refl, sym, ap, subst, ◌∙◌, inl, inr, arith}
use Rattle.std.specs.Prelude.{◌==◌, ◌||◌, is_some, if◌then◌else◌, slice_index_or}
use Rattle.std.proofs.lemmas.Bool.{cases_eq, cond_both, cond-true, cond-false, eqb-true, true≢false}
use Rattle.std.specs.declared.cmp.Ordering.TheVariants.{Equal}
use Rattle.std.specs.Ordering.{is_eq}
use Rattle.std.specs.BTreeMap.{is_at, insert_entry}
use Rattle.std.specs.Map.{lookup, remove_entry}
use Rattle.actor_names.specs.declared.actor_key.ActorKey.{ActorKey}
use Rattle.turn_core.specs.Cell.{is_in_cell, has_turn, waiter_of}
use Rattle.turn_core.specs.CellSound.{In}
use Rattle.turn_core.proofs.Presence.{has_or_not}
use Rattle.part_model.specs.declared.actor_cell.ActorCell.{ActorCell}
use Rattle.actor_names.specs.Same.{key_cmp}
use Rattle.part_model.specs.Cells.{cell_at, cell_of_call, drop_cell, put_cell, calls_in, total_calls}
use Rattle.part_model.specs.Order.{AreInOrder}
use Rattle.part_model.proofs.Orders.{order-put_cell, order-drop_cell}
use Rattle.part_model.proofs.Changes.{at-In, put-missing}
use Rattle.part_model.proofs.KeyOrders.{same_key-true}
use Rattle.part_model.proofs.Sizes.{total-put-found, total-insert_cell, total-taken}
use Rattle.part_cells.specs.Slots.{cells_in, AreSlotsKept, IsSettled, IsFoundAt}
use Rattle.lists_and_limits.proofs.Elements.{In-cut, In-left, In-right, In-append}
use Rattle.part_cells.proofs.Placed.{same-tied, In-cells, cells-In, at_slot, look_up, front_apart, behind_apart, changed_here, dropped_here, removed_here, added_here, In-placed, placed-In}

pub same_some : {A : Type 0} (x y : A) → Some x ≡ Some y → x ≡ y
same_some {A} x y e = ap (λ o. value_or o) e
  where
    value_or : Option A → A
    value_or None = x
    value_or (Some z) = z

pub none-some : {A : Type 0} (x : A) → None ≡ Some x → ⊥
none-some x e = cc

-- ---- the cell of a call

pub of_call_none : (cs : List ActorCell) (call : ℕ) → ((c : ActorCell) → In c cs → is_in_cell call c.inner ≡ false) → cell_of_call cs call ≡ None
of_call_none [] call h = refl
of_call_none (c ∷ cs) call h = cond-false (is_in_cell call c.inner) _ _ (h c (inl refl)) ∙ of_call_none cs call (λ d i. h d (inr i))

-- where no other has it
pub of_call_one : (cs : List ActorCell) (call : ℕ) (c : ActorCell) → In c cs → is_in_cell call c.inner ≡ true → ((d : ActorCell) → In d cs → is_in_cell call d.inner ≡ true → d ≡ c) → cell_of_call cs call ≡ Some c
of_call_one [] call c i h one = absurd i
of_call_one (d ∷ cs) call c (inl e) h one = cond-true (is_in_cell call d.inner) _ _ (ap (λ (z : ActorCell). is_in_cell call z.inner) (sym e) ∙ h) ∙ ap (λ (z : ActorCell). Some z) (sym e)
of_call_one (d ∷ cs) call c (inr i) h one =
    let more = of_call_one cs call c i h (λ z j. one z (inr j)) in
    cond_both (is_in_cell call d.inner) (Some d) (cell_of_call cs call) (λ r. r ≡ Some c)
    (λ t. ap (λ (z : ActorCell). Some z) (one d (inl refl) t)) (λ _. more)

module _ (at : ℕ → Option ActorCell) (ps : List (ActorKey × ℕ)) (look : ℕ → Option ℕ) (n : ℕ) (k : AreSlotsKept at ps look n) where
  -- a look-up of the call gives the slot of its cell
  pub look_up_call : (call : ℕ) → cell_of_call (cells_in at ps) call ≡ at_slot at (look call)
  look_up_call call = go (look call) refl
    where
      go : (o : Option ℕ) → look call ≡ o → cell_of_call (cells_in at ps) call ≡ at_slot at o
      go None e =
          of_call_none (cells_in at ps) call (λ c i. elim (has_or_not (is_in_cell call c.inner)) [
            | inl t ↦ (let m = In-cells at ps c i in absurd (none-some m.0.1 (sym e ∙ k.found m.0.1 call c m.2 t)))
            | inr f ↦ f
          ])
      go (Some s) e =
          let f = k.only s call e in
          of_call_one (cells_in at ps) call f.0 (cells-In at ps (f.0.key, s) f.0 (k.held s f.0 f.1) f.1) f.2 (λ d i t. (
          let m = In-cells at ps d i in
          let same : m.0.1 ≡ s = same_some m.0.1 s (sym (k.found m.0.1 call d m.2 t) ∙ e) in
          same_some d f.0 (sym m.2 ∙ ap at same ∙ f.1)
          )) ∙ sym f.1

  -- and one of the key that of its cell
  pub find_by : (key : ActorKey) (o : Option ℕ) → lookup (is_at (key_cmp key)) ps ≡ o → cell_at (cells_in at ps) key ≡ at_slot at o
  find_by key o e = look_up at key ps k.placed ∙ ap (at_slot at) e

  pub find_call_by : (call : ℕ) (o : Option ℕ) → o ≡ look call → cell_of_call (cells_in at ps) call ≡ at_slot at o
  find_call_by call o e = look_up_call call ∙ ap (at_slot at) (sym e)

  -- a call of no cell has no entry
  pub look_none : (call : ℕ) → cell_of_call (cells_in at ps) call ≡ None → look call ≡ None
  look_none call e = go (look call) refl
    where
      go : (o : Option ℕ) → look call ≡ o → o ≡ None
      go None q = refl
      go (Some s) q = (let f = k.only s call q in absurd (none-some f.0 (sym e ∙ look_up_call call ∙ ap (at_slot at) q ∙ f.1)))

  -- the cell of a slot is the one of its key
  pub there : (s : ℕ) (c : ActorCell) → at s ≡ Some c → cell_at (cells_in at ps) c.key ≡ Some c
  there s c e = at-In (cells_in at ps) c k.in_order (cells-In at ps (c.key, s) c (k.held s c e) e)

  pub found_at : (slots : List (Option ActorCell)) (s : ℕ) (c : ActorCell) → slice_index_or slots s None ≡ at s → at s ≡ Some c → IsFoundAt (record { cells = cells_in at ps; slots = slots }) s c
  found_at slots s c same e = record { at = same ∙ e; here = there s c e; in_order = k.in_order; settled = k.settled s c e }

  -- ---- one slot changes

  module _ (s : ℕ) (c x : ActorCell) (at' : ℕ → Option ActorCell) (e : at s ≡ Some c) (e' : at' s ≡ Some x) (others : (m : ℕ) → (m ≡ s → ⊥) → at' m ≡ at m) (key : x.key ≡ c.key) where
    pub changed : cells_in at' ps ≡ put_cell (cells_in at ps) x
    changed =
        let m = In-cut ps (c.key, s) (k.held s c e) in
        let o : AreInOrder (cells_in at (m.0 ++ (c.key, s) ∷ m.1)) = subst (λ qs. AreInOrder (cells_in at qs)) m.2 k.in_order in
        subst (λ qs. cells_in at' qs ≡ put_cell (cells_in at qs) x) (sym m.2) (changed_here at s c e m.0 m.1 o at' others x e' key)

    total_changed : total_calls (cells_in at' ps) + calls_in c ≡ total_calls (cells_in at ps) + calls_in x
    total_changed = rw changed (total-put-found calls_in (cells_in at ps) x c (ap (cell_at (cells_in at ps)) key ∙ there s c e) k.in_order)

    -- the index names the slot for each call of the cell, and none for one that left it; a call that came was nowhere
    pub record IsReindexed (look' : ℕ → Option ℕ) : Type 0 where
      pub mine : (call : ℕ) → is_in_cell call x.inner ≡ true → look' call ≡ Some s
      pub gone : (call : ℕ) → is_in_cell call x.inner ≡ false → is_in_cell call c.inner ≡ true → look' call ≡ None
      pub rest : (call : ℕ) → is_in_cell call x.inner ≡ false → is_in_cell call c.inner ≡ false → look' call ≡ look call
      pub fresh : (call : ℕ) → is_in_cell call x.inner ≡ true → is_in_cell call c.inner ≡ false → look call ≡ None

    module _ (look' : ℕ → Option ℕ) (n' : ℕ) (r : IsReindexed look') (t : n' + calls_in c ≡ n + calls_in x) (sx : IsSettled x) where
      found' : (m call : ℕ) (d : ActorCell) → at' m ≡ Some d → is_in_cell call d.inner ≡ true → look' call ≡ Some m
      found' m call d f h =
          elim (cases_eq m s) [
            | inl same ↦
                let it : d ≡ x = same_some d x (sym f ∙ ap at' same ∙ e') in
                r.mine call (ap (λ (z : ActorCell). is_in_cell call z.inner) (sym it) ∙ h) ∙ ap (λ (z : ℕ). Some z) (sym same)
            | inr apart ↦ other (k.found m call d (sym (others m apart) ∙ f) h) apart (has_or_not (is_in_cell call x.inner)) (has_or_not (is_in_cell call c.inner))
          ]
        where
          other : look call ≡ Some m → (m ≡ s → ⊥) → (is_in_cell call x.inner ≡ true) ⊎ (is_in_cell call x.inner ≡ false) → (is_in_cell call c.inner ≡ true) ⊎ (is_in_cell call c.inner ≡ false) → look' call ≡ Some m
          other g apart a (inl b) = absurd (apart (same_some m s (sym g ∙ k.found s call c e b)))
          other g apart (inl a) (inr b) = absurd (none-some m (sym (r.fresh call a b) ∙ g))
          other g apart (inr a) (inr b) = r.rest call a b ∙ g

      only' : (m call : ℕ) → look' call ≡ Some m → (d : ActorCell) × (at' m ≡ Some d) × (is_in_cell call d.inner ≡ true)
      only' m call g = go (has_or_not (is_in_cell call x.inner)) (has_or_not (is_in_cell call c.inner))
        where
          go : (is_in_cell call x.inner ≡ true) ⊎ (is_in_cell call x.inner ≡ false) → (is_in_cell call c.inner ≡ true) ⊎ (is_in_cell call c.inner ≡ false) → (d : ActorCell) × (at' m ≡ Some d) × (is_in_cell call d.inner ≡ true)
          go (inl a) b = (x, ap at' (same_some m s (sym g ∙ r.mine call a)) ∙ e', a)
          go (inr a) (inl b) = absurd (none-some m (sym (r.gone call a b) ∙ g))
          go (inr a) (inr b) =
              let f = k.only m call (sym (r.rest call a b) ∙ g) in
              (f.0, others m (λ same. true≢false (sym f.2 ∙ ap (λ (z : ActorCell). is_in_cell call z.inner) (same_some f.0 c (sym f.1 ∙ ap at same ∙ e)) ∙ b)) ∙ f.1, f.2)

      pub kept_changed : AreSlotsKept at' ps look' n'
      kept_changed =
          record {
            placed = λ q i. elim (cases_eq q.1 s) [
              | inl same ↦ (let f = k.placed q i in (x, ap at' same ∙ e', key ∙ ap (λ (z : ActorCell). z.key) (same_some c f.0 (sym e ∙ ap at (sym same) ∙ f.1)) ∙ f.2))
              | inr apart ↦ (let f = k.placed q i in (f.0, others q.1 apart ∙ f.1, f.2))
            ];
            held = λ m d f. elim (cases_eq m s) [
              | inl same ↦ subst (λ (z : ActorKey × ℕ). In z ps) (λ i. ((sym key ∙ ap (λ (z : ActorCell). z.key) (same_some x d (sym e' ∙ ap at' (sym same) ∙ f))) i, sym same i)) (k.held s c e)
              | inr apart ↦ k.held m d (sym (others m apart) ∙ f)
            ];
            in_order = subst AreInOrder (sym changed) (order-put_cell (cells_in at ps) x k.in_order);
            found = found';
            only = only';
            counted = (let h = k.counted in let g = total_changed in omega arith);
            settled = λ m d f. elim (cases_eq m s) [
              | inl same ↦ subst IsSettled (same_some x d (sym e' ∙ ap at' (sym same) ∙ f)) sx
              | inr apart ↦ k.settled m d (sym (others m apart) ∙ f)
            ];
          }

  -- ---- a slot is emptied

  module _ (s : ℕ) (c : ActorCell) (at' : ℕ → Option ActorCell) (e : at s ≡ Some c) (e' : at' s ≡ None) (others : (m : ℕ) → (m ≡ s → ⊥) → at' m ≡ at m) where
    abbrev dropped_places : List (ActorKey × ℕ)
    dropped_places = remove_entry (is_at (key_cmp c.key)) ps

    -- the places are cut at the slot
    pub record IsCutAt : Type 0 where
      pub front : List (ActorKey × ℕ)
      pub behind : List (ActorKey × ℕ)
      pub same : ps ≡ front ++ (c.key, s) ∷ behind
      pub in_order : AreInOrder (cells_in at (front ++ (c.key, s) ∷ behind))
      pub removed : dropped_places ≡ front ++ behind

    cut_at : IsCutAt
    cut_at =
        let m = In-cut ps (c.key, s) (k.held s c e) in
        let o : AreInOrder (cells_in at (m.0 ++ (c.key, s) ∷ m.1)) = subst (λ qs. AreInOrder (cells_in at qs)) m.2 k.in_order in
        record {
          front = m.0;
          behind = m.1;
          same = m.2;
          in_order = o;
          removed = ap (remove_entry (is_at (key_cmp c.key))) m.2 ∙ removed_here at s c e m.0 m.1 o (λ q i. k.placed q (subst (In q) (sym m.2) (In-left m.0 ((c.key, s) ∷ m.1) q i)));
        }

    pub dropped : cells_in at' dropped_places ≡ drop_cell (cells_in at ps) c.key
    dropped =
        let m = cut_at in
        ap (cells_in at') m.removed ∙ dropped_here at s c e m.front m.behind m.in_order at' others ∙ ap (λ qs. drop_cell (cells_in at qs) c.key) (sym m.same)

    -- the calls of the cell leave the index
    module _ (look' : ℕ → Option ℕ) (n' : ℕ) (looks : (call : ℕ) → look' call ≡ (if is_in_cell call c.inner then None else look call)) (t : n' + calls_in c ≡ n) where
      not_here : (m : ℕ) (d : ActorCell) → at' m ≡ Some d → m ≡ s → ⊥
      not_here m d f same = none-some d (sym e' ∙ ap at' (sym same) ∙ f)

      total_less : total_calls (cells_in at' dropped_places) + calls_in c ≡ n
      total_less =
          let m = total-taken calls_in (cells_in at ps) c.key c (there s c e) k.in_order in
          let h = ap total_calls dropped in
          let q = k.counted in
          omega arith

      found_left : (m call : ℕ) (d : ActorCell) → at' m ≡ Some d → is_in_cell call d.inner ≡ true → look' call ≡ Some m
      found_left m call d f h =
          let apart = not_here m d f in
          let g = k.found m call d (sym (others m apart) ∙ f) h in
          elim (has_or_not (is_in_cell call c.inner)) [
            | inl b ↦ absurd (apart (same_some m s (sym g ∙ k.found s call c e b)))
            | inr b ↦ looks call ∙ cond-false (is_in_cell call c.inner) _ _ b ∙ g
          ]

      only_left : (m call : ℕ) → look' call ≡ Some m → (d : ActorCell) × (at' m ≡ Some d) × (is_in_cell call d.inner ≡ true)
      only_left m call g =
          elim (has_or_not (is_in_cell call c.inner)) [
            | inl b ↦ absurd (none-some m (sym (looks call ∙ cond-true (is_in_cell call c.inner) _ _ b) ∙ g))
            | inr b ↦ (
                let f = k.only m call (sym (looks call ∙ cond-false (is_in_cell call c.inner) _ _ b) ∙ g) in
                (f.0, others m (λ same. true≢false (sym f.2 ∙ ap (λ (z : ActorCell). is_in_cell call z.inner) (same_some f.0 c (sym f.1 ∙ ap at same ∙ e)) ∙ b)) ∙ f.1, f.2)
                )
          ]

      pub kept_dropped : AreSlotsKept at' dropped_places look' n'
      kept_dropped =
          let m = cut_at in
          record {
            placed = λ q i. (
                let j : In q ps × (q.1 ≡ s → ⊥) = elim (In-append m.front m.behind q (subst (In q) m.removed i)) [
                  | inl a ↦ (subst (In q) (sym m.same) (In-left m.front ((c.key, s) ∷ m.behind) q a), front_apart at s c e m.front m.behind m.in_order q a)
                  | inr b ↦ (subst (In q) (sym m.same) (In-right m.front ((c.key, s) ∷ m.behind) q (inr b)), behind_apart at s c e m.front m.behind m.in_order q b)
                ] in
                let f = k.placed q j.0 in
                (f.0, others q.1 j.1 ∙ f.1, f.2)
                );
            held = λ z d f. (
                let apart = not_here z d f in
                let i = subst (In (d.key, z)) m.same (k.held z d (sym (others z apart) ∙ f)) in
                subst (In (d.key, z)) (sym m.removed) (elim (In-append m.front ((c.key, s) ∷ m.behind) (d.key, z) i) [
                  | inl a ↦ In-left m.front m.behind (d.key, z) a
                  | inr b ↦ elim b [ inl q ↦ absurd (apart (ap (λ (p : ActorKey × ℕ). p.1) q)) | inr j ↦ In-right m.front m.behind (d.key, z) j ]
                ])
                );
            in_order = subst AreInOrder (sym dropped) (order-drop_cell (cells_in at ps) c.key k.in_order);
            found = found_left;
            only = only_left;
            counted = (let g = total_less in omega arith);
            settled = λ z d f. k.settled z d (sym (others z (not_here z d f)) ∙ f);
          }

  -- ---- a slot is filled

  module _ (s call : ℕ) (x : ActorCell) (at' : ℕ → Option ActorCell) (e : at s ≡ None) (e' : at' s ≡ Some x) (others : (m : ℕ) → (m ≡ s → ⊥) → at' m ≡ at m) (absent : cell_at (cells_in at ps) x.key ≡ None) where
    abbrev more_places : List (ActorKey × ℕ)
    more_places = insert_entry key_cmp ps x.key s

    taken_apart : (m : ℕ) (d : ActorCell) → at m ≡ Some d → m ≡ s → ⊥
    taken_apart m d f same = none-some d (sym e ∙ ap at (sym same) ∙ f)

    other_places : (p : ActorKey × ℕ) → In p ps → key_cmp x.key p.0 ≡ Equal → ⊥
    other_places p i q =
        let f = k.placed p i in
        let d = at-In (cells_in at ps) f.0 k.in_order (cells-In at ps p f.0 i f.1) in
        let same : x.key ≡ f.0.key = same_key-true x.key f.0.key (same-tied x.key f.0.key ∙ ap (λ (z : ActorKey). is_eq (key_cmp x.key z)) f.2 ∙ ap is_eq q) in
        none-some f.0 (sym absent ∙ ap (cell_at (cells_in at ps)) same ∙ d)

    pub added : cells_in at' more_places ≡ put_cell (cells_in at ps) x
    added =
        added_here at at' s x e' ps k.placed other_places (λ p i. (let f = k.placed p i in others p.1 (taken_apart p.1 f.0 f.1)))
        ∙ sym (put-missing (cells_in at ps) x absent)

    module _ (look' : ℕ → Option ℕ) (fresh : look call ≡ None) (looks : (m : ℕ) → look' m ≡ (if m == call then Some s else look m)) (first : (m : ℕ) → is_in_cell m x.inner ≡ (m == call)) (one : calls_in x ≡ 1) (sx : IsSettled x) where
      looks_call : (m : ℕ) → (m == call) ≡ true → look' m ≡ Some s
      looks_call m t = looks m ∙ cond-true (m == call) _ _ t

      looks_other : (m : ℕ) → (m == call) ≡ false → look' m ≡ look m
      looks_other m f = looks m ∙ cond-false (m == call) _ _ f

      total_more : total_calls (cells_in at' more_places) ≡ n + 1
      total_more =
          let t = total-insert_cell calls_in (cells_in at ps) x in
          let h = ap total_calls (added ∙ put-missing (cells_in at ps) x absent) in
          let q = k.counted in
          omega arith

      found_more : (m z : ℕ) (d : ActorCell) → at' m ≡ Some d → is_in_cell z d.inner ≡ true → look' z ≡ Some m
      found_more m z d f h =
          elim (cases_eq m s) [
            | inl same ↦ (
                let it : d ≡ x = same_some d x (sym f ∙ ap at' same ∙ e') in
                looks_call z (sym (first z) ∙ ap (λ (w : ActorCell). is_in_cell z w.inner) (sym it) ∙ h) ∙ ap (λ (w : ℕ). Some w) (sym same)
                )
            | inr apart ↦ (
                let g = k.found m z d (sym (others m apart) ∙ f) h in
                elim (has_or_not (z == call)) [
                  | inl t ↦ absurd (none-some m (sym fresh ∙ ap look (sym (eqb-true z call t)) ∙ g))
                  | inr u ↦ looks_other z u ∙ g
                ]
                )
          ]

      only_more : (m z : ℕ) → look' z ≡ Some m → (d : ActorCell) × (at' m ≡ Some d) × (is_in_cell z d.inner ≡ true)
      only_more m z g =
          elim (has_or_not (z == call)) [
            | inl t ↦ (x, ap at' (same_some m s (sym g ∙ looks_call z t)) ∙ e', first z ∙ t)
            | inr u ↦ (let f = k.only m z (sym (looks_other z u) ∙ g) in (f.0, others m (taken_apart m f.0 f.1) ∙ f.1, f.2))
          ]

      pub kept_added : AreSlotsKept at' more_places look' (n + 1)
      kept_added =
          record {
            placed = λ q i. elim (placed-In x.key s q ps other_places i) [
              | inl same ↦ (x, ap (λ (p : ActorKey × ℕ). at' p.1) same ∙ e', ap (λ (p : ActorKey × ℕ). p.0) (sym same))
              | inr j ↦ (let f = k.placed q j in (f.0, others q.1 (taken_apart q.1 f.0 f.1) ∙ f.1, f.2))
            ];
            held = λ m d f. In-placed x.key s (d.key, m) ps other_places (
                elim (cases_eq m s) [
                  | inl same ↦ inl (λ i. (ap (λ (z : ActorCell). z.key) (same_some d x (sym f ∙ ap at' same ∙ e')) i, same i))
                  | inr apart ↦ inr (k.held m d (sym (others m apart) ∙ f))
                ]
                );
            in_order = subst AreInOrder (sym added) (order-put_cell (cells_in at ps) x k.in_order);
            found = found_more;
            only = only_more;
            counted = sym total_more;
            settled = λ m d f. elim (cases_eq m s) [
              | inl same ↦ subst IsSettled (same_some x d (sym e' ∙ ap at' (sym same) ∙ f)) sx
              | inr apart ↦ k.settled m d (sym (others m apart) ∙ f)
            ];
          }

-- a cell with no turn and an empty queue has no call
pub empty_has : (c : ActorCell) → c.inner.turns ≡ [] → c.inner.queue ≡ [] → (call : ℕ) → is_in_cell call c.inner ≡ false
empty_has c free none call = λ i. has_turn call (free i) || is_some (waiter_of call (none i))
