-- A cell is changed in its slot.
use Rattle.std.proofs.Common.{◌≡◌, ℕ, ◌+◌, ◌≤◌, Bool, true, false, List, Option, Some, None, IsSome, refl, sym, ap, subst, ◌∙◌, inl, inr, arith}
use Rattle.std.specs.Prelude.{◌==◌, if◌then◌else◌}
use Rattle.std.proofs.lemmas.Bool.{cond-true, cond-false, eqb-true, true≢false}
use Rattle.slab.specs.Slab.{Slab, get, with_value, ContainsKey, Updates}
use Rattle.slab.proofs.SlabLemmas.{Updates-with_value}
use Rattle.actor_names.specs.declared.actor_key.ActorKey.{ActorKey}
use Rattle.turn_core.specs.Cell.{is_in_cell}
use Rattle.turn_core.specs.CellSound.{HasCallsOnce}
use Rattle.turn_core.proofs.Presence.{has_or_not, LeavesCell, JoinsCell, KeepsCalls, kept_presence, left_was, left_gone, left_others, joined_mine, joined_others}
use Rattle.part_model.specs.declared.actor_cell.ActorCell.{ActorCell}
use Rattle.part_model.specs.Cells.{put_cell, keep_cell, is_kept, calls_in}
use Rattle.part_model.proofs.Changes.{put-In}
use Rattle.part_model.proofs.Sizes.{within_total}
use Rattle.part_cells.specs.Slots.{cells_in, AreSlotsKept, IsSettled}
use Rattle.part_cells.proofs.Placed.{cells-In}
use Rattle.part_cells.proofs.Keeping.{changed, kept_changed}

module _ (S : Slab ActorCell) (ps : List (ActorKey × ℕ)) (look : ℕ → Option ℕ) (n : ℕ) (k : AreSlotsKept (get S) ps look n) (s : ℕ) (c : ActorCell) (e : get S s ≡ Some c) where
  contains : ContainsKey S s
  contains = subst IsSome (sym e) refl

  -- the slot's calls are counted
  pub within : calls_in c ≤ n
  within = let w = within_total calls_in (cells_in (get S) ps) c (cells-In (get S) ps (c.key, s) c (k.held s c e) e) in let t = k.counted in omega arith

  -- a call that no cell has isn't in this one
  pub not_in : (call : ℕ) → look call ≡ None → is_in_cell call c.inner ≡ false
  not_in call none = elim (has_or_not (is_in_cell call c.inner)) [ inl t ↦ absurd (some_none (sym none ∙ k.found s call c e t)) | inr f ↦ f ]
    where
      some_none : None ≡ Some s → ⊥
      some_none q = cc

  module _ (x : ActorCell) (key : x.key ≡ c.key) where
    pub written : Updates S (with_value S s x) s (Some x)
    written = Updates-with_value S s x contains

    write_changed : cells_in (get (with_value S s x)) ps ≡ put_cell (cells_in (get S) ps) x
    write_changed = changed (get S) ps look n k s c x (get (with_value S s x)) e written.changed written.others key

    -- nothing changed
    pub write_same : x ≡ c → cells_in (get (with_value S s x)) ps ≡ cells_in (get S) ps
    write_same same = write_changed ∙ ap (put_cell (cells_in (get S) ps)) same ∙ put-In (cells_in (get S) ps) c k.in_order (cells-In (get S) ps (c.key, s) c (k.held s c e) e)

    module _ (settled : IsSettled x) where
      pub write_keeps : cells_in (get (with_value S s x)) ps ≡ keep_cell (cells_in (get S) ps) x
      write_keeps = write_changed ∙ sym (cond-true (is_kept x) _ _ settled.kept)

      -- `gone` says which calls left; none came
      pub write_kept : (gone : ℕ → Bool) (look' : ℕ → Option ℕ) (n' : ℕ)
          → ((m : ℕ) → gone m ≡ true → (is_in_cell m c.inner ≡ true) × (is_in_cell m x.inner ≡ false))
          → ((m : ℕ) → gone m ≡ false → is_in_cell m x.inner ≡ is_in_cell m c.inner)
          → ((m : ℕ) → look' m ≡ (if gone m then None else look m))
          → n' + calls_in c ≡ n + calls_in x
          → AreSlotsKept (get (with_value S s x)) ps look' n'
      write_kept gone look' n' left stays looks t =
          kept_changed (get S) ps look n k s c x (get (with_value S s x)) e written.changed written.others key look' n' (
          record {
            mine = λ m h. elim (has_or_not (gone m)) [
              | inl g ↦ absurd (true≢false (sym h ∙ (left m g).1))
              | inr f ↦ looks m ∙ cond-false (gone m) _ _ f ∙ k.found s m c e (sym (stays m f) ∙ h)
            ];
            gone = λ m h j. elim (has_or_not (gone m)) [
              | inl g ↦ looks m ∙ cond-true (gone m) _ _ g
              | inr f ↦ absurd (true≢false (sym j ∙ sym (stays m f) ∙ h))
            ];
            rest = λ m h j. elim (has_or_not (gone m)) [
              | inl g ↦ absurd (true≢false (sym (left m g).0 ∙ j))
              | inr f ↦ looks m ∙ cond-false (gone m) _ _ f
            ];
            fresh = λ m h j. elim (has_or_not (gone m)) [
              | inl g ↦ absurd (true≢false (sym h ∙ (left m g).1))
              | inr f ↦ absurd (true≢false (sym h ∙ stays m f ∙ j))
            ];
          }
          ) t settled

      -- no call left or came
      pub write_still : ((m : ℕ) → is_in_cell m x.inner ≡ is_in_cell m c.inner) → calls_in x ≡ calls_in c → AreSlotsKept (get (with_value S s x)) ps look n
      write_still stays t = write_kept (λ _. false) look n (λ m g. absurd (true≢false (sym g))) (λ m _. stays m) (λ _. refl) (omega arith)

      pub write_with_calls : KeepsCalls c.inner x.inner → AreSlotsKept (get (with_value S s x)) ps look n
      write_with_calls h = write_still (kept_presence c.inner x.inner h) h.as_many

      -- one call left
      pub write_left : (call : ℕ) (look' : ℕ → Option ℕ) (n' : ℕ) → LeavesCell call c.inner x.inner → HasCallsOnce c.inner
          → ((m : ℕ) → look' m ≡ (if m == call then None else look m)) → n' + 1 ≡ n → AreSlotsKept (get (with_value S s x)) ps look' n'
      write_left call look' n' l once looks t =
          write_kept (λ m. m == call) look' n'
          (λ m g. (
          let same = eqb-true m call g in (
            ap (λ (z : ℕ). is_in_cell z c.inner) same ∙ left_was call c.inner x.inner l,
            ap (λ (z : ℕ). is_in_cell z x.inner) same ∙ left_gone call c.inner x.inner l once,
          )
          ))
          (left_others call c.inner x.inner l)
          looks
          (let f = l.fewer in omega arith)

      -- one call came, which no cell had
      pub write_joined : (call : ℕ) (look' : ℕ → Option ℕ) → look call ≡ None → JoinsCell call c.inner x.inner
          → ((m : ℕ) → look' m ≡ (if m == call then Some s else look m)) → AreSlotsKept (get (with_value S s x)) ps look' (n + 1)
      write_joined call look' none j looks =
          let mine = joined_mine call c.inner x.inner j in
          let others = joined_others call c.inner x.inner j in
          kept_changed (get S) ps look n k s c x (get (with_value S s x)) e written.changed written.others key look' (n + 1) (
          record {
            mine = λ m h. elim (has_or_not (m == call)) [
              | inl g ↦ looks m ∙ cond-true (m == call) _ _ g
              | inr f ↦ looks m ∙ cond-false (m == call) _ _ f ∙ k.found s m c e (sym (others m f) ∙ h)
            ];
            gone = λ m h i. elim (has_or_not (m == call)) [
              | inl g ↦ absurd (true≢false (sym mine ∙ ap (λ (z : ℕ). is_in_cell z x.inner) (sym (eqb-true m call g)) ∙ h))
              | inr f ↦ absurd (true≢false (sym i ∙ sym (others m f) ∙ h))
            ];
            rest = λ m h i. elim (has_or_not (m == call)) [
              | inl g ↦ absurd (true≢false (sym mine ∙ ap (λ (z : ℕ). is_in_cell z x.inner) (sym (eqb-true m call g)) ∙ h))
              | inr f ↦ looks m ∙ cond-false (m == call) _ _ f
            ];
            fresh = λ m h i. elim (has_or_not (m == call)) [
              | inl g ↦ ap look (eqb-true m call g) ∙ none
              | inr f ↦ absurd (true≢false (sym h ∙ others m f ∙ i))
            ];
          }
          ) (let m = j.more in omega arith) settled

-- an entry that was noted and taken back
pub taken_back : (s call : ℕ) (look noted back : ℕ → Option ℕ) → look call ≡ None → ((m : ℕ) → noted m ≡ (if m == call then Some s else look m)) → ((m : ℕ) → back m ≡ (if m == call then None else noted m)) → back ≡ look
taken_back s call look noted back none h g = λ i m. at m i
  where
    at : (m : ℕ) → back m ≡ look m
    at m = elim (has_or_not (m == call)) [
      | inl t ↦ g m ∙ cond-true (m == call) _ _ t ∙ sym none ∙ ap look (sym (eqb-true m call t))
      | inr f ↦ g m ∙ cond-false (m == call) _ _ f ∙ h m ∙ cond-false (m == call) _ _ f
    ]
