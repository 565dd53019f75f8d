-- What keeps a part within its limits.
use Rattle.std.proofs.Common.{◌≡◌, ◌⊎◌, ℕ, true, ◌+◌, ◌≤◌, ◌<◌, List, [], length, sym, ap, subst, ◌∙◌, inl, inr, arith}
use Rattle.std.proofs.lemmas.Bool.{cond_both}
use Rattle.actor_names.specs.declared.actor_key.ActorKey.{ActorKey}
use Rattle.turn_core.specs.Cell.{is_in_cell}
use Rattle.turn_core.specs.CellSound.{In}
use Rattle.part_model.specs.declared.settings.TypeSettings.{TypeSettings}
use Rattle.part_model.specs.declared.actor_cell.ActorCell.{ActorCell}
use Rattle.part_model.specs.Settings.{settings_of}
use Rattle.part_model.specs.Cells.{drop_cell, keep_cell, is_kept}
use Rattle.part_model.specs.Order.{AreInOrder}
use Rattle.part_model.specs.Part.{CellStep, each_cell, most_cells, most_drawn}
use Rattle.part_model.specs.Sound.{IsWithinLimits}
use Rattle.part_model.proofs.Elements.{In-keep_cell}
use Rattle.part_model.proofs.Changes.{at-In}
use Rattle.part_model.proofs.Sizes.{length-insert_cell, length-taken}
use Rattle.part_model.proofs.CellCalls.{GetsNoCall}
use Rattle.part_model.proofs.PartOrders.{In-each_cell, length-each_cell}

-- the cell of this actor has the call
abbrev pub HadCall : List ActorCell → ActorKey → ℕ → Type 0
HadCall cells key call = (d : ActorCell) × In d cells × (d.key ≡ key) × (is_in_cell call d.inner ≡ true)

-- A cell that is written when n numbers are drawn: there is room for it, its depth is that of its type, and each of its
-- calls is one that its actor had, or has the number that was drawn last.
pub record FitsIn (kinds : List TypeSettings) (drawn : ℕ) (cells : List ActorCell) (x : ActorCell) (n : ℕ) : Type 0 where
  pub room : length (drop_cell cells x.key) < most_cells
  pub more : drawn ≤ n
  pub within : n ≤ most_drawn
  pub calls : (call : ℕ) → is_in_cell call x.inner ≡ true → HadCall cells x.key call ⊎ ((call ≡ drawn + 1) × (drawn < n))
  pub depth : (settings_of kinds x.key.kind).depth ≡ x.inner.depth

-- a cell that changes, keeps its actor and its depth, and gets no call
pub record AddsNoCall (d c : ActorCell) : Type 0 where
  pub key : c.key ≡ d.key
  pub depth : c.inner.depth ≡ d.inner.depth
  pub calls : GetsNoCall d.inner c.inner

-- a part without cells
pub none_within : (kinds : List TypeSettings) (drawn : ℕ) → drawn ≤ most_drawn → IsWithinLimits kinds drawn []
none_within kinds drawn fits =
    record {
      few = omega arith;
      drawn_within = fits;
      drawn_calls = λ c call i h. absurd i;
      apart = λ c d call i j g h. absurd i;
      depths = λ c i. absurd i;
    }

length-keep : (cells : List ActorCell) (x : ActorCell) → length (keep_cell cells x) ≤ length (drop_cell cells x.key) + 1
length-keep cells x =
    let l = length-insert_cell (drop_cell cells x.key) x in
    cond_both (is_kept x) _ _ (λ (r : List ActorCell). length r ≤ length (drop_cell cells x.key) + 1) (λ _. omega arith) (λ _. omega arith)

module _ (kinds : List TypeSettings) (drawn : ℕ) (cells : List ActorCell) (k : IsWithinLimits kinds drawn cells) where
  -- more numbers are drawn
  pub more_within : (n : ℕ) → drawn ≤ n → n ≤ most_drawn → IsWithinLimits kinds n cells
  more_within n more fits =
      record {
        few = k.few;
        drawn_within = fits;
        drawn_calls = λ c call i h. (let m = k.drawn_calls c call i h in (m.0, (let u = m.1 in omega arith)));
        apart = k.apart;
        depths = k.depths;
      }

  -- ---- one cell is written

  module _ (x : ActorCell) (n : ℕ) (w : FitsIn kinds drawn cells x n) where
    own_call : (c : ActorCell) (call : ℕ) → c ≡ x → is_in_cell call c.inner ≡ true → is_in_cell call x.inner ≡ true
    own_call c call e h = ap (λ (z : ActorCell). is_in_cell call z.inner) (sym e) ∙ h

    own_drawn : (call : ℕ) → is_in_cell call x.inner ≡ true → (1 ≤ call) × (call ≤ n)
    own_drawn call h =
        let l = w.more in
        elim (w.calls call h) [
          | inl had ↦ (let m = k.drawn_calls had.0 call had.1 had.3 in (m.0, (let u = m.1 in omega arith)))
          | inr new ↦ (let e = new.0 in let u = new.1 in (omega arith, omega arith))
        ]

    -- no other cell has one of its calls
    own_apart : (d : ActorCell) (call : ℕ) → In d cells → is_in_cell call x.inner ≡ true → is_in_cell call d.inner ≡ true → x.key ≡ d.key
    own_apart d call i g h =
        elim (w.calls call g) [
          | inl had ↦ sym had.2 ∙ k.apart had.0 d call had.1 i had.3 h
          | inr new ↦ (let m = k.drawn_calls d call i h in let u = m.1 in let e = new.0 in absurd (omega arith))
        ]

    key_own : (c : ActorCell) → c ≡ x → c.key ≡ x.key
    key_own c e = ap (λ (z : ActorCell). z.key) e

    pub cell_within : IsWithinLimits kinds n (keep_cell cells x)
    cell_within =
        record {
          few = (let l = length-keep cells x in let r = w.room in omega arith);
          drawn_within = w.within;
          drawn_calls = λ c call i h. elim (In-keep_cell cells x c i) [
            | inl e ↦ own_drawn call (own_call c call e.0 h)
            | inr j ↦ (let m = k.drawn_calls c call j.0 h in let l = w.more in (m.0, (let u = m.1 in omega arith)))
          ];
          apart = λ c d call i j g h. elim (In-keep_cell cells x c i) [
            | inl e ↦ elim (In-keep_cell cells x d j) [
              | inl f ↦ key_own c e.0 ∙ sym (key_own d f.0)
              | inr o ↦ key_own c e.0 ∙ own_apart d call o.0 (own_call c call e.0 g) h
            ]
            | inr o ↦ elim (In-keep_cell cells x d j) [
              | inl f ↦ sym (key_own d f.0 ∙ own_apart c call o.0 (own_call d call f.0 h) g)
              | inr q ↦ k.apart c d call o.0 q.0 g h
            ]
          ];
          depths = λ c i. elim (In-keep_cell cells x c i) [
            | inl e ↦ subst (λ (z : ActorCell). (settings_of kinds z.key.kind).depth ≡ z.inner.depth) (sym e.0) w.depth
            | inr j ↦ k.depths c j.0
          ];
        }

  -- there is room for a cell that was there
  pub found_room : (c : ActorCell) → In c cells → AreInOrder cells → length (drop_cell cells c.key) < most_cells
  found_room c i o =
      let t = length-taken cells c.key c (at-In cells c o i) o in
      let f = k.few in
      omega arith

  -- and it may change if it gets no call
  pub found_within : (c x : ActorCell) → In c cells → AreInOrder cells → AddsNoCall c x → IsWithinLimits kinds drawn (keep_cell cells x)
  found_within c x i o a =
      cell_within x drawn (record {
        room = subst (λ (z : ActorKey). length (drop_cell cells z) < most_cells) (sym a.key) (found_room c i o);
        more = omega arith;
        within = k.drawn_within;
        calls = λ call h. inl (c, i, sym a.key, a.calls call h);
        depth = ap (λ (z : ActorKey). (settings_of kinds z.kind).depth) a.key ∙ k.depths c i ∙ sym a.depth;
      })

  -- ---- each cell changes

  pub each_within : (f : ActorCell → CellStep) → ((c : ActorCell) → AddsNoCall c (f c).cell) → IsWithinLimits kinds drawn (each_cell f cells).cells
  each_within f adds =
      record {
        few = (let l = length-each_cell f cells in let m = k.few in omega arith);
        drawn_within = k.drawn_within;
        drawn_calls = λ c call i h. (let m = In-each_cell f cells c i in k.drawn_calls m.0 call m.1 (was m.0 c call m.2 h));
        apart = λ c d call i j g h. (
            let m = In-each_cell f cells c i in
            let q = In-each_cell f cells d j in
            key_was m.0 c m.2 ∙ k.apart m.0 q.0 call m.1 q.1 (was m.0 c call m.2 g) (was q.0 d call q.2 h) ∙ sym (key_was q.0 d q.2)
            );
        depths = λ c i. (
            let m = In-each_cell f cells c i in
            ap (λ (z : ActorKey). (settings_of kinds z.kind).depth) (key_was m.0 c m.2) ∙ k.depths m.0 m.1 ∙ sym (depth_was m.0 c m.2)
            );
      }
    where
      key_was : (d c : ActorCell) → c ≡ (f d).cell → c.key ≡ d.key
      key_was d c e = ap (λ (z : ActorCell). z.key) e ∙ (adds d).key

      depth_was : (d c : ActorCell) → c ≡ (f d).cell → c.inner.depth ≡ d.inner.depth
      depth_was d c e = ap (λ (z : ActorCell). z.inner.depth) e ∙ (adds d).depth

      was : (d c : ActorCell) (call : ℕ) → c ≡ (f d).cell → is_in_cell call c.inner ≡ true → is_in_cell call d.inner ≡ true
      was d c call e h = (adds d).calls call (ap (λ (z : ActorCell). is_in_cell call z.inner) (sym e) ∙ h)
