-- What is kept beside the cells through each change of them.
use Rattle.std.proofs.Common.{◌≡◌, ℕ, ◌+◌, ◌≤◌, ◌<◌, ◌^◌, true, false, List, [], length, Option, None, Some, Bool, refl, sym, ap, ◌∙◌, subst, inl, inr, arith}
use Rattle.std.proofs.lemmas.Bool.{cond-true, true≢false}
use Rattle.std.specs.declared.result.Result.TheVariants.{Ok, Err}
use Rattle.turn_core.specs.declared.answer.Asked.{Asked}
use Rattle.turn_core.specs.declared.answer.Asked.TheVariants as asked
use Rattle.turn_core.specs.declared.answer.CellError.{CellError}
use Rattle.turn_core.specs.declared.answer.CellError.TheVariants as deny
use Rattle.turn_core.specs.Cell.{AskStep, admit_call}
use Rattle.turn_core.proofs.Joins.{asked_joins}
use Rattle.part_model.specs.declared.actor_cell.ActorCell.{ActorCell}
use Rattle.part_model.specs.Cells.{cell_at, cell_of_call, insert_cell, drop_cell, put_cell, keep_cell, calls_in, total_calls, is_kept}
use Rattle.part_cells.specs.Slots.{CellsView, IsFoundAt, AsksAt}
use Rattle.part_model.proofs.Elements.{In-cell_at, In-keep_cell}
use Rattle.part_cells.proofs.Keeping.{of_call_none}
use Rattle.part_model.proofs.Changes.{put-missing}
use Rattle.part_model.proofs.Sizes.{length-keep-found, length-insert_cell, total-keep-found, total-keep-missing}
use Rattle.part_core.specs.Actors.{IsNumbered, AreActorsKept}
use Rattle.part_core.proofs.Numbers.{numbered_more, numbered_absent, numbered_asked}

refusal_same : (x : CellError) (old new : List ActorCell) (c : ActorCell) (step : AskStep) → AsksAt (Err x) old new c step → new ≡ old
refusal_same (deny.Depth n) old new c step g = g.1
refusal_same (deny.QueueFull n) old new c step g = g.1
refusal_same deny.OutOfMemory old new c step g = g

module _ (drawn : ℕ) (v : CellsView) (room : ℕ) (k : AreActorsKept drawn v.cells room) where
  -- the cells stay
  pub kept_more : (drawn' room' : ℕ) → drawn ≤ drawn' → drawn' ≤ 2 ^ 62 → room ≤ room' → AreActorsKept drawn' v.cells room'
  kept_more drawn' room' more fits has =
      record {
        drawn_fits = fits;
        numbered = λ c i. numbered_more drawn drawn' c.inner more (k.numbered c i);
        few = k.few;
        counted = (let h = k.counted in omega arith);
        has_room = (let h = k.has_room in omega arith);
      }

  -- the next number is that of no call
  pub fresh : cell_of_call v.cells (drawn + 1) ≡ None
  fresh = of_call_none v.cells (drawn + 1) (λ c i. numbered_absent drawn c.inner (k.numbered c i))

  module _ (s : ℕ) (c : ActorCell) (f : IsFoundAt v s c) where
    pub found_numbered : IsNumbered drawn c.inner
    found_numbered = k.numbered c (In-cell_at v.cells c.key c f.here)

    -- one cell changes
    pub kept_cell : (x : ActorCell) (drawn' room' : ℕ) → x.key ≡ c.key → IsNumbered drawn' x.inner → drawn ≤ drawn' → drawn' ≤ 2 ^ 62
        → total_calls v.cells + calls_in x ≤ drawn' + calls_in c → total_calls v.cells + calls_in x ≤ room' + calls_in c → AreActorsKept drawn' (keep_cell v.cells x) room'
    kept_cell x drawn' room' key numbered more fits d r =
        let here : cell_at v.cells x.key ≡ Some c = ap (cell_at v.cells) key ∙ f.here in
        let t = total-keep-found calls_in v.cells x c here f.in_order in
        record {
          drawn_fits = fits;
          numbered = λ y i. elim (In-keep_cell v.cells x y i) [
            | inl e ↦ subst (λ (z : ActorCell). IsNumbered drawn' z.inner) (sym e.0) numbered
            | inr j ↦ numbered_more drawn drawn' y.inner more (k.numbered y j.0)
          ];
          few = (let l = length-keep-found v.cells x c here f.in_order in let h = k.few in omega arith);
          counted = omega arith;
          has_room = omega arith;
        }

    -- and has no more calls than before
    pub kept_within : (x : ActorCell) (room' : ℕ) → x.key ≡ c.key → IsNumbered drawn x.inner → calls_in x ≤ calls_in c → room ≤ room' → AreActorsKept drawn (keep_cell v.cells x) room'
    kept_within x room' key numbered l r =
        kept_cell x drawn room' key numbered (omega arith) k.drawn_fits (let h = k.counted in omega arith) (let h = k.has_room in omega arith)

    -- a call that is asked gets the next number
    pub kept_asked : (a : Asked) (cells : List ActorCell) (chain : Option (List ℕ)) (b : Bool) (room' : ℕ) → AsksAt (Ok a) v.cells cells c (admit_call c.inner (drawn + 1) chain b)
        → drawn < 2 ^ 62 → total_calls v.cells + 1 ≤ room' → AreActorsKept (drawn + 1) cells room'
    kept_asked asked.Begun cells chain b room' g fits r =
        let x : ActorCell = record c { inner = (admit_call c.inner (drawn + 1) chain b).cell; active = true } in
        let m = (asked_joins c.inner (drawn + 1) chain b asked.Begun (sym g.0)).more in
        let h = k.counted in
        rw g.1 (kept_cell x (drawn + 1) room' refl (numbered_asked drawn c.inner chain b found_numbered) (omega arith) (omega arith) (omega arith) (omega arith))
    kept_asked (asked.Waits n) cells chain b room' g fits r =
        let x : ActorCell = record c { inner = (admit_call c.inner (drawn + 1) chain b).cell } in
        let m = (asked_joins c.inner (drawn + 1) chain b (asked.Waits n) (sym g.0)).more in
        let h = k.counted in
        rw g.1 (kept_cell x (drawn + 1) room' refl (numbered_asked drawn c.inner chain b found_numbered) (omega arith) (omega arith) (omega arith) (omega arith))

    -- one that is refused leaves the cells
    pub kept_refused : (x : CellError) (cells : List ActorCell) (step : AskStep) (room' : ℕ) → AsksAt (Err x) v.cells cells c step → room ≤ room' → AreActorsKept drawn cells room'
    kept_refused x cells step room' g r = rw (refusal_same x v.cells cells c step g) (kept_more drawn room' (omega arith) k.drawn_fits r)

  -- a first cell
  pub kept_first : (x : ActorCell) (room' : ℕ) → cell_at v.cells x.key ≡ None → is_kept x ≡ true → IsNumbered (drawn + 1) x.inner → calls_in x ≡ 1
      → drawn < 2 ^ 62 → length v.cells < 65536 → total_calls v.cells + 1 ≤ room' → AreActorsKept (drawn + 1) (keep_cell v.cells x) room'
  kept_first x room' absent kept numbered one fits few r =
      let t = total-keep-missing calls_in v.cells x (λ f. absurd (both kept f)) absent in
      record {
        drawn_fits = omega arith;
        numbered = λ y i. elim (In-keep_cell v.cells x y i) [
          | inl e ↦ subst (λ (z : ActorCell). IsNumbered (drawn + 1) z.inner) (sym e.0) numbered
          | inr j ↦ numbered_more drawn (drawn + 1) y.inner (omega arith) (k.numbered y j.0)
        ];
        few = (
            let p : length (keep_cell v.cells x) ≡ length (insert_cell v.cells x) = ap (λ (l : List ActorCell). length l) (cond-true (is_kept x) (put_cell v.cells x) (drop_cell v.cells x.key) kept ∙ put-missing v.cells x absent) in
            let l = length-insert_cell v.cells x in
            omega arith
            );
        counted = (let h = k.counted in omega arith);
        has_room = omega arith;
      }
    where
      both : is_kept x ≡ true → is_kept x ≡ false → ⊥
      both a b = true≢false (sym a ∙ b)

-- nothing but the list of the last step changes
pub kept_cleared : (drawn : ℕ) (cells : List ActorCell) (room room' : ℕ) → AreActorsKept drawn cells room → room' ≡ room → AreActorsKept drawn cells room'
kept_cleared drawn cells room room' k e = rw e k

-- a part without actors
pub kept_none : (drawn room : ℕ) → drawn ≤ 2 ^ 62 → AreActorsKept drawn [] room
kept_none drawn room fits = record { drawn_fits = fits; numbered = λ c i. absurd i; few = omega arith; counted = omega arith; has_room = omega arith }
