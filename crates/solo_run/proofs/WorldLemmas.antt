-- The steps of a world of places, against the steps of the world of keys that it represents.
use Rattle.std.proofs.Common.{◌≡◌, ◌<◌, ◌+◌, ◌-◌, ◌^◌, ℕ, zero, suc, Bool, true, false, eqb, cond, List, [], ◌∷◌, length, get_or, set, map, slice_get, Option, None, Some, All, IfSome, unwrap_or, refl, sym, ap, ◌∙◌, subst, arith, length-set}
use Rattle.std.specs.Option.{option_and_then}
use Rattle.std.proofs.lemmas.Bool.{eqb-true}
use Rattle.std.proofs.lemmas.List.{set-get_or}
use Rattle.std.proofs.lemmas.List.Elements.{All-set, All-weaker}
use Rattle.std.proofs.lemmas.Option.{slice_get_within, unwrap_or-slice_get}
use Rattle.turn_core.specs.Cell.{CellState, cell_end, cell_poll, with_hold, without_hold}
use Rattle.world_events.specs.declared.outcome.TurnOutcome.TheVariants as out
use Rattle.solo_run.specs.Interner.{place_in, AreDistinct}
use Rattle.world_events.specs.Solo.{End, Poll, Hold, Release}
use Rattle.solo_run.specs.World.{TypeDepth, SoloState, WorldStep, unchanged, at_call, at_key, at_cell, cell_at, put_cell, key_of_call, end_at, poll_at, end_outcome, poll_outcome}
use Rattle.solo_run.specs.WorldTold.{actors_told, calls_told, place_of_call, IsCellWithin, IsWorldKept}
use Rattle.solo_run.specs.Steps.{GivesOutcome}
use Rattle.solo_run.proofs.CellWithin.{later_within}
use Rattle.solo_run.proofs.PlaceLemmas.{distinct_place}
use Rattle.solo_run.proofs.ActorLemmas.{cell_at-place, cell_at-none, put_cell-place}

slice_get-map : {A B : Type 0} (f : A → B) (xs : List A) (i : ℕ) → slice_get (map f xs) i ≡ option_and_then (λ x. Some (f x)) (slice_get xs i)
slice_get-map f [] i = refl
slice_get-map f (x ∷ xs) zero = refl
slice_get-map f (x ∷ xs) (suc i) = slice_get-map f xs i

-- a call's key is at its place
key_of_place : (call : ℕ) (keys : List (List ℕ)) (calls : List (Option ℕ)) → key_of_call call (calls_told keys calls) ≡ option_and_then (λ place. slice_get keys place) (place_of_call call calls)
key_of_place call keys calls = by (eqb call 0) refl (slice_get calls (call - 1)) refl
  where
    by : (z : Bool) → eqb call 0 ≡ z → (r : Option (Option ℕ)) → slice_get calls (call - 1) ≡ r → key_of_call call (calls_told keys calls) ≡ option_and_then (λ place. slice_get keys place) (place_of_call call calls)
    by true e r p = rw e
    by false e None p = rw (e, slice_get-map (option_and_then (λ place. slice_get keys place)) calls (call - 1), p)
    by false e (Some None) p = rw (e, slice_get-map (option_and_then (λ place. slice_get keys place)) calls (call - 1), p)
    by false e (Some (Some place)) p = rw (e, slice_get-map (option_and_then (λ place. slice_get keys place)) calls (call - 1), p)

key_there : (keys : List (List ℕ)) (place : ℕ) → place < length keys → slice_get keys place ≡ Some (get_or keys place [])
key_there [] place h = absurd (omega arith)
key_there (k ∷ ks) zero h = refl
key_there (k ∷ ks) (suc place) h = key_there ks place (omega arith)

module _ (types : List TypeDepth) (keys : List (List ℕ)) (cells : List CellState) (calls : List (Option ℕ)) (events : ℕ) where
  -- the world that these lists represent
  abbrev pub told : SoloState
  told = record { depths = types; actors = actors_told keys cells; calls = calls_told keys calls; events = events }

  -- the world after one cell was put, with one more event
  abbrev pub told_with : ℕ → CellState → SoloState
  told_with place cell = record { depths = types; actors = actors_told keys (set cells place cell); calls = calls_told keys calls; events = events + 1 }

  abbrev pub told_next : SoloState
  told_next = record { depths = types; actors = actors_told keys cells; calls = calls_told keys calls; events = events + 1 }

  at_no_call : (call : ℕ) (step : List ℕ → CellState → WorldStep) → place_of_call call calls ≡ None → at_call told step call ≡ unchanged told out.NotThere
  at_no_call call step h =
      let key : key_of_call call (calls_told keys calls) ≡ None = rw (key_of_place call keys calls, h) in
      ap (at_key told step) key

  module _ (each : length cells ≡ length keys) (distinct : AreDistinct keys) where
    at_the_call : (call place : ℕ) (d : CellState) (step : List ℕ → CellState → WorldStep) → place_of_call call calls ≡ Some place → place < length keys
        → at_call told step call ≡ step (get_or keys place []) (get_or cells place d)
    at_the_call call place d step h below =
        let key : key_of_call call (calls_told keys calls) ≡ Some (get_or keys place []) = rw (key_of_place call keys calls, h) (key_there keys place below) in
        let cell = cell_at-place (get_or keys place []) keys cells place d each (distinct_place keys place distinct below) in
        ap (at_key told step) key ∙ ap (at_cell told step (get_or keys place [])) cell

    put : (place : ℕ) (cell : CellState) → place < length keys → put_cell (get_or keys place []) cell (actors_told keys cells) ≡ actors_told keys (set cells place cell)
    put place cell below = put_cell-place (get_or keys place []) cell keys cells place each (distinct_place keys place distinct below)

    pub end_gives : (call place : ℕ) (cell : CellState) → place_of_call call calls ≡ Some place → place < length keys → cell ≡ get_or cells place cell
        → GivesOutcome (end_outcome call (cell_end cell call true).answer) told (told_with place (cell_end cell call true).cell) (End call)
    end_gives call place cell h below is =
        let step = at_the_call call place cell (end_at told call) h below in
        record {
          world = rw (step, ← is, put place (cell_end cell call true).cell below);
          gives = rw (step, ← is);
        }

    pub poll_gives : (call place : ℕ) (cell : CellState) → place_of_call call calls ≡ Some place → place < length keys → cell ≡ get_or cells place cell
        → GivesOutcome (poll_outcome call (cell_poll cell call).answer) told (told_with place (cell_poll cell call).cell) (Poll call)
    poll_gives call place cell h below is =
        let step = at_the_call call place cell (poll_at told call) h below in
        record {
          world = rw (step, ← is, put place (cell_poll cell call).cell below);
          gives = rw (step, ← is);
        }

    pub hold_gives : (key : List ℕ) (place : ℕ) (cell : CellState) → place_in key keys ≡ Some place → cell ≡ get_or cells place cell
        → GivesOutcome out.Held told (told_with place (with_hold cell)) (Hold key)
    hold_gives key place cell h is =
        let found = cell_at-place key keys cells place cell each h in
        record {
          world = rw (found, ← is, put_cell-place key (with_hold cell) keys cells place each h);
          gives = rw found;
        }

    pub release_gives : (key : List ℕ) (place : ℕ) (cell : CellState) → place_in key keys ≡ Some place → cell ≡ get_or cells place cell
        → GivesOutcome (cond (eqb cell.holds 0) out.NotHeld out.Released) told (told_with place (without_hold cell)) (Release key)
    release_gives key place cell h is = by (eqb cell.holds 0) refl (cell_at-place key keys cells place cell each h)
      where
        same : eqb cell.holds 0 ≡ true → without_hold cell ≡ cell
        same e =
            let none = eqb-true cell.holds 0 e in
            ap (λ (n : ℕ). record cell { holds = n - 1 }) none ∙ ap (λ (n : ℕ). record cell { holds = n }) (sym none)

        stays : eqb cell.holds 0 ≡ true → set cells place (without_hold cell) ≡ cells
        stays e = ap (λ (c : CellState). set cells place c) (same e ∙ is) ∙ set-get_or cells place cell

        by : (b : Bool) → eqb cell.holds 0 ≡ b → cell_at key (actors_told keys cells) ≡ Some (get_or cells place cell)
            → GivesOutcome (cond (eqb cell.holds 0) out.NotHeld out.Released) told (told_with place (without_hold cell)) (Release key)
        by true e found = record { world = rw (found, ← is, e, stays e); gives = rw (found, ← is, e) }
        by false e found = record { world = rw (found, ← is, e, put_cell-place key (without_hold cell) keys cells place each h); gives = rw (found, ← is, e) }

  pub end_gives_none : (call : ℕ) → place_of_call call calls ≡ None → GivesOutcome out.NotThere told told_next (End call)
  end_gives_none call h = let step = at_no_call call (end_at told call) h in record { world = rw step; gives = rw step }

  pub poll_gives_none : (call : ℕ) → place_of_call call calls ≡ None → GivesOutcome out.NotThere told told_next (Poll call)
  poll_gives_none call h = let step = at_no_call call (poll_at told call) h in record { world = rw step; gives = rw step }

  pub hold_gives_none : (key : List ℕ) → place_in key keys ≡ None → GivesOutcome out.NotActive told told_next (Hold key)
  hold_gives_none key h = let none = cell_at-none key keys cells h in record { world = rw none; gives = rw none }

  pub release_gives_none : (key : List ℕ) → place_in key keys ≡ None → GivesOutcome out.NotHeld told told_next (Release key)
  release_gives_none key h = let none = cell_at-none key keys cells h in record { world = rw none; gives = rw none }

-- a call's actor is among the keys
pub placed_call : (n call place : ℕ) (calls : List (Option ℕ)) → All (λ p. IfSome p (λ q. q < n)) calls → place_of_call call calls ≡ Some place → place < n
placed_call n call place calls all h = by (eqb call 0) refl (slice_get calls (call - 1)) refl
  where
    by : (z : Bool) → eqb call 0 ≡ z → (r : Option (Option ℕ)) → slice_get calls (call - 1) ≡ r → place < n
    by true e r p = let found : ◌≡◌ {A = Option ℕ} None (Some place) = rw e at h in absurd (cc)
    by false e None p = let found : ◌≡◌ {A = Option ℕ} None (Some place) = rw (e, p) at h in absurd (cc)
    by false e (Some o) p =
        let found : o ≡ Some place = rw (e, p) at h in
        let within = slice_get_within calls (call - 1) o p in
        let here : IfSome (get_or calls (call - 1) None) (λ q. q < n) = all (call - 1) None within in
        let is : get_or calls (call - 1) None ≡ o = sym (unwrap_or-slice_get calls (call - 1) None) ∙ ap (λ r. unwrap_or r None) p in
        let there : IfSome (Some place) (λ q. q < n) = subst (λ (r : Option ℕ). IfSome r (λ q. q < n)) (is ∙ found) here in
        there

-- the invariant of a world holds after one cell was put and one more event has come
pub kept_with : (keys : List (List ℕ)) (cells : List CellState) (calls : List (Option ℕ)) (events place : ℕ) (cell : CellState)
    → IsWorldKept keys cells calls events → events < 2 ^ 62 → IsCellWithin (length calls) (events + 1) cell → IsWorldKept keys (set cells place cell) calls (events + 1)
kept_with keys cells calls events place cell kept room within =
    record {
      counted = omega arith;
      each_cell = length-set cells place cell ∙ kept.each_cell;
      distinct = kept.distinct;
      placed = kept.placed;
      within = All-set (IsCellWithin (length calls) (events + 1)) cells place cell within
          (All-weaker (IsCellWithin (length calls) events) (IsCellWithin (length calls) (events + 1)) (λ c w. later_within (length calls) events (length calls) (events + 1) c (omega arith) (omega arith) w) cells kept.within);
    }
