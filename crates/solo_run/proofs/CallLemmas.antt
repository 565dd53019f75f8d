-- A call made in a world of places, against the step of the world of keys that it represents.
use Rattle.std.proofs.Common.{◌≡◌, ◌⊎◌, inl, inr, ◌<◌, ◌+◌, ◌^◌, ℕ, suc, Bool, true, false, eqb, cond, List, [], ◌∷◌, ◌++◌, length, get_or, slice_get, Option, None, Some, Result, Ok, Err, is_ok, All, IfSome, refl, ap, arith}
use Rattle.std.specs.Option.{option_and_then}
use Rattle.std.proofs.lemmas.Bool.{ne_eqb, eq-eqb}
use Rattle.std.proofs.lemmas.List.{length_push, length-map, map-append}
use Rattle.std.proofs.lemmas.List.Elements.{All-push, All-weaker}
use Rattle.std.proofs.lemmas.Option.{slice_get_within}
use Rattle.turn_core.specs.Cell.{CellState, new_cell}
use Rattle.turn_core.specs.declared.answer.Asked.{Asked}
use Rattle.turn_core.specs.declared.answer.CellError.{CellError}
use Rattle.actor_names.specs.Names.{before_slash}
use Rattle.world_events.specs.declared.outcome.TurnOutcome.{TurnOutcome}
use Rattle.solo_run.specs.Interner.{place_in}
use Rattle.world_events.specs.Solo.{Call}
use Rattle.solo_run.specs.World.{TypeDepth, put_cell, cell_for, ask_at, ask_outcome, asked_key, refusal_of, depth_of}
use Rattle.solo_run.specs.WorldTold.{actors_told, calls_told, IsCellWithin, IsWorldKept, KeepsActors}
use Rattle.solo_run.specs.Steps.{GivesOutcome}
use Rattle.solo_run.proofs.PlaceLemmas.{place_below}
use Rattle.solo_run.proofs.ActorLemmas.{cell_for-place, cell_for-new}
use Rattle.solo_run.proofs.CellWithin.{asked_within, new_within, later_within}
use Rattle.solo_run.proofs.WorldLemmas.{told}

-- the keys of earlier calls stay where they are
calls_stay : (keys new_keys : List (List ℕ)) (calls : List (Option ℕ)) → ((place : ℕ) → place < length keys → slice_get new_keys place ≡ slice_get keys place)
    → All (λ p. IfSome p (λ q. q < length keys)) calls → calls_told new_keys calls ≡ calls_told keys calls
calls_stay keys new_keys [] earlier placed = refl
calls_stay keys new_keys (None ∷ calls) earlier placed =
    ap (λ rest. None ∷ rest) (calls_stay keys new_keys calls earlier (λ k d h. placed (suc k) d (omega arith)))
calls_stay keys new_keys (Some p ∷ calls) earlier placed =
    rw (earlier p (placed 0 None (omega arith)), calls_stay keys new_keys calls earlier (λ k d h. placed (suc k) d (omega arith)))

-- an admitted call's actor is its key's
last_call : (key : List ℕ) (new_keys : List (List ℕ)) (place : ℕ) (answer : Result Asked CellError) (admitted : Bool) → slice_get new_keys place ≡ Some key → admitted ≡ is_ok answer
    → option_and_then (λ p. slice_get new_keys p) (cond admitted (Some place) None) ≡ asked_key key answer
last_call key new_keys place (Ok a) admitted h is = rw (is, h)
last_call key new_keys place (Err e) admitted h is = rw is

module _ (types : List TypeDepth) (keys : List (List ℕ)) (cells : List CellState) (calls : List (Option ℕ)) (events : ℕ) (kept : IsWorldKept keys cells calls events)
    (number : ℕ) (key : List ℕ) (chain : Option (List ℕ)) (next : number ≡ length calls + 1) (room : events < 2 ^ 62) where
  -- the call isn't refused
  pub call_allowed : refusal_of (told types keys cells calls events) (Call number key chain) ≡ None
  call_allowed =
      let e : eqb events (2 ^ 62) ≡ false = ne_eqb events (2 ^ 62) (λ x. omega arith) in
      let n : eqb number (length (calls_told keys calls) + 1) ≡ true = eq-eqb number (length (calls_told keys calls) + 1) (omega (arith, length-map calls (option_and_then (λ place. slice_get keys place)))) in
      rw (e, n)

  cell_within : IsCellWithin (length calls) events (cell_for types key (actors_told keys cells))
  cell_within = by (place_in key keys) refl
    where
      by : (r : Option ℕ) → place_in key keys ≡ r → IsCellWithin (length calls) events (cell_for types key (actors_told keys cells))
      by None e = rw (cell_for-new types key keys cells e) (new_within (length calls) events (depth_of (before_slash key) types))
      by (Some i) e =
          let fresh = new_cell 0 in
          let each = kept.each_cell in
          let below = place_below key keys i e in
          rw (cell_for-place types key keys cells i fresh kept.each_cell e) (kept.within i fresh (omega arith))

  module _ (new_keys : List (List ℕ)) (new_cells : List CellState) (place : ℕ) (admitted : Bool)
      (keeps : KeepsActors keys cells new_keys new_cells (ask_at (cell_for types key (actors_told keys cells)) number chain).cell)
      (at_place : slice_get new_keys place ≡ Some key) where
    pub call_gives : (outcome : TurnOutcome)
        → actors_told new_keys new_cells ≡ put_cell key (ask_at (cell_for types key (actors_told keys cells)) number chain).cell (actors_told keys cells)
        → outcome ≡ ask_outcome number (ask_at (cell_for types key (actors_told keys cells)) number chain).answer
        → admitted ≡ is_ok (ask_at (cell_for types key (actors_told keys cells)) number chain).answer
        → GivesOutcome outcome (told types keys cells calls events) (told types new_keys new_cells (calls ++ cond admitted (Some place) None ∷ []) (events + 1)) (Call number key chain)
    call_gives outcome actors is ok =
        let stay = calls_stay keys new_keys calls keeps.earlier kept.placed in
        let last = last_call key new_keys place (ask_at (cell_for types key (actors_told keys cells)) number chain).answer admitted at_place ok in
        let all : calls_told new_keys (calls ++ cond admitted (Some place) None ∷ []) ≡ calls_told keys calls ++ asked_key key (ask_at (cell_for types key (actors_told keys cells)) number chain).answer ∷ [] =
        rw (map-append, stay, last) in
        record { world = rw (actors, all); gives = is }

    pub call_keeps : IsWorldKept new_keys new_cells (calls ++ cond admitted (Some place) None ∷ []) (events + 1)
    call_keeps =
        record {
          counted = omega arith;
          each_cell = keeps.each_cell;
          distinct = keeps.distinct;
          placed = All-push (λ p. IfSome p (λ q. q < length new_keys)) calls (cond admitted (Some place) None)
              (All-weaker (λ p. IfSome p (λ q. q < length keys)) (λ p. IfSome p (λ q. q < length new_keys)) wider calls kept.placed) (here admitted);
          within = rw (length_push calls (cond admitted (Some place) None)) every;
        }
      where
        wider : (p : Option ℕ) → IfSome p (λ q. q < length keys) → IfSome p (λ q. q < length new_keys)
        wider None h = tt
        wider (Some q) h = let more = keeps.more in omega arith

        here : (b : Bool) → IfSome (cond b (Some place) None) (λ q. q < length new_keys)
        here true = slice_get_within new_keys place key at_place
        here false = tt

        asked : IsCellWithin (length calls + 1) (events + 1) (ask_at (cell_for types key (actors_told keys cells)) number chain).cell
        asked = rw next (asked_within (length calls) events chain (cell_for types key (actors_told keys cells)) cell_within)

        every : All (IsCellWithin (length calls + 1) (events + 1)) new_cells
        every k d h = one (keeps.others k d h)
          where
            one : (get_or new_cells k d ≡ (ask_at (cell_for types key (actors_told keys cells)) number chain).cell) ⊎ ((k < length cells) × (get_or new_cells k d ≡ get_or cells k d)) → IsCellWithin (length calls + 1) (events + 1) (get_or new_cells k d)
            one (inl e) = rw e asked
            one (inr (l, e)) = rw e (later_within (length calls) events (length calls + 1) (events + 1) (get_or cells k d) (omega arith) (omega arith) (kept.within k d l))
