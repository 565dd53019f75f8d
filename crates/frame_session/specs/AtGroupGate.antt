-- What is asked of a machine at a gate where callers share steps. Own.
use Rattle.std.specs.Prelude.{◌≡◌, ℕ, ◌≤◌, List, [], ◌∷◌, ◌++◌, length}
use Rattle.std.proofs.Common.{zero, suc, refl, ap, sym, subst, ◌∙◌, le_refl, le_trans, append_assoc, append-nil}
use mathlib.Core.Option as m
use mathlib.Core.List.{IsPrefix}
use lib.ListN.{get_elem?}
use Rattle.group_gate.specs.declared.gate.GroupGate.{GroupGate}
use Rattle.group_gate.specs.declared.view.Done.{Done}
use Rattle.group_gate.specs.declared.view.GroupEntry.{GroupEntry}
use Rattle.group_gate.specs.History.{asked}
use Rattle.group_gate.specs.Gates.{SitsAt, seen_of, mine_of}
use Rattle.step_gate.proofs.Beginnings.{prefix_self, prefix_trans, prefix_length}
use Rattle.frame_session.specs.declared.at_group_gate.PlacedSeat.{PlacedSeat}
use Rattle.frame_session.specs.Exchanges.{Exchange}

-- some step of the machine answers so to the ask, whatever else is asked in it
abbrev pub GroupReplies : {S A R : Type 0} → (S → List A → List R → S → Type 0) → A → R → Type 0
GroupReplies {S} {A} {R} moves e r =
    (old : S) × (new : S) × (asks : List A) × (answers : List R) × (k : ℕ)
    × moves old asks answers new × (get_elem? asks k ≡ m.some e) × (get_elem? answers k ≡ m.some r)

module _ {S A R : Type 0} where
  -- the seat sits at its place
  abbrev pub SitsThere : (S → List A → List R → S → Type 0) → GroupGate S A R → PlacedSeat S A R → Type 0
  SitsThere moves gate placed = SitsAt moves gate placed.place.at placed.seat

  -- how many steps of the history the seat has seen
  abbrev pub group_steps_seen : PlacedSeat S A R → ℕ
  group_steps_seen placed = length (seen_of placed.seat)

module _ {A R : Type 0} where
  -- The exchange stands in one entry of this history, behind its first ones: what was asked is there in the name of the
  -- place, and the answer has the same index.
  pub record StandsIn (place first : ℕ) (seen : List (GroupEntry A R)) (x : Exchange A R) (d : Done A R) : Type 0 where
    pub entry : GroupEntry A R
    pub behind : first ≤ d.entry
    pub stands : get_elem? seen d.entry ≡ m.some entry
    pub event_is : get_elem? entry.asks d.index ≡ m.some (asked place x.event)
    pub reply_is : get_elem? entry.answers d.index ≡ m.some x.reply

  -- each of them does, in this order
  abbrev pub StandIn : ℕ → ℕ → List (GroupEntry A R) → List (Exchange A R) → List (Done A R) → Type 0
  StandIn place first seen [] [] = Unit {0}
  StandIn place first seen [] (d ∷ ds) = ⊥
  StandIn place first seen (x ∷ xs) [] = ⊥
  StandIn place first seen (x ∷ xs) (d ∷ ds) = StandsIn place first seen x d × StandIn place first seen xs ds

module _ {S A R : Type 0} where
  -- Just these exchanges were made at the place of the seat, in this order, each in an entry that it has seen now and
  -- had not seen before.
  pub record GroupMade (xs : List (Exchange A R)) (before after : PlacedSeat S A R) : Type 0 where
    pub done : List (Done A R)
    pub place : after.place ≡ before.place
    pub seen : IsPrefix (seen_of before.seat) (seen_of after.seat)
    pub mine : mine_of after.seat ≡ mine_of before.seat ++ done
    pub each : StandIn before.place.at (length (seen_of before.seat)) (seen_of after.seat) xs done

-- ---- what follows: what stands in a history stands in a longer one

module _ {X : Type 0} where
  in_front : (xs ys : List X) (k : ℕ) (x : X) → get_elem? xs k ≡ m.some x → get_elem? (xs ++ ys) k ≡ m.some x
  in_front [] ys k x at = absurd (m.none-ne-some x at)
  in_front (y ∷ xs) ys zero x at = at
  in_front (y ∷ xs) ys (suc k) x at = in_front xs ys k x at

  in_longer : (xs ys : List X) (k : ℕ) (x : X) → IsPrefix xs ys → get_elem? xs k ≡ m.some x → get_elem? ys k ≡ m.some x
  in_longer xs ys k x p at = subst (λ (z : List X). get_elem? z k ≡ m.some x) p.1 (in_front xs p.0 k x at)

module _ {A R : Type 0} where
  stands_longer : (place first next : ℕ) (seen more : List (GroupEntry A R)) (x : Exchange A R) (d : Done A R)
      → next ≤ first → IsPrefix seen more → StandsIn place first seen x d → StandsIn place next more x d
  stands_longer place first next seen more x d le p s = record {
    entry = s.entry;
    behind = le_trans le s.behind;
    stands = in_longer seen more d.entry s.entry p s.stands;
    event_is = s.event_is;
    reply_is = s.reply_is;
  }

  stand_longer : (place first next : ℕ) (seen more : List (GroupEntry A R)) (xs : List (Exchange A R)) (ds : List (Done A R))
      → next ≤ first → IsPrefix seen more → StandIn place first seen xs ds → StandIn place next more xs ds
  stand_longer place first next seen more [] [] le p s = tt
  stand_longer place first next seen more [] (d ∷ ds) le p s = s
  stand_longer place first next seen more (x ∷ xs) [] le p s = s
  stand_longer place first next seen more (x ∷ xs) (d ∷ ds) le p s =
      (stands_longer place first next seen more x d le p s.0, stand_longer place first next seen more xs ds le p s.1)

  stand_both : (place first : ℕ) (seen : List (GroupEntry A R)) (xs ys : List (Exchange A R)) (ds es : List (Done A R))
      → StandIn place first seen xs ds → StandIn place first seen ys es → StandIn place first seen (xs ++ ys) (ds ++ es)
  stand_both place first seen [] ys [] es s t = t
  stand_both place first seen [] ys (d ∷ ds) es s t = absurd s
  stand_both place first seen (x ∷ xs) ys [] es s t = absurd s
  stand_both place first seen (x ∷ xs) ys (d ∷ ds) es s t = (s.0, stand_both place first seen xs ys ds es s.1 t)

-- ---- nothing, and two calls

module _ {S A R : Type 0} where
  pub none_asked : (d : PlacedSeat S A R) → GroupMade [] d d
  none_asked d = record { done = []; place = refl; seen = prefix_self _; mine = sym (append-nil _); each = tt }

  pub asked_on : (xs ys : List (Exchange A R)) (d0 d1 d2 : PlacedSeat S A R) → GroupMade xs d0 d1 → GroupMade ys d1 d2 → GroupMade (xs ++ ys) d0 d2
  asked_on xs ys d0 d1 d2 a b =
      let n0 = length (seen_of d0.seat) in
      let n1 = length (seen_of d1.seat) in
      let front = stand_longer d0.place.at n0 n0 (seen_of d1.seat) (seen_of d2.seat) xs a.done (le_refl _) b.seen a.each in
      let at_same : StandIn d0.place.at n1 (seen_of d2.seat) ys b.done = subst (λ p. StandIn p.at n1 (seen_of d2.seat) ys b.done) a.place b.each in
      let back = stand_longer d0.place.at n1 n0 (seen_of d2.seat) (seen_of d2.seat) ys b.done (prefix_length _ _ a.seen) (prefix_self _) at_same in
      record {
        done = a.done ++ b.done;
        place = b.place ∙ a.place;
        seen = prefix_trans _ _ _ a.seen b.seen;
        mine = b.mine ∙ (ap (λ (z : List (Done A R)). z ++ b.done) a.mine ∙ append_assoc (mine_of d0.seat) a.done b.done);
        each = stand_both d0.place.at n0 (seen_of d2.seat) xs ys a.done b.done front back;
      }
