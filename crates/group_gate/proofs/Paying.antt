-- A seat that puts answers, and the machine that it puts back.
use Rattle.std.proofs.Common.{◌≡◌, ℕ, ◌+◌, ◌<◌, List, [], ◌∷◌, ◌++◌, length, All, Some, refl, ap, sym, ◌∙◌, subst, arith, length-append}
use Rattle.std.proofs.lemmas.List.{same_from_push}
use Rattle.std.proofs.lemmas.List.Elements.{All-pop}
use Rattle.atomic_table.specs.Table.{rest}
use Rattle.group_gate.specs.declared.gate.GroupGate.{GroupGate}
use Rattle.group_gate.specs.declared.view.Asked.{Asked}
use Rattle.group_gate.specs.declared.view.Core.{Core}
use Rattle.group_gate.specs.declared.view.Done.{Done}
use Rattle.group_gate.specs.declared.view.Held.{Held}
use Rattle.group_gate.specs.declared.view.Held.TheVariants.{Nothing}
use Rattle.group_gate.specs.declared.view.Turn.TheVariants.{Owes}
use Rattle.group_gate.specs.declared.view.View.{View}
use Rattle.group_gate.specs.History.{asks_in}
use Rattle.group_gate.specs.Kept.{IsReady, holding, released}
use Rattle.group_gate.specs.Turns.{stacked, bottom, places_of, places_owed, answers_in, HasRoom, Inside, OwesLast, Gathers, Settles}
use Rattle.group_gate.specs.Gates.{SeatOf}
use Rattle.group_gate.proofs.Gathering.{stacked_more}

module _ {A : Type 0} where
  no_asks : (cs : List (Asked A)) → places_of cs ≡ [] → asks_in cs ≡ []
  no_asks [] e = refl
  no_asks (c ∷ cs) e = absurd (cc e)

module _ {A R : Type 0} where
  no_answers : (ds : List (Done A R)) → places_owed ds ≡ [] → answers_in ds ≡ []
  no_answers [] e = refl
  no_answers (d ∷ ds) e = absurd (cc e)

  answers_more : (ds : List (Done A R)) (d : Done A R) → answers_in (ds ++ d ∷ []) ≡ answers_in ds ++ d.answer ∷ []
  answers_more [] d = refl
  answers_more (x ∷ xs) d = ap (λ (z : List R). x.answer ∷ z) (answers_more xs d)

  pub as_many : (ds : List (Done A R)) → length (answers_in ds) ≡ length (places_owed ds)
  as_many [] = refl
  as_many (d ∷ ds) = omega (arith, as_many ds)

  -- what is owed at these places, and at last at this one
  pub record Parted (owed : List (Done A R)) (places : List ℕ) (place : ℕ) : Type 0 where
    pub front : List (Done A R)
    pub last : Done A R
    pub is : owed ≡ front ++ last ∷ []
    pub there : last.place ≡ place
    pub others : places_owed front ≡ places

  parted : (owed : List (Done A R)) (places : List ℕ) (place : ℕ) → places_owed owed ≡ places ++ place ∷ [] → Parted owed places place
  parted [] ps p e = absurd (let n : 0 ≡ length ps + 1 = ap length e ∙ length-append ps (p ∷ []) in omega arith)
  parted (d ∷ []) [] p e = record { front = []; last = d; is = refl; there = cc e; others = refl }
  parted (d ∷ []) (x ∷ xs) p e = absurd (let n : 1 ≡ length (x ∷ xs) + 1 = ap length e ∙ length-append (x ∷ xs) (p ∷ []) in omega arith)
  parted (d ∷ c ∷ cs) [] p e = absurd (let n : length (d.place ∷ c.place ∷ places_owed cs) ≡ 1 = ap length e in omega arith)
  parted (d ∷ c ∷ cs) (x ∷ xs) p e =
      let head : d.place ≡ x = cc e in let tail : places_owed (c ∷ cs) ≡ xs ++ p ∷ [] = cc e in let r = parted (c ∷ cs) xs p tail in record {
        front = d ∷ r.front;
        last = r.last;
        is = ap (λ (z : List (Done A R)). d ∷ z) r.is;
        there = r.there;
        others = cc (head, r.others);
      }

module _ {S A R : Type 0} (gate : GroupGate S A R) (at : ℕ) where
  pub ready_none : (takes : A → Type 0) (seat : SeatOf S A R) (core : Core S A R) → Gathers takes gate at seat core → core.places.items ≡ [] → IsReady (gate.places + 1) core
  ready_none takes seat core h none = (h.asks ∙ no_asks h.asked (sym h.places ∙ none), h.answers, none, omega (arith, h.room.0), omega (arith, h.room.1), omega (arith, h.room.2))

  pub ready_done : (seat : SeatOf S A R) (core : Core S A R) → Settles gate at seat core → core.places.items ≡ [] → IsReady (gate.places + 1) core
  ready_done seat core h none = (h.asks, h.answers ∙ no_answers h.owed (sym h.places ∙ none), none, omega (arith, h.room.0), omega (arith, h.room.1), omega (arith, h.room.2))

  module _ (seat : SeatOf S A R) (core : Core S A R) (held : Settles gate at seat core) (places : List ℕ) (place : ℕ) (last : core.places.items ≡ places ++ place ∷ []) where
    owed_parts : Parted held.owed places place
    owed_parts = parted held.owed places place (sym held.places ∙ last)

    -- as many answers are there as places
    pub answer_there : 0 < length core.answers.items
    answer_there = omega (arith, ap length last, length-append places (place ∷ []), ap length held.places, ap length held.answers, as_many held.owed)

    -- the slot of the last place is on top
    pub slot_last : seat.me.1 ≡ (place, Nothing) ∷ stacked places bottom
    slot_last = held.slots ∙ (ap (λ (z : List ℕ). stacked z bottom) (sym held.places ∙ last) ∙ stacked_more places place bottom)

    module _ (answers : List R) (answer : R) (its : core.answers.items ≡ answers ++ answer ∷ []) where
      split_answers : (answers_in owed_parts.front ≡ answers) × (owed_parts.last.answer ≡ answer)
      split_answers = same_from_push (answers_in owed_parts.front) answers owed_parts.last.answer answer
          (sym (answers_more owed_parts.front owed_parts.last) ∙ (ap (λ (z : List (Done A R)). answers_in z) (sym owed_parts.is) ∙ (sym held.answers ∙ its)))

      owes_front : seat.me.0.turn ≡ Owes at core.machine (owed_parts.front ++ owed_parts.last ∷ [])
      owes_front = held.turn ∙ ap (λ (z : List (Done A R)). Owes at core.machine z) owed_parts.is

      pub owes_last : OwesLast place answer seat.me.0.turn
      owes_last = (at, core.machine, owed_parts.front, owed_parts.last, owes_front, owed_parts.there, split_answers.1)

      -- the last answer was put, and the others still are owed
      pub settles_less : (new : SeatOf S A R) (next : Core S A R) → new.table_id ≡ seat.table_id → new.me.1 ≡ rest seat.me.1
          → ((b : ℕ) (y : S) (ds : List (Done A R)) (d : Done A R) → seat.me.0.turn ≡ Owes b y (ds ++ d ∷ []) → new.me.0 ≡ holding (Owes b y ds) seat.me.0)
          → next.machine ≡ core.machine → next.asks.items ≡ core.asks.items → next.answers.items ≡ answers → next.places.items ≡ places → HasRoom gate.places next
          → Settles gate at new next × (released new.me.0 ≡ released seat.me.0)
      settles_less new next table slots paid machine asks answers_are places_are room =
          let view : new.me.0 ≡ holding (Owes at core.machine owed_parts.front) seat.me.0 = paid at core.machine owed_parts.front owed_parts.last owes_front in (
            record {
              owed = owed_parts.front;
              table = table ∙ held.table;
              live = ap (λ (v : View S A R). v.live) view ∙ held.live;
              turn = ap (λ (v : View S A R). v.turn) view ∙ ap (λ (x : S). Owes at x owed_parts.front) (sym machine);
              slots = slots ∙ (ap (λ (z : List (ℕ × Held S A R)). rest z) slot_last ∙ ap (λ (z : List ℕ). stacked z bottom) (sym owed_parts.others));
              asks = asks ∙ held.asks;
              answers = answers_are ∙ sym split_answers.0;
              places = places_are ∙ sym owed_parts.others;
              inside = subst (All (Inside gate)) (sym places_are) (All-pop (Inside gate) core.places.items places (Some place) last held.inside).0;
              room = room;
            },
            ap (λ (v : View S A R). released v) view,
          )
