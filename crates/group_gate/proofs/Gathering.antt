-- A seat that has the turn, from step to step.
use Rattle.std.proofs.Common.{◌≡◌, ℕ, zero, suc, ◌+◌, ◌<◌, true, List, [], ◌∷◌, ◌++◌, length, All, refl, ap, sym, ◌∙◌, subst, arith, length-append}
use Rattle.std.proofs.lemmas.List.Elements.{All-append}
use Rattle.atomic_table.specs.Table.{Me}
use Rattle.group_gate.specs.declared.gate.GroupGate.{GroupGate}
use Rattle.group_gate.specs.declared.view.Asked.{Asked}
use Rattle.group_gate.specs.declared.view.Core.{Core}
use Rattle.group_gate.specs.declared.view.Held.{Held}
use Rattle.group_gate.specs.declared.view.Held.TheVariants.{Nothing}
use Rattle.group_gate.specs.declared.view.Turn.TheVariants.{Leads, Owes}
use Rattle.group_gate.specs.declared.view.View.{View}
use Rattle.group_gate.specs.History.{asked, asks_in}
use Rattle.group_gate.specs.Kept.{IsReady, holding, released, dones}
use Rattle.group_gate.specs.Turns.{stacked, bottom, places_of, places_owed, answers_in, HasRoom, Inside, Gathers, Settles}
use Rattle.group_gate.specs.Gates.{SeatOf, gate_id}

pub all_none : {X : Type 0} (P : X → Type 0) → All P []
all_none P k d l = absurd (omega arith)

pub all_one : {X : Type 0} (P : X → Type 0) (x : X) → P x → All P (x ∷ [])
all_one P x p zero d l = p
all_one P x p (suc k) d l = absurd (omega arith)

module _ {A : Type 0} where
  asks_more : (cs : List (Asked A)) (c : Asked A) → asks_in (cs ++ c ∷ []) ≡ asks_in cs ++ c.ask ∷ []
  asks_more [] c = refl
  asks_more (x ∷ xs) c = ap (λ (z : List A). x.ask ∷ z) (asks_more xs c)

  places_more : (cs : List (Asked A)) (c : Asked A) → places_of (cs ++ c ∷ []) ≡ places_of cs ++ c.place ∷ []
  places_more [] c = refl
  places_more (x ∷ xs) c = ap (λ (z : List ℕ). x.place ∷ z) (places_more xs c)

  length_asks : (cs : List (Asked A)) → length (asks_in cs) ≡ length cs
  length_asks [] = refl
  length_asks (x ∷ xs) = ap suc (length_asks xs)

module _ {A R : Type 0} where
  places_dones : (n k : ℕ) (cs : List (Asked A)) (rs : List R) → length rs ≡ length cs → places_owed (dones n k cs rs) ≡ places_of cs
  places_dones n k [] rs e = refl
  places_dones n k (c ∷ cs) [] e = absurd (omega arith)
  places_dones n k (c ∷ cs) (r ∷ rs) e = ap (λ (z : List ℕ). c.place ∷ z) (places_dones n (k + 1) cs rs (omega arith))

  answers_dones : (n k : ℕ) (cs : List (Asked A)) (rs : List R) → length rs ≡ length cs → answers_in (dones n k cs rs) ≡ rs
  answers_dones n k [] [] e = refl
  answers_dones n k [] (r ∷ rs) e = absurd (omega arith)
  answers_dones n k (c ∷ cs) [] e = absurd (omega arith)
  answers_dones n k (c ∷ cs) (r ∷ rs) e = ap (λ (z : List R). r ∷ z) (answers_dones n (k + 1) cs rs (omega arith))

module _ {S A R : Type 0} where
  pub stacked_more : (ps : List ℕ) (p : ℕ) (below : List (ℕ × Held S A R)) → stacked (ps ++ p ∷ []) below ≡ (p, Nothing) ∷ stacked ps below
  stacked_more [] p below = refl
  stacked_more (x ∷ xs) p below = stacked_more xs p ((x, Nothing) ∷ below)

module _ {S A R : Type 0} (takes : A → Type 0) (gate : GroupGate S A R) (at : ℕ) where
  abbrev M : Type 0
  M = Me (Held S A R) (View S A R)

  -- a seat that has just taken the turn has collected nothing
  gathers_none : (old new : SeatOf S A R) (c : Core S A R) → new.table_id ≡ gate_id gate → old.me.0.live ≡ true → new.me ≡ (holding (Leads at c.machine []) old.me.0, bottom) → IsReady (gate.places + 1) c → Gathers takes gate at new c
  gathers_none old new c table live me ready = record {
    asked = [];
    table = table;
    live = ap (λ (z : M). z.0.live) me ∙ live;
    turn = ap (λ (z : M). z.0.turn) me;
    slots = ap (λ (z : M). z.1) me;
    asks = ready.0;
    taken = subst (All takes) (sym ready.0) (all_none takes);
    answers = ready.1;
    places = ready.2;
    inside = subst (All (Inside gate)) (sym ready.2) (all_none (Inside gate));
    room = (omega (arith, ready.3), omega (arith, ready.4), omega (arith, ready.5));
    few = omega (arith, ap length ready.0);
  }

  pub gathers_first : (old new : SeatOf S A R) (c d : Core S A R) → new.table_id ≡ gate_id gate → old.me.0.live ≡ true → new.me ≡ (holding (Leads at c.machine []) old.me.0, bottom) → IsReady (gate.places + 1) c → c ≡ d
      → Gathers takes gate at new d × (released new.me.0 ≡ released old.me.0) × IsReady (gate.places + 1) d
  gathers_first old new c d table live me ready same =
      subst (λ (z : Core S A R). Gathers takes gate at new z × (released new.me.0 ≡ released old.me.0) × IsReady (gate.places + 1) z) same (gathers_none old new c table live me ready, ap (λ (z : M). released z.0) me, ready)

  -- one ask more was collected
  pub gathers_more : (old new : SeatOf S A R) (core next : Core S A R) (place : ℕ) (a : A) (held : Gathers takes gate at old core) → takes a → Inside gate place → new.table_id ≡ gate_id gate
      → new.me ≡ (holding (Leads at core.machine (held.asked ++ asked place a ∷ [])) old.me.0, (place, Nothing) ∷ old.me.1)
      → next.machine ≡ core.machine → next.asks.items ≡ core.asks.items ++ a ∷ [] → next.places.items ≡ core.places.items ++ place ∷ [] → next.answers.items ≡ core.answers.items → HasRoom gate.places next
      → length core.asks.items < gate.places → Gathers takes gate at new next
  gathers_more old new core next place a held may inside table me machine asks places answers room few = record {
    asked = held.asked ++ asked place a ∷ [];
    table = table;
    live = ap (λ (z : M). z.0.live) me ∙ held.live;
    turn = ap (λ (z : M). z.0.turn) me ∙ ap (λ (x : S). Leads at x (held.asked ++ asked place a ∷ [])) (sym machine);
    slots = ap (λ (z : M). z.1) me ∙ (ap (λ (z : List (ℕ × Held S A R)). (place, Nothing) ∷ z) held.slots
        ∙ (sym (stacked_more (places_of held.asked) place bottom) ∙ ap (λ (z : List ℕ). stacked z bottom) (sym (places_more held.asked (asked place a)))));
    asks = asks ∙ (ap (λ (z : List A). z ++ a ∷ []) held.asks ∙ sym (asks_more held.asked (asked place a)));
    taken = subst (All takes) (sym asks) (All-append takes core.asks.items (a ∷ []) held.taken (all_one takes a may));
    answers = answers ∙ held.answers;
    places = places ∙ (ap (λ (z : List ℕ). z ++ place ∷ []) held.places ∙ sym (places_more held.asked (asked place a)));
    inside = subst (All (Inside gate)) (sym places) (All-append (Inside gate) core.places.items (place ∷ []) held.inside (all_one (Inside gate) place inside));
    room = room;
    few = omega (arith, few, ap length asks, length-append core.asks.items (a ∷ []));
  }

  -- the step was made and recorded
  pub settles_step : (old new : SeatOf S A R) (core next : Core S A R) (n : ℕ) (held : Gathers takes gate at old core) → new.table_id ≡ gate_id gate → new.me.1 ≡ old.me.1
      → new.me.0 ≡ holding (Owes (at + 2) next.machine (dones n 0 held.asked next.answers.items)) old.me.0 → next.asks.items ≡ [] → next.places.items ≡ core.places.items → length next.answers.items ≡ length core.asks.items → HasRoom gate.places next
      → Settles gate (at + 2) new next × (released new.me.0 ≡ released old.me.0)
  settles_step old new core next n held table slots view asks places many room =
      let count : length next.answers.items ≡ length held.asked = many ∙ (ap length held.asks ∙ length_asks held.asked) in
      let where_ : places_owed (dones n 0 held.asked next.answers.items) ≡ places_of held.asked = places_dones n 0 held.asked next.answers.items count in (
        record {
          owed = dones n 0 held.asked next.answers.items;
          table = table;
          live = ap (λ (v : View S A R). v.live) view ∙ held.live;
          turn = ap (λ (v : View S A R). v.turn) view;
          slots = slots ∙ (held.slots ∙ ap (λ (z : List ℕ). stacked z bottom) (sym where_));
          asks = asks;
          answers = sym (answers_dones n 0 held.asked next.answers.items count);
          places = places ∙ (held.places ∙ sym where_);
          inside = subst (All (Inside gate)) (sym places) held.inside;
          room = room;
        },
        ap (λ (v : View S A R). released v) view,
      )
