-- Each step on the turn keeps the rule of a gate.
use Rattle.std.proofs.Common.{◌≡◌, ◌≢◌, ℕ, ◌+◌, ◌*◌, ◌%◌, ◌<◌, eqb, true, List, [], ◌∷◌, length, get_or, set, sym, refl, ap, ◌∙◌, subst, arith, length-set, get_or-set_same, get_or-set_other, eq-eqb, ne_eqb}
use mathlib.Core.Logic.{dite}
use mathlib.Core.Option as m
use native.Mathlib.Decide.{ℕ_discrete}
use lib.ListN.{get_elem?}
use prog.Atomic.{either}
use Rattle.atomic_table.specs.Table.{State, Me, step, keeps, takes as takes_slot, gives, stepped, Allows}
use Rattle.atomic_table.proofs.Lists.{set_else, set_here}
use Rattle.group_gate.specs.declared.view.Core.{Core}
use Rattle.group_gate.specs.declared.view.Held.{Held}
use Rattle.group_gate.specs.declared.view.Held.TheVariants.{Machine}
use Rattle.group_gate.specs.declared.view.Sits.{Sits}
use Rattle.group_gate.specs.declared.view.Sits.TheVariants.{Stands, At, Waits}
use Rattle.group_gate.specs.declared.view.Turn.{Turn}
use Rattle.group_gate.specs.declared.view.Turn.TheVariants.{Idle, Leads, Owes, Shut}
use Rattle.group_gate.specs.declared.view.View.{View}
use Rattle.group_gate.specs.Kept.{Facts, IsReady, AtHome, DeskIs, InPlace, InTurn, Seated, Kept, holding, seeing, took, gave_up, closed, looked}
use Rattle.group_gate.specs.Turns.{IsHolder}
use Rattle.step_gate.proofs.Beginnings.{prefix_self}
use Rattle.group_gate.proofs.Keeps.{views_stay, unmoved, sees_all}

module _ {S A R : Type 0} where
  -- what a seat that has the turn knows
  pub holder_knows : (f : Facts S A R) (word : ℕ) (homes : List (m.Option (Held S A R))) (by at : ℕ) (x : S) (t : Turn S A R) → IsHolder at x t → InTurn f word homes by t → (word ≡ at) × (f.holder ≡ by) × (x ≡ f.value)
  holder_knows f word homes by at x Idle h k = absurd h
  holder_knows f word homes by at x (Leads b y cs) h k = (k.0 ∙ h.0, k.1, sym h.1 ∙ k.2)
  holder_knows f word homes by at x (Owes b y ds) h k = (k.0 ∙ h.0, k.1, sym h.1 ∙ k.2)
  holder_knows f word homes by at x Shut h k = absurd h

  -- a seat that does not have the turn is idle
  pub not_in_turn : (f : Facts S A R) (word : ℕ) (homes : List (m.Option (Held S A R))) (by : ℕ) (t : Turn S A R) → InTurn f word homes by t → by ≢ f.holder → t ≡ Idle
  not_in_turn f word homes by Idle h n = refl
  not_in_turn f word homes by (Leads at x cs) h n = absurd (n (sym h.1))
  not_in_turn f word homes by (Owes at x ds) h n = absurd (n (sym h.1))
  not_in_turn f word homes by Shut h n = absurd (n (sym h.0))

  -- the facts when another seat takes the turn, or when it is given back
  abbrev pub facts_held : ℕ → ℕ → Facts S A R → Facts S A R
  facts_held by busy f = record { log = f.log; value = f.value; holder = by; busy = busy; owner = f.owner; stage = f.stage }

  place_held : (by busy : ℕ) (f : Facts S A R) (slots j : ℕ) (p : Sits A R) → InPlace f slots j p → InPlace (facts_held by busy f) slots j p
  place_held by busy f slots j Stands h = tt
  place_held by busy f slots j (At i mine) h = h
  place_held by busy f slots j (Waits i mine a since) h = h

module _ {S A R : Type 0} (takes : A → Type 0) (moves : S → List A → List R → S → Type 0) (opening : S) where
  abbrev V : Type 0
  V = View S A R

  abbrev H : Type 0
  H = Held S A R

  abbrev St : Type 0
  St = State H V

  abbrev Rule : St → Type 0
  Rule = Kept takes moves opening

  -- the table after a step on the turn that leaves the history as it was
  pub held_moved : (s : St) (r : Rule s) (word id busy : ℕ) (x : m.Option H) (w : V) → word ≡ 2 * length r.facts.log + busy → busy < 2 → (busy ≡ 0 → AtHome r.facts.value (set s.homes 0 x))
      → (w.live ≡ true → Seated opening (facts_held id busy r.facts) word (set s.homes 0 x) id w)
      → ((j : ℕ) (d : V) → j ≢ id → get_elem? s.views j ≡ m.some d → d.live ≡ true → d.turn ≡ Idle)
      → Rule record { words = set s.words 0 word; homes = set s.homes 0 x; views = set s.views id w }
  held_moved s r word id busy x w is one home mine others =
      let f = r.facts in let g : Facts S A R = facts_held id busy f in let hs : List (m.Option H) = set s.homes 0 x in
      let len : length hs ≡ length s.homes = length-set s.homes 0 x in let wide = r.width in let some_slot = r.some_slot in
      let now : get_or (set s.words 0 word) 0 0 ≡ word = get_or-set_same s.words 0 word 0 (omega arith) in record {
        facts = g;
        leads = r.leads;
        short = r.short;
        width = length-set s.words 0 word ∙ (wide ∙ sym len);
        some_slot = omega arith;
        word = now ∙ is;
        one = one;
        at_home = home;
        desks = λ i a b.
            let ne : i ≢ 0 = λ e. omega arith in
            let old : DeskIs takes (f.stage i) (get_or s.words i 0) (get_elem? s.homes i) = r.desks i a (omega arith) in
            let two : DeskIs takes (f.stage i) (get_or (set s.words 0 word) i 0) (get_elem? s.homes i) = subst (λ (z : ℕ). DeskIs takes (f.stage i) z (get_elem? s.homes i)) (sym (get_or-set_other s.words 0 i word 0 ne)) old in
            subst (DeskIs takes (f.stage i) (get_or (set s.words 0 word) i 0)) (sym (set_else s.homes 0 i x ne)) two;
        seats = subst (λ (z : ℕ). (j : ℕ) (d : V) → get_elem? (set s.views id w) j ≡ m.some d → d.live ≡ true → Seated opening g z hs j d) (sym now)
            (views_stay takes moves opening (λ j d. d.live ≡ true → Seated opening g word hs j d) s.views id w mine
            (λ j d other e alive. let old = r.seats j d e alive in let idle = others j d other e alive in record {
              from = old.from;
              seen = old.seen;
              also = old.also;
              in_place = subst (λ (k : ℕ). InPlace g k j d.sits) (sym len) (place_held id busy f (length s.homes) j d.sits old.in_place);
              in_turn = subst (InTurn g word hs j) (sym idle) tt;
              idle = λ _. idle;
            }));
      }

  -- a seat takes the turn, if the word is `old`
  pub takes_turn : (slots id : ℕ) (me : Me H V) (old new : ℕ) → me.0.live ≡ true → me.1 ≡ [] → old % 2 ≡ 0 → new ≡ old + 1
      → Allows Rule slots id me 0 (λ n. either (eqb n old) new n) (took takes moves (step slots 0 old new m.none) me)
  takes_turn slots id me old new live none even up s r wide here small =
      let x : ℕ = get_or s.words 0 0 in let f = r.facts in let mine = r.seats id me.0 here live in let is = r.word in let one = r.one in dite (ℕ_discrete x old)
      (λ hit.
      let idle : f.busy ≡ 0 = omega arith in let home = r.at_home idle in let c : Core S A R = home.0 in let w : V = holding (Leads new c.machine []) me.0 in
      let len : length (set s.homes 0 m.none) ≡ length s.homes = length-set s.homes 0 m.none in (
        w,
        takes_slot 0 (Machine c),
        home.1,
        subst (λ b. Rule (stepped s 0 (either b new x) id me.1 w (takes_slot 0 (Machine c)))) (sym (eq-eqb x old hit))
            (held_moved s r new id 1 m.none w (omega arith) (omega arith) (λ z. absurd (omega arith))
            (λ _. record {
              from = mine.from;
              seen = mine.seen;
              also = mine.also;
              in_place = subst (λ (k : ℕ). InPlace (facts_held id 1 f) k id me.0.sits) (sym len) (place_held id 1 f (length s.homes) id me.0.sits mine.in_place);
              in_turn = (refl, refl, home.3, tt);
              idle = λ z. absurd (omega arith);
            })
            (λ j d _ e alive. (r.seats j d e alive).idle idle)),
        ((λ _. (c, refl, ap (λ (z : List (ℕ × H)). (0, Machine c) ∷ z) none, subst (λ (k : ℕ). IsReady k c) wide home.2)), λ miss. absurd (miss hit)),
      ))
      (λ miss. (
        me.0,
        keeps,
        tt,
        subst (λ b. Rule (stepped s 0 (either b new x) id me.1 me.0 keeps)) (sym (ne_eqb x old miss)) (unmoved takes moves opening s r 0 id me.1 me.0 (λ _. mine)),
        ((λ hit. absurd (miss hit)), λ _. (refl, none)),
      ))

  -- a seat that has the turn gives it up
  pub gives_up : (slots id : ℕ) (v : V) (c : Core S A R) (at new : ℕ) → v.live ≡ true → IsHolder at c.machine v.turn → IsReady slots c → at % 2 ≡ 1 → new + 1 ≡ at
      → Allows Rule slots id (v, (0, Machine c) ∷ []) 0 (λ _. new) (λ _. gave_up takes moves (step slots 0 new 0 m.none) (v, (0, Machine c) ∷ []) new)
  gives_up slots id v c at new live has ready odd down s r wide here small =
      let f = r.facts in let mine = r.seats id v here live in let knows = holder_knows f (get_or s.words 0 0) s.homes id at c.machine v.turn has mine.in_turn in
      let is = r.word in let one = r.one in let at_is : get_or s.words 0 0 ≡ at = knows.0 in let some_slot = r.some_slot in
      let x : m.Option H = m.some (Machine c) in let w : V = holding Idle v in let len : length (set s.homes 0 x) ≡ length s.homes = length-set s.homes 0 x in (
        w,
        gives,
        tt,
        held_moved s r new id 0 x w (omega arith) (omega arith) (λ _. (c, set_here s.homes 0 x some_slot, subst (λ (k : ℕ). IsReady k c) (sym (len ∙ wide)) ready, knows.2))
            (λ _. record {
              from = mine.from;
              seen = mine.seen;
              also = mine.also;
              in_place = subst (λ (k : ℕ). InPlace (facts_held id 0 f) k id v.sits) (sym len) (place_held id 0 f (length s.homes) id v.sits mine.in_place);
              in_turn = tt;
              idle = λ _. refl;
            })
            (λ j d other e alive. not_in_turn f (get_or s.words 0 0) s.homes j d.turn (r.seats j d e alive).in_turn (λ h. other (h ∙ knows.1))),
        (refl, refl),
      )

  -- a seat that has the turn keeps it for good, and the machine goes back into its slot
  pub closes : (slots id : ℕ) (v : V) (c : Core S A R) (at : ℕ) → v.live ≡ true → IsHolder at c.machine v.turn → IsReady slots c → at % 2 ≡ 1
      → Allows Rule slots id (v, (0, Machine c) ∷ []) 0 (λ _. at) (λ _. closed takes moves (step slots 0 at 0 m.none) (v, (0, Machine c) ∷ []) at)
  closes slots id v c at live has ready odd s r wide here small =
      let f = r.facts in let mine = r.seats id v here live in let knows = holder_knows f (get_or s.words 0 0) s.homes id at c.machine v.turn has mine.in_turn in
      let is = r.word in let one = r.one in let at_is : get_or s.words 0 0 ≡ at = knows.0 in let some_slot = r.some_slot in
      let x : m.Option H = m.some (Machine c) in let w : V = holding Shut v in let len : length (set s.homes 0 x) ≡ length s.homes = length-set s.homes 0 x in
      let home : AtHome f.value (set s.homes 0 x) = (c, set_here s.homes 0 x some_slot, subst (λ (k : ℕ). IsReady k c) (sym (len ∙ wide)) ready, knows.2) in (
        w,
        gives,
        tt,
        held_moved s r at id 1 x w (omega arith) (omega arith) (λ z. absurd (omega arith))
            (λ _. record {
              from = mine.from;
              seen = mine.seen;
              also = mine.also;
              in_place = subst (λ (k : ℕ). InPlace (facts_held id 1 f) k id v.sits) (sym len) (place_held id 1 f (length s.homes) id v.sits mine.in_place);
              in_turn = (refl, home);
              idle = λ z. absurd (omega arith);
            })
            (λ j d other e alive. not_in_turn f (get_or s.words 0 0) s.homes j d.turn (r.seats j d e alive).in_turn (λ h. other (h ∙ knows.1))),
        (refl, refl),
      )

  -- a seat looks at the whole history
  pub looks : (slots id : ℕ) (me : Me H V) → me.0.live ≡ true → Allows Rule slots id me 0 (λ n. n) (looked takes moves (step slots 0 0 0 m.none) me)
  looks slots id me live s r wide here small =
      let v : V = me.0 in let f = r.facts in let mine = r.seats id v here live in let w : V = seeing f.log v.sits v in (
        w,
        keeps,
        tt,
        unmoved takes moves opening s r 0 id me.1 w (λ _. record { from = mine.from; seen = prefix_self f.log; also = mine.also; in_place = mine.in_place; in_turn = mine.in_turn; idle = mine.idle }),
        (f.log, f.busy, refl, refl, sees_all takes moves opening s r id v mine, r.word, r.one, λ i made p. (let there : InPlace f (length s.homes) id (At i made) = subst (InPlace f (length s.homes) id) p mine.in_place in there.4)),
      )
