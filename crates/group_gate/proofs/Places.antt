-- Each step of a seat at its own place keeps the rule of a gate.
use Rattle.std.proofs.Common.{◌≡◌, ℕ, ◌≤◌, eqb, true, List, [], ◌∷◌, ◌++◌, length, get_or, set, sym, refl, ap, ◌∙◌, subst, arith, length-set, eq-eqb, ne_eqb}
use mathlib.Core.Logic.{dite}
use mathlib.Core.Option as m
use native.Mathlib.Decide.{ℕ_discrete}
use lib.ListN.{get_elem?}
use prog.Atomic.{either}
use Rattle.atomic_table.specs.Table.{State, Me, step, keeps, takes as takes_slot, gives, stepped, Allows}
use Rattle.atomic_table.proofs.Lists.{set_else, set_here}
use Rattle.group_gate.specs.declared.view.Done.{Done}
use Rattle.group_gate.specs.declared.view.Held.{Held}
use Rattle.group_gate.specs.declared.view.Held.TheVariants.{Machine, Nothing, Ask, Answer}
use Rattle.group_gate.specs.declared.view.Sits.TheVariants.{Stands, At, Waits}
use Rattle.group_gate.specs.declared.view.Turn.TheVariants.{Idle}
use Rattle.group_gate.specs.declared.view.View.{View}
use Rattle.group_gate.specs.History.{made_at}
use Rattle.group_gate.specs.Kept.{free, owned, asking, answered, Waiting, InPlace, InTurn, Kept, seeing, placed, rose, posted, withdrawn, fetched}
use Rattle.step_gate.proofs.Beginnings.{prefix_self, prefix_length}
use Rattle.group_gate.proofs.Keeps.{changed_here, facts_at, owner_leaves, desk_moved, unmoved, sees_all, is_asked, is_answered}

module _ {S A R : Type 0} (takes : A → Type 0) (moves : S → List A → List R → S → Type 0) (opening : S) where
  abbrev V : Type 0
  V = View S A R

  abbrev H : Type 0
  H = Held S A R

  abbrev Rule : State H V → Type 0
  Rule = Kept takes moves opening

  abbrev ask_held : A → H → A
  ask_held z (Ask a) = a
  ask_held z (Answer r) = z
  ask_held z Nothing = z
  ask_held z (Machine c) = z

  -- the ask in the first slot
  abbrev first_ask : A → List (ℕ × H) → A
  first_ask z [] = z
  first_ask z (x ∷ xs) = ask_held z x.1

  -- a seat gives its place back
  pub rises : (slots id i : ℕ) (v : V) (mine : List (Done A R)) → v.live ≡ true → v.turn ≡ Idle → v.sits ≡ At i mine
      → Allows Rule slots id (v, (i, Nothing) ∷ []) i (λ _. 0) (λ _. rose takes moves (step slots i 0 0 m.none) (v, (i, Nothing) ∷ []) 0)
  rises slots id i v mine live idle sits s r wide here small =
      let f = r.facts in let known = r.seats id v here live in let there = subst (InPlace f (length s.homes) id) sits known.in_place in
      let hs : List (m.Option H) = set s.homes i (m.some Nothing) in let w : V = placed Stands v in (
        w,
        gives,
        tt,
        desk_moved takes moves opening s r i 0 id id free hs w there.0 there.1 (length-set s.homes i (m.some Nothing)) (λ j ne. set_else s.homes i j (m.some Nothing) ne) (refl, set_here s.homes i (m.some Nothing) there.1)
            (owner_leaves id i id free f there.2 (λ a e. absurd (cc (e, there.3))) (λ d e. absurd (cc (e, there.3))))
            (λ _. record {
              from = known.from;
              seen = known.seen;
              also = known.also;
              in_place = tt;
              in_turn = subst (InTurn (facts_at i id free f) (get_or s.words 0 0) hs id) (sym idle) tt;
              idle = λ _. idle;
            }),
        (refl, refl),
      )

  -- a seat asks at its place
  pub posts : (slots id i : ℕ) (v : V) (mine : List (Done A R)) (a : A) → v.live ≡ true → v.turn ≡ Idle → v.sits ≡ At i mine → takes a
      → Allows Rule slots id (v, (i, Ask a) ∷ []) i (λ _. 2) (λ _. posted takes moves (step slots i 2 0 m.none) (v, (i, Ask a) ∷ []) 2)
  posts slots id i v mine a live idle sits may s r wide here small =
      let f = r.facts in let known = r.seats id v here live in let there = subst (InPlace f (length s.homes) id) sits known.in_place in
      let x : m.Option H = m.some (Ask a) in let hs : List (m.Option H) = set s.homes i x in let since : ℕ = length v.seen in let w : V = placed (Waits i mine a since) v in
      let len : length hs ≡ length s.homes = length-set s.homes i x in (
        w,
        gives,
        tt,
        desk_moved takes moves opening s r i 2 id id (asking a) hs w there.0 there.1 len (λ j ne. set_else s.homes i j x ne) (refl, set_here s.homes i x there.1, may)
            (owner_leaves id i id (asking a) f there.2 (λ a e. absurd (cc (e, there.3))) (λ d e. absurd (cc (e, there.3))))
            (λ _. record {
              from = known.from;
              seen = known.seen;
              also = known.also;
              in_place = (
                there.0,
                omega (arith, len, there.1),
                changed_here i id f.owner i refl,
                subst (Waiting a mine since (made_at i f.log)) (sym (changed_here i (asking a) f.stage i refl)) (refl, there.4),
                prefix_length v.seen f.log known.seen,
              );
              in_turn = subst (InTurn (facts_at i id (asking a) f) (get_or s.words 0 0) hs id) (sym idle) tt;
              idle = λ _. idle;
            }),
        (refl, λ before b p q. (let same : At i mine ≡ At i before = sym sits ∙ p in let one : mine ≡ before = cc same in let two : a ≡ b = ap (first_ask a) q in cc (one, two))),
      )

  -- a seat takes its ask back, if nobody has collected it
  pub withdraws : (slots id i : ℕ) (me : Me H V) (mine : List (Done A R)) (a : A) (since : ℕ) → me.0.live ≡ true → me.0.turn ≡ Idle → me.0.sits ≡ Waits i mine a since
      → Allows Rule slots id me i (λ n. either (eqb n 2) 1 n) (withdrawn takes moves (step slots i 2 1 m.none) me)
  withdraws slots id i me mine a since live idle sits s r wide here small =
      let v : V = me.0 in let f = r.facts in let known = r.seats id v here live in let there = subst (InPlace f (length s.homes) id) sits known.in_place in let x : ℕ = get_or s.words i 0 in dite (ℕ_discrete x 2)
      (λ hit.
      let desk = is_asked takes moves opening (f.stage i) x (get_elem? s.homes i) (r.desks i there.0 there.1) hit in
      let due : Waiting a mine since (made_at i f.log) (asking desk.0) = subst (Waiting a mine since (made_at i f.log)) desk.1 there.3 in
      let hs : List (m.Option H) = set s.homes i m.none in let w : V = placed (At i mine) v in
      let len : length hs ≡ length s.homes = length-set s.homes i m.none in (
        w,
        takes_slot i (Ask desk.0),
        desk.2,
        subst (λ b. Rule (stepped s i (either b 1 x) id me.1 w (takes_slot i (Ask desk.0)))) (sym (eq-eqb x 2 hit))
            (desk_moved takes moves opening s r i 1 id id owned hs w there.0 there.1 len (λ j ne. set_else s.homes i j m.none ne) refl
            (owner_leaves id i id owned f there.2 (λ b e. absurd (cc (e, desk.1))) (λ d e. absurd (cc (e, desk.1))))
            (λ _. record {
              from = known.from;
              seen = known.seen;
              also = known.also;
              in_place = (there.0, omega (arith, len, there.1), changed_here i id f.owner i refl, changed_here i owned f.stage i refl, due.1);
              in_turn = subst (InTurn (facts_at i id owned f) (get_or s.words 0 0) hs id) (sym idle) tt;
              idle = λ _. idle;
            })),
        (
          (λ _. (desk.0, refl, λ before b t p. let same : Waits i mine a since ≡ Waits i before b t = sym sits ∙ p in let one : mine ≡ before = cc same in let two : a ≡ b = cc same in (due.0 ∙ two, ap (λ (z : List (Done A R)). placed (At i z) v) one))),
          λ miss. absurd (miss hit),
        ),
      ))
      (λ miss. (
        v,
        keeps,
        tt,
        subst (λ b. Rule (stepped s i (either b 1 x) id me.1 v keeps)) (sym (ne_eqb x 2 miss)) (unmoved takes moves opening s r i id me.1 v (λ _. known)),
        ((λ hit. absurd (miss hit)), λ _. (refl, refl)),
      ))

  -- a seat takes its answer, if it is there
  pub fetches : (slots id i : ℕ) (me : Me H V) (mine : List (Done A R)) (a : A) (since : ℕ) → me.0.live ≡ true → me.0.turn ≡ Idle → me.0.sits ≡ Waits i mine a since
      → Allows Rule slots id me i (λ n. either (eqb n 4) 1 n) (fetched takes moves (step slots i 4 1 m.none) me)
  fetches slots id i me mine a since live idle sits s r wide here small =
      let v : V = me.0 in let f = r.facts in let known = r.seats id v here live in let there = subst (InPlace f (length s.homes) id) sits known.in_place in let x : ℕ = get_or s.words i 0 in dite (ℕ_discrete x 4)
      (λ hit.
      let desk = is_answered takes moves opening (f.stage i) x (get_elem? s.homes i) (r.desks i there.0 there.1) hit in let d : Done A R = desk.0 in
      let due : Waiting a mine since (made_at i f.log) (answered d) = subst (Waiting a mine since (made_at i f.log)) desk.1 there.3 in
      let hs : List (m.Option H) = set s.homes i m.none in let w : V = seeing f.log (At i (mine ++ d ∷ [])) v in
      let len : length hs ≡ length s.homes = length-set s.homes i m.none in (
        w,
        takes_slot i (Answer d.answer),
        desk.2,
        subst (λ b. Rule (stepped s i (either b 1 x) id me.1 w (takes_slot i (Answer d.answer)))) (sym (eq-eqb x 4 hit))
            (desk_moved takes moves opening s r i 1 id id owned hs w there.0 there.1 len (λ j ne. set_else s.homes i j m.none ne) refl
            (owner_leaves id i id owned f there.2 (λ b e. absurd (cc (e, desk.1))) (λ d e. absurd (cc (e, desk.1))))
            (λ _. record {
              from = known.from;
              seen = prefix_self f.log;
              also = known.also;
              in_place = (there.0, omega (arith, len, there.1), changed_here i id f.owner i refl, changed_here i owned f.stage i refl, due.0);
              in_turn = subst (InTurn (facts_at i id owned f) (get_or s.words 0 0) hs id) (sym idle) tt;
              idle = λ _. idle;
            })),
        (
          (λ _. (
            f.log,
            d,
            refl,
            sees_all takes moves opening s r id v known,
            λ before b t p. let same : Waits i mine a since ≡ Waits i before b t = sym sits ∙ p in
                let one : mine ≡ before = cc same in let two : a ≡ b = cc same in let three : since ≡ t = cc same in (
                  ap (λ (z : List (Done A R)). seeing f.log (At i (z ++ d ∷ [])) v) one,
                  (due.0 ∙ ap (λ (z : List (Done A R)). z ++ d ∷ []) one, due.1 ∙ two, subst (λ (k : ℕ). k ≤ d.entry) three due.2),
                ),
          )),
          λ miss. absurd (miss hit),
        ),
      ))
      (λ miss. (
        v,
        keeps,
        tt,
        subst (λ b. Rule (stepped s i (either b 1 x) id me.1 v keeps)) (sym (ne_eqb x 4 miss)) (unmoved takes moves opening s r i id me.1 v (λ _. known)),
        ((λ hit. absurd (miss hit)), λ _. (refl, refl)),
      ))
