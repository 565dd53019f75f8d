-- The first seat of a gate, and the steps that split and join seats, keep its rule.
use Rattle.std.proofs.Common.{◌≡◌, ℕ, zero, suc, ◌+◌, ◌<◌, true, List, [], ◌∷◌, ◌++◌, length, map, replicate, get_or, set, sym, refl, ap, ◌∙◌, subst, inl, inr, ◌⊎◌, ⊎_elim, arith}
use Rattle.std.proofs.lemmas.List.{length-replicate}
use mathlib.Core.Option as m
use mathlib.Core.List.{IsPrefix}
use lib.ListN.{get_elem?}
use Rattle.atomic_table.specs.Table.{State, Splits, Joins, Final, Seen}
use Rattle.atomic_table.proofs.Lists.{set_again, set_else}
use Rattle.group_gate.specs.declared.view.Held.{Held}
use Rattle.group_gate.specs.declared.view.Core.{Core}
use Rattle.group_gate.specs.declared.view.Held.TheVariants.{Machine, Nothing}
use Rattle.group_gate.specs.declared.view.GroupEntry.{GroupEntry}
use Rattle.group_gate.specs.declared.view.Turn.TheVariants.{Shut}
use Rattle.group_gate.specs.declared.view.View.{View}
use Rattle.group_gate.specs.History.{HistoryLeadsTo}
use Rattle.group_gate.specs.Kept.{free, Facts, IsReady, DeskIs, InTurn, Seated, Kept, newcomer, told, both, ended}
use Rattle.step_gate.proofs.Beginnings.{prefix_none}
use Rattle.group_gate.proofs.Keeps.{views_stay}

module _ {X : Type 0} where
  at_end : (l : List X) (a b : X) (j : ℕ) → get_elem? (l ++ a ∷ []) j ≡ m.some b → (get_elem? l j ≡ m.some b) ⊎ (a ≡ b)
  at_end [] a b zero e = inr (m.some-injective a b e)
  at_end [] a b (suc j) e = absurd (m.some-ne-none b (sym e))
  at_end (x ∷ xs) a b zero e = inl e
  at_end (x ∷ xs) a b (suc j) e = at_end xs a b j e

module _ {S A R : Type 0} (takes : A → Type 0) (moves : S → List A → List R → S → Type 0) (opening : S) where
  abbrev V : Type 0
  V = View S A R

  abbrev H : Type 0
  H = Held S A R

  abbrev Rule : State H V → Type 0
  Rule = Kept takes moves opening

  zeros_at : (n i : ℕ) → let none : ℕ = 0 in get_or (replicate n none) i none ≡ none
  zeros_at zero i = refl
  zeros_at (suc n) zero = refl
  zeros_at (suc n) (suc i) = zeros_at n i

  nothing_at : (n i : ℕ) → i < n → (let nothing : H = Nothing in get_elem? (map m.some (replicate n nothing)) i ≡ m.some (m.some nothing))
  nothing_at zero i h = absurd (omega arith)
  nothing_at (suc n) zero h = refl
  nothing_at (suc n) (suc i) h = nothing_at n i (omega arith)

  only_one : (w v : V) (by : ℕ) → get_elem? (w ∷ []) by ≡ m.some v → w ≡ v
  only_one w v zero e = m.some-injective w v e
  only_one w v (suc k) e = absurd (m.some-ne-none v (sym e))

  opens_desk : (n : ℕ) (c : Core S A R) (i : ℕ) → 0 < i → i < suc n → DeskIs takes free (get_or (replicate (suc n) 0) i 0) (get_elem? (map m.some (Machine c ∷ replicate n Nothing)) i)
  opens_desk n c zero a b = absurd (omega arith)
  opens_desk n c (suc i) a b = (zeros_at n i, nothing_at n i (omega arith))

  length_nothing : (n : ℕ) → (let nothing : H = Nothing in length (map m.some (replicate n nothing)) ≡ n)
  length_nothing zero = refl
  length_nothing (suc n) = ap suc (length_nothing n)

  length_home : (n : ℕ) (c : Core S A R) → (let first : H = Machine c in let nothing : H = Nothing in length (map m.some (first ∷ replicate n nothing)) ≡ suc n)
  length_home n c = ap suc (length_nothing n)

  -- the gate at the start
  pub opens : (n : ℕ) (c : Core S A R) → c.machine ≡ opening → IsReady (suc n) c
      → Rule record { words = replicate (suc n) 0; homes = map m.some (Machine c ∷ replicate n Nothing); views = newcomer opening ∷ [] }
  opens n c is ready =
      let homes : List (m.Option H) = map m.some (Machine c ∷ replicate n Nothing) in
      let len : length homes ≡ suc n = length_home n c in
      let f : Facts S A R = record { log = []; value = opening; holder = 0; busy = 0; owner = λ _. 0; stage = λ _. free } in record {
        facts = f;
        leads = refl;
        short = omega arith;
        width = length-replicate (suc n) 0 ∙ sym len;
        some_slot = omega (arith, len);
        word = refl;
        one = omega arith;
        at_home = λ _. (c, refl, subst (λ (k : ℕ). IsReady k c) (sym len) ready, is);
        desks = λ i a b. opens_desk n c i a (omega (arith, len, b));
        seats = λ by v there alive. subst (λ (z : V). Seated opening f 0 homes by z) (only_one (newcomer opening) v by there) record { from = refl; seen = prefix_none []; also = prefix_none []; in_place = tt; in_turn = tt; idle = λ _. refl };
      }

  pub opens_with : (n : ℕ) (c : Core S A R) (words : List ℕ) (slots : List H) → c.machine ≡ opening → IsReady (n + 1) c → words ≡ replicate (n + 1) 0 → slots ≡ Machine c ∷ replicate n Nothing
      → Rule record { words = words; homes = map m.some slots; views = newcomer opening ∷ [] }
  opens_with n c words slots is ready zeros first =
      let one : n + 1 ≡ suc n = omega arith in
      let all : words ≡ replicate (suc n) 0 = zeros ∙ ap (λ (k : ℕ). replicate k 0) one in
      subst (λ (ws : List ℕ). Rule record { words = ws; homes = map m.some slots; views = newcomer opening ∷ [] }) (sym all)
      (subst (λ (hs : List H). Rule record { words = replicate (suc n) 0; homes = map m.some hs; views = newcomer opening ∷ [] }) (sym first)
      (opens n c is (subst (λ (k : ℕ). IsReady k c) one ready)))

  pub splits : (id : ℕ) (v : V) → Splits Rule id v v (told v)
  splits id v s r here = subst (λ (vs : List V). Rule record { words = s.words; homes = s.homes; views = vs ++ told v ∷ [] }) (sym (set_again s.views id v here)) record {
    facts = r.facts;
    leads = r.leads;
    short = r.short;
    width = r.width;
    some_slot = r.some_slot;
    word = r.word;
    one = r.one;
    at_home = r.at_home;
    desks = r.desks;
    seats = λ by d there alive. ⊎_elim (λ (t : get_elem? s.views by ≡ m.some d). r.seats by d t alive)
        (λ (t : told v ≡ d).
        let live : v.live ≡ true = ap (λ (z : V). z.live) t ∙ alive in let old = r.seats id v here live in
        subst (λ (z : V). Seated opening r.facts (get_or s.words 0 0) s.homes by z) t record { from = old.from; seen = old.seen; also = prefix_none r.facts.log; in_place = tt; in_turn = tt; idle = λ _. refl })
        (at_end s.views (told v) d by there);
  }

  pub joins : (id : ℕ) (v : V) (other : ℕ) (w : V) → v.live ≡ true → w.live ≡ true → Joins Rule id v other w (both v w) ended
  joins id v other w live alive s r here apart there =
      let mine = r.seats id v here live in let before : get_elem? s.views other ≡ m.some w = sym (set_else s.views id other (both v w) apart) ∙ there in
      let given = r.seats other w before alive in record {
        facts = r.facts;
        leads = r.leads;
        short = r.short;
        width = r.width;
        some_slot = r.some_slot;
        word = r.word;
        one = r.one;
        at_home = r.at_home;
        desks = r.desks;
        seats = views_stay takes moves opening (λ j d. d.live ≡ true → Seated opening r.facts (get_or s.words 0 0) s.homes j d) (set s.views id (both v w)) other ended (λ h. absurd (cc h))
            (λ j d _. views_stay takes moves opening (λ j d. d.live ≡ true → Seated opening r.facts (get_or s.words 0 0) s.homes j d) s.views id (both v w)
            (λ _. record { from = mine.from; seen = mine.seen; also = given.seen; in_place = mine.in_place; in_turn = mine.in_turn; idle = mine.idle })
            (λ j d _. r.seats j d) j d);
      }

  -- the closed table gives back the value to which some history leads that begins with what the last seat has seen
  pub ends : (id : ℕ) (v : V) (ws : List ℕ) (xs : List H) → v.live ≡ true → v.turn ≡ Shut → Final (Seen Rule id v) ws xs
      → (c : Core S A R) × (get_elem? xs 0 ≡ m.some (Machine c)) × ((h : List (GroupEntry A R)) × IsPrefix v.seen h × HistoryLeadsTo moves opening h c.machine)
  ends id v ws xs live shut (s, (r, here), words, len, values) =
      let mine = r.seats id v here live in
      let turn : InTurn r.facts (get_or s.words 0 0) s.homes id Shut = subst (InTurn r.facts (get_or s.words 0 0) s.homes id) shut mine.in_turn in
      let home = turn.1 in
      (home.0, values 0 (Machine home.0) home.1, (r.facts.log, mine.seen, subst (HistoryLeadsTo moves opening r.facts.log) (sym home.3) r.leads))
