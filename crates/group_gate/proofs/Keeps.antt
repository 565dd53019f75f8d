-- The rule of a gate: what a step at a place leaves as it was.
use Rattle.std.proofs.Common.{◌≡◌, ◌≢◌, ℕ, ◌<◌, eqb, true, Some, List, [], ◌∷◌, length, get_or, set, sym, refl, ap, ◌∙◌, subst, cond, ⊎_elim, arith, length-set, get_or-set_same, get_or-set_other, eq-eqb, ne_eqb}
use mathlib.Core.Logic.{dite}
use mathlib.Core.Option as m
use native.Mathlib.Decide.{ℕ_discrete}
use lib.ListN.{get_elem?}
use lib.Seq.{set-get_or}
use prog.Atomic.{either}
use Rattle.atomic_table.specs.Table.{State, Me, step, keeps, takes as takes_slot, stepped, Allows}
use Rattle.atomic_table.proofs.Lists.{at_set, set_else}
use Rattle.group_gate.specs.declared.view.Asked.{Asked}
use Rattle.group_gate.specs.declared.view.Done.{Done}
use Rattle.group_gate.specs.declared.view.Held.{Held}
use Rattle.group_gate.specs.declared.view.Held.TheVariants.{Nothing, Ask, Answer}
use Rattle.group_gate.specs.declared.view.Sits.{Sits}
use Rattle.group_gate.specs.declared.view.Sits.TheVariants.{Stands, At, Waits}
use Rattle.group_gate.specs.declared.view.Turn.{Turn}
use Rattle.group_gate.specs.declared.view.Turn.TheVariants.{Idle, Leads, Owes, Shut}
use Rattle.group_gate.specs.declared.view.View.{View}
use Rattle.group_gate.specs.History.{HistoryLeadsTo, made_at}
use Rattle.group_gate.specs.Kept.{Stage, free, owned, asking, taken, owed, answered, Facts, IsReady, AtHome, DeskIs, Waiting, Collected, Owing, InPlace, InTurn, Seated, Kept, Sees, seeing, sat}
use Rattle.step_gate.proofs.Beginnings.{prefix_self}

module _ {X : Type 0} where
  -- a function changed at one number
  abbrev pub changed : ℕ → X → (ℕ → X) → ℕ → X
  changed i x f j = cond (eqb j i) x (f j)

  pub changed_here : (i : ℕ) (x : X) (f : ℕ → X) (j : ℕ) → j ≡ i → changed i x f j ≡ x
  changed_here i x f j h = ap (λ b. cond b x (f j)) (eq-eqb j i h)

  pub changed_else : (i : ℕ) (x : X) (f : ℕ → X) (j : ℕ) → j ≢ i → changed i x f j ≡ f j
  changed_else i x f j h = ap (λ b. cond b x (f j)) (ne_eqb j i h)

module _ {A R : Type 0} where
  -- what was collected elsewhere still is
  pub collected_stays : (i : ℕ) (st : Stage A R) (f : ℕ → Stage A R) (cs : List (Asked A)) → ((a : A) → f i ≢ taken a) → Collected f cs → Collected (changed i st f) cs
  collected_stays i st f [] n h = tt
  collected_stays i st f (c ∷ cs) n h =
      (changed_else i st f c.place (λ e. n c.ask (ap f (sym e) ∙ h.0)) ∙ h.0, h.1, collected_stays i st f cs n h.2)

  -- what is owed elsewhere still is
  pub owing_stays : (i : ℕ) (st : Stage A R) (f : ℕ → Stage A R) (ds : List (Done A R)) → ((d : Done A R) → f i ≢ owed d) → Owing f ds → Owing (changed i st f) ds
  owing_stays i st f [] n h = tt
  owing_stays i st f (d ∷ ds) n h =
      (changed_else i st f d.place (λ e. n d (ap f (sym e) ∙ h.0)) ∙ h.0, h.1, owing_stays i st f ds n h.2)

module _ {S A R : Type 0} where
  -- the facts after a step at the place i, which leaves it to `owner` and so far
  abbrev pub facts_at : ℕ → ℕ → Stage A R → Facts S A R → Facts S A R
  facts_at i o st f = record { log = f.log; value = f.value; holder = f.holder; busy = f.busy; owner = changed i o f.owner; stage = changed i st f.stage }

  -- What a step at the place i has to leave to the seat `by`: it has not the place with nothing asked there, its ask is
  -- still on its way, and it collected nothing there.
  pub record Leaves (i o : ℕ) (st : Stage A R) (f : Facts S A R) (by : ℕ) : Type 0 where
    pub away : f.owner i ≡ by → f.stage i ≡ owned → ⊥
    pub waits : f.owner i ≡ by → (a : A) (before : List (Done A R)) (since : ℕ) → Waiting a before since (made_at i f.log) (f.stage i) → (o ≡ by) × Waiting a before since (made_at i f.log) st
    pub duties : f.holder ≡ by → ((a : A) → f.stage i ≢ taken a) × ((d : Done A R) → f.stage i ≢ owed d)

  pub place_there : (i o : ℕ) (st : Stage A R) (f : Facts S A R) (slots by : ℕ) (p : Sits A R) → (f.owner i ≡ by → f.stage i ≡ owned → ⊥)
      → (f.owner i ≡ by → (a : A) (before : List (Done A R)) (since : ℕ) → Waiting a before since (made_at i f.log) (f.stage i) → (o ≡ by) × Waiting a before since (made_at i f.log) st)
      → InPlace f slots by p → InPlace (facts_at i o st f) slots by p
  place_there i o st f slots by Stands away waits h = tt
  place_there i o st f slots by (At p mine) away waits h = dite (ℕ_discrete p i)
      (λ e. absurd (away (ap f.owner (sym e) ∙ h.2) (ap f.stage (sym e) ∙ h.3)))
      (λ ne. (h.0, h.1, changed_else i o f.owner p ne ∙ h.2, changed_else i st f.stage p ne ∙ h.3, h.4))
  place_there i o st f slots by (Waits p mine a since) away waits h = dite (ℕ_discrete p i)
      (λ e.
      let old : Waiting a mine since (made_at i f.log) (f.stage i) = subst (λ (k : ℕ). Waiting a mine since (made_at k f.log) (f.stage k)) e h.3 in
      let now = waits (ap f.owner (sym e) ∙ h.2) a mine since old in
      let there : Waiting a mine since (made_at p f.log) st = subst (λ (k : ℕ). Waiting a mine since (made_at k f.log) st) (sym e) now.1 in
      (h.0, h.1, changed_here i o f.owner p e ∙ now.0, subst (Waiting a mine since (made_at p f.log)) (sym (changed_here i st f.stage p e)) there, h.4))
      (λ ne. (h.0, h.1, changed_else i o f.owner p ne ∙ h.2, subst (Waiting a mine since (made_at p f.log)) (sym (changed_else i st f.stage p ne)) h.3, h.4))

  pub place_left : (i o : ℕ) (st : Stage A R) (f : Facts S A R) (slots by : ℕ) (p : Sits A R) → Leaves i o st f by → InPlace f slots by p → InPlace (facts_at i o st f) slots by p
  place_left i o st f slots by p sp h = place_there i o st f slots by p sp.away sp.waits h

  pub home_left : (x : S) (homes hs : List (m.Option (Held S A R))) → length hs ≡ length homes → get_elem? hs 0 ≡ get_elem? homes 0 → AtHome x homes → AtHome x hs
  home_left x homes hs len same h = (h.0, same ∙ h.1, subst (λ (k : ℕ). IsReady k h.0) (sym len) h.2, h.3)

  pub turn_left : (i o : ℕ) (st : Stage A R) (f : Facts S A R) (word : ℕ) (homes hs : List (m.Option (Held S A R))) (by : ℕ) (t : Turn S A R) → Leaves i o st f by → length hs ≡ length homes → get_elem? hs 0 ≡ get_elem? homes 0
      → InTurn f word homes by t → InTurn (facts_at i o st f) word hs by t
  turn_left i o st f word homes hs by Idle sp len same h = tt
  turn_left i o st f word homes hs by (Leads at x cs) sp len same h = (h.0, h.1, h.2, collected_stays i st f.stage cs (sp.duties h.1).0 h.3)
  turn_left i o st f word homes hs by (Owes at x ds) sp len same h = (h.0, h.1, h.2, owing_stays i st f.stage ds (sp.duties h.1).1 h.3)
  turn_left i o st f word homes hs by Shut sp len same h = (h.0, home_left f.value homes hs len same h.1)

  -- a step of the place's owner leaves every other seat what it has, if nobody has collected there
  pub owner_leaves : (id i o : ℕ) (st : Stage A R) (f : Facts S A R) → f.owner i ≡ id → ((a : A) → f.stage i ≢ taken a) → ((d : Done A R) → f.stage i ≢ owed d) → (by : ℕ) → by ≢ id → Leaves i o st f by
  owner_leaves id i o st f own no_ask no_answer by other = record {
    away = λ e _. absurd (other (sym e ∙ own));
    waits = λ e _ _ _ _. absurd (other (sym e ∙ own));
    duties = λ _. (no_ask, no_answer);
  }

module _ {S A R : Type 0} (takes : A → Type 0) (moves : S → List A → List R → S → Type 0) (opening : S) where
  abbrev V : Type 0
  V = View S A R

  abbrev H : Type 0
  H = Held S A R

  abbrev St : Type 0
  St = State H V

  abbrev Rule : St → Type 0
  Rule = Kept takes moves opening

  abbrev word_of : St → ℕ
  word_of s = get_or s.words 0 0

  pub views_stay : (K : ℕ → V → Type 0) (vs : List V) (me : ℕ) (w : V) → K me w → ((j : ℕ) (d : V) → j ≢ me → get_elem? vs j ≡ m.some d → K j d)
      → (j : ℕ) (d : V) → get_elem? (set vs me w) j ≡ m.some d → K j d
  views_stay K vs me w mine others j d e = ⊎_elim (λ (t : (j ≡ me) × (w ≡ d)). subst (λ (x : ℕ × V). K x.0 x.1) (λ i. (sym t.0 i, t.1 i)) mine)
      (λ (t : (j ≢ me) × (get_elem? vs j ≡ m.some d)). others j d t.0 t.1) (at_set vs me j w d e)

  -- the table after a step of the seat `id` at the place i
  pub desk_moved : (s : St) (r : Rule s) (i n id o : ℕ) (st : Stage A R) (hs : List (m.Option H)) (w : V) → 0 < i → i < length s.homes → length hs ≡ length s.homes
      → ((j : ℕ) → j ≢ i → get_elem? hs j ≡ get_elem? s.homes j) → DeskIs takes st n (get_elem? hs i) → ((by : ℕ) → by ≢ id → Leaves i o st r.facts by)
      → (w.live ≡ true → Seated opening (facts_at i o st r.facts) (word_of s) hs id w)
      → Rule record { words = set s.words i n; homes = hs; views = set s.views id w }
  desk_moved s r i n id o st hs w above below len same desk leaves mine =
      let f = r.facts in let g : Facts S A R = facts_at i o st f in let wide = r.width in let some_slot = r.some_slot in
      let first : get_or (set s.words i n) 0 0 ≡ word_of s = get_or-set_other s.words i 0 n 0 (λ e. omega arith) in
      let here : get_or (set s.words i n) i 0 ≡ n = get_or-set_same s.words i n 0 (omega arith) in
      let zero_same : get_elem? hs 0 ≡ get_elem? s.homes 0 = same 0 (λ e. omega arith) in record {
        facts = g;
        leads = r.leads;
        short = r.short;
        width = length-set s.words i n ∙ (wide ∙ sym len);
        some_slot = omega arith;
        word = first ∙ r.word;
        one = r.one;
        at_home = λ z. home_left f.value s.homes hs len zero_same (r.at_home z);
        desks = λ j a b. dite (ℕ_discrete j i)
            (λ e. subst (λ (k : ℕ). DeskIs takes (changed i st f.stage k) (get_or (set s.words i n) k 0) (get_elem? hs k)) (sym e)
            (subst (λ (z : Stage A R). DeskIs takes z (get_or (set s.words i n) i 0) (get_elem? hs i)) (sym (changed_here i st f.stage i refl)) (subst (λ (z : ℕ). DeskIs takes st z (get_elem? hs i)) (sym here) desk)))
            (λ ne.
            let old : DeskIs takes (f.stage j) (get_or s.words j 0) (get_elem? s.homes j) = r.desks j a (omega arith) in
            let one : DeskIs takes (changed i st f.stage j) (get_or s.words j 0) (get_elem? s.homes j) = subst (λ (z : Stage A R). DeskIs takes z (get_or s.words j 0) (get_elem? s.homes j)) (sym (changed_else i st f.stage j ne)) old in
            let two : DeskIs takes (changed i st f.stage j) (get_or (set s.words i n) j 0) (get_elem? s.homes j) = subst (λ (z : ℕ). DeskIs takes (changed i st f.stage j) z (get_elem? s.homes j)) (sym (get_or-set_other s.words i j n 0 ne)) one in
            subst (DeskIs takes (changed i st f.stage j) (get_or (set s.words i n) j 0)) (sym (same j ne)) two);
        seats = subst (λ (z : ℕ). (j : ℕ) (d : V) → get_elem? (set s.views id w) j ≡ m.some d → d.live ≡ true → Seated opening g z hs j d) (sym first)
            (views_stay (λ j d. d.live ≡ true → Seated opening g (word_of s) hs j d) s.views id w mine
            (λ j d other e alive. let old = r.seats j d e alive in record {
              from = old.from;
              seen = old.seen;
              also = old.also;
              in_place = subst (λ (k : ℕ). InPlace g k j d.sits) (sym len) (place_left i o st f (length s.homes) j d.sits (leaves j other) old.in_place);
              in_turn = turn_left i o st f (word_of s) s.homes hs j d.turn (leaves j other) len zero_same old.in_turn;
              idle = old.idle;
            }));
      }

  -- a step that changes no word and no slot
  pub unmoved : (s : St) (r : Rule s) (i id : ℕ) (cs : List (ℕ × H)) (w : V) → (w.live ≡ true → Seated opening r.facts (word_of s) s.homes id w) → Rule (stepped s i (get_or s.words i 0) id cs w keeps)
  unmoved s r i id cs w mine = subst (λ (ws : List ℕ). Rule record { words = ws; homes = s.homes; views = set s.views id w }) (sym (set-get_or s.words i 0)) record {
    facts = r.facts;
    leads = r.leads;
    short = r.short;
    width = r.width;
    some_slot = r.some_slot;
    word = r.word;
    one = r.one;
    at_home = r.at_home;
    desks = r.desks;
    seats = views_stay (λ j d. d.live ≡ true → Seated opening r.facts (word_of s) s.homes j d) s.views id w mine (λ j d _. r.seats j d);
  }

  opened : (v : V) (z : S) → v.opening ≡ Some opening → v.opening ≡ Some z → opening ≡ z
  opened v z p q = cc (p, q)

  -- what a seat has seen that sees the whole history
  pub sees_all : (s : St) (r : Rule s) (id : ℕ) (v : V) → Seated opening r.facts (word_of s) s.homes id v → Sees moves r.facts.log v
  sees_all s r id v mine = record {
    prefix = mine.seen;
    also = mine.also;
    small = r.short;
    legal = λ z is. (r.facts.value, subst (λ (x : S). HistoryLeadsTo moves x r.facts.log r.facts.value) (opened v z mine.from is) r.leads);
  }

  -- how far a place is whose word is 0, 2 or 4
  pub is_free : (st : Stage A R) (word : ℕ) (home : m.Option (m.Option H)) → DeskIs takes st word home → word ≡ 0 → (st ≡ free) × (home ≡ m.some (m.some Nothing))
  is_free free word home h e = (refl, h.1)
  is_free owned word home h e = absurd (omega (arith, h, e))
  is_free (asking a) word home h e = absurd (omega (arith, h.0, e))
  is_free (taken a) word home h e = absurd (omega (arith, h, e))
  is_free (owed d) word home h e = absurd (omega (arith, h, e))
  is_free (answered d) word home h e = absurd (omega (arith, h.0, e))

  pub is_asked : (st : Stage A R) (word : ℕ) (home : m.Option (m.Option H)) → DeskIs takes st word home → word ≡ 2 → (a : A) × (st ≡ asking a) × (home ≡ m.some (m.some (Ask a))) × takes a
  is_asked free word home h e = absurd (omega (arith, h.0, e))
  is_asked owned word home h e = absurd (omega (arith, h, e))
  is_asked (asking a) word home h e = (a, refl, h.1, h.2)
  is_asked (taken a) word home h e = absurd (omega (arith, h, e))
  is_asked (owed d) word home h e = absurd (omega (arith, h, e))
  is_asked (answered d) word home h e = absurd (omega (arith, h.0, e))

  pub is_answered : (st : Stage A R) (word : ℕ) (home : m.Option (m.Option H)) → DeskIs takes st word home → word ≡ 4 → (d : Done A R) × (st ≡ answered d) × (home ≡ m.some (m.some (Answer d.answer)))
  is_answered free word home h e = absurd (omega (arith, h.0, e))
  is_answered owned word home h e = absurd (omega (arith, h, e))
  is_answered (asking a) word home h e = absurd (omega (arith, h.0, e))
  is_answered (taken a) word home h e = absurd (omega (arith, h, e))
  is_answered (owed d) word home h e = absurd (omega (arith, h, e))
  is_answered (answered d) word home h e = (d, refl, h.1)

  -- a seat takes a free place
  pub sits_down : (slots id i : ℕ) (me : Me H V) → 0 < i → i < slots → me.0.live ≡ true → me.0.turn ≡ Idle
      → Allows Rule slots id me i (λ n. either (eqb n 0) 1 n) (sat takes moves (step slots i 0 1 m.none) me)
  sits_down slots id i me above below live idle s r wide here small =
      let v : V = me.0 in let f = r.facts in let mine = r.seats id v here live in let x : ℕ = get_or s.words i 0 in dite (ℕ_discrete x 0)
      (λ hit.
      let desk = is_free (f.stage i) x (get_elem? s.homes i) (r.desks i above (omega arith)) hit in
      let w : V = seeing f.log (At i (made_at i f.log)) v in
      let hs : List (m.Option H) = set s.homes i m.none in (
        w,
        takes_slot i Nothing,
        desk.1,
        subst (λ b. Rule (stepped s i (either b 1 x) id me.1 w (takes_slot i Nothing))) (sym (eq-eqb x 0 hit))
            (desk_moved s r i 1 id id owned hs w above (omega arith) (length-set s.homes i m.none) (λ j ne. set_else s.homes i j m.none ne) refl
            (λ by other. record {
              away = λ _ e. absurd (cc (e, desk.0));
              waits = λ _ a before since h. absurd (subst (Waiting a before since (made_at i f.log)) desk.0 h);
              duties = λ _. ((λ a e. absurd (cc (e, desk.0))), λ d e. absurd (cc (e, desk.0)));
            })
            (λ _. record {
              from = mine.from;
              seen = prefix_self f.log;
              also = mine.also;
              in_place = (above, omega (arith, length-set s.homes i m.none), changed_here i id f.owner i refl, changed_here i owned f.stage i refl, refl);
              in_turn = subst (InTurn (facts_at i id owned f) (word_of s) hs id) (sym idle) tt;
              idle = λ _. idle;
            })),
        ((λ _. (f.log, refl, refl, sees_all s r id v mine)), λ miss. absurd (miss hit)),
      ))
      (λ miss. (
        v,
        keeps,
        tt,
        subst (λ b. Rule (stepped s i (either b 1 x) id me.1 v keeps)) (sym (ne_eqb x 0 miss)) (unmoved s r i id me.1 v (λ _. mine)),
        ((λ hit. absurd (miss hit)), λ _. (refl, refl)),
      ))
