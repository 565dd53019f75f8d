-- What a seat that has the turn collects, records and puts keeps the rule of a gate.
use Rattle.std.proofs.Common.{◌≡◌, ◌≢◌, ℕ, ◌+◌, ◌%◌, ◌^◌, ◌<◌, ◌≤◌, eqb, true, Option, Some, List, [], ◌∷◌, ◌++◌, length, get_or, set, sym, refl, ap, ◌∙◌, subst, inl, inr, ◌⊎◌, ⊎_elim, arith, append-nil, length-set, length-append, get_or-set_same, get_or-set_other, eq-eqb, ne_eqb}
use mathlib.Core.Logic.{dite}
use mathlib.Core.Option as m
use native.Mathlib.Decide.{ℕ_discrete}
use lib.ListN.{get_elem?}
use prog.Atomic.{either}
use Rattle.atomic_table.specs.Table.{State, Me, step, keeps, takes as takes_slot, gives, stepped, Allows}
use Rattle.atomic_table.proofs.Lists.{set_else, set_here}
use Rattle.group_gate.specs.declared.view.Asked.{Asked}
use Rattle.group_gate.specs.declared.view.Done.{Done}
use Rattle.group_gate.specs.declared.view.GroupEntry.{GroupEntry}
use Rattle.group_gate.specs.declared.view.Held.{Held}
use Rattle.group_gate.specs.declared.view.Held.TheVariants.{Ask, Answer}
use Rattle.group_gate.specs.declared.view.Sits.{Sits}
use Rattle.group_gate.specs.declared.view.Sits.TheVariants.{Stands, At, Waits}
use Rattle.group_gate.specs.declared.view.Turn.TheVariants.{Leads, Owes}
use Rattle.group_gate.specs.declared.view.View.{View}
use Rattle.group_gate.specs.History.{asked, asks_in, entry, done, made_in, made_at}
use Rattle.group_gate.specs.Kept.{Stage, taken, owed, answered, Facts, DeskIs, Waiting, Apart, IsApartOf, Collected, Owing, dones, InPlace, InTurn, Seated, Kept, holding, collected, recorded, answered_at}
use Rattle.step_gate.proofs.Beginnings.{prefix_more}
use Rattle.group_gate.proofs.Histories.{leads_snoc, made_snoc, made_hit, made_miss}
use Rattle.group_gate.proofs.Keeps.{changed, changed_here, changed_else, facts_at, Leaves, desk_moved, unmoved, views_stay, place_left, place_there, is_asked}
use Rattle.group_gate.proofs.Steps.{not_in_turn}

module _ {X : Type 0} where
  snoc_front : (xs ys : List X) (x y : X) → xs ++ x ∷ [] ≡ ys ++ y ∷ [] → xs ≡ ys
  snoc_front [] [] x y e = refl
  snoc_front [] (b ∷ bs) x y e = absurd (let n : 1 ≡ length (b ∷ bs) + 1 = ap length e ∙ length-append (b ∷ bs) (y ∷ []) in omega arith)
  snoc_front (a ∷ rest_) [] x y e = absurd (let n : length (a ∷ rest_) + 1 ≡ 1 = sym (length-append (a ∷ rest_) (x ∷ [])) ∙ ap length e in omega arith)
  snoc_front (a ∷ rest_) (b ∷ bs) x y e = let heads : a ≡ b = cc e in let tails : rest_ ++ x ∷ [] ≡ bs ++ y ∷ [] = cc e in let same : rest_ ≡ bs = snoc_front rest_ bs x y tails in cc (heads, same)

module _ {A : Type 0} where
  apart_more : (i : ℕ) (cs : List (Asked A)) (c : Asked A) → Apart i cs → c.place ≢ i → Apart i (cs ++ c ∷ [])
  apart_more i [] c h n = (n, tt)
  apart_more i (x ∷ xs) c h n = (h.0, apart_more i xs c h.1 n)

module _ {A R : Type 0} where
  -- one more is collected, at a place where nothing was
  pub collected_more : (i : ℕ) (a : A) (f : ℕ → Stage A R) (cs : List (Asked A)) → ((b : A) → f i ≢ taken b) → Collected f cs → Collected (changed i (taken a) f) (cs ++ asked i a ∷ [])
  collected_more i a f [] n h = (changed_here i (taken a) f i refl, tt, tt)
  collected_more i a f (c ∷ cs) n h =
      let ne : c.place ≢ i = λ e. n c.ask (ap f (sym e) ∙ h.0) in
      (changed_else i (taken a) f c.place ne ∙ h.0, apart_more c.place cs (asked i a) h.1 (λ e. ne (sym e)), collected_more i a f cs n h.2)

  apart_last : (i : ℕ) (ds : List (Done A R)) (d : Done A R) → IsApartOf i (ds ++ d ∷ []) → (d.place ≢ i) × IsApartOf i ds
  apart_last i [] d h = (h.0, tt)
  apart_last i (x ∷ xs) d h = let r = apart_last i xs d h.1 in (r.0, (h.0, r.1))

  -- the last of what is owed is answered, and the others still are owed
  pub owing_last : (f : ℕ → Stage A R) (ds : List (Done A R)) (d : Done A R) → Owing f (ds ++ d ∷ []) → f d.place ≡ owed d
  owing_last f [] d h = h.0
  owing_last f (x ∷ xs) d h = owing_last f xs d h.2

  pub owing_front : (st : Stage A R) (f : ℕ → Stage A R) (ds : List (Done A R)) (d : Done A R) → Owing f (ds ++ d ∷ []) → Owing (changed d.place st f) ds
  owing_front st f [] d h = tt
  owing_front st f (x ∷ xs) d h = let r = apart_last x.place xs d h.1 in (changed_else d.place st f x.place (λ e. r.0 (sym e)) ∙ h.0, r.1, owing_front st f xs d h.2)

  -- how far the places are once these are owed
  abbrev pub settled : List (Done A R) → (ℕ → Stage A R) → ℕ → Stage A R
  settled [] f = f
  settled (d ∷ ds) f = changed d.place (owed d) (settled ds f)

  owing_apart : (i : ℕ) (st : Stage A R) (f : ℕ → Stage A R) (ds : List (Done A R)) → IsApartOf i ds → Owing f ds → Owing (changed i st f) ds
  owing_apart i st f [] n h = tt
  owing_apart i st f (d ∷ ds) n h = (changed_else i st f d.place n.0 ∙ h.0, h.1, owing_apart i st f ds n.1 h.2)

  dones_apart : (i p k : ℕ) (cs : List (Asked A)) (rs : List R) → Apart i cs → IsApartOf i (dones p k cs rs)
  dones_apart i p k [] rs h = tt
  dones_apart i p k (c ∷ cs) [] h = tt
  dones_apart i p k (c ∷ cs) (r ∷ rs) h = (h.0, dones_apart i p (k + 1) cs rs h.1)

  pub settled_owes : (p k : ℕ) (cs : List (Asked A)) (rs : List R) (f : ℕ → Stage A R) → Collected f cs → Owing (settled (dones p k cs rs) f) (dones p k cs rs)
  settled_owes p k [] rs f h = tt
  settled_owes p k (c ∷ cs) [] f h = tt
  settled_owes p k (c ∷ cs) (r ∷ rs) f h =
      let d : Done A R = done c.place p k c.ask r in let ds : List (Done A R) = dones p (k + 1) cs rs in let apart : IsApartOf c.place ds = dones_apart c.place p (k + 1) cs rs h.1 in
      (changed_here c.place (owed d) (settled ds f) c.place refl, apart, owing_apart c.place (owed d) (settled ds f) ds apart (settled_owes p (k + 1) cs rs f h.2))

  made_apart : (i p k : ℕ) (cs : List (Asked A)) (rs : List R) → Apart i cs → made_in i p k cs rs ≡ []
  made_apart i p k [] rs h = refl
  made_apart i p k (c ∷ cs) [] h = refl
  made_apart i p k (c ∷ cs) (r ∷ rs) h = made_miss i p k c cs r rs h.0 ∙ made_apart i p (k + 1) cs rs h.1

  -- What the entry does to a place: nothing, if nothing was collected there; else what was collected there is owed, and is
  -- all that the entry has of the place.
  abbrev pub Untouched : ℕ → ℕ → ℕ → List (Asked A) → List R → (ℕ → Stage A R) → Type 0
  Untouched i p k cs rs f = (settled (dones p k cs rs) f i ≡ f i) × (made_in i p k cs rs ≡ [])

  abbrev pub Settled : ℕ → ℕ → ℕ → List (Asked A) → List R → (ℕ → Stage A R) → Type 0
  Settled i p k cs rs f = (d : Done A R) × (settled (dones p k cs rs) f i ≡ owed d) × (made_in i p k cs rs ≡ d ∷ []) × (f i ≡ taken d.ask) × (d.entry ≡ p)

  pub settles : (i p k : ℕ) (cs : List (Asked A)) (rs : List R) (f : ℕ → Stage A R) → Collected f cs → Untouched i p k cs rs f ⊎ Settled i p k cs rs f
  settles i p k [] rs f h = inl (refl, refl)
  settles i p k (c ∷ cs) [] f h = inl (refl, refl)
  settles i p k (c ∷ cs) (r ∷ rs) f h = let d : Done A R = done c.place p k c.ask r in let ds : List (Done A R) = dones p (k + 1) cs rs in dite (ℕ_discrete i c.place)
      (λ e. inr (
        d,
        changed_here c.place (owed d) (settled ds f) i e,
        made_hit i p k c cs r rs (sym e) ∙ (ap (λ (z : List (Done A R)). done i p k c.ask r ∷ z) (made_apart i p (k + 1) cs rs (subst (λ (z : ℕ). Apart z cs) (sym e) h.1)) ∙ ap (λ (z : ℕ). done z p k c.ask r ∷ []) e),
        ap f e ∙ h.0,
        refl,
      ))
      (λ ne. ⊎_elim (λ (t : Untouched i p (k + 1) cs rs f). inl (changed_else c.place (owed d) (settled ds f) i ne ∙ t.0, made_miss i p k c cs r rs (λ e. ne (sym e)) ∙ t.1))
      (λ (t : Settled i p (k + 1) cs rs f). inr (t.0, changed_else c.place (owed d) (settled ds f) i ne ∙ t.1, made_miss i p k c cs r rs (λ e. ne (sym e)) ∙ t.2, t.3, t.4))
      (settles i p (k + 1) cs rs f h.2))

module _ {S A R : Type 0} (takes : A → Type 0) (moves : S → List A → List R → S → Type 0) (opening : S) where
  abbrev V : Type 0
  V = View S A R

  abbrev H : Type 0
  H = Held S A R

  abbrev St : Type 0
  St = State H V

  abbrev Rule : St → Type 0
  Rule = Kept takes moves opening

  -- the seat that has the turn collects what is asked at the place i
  pub collects : (slots id i : ℕ) (me : Me H V) (at : ℕ) (x : S) (cs : List (Asked A)) → 0 < i → i < slots → me.0.live ≡ true → me.0.turn ≡ Leads at x cs
      → Allows Rule slots id me i (λ n. either (eqb n 2) 3 n) (collected takes moves (step slots i 2 3 m.none) me)
  collects slots id i me at x cs above below live leads s r wide here small =
      let v : V = me.0 in let f = r.facts in let known = r.seats id v here live in let turn = subst (InTurn f (get_or s.words 0 0) s.homes id) leads known.in_turn in let n : ℕ = get_or s.words i 0 in dite (ℕ_discrete n 2)
      (λ hit.
      let desk = is_asked takes moves opening (f.stage i) n (get_elem? s.homes i) (r.desks i above (omega arith)) hit in let a : A = desk.0 in
      let o : ℕ = f.owner i in let st : Stage A R = taken a in
      let not_taken : (b : A) → f.stage i ≢ taken b = λ b e. absurd (cc (e, desk.1)) in let not_owed : (d : Done A R) → f.stage i ≢ owed d = λ d e. absurd (cc (e, desk.1)) in
      let spares : (by : ℕ) → Leaves i o st f by = λ by. record {
        away = λ _ e. absurd (cc (e, desk.1));
        waits = λ e b before since h. (e, subst (Waiting b before since (made_at i f.log)) desk.1 h);
        duties = λ _. (not_taken, not_owed);
      } in
      let hs : List (m.Option H) = set s.homes i m.none in let len : length hs ≡ length s.homes = length-set s.homes i m.none in
      let w : V = holding (Leads at x (cs ++ asked i a ∷ [])) v in (
        w,
        takes_slot i (Ask a),
        desk.2,
        subst (λ b. Rule (stepped s i (either b 3 n) id me.1 w (takes_slot i (Ask a)))) (sym (eq-eqb n 2 hit))
            (desk_moved takes moves opening s r i 3 id o st hs w above (omega arith) len (λ j ne. set_else s.homes i j m.none ne) refl (λ by _. spares by)
            (λ _. record {
              from = known.from;
              seen = known.seen;
              also = known.also;
              in_place = subst (λ (k : ℕ). InPlace (facts_at i o st f) k id v.sits) (sym len) (place_left i o st f (length s.homes) id v.sits (spares id) known.in_place);
              in_turn = (turn.0, turn.1, turn.2, collected_more i a f.stage cs not_taken turn.3);
              idle = λ z. absurd (cc (known.idle z, leads));
            })),
        (
          (λ _. (
            a,
            desk.3,
            (λ b y ds p. let same : Leads at x cs ≡ Leads b y ds = sym leads ∙ p in
                let one : at ≡ b = cc same in let two : x ≡ y = cc same in let three : cs ≡ ds = cc same in (λ k. holding (Leads (one k) (two k) (three k ++ asked i a ∷ [])) v)),
            refl,
          )),
          λ miss. absurd (miss hit),
        ),
      ))
      (λ miss. (
        v,
        keeps,
        tt,
        subst (λ b. Rule (stepped s i (either b 3 n) id me.1 v keeps)) (sym (ne_eqb n 2 miss)) (unmoved takes moves opening s r i id me.1 v (λ _. known)),
        ((λ hit. absurd (miss hit)), λ _. (refl, refl)),
      ))

  -- the seat that owes answers puts the last of them at its place
  pub puts : (slots id i : ℕ) (v : V) (below : List (ℕ × H)) (at : ℕ) (y : S) (ds : List (Done A R)) (d : Done A R) → 0 < i → i < slots → v.live ≡ true → v.turn ≡ Owes at y (ds ++ d ∷ []) → d.place ≡ i
      → Allows Rule slots id (v, (i, Answer d.answer) ∷ below) i (λ _. 4) (λ _. answered_at takes moves (step slots i 4 0 m.none) (v, (i, Answer d.answer) ∷ below) 4)
  puts slots id i v carried at y ds d above below live owes place s r wide here small =
      let f = r.facts in let known = r.seats id v here live in let turn = subst (InTurn f (get_or s.words 0 0) s.homes id) owes known.in_turn in
      let due : f.stage i ≡ owed d = ap f.stage (sym place) ∙ owing_last f.stage ds d turn.3 in
      let x : m.Option H = m.some (Answer d.answer) in let o : ℕ = f.owner i in let st : Stage A R = answered d in
      let spares : (by : ℕ) → f.holder ≢ by → Leaves i o st f by = λ by other. record {
        away = λ _ e. absurd (cc (e, due));
        waits = λ e b before since h. (e, subst (Waiting b before since (made_at i f.log)) due h);
        duties = λ e. absurd (other e);
      } in
      let hs : List (m.Option H) = set s.homes i x in let len : length hs ≡ length s.homes = length-set s.homes i x in let w : V = holding (Owes at y ds) v in
      let inside : i < length s.homes = omega arith in
      let mine : InPlace (facts_at i o st f) (length s.homes) id v.sits = place_there i o st f (length s.homes) id v.sits (λ _ e. absurd (cc (e, due))) (λ e b before since h. (e, subst (Waiting b before since (made_at i f.log)) due h)) known.in_place in (
        w,
        gives,
        tt,
        desk_moved takes moves opening s r i 4 id o st hs w above inside len (λ j ne. set_else s.homes i j x ne) (refl, set_here s.homes i x inside) (λ by other. spares by (λ e. other (sym e ∙ turn.1)))
            (λ _. record {
              from = known.from;
              seen = known.seen;
              also = known.also;
              in_place = subst (λ (k : ℕ). InPlace (facts_at i o st f) k id v.sits) (sym len) mine;
              in_turn = (turn.0, turn.1, turn.2, subst (λ (k : ℕ). Owing (changed k st f.stage) ds) place (owing_front st f.stage ds d turn.3));
              idle = λ z. absurd (cc (known.idle z, owes));
            }),
        (
          (λ b z es e p.
              let same : Owes at y (ds ++ d ∷ []) ≡ Owes b z (es ++ e ∷ []) = sym owes ∙ p in
              let one : at ≡ b = cc same in let two : y ≡ z = cc same in let lists : ds ++ d ∷ [] ≡ es ++ e ∷ [] = cc same in let three : ds ≡ es = snoc_front ds es d e lists in
              (λ k. holding (Owes (one k) (two k) (three k)) v)),
          refl,
        ),
      )

  -- what a place is in the facts after a record
  abbrev facts_recorded : ℕ → List (Asked A) → List R → S → Facts S A R → Facts S A R
  facts_recorded by cs rs y f = record {
    log = f.log ++ entry cs rs ∷ [];
    value = y;
    holder = by;
    busy = 1;
    owner = f.owner;
    stage = settled (dones (length f.log) 0 cs rs) f.stage;
  }

  waiting_recorded : (i : ℕ) (cs : List (Asked A)) (rs : List R) (f : Facts S A R) (a : A) (before : List (Done A R)) (since : ℕ) → Collected f.stage cs → since ≤ length f.log → Waiting a before since (made_at i f.log) (f.stage i)
      → Waiting a before since (made_at i (f.log ++ entry cs rs ∷ [])) (settled (dones (length f.log) 0 cs rs) f.stage i)
  waiting_recorded i cs rs f a before since got le h =
      let p : ℕ = length f.log in let made = made_snoc i f.log (entry cs rs) in
      ⊎_elim (λ (t : Untouched i p 0 cs rs f.stage).
      let same : made_at i (f.log ++ entry cs rs ∷ []) ≡ made_at i f.log = made ∙ (ap (λ (z : List (Done A R)). made_at i f.log ++ z) t.1 ∙ append-nil (made_at i f.log)) in
      subst (λ (z : Stage A R). Waiting a before since (made_at i (f.log ++ entry cs rs ∷ [])) z) (sym t.0) (subst (λ (z : List (Done A R)). Waiting a before since z (f.stage i)) (sym same) h))
      (λ (t : Settled i p 0 cs rs f.stage).
      let d : Done A R = t.0 in let was : Waiting a before since (made_at i f.log) (taken d.ask) = subst (Waiting a before since (made_at i f.log)) t.3 h in
      let grown : made_at i (f.log ++ entry cs rs ∷ []) ≡ before ++ d ∷ [] = made ∙ (ap (λ (z : List (Done A R)). made_at i f.log ++ z) t.2 ∙ ap (λ (z : List (Done A R)). z ++ d ∷ []) was.1) in
      subst (λ (z : Stage A R). Waiting a before since (made_at i (f.log ++ entry cs rs ∷ [])) z) (sym t.1) (grown, was.0, subst (λ (k : ℕ). since ≤ k) (sym t.4) le))
      (settles i p 0 cs rs f.stage got)

  place_recorded : (by : ℕ) (cs : List (Asked A)) (rs : List R) (y : S) (f : Facts S A R) (slots j : ℕ) (q : Sits A R) → Collected f.stage cs → InPlace f slots j q → InPlace (facts_recorded by cs rs y f) slots j q
  place_recorded by cs rs y f slots j Stands got h = tt
  place_recorded by cs rs y f slots j (At i mine) got h =
      let p : ℕ = length f.log in
      ⊎_elim (λ (t : Untouched i p 0 cs rs f.stage).
      (h.0, h.1, h.2, t.0 ∙ h.3, made_snoc i f.log (entry cs rs) ∙ (ap (λ (z : List (Done A R)). made_at i f.log ++ z) t.1 ∙ (append-nil (made_at i f.log) ∙ h.4))))
      (λ (t : Settled i p 0 cs rs f.stage). absurd (cc (h.3, t.3)))
      (settles i p 0 cs rs f.stage got)
  place_recorded by cs rs y f slots j (Waits i mine a since) got h =
      let more = length-append f.log (entry cs rs ∷ []) in
      (h.0, h.1, h.2, waiting_recorded i cs rs f a mine since got h.4 h.3, omega (arith, more, h.4))

  desk_recorded : (cs : List (Asked A)) (rs : List R) (f : Facts S A R) (i word : ℕ) (home : m.Option (m.Option H)) → Collected f.stage cs → DeskIs takes (f.stage i) word home
      → DeskIs takes (settled (dones (length f.log) 0 cs rs) f.stage i) word home
  desk_recorded cs rs f i word home got h =
      let p : ℕ = length f.log in
      ⊎_elim (λ (t : Untouched i p 0 cs rs f.stage). subst (λ (z : Stage A R). DeskIs takes z word home) (sym t.0) h)
      (λ (t : Settled i p 0 cs rs f.stage).
      let was : DeskIs takes (taken t.0.ask) word home = subst (λ (z : Stage A R). DeskIs takes z word home) t.3 h in
      subst (λ (z : Stage A R). DeskIs takes z word home) (sym t.1) was)
      (settles i p 0 cs rs f.stage got)

  -- the seat that has the turn adds its step to the history
  pub records : (slots id : ℕ) (me : Me H V) (at new : ℕ) (x y : S) (cs : List (Asked A)) (rs : List R) (said : Option (List R × S)) → me.0.live ≡ true → me.0.turn ≡ Leads at x cs → said ≡ Some (rs, y)
      → moves x (asks_in cs) rs y → at % 2 ≡ 1 → at < 2 ^ 63 → new ≡ at + 2
      → Allows Rule slots id me 0 (λ _. new) (λ _. recorded takes moves said (step slots 0 new 0 m.none) me new)
  records slots id me at new x y cs rs said live leads said_is allowed odd small_at up s r wide here small =
      let v : V = me.0 in let f = r.facts in let known = r.seats id v here live in let turn = subst (InTurn f (get_or s.words 0 0) s.homes id) leads known.in_turn in
      let is = r.word in let one = r.one in let at_is : get_or s.words 0 0 ≡ at = turn.0 in let some_slot = r.some_slot in let width = r.width in
      let e : GroupEntry A R = entry cs rs in let log : List (GroupEntry A R) = f.log ++ e ∷ [] in let count : length log ≡ length f.log + 1 = length-append f.log (e ∷ []) in
      let g : Facts S A R = facts_recorded id cs rs y f in let w : V = holding (Owes new y (dones (length f.log) 0 cs rs)) v in
      let first : moves f.value (asks_in cs) rs y = subst (λ (z : S). moves z (asks_in cs) rs y) turn.2 allowed in
      let now : get_or (set s.words 0 new) 0 0 ≡ new = get_or-set_same s.words 0 new 0 (omega arith) in (
        w,
        keeps,
        tt,
        record {
          facts = g;
          leads = leads_snoc moves opening f.log f.value e y r.leads first;
          short = omega arith;
          width = length-set s.words 0 new ∙ width;
          some_slot = some_slot;
          word = now ∙ omega arith;
          one = omega arith;
          at_home = λ z. absurd (omega arith);
          desks = λ i a b.
              let old = desk_recorded cs rs f i (get_or s.words i 0) (get_elem? s.homes i) turn.3 (r.desks i a b) in
              subst (λ (z : ℕ). DeskIs takes (g.stage i) z (get_elem? s.homes i)) (sym (get_or-set_other s.words 0 i new 0 (λ e. omega arith))) old;
          seats = subst (λ (z : ℕ). (j : ℕ) (d : V) → get_elem? (set s.views id w) j ≡ m.some d → d.live ≡ true → Seated opening g z s.homes j d) (sym now)
              (views_stay takes moves opening (λ j d. d.live ≡ true → Seated opening g new s.homes j d) s.views id w
              (λ _. record {
                from = known.from;
                seen = prefix_more v.seen f.log (e ∷ []) known.seen;
                also = prefix_more v.also f.log (e ∷ []) known.also;
                in_place = place_recorded id cs rs y f (length s.homes) id v.sits turn.3 known.in_place;
                in_turn = (refl, refl, refl, settled_owes (length f.log) 0 cs rs f.stage turn.3);
                idle = λ z. absurd (omega arith);
              })
              (λ j d other there alive.
              let old = r.seats j d there alive in let idle = not_in_turn f (get_or s.words 0 0) s.homes j d.turn old.in_turn (λ h. other (h ∙ turn.1)) in record {
                from = old.from;
                seen = prefix_more d.seen f.log (e ∷ []) old.seen;
                also = prefix_more d.also f.log (e ∷ []) old.also;
                in_place = place_recorded id cs rs y f (length s.homes) j d.sits turn.3 old.in_place;
                in_turn = subst (InTurn g new s.homes j) (sym idle) tt;
                idle = λ _. idle;
              }));
        },
        (
          rs,
          y,
          length f.log,
          said_is,
          refl,
          λ b z ds p. let same : Leads at x cs ≡ Leads b z ds = sym leads ∙ p in let three : cs ≡ ds = cc same in ap (λ (q : List (Asked A)). holding (Owes new y (dones (length f.log) 0 q rs)) v) three,
        ),
      )
