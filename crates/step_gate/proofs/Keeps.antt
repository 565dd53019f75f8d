-- Each step of a gate keeps its rule.
use Rattle.std.proofs.Common.{◌≡◌, ◌≢◌, ℕ, zero, suc, ◌+◌, ◌*◌, ◌%◌, ◌^◌, ◌<◌, ◌≤◌, eqb, ltb, true, false, Option, Some, List, [], ◌∷◌, ◌++◌, length, get_or, set, sym, refl, ap, ◌∙◌, subst, inl, inr, ◌⊎◌, Bool, cond, ⊎_elim, arith, length-set, length-append, get_or-set_same, eq-eqb, ne_eqb}
use mathlib.Core.Logic.{dite}
use mathlib.Core.Option as m
use mathlib.Core.List.{IsPrefix}
use native.Mathlib.Decide.{ℕ_discrete}
use lib.ListN.{get_elem?}
use lib.Seq.{set-get_or}
use prog.Atomic.{either}
use Rattle.atomic_table.specs.Table.{State, Me, step, keeps, takes, gives, stepped, Allows, Splits, Joins, Final, Seen}
use Rattle.atomic_table.proofs.Lists.{at_set, set_again, set_else, set_here}
use Rattle.std.proofs.lemmas.Bool.{ltb-true}
use Rattle.step_gate.specs.declared.view.HistoryEntry.{HistoryEntry}
use Rattle.step_gate.specs.declared.view.Made.{Made}
use Rattle.step_gate.specs.declared.view.View.{View}
use Rattle.step_gate.specs.declared.view.Turn.{Turn}
use Rattle.step_gate.specs.declared.view.Turn.TheVariants.{Idle, Has, Shut}
use Rattle.step_gate.specs.History.{HistoryLeadsTo, entry, made, made_by}
use Rattle.step_gate.specs.Kept.{InTurn, newcomer, ended, told, both, holding, called, Fits, Seated, Kept, took, added, gave_up, looked, closed}
use Rattle.step_gate.proofs.Beginnings.{prefix_self, prefix_none, prefix_more, prefix_shorter, in_length}
use Rattle.step_gate.proofs.Histories.{leads_snoc, legal_prefix, made_own, made_else, made_between, made_none}

module _ {S : Type 0} where
  -- a seat that does not have the turn is idle
  not_in_turn : (word : ℕ) (value : S) (homes : List (m.Option S)) (holder by : ℕ) (t : Turn S) → InTurn word value homes holder by t → by ≢ holder → t ≡ Idle
  not_in_turn word value homes holder by Idle h n = refl
  not_in_turn word value homes holder by (Has at x) h n = absurd (n (sym (h.1)))
  not_in_turn word value homes holder by Shut h n = absurd (n (sym (h.0)))

  idle_fits : (word : ℕ) (value : S) (homes : List (m.Option S)) (holder by : ℕ) (t : Turn S) → t ≡ Idle → InTurn word value homes holder by t
  idle_fits word value homes holder by t h = subst (InTurn word value homes holder by) (sym h) tt

module _ {A : Type 0} where
  at_end : (l : List A) (a b : A) (j : ℕ) → get_elem? (l ++ a ∷ []) j ≡ m.some b → (get_elem? l j ≡ m.some b) ⊎ ((j ≡ length l) × (a ≡ b))
  at_end [] a b zero e = inr (refl, m.some-injective a b e)
  at_end [] a b (suc j) e = absurd (m.some-ne-none b (sym e))
  at_end (x ∷ xs) a b zero e = inl e
  at_end (x ∷ xs) a b (suc j) e = ⊎_elim (λ t. inl t) (λ t. let n = t.0 in inr (omega arith, t.1)) (at_end xs a b j e)

  only_one : (w v : A) (by : ℕ) → get_elem? (w ∷ []) by ≡ m.some v → (by ≡ 0) × (w ≡ v)
  only_one w v zero e = (refl, m.some-injective w v e)
  only_one w v (suc k) e = absurd (m.some-ne-none v (sym e))

module _ {S E R : Type 0} (moves : S → E → R → S → Type 0) (opening : S) where
  abbrev V : Type 0
  V = View S E R

  abbrev St : Type 0
  St = State S V

  abbrev Rule : St → Type 0
  Rule = Kept moves opening

  abbrev word_of : St → ℕ
  word_of s = get_or s.words 0 0

  views_stay : (K : ℕ → V → Type 0) (vs : List V) (me : ℕ) (w : V) → K me w → ((j : ℕ) (d : V) → j ≢ me → get_elem? vs j ≡ m.some d → K j d)
      → (j : ℕ) (d : V) → get_elem? (set vs me w) j ≡ m.some d → K j d
  views_stay K vs me w mine others j d e = ⊎_elim (λ (t : (j ≡ me) × (w ≡ d)). subst (λ (x : ℕ × V). K x.0 x.1) (λ i. (sym t.0 i, t.1 i)) mine)
      (λ (t : (j ≢ me) × (get_elem? vs j ≡ m.some d)). others j d t.0 t.1) (at_set vs me j w d e)

  -- the table after a step that leaves the word at `word`
  moved : (s : St) (r : Rule s) (word : ℕ) (homes : List (m.Option S)) (id : ℕ) (w : V) (log : List (HistoryEntry E R)) (value : S) (taken : ℕ) → HistoryLeadsTo moves opening log value → length log ≤ 2 ^ 62
      → word ≡ 2 * length log + taken → taken < 2 → (taken ≡ 0 → get_elem? homes 0 ≡ m.some (m.some value)) → Seated opening log word value homes id taken id w
      → ((j : ℕ) (d : V) → j ≢ id → get_elem? s.views j ≡ m.some d → d.live ≡ true → Seated opening log word value homes id taken j d)
      → ((by : ℕ) → length s.views ≤ by → made_by by log ≡ [])
      → Rule record { words = set s.words 0 word; homes = homes; views = set s.views id w }
  moved s r word homes id w log value taken leads short is one home mine others fresh =
      let wide = r.width in let now : get_or (set s.words 0 word) 0 0 ≡ word = get_or-set_same s.words 0 word 0 (omega arith) in record {
        log = log;
        value = value;
        holder = id;
        taken = taken;
        leads = leads;
        short = short;
        width = length-set s.words 0 word ∙ wide;
        word = now ∙ is;
        one = one;
        at_home = home;
        seats = subst (λ (z : ℕ). (j : ℕ) (d : V) → get_elem? (set s.views id w) j ≡ m.some d → d.live ≡ true → Seated opening log z value homes id taken j d) (sym now)
            (views_stay (λ j d. d.live ≡ true → Seated opening log word value homes id taken j d) s.views id w (λ _. mine) others);
        fresh = λ by le. let l = length-set s.views id w in fresh by (omega arith);
      }

  -- a step that changes no word and no slot
  unmoved : (s : St) (r : Rule s) (id : ℕ) (cs : List (ℕ × S)) (w : V) → (w.live ≡ true → Seated opening r.log (word_of s) r.value s.homes r.holder r.taken id w) → Rule (stepped s 0 (word_of s) id cs w keeps)
  unmoved s r id cs w mine = subst (λ (ws : List ℕ). Rule record { words = ws; homes = s.homes; views = set s.views id w }) (sym (set-get_or s.words 0 0)) record {
    log = r.log;
    value = r.value;
    holder = r.holder;
    taken = r.taken;
    leads = r.leads;
    short = r.short;
    width = r.width;
    word = r.word;
    one = r.one;
    at_home = r.at_home;
    seats = views_stay (λ j d. d.live ≡ true → Seated opening r.log (word_of s) r.value s.homes r.holder r.taken j d) s.views id w mine (λ j d _. r.seats j d);
    fresh = λ by le. let l = length-set s.views id w in r.fresh by (omega arith);
  }

  pub opens : Rule record { words = 0 ∷ []; homes = m.some opening ∷ []; views = newcomer opening ∷ [] }
  opens = record {
    log = [];
    value = opening;
    holder = 0;
    taken = 0;
    leads = refl;
    short = omega arith;
    width = refl;
    word = refl;
    one = omega arith;
    at_home = λ _. refl;
    seats = λ by v at _. let one = only_one (newcomer opening) v by at in subst (λ (z : ℕ × V). Seated opening [] 0 opening (m.some opening ∷ []) 0 0 z.0 z.1) (λ i. (sym one.0 i, one.1 i)) record {
      fits = record { from = refl; seen = prefix_none []; also = prefix_none []; mine = refl; own = refl; number = λ _. refl; apart = λ z. absurd (cc z) };
      in_turn = tt;
      free = λ _. refl;
    };
    fresh = λ by le. refl;
  }

  pub takes_turn : (slots id : ℕ) (me : Me S V) (old new : ℕ) → me.0.live ≡ true → me.1 ≡ [] → old % 2 ≡ 0 → new ≡ old + 1
      → Allows Rule slots id me 0 (λ n. either (eqb n old) new n) (took moves (step slots 0 old new m.none) me)
  takes_turn slots id me old new live none even up s r wide at small =
      let x : ℕ = word_of s in let mine = r.seats id me.0 at live in let is = r.word in let one = r.one in dite (ℕ_discrete x old)
      (λ hit. let free : r.taken ≡ 0 = omega arith in let w : V = holding (Has new r.value) me.0 in (
        w,
        takes 0 r.value,
        r.at_home free,
        subst (λ b. Rule (stepped s 0 (either b new x) id me.1 w (takes 0 r.value))) (sym (eq-eqb x old hit))
            (moved s r new (set s.homes 0 m.none) id w r.log r.value 1 r.leads r.short (omega arith) (omega arith) (λ z. absurd (omega arith))
            record { fits = record { from = mine.fits.from; seen = mine.fits.seen; also = mine.fits.also; mine = mine.fits.mine; own = mine.fits.own; number = mine.fits.number; apart = mine.fits.apart }; in_turn = (refl, refl, refl); free = λ z. absurd (omega arith) }
            (λ j d other e alive. let old_seat = r.seats j d e alive in record { fits = old_seat.fits; in_turn = idle_fits new r.value (set s.homes 0 m.none) id j d.turn (old_seat.free free); free = λ z. absurd (omega arith) })
            r.fresh),
        ((λ _. (r.value, refl, ap (λ (z : List (ℕ × S)). (0, r.value) ∷ z) none)), λ miss. absurd (miss hit)),
      ))
      (λ miss. (
        me.0,
        keeps,
        tt,
        subst (λ b. Rule (stepped s 0 (either b new x) id me.1 me.0 keeps)) (sym (ne_eqb x old miss)) (unmoved s r id me.1 me.0 (λ _. mine)),
        ((λ hit. absurd (miss hit)), λ _. (refl, none)),
      ))

  opened : (v : V) (z : S) → v.opening ≡ Some opening → v.opening ≡ Some z → opening ≡ z
  opened v z p q = cc (p, q)

  -- what another seat knows, if an entry of this one is added to the history
  fits_more : (log : List (HistoryEntry E R)) (e : HistoryEntry E R) (by : ℕ) (v : V) → by ≢ e.by → Fits opening log by v → Fits opening (log ++ e ∷ []) by v
  fits_more log e by v other f = record {
    from = f.from;
    seen = prefix_more v.seen log (e ∷ []) f.seen;
    also = prefix_more v.also log (e ∷ []) f.also;
    mine = made_else by log e (λ h. other (sym h)) ∙ f.mine;
    own = f.own;
    number = f.number;
    apart = f.apart;
  }

  pub adds : (slots id : ℕ) (v : V) (x y : S) (at new : ℕ) (said : Option (E × R)) (event : E) (reply : R) → 0 < slots → v.live ≡ true → v.named ≡ true → v.turn ≡ Has at x → said ≡ Some (event, reply) → moves x event reply y
      → at < 2 ^ 63 → at % 2 ≡ 1 → new ≡ at + 1
      → Allows Rule slots id (v, (0, y) ∷ []) 0 (λ _. new) (λ _. added moves said (step slots 0 new 0 m.none) (v, (0, y) ∷ []) new)
  adds slots id v x y at new said event reply some_slot live named has said_is allowed below odd up s r wide here small =
      let mine = r.seats id v here live in
      let turn = subst (InTurn (word_of s) r.value s.homes r.holder id) has mine.in_turn in
      let word = r.word in let one = r.one in let at_is : word_of s ≡ at = turn.0 in
      let id_is : v.number ≡ id = mine.fits.number named in
      let e : HistoryEntry E R = entry v.number event reply in
      let log : List (HistoryEntry E R) = r.log ++ e ∷ [] in
      let count : length log ≡ length r.log + 1 = length-append r.log (e ∷ []) in
      let leads : HistoryLeadsTo moves opening log y = leads_snoc moves opening r.log r.value e y r.leads (subst (λ (z : S). moves z event reply y) (turn.2) allowed) in
      let own : made_by id log ≡ v.mine ++ made (length r.log) e ∷ [] = made_own id r.log e id_is ∙ ap (λ (z : List (Made E R)). z ++ made (length r.log) e ∷ []) mine.fits.mine in
      let w : V = record { live = v.live; opening = v.opening; seen = log; mine = v.mine ++ made (length r.log) e ∷ []; also = v.also; named = v.named; number = v.number; met = v.met; other = v.other; turn = Idle } in
      let others : (j : ℕ) → j ≢ id → j ≢ r.holder = λ j n h. n (h ∙ turn.1) in (
        w,
        gives,
        tt,
        moved s r new (set s.homes 0 (m.some y)) id w log y 0 leads (omega arith) (omega arith) (omega arith) (λ _. set_here s.homes 0 (m.some y) (omega arith))
            record {
              fits = record { from = mine.fits.from; seen = prefix_self log; also = prefix_more v.also r.log (e ∷ []) mine.fits.also; mine = own; own = own; number = mine.fits.number; apart = mine.fits.apart };
              in_turn = tt;
              free = λ _. refl;
            }
            (λ j d other there alive. let old_seat = r.seats j d there alive in let idle : d.turn ≡ Idle = not_in_turn (word_of s) r.value s.homes r.holder j d.turn old_seat.in_turn (others j other) in record {
              fits = fits_more r.log e j d (λ h. other (h ∙ id_is)) old_seat.fits;
              in_turn = idle_fits new y (set s.homes 0 (m.some y)) id j d.turn idle;
              free = λ _. idle;
            })
            (λ by le. let inside = in_length s.views id v here in made_else by r.log e (λ h. let k : id ≡ by = sym id_is ∙ h in omega arith) ∙ r.fresh by le),
        (
          (event, reply),
          said_is,
          record {
            between = mine.fits.seen.0;
            seen = ap (λ (z : List (HistoryEntry E R)). z ++ e ∷ []) (sym mine.fits.seen.1);
            mine = ap (λ (z : List (HistoryEntry E R)). v.mine ++ made (length z) e ∷ []) (sym mine.fits.seen.1);
            small = omega arith;
            knows = record { legal = λ z is. (y, subst (λ (z : S). HistoryLeadsTo moves z log y) (opened v z mine.fits.from is) leads); own = ap (λ (k : ℕ). made_by k log) id_is ∙ own };
            stays = record { live = live; opening = refl; named = named; number = refl; turn = refl };
          },
          refl,
        ),
      )

  -- a seat that has the turn gives it up
  pub gives_up : (slots id : ℕ) (v : V) (x : S) (at new : ℕ) → 0 < slots → v.live ≡ true → v.named ≡ true → v.turn ≡ Has at x → at % 2 ≡ 1 → new + 1 ≡ at
      → Allows Rule slots id (v, (0, x) ∷ []) 0 (λ _. new) (λ _. gave_up moves (step slots 0 new 0 m.none) (v, (0, x) ∷ []) new)
  gives_up slots id v x at new some_slot live named has odd down s r wide here small =
      let mine = r.seats id v here live in
      let turn = subst (InTurn (word_of s) r.value s.homes r.holder id) has mine.in_turn in
      let word = r.word in let one = r.one in let at_is : word_of s ≡ at = turn.0 in
      let id_is : v.number ≡ id = mine.fits.number named in
      let count : new ≡ 2 * length r.log = omega arith in
      let back : get_elem? (set s.homes 0 (m.some x)) 0 ≡ m.some (m.some r.value) = set_here s.homes 0 (m.some x) (omega arith) ∙ ap (λ (z : S). m.some (m.some z)) (turn.2) in
      let w : V = record { live = v.live; opening = v.opening; seen = r.log; mine = v.mine; also = v.also; named = v.named; number = v.number; met = v.met; other = v.other; turn = Idle } in (
        w,
        gives,
        tt,
        moved s r new (set s.homes 0 (m.some x)) id w r.log r.value 0 r.leads r.short (omega arith) (omega arith) (λ _. back)
            record {
              fits = record { from = mine.fits.from; seen = prefix_self r.log; also = mine.fits.also; mine = mine.fits.mine; own = mine.fits.mine; number = mine.fits.number; apart = mine.fits.apart };
              in_turn = tt;
              free = λ _. refl;
            }
            (λ j d other there alive. let old_seat = r.seats j d there alive in let idle : d.turn ≡ Idle = not_in_turn (word_of s) r.value s.homes r.holder j d.turn old_seat.in_turn (λ h. other (h ∙ turn.1)) in record {
              fits = old_seat.fits;
              in_turn = idle_fits new r.value (set s.homes 0 (m.some x)) id j d.turn idle;
              free = λ _. idle;
            })
            r.fresh,
        (
          length r.log,
          count,
          record {
            seen = mine.fits.seen;
            count_is = refl;
            mine = refl;
            knows = record { legal = λ z is. (r.value, subst (λ (z : S). HistoryLeadsTo moves z r.log r.value) (opened v z mine.fits.from is) r.leads); own = ap (λ (k : ℕ). made_by k r.log) id_is ∙ mine.fits.mine };
            stays = record { live = live; opening = refl; named = named; number = refl; turn = refl };
          },
          refl,
        ),
      )

  -- a seat that has the turn keeps it for good, and the value goes back into its slot
  pub closes : (slots id : ℕ) (v : V) (x : S) (at : ℕ) → 0 < slots → v.live ≡ true → v.turn ≡ Has at x → at % 2 ≡ 1
      → Allows Rule slots id (v, (0, x) ∷ []) 0 (λ _. at) (λ _. closed moves (step slots 0 at 0 m.none) (v, (0, x) ∷ []) at)
  closes slots id v x at some_slot live has odd s r wide here small =
      let mine = r.seats id v here live in
      let turn = subst (InTurn (word_of s) r.value s.homes r.holder id) has mine.in_turn in
      let word = r.word in let one = r.one in let at_is : word_of s ≡ at = turn.0 in
      let back : get_elem? (set s.homes 0 (m.some x)) 0 ≡ m.some (m.some r.value) = set_here s.homes 0 (m.some x) (omega arith) ∙ ap (λ (z : S). m.some (m.some z)) (turn.2) in
      let w : V = holding Shut v in (
        w,
        gives,
        tt,
        moved s r at (set s.homes 0 (m.some x)) id w r.log r.value 1 r.leads r.short (omega arith) (omega arith) (λ _. back)
            record {
              fits = record { from = mine.fits.from; seen = mine.fits.seen; also = mine.fits.also; mine = mine.fits.mine; own = mine.fits.own; number = mine.fits.number; apart = mine.fits.apart };
              in_turn = (refl, back);
              free = λ z. absurd (omega arith);
            }
            (λ j d other there alive. let old_seat = r.seats j d there alive in let idle : d.turn ≡ Idle = not_in_turn (word_of s) r.value s.homes r.holder j d.turn old_seat.in_turn (λ h. other (h ∙ turn.1)) in record {
              fits = old_seat.fits;
              in_turn = idle_fits at r.value (set s.homes 0 (m.some x)) id j d.turn idle;
              free = λ z. absurd (omega arith);
            })
            r.fresh,
        (refl, refl),
      )

  -- a seat learns its number
  pub looks : (slots id : ℕ) (me : Me S V) → me.0.live ≡ true → Allows Rule slots id me 0 (λ n. n) (looked moves (step slots 0 0 0 m.none) me)
  looks slots id me live s r wide here small =
      let v : V = me.0 in let mine = r.seats id v here live in let f = mine.fits in
      let number : v.named ≡ true → id ≡ v.number = λ n. sym (f.number n) in (
        called id v,
        keeps,
        tt,
        unmoved s r id me.1 (called id v) (λ _. record {
          fits = record { from = f.from; seen = f.seen; also = f.also; mine = f.mine; own = f.own; number = λ _. refl; apart = f.apart };
          in_turn = mine.in_turn;
          free = mine.free;
        }),
        (
          refl,
          refl,
          record {
            legal = λ z is. legal_prefix moves z v.seen r.log r.value f.seen (subst (λ (z : S). HistoryLeadsTo moves z r.log r.value) (opened v z f.from is) r.leads);
            own = f.own;
          },
          number,
          λ le. prefix_shorter v.also v.seen r.log f.also f.seen le,
          f.apart,
        ),
      )

  pub splits : (id : ℕ) (v : V) → Splits Rule id v v (told v)
  splits id v s r here = subst (λ (vs : List V). Rule record { words = s.words; homes = s.homes; views = vs ++ told v ∷ [] }) (sym (set_again s.views id v here)) record {
    log = r.log;
    value = r.value;
    holder = r.holder;
    taken = r.taken;
    leads = r.leads;
    short = r.short;
    width = r.width;
    word = r.word;
    one = r.one;
    at_home = r.at_home;
    seats = λ by d there alive. ⊎_elim (λ (t : get_elem? s.views by ≡ m.some d). r.seats by d t alive)
        (λ (t : (by ≡ length s.views) × (told v ≡ d)).
        let live : v.live ≡ true = ap (λ (z : V). z.live) (t.1) ∙ alive in let f = (r.seats id v here live).fits in
        let none : made_by by r.log ≡ [] = let b = t.0 in r.fresh by (omega arith) in
        subst (λ (z : V). Seated opening r.log (word_of s) r.value s.homes r.holder r.taken by z) (t.1) record {
          fits = record { from = f.from; seen = f.seen; also = prefix_none r.log; mine = none; own = made_none by v.seen r.log f.seen none; number = λ h. absurd (cc h); apart = λ z e. let k = f.number z in let i = in_length s.views id v here in let b = t.0 in omega arith };
          in_turn = tt;
          free = λ _. refl;
        })
        (at_end s.views (told v) d by there);
    fresh = λ by le. let l = length-append s.views (told v ∷ []) in r.fresh by (omega arith);
  }

  both_fit : (log : List (HistoryEntry E R)) (id other : ℕ) (v w : V) (b : Bool) → ltb (length v.seen) (length w.seen) ≡ b → ¬ (other ≡ id) → Fits opening log id v → Fits opening log other w
      → Fits opening log id record { live = v.live; opening = v.opening; seen = cond b w.seen v.seen; mine = v.mine; also = cond b v.seen w.seen; named = v.named; number = v.number; met = w.named; other = w.number; turn = v.turn }
  both_fit log id other v w true is n f g = let below : length v.seen < length w.seen = ltb-true (length v.seen) (length w.seen) is in record {
    from = f.from;
    seen = g.seen;
    also = f.seen;
    mine = f.mine;
    own = made_between id v.seen w.seen log (prefix_shorter v.seen w.seen log f.seen g.seen (omega arith)) g.seen (f.own ∙ sym f.mine) ∙ f.own;
    number = f.number;
    apart = λ z e. n (sym (g.number z) ∙ e);
  }
  both_fit log id other v w false is n f g = record { from = f.from; seen = f.seen; also = g.seen; mine = f.mine; own = f.own; number = f.number; apart = λ z e. n (sym (g.number z) ∙ e) }

  pub joins : (id : ℕ) (v : V) (other : ℕ) (w : V) → v.live ≡ true → w.live ≡ true → Joins Rule id v other w (both v w) ended
  joins id v other w live alive s r here apart there =
      let mine = r.seats id v here live in let before : get_elem? s.views other ≡ m.some w = sym (set_else s.views id other (both v w) apart) ∙ there in
      let given = r.seats other w before alive in record {
        log = r.log;
        value = r.value;
        holder = r.holder;
        taken = r.taken;
        leads = r.leads;
        short = r.short;
        width = r.width;
        word = r.word;
        one = r.one;
        at_home = r.at_home;
        seats = views_stay (λ j d. d.live ≡ true → Seated opening r.log (word_of s) r.value s.homes r.holder r.taken j d) (set s.views id (both v w)) other ended (λ h. absurd (cc h))
            (λ j d _. views_stay (λ j d. d.live ≡ true → Seated opening r.log (word_of s) r.value s.homes r.holder r.taken j d) s.views id (both v w)
            (λ _. record { fits = both_fit r.log id other v w (ltb (length v.seen) (length w.seen)) refl apart mine.fits given.fits; in_turn = mine.in_turn; free = mine.free })
            (λ j d _. r.seats j d) j d);
        fresh = λ by le. let a = length-set (set s.views id (both v w)) other ended in let b = length-set s.views id (both v w) in r.fresh by (omega arith);
      }

  -- the closed table gives back the value to which some history leads that begins with what the last seat has seen
  pub ends : (id : ℕ) (v : V) (ws : List ℕ) (xs : List S) (x : S) → v.live ≡ true → v.turn ≡ Shut → Final (Seen Rule id v) ws xs → get_elem? xs 0 ≡ m.some x → (h : List (HistoryEntry E R)) × IsPrefix v.seen h × HistoryLeadsTo moves opening h x
  ends id v ws xs x live shut (s, (r, here), words, len, values) at =
      let mine = r.seats id v here live in
      let turn = subst (InTurn (word_of s) r.value s.homes r.holder id) shut mine.in_turn in
      let same : r.value ≡ x = m.some-injective r.value x (sym (values 0 r.value turn.1) ∙ at) in
      (r.log, mine.fits.seen, subst (HistoryLeadsTo moves opening r.log) same r.leads)
