-- What was asked at a place stands in the history where it says.
use Rattle.std.proofs.Common.{◌≡◌, ℕ, suc, ◌+◌, List, [], ◌∷◌, ◌++◌, refl, ap, sym, ◌∙◌, subst, arith}
use mathlib.Core.Logic.{dite}
use mathlib.Core.Option as m
use native.Mathlib.Decide.{ℕ_discrete}
use lib.ListN.{get_elem?}
use Rattle.group_gate.specs.declared.view.Asked.{Asked}
use Rattle.group_gate.specs.declared.view.GroupEntry.{GroupEntry}
use Rattle.group_gate.specs.declared.view.Done.{Done}
use Rattle.group_gate.specs.History.{asked, made_in, made_from, made_at}
use Rattle.group_gate.proofs.Histories.{made_hit, made_miss}

module _ {X : Type 0} where
  abbrev pub Each : (X → Type 0) → List X → Type 0
  Each P [] = Unit {0}
  Each P (x ∷ xs) = P x × Each P xs

  each_map : (P Q : X → Type 0) (xs : List X) → ((x : X) → P x → Q x) → Each P xs → Each Q xs
  each_map P Q [] f h = tt
  each_map P Q (x ∷ xs) f h = (f x h.0, each_map P Q xs f h.1)

  each_append : (P : X → Type 0) (xs ys : List X) → Each P xs → Each P ys → Each P (xs ++ ys)
  each_append P [] ys h k = k
  each_append P (x ∷ xs) ys h k = (h.0, each_append P xs ys h.1 k)

  each_last : (P : X → Type 0) (xs : List X) (x : X) → Each P (xs ++ x ∷ []) → P x
  each_last P [] x h = h.0
  each_last P (y ∷ ys) x h = each_last P ys x h.1

module _ {A R : Type 0} where
  abbrev InEntry : ℕ → ℕ → ℕ → List (Asked A) → List R → Done A R → Type 0
  InEntry i p k cs rs d = (n : ℕ) × (d.entry ≡ p) × (d.index ≡ k + n) × (get_elem? cs n ≡ m.some (asked i d.ask)) × (get_elem? rs n ≡ m.some d.answer)

  in_entry : (i p k : ℕ) (cs : List (Asked A)) (rs : List R) → Each (InEntry i p k cs rs) (made_in i p k cs rs)
  in_entry i p k [] rs = tt
  in_entry i p k (c ∷ cs) [] = tt
  in_entry i p k (c ∷ cs) (r ∷ rs) =
      let rest : Each (InEntry i p k (c ∷ cs) (r ∷ rs)) (made_in i p (k + 1) cs rs) =
      each_map (InEntry i p (k + 1) cs rs) (InEntry i p k (c ∷ cs) (r ∷ rs)) (made_in i p (k + 1) cs rs) (λ d h. (suc h.0, h.1, h.2 ∙ omega arith, h.3, h.4)) (in_entry i p (k + 1) cs rs) in
      dite (ℕ_discrete c.place i)
      (λ e. subst (Each (InEntry i p k (c ∷ cs) (r ∷ rs))) (sym (made_hit i p k c cs r rs e)) ((0, refl, omega arith, ap (λ (z : ℕ). m.some (asked z c.ask)) e, refl), rest))
      (λ ne. subst (Each (InEntry i p k (c ∷ cs) (r ∷ rs))) (sym (made_miss i p k c cs r rs ne)) rest)

  abbrev pub StandsIn : ℕ → ℕ → List (GroupEntry A R) → Done A R → Type 0
  StandsIn i p es d = (n : ℕ) × (e : GroupEntry A R) × (d.entry ≡ p + n) × (get_elem? es n ≡ m.some e) × (get_elem? e.asks d.index ≡ m.some (asked i d.ask)) × (get_elem? e.answers d.index ≡ m.some d.answer)

  each_stands : (i p : ℕ) (es : List (GroupEntry A R)) → Each (StandsIn i p es) (made_from i p es)
  each_stands i p [] = tt
  each_stands i p (e ∷ es) = each_append (StandsIn i p (e ∷ es)) (made_in i p 0 e.asks e.answers) (made_from i (p + 1) es)
      (each_map (InEntry i p 0 e.asks e.answers) (StandsIn i p (e ∷ es)) (made_in i p 0 e.asks e.answers)
      (λ d h.
      let at : h.0 ≡ d.index = omega (arith, h.2) in
      (0, e, h.1 ∙ omega arith, refl, subst (λ (k : ℕ). get_elem? e.asks k ≡ m.some (asked i d.ask)) at h.3, subst (λ (k : ℕ). get_elem? e.answers k ≡ m.some d.answer) at h.4))
      (in_entry i p 0 e.asks e.answers))
      (each_map (StandsIn i (p + 1) es) (StandsIn i p (e ∷ es)) (made_from i (p + 1) es) (λ d h. (suc h.0, h.1, h.2 ∙ omega arith, h.3, h.4, h.5)) (each_stands i (p + 1) es))

  -- the last that was asked at the place stands in its entry
  pub last_stands : (i : ℕ) (es : List (GroupEntry A R)) (before : List (Done A R)) (d : Done A R) → made_at i es ≡ before ++ d ∷ []
      → (e : GroupEntry A R) × (get_elem? es d.entry ≡ m.some e) × (get_elem? e.asks d.index ≡ m.some (asked i d.ask)) × (get_elem? e.answers d.index ≡ m.some d.answer)
  last_stands i es before d is =
      let h : StandsIn i 0 es d = each_last (StandsIn i 0 es) before d (subst (Each (StandsIn i 0 es)) is (each_stands i 0 es)) in
      let at : h.0 ≡ d.entry = omega (arith, h.2) in
      (h.1, subst (λ (k : ℕ). get_elem? es k ≡ m.some h.1) at h.3, h.4, h.5)
