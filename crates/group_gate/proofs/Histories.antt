-- Legal histories, and what was asked at one place.
use Rattle.std.proofs.Common.{◌≡◌, ◌≢◌, ℕ, ◌+◌, cond, List, [], ◌∷◌, ◌++◌, length, refl, ap, sym, ◌∙◌, subst, arith, append_assoc, append-nil, eq-eqb, ne_eqb}
use mathlib.Core.List.{IsPrefix}
use Rattle.group_gate.specs.declared.view.Asked.{Asked}
use Rattle.group_gate.specs.declared.view.GroupEntry.{GroupEntry}
use Rattle.group_gate.specs.declared.view.Done.{Done}
use Rattle.group_gate.specs.History.{HistoryLeadsTo, LegalHistory, asks_in, done, made_in, made_from, made_at}

module _ {S A R : Type 0} (moves : S → List A → List R → S → Type 0) where
  -- one more step at the end
  pub leads_snoc : (a : S) (es : List (GroupEntry A R)) (b : S) (e : GroupEntry A R) (c : S) → HistoryLeadsTo moves a es b → moves b (asks_in e.asks) e.answers c → HistoryLeadsTo moves a (es ++ e ∷ []) c
  leads_snoc a [] b e c l m = let first : moves a (asks_in e.asks) e.answers c = subst (λ (z : S). moves z (asks_in e.asks) e.answers c) (sym l) m in (c, first, refl)
  leads_snoc a (x ∷ xs) b e c l m = (l.0, l.1, leads_snoc l.0 xs b e c l.2 m)

  -- a prefix of a legal history is legal
  pub legal_front : (a : S) (es fs : List (GroupEntry A R)) (b : S) → HistoryLeadsTo moves a (es ++ fs) b → LegalHistory moves a es
  legal_front a [] fs b l = (a, refl)
  legal_front a (x ∷ xs) fs b l = let r = legal_front l.0 xs fs b l.2 in (r.0, (l.0, l.1, r.1))

  pub legal_prefix : (a : S) (es fs : List (GroupEntry A R)) (b : S) → IsPrefix es fs → HistoryLeadsTo moves a fs b → LegalHistory moves a es
  legal_prefix a es fs b p l = legal_front a es p.0 b (subst (λ (z : List (GroupEntry A R)). HistoryLeadsTo moves a z b) (sym p.1) l)

module _ {A R : Type 0} where
  pub made_append : (i p : ℕ) (xs ys : List (GroupEntry A R)) → made_from i p (xs ++ ys) ≡ made_from i p xs ++ made_from i (p + length xs) ys
  made_append i p [] ys = ap (λ (z : ℕ). made_from i z ys) (omega arith)
  made_append i p (x ∷ xs) ys =
      let next : (p + 1) + length xs ≡ p + length (x ∷ xs) = omega arith in
      let rest : made_from i (p + 1) (xs ++ ys) ≡ made_from i (p + 1) xs ++ made_from i (p + length (x ∷ xs)) ys = made_append i (p + 1) xs ys ∙ ap (λ (z : ℕ). made_from i (p + 1) xs ++ made_from i z ys) next in
      let here : List (Done A R) = made_in i p 0 x.asks x.answers in
      ap (λ (z : List (Done A R)). here ++ z) rest ∙ sym (append_assoc here (made_from i (p + 1) xs) (made_from i (p + length (x ∷ xs)) ys))

  -- one more entry adds what it has of the place
  pub made_snoc : (i : ℕ) (xs : List (GroupEntry A R)) (e : GroupEntry A R) → made_at i (xs ++ e ∷ []) ≡ made_at i xs ++ made_in i (length xs) 0 e.asks e.answers
  made_snoc i xs e =
      let at : 0 + length xs ≡ length xs = omega arith in
      made_append i 0 xs (e ∷ [])
      ∙ (ap (λ (z : List (Done A R)). made_at i xs ++ z) (append-nil (made_in i (0 + length xs) 0 e.asks e.answers))
      ∙ ap (λ (k : ℕ). made_at i xs ++ made_in i k 0 e.asks e.answers) at)

  pub made_hit : (i p k : ℕ) (c : Asked A) (cs : List (Asked A)) (r : R) (rs : List R) → c.place ≡ i → made_in i p k (c ∷ cs) (r ∷ rs) ≡ done i p k c.ask r ∷ made_in i p (k + 1) cs rs
  made_hit i p k c cs r rs h = ap (λ b. cond b (done i p k c.ask r ∷ made_in i p (k + 1) cs rs) (made_in i p (k + 1) cs rs)) (eq-eqb c.place i h)

  pub made_miss : (i p k : ℕ) (c : Asked A) (cs : List (Asked A)) (r : R) (rs : List R) → c.place ≢ i → made_in i p k (c ∷ cs) (r ∷ rs) ≡ made_in i p (k + 1) cs rs
  made_miss i p k c cs r rs h = ap (λ b. cond b (done i p k c.ask r ∷ made_in i p (k + 1) cs rs) (made_in i p (k + 1) cs rs)) (ne_eqb c.place i h)
