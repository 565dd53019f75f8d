-- Legal histories, and the entries of one seat.
use Rattle.std.proofs.Common.{◌≡◌, ◌≢◌, ℕ, ◌+◌, ◌==◌, cond, true, false, List, [], ◌∷◌, ◌++◌, length, refl, ap, sym, ◌∙◌, subst, arith, append_assoc, append-nil, length-append, eq-eqb, ne_eqb}
use mathlib.Core.List.{IsPrefix}
use Rattle.step_gate.specs.declared.view.HistoryEntry.{HistoryEntry}
use Rattle.step_gate.specs.declared.view.Made.{Made}
use Rattle.step_gate.specs.History.{HistoryLeadsTo, LegalHistory, made, made_from, made_by}

module _ {S E R : Type 0} (moves : S → E → R → S → Type 0) where
  -- one more step at the end
  pub leads_snoc : (a : S) (es : List (HistoryEntry E R)) (b : S) (e : HistoryEntry E R) (c : S) → HistoryLeadsTo moves a es b → moves b e.event e.reply c → HistoryLeadsTo moves a (es ++ e ∷ []) c
  leads_snoc a [] b e c l m = let first : moves a e.event e.reply c = subst (λ (z : S). moves z e.event e.reply c) (sym l) m in (c, first, refl)
  leads_snoc a (x ∷ xs) b e c l m = (l.0, l.1, leads_snoc l.0 xs b e c l.2 m)

  -- a prefix of a legal history is legal
  pub legal_front : (a : S) (es fs : List (HistoryEntry E R)) (b : S) → HistoryLeadsTo moves a (es ++ fs) b → LegalHistory moves a es
  legal_front a [] fs b l = (a, refl)
  legal_front a (x ∷ xs) fs b l = let r = legal_front l.0 xs fs b l.2 in (r.0, (l.0, l.1, r.1))

  pub legal_prefix : (a : S) (es fs : List (HistoryEntry E R)) (b : S) → IsPrefix es fs → HistoryLeadsTo moves a fs b → LegalHistory moves a es
  legal_prefix a es fs b p l = legal_front a es p.0 b (subst (λ (z : List (HistoryEntry E R)). HistoryLeadsTo moves a z b) (sym p.1) l)

module _ {E R : Type 0} where
  made_hit : (by k : ℕ) (e : HistoryEntry E R) (es : List (HistoryEntry E R)) → e.by ≡ by → made_from by k (e ∷ es) ≡ made k e ∷ made_from by (k + 1) es
  made_hit by k e es h = ap (λ b. cond b (made k e ∷ made_from by (k + 1) es) (made_from by (k + 1) es)) (eq-eqb e.by by h)

  made_miss : (by k : ℕ) (e : HistoryEntry E R) (es : List (HistoryEntry E R)) → e.by ≢ by → made_from by k (e ∷ es) ≡ made_from by (k + 1) es
  made_miss by k e es h = ap (λ b. cond b (made k e ∷ made_from by (k + 1) es) (made_from by (k + 1) es)) (ne_eqb e.by by h)

  append_cond : (b : _) (e : Made E R) (xs ys : List (Made E R)) → cond b (e ∷ (xs ++ ys)) (xs ++ ys) ≡ cond b (e ∷ xs) xs ++ ys
  append_cond true e xs ys = refl
  append_cond false e xs ys = refl

  pub made_append : (by k : ℕ) (xs ys : List (HistoryEntry E R)) → made_from by k (xs ++ ys) ≡ made_from by k xs ++ made_from by (k + length xs) ys
  made_append by k [] ys = ap (λ (z : ℕ). made_from by z ys) (omega arith)
  made_append by k (x ∷ xs) ys =
      let next : (k + 1) + length xs ≡ k + length (x ∷ xs) = omega arith in
      let rest : made_from by (k + 1) (xs ++ ys) ≡ made_from by (k + 1) xs ++ made_from by (k + length (x ∷ xs)) ys = made_append by (k + 1) xs ys ∙ ap (λ (z : ℕ). made_from by (k + 1) xs ++ made_from by z ys) next in
      ap (λ (z : List (Made E R)). cond (x.by == by) (made k x ∷ z) z) rest ∙ append_cond (x.by == by) (made k x) (made_from by (k + 1) xs) (made_from by (k + length (x ∷ xs)) ys)

  -- an entry of the seat comes last among its own
  pub made_own : (by : ℕ) (xs : List (HistoryEntry E R)) (e : HistoryEntry E R) → e.by ≡ by → made_by by (xs ++ e ∷ []) ≡ made_by by xs ++ made (length xs) e ∷ []
  made_own by xs e h = made_append by 0 xs (e ∷ []) ∙ ap (λ (z : List (Made E R)). made_by by xs ++ z) (made_hit by (0 + length xs) e [] h ∙ ap (λ (k : ℕ). made k e ∷ []) (omega arith))

  -- an entry of another seat adds nothing to them
  pub made_else : (by : ℕ) (xs : List (HistoryEntry E R)) (e : HistoryEntry E R) → e.by ≢ by → made_by by (xs ++ e ∷ []) ≡ made_by by xs
  made_else by xs e h = made_append by 0 xs (e ∷ []) ∙ (ap (λ (z : List (Made E R)). made_by by xs ++ z) (made_miss by (0 + length xs) e [] h) ∙ append-nil (made_by by xs))

module _ {A : Type 0} where
  append_same : (xs ys : List A) → xs ≡ xs ++ ys → ys ≡ []
  append_same xs [] e = refl
  append_same xs (y ∷ ys) e = absurd (let n : length xs ≡ length xs + length (y ∷ ys) = ap length e ∙ length-append xs (y ∷ ys) in omega arith)

  front_nil : (xs ys : List A) → xs ++ ys ≡ [] → xs ≡ []
  front_nil [] ys e = refl
  front_nil (x ∷ xs) ys e = absurd (cc e)

module _ {E R : Type 0} where
  -- if a prefix has all of a seat's entries, each longer prefix has the same ones
  pub made_between : (by : ℕ) (xs ys zs : List (HistoryEntry E R)) → IsPrefix xs ys → IsPrefix ys zs → made_by by xs ≡ made_by by zs → made_by by ys ≡ made_by by xs
  made_between by xs ys zs p q e =
      let a : List (Made E R) = made_from by (0 + length xs) p.0 in
      let b : List (Made E R) = made_from by (0 + length ys) q.0 in
      let one : made_by by ys ≡ made_by by xs ++ a = ap (made_by by) (sym p.1) ∙ made_append by 0 xs p.0 in
      let two : made_by by zs ≡ made_by by ys ++ b = ap (made_by by) (sym q.1) ∙ made_append by 0 ys q.0 in
      let whole : made_by by xs ≡ made_by by xs ++ (a ++ b) = e ∙ (two ∙ (ap (λ (z : List (Made E R)). z ++ b) one ∙ append_assoc (made_by by xs) a b)) in
      let none : a ≡ [] = front_nil a b (append_same (made_by by xs) (a ++ b) whole) in
      one ∙ (ap (λ (z : List (Made E R)). made_by by xs ++ z) none ∙ append-nil (made_by by xs))

  -- a seat that has no entry in the whole has none in a prefix
  pub made_none : (by : ℕ) (xs ys : List (HistoryEntry E R)) → IsPrefix xs ys → made_by by ys ≡ [] → made_by by xs ≡ []
  made_none by xs ys p e = front_nil (made_by by xs) (made_from by (0 + length xs) p.0) (sym (made_append by 0 xs p.0) ∙ (ap (made_by by) p.1 ∙ e))
