-- What holds of each element of a list holds of each after a change.
use Rattle.std.proofs.Common.{◌≡◌, Bool, List, [], ◌∷◌, ◌++◌, Some, filter, subst}
use Rattle.std.specs.List.{AllByRecursion}
use Rattle.std.specs.declared.cmp.Ordering.{Ordering}
use Rattle.std.specs.declared.cmp.Ordering.TheVariants.{Less, Equal, Greater}
use Rattle.std.specs.Ordering.{is_eq}
use Rattle.std.proofs.lemmas.Bool.{cond_both}
use Rattle.lists_and_limits.specs.Lists.{found, without, with_changed, put_by, with_put}

module _ {E : Type 0} (P : E → Type 0) where
  pub each_put : (cmp : E → E → Ordering) (e : E) (xs : List E) → P e → AllByRecursion P xs → AllByRecursion P (with_put cmp e xs)
  each_put cmp e [] p h = (p, tt)
  each_put cmp e (x ∷ xs) p h = go (cmp x e) (each_put cmp e xs p h.1)
    where
      go : (c : Ordering) → AllByRecursion P (with_put cmp e xs) → AllByRecursion P (put_by c e x xs (with_put cmp e xs))
      go Less ih = (h.0, ih)
      go Equal ih = (p, h.1)
      go Greater ih = (p, h)

  pub each_without : (at : E → Ordering) (xs : List E) → AllByRecursion P xs → AllByRecursion P (without at xs)
  each_without at [] h = tt
  each_without at (x ∷ xs) h =
      let more = each_without at xs h.1 in
      cond_both (is_eq (at x)) _ _ (AllByRecursion P) (λ _. h.1) (λ _. (h.0, more))

  pub each_filter : (test : E → Bool) (xs : List E) → AllByRecursion P xs → AllByRecursion P (filter test xs)
  each_filter test [] h = tt
  each_filter test (x ∷ xs) h =
      let more = each_filter test xs h.1 in
      cond_both (test x) _ _ (AllByRecursion P) (λ _. (h.0, more)) (λ _. more)

  pub each_changed : (at : E → Ordering) (f : E → E) → ((x : E) → P x → P (f x)) → (xs : List E) → AllByRecursion P xs → AllByRecursion P (with_changed at f xs)
  each_changed at f keeps [] h = tt
  each_changed at f keeps (x ∷ xs) h =
      let more = each_changed at f keeps xs h.1 in
      cond_both (is_eq (at x)) _ _ (AllByRecursion P) (λ _. (keeps x h.0, h.1)) (λ _. (h.0, more))

  -- it holds of the one that is found
  pub each_found : (at : E → Ordering) (xs : List E) (e : E) → found at xs ≡ Some e → AllByRecursion P xs → P e
  each_found at [] e f h = absurd (cc)
  each_found at (x ∷ xs) e f h =
      let more : found at xs ≡ Some e → P e = λ k. each_found at xs e k h.1 in
      cond_both (is_eq (at x)) _ _ (λ r. r ≡ Some e → P e) (λ _ k. let same : x ≡ e = cc in subst P same h.0) (λ _. more) f

  pub each_at : (front : List E) (e : E) (back : List E) → AllByRecursion P (front ++ e ∷ back) → P e
  each_at [] e back h = h.0
  each_at (x ∷ front) e back h = each_at front e back h.1

  pub each_append : (xs ys : List E) → AllByRecursion P xs → AllByRecursion P ys → AllByRecursion P (xs ++ ys)
  each_append [] ys h k = k
  each_append (x ∷ xs) ys h k = (h.0, each_append xs ys h.1 k)

  pub each_weaker : (Q : E → Type 0) → ((x : E) → P x → Q x) → (xs : List E) → AllByRecursion P xs → AllByRecursion Q xs
  each_weaker Q w [] h = tt
  each_weaker Q w (x ∷ xs) h = (w x h.0, each_weaker Q w xs h.1)
