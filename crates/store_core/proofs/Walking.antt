-- A walk over elements in order, which adds the rows of each.
use Rattle.std.proofs.Common.{◌≡◌, ℕ, ◌+◌, false, List, [], ◌∷◌, ◌++◌, length, Option, Some, None, Ok, Err, refl, sym, ap, ◌∙◌, subst, arith, append_assoc, length-append}
use Rattle.std.proofs.lemmas.List.{append-nil}
use Rattle.std.specs.declared.cmp.Ordering.{Ordering}
use Rattle.std.specs.Cmp.{IsTotalOrder}
use Rattle.lists_and_limits.specs.Orders.{Ascends}
use Rattle.lists_and_limits.specs.Walks.{following, head_of}
use Rattle.lists_and_limits.proofs.Walks.{begins, goes-on}
use Rattle.tx_journal.specs.declared.error.JournalError.{JournalError}
use Rattle.tx_journal.specs.Calls.{JournalState, is_alone}
use Rattle.store_tables.specs.Tables.{Tables}
use Rattle.store_core.specs.Store.{IsConsistent}
use Rattle.store_core.specs.Compacts.{MayAdd, IsStaged, Misses, AddsAll}
use Rattle.store_core.proofs.Stagings.{staged_none, staged_then, misses_then, misses_more}

-- the rows of elements one after another
pub record AreRowsOf {E : Type 0} (rows : List E → List (List ℕ)) : Type 0 where
  pub none : rows [] ≡ []
  pub then_ : (xs ys : List E) → rows (xs ++ ys) ≡ rows xs ++ rows ys

module _ {E : Type 0} (cmp : E → E → Ordering) where
  -- the walk stands behind these elements
  abbrev pub StandsBehind : Option E → List E → Type 0
  StandsBehind None front = front ≡ []
  StandsBehind (Some e) front = (before : List E) × (front ≡ before ++ e ∷ [])

  -- so far it has added the rows of those
  pub record IsWalked (t : Tables) (rows : List E → List (List ℕ)) (xs : List E) (place : Option E) (count : ℕ) (old new : JournalState) : Type 0 where
    pub front : List E
    pub back : List E
    pub split : xs ≡ front ++ back
    pub stands : StandsBehind place front
    pub counts : count ≡ length (rows front)
    pub staged : IsStaged t (rows front) old new

  module _ (total : IsTotalOrder cmp) where
    next_is : (place : Option E) (front back xs : List E) → Ascends cmp xs → xs ≡ front ++ back → StandsBehind place front → following cmp place xs ≡ head_of cmp back
    next_is None front back xs order is none = ap (following cmp None) (is ∙ ap (λ f. f ++ back) none) ∙ begins cmp total back
    next_is (Some e) front back xs order is at =
        let whole : xs ≡ at.0 ++ e ∷ back = is ∙ ap (λ f. f ++ back) at.1 ∙ append_assoc at.0 (e ∷ []) back in
        ap (following cmp (Some e)) whole ∙ goes-on cmp total at.0 e back (subst (Ascends cmp) whole order)

    headed : (back : List E) (e : E) → head_of cmp back ≡ Some e → (rest : List E) × (back ≡ e ∷ rest)
    headed [] e is = absurd (let f : None ≡ Some e = is in cc)
    headed (x ∷ rest) e is = let same : x ≡ e = cc in (rest, ap (λ y. y ∷ rest) same)

    empty : (back : List E) → head_of cmp back ≡ None → back ≡ []
    empty [] is = refl
    empty (x ∷ rest) is = absurd (let f : Some x ≡ None = is in cc)

    module _ (t : Tables) (rows : List E → List (List ℕ)) (of : AreRowsOf rows) (xs : List E) (order : Ascends cmp xs) where
      pub walked_none : (j : JournalState) → MayAdd j → IsConsistent j t → IsWalked t rows xs None 0 j j
      walked_none j may consistent = record {
        front = [];
        back = xs;
        split = refl;
        stands = refl;
        counts = ap length (sym of.none);
        staged = subst (λ rs. IsStaged t rs j j) (sym of.none) (staged_none t j may.at may.started may.paired may.works consistent);
      }

      -- there is no further element
      pub walked_all : (place : Option E) (count : ℕ) (old new : JournalState) → following cmp place xs ≡ None → IsWalked t rows xs place count old new → AddsAll t (rows xs) (Ok count) old new
      walked_all place count old new none walk =
          let last : walk.back ≡ [] = empty walk.back (sym (next_is place walk.front walk.back xs order walk.split walk.stands) ∙ none) in
          let all : rows xs ≡ rows walk.front = ap rows (walk.split ∙ ap (λ b. walk.front ++ b) last ∙ append-nil walk.front) in
          (walk.counts ∙ ap length (sym all), subst (λ rs. IsStaged t rs old new) (sym all) walk.staged)

      -- the next one
      module _ (place : Option E) (count : ℕ) (e : E) (old mid : JournalState) (paired : is_alone old.other ≡ false) (found : following cmp place xs ≡ Some e) (walk : IsWalked t rows xs place count old mid) where
        pub rest : (r : List E) × (walk.back ≡ e ∷ r)
        rest = headed walk.back e (sym (next_is place walk.front walk.back xs order walk.split walk.stands) ∙ found)

        -- where it is
        pub here : xs ≡ walk.front ++ e ∷ rest.0
        here = walk.split ∙ ap (λ b. walk.front ++ b) rest.1

        whole : xs ≡ (walk.front ++ e ∷ []) ++ rest.0
        whole = walk.split ∙ ap (λ b. walk.front ++ b) rest.1 ∙ sym (append_assoc walk.front (e ∷ []) rest.0)

        pub walked_more : (new : JournalState) → IsStaged t (rows (e ∷ [])) mid new → IsWalked t rows xs (Some e) (count + length (rows (e ∷ []))) old new
        walked_more new staged = record {
          front = walk.front ++ e ∷ [];
          back = rest.0;
          split = whole;
          stands = (walk.front, refl);
          counts = omega (arith, walk.counts, ap length (of.then_ walk.front (e ∷ [])), length-append (rows walk.front) (rows (e ∷ [])));
          staged = subst (λ rs. IsStaged t rs old new) (sym (of.then_ walk.front (e ∷ []))) (staged_then t (rows walk.front) old mid new paired walk.staged (rows (e ∷ [])) staged);
        }

        pub walked_miss : (error : JournalError) (new : JournalState) → Misses t (rows (e ∷ [])) error mid new → AddsAll t (rows xs) (Err error) old new
        walked_miss error new misses =
            let all : rows xs ≡ (rows walk.front ++ rows (e ∷ [])) ++ rows rest.0 = ap rows whole ∙ of.then_ (walk.front ++ e ∷ []) rest.0 ∙ ap (λ rs. rs ++ rows rest.0) (of.then_ walk.front (e ∷ [])) in
            subst (λ rs. Misses t rs error old new) (sym all)
            (misses_more t (rows walk.front ++ rows (e ∷ [])) (rows rest.0) error old new (misses_then t (rows walk.front) old mid new paired walk.staged (rows (e ∷ [])) error misses))
