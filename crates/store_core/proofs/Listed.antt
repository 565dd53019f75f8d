-- Lists of commands grow at their end.
use Rattle.std.proofs.Common.{append_assoc, ◌≡◌, ◌⊎◌, inl, inr, ℕ, true, false, List, [], ◌∷◌, ◌++◌, Option, Some, None, refl, sym, ◌∙◌, ap, subst}
use Rattle.tx_journal.specs.Calls.{JournalState}
use Rattle.store_tables.specs.Contents.{Timed}
use Rattle.store_core.specs.Store.{StoreState}
use Rattle.store_core.specs.Lists.{Rules, Guards, InTurn, Begins, MovesBatch, MovesEach, MovesAll}

pub none_behind : {T : Type 0} (xs : List T) → xs ++ [] ≡ xs
none_behind [] = refl
none_behind (x ∷ xs) = ap (λ l. x ∷ l) (none_behind xs)

module _ {A B : Type 0} (rules : Rules A B) where
  -- one batch more
  pub each_more :
      (old mid new : StoreState) (batches : List (List (A × B))) (entries last : List (A × B))
      → MovesEach rules old batches entries mid → MovesBatch rules mid last new → MovesEach rules old (batches ++ last ∷ []) (entries ++ last) new
  each_more old mid new [] entries last each moves =
      (new, [], subst (λ (s : StoreState). MovesBatch rules s last new) each.1 moves, (refl, refl), ap (λ l. l ++ last) each.0 ∙ sym (none_behind last))
  each_more old mid new (first ∷ batches) entries last each moves =
      let state : StoreState = each.0 in
      let rest : List (A × B) = each.1 in
      (state, rest ++ last, each.2, each_more state mid new batches rest last each.3 moves, ap (λ l. l ++ last) each.4 ∙ append_assoc first rest last)

  -- one answer more
  pub in_turn_more :
      (s mid ahead : StoreState) (entries : List (A × B)) (batch taken : List Timed) (asked : A) (answer : B)
      → InTurn rules s entries batch mid → Guards rules mid asked answer taken ahead → InTurn rules s (entries ++ (asked, answer) ∷ []) (batch ++ taken) ahead
  in_turn_more s mid ahead [] batch taken asked answer turn guards =
      (ahead, taken, [], subst (λ (t : StoreState). Guards rules t asked answer taken ahead) turn.1 guards, (refl, refl), ap (λ l. l ++ taken) turn.0 ∙ sym (none_behind taken))
  in_turn_more s mid ahead (entry ∷ entries) batch taken asked answer turn guards =
      let next : StoreState = turn.0 in
      let first : List Timed = turn.1 in
      let rest : List Timed = turn.2 in
      (next, first, rest ++ taken, turn.3, in_turn_more next mid ahead entries rest taken asked answer turn.4 guards, ap (λ l. l ++ taken) turn.5 ∙ append_assoc first rest taken)

  -- a batch that has begun goes on
  pub begins_more : (entries : List (A × B)) (batch taken : List Timed) (entry : A × B) → Begins rules entries batch → Begins rules (entries ++ entry ∷ []) (batch ++ taken)
  begins_more [] batch taken entry begins = absurd begins
  begins_more (first ∷ entries) batch taken entry begins = (begins.0 ++ taken, ap (λ l. l ++ taken) begins.1)

  -- a list that has no batch is empty
  pub empty_list_rests : (s : StoreState) → MovesAll rules s [] s
  empty_list_rests s = ([], (refl, refl))
