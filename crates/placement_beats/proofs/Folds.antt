-- Folds over lists, element by element.
use Rattle.std.proofs.Common.{◌≡◌, ◌∙◌, ℕ, zero, suc, ◌+◌, ◌<◌, Bool, true, false, List, [], ◌∷◌, ◌++◌, length, drop, Option, Some, None, Ok, Err, sym, ap, arith, append_assoc, add-one, get_or}
use Rattle.std.specs.Prelude.{◌||◌}
use Rattle.part_model.specs.Receipts.{ReceiptState}
use Rattle.step_gate.specs.declared.gate.Spent.{Spent}
use Rattle.sidecar_node.specs.Turns.{Said, first_spent}
use Rattle.placement_beats.specs.Answers.{receipt_said, says_stopped, any_stopped, with_receipt, receipts_of}

pub drop_here : {A : Type 0} (xs : List A) (i : ℕ) (a : A) → i < length xs → a ≡ get_or xs i a → drop i xs ≡ a ∷ drop (i + 1) xs
drop_here xs i a l e = rw add-one (go xs i a l e)
  where
    go : {A : Type 0} (xs : List A) (i : ℕ) (a : A) → i < length xs → a ≡ get_or xs i a → drop i xs ≡ a ∷ drop (suc i) xs
    go [] i a l e = absurd (omega arith)
    go (x ∷ xs) zero a l e = ap (λ y. y ∷ xs) (sym e)
    go (x ∷ xs) (suc i) a l e = go xs i a (omega arith) e

pub any_hit : (saids rest : List Said) (a : Said) → any_stopped saids ≡ any_stopped (a ∷ rest) → says_stopped a ≡ true → any_stopped saids ≡ true
any_hit saids rest a e h = e ∙ ap (λ (b : Bool). b || any_stopped rest) h

pub any_on : (saids rest : List Said) (a : Said) → any_stopped saids ≡ any_stopped (a ∷ rest) → says_stopped a ≡ false → any_stopped saids ≡ any_stopped rest
any_on saids rest a e h = e ∙ ap (λ (b : Bool). b || any_stopped rest) h

pub spent_hit : (saids rest : List Said) (a : Said) (s : Spent) → first_spent saids ≡ first_spent (a ∷ rest) → first_spent (a ∷ []) ≡ Some s → first_spent saids ≡ Some s
spent_hit saids rest (Ok reply) s e h = absurd (let x : ⊥ = cc in x)
spent_hit saids rest (Err t) s e h = e ∙ h

pub spent_on : (saids rest : List Said) (a : Said) → first_spent saids ≡ first_spent (a ∷ rest) → first_spent (a ∷ []) ≡ None → first_spent saids ≡ first_spent rest
spent_on saids rest (Ok reply) e h = e
spent_on saids rest (Err t) e h = absurd (let x : ⊥ = cc in x)

pub receipts_hit : (saids rest : List Said) (a : Said) (rs : List ReceiptState) (r : ReceiptState) → receipts_of saids ≡ rs ++ receipts_of (a ∷ rest) → receipt_said a ≡ Some r → receipts_of saids ≡ (rs ++ r ∷ []) ++ receipts_of rest
receipts_hit saids rest a rs r e h = e ∙ (ap (λ (o : Option ReceiptState). rs ++ with_receipt o (receipts_of rest)) h ∙ sym (append_assoc rs (r ∷ []) (receipts_of rest)))

pub receipts_on : (saids rest : List Said) (a : Said) (rs : List ReceiptState) → receipts_of saids ≡ rs ++ receipts_of (a ∷ rest) → receipt_said a ≡ None → receipts_of saids ≡ rs ++ receipts_of rest
receipts_on saids rest a rs e h = e ∙ ap (λ (o : Option ReceiptState). rs ++ with_receipt o (receipts_of rest)) h
