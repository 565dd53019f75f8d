use Rattle.std.proofs.Common.{◌≡◌, ℕ, ◌+◌, List, [], ◌∷◌, ◌++◌, take, drop, ◌∙◌, ap, subst}
use Rattle.std.specs.List.{AllByRecursion}
use Rattle.tx_journal.specs.File.{records, IsShort}
use Rattle.tx_journal.proofs.Batches.{held_is, text_of}
use Rattle.tx_journal.proofs.batch.Batch.text.Goals as goal

pub returns-clause-text : goal.returns-clause-text
returns-clause-text c =
    let held = held_is c.self.invariant c.args.self.now c.self.view_is in
    let text : take (c.self.inside.len + 1) c.self.inside.buffer.items ≡ records c.args.self.now ++ 0 ∷ [] = c.self.invariant.text ∙ ap (λ (l : List (List ℕ)). records l ++ 0 ∷ []) held in
    ap (λ (l : List ℕ). 1 ∷ l) (c.behind_gate.ensures ∙ ap (λ (l : List ℕ). drop 1 (take (c.self.inside.len + 1) l)) c.deref.ensures.value ∙ ap (drop 1) text) ∙ text_of c.args.self.now c.requires

pub returns-clause-short : goal.returns-clause-short
returns-clause-short c = subst (AllByRecursion IsShort) (held_is c.self.invariant c.args.self.now c.self.view_is) c.self.invariant.short
