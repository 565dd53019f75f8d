use Rattle.std.proofs.Common.{◌≡◌, ◌++◌, ◌∙◌, ℕ, List, OnOk, ap, subst, codes, decimal, append_assoc}
use Rattle.event_log.specs.Lines.{placed}
use Rattle.event_log.proofs.text.push_refusal.Goals as goal

pub returns : goal.returns
returns c =
    let front : List ℕ = placed (codes "the store at ") c.args.at.now (codes " refused with code ") in
    let code : List ℕ = decimal c.args.code in
    subst (λ (t : List ℕ). OnOk c.add_decimal.result (c.add_decimal.new.into.items ≡ t))
    (ap (λ (t : List ℕ). t ++ code) c.in_ok-push_placed.ensures ∙ append_assoc c.args.into.now.items front code)
    c.add_decimal.ensures
