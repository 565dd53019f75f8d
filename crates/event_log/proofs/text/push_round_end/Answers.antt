use Rattle.std.proofs.Common.{◌≡◌, ◌++◌, ◌∙◌, ℕ, List, [], OnOk, ap, subst, codes, append_assoc}
use Rattle.event_log.specs.Lines.{counted, round_line}
use Rattle.event_log.proofs.text.push_round_end.Goals as goal

pub returns : goal.returns
returns c =
    let line : List ℕ = round_line c.args.space.now c.args.version (codes " ended within ") in
    let end : List ℕ = counted [] c.args.within_ms (codes " ms") in
    subst (λ (t : List ℕ). OnOk c.push_counted.result (c.push_counted.new.into.items ≡ t))
    (ap (λ (t : List ℕ). t ++ end) c.in_ok-push_round.ensures ∙ append_assoc c.args.into.now.items line end)
    c.push_counted.ensures
