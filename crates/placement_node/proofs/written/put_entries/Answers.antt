use Rattle.std.proofs.Common.{ℕ, List, ◌++◌, sym, ap, ◌∙◌}
use Rattle.placement_payloads.specs.Payloads.{entry}
use Rattle.placement_core.specs.Views.{lent_entry}
use Rattle.placement_node.specs.Records.{spelled_entry}
use Rattle.placement_node.proofs.Reading.{spell_more}
use Rattle.placement_node.proofs.written.put_entries.Goals as goal

pub loop-at-preserved : goal.loop-at-preserved
loop-at-preserved c =
    let one = lent_entry c.in-Some.one in
    c.in_ok-put_entry-in-Some.ensures
    ∙ ap (λ (text : List ℕ). text ++ entry.spell (spelled_entry one)) c.loop-at.invariant
    ∙ sym (spell_more c.args.placement.now.recent c.loop-at.at one c.args.out.now.items (sym c.in-Some.ensures))
