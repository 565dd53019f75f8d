use Rattle.std.proofs.Common.{ℕ, List, [], ◌∷◌, ◌++◌, map, sym, ap, ◌∙◌}
use Rattle.wire_fields.specs.Fields.{spell_all}
use Rattle.placement_payloads.specs.Payloads.{entry, payload_start}
use Rattle.placement_node.specs.Records.{spelled_entry}
use Rattle.placement_node.proofs.Reading.{payload_is, some_payload}
use Rattle.placement_node.proofs.written.put_record.Goals as goal

pub returns : goal.returns
returns c =
    let recent = c.args.placement.now.recent in
    some_payload recent (λ none. c.if-count-eq0.false (c.entry_count-count.ensures ∙ none))
    ∙ ap (λ (bytes : List ℕ). bytes ∷ [])
    (payload_is recent
    ∙ sym
    (c.in_ok-put_entries.ensures
    ∙ ap (λ (front : List ℕ). front ++ spell_all entry.spell (map spelled_entry recent))
    (c.in_ok-put_payload_start.ensures ∙ ap (λ (front : List ℕ). front ++ payload_start c.entry_count-count.result) c.clear.ensures.items ∙ ap payload_start c.entry_count-count.ensures)))
