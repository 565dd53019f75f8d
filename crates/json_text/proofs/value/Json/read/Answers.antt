use Rattle.std.proofs.Common.{option_map, true≢false, sym, ap, ◌∙◌}
use Rattle.json_text.specs.Reading.{reading}
use Rattle.json_text.specs.Views.{json_of}
use Rattle.json_text.proofs.value.Json.read.Goals as goal

pub returns-in-Ok-clause-read : goal.returns-in-Ok-clause-read
unfolding reading
returns-in-Ok-clause-read c = (c.in-Ok.ensures.ok.0, ap (option_map json_of) c.in-Ok.ensures.ok.1)

pub returns-else-is_memory-clause-refused : goal.returns-else-is_memory-clause-refused
unfolding reading
returns-else-is_memory-clause-refused c =
    λ _ utf8. ap (option_map json_of) (c.in-Err.ensures.err (λ m. true≢false (sym (c.is_memory.ensures.1 m) ∙ c.if-is_memory.false)) utf8)
