use Rattle.std.proofs.Common.{ap, ◌∙◌}
use Rattle.json_text.specs.Texts.{in_brackets}
use Rattle.json_text.proofs.Written.{texts_of_items}
use Rattle.json_text.proofs.writing.array_text.Goals as goal

pub returns-clause-value : goal.returns-clause-value
returns-clause-value c = λ vs are. c.in_ok-text.ensures ∙ ap in_brackets (texts_of_items c.args.items.now vs are)
