use Rattle.std.proofs.Common.{ap, ◌∙◌}
use Rattle.json_text.specs.Texts.{in_braces}
use Rattle.json_text.proofs.Written.{texts_of_members}
use Rattle.json_text.proofs.writing.object_text.Goals as goal

pub returns-clause-value : goal.returns-clause-value
returns-clause-value c = λ vs are. c.in_ok-text.ensures ∙ ap in_braces (texts_of_members c.args.members.now vs are)
