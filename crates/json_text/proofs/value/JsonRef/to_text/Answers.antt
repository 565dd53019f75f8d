use Rattle.std.proofs.Common.{◌≡◌, false, option_map, ◌∙◌, ap}
use Rattle.serde_json.specs.View.{view}
use Rattle.json_text.specs.Reading.{reading}
use Rattle.json_text.specs.Values.{has_other_number}
use Rattle.json_text.specs.Views.{json_of}
use Rattle.json_text.proofs.Found.{float_found}
use Rattle.json_text.proofs.Texts.{text_written}
use Rattle.json_text.proofs.value.JsonRef.to_text.Goals as goal

pub returns-clause-text : goal.returns-clause-text
returns-clause-text c =
    let d = view c.self.inside.value.now in
    let no : has_other_number (json_of d) ≡ false = rw c.self.view_is c.requires in
    rw (← c.self.view_is) (c.in_ok-bytes.ensures.text (float_found d ∙ no) ∙ text_written d)

pub returns-clause-reads_back : goal.returns-clause-reads_back
unfolding reading
returns-clause-reads_back c =
    rw (← c.self.view_is) (c.in_ok-bytes.ensures.utf8, ap (option_map json_of) (c.in_ok-bytes.ensures.reads_back c.self.invariant))
