use Rattle.std.proofs.Common.{ap, ◌∙◌, codes}
use Rattle.std.specs.Option.{option_copied}
use Rattle.app_texts.specs.Texts.{first_value}
use Rattle.app_texts.proofs.Messages.{invoke_parts}
use Rattle.app_texts.proofs.calls.invoke_text.Goals as goal

pub returns : goal.returns
returns c =
    let k = c.args.call.now in
    invoke_parts c.args.app.now k c.in_ok-text.text.items c.add_call_start.new.into.items c.add_call_lines.new.into.items c.add_sized.new.into.items
    (option_copied c.first_value-content.result) c.as_slice-2.result.now
    c.in_ok-text.ensures.items c.in_ok-add_call_start.ensures c.in_ok-add_call_lines.ensures c.in_ok-add_sized.ensures
    (c.first_value-content.ensures ∙ ap (first_value (codes "Content-Type")) c.as_slice.ensures) c.as_slice-2.ensures
