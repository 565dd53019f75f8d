use Rattle.std.proofs.Common.{◌≡◌, drop}
use Rattle.serde_json.specs.View.{items_view, members_view}
use Rattle.serde_json.specs.Written.{items_have_float, members_have_float}
use Rattle.json_text.proofs.other_number.+any_float.Given as goal

-- the answer for the whole is the answer for the rest
abbrev pub invariant-any_float_of_items-loop-item : goal.invariant-any_float_of_items-loop-item
invariant-any_float_of_items-loop-item l = items_have_float (items_view l.items.items) ≡ items_have_float (items_view (drop l.item-index l.item-items))

abbrev pub invariant-any_float_of_members-loop-member : goal.invariant-any_float_of_members-loop-member
invariant-any_float_of_members-loop-member l = members_have_float (members_view l.members.entries) ≡ members_have_float (members_view l.member-iterator)
