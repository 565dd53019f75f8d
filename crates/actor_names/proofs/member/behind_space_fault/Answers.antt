use Rattle.std.proofs.Common.{◌≡◌, ◌+◌, ◌-◌, Option, Some, length, take, drop, length-drop, sym, ◌∙◌, subst, ap, arith}
use Rattle.actor_names.specs.declared.error.NameError.{NameError}
use Rattle.actor_names.specs.declared.error.NameError.TheVariants.{BadByte}
use Rattle.actor_names.specs.Numerals.{local_member_fault}
use Rattle.actor_names.proofs.Within.{IsWithin, local_member_within, length-take-le-all}
use Rattle.actor_names.proofs.member.behind_space_fault.Goals as goal

pub overflow_add-result-in-Some-BadByte : goal.overflow_add-result-in-Some-BadByte
overflow_add-result-in-Some-BadByte c =
    let n = c.args.end + 1 in
    let behind = drop n c.args.text.now in
    let rest = take (length c.args.text.now - n) behind in
    let fault : Some (BadByte c.in-Some-BadByte.at) ≡ local_member_fault rest = sym (c.in-Some-BadByte.is ∙ ap Some c.in-Some-BadByte.field-0-is) ∙ c.local_member_fault.ensures in
    let within : IsWithin (length rest) (Some (BadByte c.in-Some-BadByte.at)) = subst (λ (o : Option NameError). IsWithin (length rest) o) (sym fault) (local_member_within rest) in
    let least = length-take-le-all (length c.args.text.now - n) behind in
    let long = length-drop n c.args.text.now in
    omega arith
