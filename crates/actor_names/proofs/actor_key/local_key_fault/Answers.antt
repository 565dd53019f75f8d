use Rattle.std.proofs.Common.{sym, ◌∙◌, arith}
use Rattle.actor_names.proofs.Slashes.{kind_found, local_key_fault-kind, IsKindAt}
use Rattle.actor_names.proofs.actor_key.local_key_fault.Goals as goal

pub id_part_fault-requires : goal.id_part_fault-requires
id_part_fault-requires c = sym (kind_found _ _ _ c.bad_place.ensures.place c.in-Some.is c.if-text-end-eq47.true).ends

pub returns : goal.returns
returns c =
    let kind : IsKindAt c.args.text.now c.in-Some.end = kind_found _ _ _ c.bad_place.ensures.place c.in-Some.is c.if-text-end-eq47.true in
    c.id_part_fault.ensures ∙ sym (local_key_fault-kind _ _ kind c.if-end-gt0.true (omega arith))
