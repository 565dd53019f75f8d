use Rattle.std.proofs.Common.{List, None, length, sym, subst}
use Rattle.actor_names.specs.declared.member.Member.{Member}
use Rattle.round_core.specs.Records.{record_of}
use Rattle.wire_fields.specs.Fields.{number16, in_any_order, AllFit}
use Rattle.placement_payloads.specs.Payloads.{local_member, change, entry}
use Rattle.placement_payloads.proofs.PayloadLaws.{entry_written}
use Rattle.placement_payloads.proofs.payload.put_entry.Goals as goal

pub put_members-requires : goal.put_members-requires
unfolding entry change
put_members-requires c =
    let fits = c.requires.1.1.0 in
    (c.args.space.now, subst (λ (ms : List Member). number16.Fits (length ms) × AllFit (in_any_order (local_member c.args.space.now)) None ms) (sym c.as_slice.ensures) fits)

pub returns : goal.returns
returns c =
    entry_written c.args.space.now (record_of c.args.change.now) c.as_slice.result.now c.args.out.now.items c.put_space.new.out.items c.put_joined.new.out.items c.put_members.new.out.items c.put_counter.new.out.items c.as_slice.ensures c.in_ok-put_space.ensures c.in_ok-put_joined.ensures c.in_ok-put_members.ensures c.in_ok-put_counter.ensures
