use Rattle.std.proofs.Common.{◌≡◌, ◌-◌, ◌<◌, true, false, List, [], ◌∷◌, ◌++◌, length, get_or, take, drop, nat_le, sym, ap, subst, ◌∙◌, arith, append_assoc, length-append, add-one}
use Rattle.std.proofs.lemmas.List.Edits.{length-remove}
use Rattle.std.specs.List.{remove}
use Rattle.actor_names.specs.declared.member.Member.{Member}
use Rattle.place_table.specs.declared.host.HostInfo.{HostInfo}
use Rattle.member_roster.specs.declared.marks.Mark.{Mark}
use Rattle.member_roster.specs.Members.{Joined, is_late, late_of}
use Rattle.member_roster.specs.Places.{host_node}
use Rattle.member_roster.specs.Roster.{joined_of, joined_all}
use Rattle.member_roster.proofs.Ascending.{ascends_remove}
use Rattle.member_roster.proofs.Backed.{backed_remove}
use Rattle.member_roster.proofs.Rosters.{no_host}
use Rattle.member_roster.proofs.Lateness.{take_remove, heard_skip, late_skip, heard_keep, late_keep}
use Rattle.member_roster.proofs.late.drop_late.Goals as goal

pub loop-at-preserved-then-is_mark_late : goal.loop-at-preserved-then-is_mark_late
loop-at-preserved-then-is_mark_late c =
    let hs = c.loop-at.hosts.items in
    let ms = c.loop-at.marks.items in
    let ss = c.loop-at.spares.items in
    let i = c.loop-at.at in
    let d = c.index-then-is_mark_late.result.now in
    let k = c.index.result.now in
    let v = c.loop-at.invariant in
    let vm = v.marked in
    let vs = v.spared in
    let vf = v.fewer in
    let vr = v.capacity in
    let vl = v.list_capacity in
    let pr = c.push_reserved.ensures.capacity in
    let l0 = c.loop-at.hosts.ok.0 in
    let within : c.loop-at.at < length c.loop-at.hosts.items = omega arith in
    let t : is_late c.args.now (joined_of (get_or hs i d) (get_or ms i k)) ≡ true = subst (λ (x : Mark). nat_le 10000 (c.args.now - x.heard) ≡ true) c.index.ensures (sym c.is_mark_late.ensures ∙ c.if-is_mark_late.true) in
    let rest = late_of (joined_all (drop i (remove hs i)) (drop i (remove ms i))) c.args.now in
    let a = length-remove hs i within in
    let b = length-remove ms i (rw v.marked within) in
    let e = length-remove ss i (rw v.spared within) in
    record {
      heard = rw (c.remove-host.ensures.items, c.remove-mark.ensures.items, take_remove hs i, take_remove ms i) (v.heard ∙ ap (λ (js : List Joined). joined_all (take i hs) (take i ms) ++ js) (heard_skip hs ms i c.args.now d k v.marked within t));
      late = rw (c.remove-host.ensures.items, c.remove-mark.ensures.items, c.push_reserved.ensures.members) (
          v.late ∙ ap (λ (xs : List Member). c.loop-at.removed.members ++ xs) (late_skip hs ms i c.args.now d k v.marked within t)
          ∙ ap (λ (h : HostInfo). c.loop-at.removed.members ++ h.member ∷ rest) (sym c.index-then-is_mark_late.ensures)
          ∙ sym (append_assoc c.loop-at.removed.members (d.member ∷ []) rest)
          );
      ascends = rw c.remove-host.ensures.items (ascends_remove host_node hs i v.ascends);
      marked = rw (c.remove-host.ensures.items, c.remove-mark.ensures.items) (omega arith);
      spared = rw (c.remove-host.ensures.items, c.remove-spare.ensures.items) (omega arith);
      backed = λ table x. rw (c.remove-host.ensures.items, c.remove-spare.ensures.items) (backed_remove hs ss table i (v.backed table x));
      fewer = rw c.remove-host.ensures.items (omega arith);
      capacity = rw (c.remove-host.ensures.items, c.push_reserved.ensures.members) (omega (arith, length-append c.loop-at.removed.members (d.member ∷ [])));
      list_capacity = omega arith;
      hosts_capacity = c.remove-host.ensures.capacity ∙ v.hosts_capacity;
      marks_capacity = c.remove-mark.ensures.capacity ∙ v.marks_capacity;
      spares_capacity = c.remove-spare.ensures.capacity ∙ v.spares_capacity;
      within = rw c.remove-host.ensures.items (omega arith);
    }

pub loop-at-preserved : goal.loop-at-preserved
loop-at-preserved c =
    let hs = c.loop-at.hosts.items in
    let ms = c.loop-at.marks.items in
    let i = c.loop-at.at in
    let k = c.index.result.now in
    let v = c.loop-at.invariant in
    let l0 = c.loop-at.hosts.ok.0 in
    let within : c.loop-at.at < length c.loop-at.hosts.items = omega arith in
    let t : is_late c.args.now (joined_of (get_or hs i no_host) (get_or ms i k)) ≡ false = subst (λ (x : Mark). nat_le 10000 (c.args.now - x.heard) ≡ false) c.index.ensures (sym c.is_mark_late.ensures ∙ c.if-is_mark_late.false) in
    record {
      heard = rw add-one (v.heard ∙ heard_keep hs ms i c.args.now no_host k v.marked within t);
      late = rw add-one (v.late ∙ ap (λ (xs : List Member). c.loop-at.removed.members ++ xs) (late_keep hs ms i c.args.now no_host k v.marked within t));
      ascends = v.ascends;
      marked = v.marked;
      spared = v.spared;
      backed = v.backed;
      fewer = v.fewer;
      capacity = v.capacity;
      list_capacity = v.list_capacity;
      hosts_capacity = v.hosts_capacity;
      marks_capacity = v.marks_capacity;
      spares_capacity = v.spares_capacity;
      within = omega arith;
    }
