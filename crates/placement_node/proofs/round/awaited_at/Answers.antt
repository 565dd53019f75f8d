use Rattle.std.proofs.Common.{◌≡◌, ◌++◌, ◌∷◌, [], List, length, take, get_or, sym, ap, ◌∙◌, arith}
use Rattle.std.proofs.lemmas.List.{length-map}
use Rattle.place_table.specs.declared.host.HostInfo.{HostInfo}
use Rattle.member_roster.specs.Members.{Joined, hosts_of}
use Rattle.placement_core.specs.Placement.{SpaceRoom}
use Rattle.placement_node.specs.declared.reply.Awaited.{Awaited}
use Rattle.placement_node.specs.Replies.{awaited, awaited_of}
use Rattle.placement_node.proofs.Awaiting.{found, awaited_more, awaited_kept, awaited_all, host_found}
use Rattle.placement_node.proofs.round.awaited_at.Goals as goal
use Rattle.placement_node.proofs.round.awaited_at.Goals.{then-is_pending+in_ok-push, else-is_pending}

many : (hosts : List HostInfo) (r : SpaceRoom) → hosts ≡ hosts_of r.room.members → length hosts ≡ length r.room.members
many hosts r is = ap (λ (hs : List HostInfo). length hs) is ∙ length-map r.room.members (λ (j : Joined). j.host)

pub is_pending-requires : goal.is_pending-requires
is_pending-requires c = (c.requires, λ r e. let n = many c.members_at-hosts.result.now r (c.members_at-hosts.ensures.hosts r e) in omega arith)

pub loop-member-preserved : goal.loop-member-preserved
loop-member-preserved c =
    elim c.if-is_pending.branch [
      | then-is_pending+in_ok-push w ↦ λ r e.
          let js = r.room.members in
          let i = c.loop-member.member in
          let n = many c.members_at-hosts.result.now r (c.members_at-hosts.ensures.hosts r e) in
          let j = found js i (omega arith) in
          let p = sym (c.is_pending.ensures r j.0 e j.1) ∙ w.if-is_pending.true in
          let host = w.index-hosts-member.is ∙ ap (λ (hs : List HostInfo). get_or hs i w.index-hosts-member.result) (c.members_at-hosts.ensures.hosts r e) ∙ host_found js i j.0 w.index-hosts-member.result j.1 in
          let one : w.awaited.result ≡ awaited j.0.host = w.awaited.ensures ∙ ap awaited host in
          rw w.items-is
          (w.in_ok-push.ensures.items ∙ ap (λ (l : List Awaited). l ++ w.awaited.result ∷ []) (c.loop-member.invariant r e) ∙ ap (λ (a : Awaited). awaited_of (take i js) ++ a ∷ []) one ∙ awaited_more js i j.0 j.1 p)
      | else-is_pending w ↦ λ r e.
          let js = r.room.members in
          let i = c.loop-member.member in
          let n = many c.members_at-hosts.result.now r (c.members_at-hosts.ensures.hosts r e) in
          let j = found js i (omega arith) in
          let p = sym (c.is_pending.ensures r j.0 e j.1) ∙ w.if-is_pending.false in
          rw w.items-is (c.loop-member.invariant r e ∙ awaited_kept js i j.0 j.1 p)
    ]

pub returns : goal.returns
returns c = λ r e.
    let n = many c.members_at-hosts.result.now r (c.members_at-hosts.ensures.hosts r e) in
    c.from_vec.ensures ∙ c.loop-member.invariant r e ∙ awaited_all r.room.members c.loop-member.member (omega arith)
