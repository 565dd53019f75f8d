use Rattle.std.proofs.Common.{◌∙◌, inl, inr, refl, sym, ap, subst, ℕ, [], ◌∷◌, Option}
use Rattle.disk_model.specs.Disk.{DiskState}
use Rattle.server_ports.specs.Hosts.{Hands}
use Rattle.tx_journal.specs.Calls.{Side}
use Rattle.placement_command.specs.Mirrors.{MirrorCause}
use Rattle.placement_command.specs.Runs.{given_back}
use Rattle.placement_command.proofs.Kept.{lost, served_with}
use Rattle.placement_command.proofs.Counts.{either, shut_counts}
use Rattle.placement_command.proofs.mirrored.serve_mirrored.Goals as goal

pub returns-in-Err-clause-ran : goal.returns-in-Err-clause-ran
returns-in-Err-clause-ran g c = lost c.args.node _ _ c.serve_node.ensures.disks.2

pub returns-in-Err-clause-link_back : goal.returns-in-Err-clause-link_back
returns-in-Err-clause-link_back g c = inr (refl, refl)

pub returns-in-Ok-clause-ran : goal.returns-in-Ok-clause-ran
returns-in-Ok-clause-ran g c =
    let law = c.node_law.ensures in
    let led = c.in-Ok.ensures.history in
    let told = ap (λ (s : Side). s.told) c.close-mirror.ensures.first in
    let hands = subst (λ (o : Option DiskState). Hands (g.H.Host.handed c.serve_node.new.host) (given_back (o ∷ [])) (g.H.Host.handed c.give_both-failed.new.host)) told c.give_both-failed.ensures.hands in
    served_with law.steps law.stands law.history c.args.node c.in-Ok.left.node led.0 c.mirror_end.result _ _ _ led.1 c.mirror_end.ensures.opened c.serve_node.ensures.disks.2 hands

pub returns-in-Ok-clause-link_back : goal.returns-in-Ok-clause-link_back
returns-in-Ok-clause-link_back g c = inl (c.close-mirror.result.0.link, c.give_both-failed.ensures.takes_back)

pub returns-in-Ok-clause-disk_cause : goal.returns-in-Ok-clause-disk_cause
returns-in-Ok-clause-disk_cause g c is =
    let led = c.in-Ok.ensures.history in
    let cause = either (c.mirror_end.ensures.cause is)
    (λ shut. c.give_both-failed.ensures.cause (shut_counts c.args.node c.in-Ok.left.node led.0 _ led.1 c.requires.alone c.requires.works (sym c.is_shut-is_shut.ensures ∙ shut) c.close-mirror.ensures.first))
    (λ failed. inl (c.give_both-failed.ensures.failed failed)) in
    subst (λ (n : ℕ). MirrorCause g.N.Link.Source.read_traffic n (g.H.Host.open_faults c.give_both-failed.new.host) (g.N.Dial.dial_faults c.args.net.now) (g.N.Dial.dial_faults c.give_both-failed.new.net)) c.serve_node.ensures.disks.1 cause
