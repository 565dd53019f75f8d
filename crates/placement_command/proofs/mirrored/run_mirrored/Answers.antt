use Rattle.std.proofs.Common.{inl, inr, refl, ◌∙◌}
use Rattle.placement_command.proofs.Kept.{copied, uncopied}
use Rattle.placement_command.proofs.Counts.{attach_cause, cause_from}
use Rattle.placement_command.proofs.mirrored.run_mirrored.Goals as goal

pub returns-in-Err-clause-ran : goal.returns-in-Err-clause-ran
returns-in-Err-clause-ran g c = uncopied _ _ _ _ _ _ _ c.unbound.ensures.either refl c.done_disk.ensures.takes

pub returns-in-Err-clause-link_back : goal.returns-in-Err-clause-link_back
returns-in-Err-clause-link_back g c = inr (inl (c.in-Err.error, c.in-Err.ensures.dials))

pub returns-in-Ok-attach-clause-ran : goal.returns-in-Ok-attach-clause-ran
returns-in-Ok-attach-clause-ran g c = copied _ _ _ _ _ _ _ c.in-Ok-attach.ensures.same.0 c.open_mirrored.ensures.ran

pub returns-in-Ok-attach-clause-link_back : goal.returns-in-Ok-attach-clause-link_back
returns-in-Ok-attach-clause-link_back g c = inr (inr (c.in-Ok.link, _, c.in-Ok.ensures.dials, c.open_mirrored.ensures.link_back))

pub returns-in-Ok-attach-clause-disk_cause : goal.returns-in-Ok-attach-clause-disk_cause
returns-in-Ok-attach-clause-disk_cause g c is = cause_from g.N.Link.Source.read_traffic _ _ _ _ _ c.in-Ok.ensures.cause (c.open_mirrored.ensures.disk_cause is)

pub returns-in-Err-attach-clause-ran : goal.returns-in-Err-attach-clause-ran
returns-in-Err-attach-clause-ran g c = uncopied _ _ _ _ _ _ _ (inr c.unattached.ensures.either) c.in-Err-attach.ensures.handed_back c.done_disk-in-Err-attach.ensures.takes

pub returns-in-Err-attach-clause-link_back : goal.returns-in-Err-attach-clause-link_back
returns-in-Err-attach-clause-link_back g c = inr (inr (c.in-Ok.link, _, c.in-Ok.ensures.dials, inl (c.in-Err-attach.link, c.done.ensures.takes_back)))

pub returns-in-Err-attach-clause-disk_cause : goal.returns-in-Err-attach-clause-disk_cause
returns-in-Err-attach-clause-disk_cause g c is =
    cause_from g.N.Link.Source.read_traffic _ _ _ _ _ c.in-Ok.ensures.cause
    (attach_cause g.N.Link.Source.read_traffic _ _ _ _ _ _ _ _ c.in-Ok.link c.in-Err-attach.link c.in-Err-attach.error (c.unattached.ensures.disk is) c.done_disk-in-Err-attach.ensures.cause c.done.ensures.cause c.in-Err-attach.ensures.cause)
