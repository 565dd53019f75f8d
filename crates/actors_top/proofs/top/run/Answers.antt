use Rattle.std.proofs.Common.{refl, rules, map, string_bytes}
use Rattle.plain_commands.specs.declared.status.Status.TheVariants as status
use Rattle.actors_top.specs.declared.server.ServerStatus.TheVariants as server
use Rattle.actors_top.specs.declared.sidecar.SidecarStatus.TheVariants as seat
use Rattle.sidecar_command.specs.declared.ends.SidecarEnd.TheVariants as ends
use Rattle.sidecar_command.proofs.Served.{nothing_run}
use Rattle.exchanges.specs.Replies.{place_at}
use Rattle.server_ports.specs.Hosts.{place_of}
use Rattle.world_drill.proofs.Honest.{drill_honest}
use Rattle.placement_command.specs.declared.command.PlacementEnd.TheVariants as places
use Rattle.store_command.specs.declared.command.StoreEnd.TheVariants as stores
use Rattle.actors_top.specs.Ran.{told_by}
use Rattle.standby_command.specs.declared.command.StandbyEnd.TheVariants as standbys
use Rattle.command_words.specs.Reading.{reading}
use Rattle.command_words.specs.Told.{told_placement}
use Rattle.actors_top.proofs.Same.{nothing_written, no_placement, no_store, no_standby, no_ports_asked, nothing_dialled, none_dialled, disk_said}
use Rattle.actors_top.proofs.top.run.Goals as goal

pub returns-in-Err-OutOfMemory-clause-scheduled : goal.returns-in-Err-OutOfMemory-clause-scheduled
returns-in-Err-OutOfMemory-clause-scheduled g c = λ asking is. (status.OutOfMemory, refl, nothing_written (g.W.Sink.contents c.args.out.now.output), refl)

pub returns-in-Err-OutOfMemory-clause-drilled : goal.returns-in-Err-OutOfMemory-clause-drilled
returns-in-Err-OutOfMemory-clause-drilled g c = λ d is. (status.OutOfMemory, refl, nothing_written (g.W.Sink.contents c.args.out.now.output), drill_honest d.seed d.steps, refl)

pub returns-in-Err-OutOfMemory-clause-placed : goal.returns-in-Err-OutOfMemory-clause-placed
returns-in-Err-OutOfMemory-clause-placed g c = λ p is.
    (places.OutOfMemory, server.OutOfMemory, refl, no_placement p (g.T.Clock.shown c.args.out.now.steady) (told_by g.H.Host.asked g.H.Host.handed g.H.Host.open_faults g.H.Host.bind_faults c.args.out.now.host), (refl, nothing_written (g.W.Sink.contents c.args.out.now.output)), refl, λ _. refl, none_dialled g.N.Link.Source.read_traffic p.standby (g.N.Dial.dialled c.args.out.now.net) places.OutOfMemory)

pub returns-in-Err-OutOfMemory-clause-stored : goal.returns-in-Err-OutOfMemory-clause-stored
returns-in-Err-OutOfMemory-clause-stored g c = λ p is.
    (stores.OutOfMemory, server.OutOfMemory, refl, no_store p (told_by g.H.Host.asked g.H.Host.handed g.H.Host.open_faults g.H.Host.bind_faults c.args.out.now.host), (refl, nothing_written (g.W.Sink.contents c.args.out.now.output)), refl)

pub returns-in-Err-OutOfMemory-clause-seated : goal.returns-in-Err-OutOfMemory-clause-seated
returns-in-Err-OutOfMemory-clause-seated g c = λ s is. (ends.OutOfMemory, seat.OutOfMemory, nothing_run g.N.Dial.dialled g.N.Link.Source.read_traffic g.T.Clock.shown s (g.N.Dial.dialled c.args.out.now.net) (g.N.Dial.dial_faults c.args.out.now.net), refl, no_ports_asked (place_of s.listen) (place_of s.peer) (g.H.Host.asked c.args.out.now.host), nothing_written (g.W.Sink.contents c.args.out.now.output), refl)

pub returns-in-Err-OutOfMemory-clause-dialled : goal.returns-in-Err-OutOfMemory-clause-dialled
returns-in-Err-OutOfMemory-clause-dialled g c = λ s is. nothing_dialled (place_at s.store) (place_at s.app_at) (g.N.Dial.dialled c.args.out.now.net)

pub returns-in-Err-OutOfMemory-clause-stood_by : goal.returns-in-Err-OutOfMemory-clause-stood_by
returns-in-Err-OutOfMemory-clause-stood_by g c = λ s is.
    (standbys.OutOfMemory, server.OutOfMemory, refl, no_standby s (told_by g.H.Host.asked g.H.Host.handed g.H.Host.open_faults g.H.Host.bind_faults c.args.out.now.host), refl, refl)

pub returns-in-Ok-Placement-3-clause-disk : goal.returns-in-Ok-Placement-3-clause-disk
returns-in-Ok-Placement-3-clause-disk g c = λ six.
    disk_said g.N.Link.Source.read_traffic (reading (map string_bytes c.args.words.now)) (told_placement c.in-Ok-Placement.words) _ _ _ _ (rw c.in-Ok-Placement.field-0-is at c.in-Ok-Placement.ensures.read) (c.placement.ensures.disk (first_of (search rules, cc)))
