-- The types of the code as the definitions see them.
use Rattle.command_words.specs.declared.options.CommandOption.{CommandOption}
use Rattle.command_words.specs.declared.options.OptionKind.{OptionKind}
use Rattle.command_words.specs.declared.options.OptionKind.TheVariants as kind
use Rattle.command_words.specs.declared.server.PlacementWords.{PlacementWords}
use Rattle.command_words.specs.declared.server.ServerWords.{ServerWords}
use Rattle.command_words.specs.declared.server.StandbyWords.{StandbyWords}
use Rattle.command_words.specs.declared.sidecar.SidecarWords.{SidecarWords}
use Rattle.command_words.specs.declared.meaning.Meaning.{Meaning}
use Rattle.command_words.specs.declared.meaning.Meaning.TheVariants as meaning
use Rattle.command_words.specs.declared.reading.CommandWords.{CommandWords}
use Rattle.command_words.specs.declared.reading.CommandWords.TheVariants as words
use Rattle.command_words.specs.declared.reading.DrillWords.{DrillWords}
use Rattle.command_words.specs.declared.reading.ScheduleWords.{ScheduleWords}
use Rattle.command_words.specs.Options.{Text, Kind, Needed, Optional, Flag, Refused, Names, Gives}
use Rattle.command_words.specs.Options.{Meaning as Meant}
use Rattle.command_words.specs.Reading.{Asking, Drilling, Hosting, Placing, Standing, Seating, Said, Replay, Schedule, Drill, Placement, Store, Sidecar, Standby}

abbrev pub told_kind : OptionKind → Kind
told_kind kind.Needed = Needed
told_kind kind.Optional = Optional
told_kind kind.Flag = Flag

abbrev pub told_option : CommandOption → Text × Kind
told_option o = (o.name.now, told_kind o.kind)

abbrev pub told_meaning : Meaning → Meant
told_meaning meaning.Refused = Refused
told_meaning (meaning.Names name) = Names name.now
told_meaning (meaning.Gives name value) = Gives name.now value.now

abbrev pub told_schedule : ScheduleWords → Asking
told_schedule s = record { now = s.now.now; due = s.due.now; period = s.period.now; ttl = s.ttl.now; count = s.count }

abbrev pub told_drill : DrillWords → Drilling
told_drill d = record { seed = d.seed; steps = d.steps }

abbrev pub told_server : ServerWords → Hosting
told_server p = record { journal = p.journal.now; listen = p.listen; is_new = p.is_new; sessions = p.sessions; connections = p.connections }

abbrev pub told_placement : PlacementWords → Placing
told_placement p = record { server = told_server p.server; http = p.http; standby = p.standby }

abbrev pub told_standby : StandbyWords → Standing
told_standby s = record { journal = s.journal.now; listen = s.listen; sessions = s.sessions }

abbrev pub told_sidecar : SidecarWords → Seating
told_sidecar s = record {
  node = s.node.now;
  app = s.app.now;
  space = s.space.now;
  app_at = s.app_at;
  listen = s.listen;
  peer = s.peer;
  placement = s.placement;
  placement2 = s.placement2;
  store = s.store;
  parts = s.parts;
  sessions = s.sessions;
  connections = s.connections;
}

abbrev pub told : CommandWords → Said
told words.Replay = Replay
told (words.Schedule s) = Schedule (told_schedule s)
told (words.Drill d) = Drill (told_drill d)
told (words.Placement p) = Placement (told_placement p)
told (words.Store p) = Store (told_server p)
told (words.Sidecar s) = Sidecar (told_sidecar s)
told (words.Standby s) = Standby (told_standby s)
