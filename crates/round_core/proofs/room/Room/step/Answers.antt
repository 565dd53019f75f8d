use Rattle.round_core.specs.declared.event.PlaceEvent.TheVariants as events
use Rattle.round_core.proofs.Durable.{gives_durable, memory_durable}
use Rattle.round_core.proofs.Memory.{gives_forgets, memory_forgets}
use Rattle.round_core.proofs.Sound.{gives_sound, memory_sound}
use Rattle.round_core.proofs.Types.{gives_types, memory_types}
use Rattle.round_core.proofs.room.Room.step.Goals as goal

pub returns-in-Register-clause-durable : goal.returns-in-Register-clause-durable
returns-in-Register-clause-durable c = memory_durable (events.Register c.in-Register.host) c.args.now c.register.result c.args.self.now c.register.new.self c.register.ensures

pub returns-in-Beat-clause-durable : goal.returns-in-Beat-clause-durable
returns-in-Beat-clause-durable c = gives_durable (events.Beat c.in-Beat.member) c.args.now c.beat.result c.args.self.now c.beat.new.self c.beat.ensures

pub returns-in-Ack-clause-durable : goal.returns-in-Ack-clause-durable
returns-in-Ack-clause-durable c = gives_durable (events.Ack c.in-Ack.member c.in-Ack.stage c.in-Ack.version) c.args.now c.ack.result c.args.self.now c.ack.new.self c.ack.ensures

pub returns-in-Leave-clause-gives : goal.returns-in-Leave-clause-gives
returns-in-Leave-clause-gives c = rw c.in-Leave.is (c.remove.ensures.leave c.args.now)

pub returns-in-Leave-clause-durable : goal.returns-in-Leave-clause-durable
returns-in-Leave-clause-durable c = gives_durable (events.Leave c.in-Leave.member) c.args.now c.remove.result c.args.self.now c.remove.new.self (c.remove.ensures.leave c.args.now)

pub returns-in-Lost-clause-gives : goal.returns-in-Lost-clause-gives
returns-in-Lost-clause-gives c = rw c.in-Lost.is (c.remove-in-Lost.ensures.lost c.args.now)

pub returns-in-Lost-clause-durable : goal.returns-in-Lost-clause-durable
returns-in-Lost-clause-durable c = gives_durable (events.Lost c.in-Lost.member) c.args.now c.remove-in-Lost.result c.args.self.now c.remove-in-Lost.new.self (c.remove-in-Lost.ensures.lost c.args.now)

pub returns-in-Tick-clause-durable : goal.returns-in-Tick-clause-durable
returns-in-Tick-clause-durable c = gives_durable events.Tick c.args.now c.tick.result c.args.self.now c.tick.new.self c.tick.ensures

pub returns-in-Look-clause-gives : goal.returns-in-Look-clause-gives
returns-in-Look-clause-gives c = rw c.in-Look.is (c.look.ensures c.args.now)

pub returns-in-Look-clause-durable : goal.returns-in-Look-clause-durable
returns-in-Look-clause-durable c = gives_durable events.Look c.args.now c.look.result c.args.self.now c.look.new.self (c.look.ensures c.args.now)

pub returns-in-Register-clause-remembers : goal.returns-in-Register-clause-remembers
returns-in-Register-clause-remembers c = memory_forgets (events.Register c.in-Register.host) c.args.now c.register.result c.args.self.now c.register.new.self c.register.ensures

pub returns-in-Beat-clause-remembers : goal.returns-in-Beat-clause-remembers
returns-in-Beat-clause-remembers c = gives_forgets (events.Beat c.in-Beat.member) c.args.now c.beat.result c.args.self.now c.beat.new.self c.beat.ensures

pub returns-in-Ack-clause-remembers : goal.returns-in-Ack-clause-remembers
returns-in-Ack-clause-remembers c = gives_forgets (events.Ack c.in-Ack.member c.in-Ack.stage c.in-Ack.version) c.args.now c.ack.result c.args.self.now c.ack.new.self c.ack.ensures

pub returns-in-Leave-clause-remembers : goal.returns-in-Leave-clause-remembers
returns-in-Leave-clause-remembers c = gives_forgets (events.Leave c.in-Leave.member) c.args.now c.remove.result c.args.self.now c.remove.new.self (c.remove.ensures.leave c.args.now)

pub returns-in-Lost-clause-remembers : goal.returns-in-Lost-clause-remembers
returns-in-Lost-clause-remembers c = gives_forgets (events.Lost c.in-Lost.member) c.args.now c.remove-in-Lost.result c.args.self.now c.remove-in-Lost.new.self (c.remove-in-Lost.ensures.lost c.args.now)

pub returns-in-Tick-clause-remembers : goal.returns-in-Tick-clause-remembers
returns-in-Tick-clause-remembers c = gives_forgets events.Tick c.args.now c.tick.result c.args.self.now c.tick.new.self c.tick.ensures

pub returns-in-Look-clause-remembers : goal.returns-in-Look-clause-remembers
returns-in-Look-clause-remembers c = gives_forgets events.Look c.args.now c.look.result c.args.self.now c.look.new.self (c.look.ensures c.args.now)

pub returns-in-Register-clause-types : goal.returns-in-Register-clause-types
returns-in-Register-clause-types c = λ t h. memory_types (events.Register c.in-Register.host) c.args.now c.register.result c.args.self.now c.register.new.self (rw c.in-Register.is at t) h c.register.ensures

pub returns-in-Beat-clause-types : goal.returns-in-Beat-clause-types
returns-in-Beat-clause-types c = λ t h. gives_types (events.Beat c.in-Beat.member) c.args.now c.beat.result c.args.self.now c.beat.new.self (rw c.in-Beat.is at t) h c.beat.ensures

pub returns-in-Ack-clause-types : goal.returns-in-Ack-clause-types
returns-in-Ack-clause-types c = λ t h. gives_types (events.Ack c.in-Ack.member c.in-Ack.stage c.in-Ack.version) c.args.now c.ack.result c.args.self.now c.ack.new.self (rw c.in-Ack.is at t) h c.ack.ensures

pub returns-in-Leave-clause-types : goal.returns-in-Leave-clause-types
returns-in-Leave-clause-types c = λ t h. gives_types (events.Leave c.in-Leave.member) c.args.now c.remove.result c.args.self.now c.remove.new.self (rw c.in-Leave.is at t) h (c.remove.ensures.leave c.args.now)

pub returns-in-Lost-clause-types : goal.returns-in-Lost-clause-types
returns-in-Lost-clause-types c = λ t h. gives_types (events.Lost c.in-Lost.member) c.args.now c.remove-in-Lost.result c.args.self.now c.remove-in-Lost.new.self (rw c.in-Lost.is at t) h (c.remove-in-Lost.ensures.lost c.args.now)

pub returns-in-Tick-clause-types : goal.returns-in-Tick-clause-types
returns-in-Tick-clause-types c = λ t h. gives_types events.Tick c.args.now c.tick.result c.args.self.now c.tick.new.self (rw c.in-Tick.is at t) h c.tick.ensures

pub returns-in-Look-clause-types : goal.returns-in-Look-clause-types
returns-in-Look-clause-types c = λ t h. gives_types events.Look c.args.now c.look.result c.args.self.now c.look.new.self (rw c.in-Look.is at t) h (c.look.ensures c.args.now)

pub returns-in-Register-clause-sound : goal.returns-in-Register-clause-sound
returns-in-Register-clause-sound c = memory_sound (events.Register c.in-Register.host) c.args.now c.register.result c.args.self.now c.register.new.self c.len-members.ensures.sound c.register.ensures

pub returns-in-Beat-clause-sound : goal.returns-in-Beat-clause-sound
returns-in-Beat-clause-sound c = gives_sound (events.Beat c.in-Beat.member) c.args.now c.beat.result c.args.self.now c.beat.new.self c.len-members.ensures.sound c.beat.ensures

pub returns-in-Ack-clause-sound : goal.returns-in-Ack-clause-sound
returns-in-Ack-clause-sound c = gives_sound (events.Ack c.in-Ack.member c.in-Ack.stage c.in-Ack.version) c.args.now c.ack.result c.args.self.now c.ack.new.self c.len-members.ensures.sound c.ack.ensures

pub returns-in-Leave-clause-sound : goal.returns-in-Leave-clause-sound
returns-in-Leave-clause-sound c = gives_sound (events.Leave c.in-Leave.member) c.args.now c.remove.result c.args.self.now c.remove.new.self c.len-members.ensures.sound (c.remove.ensures.leave c.args.now)

pub returns-in-Lost-clause-sound : goal.returns-in-Lost-clause-sound
returns-in-Lost-clause-sound c = gives_sound (events.Lost c.in-Lost.member) c.args.now c.remove-in-Lost.result c.args.self.now c.remove-in-Lost.new.self c.len-members.ensures.sound (c.remove-in-Lost.ensures.lost c.args.now)

pub returns-in-Tick-clause-sound : goal.returns-in-Tick-clause-sound
returns-in-Tick-clause-sound c = gives_sound events.Tick c.args.now c.tick.result c.args.self.now c.tick.new.self c.len-members.ensures.sound c.tick.ensures

pub returns-in-Look-clause-sound : goal.returns-in-Look-clause-sound
returns-in-Look-clause-sound c = gives_sound events.Look c.args.now c.look.result c.args.self.now c.look.new.self c.len-members.ensures.sound (c.look.ensures c.args.now)
