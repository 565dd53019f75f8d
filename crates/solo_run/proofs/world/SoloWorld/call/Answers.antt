use Rattle.std.proofs.Common.{◌≡◌, ◌+◌, length, arith}
use Rattle.std.specs.Option.{option_copied}
use Rattle.solo_run.proofs.CallLemmas.{call_allowed, call_gives, call_keeps}
use Rattle.solo_run.proofs.world.SoloWorld.call.Goals as goal

pub invariant_of-self-2 : goal.invariant_of-self-2
invariant_of-self-2 c =
    let counted = c.self.inside.calls.ok.0 in
    let next : c.args.number ≡ length c.self.inside.calls.items + 1 = omega arith in
    let room = rw (← c.self.view_is) at c.requires in
    let asked = c.in_ok-place.ensures in
    rw (c.push.ensures.items, c.unwrap.ensures, c.in_ok-reserve.ensures.items, c.actor.ensures)
    (call_keeps c.self.inside.types c.self.inside.keys c.self.inside.cells.items c.self.inside.calls.items c.self.inside.events c.self.invariant
    c.args.number c.args.key.now (option_copied c.args.chain) next room c.ask_actor.new.keys c.ask_actor.new.cells.items c.in_ok-place.place c.in_ok-place.admission.admitted asked.keeps asked.place)

pub returns : goal.returns
returns c =
    let counted = c.self.inside.calls.ok.0 in
    let next : c.args.number ≡ length c.self.inside.calls.items + 1 = omega arith in
    let room = rw (← c.self.view_is) at c.requires in
    let asked = c.in_ok-place.ensures in
    rw (← c.self.view_is, c.push.ensures.items, c.unwrap.ensures, c.in_ok-reserve.ensures.items, c.actor.ensures) (
      call_allowed c.self.inside.types c.self.inside.keys c.self.inside.cells.items c.self.inside.calls.items c.self.inside.events c.self.invariant c.args.number c.args.key.now (option_copied c.args.chain) next room,
      call_gives c.self.inside.types c.self.inside.keys c.self.inside.cells.items c.self.inside.calls.items c.self.inside.events c.self.invariant
          c.args.number c.args.key.now (option_copied c.args.chain) next room c.ask_actor.new.keys c.ask_actor.new.cells.items c.in_ok-place.place c.in_ok-place.admission.admitted asked.keeps asked.place
          c.in_ok-place.admission.outcome asked.actors asked.outcome asked.admitted,
    )
