use Rattle.std.proofs.Common.{◌≡◌, false, refl, sym, subst, ◌∙◌}
use Rattle.part_model.specs.Cells.{cell_at, cell_of_call}
use Rattle.part_model.specs.Rooms.{PartView}
use Rattle.part_core.specs.Actors.{state_of, view_of}
use Rattle.part_model.specs.Part.{is_stopped, ask_part, draw_part, poll_part, end_part, hold_part, release_part, take_closing, first_to_close, ring_owner}
use Rattle.part_core.proofs.Foreigns.{asks_steady, draws_steady, polls_steady, ends_steady, holds_steady, releases_steady, takes_steady}
use Rattle.part_core.proofs.Drained.{kept_by, kept_in_memory}
use Rattle.part_core.proofs.Runnings.{runs}
use Rattle.part_core.proofs.Wants.{ask_goes_on, runs_out}
use Rattle.part_core.proofs.shard.Shard.step.Goals as goal

pub returns-in-Ask-clause-gives : goal.returns-in-Ask-clause-gives
returns-in-Ask-clause-gives c =
    let running : is_stopped c.args.self.now.state.stage ≡ false = subst (λ (v : PartView). is_stopped v.state.stage ≡ false) c.self.view_is (sym c.is_stopped.ensures ∙ c.if-is_stopped.false) in
    runs c.ask.result c.args.self.now.state (view_of c.self.inside.standing c.ask.new.self) running c.args.event (rw (c.in-Ask.is, ← c.self.view_is) c.ask.ensures.gives)

pub returns-in-Ask-clause-memory : goal.returns-in-Ask-clause-memory
returns-in-Ask-clause-memory c =
    let running : is_stopped c.args.self.now.state.stage ≡ false = subst (λ (v : PartView). is_stopped v.state.stage ≡ false) c.self.view_is (sym c.is_stopped.ensures ∙ c.if-is_stopped.false) in
    let p = state_of c.self.inside.standing c.self.inside.actors in
    runs_out c.ask.result c.args.self.now.state c.args.event running (rw (c.in-Ask.is, ← c.self.view_is) (λ e. let m = c.ask.ensures.memory e in ask_goes_on p c.in-Ask.key c.in-Ask.chain 0 m.0 m.1))

pub returns-in-AskAt-clause-gives : goal.returns-in-AskAt-clause-gives
returns-in-AskAt-clause-gives c =
    let running : is_stopped c.args.self.now.state.stage ≡ false = subst (λ (v : PartView). is_stopped v.state.stage ≡ false) c.self.view_is (sym c.is_stopped.ensures ∙ c.if-is_stopped.false) in
    runs c.ask-in-AskAt.result c.args.self.now.state (view_of c.self.inside.standing c.ask-in-AskAt.new.self) running c.args.event (rw (c.in-AskAt.is, ← c.self.view_is) c.ask-in-AskAt.ensures.gives)

pub returns-in-AskAt-clause-memory : goal.returns-in-AskAt-clause-memory
returns-in-AskAt-clause-memory c =
    let running : is_stopped c.args.self.now.state.stage ≡ false = subst (λ (v : PartView). is_stopped v.state.stage ≡ false) c.self.view_is (sym c.is_stopped.ensures ∙ c.if-is_stopped.false) in
    let p = state_of c.self.inside.standing c.self.inside.actors in
    runs_out c.ask-in-AskAt.result c.args.self.now.state c.args.event running (rw (c.in-AskAt.is, ← c.self.view_is) (λ e. let m = c.ask-in-AskAt.ensures.memory e in ask_goes_on p c.in-AskAt.key c.in-AskAt.chain c.in-AskAt.least m.0 m.1))

pub invariant_of-self : goal.invariant_of-self
invariant_of-self c =
    let s = c.self in
    let p = state_of s.inside.standing s.inside.actors in
    let h = rw (← s.view_is) at c.requires.sound in
    kept_in_memory s.inside.standing s.inside.actors c.ask.new.self s.invariant (ask_part ring_owner p c.in-Ask.key c.in-Ask.chain 0) (λ up. asks_steady ring_owner p h up c.in-Ask.key c.in-Ask.chain 0) c.ask.result c.ask.ensures.gives

pub invariant_of-self-in-AskAt : goal.invariant_of-self-in-AskAt
invariant_of-self-in-AskAt c =
    let s = c.self in
    let p = state_of s.inside.standing s.inside.actors in
    let h = rw (← s.view_is) at c.requires.sound in
    kept_in_memory s.inside.standing s.inside.actors c.ask-in-AskAt.new.self s.invariant (ask_part ring_owner p c.in-AskAt.key c.in-AskAt.chain c.in-AskAt.least) (λ up. asks_steady ring_owner p h up c.in-AskAt.key c.in-AskAt.chain c.in-AskAt.least) c.ask-in-AskAt.result c.ask-in-AskAt.ensures.gives

pub invariant_of-self-in-Draw : goal.invariant_of-self-in-Draw
invariant_of-self-in-Draw c =
    let s = c.self in
    let p = state_of s.inside.standing s.inside.actors in
    let h = rw (← s.view_is) at c.requires.sound in
    kept_by s.inside.standing s.inside.actors c.draw.new.self s.invariant (draw_part ring_owner p) (λ _. draws_steady ring_owner p h) c.draw.result (c.draw.ensures s.inside.standing)

pub invariant_of-self-in-Poll : goal.invariant_of-self-in-Poll
invariant_of-self-in-Poll c =
    let s = c.self in
    let p = state_of s.inside.standing s.inside.actors in
    let h = rw (← s.view_is) at c.requires.sound in
    kept_in_memory s.inside.standing s.inside.actors c.poll.new.self s.invariant (poll_part ring_owner p c.in-Poll.call) (λ _. polls_steady ring_owner p h c.in-Poll.call (cell_of_call p.cells c.in-Poll.call) refl) c.poll.result c.poll.ensures.gives

pub invariant_of-self-in-End : goal.invariant_of-self-in-End
invariant_of-self-in-End c =
    let s = c.self in
    let p = state_of s.inside.standing s.inside.actors in
    let h = rw (← s.view_is) at c.requires.sound in
    kept_by s.inside.standing s.inside.actors c.end.new.self s.invariant (end_part ring_owner p c.in-End.call c.in-End.now) (λ _. ends_steady ring_owner p h c.in-End.call c.in-End.now (cell_of_call p.cells c.in-End.call) refl) c.end.result c.end.ensures

pub invariant_of-self-in-Hold : goal.invariant_of-self-in-Hold
invariant_of-self-in-Hold c =
    let s = c.self in
    let p = state_of s.inside.standing s.inside.actors in
    let h = rw (← s.view_is) at c.requires.sound in
    kept_by s.inside.standing s.inside.actors c.hold.new.self s.invariant (hold_part ring_owner p c.in-Hold.key) (λ _. holds_steady ring_owner p h c.in-Hold.key (cell_at p.cells c.in-Hold.key) refl) c.hold.result c.hold.ensures

pub invariant_of-self-in-Release : goal.invariant_of-self-in-Release
invariant_of-self-in-Release c =
    let s = c.self in
    let p = state_of s.inside.standing s.inside.actors in
    let h = rw (← s.view_is) at c.requires.sound in
    kept_by s.inside.standing s.inside.actors c.release.new.self s.invariant (release_part ring_owner p c.in-Release.key c.in-Release.now) (λ _. releases_steady ring_owner p h c.in-Release.key c.in-Release.now (cell_at p.cells c.in-Release.key) refl) c.release.result c.release.ensures

pub invariant_of-self-in-TakeClosing : goal.invariant_of-self-in-TakeClosing
invariant_of-self-in-TakeClosing c =
    let s = c.self in
    let p = state_of s.inside.standing s.inside.actors in
    let h = rw (← s.view_is) at c.requires.sound in
    kept_in_memory s.inside.standing s.inside.actors c.take_closing.new.self s.invariant (take_closing ring_owner p c.in-TakeClosing.now) (λ _. takes_steady ring_owner p h c.in-TakeClosing.now (first_to_close ring_owner p c.in-TakeClosing.now p.cells) refl) c.take_closing.result c.take_closing.ensures.gives
