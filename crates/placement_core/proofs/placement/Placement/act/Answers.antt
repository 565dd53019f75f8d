use Rattle.std.proofs.Common.{◌≡◌, [], subst, Option, None}
use Rattle.round_core.specs.declared.event.PlaceReply.{PlaceReply}
use Rattle.round_core.specs.declared.event.PlaceReply.TheVariants as replies
use Rattle.placement_core.specs.Placement.{room_at}
use Rattle.placement_core.specs.Views.{Steps, HasStepped, LeavesEntry}
use Rattle.placement_core.proofs.Recorded.{member_leaves, stranger_leaves}
use Rattle.placement_core.proofs.Steps.{member_gives, stranger_gives}
use Rattle.placement_core.proofs.placement.Placement.act.Goals.{in-Some, in-None}
use Rattle.placement_core.proofs.placement.Placement.act.Goals as goal

pub returns-clause-gives : goal.returns-clause-gives
returns-clause-gives c =
    elim c.match-step.branch [
      | in-Some w ↦
          let g : HasStepped c.args.event c.args.now c.args.space w.in-Some.reply c.self.inside.rooms.rooms c.step.new.self.rooms = subst (λ (o : Option PlaceReply). Steps c.args.event c.args.now c.args.space o c.self.inside.rooms.rooms c.step.new.self.rooms) w.in-Some.is c.step.ensures.steps in
          rw (← c.self.view_is, w.result-is) (member_gives c.args.event c.args.now c.args.space w.in-Some.reply c.self.inside.rooms.rooms c.step.new.self.rooms c.requires g)
      | in-None w ↦
          let g : (room_at c.self.inside.rooms.rooms c.args.space ≡ None) × (c.step.new.self.rooms ≡ c.self.inside.rooms.rooms) = subst (λ (o : Option PlaceReply). Steps c.args.event c.args.now c.args.space o c.self.inside.rooms.rooms c.step.new.self.rooms) w.in-None.is c.step.ensures.steps in
          rw (← c.self.view_is, w.result-is, g.1) (stranger_gives c.args.event c.args.now c.args.space c.self.inside.rooms.rooms c.requires g.0)
    ]

pub returns-clause-recent : goal.returns-clause-recent
returns-clause-recent c =
    elim c.match-step.branch [
      | in-Some w ↦
          let g : HasStepped c.args.event c.args.now c.args.space w.in-Some.reply c.self.inside.rooms.rooms c.step.new.self.rooms = subst (λ (o : Option PlaceReply). Steps c.args.event c.args.now c.args.space o c.self.inside.rooms.rooms c.step.new.self.rooms) w.in-Some.is c.step.ensures.steps in
          let h = subst (λ (o : Option PlaceReply). LeavesEntry c.args.event c.args.now c.args.space o c.self.inside.rooms.rooms c.step.new.self.recent) w.in-Some.is c.step.ensures.recent in
          rw (← c.self.view_is, w.result-is) (member_leaves c.args.event c.args.now c.args.space w.in-Some.reply c.self.inside.rooms.rooms g.room c.step.new.self.recent c.requires g.is (h g.room g.is))
      | in-None w ↦
          let g : (room_at c.self.inside.rooms.rooms c.args.space ≡ None) × (c.step.new.self.rooms ≡ c.self.inside.rooms.rooms) = subst (λ (o : Option PlaceReply). Steps c.args.event c.args.now c.args.space o c.self.inside.rooms.rooms c.step.new.self.rooms) w.in-None.is c.step.ensures.steps in
          let h : c.step.new.self.recent ≡ [] = subst (λ (o : Option PlaceReply). LeavesEntry c.args.event c.args.now c.args.space o c.self.inside.rooms.rooms c.step.new.self.recent) w.in-None.is c.step.ensures.recent in
          rw (← c.self.view_is, w.result-is) (stranger_leaves c.args.event c.args.now c.args.space (replies.NotMember 0) c.self.inside.rooms.rooms c.step.new.self.recent c.requires g.0 h)
    ]
