use Rattle.std.proofs.Common.{subst, ◌∙◌}
use Rattle.fence_rows.proofs.Seeing.{Tells, tells_at, none_else}
use Rattle.fence_rows.proofs.fenced.Fenced.see.Goals as goal
use Rattle.fence_rows.proofs.fenced.Fenced.see.Goals.{in-Value, in-NotThere, in-Refused}

pub unreachable-requires : goal.unreachable-requires
unreachable-requires g c =
    let told = tells_at c.args.self.now c.self.inside.store c.command.new.self c.args.actor.now c.in-Ok.actor c.in-Ok-epoch_key.key c.args.now c.command.result c.self.view_is c.in-Ok.ensures c.in-Ok-epoch_key.ensures c.command.ensures.moves in
    none_else c.args.self.now c.args.actor.now c.args.now c.command.result told.0 c.in_default-command.not-Value c.in_default-command.not-NotThere c.in_default-command.not-Refused

pub returns-clause-seen : goal.returns-clause-seen
returns-clause-seen g c =
    let told = tells_at c.args.self.now c.self.inside.store c.command.new.self c.args.actor.now c.in-Ok.actor c.in-Ok-epoch_key.key c.args.now c.command.result c.self.view_is c.in-Ok.ensures c.in-Ok-epoch_key.ensures c.command.ensures.moves in
    elim c.match-command.branch [
      | in-Value w ↦
          let value = subst (Tells c.args.self.now c.args.actor.now c.args.now) w.in-Value.is told.0 in
          rw w.result-is (value.0, w.epoch_in.ensures ∙ value.1)
      | in-NotThere w ↦ rw w.result-is (subst (Tells c.args.self.now c.args.actor.now c.args.now) w.in-NotThere.is told.0)
      | in-Refused w ↦ rw w.result-is (subst (Tells c.args.self.now c.args.actor.now c.args.now) w.in-Refused.is told.0)
    ]

pub returns-clause-same : goal.returns-clause-same
returns-clause-same g c =
    (tells_at c.args.self.now c.self.inside.store c.command.new.self c.args.actor.now c.in-Ok.actor c.in-Ok-epoch_key.key c.args.now c.command.result c.self.view_is c.in-Ok.ensures c.in-Ok-epoch_key.ensures c.command.ensures.moves).1
