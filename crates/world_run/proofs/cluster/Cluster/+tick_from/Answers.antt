use Rattle.std.proofs.Common.{◌≡◌, ℕ, ◌+◌, ◌-◌, length, ap, subst, arith}
use Rattle.cluster_model.specs.World as world
use Rattle.world_run.specs.Worlds.{WorldView, Ticks, viewed}
use Rattle.world_run.proofs.Givings.{tick_gives}
use Rattle.world_run.proofs.cluster.Cluster.«+tick_from».Goals as goal

pub returns : goal.returns
returns t c =
    let i = c.self.inside in
    let many : length i.parts.parts ≡ length c.args.self.now.parts = ap (λ (v : WorldView). length v.parts) c.self.view_is in
    let next : Ticks c.tick_from.result (viewed i.settings i.post c.step_at-reply.new.self i.calls i.moment i.events) c.tick_from.new.self (c.args.at + 1) (c.args.count - 1) (c.args.turns + world.ended_turns c.step_at-reply.result) =
    subst (λ (n : ℕ). Ticks c.tick_from.result (viewed i.settings i.post c.step_at-reply.new.self i.calls i.moment i.events) c.tick_from.new.self (c.args.at + 1) (c.args.count - 1) (c.args.turns + n)) c.ended_turns-ended.ensures c.tick_from.ensures in
    subst (λ (v : WorldView). Ticks c.tick_from.result v c.tick_from.new.self c.args.at c.args.count c.args.turns) c.self.view_is
    (tick_gives i.settings i.post i.calls i.moment i.events i.parts c.step_at-reply.new.self c.args.at c.args.count c.args.turns c.tick_from.result c.step_at-reply.result c.tick_from.new.self (λ e. omega arith)
    c.step_at-reply.ensures.step (omega arith) next)
