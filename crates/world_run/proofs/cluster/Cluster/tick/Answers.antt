use Rattle.std.proofs.Common.{◌≡◌, ℕ, length, ap, sym, subst, arith}
use Rattle.std.specs.Prelude.{Ok}
use Rattle.world_events.specs.declared.outcome.Outcome.{Outcome}
use Rattle.world_events.specs.declared.event.WorldEvent.TheVariants as lines
use Rattle.cluster_model.specs.World as world
use Rattle.cluster_parts.specs.Layout.{HasNone, IsFirst}
use Rattle.world_run.specs.Worlds.{WorldView, Happens, Ticks}
use Rattle.cluster_parts.proofs.Scans.{booted-none, first-within}
use Rattle.world_run.proofs.Givings.{gives_false, gives_nothing, tick_each_gives}
use Rattle.world_run.proofs.cluster.Cluster.tick.Goals as goal

pub returns-in_default : goal.returns-in_default
returns-in_default c =
    let v = c.args.self.now in
    let none : HasNone c.args.member v.parts = subst (λ (w : WorldView). HasNone c.args.member w.parts) c.self.view_is c.in_default.ensures.found in
    subst (λ (o : Outcome). Happens (Ok o) v v (lines.Tick c.args.member)) (sym c.nothing.ensures)
    (gives_false (world.was_booted v.parts c.args.member) _ v v _ _ (booted-none c.args.member v.parts none) (gives_nothing v))

pub tick_from-turns-requires-clause-within : goal.tick_from-turns-requires-clause-within
tick_from-turns-requires-clause-within c =
    let many : length c.self.inside.parts.parts ≡ length c.args.self.now.parts = ap (λ (w : WorldView). length w.parts) c.self.view_is in
    omega (arith, first-within c.self.inside.parts.parts c.args.member c.self.inside.parts.per c.in-Some.first c.in-Some.ensures.found, c.per-count.ensures.value, many)

pub returns : goal.returns
returns c =
    let v = c.args.self.now in
    let first : IsFirst v.parts c.args.member c.self.inside.parts.per c.in-Some.first = subst (λ (w : WorldView). IsFirst w.parts c.args.member c.self.inside.parts.per c.in-Some.first) c.self.view_is c.in-Some.ensures.found in
    tick_each_gives v c.tick_from-turns.new.self c.args.member c.in-Some.first c.self.inside.parts.per c.tick_from-turns.result first
    (subst (λ (n : ℕ). Ticks c.tick_from-turns.result v c.tick_from-turns.new.self c.in-Some.first n 0) c.per-count.ensures.value c.tick_from-turns.ensures)
