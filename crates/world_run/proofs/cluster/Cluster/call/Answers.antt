use Rattle.std.proofs.Common.{◌≡◌, ◌++◌, ◌∷◌, [], List, ap, sym, ◌∙◌, subst, arith}
use Rattle.std.specs.Prelude.{Option, Some, Result, Ok, Err}
use Rattle.part_model.specs.declared.event.PartEvent.{PartEvent}
use Rattle.part_model.specs.Receipts.{PartReply}
use Rattle.part_model.specs.Part.{ring_owner}
use Rattle.cluster_parts.specs.Views.{StepsAt, wants}
use Rattle.world_events.specs.declared.event.WorldEvent.TheVariants as lines
use Rattle.world_events.specs.declared.outcome.Outcome.{Outcome}
use Rattle.world_events.specs.declared.error.WorldError.{WorldError}
use Rattle.world_events.specs.declared.error.WorldError.TheVariants as refused
use Rattle.cluster_model.specs.World as world
use Rattle.world_run.specs.Worlds.{WorldView, Happens, cluster_of, viewed}
use Rattle.world_run.proofs.Givings.{call_gives, call_wants, key_at}
use Rattle.world_run.proofs.cluster.Cluster.call.Goals as goal

pub returns-in_default-in_memory : goal.returns-in_default-in_memory
returns-in_default-in_memory c =
    let i = c.self.inside in
    let r : Result Outcome WorldError = Err refused.OutOfMemory in
    let u : WorldView = viewed i.settings i.post c.step_at-answer.new.self c.reserve.new.self i.moment i.events in
    subst (λ (v : WorldView). Happens r v u (lines.Call c.args.call c.args.member c.args.key c.args.least c.args.chain)) c.self.view_is
    (call_wants i.settings i.post i.moment i.events i.parts c.step_at-answer.new.self i.calls c.reserve.new.self c.in-Some.at c.ask_of-event.result c.step_at-answer.result
    (world.happens ring_owner world.key_part (cluster_of (viewed i.settings i.post i.parts i.calls i.moment i.events)) (lines.Call c.args.call c.args.member c.args.key c.args.least c.args.chain))
    c.step_at-answer.ensures.step c.in-Some.ensures.within c.ask_of-event.ensures.memory c.in_default-in_memory.ensures.wanted c.reserve.ensures.same)

pub returns : goal.returns
returns c =
    let i = c.self.inside in
    let reply = c.in-Some-in_memory.reply in
    let r : Result Outcome WorldError = Ok c.call_outcome.result in
    let u : WorldView = viewed i.settings i.post c.step_at-answer.new.self c.add.new.self i.moment i.events in
    let steps = subst (λ (e : PartEvent). StepsAt e c.step_at-answer.result c.in-Some.at i.parts c.step_at-answer.new.self) c.ask_of-event.ensures.event c.step_at-answer.ensures.step in
    let told = subst (λ (a : PartReply). StepsAt (world.ask_of c.args.key c.args.least c.args.chain i.moment) a c.in-Some.at i.parts c.step_at-answer.new.self) (sym c.in-Some-in_memory.ensures.reply) steps in
    let calls : c.add.new.self.calls ≡ i.calls.calls ++ world.place_of_call c.in-Some.at reply ∷ [] = c.add.ensures ∙ ap (λ (cs : List (Option world.CallPlace)). cs ++ world.place_of_call c.in-Some.at reply ∷ []) c.reserve.ensures.same in
    subst (λ (v : WorldView). Happens r v u (lines.Call c.args.call c.args.member c.args.key c.args.least c.args.chain)) c.self.view_is
    (call_gives i.settings i.post i.moment i.events i.parts c.step_at-answer.new.self i.calls c.add.new.self c.args.call _ c.in-Some.at (world.ask_of c.args.key c.args.least c.args.chain i.moment) reply r _ (omega arith)
    (key_at i.parts i.settings c.args.member c.args.key (Some c.in-Some.at) c.self.invariant.0 c.in-Some.ensures.place) told c.in-Some.ensures.within (ap wants c.in-Some-in_memory.ensures.reply ∙ c.in-Some-in_memory.ensures.had) calls
    (ap (λ (o : Outcome). let q : Result Outcome WorldError = Ok o in q) c.call_outcome.ensures))
