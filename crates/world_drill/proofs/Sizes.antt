-- A step of a drill has at most three events.
use Rattle.std.proofs.Common.{ℕ, ◌*◌, ◌≤◌, List, [], ◌∷◌, length, Option, None, Some, arith, length-append}
use Rattle.std.specs.Prelude.{zero, suc, Bool, true, false, nat_lt, ◌==◌, ◌-◌, ◌%◌, min, if◌then◌else◌, Result, Ok}
use Rattle.std.proofs.lemmas.Bool.{cond_both}
use Rattle.actor_names.specs.declared.member.Member.{Member}
use Rattle.part_model.specs.Part.{ring_owner}
use Rattle.world_events.specs.declared.event.WorldEvent.{WorldEvent}
use Rattle.world_events.specs.declared.event.WorldEvent.TheVariants as lines
use Rattle.world_events.specs.declared.outcome.Outcome.{Outcome}
use Rattle.world_events.specs.declared.outcome.Outcome.TheVariants as out
use Rattle.world_events.specs.declared.error.WorldError.{WorldError}
use Rattle.cluster_model.specs.World.{ClusterState, key_part, cluster_step, cluster_run}
use Rattle.world_run.specs.Looks.{asks_at}
use Rattle.world_drill.specs.Drill as drill
use Rattle.world_drill.specs.Drill.{first_of, second_of, third_of, draw_of, step_events, events_from}

abbrev AreFew : List WorldEvent → Type 0
AreFew es = length es ≤ 3

few_member : (o : Option Member) (events : Member → List WorldEvent) → ((m : Member) → AreFew (events m)) → AreFew (drill.events_of o events)
few_member None events h = omega arith
few_member (Some m) events h = h m

few_call : (o : Option ℕ) (event : ℕ → WorldEvent) → AreFew (drill.event_of o event)
few_call None event = omega arith
few_call (Some call) event = omega arith

few_delivered : (k part : ℕ) (o : Option Bool) → AreFew (drill.delivered k part o)
few_delivered k part None = omega arith
few_delivered k part (Some true) = omega arith
few_delivered k part (Some false) = omega arith

few_delivery : (w : ClusterState) (a b : ℕ) → AreFew (drill.delivery w a b)
few_delivery w a b =
    cond_both (length w.messages == 0) _ _ AreFew (λ _. omega arith)
    (λ _. (let k = length w.messages - a % min (length w.messages) 8 in few_delivered k (b % 2) (asks_at w.messages k)))

few_closed : (m : Member) (r : Result Outcome WorldError) → length (drill.closed_after m r) ≤ 1
few_closed m (Ok (out.Closing key)) = omega arith
few_closed m r = omega arith

few_closing : (w : ClusterState) (part : ℕ) (m : Member) → AreFew (drill.closing_of w part m)
few_closing w part m = let a = few_closed m (cluster_step ring_owner key_part w (lines.Closing m part)).outcome in omega arith

few_picked : (w : ClusterState) (r a b : ℕ) → AreFew (drill.picked w r a b)
few_picked w r a b =
    cond_both (r == 0) _ _ AreFew (λ _. cond_both (nat_lt w.boots 64) _ _ AreFew (λ _. omega arith) (λ _. omega arith)) (λ _.
    cond_both (r == 1) _ _ AreFew
    (λ _. few_member (drill.member_numbered w b) (λ m. if a % 8 == 0 then drill.loss_of m else lines.Collect m ∷ []) (λ m. cond_both (a % 8 == 0) _ _ AreFew (λ _. omega arith) (λ _. omega arith))) (λ _.
    cond_both (r == 2) _ _ AreFew
    (λ _. cond_both (a % 16 == 0) _ _ AreFew (λ _. omega arith) (λ _. few_member (drill.member_numbered w b) (λ m. lines.Beat m ∷ []) (λ m. omega arith))) (λ _.
    cond_both (nat_lt r 5) _ _ AreFew (λ _. few_member (drill.member_numbered w a) (λ m. lines.Beat m ∷ []) (λ m. omega arith)) (λ _.
    cond_both (nat_lt r 7) _ _ AreFew (λ _. few_member (drill.member_numbered w a) (λ m. lines.Collect m ∷ []) (λ m. omega arith)) (λ _.
    cond_both (nat_lt r 11) _ _ AreFew (λ _. few_delivery w a b) (λ _.
    cond_both (nat_lt r 13) _ _ AreFew (λ _. few_member (drill.member_numbered w a) (drill.call_of w b) (λ m. omega arith)) (λ _.
    cond_both (r == 13) _ _ AreFew (λ _. few_call (drill.call_numbered w a) (λ n. lines.End n)) (λ _.
    cond_both (r == 14) _ _ AreFew (λ _. few_member (drill.member_numbered w a) (drill.closing_of w (b % 2)) (few_closing w (b % 2)))
    (λ _. few_call (drill.call_numbered w a) (λ n. lines.Poll n))))))))))

pub length-events_from : (n x : ℕ) (w : ClusterState) → length (events_from n x w) ≤ 3 * n
length-events_from zero x w = omega arith
length-events_from (suc n) x w =
    let more = length-events_from n (third_of x) (cluster_run ring_owner key_part w (step_events w x)) in
    let now = few_picked w (draw_of (first_of x) % 16) (draw_of (second_of x)) (draw_of (third_of x)) in
    let all = length-append (step_events w x) (events_from n (third_of x) (cluster_run ring_owner key_part w (step_events w x))) in
    omega arith
