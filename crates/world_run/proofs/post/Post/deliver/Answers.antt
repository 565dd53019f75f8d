use Rattle.std.proofs.Common.{◌≡◌, ℕ, ◌++◌, ◌∷◌, [], List, length, sym, ap, ◌∙◌, subst, arith, append-nil}
use Rattle.std.specs.Prelude.{Some}
use Rattle.place_table.specs.Hosts.{PlacementTable}
use Rattle.cluster_model.specs.Messages.{Message, Tells, answer_of}
use Rattle.cluster_model.specs.World.{table_in}
use Rattle.world_run.specs.declared.kept.Kept.{Kept}
use Rattle.world_run.specs.declared.kept.Spot.{Spot}
use Rattle.world_run.specs.Post.{PostView, told_tables, messages_in, numbered, asked_of, kept_answer, updated_version, spot_for, last_for, IsPostKept, GivesReply, AgreesOn}
use Rattle.world_run.proofs.Posts.{AnsweredBy, answered_by, settled, delivers_none, delivered, agrees_on}
use Rattle.world_run.proofs.post.Post.deliver.Goals as goal

pub returns-in_default-clause-ok : goal.returns-in_default-clause-ok
returns-in_default-clause-ok c =
    let v = c.args.self.now in
    let ts = told_tables c.self.inside.tables.items c.self.inside.pending c.self.inside.placement.state in
    let messages : messages_in ts c.as_slice.result.now ≡ v.messages = ap (λ (ks : List Kept). messages_in ts ks) c.as_slice.ensures.value ∙ ap (λ (z : PostView). z.messages) c.self.view_is in
    delivers_none (numbered v.messages c.args.number) c.args.now v (ap (λ (ms : List Message). asked_of (numbered ms c.args.number)) (sym messages) ∙ sym (c.in_ok-asked.ensures ts) ∙ c.in_default.is)

-- the messages of the world are those that are kept
kept_messages : (c : goal.After-unwrap) → messages_in (told_tables c.self.inside.tables.items c.self.inside.pending c.self.inside.placement.state) c.self.inside.messages.items ≡ c.args.self.now.messages
kept_messages c = ap (λ (v : PostView). v.messages) c.self.view_is

-- all tables that were sent are built
all_built : (c : goal.After-unwrap) → told_tables c.self.inside.tables.items c.self.inside.pending c.self.inside.placement.state ≡ c.settle.new.tables.items
all_built c =
    sym c.in_ok-settle.ensures.same ∙ settled c.settle.new.tables.items c.settle.new.pending c.self.inside.placement.state c.self.inside.placement.state c.in_ok-settle.ensures.settled ∙ append-nil c.settle.new.tables.items

-- the request
asks : (c : goal.After-unwrap) → asked_of (numbered c.args.self.now.messages c.args.number) ≡ Some c.in-Some.asked
asks c =
    let ts = told_tables c.self.inside.tables.items c.self.inside.pending c.self.inside.placement.state in
    let messages : messages_in ts c.as_slice.result.now ≡ c.args.self.now.messages = ap (λ (ks : List Kept). messages_in ts ks) c.as_slice.ensures.value ∙ kept_messages c in
    ap (λ (ms : List Message). asked_of (numbered ms c.args.number)) (sym messages) ∙ sym (c.in_ok-asked.ensures ts) ∙ c.in-Some.is

stepped : (c : goal.After-unwrap) → GivesReply c.in-Some.asked.event c.args.now c.in-Some-step_placement.reply c.args.self.now.placement c.step_placement.new.placement.state
stepped c = subst (λ (v : PostView). GivesReply c.in-Some.asked.event c.args.now c.in-Some-step_placement.reply v.placement c.step_placement.new.placement.state) c.self.view_is c.in-Some-step_placement.ensures

-- the answer as it is kept
answered_so : (c : goal.After-unwrap) → AnsweredBy c.spot_for-spot.result c.last_for-self-inside.result c.settle.new.tables.items c.self.inside.messages.items c.in-Some.asked.member c.in-Some-step_placement.reply c.step_placement.new.placement.state
answered_so c =
    let ts = c.settle.new.tables.items in
    let ks = c.self.inside.messages.items in
    let m = c.in-Some.asked.member in
    let reply = c.in-Some-step_placement.reply in
    let s = c.step_placement.new.placement.state in
    let kept : IsPostKept (length ts) ks c.self.inside.last = subst (λ (us : List PlacementTable). IsPostKept (length us) ks c.self.inside.last) (all_built c) c.self.invariant in
    let agrees = agrees_on (numbered c.args.self.now.messages c.args.number) c.in-Some.asked c.args.now reply c.args.self.now c.step_placement.new.placement.state (asks c) c.requires (stepped c) in
    let agrees_so : AgreesOn (messages_in ts ks) c.args.now m.space (table_in s m.space) reply = subst (λ (ms : List Message). AgreesOn ms c.args.now m.space (table_in s m.space) reply) (sym (kept_messages c) ∙ ap (λ (us : List PlacementTable). messages_in us ks) (all_built c)) agrees in
    let by = answered_by ts ks c.self.inside.last m reply c.args.now s kept agrees_so in
    let spot : c.spot_for-spot.result ≡ spot_for ts m.space (updated_version reply) = c.spot_for-spot.ensures ∙ (λ i. spot_for (c.as_slice-2.ensures.value i) m.space (c.updated_version-version.ensures i)) in
    let count : c.len.result ≡ length ks = omega (arith, c.len.ensures, c.reserve.ensures.len, c.self.inside.messages.ok.0) in
    let last : c.last_for-self-inside.result ≡ last_for (updated_version reply) (length ks) c.self.inside.last = c.last_for-self-inside.ensures ∙ (λ i. last_for (c.updated_version-version.ensures i) (count i) c.self.inside.last) in
    subst (λ (x : Spot). AnsweredBy x c.last_for-self-inside.result ts ks m reply s) (sym spot) (subst (λ (n : ℕ). AnsweredBy (spot_for ts m.space (updated_version reply)) n ts ks m reply s) (sym last) by)

pushed : (c : goal.After-unwrap) → c.push.new.self.items ≡ c.self.inside.messages.items ++ kept_answer c.in-Some.asked.member c.in-Some-step_placement.reply c.spot_for-spot.result.table ∷ []
pushed c = (rw c.unwrap.ensures at c.push.ensures.items) ∙ (λ i. c.reserve.ensures.items i ++ c.kept_answer.ensures i ∷ [])

pub invariant_of-self-2 : goal.invariant_of-self-2
invariant_of-self-2 c =
    let ts = c.settle.new.tables.items in
    subst (λ (ks : List Kept). IsPostKept (length (told_tables ts c.spot_for-spot.result.pending c.step_placement.new.placement.state)) ks c.last_for-self-inside.result) (sym (pushed c)) (answered_so c).kept

pub returns-clause-ok : goal.returns-clause-ok
returns-clause-ok c =
    let ts = c.settle.new.tables.items in
    let us = told_tables ts c.spot_for-spot.result.pending c.step_placement.new.placement.state in
    let messages = ap (λ (ks : List Kept). messages_in us ks) (pushed c) ∙ (answered_so c).messages ∙ ap (λ (ms : List Message). ms ++ Tells c.in-Some.asked.member (answer_of c.in-Some.asked.member.space (table_in c.step_placement.new.placement.state c.in-Some.asked.member.space) c.in-Some-step_placement.reply) ∷ [])
    (ap (λ (vs : List PlacementTable). messages_in vs c.self.inside.messages.items) (sym (all_built c)) ∙ kept_messages c) in
    let new : PostView = record { placement = c.step_placement.new.placement.state; messages = messages_in us c.push.new.self.items } in
    delivered (numbered c.args.self.now.messages c.args.number) c.in-Some.asked c.args.now c.in-Some-step_placement.reply c.args.self.now new (asks c) (stepped c) messages
