use Rattle.std.proofs.Common.{◌≡◌, ◌≢◌, ◌≤◌, ◌-◌, ℕ, List, length, get_or, refl, sym, ap, ◌∙◌, arith}
use Rattle.std.specs.Prelude.{Option, Some, None}
use Rattle.std.proofs.lemmas.Option.{slice_get-get_or}
use Rattle.place_table.specs.Hosts.{PlacementTable}
use Rattle.actor_names.specs.declared.member.Member.{Member}
use Rattle.round_core.specs.declared.event.PlaceReply.{PlaceReply}
use Rattle.part_model.specs.declared.event.PartEvent.TheVariants as events
use Rattle.cluster_model.specs.Messages.{Message}
use Rattle.world_run.specs.declared.kept.Kept.{Kept}
use Rattle.world_run.specs.declared.kept.Kept.TheVariants as kept
use Rattle.world_run.specs.declared.kept.Told.{Told}
use Rattle.world_run.specs.Post.{PostView, message_in, messages_in, told_tables, numbered, told_of}
use Rattle.world_run.proofs.Posts.{numbered_at}
use Rattle.world_run.proofs.post.Post.told_at.Goals as goal

-- what the message of this number brings
found : (ts : List PlacementTable) (v : PostView) (ks : List Kept) (number now : ℕ) (x y : Kept) → v.messages ≡ messages_in ts ks → number ≢ 0 → number ≤ length ks → x ≡ get_or ks (number - 1) x → x ≡ y → told_of (Some (message_in ts y)) now ≡ told_of (numbered v.messages number) now
found ts v ks number now x y w some within e f =
    sym (ap (λ (ms : List Message). told_of (numbered ms number) now) w ∙ ap (λ (o : Option Message). told_of o now) (numbered_at ts ks number x some within e ∙ ap (λ (z : Kept). Some (message_in ts z)) f))

no_answer : (ts : List PlacementTable) (x : Kept) (now : ℕ) → ((m : Member) (v : ℕ) → x ≡ kept.Lock m v → ⊥) → ((m : Member) (at : ℕ) → x ≡ kept.Update m at → ⊥) → ((m : Member) (v : ℕ) → x ≡ kept.Unlock m v → ⊥) → ((m : Member) (r : PlaceReply) → x ≡ kept.Says m r → ⊥) → ◌≡◌ {A = Option Told} None (told_of (Some (message_in ts x)) now)
no_answer ts (kept.Register h) now a b c d = refl
no_answer ts (kept.Beat m) now a b c d = refl
no_answer ts (kept.Ack m s v) now a b c d = refl
no_answer ts (kept.Leave m) now a b c d = refl
no_answer ts (kept.Lock m v) now a b c d = absurd (a m v refl)
no_answer ts (kept.Update m at) now a b c d = absurd (b m at refl)
no_answer ts (kept.Unlock m v) now a b c d = absurd (c m v refl)
no_answer ts (kept.Says m r) now a b c d = absurd (d m r refl)

pub told_table-requires : goal.told_table-requires
told_table-requires c =
    let ks = c.self.inside.messages.items in
    let n = length (told_tables c.self.inside.tables.items c.self.inside.pending c.self.inside.placement.state) in
    let here = slice_get-get_or ks (c.args.number - 1) c.index.result.now (omega arith) ∙ ap (λ (x : Kept). Some x) (sym c.index.ensures ∙ c.in-Update.is) in
    c.self.invariant.named (c.args.number - 1) (kept.Update c.in-Update.member c.in-Update.table) here

pub returns-in-Lock-clause-told : goal.returns-in-Lock-clause-told
returns-in-Lock-clause-told c =
    found (told_tables c.self.inside.tables.items c.self.inside.pending c.self.inside.placement.state) c.args.self.now c.self.inside.messages.items c.args.number c.args.now c.index.result.now _
    (ap (λ (v : PostView). v.messages) (sym c.self.view_is)) c.if-number-eq0.false (omega arith) c.index.ensures c.in-Lock.is

pub returns-in-Unlock-clause-told : goal.returns-in-Unlock-clause-told
returns-in-Unlock-clause-told c =
    found (told_tables c.self.inside.tables.items c.self.inside.pending c.self.inside.placement.state) c.args.self.now c.self.inside.messages.items c.args.number c.args.now c.index.result.now _
    (ap (λ (v : PostView). v.messages) (sym c.self.view_is)) c.if-number-eq0.false (omega arith) c.index.ensures c.in-Unlock.is

pub returns-in-Says-clause-told : goal.returns-in-Says-clause-told
returns-in-Says-clause-told c =
    found (told_tables c.self.inside.tables.items c.self.inside.pending c.self.inside.placement.state) c.args.self.now c.self.inside.messages.items c.args.number c.args.now c.index.result.now (kept.Says c.in-Says.member c.in-Says.reply)
    (ap (λ (v : PostView). v.messages) (sym c.self.view_is)) c.if-number-eq0.false (omega arith) c.index.ensures c.in-Says.is

pub returns-in_ok-table-in-Update-clause-told : goal.returns-in_ok-table-in-Update-clause-told
returns-in_ok-table-in-Update-clause-told c =
    let ts = told_tables c.self.inside.tables.items c.self.inside.pending c.self.inside.placement.state in
    let m = c.in-Update.member in
    ap (λ (t : PlacementTable). let o : Option Told = Some (record { member = m; event = Some (events.Update t c.args.now) }) in o) c.in_ok-table-in-Update.ensures.told
    ∙ found ts c.args.self.now c.self.inside.messages.items c.args.number c.args.now c.index.result.now (kept.Update m c.in-Update.table)
    (ap (λ (v : PostView). v.messages) (sym c.self.view_is)) c.if-number-eq0.false (omega arith) c.index.ensures c.in-Update.is

pub returns-in_default-clause-told : goal.returns-in_default-clause-told
returns-in_default-clause-told c =
    let ts = told_tables c.self.inside.tables.items c.self.inside.pending c.self.inside.placement.state in
    no_answer ts c.index.result.now c.args.now c.in_default.not-Lock c.in_default.not-Update c.in_default.not-Unlock c.in_default.not-Says
    ∙ found ts c.args.self.now c.self.inside.messages.items c.args.number c.args.now c.index.result.now c.index.result.now
    (ap (λ (v : PostView). v.messages) (sym c.self.view_is)) c.if-number-eq0.false (omega arith) c.index.ensures refl
