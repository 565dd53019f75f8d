use Rattle.std.proofs.Common.{◌≡◌, ◌≢◌, ◌≤◌, ◌-◌, ℕ, List, length, get_or, refl, sym, ap, ◌∙◌}
use Rattle.std.specs.Prelude.{Some, None}
use Rattle.place_table.specs.Hosts.{PlacementTable}
use Rattle.place_table.specs.declared.host.HostInfo.{HostInfo}
use Rattle.actor_names.specs.declared.member.Member.{Member}
use Rattle.place_table.specs.declared.ack_stage.AckStage.{AckStage}
use Rattle.world_run.specs.declared.kept.Kept.{Kept}
use Rattle.world_run.specs.declared.kept.Kept.TheVariants as kept
use Rattle.world_run.specs.Post.{message_in, messages_in, numbered, asked_of}
use Rattle.world_run.proofs.Posts.{numbered_at}
use Rattle.world_run.proofs.kept.asked_at.Goals as goal

-- a request of this number
found : (ts : List PlacementTable) (ks : List Kept) (number : ℕ) (x y : Kept) → number ≢ 0 → number ≤ length ks → x ≡ get_or ks (number - 1) x → x ≡ y → asked_of (numbered (messages_in ts ks) number) ≡ asked_of (Some (message_in ts y))
found ts ks number x y some within e f = ap asked_of (numbered_at ts ks number x some within e ∙ ap (λ (z : Kept). Some (message_in ts z)) f)

-- an answer isn't a request
no_request : (ts : List PlacementTable) (x : Kept) → ((h : HostInfo) → x ≡ kept.Register h → ⊥) → ((m : Member) → x ≡ kept.Beat m → ⊥) → ((m : Member) (s : AckStage) (v : ℕ) → x ≡ kept.Ack m s v → ⊥) → ((m : Member) → x ≡ kept.Leave m → ⊥) → asked_of (Some (message_in ts x)) ≡ None
no_request ts (kept.Register h) a b c d = absurd (a h refl)
no_request ts (kept.Beat m) a b c d = absurd (b m refl)
no_request ts (kept.Ack m s v) a b c d = absurd (c m s v refl)
no_request ts (kept.Leave m) a b c d = absurd (d m refl)
no_request ts (kept.Lock m v) a b c d = refl
no_request ts (kept.Update m at) a b c d = refl
no_request ts (kept.Unlock m v) a b c d = refl
no_request ts (kept.Says m r) a b c d = refl

pub returns-in_ok-host-in-Register : goal.returns-in_ok-host-in-Register
returns-in_ok-host-in-Register c ts =
    ap (λ (h : HostInfo). asked_of (Some (message_in ts (kept.Register h)))) c.in_ok-host-in-Register.ensures
    ∙ sym (found ts c.args.messages.now c.args.number c.index-messages-number.result _ c.if-number-eq0.false c.if-number-messages.false c.index-messages-number.is c.in-Register.is)

pub returns-in-Beat : goal.returns-in-Beat
returns-in-Beat c ts = sym (found ts c.args.messages.now c.args.number c.index-messages-number.result _ c.if-number-eq0.false c.if-number-messages.false c.index-messages-number.is c.in-Beat.is)

pub returns-in-Ack : goal.returns-in-Ack
returns-in-Ack c ts = sym (found ts c.args.messages.now c.args.number c.index-messages-number.result _ c.if-number-eq0.false c.if-number-messages.false c.index-messages-number.is c.in-Ack.is)

pub returns-in-Leave : goal.returns-in-Leave
returns-in-Leave c ts = sym (found ts c.args.messages.now c.args.number c.index-messages-number.result _ c.if-number-eq0.false c.if-number-messages.false c.index-messages-number.is c.in-Leave.is)

pub returns-in_default : goal.returns-in_default
returns-in_default c ts =
    sym (ap asked_of (numbered_at ts c.args.messages.now c.args.number c.index-messages-number.result c.if-number-eq0.false c.if-number-messages.false c.index-messages-number.is)
    ∙ no_request ts c.index-messages-number.result c.in_default.not-Register c.in_default.not-Beat c.in_default.not-Ack c.in_default.not-Leave)
