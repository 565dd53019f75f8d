-- What a change of a room does to its round: the round goes on with the targets it has, or one begins.
use Rattle.std.proofs.Common.{◌≡◌, ◌⊎◌, ℕ, Bool, true, false, ◌+◌, ◌<◌, cond, List, map, Option, None, Some, refl, sym, ap, ◌∙◌, subst, inl, inr}
use Rattle.std.specs.Prelude.{nat_le, ◌==◌}
use Rattle.std.proofs.lemmas.Bool.{cond_both, eqb-true, leb-false}
use Rattle.actor_names.specs.declared.member.Member.{Member}
use Rattle.place_table.specs.declared.host.HostInfo.{HostInfo}
use Rattle.place_table.specs.declared.ack_stage.AckStage.{AckStage}
use Rattle.place_table.specs.declared.ack_stage.AckStage.TheVariants as stages
use Rattle.turn_core.specs.CellSound.{In}
use Rattle.member_roster.specs.Members.{Joined, greatest_boot, of_node, is_here, any_pending, entered, targeted, heard_at, acked_at, new_joined}
use Rattle.round_core.specs.declared.event.PlaceEvent.{PlaceEvent}
use Rattle.round_core.specs.declared.event.PlaceEvent.TheVariants as events
use Rattle.round_core.specs.declared.phase.RoundPhase.{RoundPhase}
use Rattle.round_core.specs.declared.phase.RoundPhase.TheVariants.{Quiet, Running}
use Rattle.round_core.specs.Room.{RoomState, Membership, Conclusion, Stays, Says, Tells, next_stage, advance_round, may_start, start_round, advance_fully, settle_round, not_member, with_member, with_joined, is_full, join_node, ack_change, remove_member, apply_membership, conclude, room_step, awoken, room_restarted}
use Rattle.round_core.proofs.Durable.{ack_same}
use Rattle.cluster_model.proofs.Joins.{In-map, In-with_node, In-without_node, In-heard_of, In-put_joined}

-- the entry was there before, with the same mark
pub record Follows (js : List Joined) (y : Joined) : Type 0 where
  pub entry : Joined
  pub here : In entry js
  pub member : y.host.member ≡ entry.host.member
  pub mark : y.target ≡ entry.target

-- the entry is of a member that joins: no target, and its boot is above those that its node had
pub record IsNew (s : RoomState) (y : Joined) : Type 0 where
  pub unmarked : y.target ≡ false
  pub fresh : greatest_boot s.boots y.host.member.node < y.host.member.boot

abbrev pub IsFrom : RoomState → Joined → Type 0
IsFrom s y = Follows s.members y ⊎ IsNew s y

-- no round begins; if one runs after the change, it ran before
pub record GoesOn (s t : RoomState) : Type 0 where
  pub version : t.next_version ≡ s.next_version
  pub runs : (stage : AckStage) → t.phase ≡ Running stage → (old : AckStage) × (s.phase ≡ Running old)
  pub entries : (stage : AckStage) → t.phase ≡ Running stage → (y : Joined) → In y t.members → IsFrom s y

-- one round begins, with each member as a target
pub record Begins (s t : RoomState) : Type 0 where
  pub version : t.next_version ≡ s.next_version + 1
  pub all : (y : Joined) → In y t.members → y.target ≡ true

abbrev pub Changes : RoomState → RoomState → Type 0
Changes s t = GoesOn s t ⊎ Begins s t

quiet_runs : (stage : AckStage) → Quiet ≡ Running stage → ⊥
quiet_runs stage e = cc

follows_self : (js : List Joined) (y : Joined) → In y js → Follows js y
follows_self js y i = record { entry = y; here = i; member = refl; mark = refl }

follows_over : (js : List Joined) (k y : Joined) → y.host.member ≡ k.host.member → y.target ≡ k.target → Follows js k → Follows js y
follows_over js k y member mark f = record { entry = f.entry; here = f.here; member = member ∙ f.member; mark = mark ∙ f.mark }

-- ---- a round goes on, and begins

-- the version and the members are the same, with the same marks
record Keeps (s t : RoomState) : Type 0 where
  pub version : t.next_version ≡ s.next_version
  pub runs : (stage : AckStage) → t.phase ≡ Running stage → (old : AckStage) × (s.phase ≡ Running old)
  pub entries : (y : Joined) → In y t.members → Follows s.members y

keeps_self : (s : RoomState) → Keeps s s
keeps_self s = record { version = refl; runs = λ stage e. (stage, e); entries = follows_self s.members }

keeps_over : (s t u : RoomState) → Keeps s t → Keeps t u → Keeps s u
keeps_over s t u a b =
    record {
      version = b.version ∙ a.version;
      runs = λ stage e. (let h = b.runs stage e in a.runs h.0 h.1);
      entries = λ y i. (let f = b.entries y i in follows_over s.members f.entry y f.member f.mark (a.entries f.entry f.here));
    }

entered_follows : (js : List Joined) (y : Joined) → In y (map entered js) → Follows js y
entered_follows js y i =
    let m = In-map entered js y i in
    record { entry = m.0; here = m.1; member = ap (λ (z : Joined). z.host.member) m.2; mark = ap (λ (z : Joined). z.target) m.2 }

next_keeps : (s : RoomState) (phase : RoundPhase) → s.phase ≡ phase → Keeps s (next_stage s phase)
next_keeps s Quiet e = keeps_self s
next_keeps s (Running stages.Lock) e = record { version = refl; runs = λ stage f. (stages.Lock, e); entries = entered_follows s.members }
next_keeps s (Running stages.Update) e = record { version = refl; runs = λ stage f. (stages.Update, e); entries = entered_follows s.members }
next_keeps s (Running stages.Unlock) e = record { version = refl; runs = λ stage f. absurd (quiet_runs stage f); entries = follows_self s.members }

advance_keeps : (s : RoomState) → Keeps s (advance_round s)
advance_keeps s = cond_both (any_pending s.members) _ _ (λ (t : RoomState). Keeps s t) (λ _. keeps_self s) (λ _. next_keeps s s.phase refl)

fully_keeps : (s : RoomState) → Keeps s (advance_fully s)
fully_keeps s =
    let t = advance_round s in
    let u = advance_round t in
    keeps_over s u (advance_round u) (keeps_over s t u (advance_keeps s) (advance_keeps t)) (advance_keeps u)

abbrev Starts : RoomState → RoomState → Type 0
Starts s t = Keeps s t ⊎ Begins s t

start_starts : (s : RoomState) → Starts s (start_round s)
start_starts s =
    cond_both (may_start s) _ _ (λ (t : RoomState). Starts s t)
    (λ _. inr (record { version = refl; all = λ y i. (let m = In-map targeted s.members y i in ap (λ (z : Joined). z.target) m.2) }))
    (λ _. inl (keeps_self s))

settle_starts : (s : RoomState) → Starts s (settle_round s)
settle_starts s =
    let t = advance_fully s in
    let u = start_round t in
    let a = fully_keeps s in
    let b = fully_keeps u in
    elim (start_starts t) [
      | inl k ↦ inl (keeps_over s u (advance_fully u) (keeps_over s t u a k) b)
      | inr k ↦ inr (record {
        version = b.version ∙ k.version ∙ ap (λ (n : ℕ). n + 1) a.version;
        all = λ y i. (let f = b.entries y i in f.mark ∙ k.all f.entry f.here);
      })
    ]

-- ---- changes of the members

record Alters (s t : RoomState) : Type 0 where
  pub version : t.next_version ≡ s.next_version
  pub phase : t.phase ≡ s.phase
  pub entries : (y : Joined) → In y t.members → IsFrom s y

alters_self : (s : RoomState) → Alters s s
alters_self s = record { version = refl; phase = refl; entries = λ y i. inl (follows_self s.members y i) }

from_over : (s : RoomState) (k y : Joined) → y.host.member ≡ k.host.member → y.target ≡ k.target → IsFrom s k → IsFrom s y
from_over s k y member mark (inl f) = inl (follows_over s.members k y member mark f)
from_over s k y member mark (inr n) = inr (record { unmarked = mark ∙ n.unmarked; fresh = subst (λ (m : Member). greatest_boot s.boots m.node < m.boot) (sym member) n.fresh })

stays_changes : (s t : RoomState) → Alters s t → Changes s t
stays_changes s t a = inl (record { version = a.version; runs = λ stage e. (stage, sym a.phase ∙ e); entries = λ stage e. a.entries })

settle_changes : (s t : RoomState) → Alters s t → Changes s (settle_round t)
settle_changes s t a =
    elim (settle_starts t) [
      | inl k ↦ inl (record {
        version = k.version ∙ a.version;
        runs = λ stage e. (let h = k.runs stage e in (h.0, sym a.phase ∙ h.1));
        entries = λ stage e y i. (let f = k.entries y i in from_over s f.entry y f.member f.mark (a.entries f.entry f.here));
      })
      | inr k ↦ inr (record { version = k.version ∙ ap (λ (n : ℕ). n + 1) a.version; all = k.all })
    ]

conclude_changes : (s t : RoomState) (k : Conclusion) → Alters s t → Changes s (conclude t k).state
conclude_changes s t (Stays reply) a = stays_changes s t a
conclude_changes s t (Says reply) a = settle_changes s t a
conclude_changes s t (Tells m) a = settle_changes s t a

abbrev AltersTo : RoomState → Membership → Type 0
AltersTo s t = Alters s t.state

with_alters : (s : RoomState) (m : Member) (f : Joined → Joined) → ((j : Joined) → (f j).host ≡ j.host) → ((j : Joined) → (f j).target ≡ j.target) → AltersTo s (with_member s m f)
with_alters s m f host mark =
    record {
      version = refl;
      phase = refl;
      entries = λ y i. elim (In-with_node s.members m.node f y i) [
        | inl j ↦ inl (follows_self s.members y j)
        | inr h ↦ inl (record {
          entry = h.0;
          here = h.2;
          member = ap (λ (z : Joined). z.host.member) h.3 ∙ ap (λ (z : HostInfo). z.member) (host h.0);
          mark = ap (λ (z : Joined). z.target) h.3 ∙ mark h.0;
        })
      ];
    }

heard_alters : (s : RoomState) (m : Member) (f : Joined → Joined) (b : Bool) → ((j : Joined) → (f j).host ≡ j.host) → ((j : Joined) → (f j).target ≡ j.target) → AltersTo s (cond b (with_member s m f) (not_member s m))
heard_alters s m f true host mark = with_alters s m f host mark
heard_alters s m f false host mark = alters_self s

ack_mark : (now : ℕ) (b : Bool) (j : Joined) → (cond b (acked_at now) (heard_at now) j).target ≡ j.target
ack_mark now true j = refl
ack_mark now false j = refl

joined_alters : (s : RoomState) (host : HostInfo) (now : ℕ) → greatest_boot s.boots host.member.node < host.member.boot → Alters s (with_joined s host now)
joined_alters s host now higher =
    record {
      version = refl;
      phase = refl;
      entries = λ y i. elim (In-put_joined s.members (new_joined host now) y i) [
        | inl e ↦ inr (record {
          unmarked = ap (λ (z : Joined). z.target) e;
          fresh = subst (λ (m : Member). greatest_boot s.boots m.node < m.boot) (sym (ap (λ (z : Joined). z.host.member) e)) higher;
        })
        | inr j ↦ inl (follows_self s.members y j)
      ];
    }

node_alters : (s : RoomState) (host : HostInfo) (now : ℕ) → greatest_boot s.boots host.member.node < host.member.boot → (o : Option Joined) → AltersTo s (join_node s host now o)
node_alters s host now higher (Some j) = alters_self s
node_alters s host now higher None = cond_both (is_full s host.member.node) _ _ (AltersTo s) (λ _. alters_self s) (λ _. joined_alters s host now higher)

remove_alters : (s : RoomState) (m : Member) → AltersTo s (remove_member s m)
remove_alters s m =
    cond_both (is_here s.members m) _ _ (AltersTo s)
    (λ _. record { version = refl; phase = refl; entries = λ y i. inl (follows_self s.members y (In-without_node s.members m.node y i)) })
    (λ _. alters_self s)

alters : (s : RoomState) (event : PlaceEvent) (now : ℕ) → AltersTo s (apply_membership s event now)
alters s (events.Register host) now =
    cond_both (is_here s.members host.member) _ _ (AltersTo s)
    (λ _. with_alters s host.member (heard_at now) (λ j. refl) (λ j. refl))
    (λ _. cond_both (nat_le host.member.boot (greatest_boot s.boots host.member.node)) _ _ (AltersTo s)
    (λ _. alters_self s)
    (λ e. node_alters s host now (leb-false _ _ e) (of_node s.members host.member.node)))
alters s (events.Beat m) now = heard_alters s m (heard_at now) _ (λ j. refl) (λ j. refl)
alters s (events.Ack m stage version) now = heard_alters s m (ack_change s stage version now) _ (ack_same now _) (ack_mark now _)
alters s (events.Leave m) now = remove_alters s m
alters s (events.Lost m) now = remove_alters s m
alters s events.Tick now = record { version = refl; phase = refl; entries = λ y i. inl (follows_self s.members y (In-heard_of s.members now y i)) }
alters s events.Look now = alters_self s

-- ---- the step, and the restart

pub changes_self : (s : RoomState) → Changes s s
changes_self s = stays_changes s s (alters_self s)

pub step_changes : (s : RoomState) (event : PlaceEvent) (now : ℕ) → Changes s (room_step s event now).state
step_changes s event now = let t = apply_membership s event now in conclude_changes s t.state t.conclusion (alters s event now)

-- a room awakes in no round
awoken_changes : (s : RoomState) (now : ℕ) → Changes s (settle_round (awoken s now))
awoken_changes s now =
    elim (settle_starts (awoken s now)) [
      | inl k ↦ inl (record {
        version = k.version;
        runs = λ stage e. (let h = k.runs stage e in absurd (quiet_runs h.0 h.1));
        entries = λ stage e y i. (let h = k.runs stage e in absurd (quiet_runs h.0 h.1));
      })
      | inr k ↦ inr (record { version = k.version; all = k.all })
    ]

pub restart_changes : (s : RoomState) (now : ℕ) → Changes s (room_restarted s now)
restart_changes s now =
    cond_both (s.next_version == 1) _ _ (λ (t : RoomState). Changes s t)
    (λ e. inl (record {
      version = sym (eqb-true s.next_version 1 e);
      runs = λ stage f. absurd (quiet_runs stage f);
      entries = λ stage f y i. absurd (quiet_runs stage f);
    }))
    (λ _. awoken_changes s now)
