-- What an event does to the moments at which a room heard its members: each entry has the moment that it had, or was heard
-- at this event; and who asks is heard, if a member after the event.
use Rattle.std.proofs.Common.{◌≡◌, ◌⊎◌, ℕ, Bool, true, false, cond, ◌||◌, List, [], ◌∷◌, map, Option, None, Some, refl, sym, ap, ◌∙◌, subst, inl, inr}
use Rattle.std.specs.Prelude.{bytes_eq, nat_le, ◌==◌, ◌&&◌}
use Rattle.std.proofs.lemmas.Bool.{cond_both, cond-true, cond-false, true≢false, false≢true}
use Rattle.std.proofs.lemmas.Slice.Eq.{bytes_eq-Decides}
use Rattle.actor_names.specs.declared.member.Member.{Member}
use Rattle.place_table.specs.declared.host.HostInfo.{HostInfo}
use Rattle.place_table.specs.declared.ack_stage.AckStage.TheVariants as stages
use Rattle.turn_core.specs.CellSound.{In}
use Rattle.member_roster.specs.Members.{Joined, joined_node, hosts_of, of_node, is_the, is_here, with_node, without_node, put_joined, any_pending, entered, targeted, heard_at, acked_at, restarted_at, new_joined, greatest_boot}
use Rattle.round_core.specs.declared.event.PlaceEvent.{PlaceEvent}
use Rattle.round_core.specs.declared.event.PlaceEvent.TheVariants as events
use Rattle.round_core.specs.declared.phase.RoundPhase.{RoundPhase}
use Rattle.round_core.specs.declared.phase.RoundPhase.TheVariants.{Quiet, Running}
use Rattle.round_core.specs.Reached.{has_host, Distinct}
use Rattle.round_core.specs.Room.{RoomState, Membership, Conclusion, Stays, Says, Tells, next_stage, advance_round, may_start, start_round, advance_fully, settle_round, not_member, with_member, with_joined, is_full, join_node, is_in_stage, last_version, ack_change, remove_member, apply_membership, conclude, room_step, awoken, room_restarted}
use Rattle.cluster_model.specs.Messages.{Request, Register, Beat, Ack, Leave, change_of, asker_of}
use Rattle.cluster_model.proofs.Basics.{same_member-self}
use Rattle.cluster_model.proofs.Joins.{In-map, In-with_node, In-without_node, In-heard_of, In-put_joined}

-- the entry was there before, for the same member, heard at the same moment
pub record Stood (js : List Joined) (y : Joined) : Type 0 where
  pub entry : Joined
  pub here : In entry js
  pub member : y.host.member ≡ entry.host.member
  pub heard : y.heard ≡ entry.heard

stood_self : (js : List Joined) (y : Joined) → In y js → Stood js y
stood_self js y i = record { entry = y; here = i; member = refl; heard = refl }

-- each entry was there before
abbrev AllStood : RoomState → RoomState → Type 0
AllStood s t = (y : Joined) → In y t.members → Stood s.members y

stood_over : (s t u : RoomState) → AllStood s t → AllStood t u → AllStood s u
stood_over s t u a b y i =
    let f = b y i in
    let g = a f.entry f.here in
    record { entry = g.entry; here = g.here; member = f.member ∙ g.member; heard = f.heard ∙ g.heard }

-- ---- a round goes on

mapped_stood : (f : Joined → Joined) → ((j : Joined) → (f j).host.member ≡ j.host.member) → ((j : Joined) → (f j).heard ≡ j.heard) → (js : List Joined) (y : Joined) → In y (map f js) → Stood js y
mapped_stood f member heard js y i =
    let m = In-map f js y i in
    record {
      entry = m.0;
      here = m.1;
      member = ap (λ (z : Joined). z.host.member) m.2 ∙ member m.0;
      heard = ap (λ (z : Joined). z.heard) m.2 ∙ heard m.0;
    }

next_stood : (s : RoomState) (phase : RoundPhase) → AllStood s (next_stage s phase)
next_stood s Quiet = stood_self s.members
next_stood s (Running stages.Lock) = mapped_stood entered (λ j. refl) (λ j. refl) s.members
next_stood s (Running stages.Update) = mapped_stood entered (λ j. refl) (λ j. refl) s.members
next_stood s (Running stages.Unlock) = stood_self s.members

advance_stood : (s : RoomState) → AllStood s (advance_round s)
advance_stood s = cond_both (any_pending s.members) _ _ (λ (t : RoomState). AllStood s t) (λ _. stood_self s.members) (λ _. next_stood s s.phase)

fully_stood : (s : RoomState) → AllStood s (advance_fully s)
fully_stood s =
    let t = advance_round s in
    let u = advance_round t in
    stood_over s u (advance_round u) (stood_over s t u (advance_stood s) (advance_stood t)) (advance_stood u)

start_stood : (s : RoomState) → AllStood s (start_round s)
start_stood s = cond_both (may_start s) _ _ (λ (t : RoomState). AllStood s t) (λ _. mapped_stood targeted (λ j. refl) (λ j. refl) s.members) (λ _. stood_self s.members)

settle_stood : (s : RoomState) → AllStood s (settle_round s)
settle_stood s =
    let t = advance_fully s in
    let u = start_round t in
    stood_over s u (advance_fully u) (stood_over s t u (fully_stood s) (start_stood t)) (fully_stood u)

conclude_stood : (s : RoomState) (k : Conclusion) → AllStood s (conclude s k).state
conclude_stood s (Stays reply) = stood_self s.members
conclude_stood s (Says reply) = settle_stood s
conclude_stood s (Tells m) = settle_stood s

-- ---- an event

-- each entry was there before, or was heard at this moment
abbrev pub Hears : ℕ → RoomState → RoomState → Type 0
Hears now s t = (y : Joined) → In y t.members → Stood s.members y ⊎ (y.heard ≡ now)

abbrev HearsTo : ℕ → RoomState → Membership → Type 0
HearsTo now s t = Hears now s t.state

rests : (now : ℕ) (s : RoomState) → Hears now s s
rests now s y i = inl (stood_self s.members y i)

with_hears : (now : ℕ) (s : RoomState) (m : Member) (f : Joined → Joined) → ((j : Joined) → (f j).heard ≡ now) → HearsTo now s (with_member s m f)
with_hears now s m f heard y i = elim (In-with_node s.members m.node f y i) [
  | inl j ↦ inl (stood_self s.members y j)
  | inr h ↦ inr (ap (λ (z : Joined). z.heard) h.3 ∙ heard h.0)
]

heard_hears : (now : ℕ) (s : RoomState) (m : Member) (f : Joined → Joined) (b : Bool) → ((j : Joined) → (f j).heard ≡ now) → HearsTo now s (cond b (with_member s m f) (not_member s m))
heard_hears now s m f true heard = with_hears now s m f heard
heard_hears now s m f false heard = rests now s

ack_heard : (now : ℕ) (b : Bool) (j : Joined) → (cond b (acked_at now) (heard_at now) j).heard ≡ now
ack_heard now true j = refl
ack_heard now false j = refl

joined_hears : (now : ℕ) (s : RoomState) (host : HostInfo) → Hears now s (with_joined s host now)
joined_hears now s host y i = elim (In-put_joined s.members (new_joined host now) y i) [
  | inl e ↦ inr (ap (λ (z : Joined). z.heard) e)
  | inr j ↦ inl (stood_self s.members y j)
]

node_hears : (now : ℕ) (s : RoomState) (host : HostInfo) (o : Option Joined) → HearsTo now s (join_node s host now o)
node_hears now s host (Some j) = rests now s
node_hears now s host None = cond_both (is_full s host.member.node) _ _ (HearsTo now s) (λ _. rests now s) (λ _. joined_hears now s host)

remove_hears : (now : ℕ) (s : RoomState) (m : Member) → HearsTo now s (remove_member s m)
remove_hears now s m =
    cond_both (is_here s.members m) _ _ (HearsTo now s) (λ _ y i. inl (stood_self s.members y (In-without_node s.members m.node y i))) (λ _. rests now s)

hears : (now : ℕ) (s : RoomState) (event : PlaceEvent) → HearsTo now s (apply_membership s event now)
hears now s (events.Register host) =
    cond_both (is_here s.members host.member) _ _ (HearsTo now s)
    (λ _. with_hears now s host.member (heard_at now) (λ j. refl))
    (λ _. cond_both (nat_le host.member.boot (greatest_boot s.boots host.member.node)) _ _ (HearsTo now s)
    (λ _. rests now s)
    (λ _. node_hears now s host (of_node s.members host.member.node)))
hears now s (events.Beat m) = heard_hears now s m (heard_at now) _ (λ j. refl)
hears now s (events.Ack m stage version) = heard_hears now s m (ack_change s stage version now) _ (ack_heard now (is_in_stage s.phase stage && (version == last_version s)))
hears now s (events.Leave m) = remove_hears now s m
hears now s (events.Lost m) = remove_hears now s m
hears now s events.Tick = λ y i. inl (stood_self s.members y (In-heard_of s.members now y i))
hears now s events.Look = rests now s

concluded : (now : ℕ) (s t : RoomState) (k : Conclusion) → Hears now s t → Hears now s (conclude t k).state
concluded now s t k h y i =
    let f = conclude_stood t k y i in
    elim (h f.entry f.here) [
      | inl g ↦ inl (record { entry = g.entry; here = g.here; member = f.member ∙ g.member; heard = f.heard ∙ g.heard })
      | inr e ↦ inr (f.heard ∙ e)
    ]

pub step_hears : (now : ℕ) (s : RoomState) (event : PlaceEvent) → Hears now s (room_step s event now).state
step_hears now s event = let t = apply_membership s event now in concluded now s t.state t.conclusion (hears now s event)

-- a restart hears each member
pub record Restarted (js : List Joined) (now : ℕ) (y : Joined) : Type 0 where
  pub entry : Joined
  pub here : In entry js
  pub member : y.host.member ≡ entry.host.member
  pub heard : y.heard ≡ now

pub restart_hears : (now : ℕ) (s : RoomState) (y : Joined) → In y (room_restarted s now).members → Restarted s.members now y
restart_hears now s =
    cond_both (s.next_version == 1) _ _ (λ (t : RoomState). (y : Joined) → In y t.members → Restarted s.members now y)
    (λ _ y i. absurd i)
    (λ _ y i.
    let f = settle_stood (awoken s now) y i in
    let m = In-map (restarted_at now) s.members f.entry f.here in
    record {
      entry = m.0;
      here = m.1;
      member = f.member ∙ ap (λ (z : Joined). z.host.member) m.2;
      heard = f.heard ∙ ap (λ (z : Joined). z.heard) m.2;
    })

-- ---- who asks is heard

itself : (a : List ℕ) → bytes_eq a a ≡ true
itself a = (bytes_eq-Decides a a).1 refl

-- a node that no host has
absent : (js : List Joined) (node : List ℕ) (y : Joined) → has_host (hosts_of js) node ≡ false → In y js → joined_node y ≡ node → ⊥
absent [] node y e i same = i
absent (k ∷ js) node y e i same = go (bytes_eq node (joined_node k)) refl (absent js node y) e i
  where
    go : (b : Bool) → bytes_eq node (joined_node k) ≡ b → (has_host (hosts_of js) node ≡ false → In y js → joined_node y ≡ node → ⊥) → (b || has_host (hosts_of js) node) ≡ false → In y (k ∷ js) → ⊥
    go true t more f j = true≢false f
    go false t more f (inl s) = false≢true (sym t ∙ (bytes_eq-Decides node (joined_node k)).1 (sym same ∙ ap joined_node s))
    go false t more f (inr j) = more f j same

-- the entry of a node is changed
changed : (js : List Joined) (node : List ℕ) (f : Joined → Joined) (y : Joined) → Distinct (hosts_of js) → In y (with_node js node f) → joined_node y ≡ node → (j : Joined) × (y ≡ f j)
changed [] node f y d i same = absurd i
changed (k ∷ js) node f y d i same = go (bytes_eq node (joined_node k)) refl (changed js node f y d.1) i
  where
    go : (b : Bool) → bytes_eq node (joined_node k) ≡ b → (In y (with_node js node f) → joined_node y ≡ node → (j : Joined) × (y ≡ f j)) → In y (cond b (f k ∷ js) (k ∷ with_node js node f)) → (j : Joined) × (y ≡ f j)
    go true t more (inl e) = (k, e)
    go true t more (inr j) = absurd (absent js (joined_node k) y d.0 j (same ∙ (bytes_eq-Decides node (joined_node k)).0 t))
    go false t more (inl e) = absurd (false≢true (sym t ∙ (bytes_eq-Decides node (joined_node k)).1 (sym same ∙ ap joined_node e)))
    go false t more (inr j) = more j same

-- the entry of a node is gone
removed : (js : List Joined) (node : List ℕ) (y : Joined) → Distinct (hosts_of js) → In y (without_node js node) → joined_node y ≡ node → ⊥
removed [] node y d i same = i
removed (k ∷ js) node y d i same = go (bytes_eq node (joined_node k)) refl (removed js node y d.1) i
  where
    go : (b : Bool) → bytes_eq node (joined_node k) ≡ b → (In y (without_node js node) → joined_node y ≡ node → ⊥) → In y (cond b js (k ∷ without_node js node)) → ⊥
    go true t more j = absent js (joined_node k) y d.0 j (same ∙ (bytes_eq-Decides node (joined_node k)).0 t)
    go false t more (inl e) = false≢true (sym t ∙ (bytes_eq-Decides node (joined_node k)).1 (sym same ∙ ap joined_node e))
    go false t more (inr j) = more j same

-- an entry of a member makes it a member
found_here : (js : List Joined) (m : Member) (y : Joined) → Distinct (hosts_of js) → In y js → y.host.member ≡ m → is_here js m ≡ true
found_here js m y d i same = ap (λ (o : Option Joined). is_the m o) (at js d i) ∙ told
  where
    told : is_the m (Some y) ≡ true
    told = subst (λ (z : Member). is_the z (Some y) ≡ true) same (same_member-self y.host.member)

    node : m.node ≡ joined_node y
    node = ap (λ (z : Member). z.node) (sym same)

    at : (js : List Joined) → Distinct (hosts_of js) → In y js → of_node js m.node ≡ Some y
    at [] d i = absurd i
    at (k ∷ js) d i = go (bytes_eq m.node (joined_node k)) refl (at js d.1) i
      where
        go : (b : Bool) → bytes_eq m.node (joined_node k) ≡ b → (In y js → of_node js m.node ≡ Some y) → In y (k ∷ js) → cond b (Some k) (of_node js m.node) ≡ Some y
        go true t more (inl e) = ap (λ (z : Joined). Some z) (sym e)
        go true t more (inr j) = absurd (absent js (joined_node k) y d.0 j (sym node ∙ (bytes_eq-Decides m.node (joined_node k)).0 t))
        go false t more (inl e) = absurd (false≢true (sym t ∙ (bytes_eq-Decides m.node (joined_node k)).1 (node ∙ ap joined_node e)))
        go false t more (inr j) = more j

-- each entry of the member was heard at this moment
abbrev HasHeard : ℕ → Member → Membership → Type 0
HasHeard now m t = (y : Joined) → In y t.state.members → y.host.member ≡ m → y.heard ≡ now

module _ (now : ℕ) (s : RoomState) (d : Distinct (hosts_of s.members)) where
  -- no entry is the member's
  stranger : (m : Member) → is_here s.members m ≡ false → (y : Joined) → In y s.members → y.host.member ≡ m → y.heard ≡ now
  stranger m away y i same = absurd (true≢false (sym (found_here s.members m y d i same) ∙ away))

  with_heard : (m : Member) (f : Joined → Joined) → ((j : Joined) → (f j).heard ≡ now) → HasHeard now m (with_member s m f)
  with_heard m f heard y i same =
      let h = changed s.members m.node f y d i (ap (λ (z : Member). z.node) same) in ap (λ (z : Joined). z.heard) h.1 ∙ heard h.0

  here_heard : (m : Member) (f : Joined → Joined) → ((j : Joined) → (f j).heard ≡ now) → HasHeard now m (cond (is_here s.members m) (with_member s m f) (not_member s m))
  here_heard m f heard = cond_both (is_here s.members m) _ _ (HasHeard now m) (λ _. with_heard m f heard) (λ away. stranger m away)

  node_heard : (host : HostInfo) → is_here s.members host.member ≡ false → (o : Option Joined) → HasHeard now host.member (join_node s host now o)
  node_heard host away (Some j) = stranger host.member away
  node_heard host away None =
      cond_both (is_full s host.member.node) _ _ (HasHeard now host.member)
      (λ _. stranger host.member away)
      (λ _ y i same. elim (In-put_joined s.members (new_joined host now) y i) [
        | inl e ↦ ap (λ (z : Joined). z.heard) e
        | inr j ↦ stranger host.member away y j same
      ])

  asker_heard : (r : Request) → HasHeard now (asker_of r) (apply_membership s (change_of r) now)
  asker_heard (Register host) =
      cond_both (is_here s.members host.member) _ _ (HasHeard now host.member)
      (λ _. with_heard host.member (heard_at now) (λ j. refl))
      (λ away. cond_both (nat_le host.member.boot (greatest_boot s.boots host.member.node)) _ _ (HasHeard now host.member)
      (λ _. stranger host.member away)
      (λ _. node_heard host away (of_node s.members host.member.node)))
  asker_heard (Beat m) = here_heard m (heard_at now) (λ j. refl)
  asker_heard (Ack m stage version) = here_heard m (ack_change s stage version now) (ack_heard now (is_in_stage s.phase stage && (version == last_version s)))
  asker_heard (Leave m) =
      cond_both (is_here s.members m) _ _ (HasHeard now m)
      (λ _ y i same. absurd (removed s.members m.node y d i (ap (λ (z : Member). z.node) same)))
      (λ away. stranger m away)

  -- who asks, if it is a member after the event, is heard at it
  pub request_heard : (r : Request) (y : Joined) → In y (room_step s (change_of r) now).state.members → y.host.member ≡ asker_of r → y.heard ≡ now
  request_heard r y i same =
      let t = apply_membership s (change_of r) now in
      let f = conclude_stood t.state t.conclusion y i in
      f.heard ∙ asker_heard r f.entry f.here (sym f.member ∙ same)
