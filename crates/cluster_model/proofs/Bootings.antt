-- Each member that a message names, and each member of the placement, was booted.
use Rattle.std.proofs.Common.{◌≡◌, ◌⊎◌, ℕ, Bool, true, false, cond, ◌<◌, List, [], ◌∷◌, ◌++◌, set, Option, None, Some, refl, sym, ap, ◌∙◌, subst, inl, inr, arith}
use Rattle.std.specs.Prelude.{zero, suc, nat_le, slice_get}
use Rattle.std.proofs.lemmas.Bool.{cond_both}
use Rattle.actor_names.specs.declared.member.Member.{Member}
use Rattle.actor_names.specs.declared.actor_key.ActorKey.{ActorKey}
use Rattle.place_table.specs.declared.host.HostInfo.{HostInfo}
use Rattle.place_table.specs.Hosts.{PlacementTable}
use Rattle.turn_core.specs.CellSound.{In}
use Rattle.turn_core.proofs.Elements.{In-push, In-left}
use Rattle.part_model.specs.declared.settings.TypeSettings.{TypeSettings}
use Rattle.part_model.specs.Part.{PartState, new_part, part_step}
use Rattle.part_model.proofs.PartTables.{part_stepped}
use Rattle.round_core.specs.declared.event.PlaceEvent.{PlaceEvent}
use Rattle.round_core.specs.declared.event.PlaceEvent.TheVariants as changes
use Rattle.round_core.specs.Room.{RoomState, Membership, not_member, with_member, is_full, join_node, ack_change, remove_member, apply_membership, room_step}
use Rattle.round_core.specs.Runs.{HasMember}
use Rattle.round_core.proofs.Durable.{hosts_with, ack_same, conclude_keeps}
use Rattle.round_core.proofs.Hosts.{put_member, without_member, heard_member}
use Rattle.round_core.proofs.Reached.{restart_keeps}
use Rattle.member_roster.specs.Members.{Joined, hosts_of, of_node, is_here, heard_at, new_joined, greatest_boot}
use Rattle.world_events.specs.declared.event.WorldEvent.{WorldEvent}
use Rattle.world_events.specs.declared.settings.WorldSettings.{WorldSettings}
use Rattle.placement_core.specs.Placement.{PlacementState, room_of, placement_step}
use Rattle.cluster_model.proofs.RoomSteps.{room_after, restart_room}
use Rattle.cluster_model.proofs.SpaceParts.{backed}
use Rattle.cluster_model.specs.Messages.{Request, Register, Beat, Ack, Leave, Message, Asks, change_of, asker_of, named_in}
use Rattle.cluster_model.specs.World as world
use Rattle.cluster_model.specs.World.{ClusterState, new_parts}
use Rattle.cluster_model.specs.Invariant.{IsBooted}
use Rattle.cluster_model.proofs.Basics.{In-slice_get}
use Rattle.cluster_model.specs.Invariant.{IsSafeWorld}
use Rattle.cluster_model.proofs.Lines.{IsHonest, AreKept, run_kept}
use Rattle.cluster_model.proofs.Worlds.{safe_kept, opening_room, new_world_safe}

-- ---- members after a step of the placement

abbrev FromHosts : RoomState → PlaceEvent → Membership → Type 0
FromHosts s e t = (m : Member) → HasMember (hosts_of t.state.members) m → HasMember (hosts_of s.members) m ⊎ ((h : HostInfo) × (e ≡ changes.Register h) × (m ≡ h.member))

heard_from : (s : RoomState) (e : PlaceEvent) (m : Member) (f : Joined → Joined) (b : Bool) → ((j : Joined) → (f j).host ≡ j.host) → FromHosts s e (cond b (with_member s m f) (not_member s m))
heard_from s e m f true same x i = inl (subst (λ (hs : List HostInfo). HasMember hs x) (hosts_with s.members m.node f same) i)
heard_from s e m f false same x i = inl i

node_from : (s : RoomState) (host : HostInfo) (now : ℕ) (o : Option Joined) → FromHosts s (changes.Register host) (join_node s host now o)
node_from s host now (Some j) = λ x i. inl i
node_from s host now None =
    cond_both (is_full s host.member.node) _ _ (FromHosts s (changes.Register host))
    (λ _ x i. inl i)
    (λ _ x i. elim (put_member s.members (new_joined host now) x i) [ inl j ↦ inl j | inr e ↦ inr (host, refl, e) ])

gone_from : (s : RoomState) (e : PlaceEvent) (m : Member) → FromHosts s e (remove_member s m)
gone_from s e m = cond_both (is_here s.members m) _ _ (FromHosts s e) (λ _ x i. inl (without_member s.members m.node x i)) (λ _ x i. inl i)

change_from : (s : RoomState) (e : PlaceEvent) (now : ℕ) → FromHosts s e (apply_membership s e now)
change_from s (changes.Register host) now =
    cond_both (is_here s.members host.member) _ _ (FromHosts s (changes.Register host))
    (λ _. heard_from s (changes.Register host) host.member (heard_at now) true (λ j. refl))
    (λ _. cond_both (nat_le host.member.boot (greatest_boot s.boots host.member.node)) _ _ (FromHosts s (changes.Register host))
    (λ _ x i. inl i)
    (λ _. node_from s host now (of_node s.members host.member.node)))
change_from s (changes.Beat m) now = heard_from s (changes.Beat m) m (heard_at now) _ (λ j. refl)
change_from s (changes.Ack m stage version) now = heard_from s (changes.Ack m stage version) m (ack_change s stage version now) _ (ack_same now _)
change_from s (changes.Leave m) now = gone_from s (changes.Leave m) m
change_from s (changes.Lost m) now = gone_from s (changes.Lost m) m
change_from s changes.Tick now = λ x i. inl (heard_member s.members now x i)
change_from s changes.Look now = λ x i. inl i

-- a member after a step was one before, or is the host that registers
pub step_from : (s : RoomState) (e : PlaceEvent) (now : ℕ) (m : Member) → HasMember (hosts_of (room_step s e now).state.members) m → HasMember (hosts_of s.members) m ⊎ ((h : HostInfo) × (e ≡ changes.Register h) × (m ≡ h.member))
step_from s e now m i =
    let t = apply_membership s e now in
    change_from s e now m (subst (λ (hs : List HostInfo). HasMember hs m) (conclude_keeps t.state t.conclusion).hosts i)

-- the same for a room of the placement
pub placement_from : (s : PlacementState) (e : PlaceEvent) (now : ℕ) (space : List ℕ) (m : Member) → HasMember (hosts_of (room_of (placement_step s e now).state space).members) m →
    HasMember (hosts_of (room_of s space).members) m ⊎ ((h : HostInfo) × (e ≡ changes.Register h) × (m ≡ h.member))
placement_from s e now space m i = elim (room_after s e now space) [
  | inl h ↦ step_from (room_of s space) e now m (subst (λ (r : RoomState). HasMember (hosts_of r.members) m) h i)
  | inr h ↦ inl (subst (λ (r : RoomState). HasMember (hosts_of r.members) m) h i)
]

-- ---- parts of a member stay

pub booted_set : (ps : List PartState) (n : ℕ) (p q : PartState) → slice_get ps n ≡ Some p → q.member ≡ p.member → (m : Member) → IsBooted ps m → IsBooted (set ps n q) m
booted_set [] n p q at same m b = absurd b.1
booted_set (x ∷ ps) zero p q at same m (y, inl e, f) = (q, inl refl, same ∙ ap (λ (z : PartState). z.member) (sym (first x p at)) ∙ ap (λ (z : PartState). z.member) (sym e) ∙ f)
  where
    first : (a b : PartState) → Some a ≡ Some b → a ≡ b
    first a b e = cc
booted_set (x ∷ ps) zero p q at same m (y, inr i, f) = (y, inr i, f)
booted_set (x ∷ ps) (suc n) p q at same m (y, inl e, f) = (y, inl e, f)
booted_set (x ∷ ps) (suc n) p q at same m (y, inr i, f) = (let h = booted_set ps n p q at same m (y, i, f) in (h.0, inr h.1, h.2))

pub booted_more : (ps qs : List PartState) (m : Member) → IsBooted ps m → IsBooted (ps ++ qs) m
booted_more ps qs m b = (b.0, In-left ps qs b.0 b.1, b.2)

In-right : (xs ys : List PartState) (x : PartState) → In x ys → In x (xs ++ ys)
In-right [] ys x i = i
In-right (z ∷ xs) ys x i = inr (In-right xs ys x i)

booted_new : (ps : List PartState) (m : Member) (kinds : List TypeSettings) (n : ℕ) → 0 < n → IsBooted (ps ++ new_parts m kinds 0 n) m
booted_new ps m kinds zero l = absurd (omega arith)
booted_new ps m kinds (suc n) l = (new_part m 0 kinds, In-right ps (new_part m 0 kinds ∷ new_parts m kinds 1 n) (new_part m 0 kinds) (inl refl), refl)

-- ---- every list of events

module _ (owner : PlacementTable → ActorKey → Option HostInfo) (part_of : ActorKey → ℕ → ℕ) where
  pub record AreAllBooted (w : ClusterState) : Type 0 where
    pub safe : IsSafeWorld owner w
    pub some : 0 < w.settings.parts
    pub named : (x : Message) → In x w.messages → IsBooted w.parts (named_in x)
    pub joined : (space : List ℕ) (m : Member) → HasMember (hosts_of (room_of w.placement space).members) m → IsBooted w.parts m

  no_register : (w : ClusterState) (e : PlaceEvent) (h : HostInfo) → IsHonest owner part_of w e → e ≡ changes.Register h → ⊥
  no_register w e h honest same = subst (IsHonest owner part_of w) same honest

  registers : (r : Request) (h : HostInfo) → change_of r ≡ changes.Register h → asker_of r ≡ h.member
  registers (Register host) h e = (let q : host ≡ h = cc in ap (λ (z : HostInfo). z.member) q)
  registers r h e = absurd (cc)

  pushed : (ms : List Message) (x : Message) (ps : List PartState) → ((y : Message) → In y ms → IsBooted ps (named_in y)) → IsBooted ps (named_in x) → (y : Message) → In y (ms ++ x ∷ []) → IsBooted ps (named_in y)
  pushed ms x ps old new y i = elim (In-push ms x y i) [ inl j ↦ old y j | inr e ↦ subst (λ (z : Message). IsBooted ps (named_in z)) (sym e) new ]

  booted_kept : AreKept owner part_of AreAllBooted
  booted_kept =
      record {
        safe = λ w t. t.safe;
        other = λ w now calls events t. record { safe = (safe_kept owner part_of).other w now calls events t.safe; some = t.some; named = t.named; joined = t.joined };
        step = λ w n p e t at heard asked.
            let st = part_stepped owner p e (backed owner w t.safe p (In-slice_get w.parts n p at)).sound in
            record {
              safe = (safe_kept owner part_of).step w n p e t.safe at heard asked;
              some = t.some;
              named = λ x i. booted_set w.parts n p (part_step owner p e).part at st.member (named_in x) (t.named x i);
              joined = λ space m i. booted_set w.parts n p (part_step owner p e).part at st.member m (t.joined space m i);
            };
        ask = λ w r t may booted. record {
          safe = (safe_kept owner part_of).ask w r t.safe may booted;
          some = t.some;
          named = pushed w.messages (Asks r) w.parts t.named booted;
          joined = t.joined;
        };
        answer = λ w r t i. record {
          safe = (safe_kept owner part_of).answer w r t.safe i;
          some = t.some;
          named = pushed w.messages _ w.parts t.named (t.named (Asks r) i);
          joined = λ space m j. elim (placement_from w.placement (change_of r) w.now space m j) [
            | inl old ↦ t.joined space m old
            | inr new ↦ subst (IsBooted w.parts) (registers r new.0 new.1 ∙ sym new.2) (t.named (Asks r) i)
          ];
        };
        change = λ w e t h. record {
          safe = (safe_kept owner part_of).change w e t.safe h;
          some = t.some;
          named = t.named;
          joined = λ space m j. elim (placement_from w.placement e w.now space m j) [ inl old ↦ t.joined space m old | inr new ↦ absurd (no_register w e new.0 h new.1) ];
        };
        restart = λ w t. record {
          safe = (safe_kept owner part_of).restart w t.safe;
          some = t.some;
          named = t.named;
          joined = λ space m j.
              let here = subst (λ (r : RoomState). HasMember (hosts_of r.members) m) (restart_room w.placement w.now space) j in
              t.joined space m (subst (λ (hs : List HostInfo). HasMember hs m) (restart_keeps (room_of w.placement space) w.now (t.safe.spaces space).reached.kept).hosts here);
        };
        boot = λ w m kinds fresh t.
            let more : (x : Member) → IsBooted w.parts x → IsBooted (w.parts ++ new_parts m (world.settings_for w.settings kinds) 0 w.settings.parts) x = booted_more w.parts _ in
            record {
              safe = (safe_kept owner part_of).boot w m kinds fresh t.safe;
              some = t.some;
              named = pushed w.messages _ _ (λ y i. more (named_in y) (t.named y i)) (booted_new w.parts m (world.settings_for w.settings kinds) w.settings.parts t.some);
              joined = λ space x i. more x (t.joined space x i);
            };
      }

  pub run_booted : (settings : WorldSettings) → 0 < settings.parts → (es : List WorldEvent) → AreAllBooted (world.cluster_run owner part_of (world.opening_cluster settings) es)
  run_booted settings some es =
      run_kept owner part_of AreAllBooted booted_kept (world.opening_cluster settings) es
      (record { safe = new_world_safe owner part_of settings; some = some; named = λ x i. absurd i; joined = λ space m i. absurd (subst (λ (r : RoomState). HasMember (hosts_of r.members) m) (opening_room owner part_of space) i) })
