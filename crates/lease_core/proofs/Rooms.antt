-- The rooms of a placement after an event: each member was one before, heard at the same moment or at this one, or it joins
-- now; and who asks, if a member then, is heard now.
use Rattle.std.proofs.Common.{◌≡◌, ◌⊎◌, ℕ, Bool, true, false, cond, List, [], ◌∷◌, ◌++◌, length, map, Option, None, Some, refl, sym, ap, ◌∙◌, subst, inl, inr}
use Rattle.std.specs.Prelude.{nat_le, ◌==◌, bytes_eq, unwrap_or}
use Rattle.std.specs.List.{AllByRecursion}
use Rattle.std.specs.declared.cmp.Ordering.TheVariants.{Less, Equal}
use Rattle.std.proofs.lemmas.Bool.{cond_both, true≢false}
use Rattle.std.proofs.lemmas.Slice.Eq.{bytes_eq-Decides}
use Rattle.actor_names.specs.declared.member.Member.{Member}
use Rattle.place_table.specs.declared.host.HostInfo.{HostInfo}
use Rattle.turn_core.specs.CellSound.{In}
use Rattle.member_roster.specs.Members.{Joined, hosts_of, is_before, is_late, late_of}
use Rattle.member_roster.specs.Places.{IsBelowAll, Ascends}
use Rattle.member_roster.proofs.Places.{same_texts}
use Rattle.round_core.specs.declared.event.PlaceEvent.{PlaceEvent}
use Rattle.round_core.specs.declared.event.PlaceEvent.TheVariants as events
use Rattle.round_core.specs.Reached.{Distinct}
use Rattle.round_core.specs.Room.{RoomState, new_room, room_step, room_restarted}
use Rattle.round_core.specs.Runs.{HasMember}
use Rattle.placement_core.specs.Placement.{SpaceRoom, PlacementState, PlacementStep, most_spaces, room_at, room_of, put_room, with_room, each_room, in_room, joins_room, late_in, restarted, placement_step, placement_restarted}
use Rattle.placement_core.specs.Runs.{space_of}
use Rattle.placement_core.specs.Sound.{HasOwnHosts, AreOfSpaces}
use Rattle.placement_core.proofs.Ordered.{run_ordered}
use Rattle.placement_core.proofs.Sound.{step_each, all_each, opening_own, run_own}
use Rattle.cluster_model.specs.Messages.{Request, Register, Beat, Ack, Leave, change_of, asker_of}
use Rattle.cluster_model.proofs.Basics.{In-append}
use Rattle.cluster_model.proofs.Bootings.{step_from}
use Rattle.cluster_model.proofs.Joins.{entry_of, has_entry}
use Rattle.lease_core.proofs.Lists.{all_in, in_all}
use Rattle.lease_core.proofs.Follows.{IsPlaced}
use Rattle.lease_core.proofs.Hearings.{Stood, step_hears, restart_hears, request_heard}

-- an entry of one of the rooms
pub record Entry (rooms : List SpaceRoom) (j : Joined) : Type 0 where
  pub room : SpaceRoom
  pub here : In room rooms
  pub inside : In j room.room.members

-- the same member was in a room before
pub record WasMember (rooms : List SpaceRoom) (m : Member) : Type 0 where
  pub entry : Joined
  pub there : Entry rooms entry
  pub member : m ≡ entry.host.member

-- and was heard at the same moment
pub record WasHeard (rooms : List SpaceRoom) (j : Joined) : Type 0 where
  pub entry : Joined
  pub there : Entry rooms entry
  pub member : j.host.member ≡ entry.host.member
  pub heard : j.heard ≡ entry.heard

abbrev pub Registers : PlaceEvent → Member → Type 0
Registers e m = (h : HostInfo) × (e ≡ events.Register h) × (m ≡ h.member)

-- an entry after an event: who it is, and when it was heard
pub record Heard (rooms : List SpaceRoom) (e : PlaceEvent) (now : ℕ) (j : Joined) : Type 0 where
  pub who : WasMember rooms j.host.member ⊎ Registers e j.host.member
  pub when : WasHeard rooms j ⊎ (j.heard ≡ now)

module _ (rooms : List SpaceRoom) (e : PlaceEvent) (now : ℕ) where
  abbrev AllHeard : SpaceRoom → Type 0
  AllHeard r = (j : Joined) → In j r.room.members → Heard rooms e now j

  none_heard : (space : List ℕ) → AllHeard (record { space = space; room = new_room })
  none_heard space j i = absurd i

  before : (r : SpaceRoom) → In r rooms → AllHeard r
  before r i j k =
      let there : Entry rooms j = record { room = r; here = i; inside = k } in
      record { who = inl (record { entry = j; there = there; member = refl }); when = inl (record { entry = j; there = there; member = refl; heard = refl }) }

  -- who it is, by an entry of the room before the step
  who_from : (room : RoomState) (m : Member) → ((j : Joined) → In j room.members → Heard rooms e now j) → HasMember (hosts_of room.members) m → WasMember rooms m ⊎ Registers e m
  who_from room m all i =
      let h = entry_of room.members m i in
      elim (all h.0 h.1).who [
        | inl w ↦ inl (record { entry = w.entry; there = w.there; member = h.2 ∙ w.member })
        | inr w ↦ inr (w.0, w.1, h.2 ∙ w.2)
      ]

  steadies : (r : SpaceRoom) → AllHeard r → AllHeard (record { space = r.space; room = (room_step r.room e now).state })
  steadies r all j i =
      record {
        who = elim (step_from r.room e now j.host.member (has_entry (room_step r.room e now).state.members j i)) [ inl k ↦ who_from r.room j.host.member all k | inr k ↦ inr k ];
        when = elim (step_hears now r.room e j i) [
          | inl f ↦ elim (all f.entry f.here).when [
            | inl w ↦ inl (record { entry = w.entry; there = w.there; member = f.member ∙ w.member; heard = f.heard ∙ w.heard })
            | inr n ↦ inr (f.heard ∙ n)
          ]
          | inr n ↦ inr n
        ];
      }

-- each entry after an event
pub step_heard : (s : PlacementState) (e : PlaceEvent) (now : ℕ) (r : SpaceRoom) (j : Joined) → In r (placement_step s e now).state.rooms → In j r.room.members → Heard s.rooms e now j
step_heard s e now r j i k =
    all_in (AllHeard s.rooms e now) (placement_step s e now).state.rooms
    (step_each (AllHeard s.rooms e now) (none_heard s.rooms e now) s e now (λ x here q. steadies s.rooms e now x q) (in_all (AllHeard s.rooms e now) s.rooms (before s.rooms e now)))
    r i j k

-- each entry after a restart: who it is, heard now
pub record IsRestarted (rooms : List SpaceRoom) (now : ℕ) (j : Joined) : Type 0 where
  pub who : WasMember rooms j.host.member
  pub heard : j.heard ≡ now

module _ (rooms : List SpaceRoom) (now : ℕ) where
  abbrev AllRestarted : SpaceRoom → Type 0
  AllRestarted r = (j : Joined) → In j r.room.members → IsRestarted rooms now j

  from_rooms : (xs : List SpaceRoom) → ((x : SpaceRoom) → In x xs → In x rooms) → (r : SpaceRoom) → In r (map (each_room (restarted now)) xs) → AllRestarted r
  from_rooms [] sub r i j k = absurd i
  from_rooms (x ∷ xs) sub r (inl e) j k =
      let q : In j (room_restarted x.room now).members = subst (λ (z : SpaceRoom). In j z.room.members) e k in
      let h = restart_hears now x.room j q in
      record { who = record { entry = h.entry; there = record { room = x; here = sub x (inl refl); inside = h.here }; member = h.member }; heard = h.heard }
  from_rooms (x ∷ xs) sub r (inr i) j k = from_rooms xs (λ y l. sub y (inr l)) r i j k

pub restart_heard : (s : PlacementState) (now : ℕ) (r : SpaceRoom) (j : Joined) → In r (placement_restarted s now).rooms → In j r.room.members → IsRestarted s.rooms now j
restart_heard s now r j i k = from_rooms s.rooms now s.rooms (λ x l. l) r i j k

-- ---- who asks

itself : (space : List ℕ) → bytes_eq space space ≡ true
itself space = (bytes_eq-Decides space space).1 refl

at_put : (rs : List SpaceRoom) (space : List ℕ) (r : RoomState) → room_at (put_room rs space r) space ≡ Some r
at_put [] space r = rw (itself space) refl
at_put (x ∷ rs) space r = go (at_put rs space r) (bytes_eq space x.space) refl (is_before space x.space)
  where
    go : room_at (put_room rs space r) space ≡ Some r → (b : Bool) → bytes_eq space x.space ≡ b → (c : Bool) →
        room_at (cond b (record { space = space; room = r } ∷ rs) (cond c (record { space = space; room = r } ∷ x ∷ rs) (x ∷ put_room rs space r))) space ≡ Some r
    go later true e c = rw (itself space) refl
    go later false e true = rw (itself space) refl
    go later false e false = rw e later

module _ (s : PlacementState) (r : Request) (now : ℕ) (distinct : Distinct (hosts_of (room_of s (asker_of r).space).members)) where
  abbrev space : List ℕ
  space = (asker_of r).space

  abbrev NowHeard : PlacementState → Type 0
  NowHeard t = (y : Joined) → In y (room_of t space).members → y.host.member ≡ asker_of r → y.heard ≡ now

  -- no room, no member
  no_room : room_at s.rooms space ≡ None → NowHeard s
  no_room e y i same = absurd (subst (λ (o : Option RoomState). In y (unwrap_or o new_room).members) e i)

  -- the room of the space has taken the step
  own_room : (room : RoomState) → Distinct (hosts_of room.members) → NowHeard (with_room s space (room_step room (change_of r) now).state)
  own_room room d y i same =
      request_heard now room d r y
      (subst (λ (o : Option RoomState). In y (unwrap_or o new_room).members) (at_put s.rooms space (room_step room (change_of r) now).state) i) same

  here : (room : RoomState) → room_at s.rooms space ≡ Some room → Distinct (hosts_of room.members)
  here room e = subst (λ (o : Option RoomState). Distinct (hosts_of (unwrap_or o new_room).members)) e distinct

  in_heard : (o : Option RoomState) → room_at s.rooms space ≡ o → NowHeard (in_room s space (change_of r) now o).state
  in_heard None e = no_room e
  in_heard (Some room) e = own_room room (here room e)

joins_heard : (s : PlacementState) (host : HostInfo) (now : ℕ) (d : Distinct (hosts_of (room_of s host.member.space).members)) (o : Option RoomState) → room_at s.rooms host.member.space ≡ o →
    NowHeard s (Register host) now d (joins_room s host now o).state
joins_heard s host now d (Some room) e = own_room s (Register host) now d room (here s (Register host) now d room e)
joins_heard s host now d None e =
    cond_both (nat_le most_spaces (length s.rooms)) _ _ (λ (t : PlacementStep). NowHeard s (Register host) now d t.state)
    (λ _. no_room s (Register host) now d e)
    (λ _. cond_both (host.member.boot == 0) _ _ (λ (t : PlacementStep). NowHeard s (Register host) now d t.state)
    (λ _. no_room s (Register host) now d e)
    (λ _. own_room s (Register host) now d new_room tt))

pub asker_heard : (s : PlacementState) (r : Request) (now : ℕ) → Distinct (hosts_of (room_of s (asker_of r).space).members) → (y : Joined) →
    In y (room_of (placement_step s (change_of r) now).state (asker_of r).space).members → y.host.member ≡ asker_of r → y.heard ≡ now
asker_heard s (Register host) now d = joins_heard s host now d (room_at s.rooms host.member.space) refl
asker_heard s (Beat m) now d = in_heard s (Beat m) now d (room_at s.rooms m.space) refl
asker_heard s (Ack m stage version) now d = in_heard s (Ack m stage version) now d (room_at s.rooms m.space) refl
asker_heard s (Leave m) now d = in_heard s (Leave m) now d (room_at s.rooms m.space) refl

-- ---- a placement to which a run leads

below_other : (first : List ℕ) (rs : List SpaceRoom) → IsBelowAll space_of first rs → (r : SpaceRoom) → In r rs → bytes_eq r.space first ≡ false
below_other first [] h r i = absurd i
below_other first (x ∷ rs) h r (inl e) = ap (λ (z : SpaceRoom). bytes_eq z.space first) e ∙ same_texts first x.space Less h.0
below_other first (x ∷ rs) h r (inr i) = below_other first rs h.1 r i

room_is : (rs : List SpaceRoom) → Ascends space_of rs → (r : SpaceRoom) → In r rs → room_at rs r.space ≡ Some r.room
room_is [] a r i = absurd i
room_is (x ∷ rs) a r (inl e) =
    ap (λ (z : SpaceRoom). cond (bytes_eq z.space x.space) (Some x.room) (room_at rs z.space)) e ∙ ap (λ (b : Bool). cond b (Some x.room) (room_at rs x.space)) (itself x.space) ∙ ap (λ (z : SpaceRoom). Some z.room) (sym e)
room_is (x ∷ rs) a r (inr i) = ap (λ (b : Bool). cond b (Some x.room) (room_at rs r.space)) (below_other x.space rs a.0 r i) ∙ room_is rs a.1 r i

module _ (s : PlacementState) (t : IsPlaced s) where
  -- the room of a space is the only one
  pub only_room : (r : SpaceRoom) → In r s.rooms → room_of s r.space ≡ r.room
  only_room r i =
      ap (λ (o : Option RoomState). unwrap_or o new_room)
      (room_is s.rooms (subst (λ (z : PlacementState). Ascends space_of z.rooms) (sym t.leads) (run_ordered t.run).ascend) r i)

  -- a room has members of its space
  pub of_space : (r : SpaceRoom) (j : Joined) → In r s.rooms → In j r.room.members → j.host.member.space ≡ r.space
  of_space r j i k =
      let own : AreOfSpaces s.rooms = subst (λ (z : PlacementState). AreOfSpaces z.rooms) (sym t.leads) (run_own _ t.run opening_own) in
      all_in (λ (x : Joined). x.host.member.space ≡ r.space) r.room.members (all_in HasOwnHosts s.rooms own r i).members j k

-- ---- who is late

late_among : (js : List Joined) (now : ℕ) (m : Member) → In m (late_of js now) → (j : Joined) × In j js × (m ≡ j.host.member) × (is_late now j ≡ true)
late_among [] now m i = absurd i
late_among (k ∷ js) now m i =
    let more = late_among js now m in
    cond_both (is_late now k) _ _ (λ (ms : List Member). In m ms → (j : Joined) × In j (k ∷ js) × (m ≡ j.host.member) × (is_late now j ≡ true))
    (λ t. elim [ inl e ↦ (k, inl refl, e, t) | inr l ↦ (let h = more l in (h.0, inr h.1, h.2, h.3)) ])
    (λ _ l. (let h = more l in (h.0, inr h.1, h.2, h.3))) i

pub late_entry : (rs : List SpaceRoom) (now : ℕ) (m : Member) → In m (late_in rs now) → (j : Joined) × Entry rs j × (m ≡ j.host.member) × (is_late now j ≡ true)
late_entry [] now m i = absurd i
late_entry (r ∷ rs) now m i = elim (In-append (late_of r.room.members now) (late_in rs now) m i) [
  | inl l ↦ (let h = late_among r.room.members now m l in (h.0, record { room = r; here = inl refl; inside = h.1 }, h.2, h.3))
  | inr l ↦ (let h = late_entry rs now m l in (h.0, record { room = h.1.room; here = inr h.1.here; inside = h.1.inside }, h.2, h.3))
]
