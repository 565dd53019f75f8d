-- The room of a space after a step and after a restart of the placement.
use Rattle.std.proofs.Common.{◌≡◌, ◌⊎◌, ℕ, Bool, true, false, List, [], ◌∷◌, Option, None, Some, refl, sym, ap, ◌∙◌, subst, inl, inr}
use Rattle.std.specs.Prelude.{◌==◌, nat_le, if◌then◌else◌, bytes_eq, length, map, option_map, unwrap_or}
use Rattle.std.proofs.lemmas.Bool.{cond_both, cases_Bool, eqb-true}
use Rattle.std.proofs.lemmas.Slice.Eq.{bytes_eq-Decides}
use Rattle.actor_names.specs.declared.member.Member.{Member}
use Rattle.place_table.specs.declared.host.HostInfo.{HostInfo}
use Rattle.turn_core.specs.CellSound.{In}
use Rattle.turn_core.proofs.Elements.{In-left}
use Rattle.member_roster.specs.Members.{is_before, late_of}
use Rattle.round_core.specs.declared.event.PlaceEvent.{PlaceEvent}
use Rattle.round_core.specs.declared.event.PlaceEvent.TheVariants as events
use Rattle.round_core.specs.declared.event.PlaceReply.TheVariants as replies
use Rattle.round_core.specs.Room.{RoomState, RoomStep, new_room, room_step, room_restarted}
use Rattle.placement_core.specs.Placement.{SpaceRoom, PlacementState, PlacementStep, most_spaces, room_at, room_of, put_room, with_room, each_room, in_room, joins_room, late_in, ticked, restarted, placement_step, placement_restarted}
use Rattle.cluster_model.proofs.Basics.{In-right}

-- the space of an event of a member
abbrev pub event_space : PlaceEvent → Option (List ℕ)
event_space (events.Register host) = Some host.member.space
event_space (events.Beat m) = Some m.space
event_space (events.Ack m stage version) = Some m.space
event_space (events.Leave m) = Some m.space
event_space (events.Lost m) = Some m.space
event_space events.Tick = None
event_space events.Look = None

-- ---- rooms

itself : (space : List ℕ) → bytes_eq space space ≡ true
itself space = (bytes_eq-Decides space space).1 refl

at_put : (rs : List SpaceRoom) (space : List ℕ) (r : RoomState) → room_at (put_room rs space r) space ≡ Some r
at_put [] space r = rw (itself space) refl
at_put (x ∷ rs) space r = go (at_put rs space r) (bytes_eq space x.space) refl (is_before space x.space)
  where
    go : room_at (put_room rs space r) space ≡ Some r → (b : Bool) → bytes_eq space x.space ≡ b → (c : Bool) →
        room_at (if b then record { space = space; room = r } ∷ rs else (if c then record { space = space; room = r } ∷ x ∷ rs else x ∷ put_room rs space r)) space ≡ Some r
    go later true e c = rw (itself space) refl
    go later false e true = rw (itself space) refl
    go later false e false = rw e later

at_put_other : (rs : List SpaceRoom) (space other : List ℕ) (r : RoomState) → bytes_eq other space ≡ false → room_at (put_room rs space r) other ≡ room_at rs other
at_put_other [] space other r e = rw e refl
at_put_other (x ∷ rs) space other r e = go (at_put_other rs space other r e) (bytes_eq space x.space) refl (is_before space x.space)
  where
    go : room_at (put_room rs space r) other ≡ room_at rs other → (b : Bool) → bytes_eq space x.space ≡ b → (c : Bool) →
        room_at (if b then record { space = space; room = r } ∷ rs else (if c then record { space = space; room = r } ∷ x ∷ rs else x ∷ put_room rs space r)) other
        ≡ (if bytes_eq other x.space then Some x.room else room_at rs other)
    go later true same c =
        let away : bytes_eq other x.space ≡ false = subst (λ (z : List ℕ). bytes_eq other z ≡ false) ((bytes_eq-Decides space x.space).0 same) e in
        rw (e, away) refl
    go later false off true = rw e refl
    go later false off false = ap (λ (o : Option RoomState). if bytes_eq other x.space then Some x.room else o) later

at_each : (f : RoomState → RoomState) (rs : List SpaceRoom) (space : List ℕ) → room_at (map (each_room f) rs) space ≡ option_map f (room_at rs space)
at_each f [] space = refl
at_each f (x ∷ rs) space = go (bytes_eq space x.space) (at_each f rs space)
  where
    go : (b : Bool) → room_at (map (each_room f) rs) space ≡ option_map f (room_at rs space) →
        (if b then Some (f x.room) else room_at (map (each_room f) rs) space) ≡ option_map f (if b then Some x.room else room_at rs space)
    go true h = refl
    go false h = h

-- a change that leaves the opening room as it is
each_room_of : (f : RoomState → RoomState) (rs : List SpaceRoom) (space : List ℕ) → f new_room ≡ new_room →
    unwrap_or (room_at (map (each_room f) rs) space) new_room ≡ f (unwrap_or (room_at rs space) new_room)
each_room_of f rs space keeps = ap (λ (o : Option RoomState). unwrap_or o new_room) (at_each f rs space) ∙ go (room_at rs space)
  where
    go : (o : Option RoomState) → unwrap_or (option_map f o) new_room ≡ f (unwrap_or o new_room)
    go None = sym keeps
    go (Some r) = refl

pub restart_room : (s : PlacementState) (now : ℕ) (space : List ℕ) → room_of (placement_restarted s now) space ≡ room_restarted (room_of s space) now
restart_room s now space = each_room_of (restarted now) s.rooms space refl

pub tick_room : (s : PlacementState) (now : ℕ) (space : List ℕ) → room_of (placement_step s events.Tick now).state space ≡ (room_step (room_of s space) events.Tick now).state
tick_room s now space = each_room_of (ticked now) s.rooms space refl

-- ---- an event of a member

-- the room of the space takes the step, and its reply is the placement's; or no room may be made, and nothing has changed
abbrev pub Enters : PlacementState → PlaceEvent → ℕ → List ℕ → PlacementStep → Type 0
Enters s e now space t =
    ((room_of t.state space ≡ (room_step (room_of s space) e now).state) × (t.reply ≡ (room_step (room_of s space) e now).reply)) ⊎ ((t.state ≡ s) × ((n : ℕ) × (t.reply ≡ replies.SpacesFull n)))

stepped_room : (s : PlacementState) (space : List ℕ) (room : RoomState) (e : PlaceEvent) (now : ℕ) → room_at s.rooms space ≡ Some room →
    (room_of (with_room s space (room_step room e now).state) space ≡ (room_step (room_of s space) e now).state) × ((room_step room e now).reply ≡ (room_step (room_of s space) e now).reply)
stepped_room s space room e now is =
    let same : room_of s space ≡ room = ap (λ (o : Option RoomState). unwrap_or o new_room) is in (
      ap (λ (o : Option RoomState). unwrap_or o new_room) (at_put s.rooms space (room_step room e now).state) ∙ ap (λ (r : RoomState). (room_step r e now).state) (sym same),
      ap (λ (r : RoomState). (room_step r e now).reply) (sym same),
    )

no_room : (s : PlacementState) (space : List ℕ) → room_at s.rooms space ≡ None → room_of s space ≡ new_room
no_room s space is = ap (λ (o : Option RoomState). unwrap_or o new_room) is

enters : (s : PlacementState) (space : List ℕ) (e : PlaceEvent) (now : ℕ) → room_step new_room e now ≡ record { state = new_room; reply = replies.NotMember 0 } →
    (o : Option RoomState) → room_at s.rooms space ≡ o → Enters s e now space (in_room s space e now o)
enters s space e now stranger None is =
    let none = no_room s space is in
    inl (
      none ∙ sym (ap (λ (t : RoomStep). t.state) stranger) ∙ ap (λ (r : RoomState). (room_step r e now).state) (sym none),
      sym (ap (λ (t : RoomStep). t.reply) stranger) ∙ ap (λ (r : RoomState). (room_step r e now).reply) (sym none),
    )
enters s space e now stranger (Some room) is = inl (stepped_room s space room e now is)

-- a Register of boot 0 is refused by the opening room
unbooted : (host : HostInfo) (now : ℕ) → host.member.boot ≡ 0 → room_step new_room (events.Register host) now ≡ record { state = new_room; reply = replies.StaleBoot 0 }
unbooted host now e = rw e refl

joins : (s : PlacementState) (host : HostInfo) (now : ℕ) (o : Option RoomState) → room_at s.rooms host.member.space ≡ o → Enters s (events.Register host) now host.member.space (joins_room s host now o)
joins s host now (Some room) is = inl (stepped_room s host.member.space room (events.Register host) now is)
joins s host now None is =
    cond_both (nat_le most_spaces (length s.rooms)) _ _ (Enters s (events.Register host) now host.member.space)
    (λ _. inr (refl, (length s.rooms, refl)))
    (λ _. cond_both (host.member.boot == 0) _ _ (Enters s (events.Register host) now host.member.space)
    (λ z.
    let t = unbooted host now (eqb-true host.member.boot 0 z) in
    inl (
      none ∙ sym (ap (λ (x : RoomStep). x.state) t) ∙ ap (λ (r : RoomState). (room_step r (events.Register host) now).state) (sym none),
      sym (ap (λ (x : RoomStep). x.reply) t) ∙ ap (λ (r : RoomState). (room_step r (events.Register host) now).reply) (sym none),
    ))
    (λ _.
    let made = (room_step new_room (events.Register host) now).state in
    inl (
      ap (λ (x : Option RoomState). unwrap_or x new_room) (at_put s.rooms host.member.space made) ∙ ap (λ (r : RoomState). (room_step r (events.Register host) now).state) (sym none),
      ap (λ (r : RoomState). (room_step r (events.Register host) now).reply) (sym none),
    )))
  where
    none : room_of s host.member.space ≡ new_room
    none = no_room s host.member.space is

pub own_room : (s : PlacementState) (e : PlaceEvent) (now : ℕ) (space : List ℕ) → event_space e ≡ Some space → Enters s e now space (placement_step s e now)
own_room s (events.Register host) now space is = let h : host.member.space ≡ space = cc in subst (λ (z : List ℕ). Enters s (events.Register host) now z (placement_step s (events.Register host) now)) h (joins s host now _ refl)
own_room s (events.Beat m) now space is = let h : m.space ≡ space = cc in subst (λ (z : List ℕ). Enters s (events.Beat m) now z (placement_step s (events.Beat m) now)) h (enters s m.space (events.Beat m) now refl _ refl)
own_room s (events.Ack m stage version) now space is =
    let h : m.space ≡ space = cc in subst (λ (z : List ℕ). Enters s (events.Ack m stage version) now z (placement_step s (events.Ack m stage version) now)) h (enters s m.space (events.Ack m stage version) now refl _ refl)
own_room s (events.Leave m) now space is = let h : m.space ≡ space = cc in subst (λ (z : List ℕ). Enters s (events.Leave m) now z (placement_step s (events.Leave m) now)) h (enters s m.space (events.Leave m) now refl _ refl)
own_room s (events.Lost m) now space is = let h : m.space ≡ space = cc in subst (λ (z : List ℕ). Enters s (events.Lost m) now z (placement_step s (events.Lost m) now)) h (enters s m.space (events.Lost m) now refl _ refl)
own_room s events.Tick now space is = absurd (cc)
own_room s events.Look now space is = absurd (cc)

-- the room of any other space is as before
abbrev Leaves : PlacementState → List ℕ → PlacementStep → Type 0
Leaves s other t = room_of t.state other ≡ room_of s other

put_leaves : (s : PlacementState) (space other : List ℕ) (r : RoomState) → bytes_eq other space ≡ false → room_of (with_room s space r) other ≡ room_of s other
put_leaves s space other r e = ap (λ (o : Option RoomState). unwrap_or o new_room) (at_put_other s.rooms space other r e)

leaves : (s : PlacementState) (space other : List ℕ) (e : PlaceEvent) (now : ℕ) (o : Option RoomState) → bytes_eq other space ≡ false → Leaves s other (in_room s space e now o)
leaves s space other e now None away = refl
leaves s space other e now (Some room) away = put_leaves s space other _ away

joins_leaves : (s : PlacementState) (host : HostInfo) (now : ℕ) (other : List ℕ) (o : Option RoomState) → bytes_eq other host.member.space ≡ false → Leaves s other (joins_room s host now o)
joins_leaves s host now other (Some room) away = put_leaves s host.member.space other _ away
joins_leaves s host now other None away =
    cond_both (nat_le most_spaces (length s.rooms)) _ _ (Leaves s other)
    (λ _. refl)
    (λ _. cond_both (host.member.boot == 0) _ _ (Leaves s other) (λ _. refl) (λ _. put_leaves s host.member.space other _ away))

pub other_room : (s : PlacementState) (e : PlaceEvent) (now : ℕ) (space other : List ℕ) → event_space e ≡ Some space → bytes_eq other space ≡ false → Leaves s other (placement_step s e now)
other_room s (events.Register host) now space other is away = let h : host.member.space ≡ space = cc in joins_leaves s host now other _ (subst (λ (z : List ℕ). bytes_eq other z ≡ false) (sym h) away)
other_room s (events.Beat m) now space other is away = let h : m.space ≡ space = cc in leaves s m.space other (events.Beat m) now _ (subst (λ (z : List ℕ). bytes_eq other z ≡ false) (sym h) away)
other_room s (events.Ack m stage version) now space other is away =
    let h : m.space ≡ space = cc in leaves s m.space other (events.Ack m stage version) now _ (subst (λ (z : List ℕ). bytes_eq other z ≡ false) (sym h) away)
other_room s (events.Leave m) now space other is away = let h : m.space ≡ space = cc in leaves s m.space other (events.Leave m) now _ (subst (λ (z : List ℕ). bytes_eq other z ≡ false) (sym h) away)
other_room s (events.Lost m) now space other is away = let h : m.space ≡ space = cc in leaves s m.space other (events.Lost m) now _ (subst (λ (z : List ℕ). bytes_eq other z ≡ false) (sym h) away)
other_room s events.Tick now space other is away = absurd (cc)
other_room s events.Look now space other is away = absurd (cc)

late_among : (now : ℕ) (space : List ℕ) (m : Member) (rs : List SpaceRoom) → In m (late_of (unwrap_or (room_at rs space) new_room).members now) → In m (late_in rs now)
late_among now space m [] i = absurd i
late_among now space m (r ∷ rs) i = pick (late_among now space m rs) (bytes_eq space r.space) i
  where
    pick : (In m (late_of (unwrap_or (room_at rs space) new_room).members now) → In m (late_in rs now)) → (b : Bool) →
        In m (late_of (unwrap_or (if b then Some r.room else room_at rs space) new_room).members now) → In m (late_in (r ∷ rs) now)
    pick later true k = In-left (late_of r.room.members now) (late_in rs now) m k
    pick later false k = In-right (late_of r.room.members now) (late_in rs now) m (later k)

-- a member that is late in a room is late in the placement
pub late_room : (s : PlacementState) (now : ℕ) (space : List ℕ) (m : Member) → In m (late_of (room_of s space).members now) → In m (late_in s.rooms now)
late_room s now space m i = late_among now space m s.rooms i

-- whatever happens, the room of a space takes the step or is as before
pub room_after : (s : PlacementState) (e : PlaceEvent) (now : ℕ) (space : List ℕ) →
    (room_of (placement_step s e now).state space ≡ (room_step (room_of s space) e now).state) ⊎ (room_of (placement_step s e now).state space ≡ room_of s space)
room_after s e now space = go (event_space e) refl e refl
  where
    of_member : (home : List ℕ) → event_space e ≡ Some home →
        (room_of (placement_step s e now).state space ≡ (room_step (room_of s space) e now).state) ⊎ (room_of (placement_step s e now).state space ≡ room_of s space)
    of_member home is = elim (cases_Bool (bytes_eq space home)) [
      | inl own ↦ elim (own_room s e now space (is ∙ ap Some (sym ((bytes_eq-Decides space home).0 own)))) [
        | inl h ↦ inl h.0
        | inr h ↦ inr (ap (λ (t : PlacementState). room_of t space) h.0)
      ]
      | inr away ↦ inr (other_room s e now home space is away)
    ]

    go : (o : Option (List ℕ)) → event_space e ≡ o → (f : PlaceEvent) → e ≡ f →
        (room_of (placement_step s e now).state space ≡ (room_step (room_of s space) e now).state) ⊎ (room_of (placement_step s e now).state space ≡ room_of s space)
    go (Some home) is f same = of_member home is
    go None is events.Tick same = inl (subst (λ (x : PlaceEvent). room_of (placement_step s x now).state space ≡ (room_step (room_of s space) x now).state) (sym same) (tick_room s now space))
    go None is events.Look same = inr (subst (λ (x : PlaceEvent). room_of (placement_step s x now).state space ≡ room_of s space) (sym same) refl)
    go None is (events.Register host) same = absurd (let z = sym is ∙ ap event_space same in cc)
    go None is (events.Beat m) same = absurd (let z = sym is ∙ ap event_space same in cc)
    go None is (events.Ack m stage version) same = absurd (let z = sym is ∙ ap event_space same in cc)
    go None is (events.Leave m) same = absurd (let z = sym is ∙ ap event_space same in cc)
    go None is (events.Lost m) same = absurd (let z = sym is ∙ ap event_space same in cc)
