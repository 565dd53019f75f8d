-- The rooms of a placement, and its records, stay in the ranges of frames and payloads.
use Rattle.std.proofs.Common.{◌≡◌, ℕ, ◌≤◌, ◌^◌, Bool, true, false, not, ◌||◌, ◌&&◌, cond, List, [], ◌∷◌, ◌++◌, length, map, Option, None, Some, refl, sym, subst, arith, length-append}
use Rattle.std.specs.Prelude.{bytes_eq, nat_le, nat_lt, ◌==◌, is_some}
use Rattle.std.specs.List.{AllByRecursion}
use Rattle.std.proofs.lemmas.Bool.{cond_both}
use Rattle.std.proofs.lemmas.Slice.Eq.{bytes_eq-Decides}
use Rattle.actor_names.specs.declared.member.Member.{Member}
use Rattle.place_table.specs.declared.host.HostInfo.{HostInfo}
use Rattle.member_roster.specs.Members.{Joined, is_before, is_here, without_node, removes_all}
use Rattle.round_core.specs.declared.event.PlaceEvent.{PlaceEvent}
use Rattle.round_core.specs.declared.event.PlaceEvent.TheVariants as events
use Rattle.round_core.specs.declared.event.PlaceReply.TheVariants as replies
use Rattle.round_core.specs.Room.{RoomState, new_room, with_joined, apply_membership, room_step, room_restarted}
use Rattle.round_core.specs.Records.{RecordOf, changes_record, step_record, restart_record, may_join, after_join, after_removal, at_version, after_record}
use Rattle.wire_fields.specs.Fields.{AllFit, MaybeFits, number16, in_any_order}
use Rattle.wire_fields.specs.Parts.{space_name, counter}
use Rattle.placement_payloads.specs.Payloads.{local_member, local_host, change, entry}
use Rattle.placement_core.specs.Entries.{EntryOf, has_entry, noted, each_record, tick_record, restarted_record, room_entries, join_entries, placement_record, placement_restart_record}
use Rattle.placement_core.specs.Placement.{SpaceRoom, PlacementState, most_spaces, room_at, put_room, each_room, refused, room_stepped, in_room, joins_room, ticked, restarted, placement_step, placement_restarted}
use Rattle.placement_core.specs.Restores.{put_found, after_change, after_entry, after_entries, and_on}
use Rattle.placement_node.specs.Ranges.{EventFits, RoomFits, RoomsFit, StateFits, RecordFits}
use Rattle.placement_node.specs.Records.{spelled_entry}
use Rattle.placement_node.proofs.Fits.{host_is_local, member_is_local, IsOf, JoinFits, EventIn, room_left, joined_fits, without_of, without_few, apply_fits, step_fits, new_fits, restarted_fits}

-- ---- the rooms

put_fits : (rs : List SpaceRoom) (space : List ℕ) (room : RoomState) → space_name.Fits space → RoomFits space room → RoomsFit rs → RoomsFit (put_room rs space room)
put_fits [] space room named here fits = ((named, here), tt)
put_fits (r ∷ rs) space room named here fits = cond_both (bytes_eq space r.space) (record { space = space; room = room } ∷ rs) (cond (is_before space r.space) (record { space = space; room = room } ∷ r ∷ rs) (r ∷ put_room rs space room)) RoomsFit
    (λ e. ((named, here), fits.1))
    (λ e. cond_both (is_before space r.space) (record { space = space; room = room } ∷ r ∷ rs) (r ∷ put_room rs space room) RoomsFit
    (λ f. ((named, here), fits))
    (λ f. (fits.0, put_fits rs space room named here fits.1)))

pub at_fits : (rs : List SpaceRoom) (space : List ℕ) (room : RoomState) → RoomsFit rs → room_at rs space ≡ Some room → RoomFits space room
at_fits [] space room fits is = absurd cc
at_fits (r ∷ rs) space room fits is = go (at_fits rs space room fits.1) (bytes_eq space r.space) refl is
  where
    go : (room_at rs space ≡ Some room → RoomFits space room) → (b : Bool) → bytes_eq space r.space ≡ b → cond b (Some r.room) (room_at rs space) ≡ Some room → RoomFits space room
    go ih true same is =
        let here : r.room ≡ room = cc in
        subst (λ (s : RoomState). RoomFits space s) here (subst (λ (x : List ℕ). RoomFits x r.room) (sym ((bytes_eq-Decides space r.space).0 same)) fits.0.1)
    go ih false same is = ih is

each_fits : (f : RoomState → RoomState) (rs : List SpaceRoom) → ((space : List ℕ) (s : RoomState) → RoomFits space s → RoomFits space (f s)) → RoomsFit rs → RoomsFit (map (each_room f) rs)
each_fits f [] keeps fits = tt
each_fits f (r ∷ rs) keeps fits = ((fits.0.0, keeps r.space r.room fits.0.1), each_fits f rs keeps fits.1)

-- the step of a member, in the room of its space
in_fits : (s : PlacementState) (space : List ℕ) (event : PlaceEvent) (now : ℕ) → space_name.Fits space → EventIn space event → StateFits s → StateFits (in_room s space event now (room_at s.rooms space)).state
in_fits s space event now named here fits = go (room_at s.rooms space) refl
  where
    go : (o : Option RoomState) → room_at s.rooms space ≡ o → StateFits (in_room s space event now o).state
    go None is = fits
    go (Some room) is = put_fits s.rooms space (room_step room event now).state named (step_fits space room (at_fits s.rooms space room fits is) event now here) fits

joins_fits : (s : PlacementState) (h : HostInfo) (now : ℕ) → space_name.Fits h.member.space → (local_host h.member.space).Fits h → StateFits s → StateFits (joins_room s h now (room_at s.rooms h.member.space)).state
joins_fits s h now named here fits = go (room_at s.rooms h.member.space) refl
  where
    made : (b c : Bool) → StateFits (cond b (refused s (replies.SpacesFull (length s.rooms))) (cond c (refused s (replies.StaleBoot 0)) (room_stepped s h.member.space (room_step new_room (events.Register h) now)))).state
    made true c = fits
    made false true = fits
    made false false = put_fits s.rooms h.member.space (room_step new_room (events.Register h) now).state named (step_fits h.member.space new_room (new_fits h.member.space) (events.Register h) now here) fits

    go : (o : Option RoomState) → room_at s.rooms h.member.space ≡ o → StateFits (joins_room s h now o).state
    go None is = made (nat_le most_spaces (length s.rooms)) (h.member.boot == 0)
    go (Some room) is = put_fits s.rooms h.member.space (room_step room (events.Register h) now).state named (step_fits h.member.space room (at_fits s.rooms h.member.space room fits is) (events.Register h) now here) fits

-- what a placement keeps stays in its ranges
pub state_fits : (s : PlacementState) (event : PlaceEvent) (now : ℕ) → EventFits event → StateFits s → StateFits (placement_step s event now).state
state_fits s (events.Register h) now event fits = let local = host_is_local h event in joins_fits s h now local.0 local.1 fits
state_fits s (events.Beat m) now event fits = in_fits s m.space (events.Beat m) now (member_is_local m event).0 tt fits
state_fits s (events.Ack m stage version) now event fits = in_fits s m.space (events.Ack m stage version) now (member_is_local m event).0 tt fits
state_fits s (events.Leave m) now event fits = let local = member_is_local m event in in_fits s m.space (events.Leave m) now local.0 local.1 fits
state_fits s (events.Lost m) now event fits = let local = member_is_local m event in in_fits s m.space (events.Lost m) now local.0 local.1 fits
state_fits s events.Tick now event fits = each_fits (ticked now) s.rooms (λ space room here. step_fits space room here events.Tick now tt) fits
state_fits s events.Look now event fits = fits

pub restart_fits : (rs : List SpaceRoom) (now : ℕ) → RoomsFit rs → StateFits (placement_restarted (record { rooms = rs }) now)
restart_fits rs now fits = each_fits (restarted now) rs (λ space room here. restarted_fits space room now here) fits

-- ---- records

all_fit : (space : List ℕ) (before : Option Member) (ms : List Member) → AllByRecursion (local_member space).Fits ms → AllFit (in_any_order (local_member space)) before ms
all_fit space before [] all = tt
all_fit space before (m ∷ ms) all = (all.0, all_fit space (Some m) ms all.1)

all_fitted : (space : List ℕ) (before : Option Member) (ms : List Member) → AllFit (in_any_order (local_member space)) before ms → AllByRecursion (local_member space).Fits ms
all_fitted space before [] all = tt
all_fitted space before (m ∷ ms) all = (all.0, all_fitted space (Some m) ms all.1)

-- an entry that can be spelled
entry_fits : (space : List ℕ) (joined : Option HostInfo) (removed : List Member) (next : ℕ) → space_name.Fits space → JoinFits space joined → AllByRecursion (local_member space).Fits removed → length removed ≤ 256 → counter.Fits next → entry.Fits (space, record { joined = joined; removed = removed; next_version = next })
unfolding entry change number16
entry_fits space None removed next named joins all few version = (named, (tt, ((omega arith, all_fit space None removed all), version)))
entry_fits space (Some h) removed next named joins all few version = (named, (joins, ((omega arith, all_fit space None removed all), version)))

changes_some : (joined : Option HostInfo) (removed : List Member) (before after : ℕ) (c : RecordOf) → changes_record joined removed before after ≡ Some c → record { joined = joined; removed = removed; next_version = after } ≡ c
changes_some joined removed before after c is = go (is_some joined || (nat_lt 0 (length removed) || not (after == before))) is
  where
    go : (b : Bool) → cond b (Some (record { joined = joined; removed = removed; next_version = after })) None ≡ Some c → record { joined = joined; removed = removed; next_version = after } ≡ c
    go true is = cc
    go false is = absurd (let e : None ≡ Some c = is in cc)

abbrev EntryFits : List ℕ → RecordOf → Type 0
EntryFits space c = entry.Fits (space, c)

step_entry : (space : List ℕ) (s : RoomState) (event : PlaceEvent) (now : ℕ) (c : RecordOf) → space_name.Fits space → EventIn space event → RoomFits space s → step_record s event now ≡ Some c → EntryFits space c
step_entry space s event now c named here fits is =
    let change_ = apply_membership s event now in
    let after = room_step s event now in
    let fit = apply_fits space s fits event now here in
    subst (EntryFits space) (changes_some change_.joined change_.removed s.next_version after.state.next_version c is)
    (entry_fits space change_.joined change_.removed after.state.next_version named fit.joined fit.removed fit.few (step_fits space s fits event now here).version)

restart_entry : (space : List ℕ) (s : RoomState) (now : ℕ) (c : RecordOf) → space_name.Fits space → RoomFits space s → restart_record s now ≡ Some c → EntryFits space c
restart_entry space s now c named fits is =
    subst (EntryFits space) (changes_some None [] s.next_version (room_restarted s now).next_version c is)
    (entry_fits space None [] (room_restarted s now).next_version named tt tt (omega arith) (restarted_fits space s now fits).version)

abbrev EntriesFit : List EntryOf → Type 0
EntriesFit es = AllByRecursion (λ e. entry.Fits (spelled_entry e)) es

noted_fits : (space : List ℕ) (o : Option RecordOf) → ((c : RecordOf) → o ≡ Some c → EntryFits space c) → EntriesFit (noted space o) × (length (noted space o) ≤ 1)
noted_fits space None each = (tt, omega arith)
noted_fits space (Some c) each = ((each c refl, tt), omega arith)

all_append : (xs ys : List EntryOf) → EntriesFit xs → EntriesFit ys → EntriesFit (xs ++ ys)
all_append [] ys all more = more
all_append (x ∷ xs) ys all more = (all.0, all_append xs ys all.1 more)

each_fit : (f : RoomState → Option RecordOf) (rs : List SpaceRoom) → ((space : List ℕ) (s : RoomState) (c : RecordOf) → space_name.Fits space → RoomFits space s → f s ≡ Some c → EntryFits space c) → RoomsFit rs → EntriesFit (each_record f rs) × (length (each_record f rs) ≤ length rs)
each_fit f [] keeps fits = (tt, omega arith)
each_fit f (r ∷ rs) keeps fits =
    let one = noted_fits r.space (f r.room) (λ c is. keeps r.space r.room c fits.0.0 fits.0.1 is) in
    let more = each_fit f rs keeps fits.1 in
    (all_append (noted r.space (f r.room)) (each_record f rs) one.0 more.0, omega (arith, length-append (noted r.space (f r.room)) (each_record f rs), one.1, more.1))

one_fits : (es : List EntryOf) → EntriesFit es × (length es ≤ 1) → RecordFits es
one_fits es fits = record { few = omega (arith, fits.1); each = fits.0 }

room_fits : (s : PlacementState) (space : List ℕ) (event : PlaceEvent) (now : ℕ) → space_name.Fits space → EventIn space event → StateFits s → RecordFits (room_entries space event now (room_at s.rooms space))
room_fits s space event now named here fits = go (room_at s.rooms space) refl
  where
    go : (o : Option RoomState) → room_at s.rooms space ≡ o → RecordFits (room_entries space event now o)
    go None is = record { few = omega arith; each = tt }
    go (Some room) is = one_fits (noted space (step_record room event now)) (noted_fits space (step_record room event now) (λ c some. step_entry space room event now c named here (at_fits s.rooms space room fits is) some))

join_fits : (s : PlacementState) (h : HostInfo) (now : ℕ) → space_name.Fits h.member.space → (local_host h.member.space).Fits h → StateFits s → RecordFits (join_entries s h now (room_at s.rooms h.member.space))
join_fits s h now named here fits = go (room_at s.rooms h.member.space) refl
  where
    in_new : RecordFits (noted h.member.space (step_record new_room (events.Register h) now))
    in_new = one_fits (noted h.member.space (step_record new_room (events.Register h) now)) (noted_fits h.member.space (step_record new_room (events.Register h) now) (λ c some. step_entry h.member.space new_room (events.Register h) now c named here (new_fits h.member.space) some))

    made : (b c : Bool) → RecordFits (cond b [] (cond c [] (noted h.member.space (step_record new_room (events.Register h) now))))
    made true c = record { few = omega arith; each = tt }
    made false true = record { few = omega arith; each = tt }
    made false false = in_new

    go : (o : Option RoomState) → room_at s.rooms h.member.space ≡ o → RecordFits (join_entries s h now o)
    go None is = made (nat_le most_spaces (length s.rooms)) (h.member.boot == 0)
    go (Some room) is = one_fits (noted h.member.space (step_record room (events.Register h) now)) (noted_fits h.member.space (step_record room (events.Register h) now) (λ c some. step_entry h.member.space room (events.Register h) now c named here (at_fits s.rooms h.member.space room fits is) some))

-- what a step has to record can be spelled
pub record_fits : (s : PlacementState) (event : PlaceEvent) (now : ℕ) → EventFits event → StateFits s → length s.rooms ≤ 64 → RecordFits (placement_record s event now)
record_fits s (events.Register h) now event fits few = let local = host_is_local h event in join_fits s h now local.0 local.1 fits
record_fits s (events.Beat m) now event fits few = room_fits s m.space (events.Beat m) now (member_is_local m event).0 tt fits
record_fits s (events.Ack m stage version) now event fits few = room_fits s m.space (events.Ack m stage version) now (member_is_local m event).0 tt fits
record_fits s (events.Leave m) now event fits few = let local = member_is_local m event in room_fits s m.space (events.Leave m) now local.0 local.1 fits
record_fits s (events.Lost m) now event fits few = let local = member_is_local m event in room_fits s m.space (events.Lost m) now local.0 local.1 fits
record_fits s events.Tick now event fits few =
    let each = each_fit (tick_record now) s.rooms (λ space room c named here is. step_entry space room events.Tick now c named tt here is) fits in
    record { few = omega (arith, each.1); each = each.0 }
record_fits s events.Look now event fits few = record { few = omega arith; each = tt }

pub restart_record_fits : (rs : List SpaceRoom) (now : ℕ) → RoomsFit rs → length rs ≤ 64 → RecordFits (placement_restart_record (record { rooms = rs }) now)
restart_record_fits rs now fits few =
    let each = each_fit (restarted_record now) rs (λ space room c named here is. restart_entry space room now c named here is) fits in
    record { few = omega (arith, each.1); each = each.0 }

-- ---- records that are read

-- the parts of an entry that fits
pub record EntryParts (space : List ℕ) (c : RecordOf) : Type 0 where
  pub named : space_name.Fits space
  pub joined : JoinFits space c.joined
  pub version : counter.Fits c.next_version

joins_of : (space : List ℕ) (c : RecordOf) (joined : Option HostInfo) → c.joined ≡ joined → entry.Fits (space, c) → JoinFits space joined
unfolding entry change
joins_of space c None is fits = tt
joins_of space c (Some h) is fits = subst (λ (o : Option HostInfo). MaybeFits (local_host space).Fits o) is fits.1.0

entry_parts : (space : List ℕ) (c : RecordOf) → entry.Fits (space, c) → EntryParts space c
unfolding entry change
entry_parts space c fits = record { named = fits.0; joined = joins_of space c c.joined refl fits; version = fits.1.1.1 }

removes_fit : (space : List ℕ) (js ks : List Joined) (ms : List Member) → AllByRecursion (IsOf space) js → removes_all js ms ≡ Some ks → AllByRecursion (IsOf space) ks × (length ks ≤ length js)
removes_fit space js ks [] all is = let same : js ≡ ks = cc in subst (λ (l : List Joined). AllByRecursion (IsOf space) l × (length l ≤ length js)) same (all, omega arith)
removes_fit space js ks (m ∷ ms) all is = go (removes_fit space (without_node js m.node) ks ms (without_of space js m.node all)) (is_here js m) is
  where
    go : (removes_all (without_node js m.node) ms ≡ Some ks → AllByRecursion (IsOf space) ks × (length ks ≤ length (without_node js m.node))) → (b : Bool) → cond b (removes_all (without_node js m.node) ms) None ≡ Some ks → AllByRecursion (IsOf space) ks × (length ks ≤ length js)
    go ih true is =
        let more = ih is in
        (more.0, omega (arith, more.1, without_few js m.node))
    go ih false is = absurd (let e : None ≡ Some ks = is in cc)

after_join_fits : (space : List ℕ) (s t : RoomState) (joined : Option HostInfo) → RoomFits space s → JoinFits space joined → after_join s joined ≡ Some t → RoomFits space t
after_join_fits space s t None fits joins is = let same : s ≡ t = cc in subst (RoomFits space) same fits
after_join_fits space s t (Some h) fits joins is = go (may_join s h) refl is
  where
    full : (a b c : Bool) → (a && (b && not c)) ≡ true → c ≡ false
    full true true true is = absurd (let e : false ≡ true = is in cc)
    full true true false is = refl
    full true false c is = absurd (let e : false ≡ true = is in cc)
    full false b c is = absurd (let e : false ≡ true = is in cc)

    go : (b : Bool) → may_join s h ≡ b → cond b (Some (with_joined s h 0)) None ≡ Some t → RoomFits space t
    go true may is = let same : with_joined s h 0 ≡ t = cc in subst (RoomFits space) same (joined_fits space s fits h 0 joins (room_left space s fits h.member.node (full _ _ _ may)))
    go false may is = absurd (let e : None ≡ Some t = is in cc)

at_version_fits : (space : List ℕ) (next : ℕ) (o : Option RoomState) (t : RoomState) → ((s : RoomState) → o ≡ Some s → RoomFits space s) → counter.Fits next → at_version next o ≡ Some t → RoomFits space t
at_version_fits space next None t fits version is = absurd (let e : None ≡ Some t = is in cc)
at_version_fits space next (Some s) t fits version is =
    let same : record s { next_version = next } ≡ t = cc in
    let here = fits s refl in
    subst (RoomFits space) same (record { members = here.members; few = here.few; table = here.table; few_hosts = here.few_hosts; boots = here.boots; version = version })

removal_fits : (space : List ℕ) (s t : RoomState) (joined : Option HostInfo) (o : Option (List Joined)) → RoomFits space s → JoinFits space joined → ((ks : List Joined) → o ≡ Some ks → AllByRecursion (IsOf space) ks × (length ks ≤ length s.members)) → after_removal s joined o ≡ Some t → RoomFits space t
removal_fits space s t joined None fits joins left is = absurd (let e : None ≡ Some t = is in cc)
removal_fits space s t joined (Some ks) fits joins left is =
    let kept = left ks refl in
    after_join_fits space (record s { members = ks }) t joined (record { members = kept.0; few = omega (arith, kept.1, fits.few); table = fits.table; few_hosts = fits.few_hosts; boots = fits.boots; version = fits.version }) joins is

after_fits : (space : List ℕ) (s t : RoomState) (c : RecordOf) → RoomFits space s → EntryParts space c → after_record s c ≡ Some t → RoomFits space t
after_fits space s t c fits parts is = go (nat_lt c.next_version s.next_version || nat_lt (2 ^ 62) c.next_version) is
  where
    go : (b : Bool) → cond b None (at_version c.next_version (after_removal s c.joined (removes_all s.members c.removed))) ≡ Some t → RoomFits space t
    go true is = absurd (let e : None ≡ Some t = is in cc)
    go false is = at_version_fits space c.next_version (after_removal s c.joined (removes_all s.members c.removed)) t
        (λ u some. removal_fits space s u c.joined (removes_all s.members c.removed) fits parts.joined (λ ks left. removes_fit space s.members ks c.removed fits.members left) some)
        parts.version is

found_fits : (rs ts : List SpaceRoom) (space : List ℕ) (o : Option RoomState) → space_name.Fits space → RoomsFit rs → ((t : RoomState) → o ≡ Some t → RoomFits space t) → put_found rs space o ≡ Some ts → RoomsFit ts
found_fits rs ts space None named fits here is = absurd (let e : None ≡ Some ts = is in cc)
found_fits rs ts space (Some room) named fits here is = let same : put_room rs space room ≡ ts = cc in subst RoomsFit same (put_fits rs space room named (here room refl) fits)

change_fits : (rs ts : List SpaceRoom) (e : EntryOf) → RoomsFit rs → EntryParts e.space e.change → after_entry rs e ≡ Some ts → RoomsFit ts
change_fits rs ts e fits parts is = go (room_at rs e.space) refl is
  where
    in_new : (b : Bool) → cond b None (put_found rs e.space (after_record new_room e.change)) ≡ Some ts → RoomsFit ts
    in_new true is = absurd (let no : None ≡ Some ts = is in cc)
    in_new false is = found_fits rs ts e.space (after_record new_room e.change) parts.named fits (λ t some. after_fits e.space new_room t e.change (new_fits e.space) parts some) is

    go : (o : Option RoomState) → room_at rs e.space ≡ o → after_change rs e o ≡ Some ts → RoomsFit ts
    go None at is = in_new (nat_le most_spaces (length rs)) is
    go (Some room) at is = found_fits rs ts e.space (after_record room e.change) parts.named fits (λ t some. after_fits e.space room t e.change (at_fits rs e.space room fits at) parts some) is

-- the rooms after a record that can be spelled
pub entries_fit : (rs ts : List SpaceRoom) (es : List EntryOf) → RoomsFit rs → EntriesFit es → after_entries rs es ≡ Some ts → RoomsFit ts
entries_fit rs ts [] fits each is = let same : rs ≡ ts = cc in subst RoomsFit same fits
entries_fit rs ts (e ∷ es) fits each is = go (λ us here more. entries_fit us ts es here each.1 more) (has_entry es e.space) is
  where
    next : ((us : List SpaceRoom) → RoomsFit us → after_entries us es ≡ Some ts → RoomsFit ts) → (o : Option (List SpaceRoom)) → after_entry rs e ≡ o → and_on o (λ us. after_entries us es) ≡ Some ts → RoomsFit ts
    next ih None at is = absurd (let no : None ≡ Some ts = is in cc)
    next ih (Some us) at is = ih us (change_fits rs us e fits (entry_parts e.space e.change each.0) at) is

    go : ((us : List SpaceRoom) → RoomsFit us → after_entries us es ≡ Some ts → RoomsFit ts) → (b : Bool) → cond b None (and_on (after_entry rs e) (λ us. after_entries us es)) ≡ Some ts → RoomsFit ts
    go ih true is = absurd (let no : None ≡ Some ts = is in cc)
    go ih false is = next ih (after_entry rs e) refl is
