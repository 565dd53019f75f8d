-- The records of a run name the next version of each of its rooms.
use Rattle.std.proofs.Common.{◌≡◌, ℕ, ◌+◌, ◌≤◌, Bool, true, false, not, ◌||◌, cond, List, [], ◌∷◌, ◌++◌, length, map, Option, None, Some, Ok, Err, refl, sym, ap, ◌∙◌, subst, arith}
use Rattle.std.specs.Prelude.{bytes_eq, nat_le, nat_lt, is_some, option_map, ◌==◌}
use Rattle.std.specs.declared.cmp.Ordering.{Ordering}
use Rattle.std.specs.declared.cmp.Ordering.TheVariants.{Less, Equal, Greater}
use Rattle.std.proofs.lemmas.Bool.{eqb-true, leb-true, eq-eqb, or_parts}
use Rattle.std.proofs.lemmas.Cmp.{nat_list_cmp_total}
use Rattle.std.proofs.lemmas.Slice.Eq.{bytes_eq-Decides}
use Rattle.actor_names.specs.declared.member.Member.{Member}
use Rattle.place_table.specs.declared.host.HostInfo.{HostInfo}
use Rattle.member_roster.specs.Members.{removes_all}
use Rattle.member_roster.specs.Places.{IsBelowAll, Ascends}
use Rattle.member_roster.proofs.Places.{cmp, greater, less, same_texts, before_texts}
use Rattle.round_core.specs.declared.event.PlaceEvent.{PlaceEvent}
use Rattle.round_core.specs.declared.event.PlaceEvent.TheVariants as events
use Rattle.round_core.specs.declared.event.PlaceReply.TheVariants as replies
use Rattle.round_core.specs.Room.{RoomState, version_limit, new_room, apply_membership, room_step, room_restarted}
use Rattle.round_core.specs.Records.{RecordOf, after_record, after_removal, at_version, changes_record, step_record}
use Rattle.round_core.specs.Runs.{RunEvent, Steps as Stepped, Restarts}
use Rattle.placement_core.specs.Entries.{EntryOf, noted, each_record, has_entry, room_entries, join_entries, tick_record, restarted_record}
use Rattle.placement_core.specs.Placement.{SpaceRoom, PlacementState, new_placement, most_spaces, room_at, put_room, each_room, ticked, restarted, in_room, joins_room, refused, room_stepped}
use Rattle.placement_core.specs.Restores.{put_found, after_change, after_entry, and_on, after_entries, go_on, rooms_after}
use Rattle.placement_core.specs.Runs.{space_of, state_after, record_after, and_then, run_state, run_records}
use Rattle.placement_node.proofs.Rising.{at_put}

-- ---- rooms in byte order of space

below_less : (a b : List ℕ) (rs : List SpaceRoom) → cmp a b ≡ Less → IsBelowAll space_of b rs → IsBelowAll space_of a rs
below_less a b [] lt below = tt
below_less a b (r ∷ rs) lt below = (let total = nat_list_cmp_total in total.trans a b r.space lt below.0, below_less a b rs lt below.1)

below_put : (a space : List ℕ) (room : RoomState) (rs : List SpaceRoom) → cmp a space ≡ Less → IsBelowAll space_of a rs → IsBelowAll space_of a (put_room rs space room)
below_put a space room [] lt below = (lt, tt)
below_put a space room (r ∷ rs) lt below = go (cmp r.space space) refl (below_put a space room rs lt below.1)
  where
    go : (o : Ordering) → cmp r.space space ≡ o → IsBelowAll space_of a (put_room rs space room) → IsBelowAll space_of a (put_room (r ∷ rs) space room)
    go Less o ih = rw (same_texts r.space space Less o, before_texts r.space space Less o) (below.0, ih)
    go Equal o ih = rw (same_texts r.space space Equal o) (lt, below.1)
    go Greater o ih = rw (same_texts r.space space Greater o, before_texts r.space space Greater o) (lt, below)

ascends_put : (space : List ℕ) (room : RoomState) (rs : List SpaceRoom) → Ascends space_of rs → Ascends space_of (put_room rs space room)
ascends_put space room [] order = (tt, tt)
ascends_put space room (r ∷ rs) order = go (cmp r.space space) refl (ascends_put space room rs order.1)
  where
    go : (o : Ordering) → cmp r.space space ≡ o → Ascends space_of (put_room rs space room) → Ascends space_of (put_room (r ∷ rs) space room)
    go Less o ih = rw (same_texts r.space space Less o, before_texts r.space space Less o) (below_put r.space space room rs o order.0, ih)
    go Equal o ih =
        let same = same_texts r.space space Equal o in
        let is : r.space ≡ space = sym ((bytes_eq-Decides space r.space).0 same) in
        rw same (subst (λ (s : List ℕ). IsBelowAll space_of s rs) is order.0, order.1)
    go Greater o ih =
        let before = less r.space space o in
        rw (same_texts r.space space Greater o, before_texts r.space space Greater o) ((before, below_less space r.space rs before order.0), order)

below_each : (f : RoomState → RoomState) (a : List ℕ) (rs : List SpaceRoom) → IsBelowAll space_of a rs → IsBelowAll space_of a (map (each_room f) rs)
below_each f a [] below = tt
below_each f a (r ∷ rs) below = (below.0, below_each f a rs below.1)

ascends_each : (f : RoomState → RoomState) (rs : List SpaceRoom) → Ascends space_of rs → Ascends space_of (map (each_room f) rs)
ascends_each f [] order = tt
ascends_each f (r ∷ rs) order = (below_each f r.space rs order.0, ascends_each f rs order.1)

-- a space below all of them has no room
other_text : (a b : List ℕ) → cmp a b ≡ Less → bytes_eq a b ≡ false
other_text a b lt = same_texts b a Greater (greater a b lt)

absent : (space : List ℕ) (rs : List SpaceRoom) → IsBelowAll space_of space rs → room_at rs space ≡ None
absent space [] below = refl
absent space (r ∷ rs) below = ap (λ (b : Bool). cond b (Some r.room) (room_at rs space)) (other_text space r.space below.0) ∙ absent space rs below.1

-- and no entry
none_named : (f : RoomState → Option RecordOf) (space : List ℕ) (rs : List SpaceRoom) → IsBelowAll space_of space rs → has_entry (each_record f rs) space ≡ false
none_named f space [] below = refl
none_named f space (r ∷ rs) below = go (f r.room) (none_named f space rs below.1)
  where
    go : (o : Option RecordOf) → has_entry (each_record f rs) space ≡ false → has_entry (noted r.space o ++ each_record f rs) space ≡ false
    go None ih = ih
    go (Some c) ih = ap (λ (b : Bool). b || has_entry (each_record f rs) space) (other_text space r.space below.0) ∙ ih

in_order : (s : PlacementState) (space : List ℕ) (event : PlaceEvent) (now : ℕ) (o : Option RoomState) → Ascends space_of s.rooms → Ascends space_of (in_room s space event now o).state.rooms
in_order s space event now None order = order
in_order s space event now (Some room) order = ascends_put space (room_step room event now).state s.rooms order

joins_order : (s : PlacementState) (host : HostInfo) (now : ℕ) (o : Option RoomState) → Ascends space_of s.rooms → Ascends space_of (joins_room s host now o).state.rooms
joins_order s host now (Some room) order = ascends_put host.member.space (room_step room (events.Register host) now).state s.rooms order
joins_order s host now None order = go (nat_le most_spaces (length s.rooms)) (host.member.boot == 0)
  where
    go : (full zero : Bool) → Ascends space_of (cond full (refused s (replies.SpacesFull (length s.rooms))) (cond zero (refused s (replies.StaleBoot 0)) (room_stepped s host.member.space (room_step new_room (events.Register host) now)))).state.rooms
    go true zero = order
    go false true = order
    go false false = ascends_put host.member.space (room_step new_room (events.Register host) now).state s.rooms order

event_order : (s : PlacementState) (e : RunEvent) → Ascends space_of s.rooms → Ascends space_of (state_after s e).rooms
event_order s (Stepped (events.Register host) now) order = joins_order s host now (room_at s.rooms host.member.space) order
event_order s (Stepped (events.Beat m) now) order = in_order s m.space (events.Beat m) now (room_at s.rooms m.space) order
event_order s (Stepped (events.Ack m stage version) now) order = in_order s m.space (events.Ack m stage version) now (room_at s.rooms m.space) order
event_order s (Stepped (events.Leave m) now) order = in_order s m.space (events.Leave m) now (room_at s.rooms m.space) order
event_order s (Stepped (events.Lost m) now) order = in_order s m.space (events.Lost m) now (room_at s.rooms m.space) order
event_order s (Stepped events.Tick now) order = ascends_each (ticked now) s.rooms order
event_order s (Stepped events.Look now) order = order
event_order s (Restarts now) order = ascends_each (restarted now) s.rooms order

pub run_order : (s : PlacementState) (run : List RunEvent) → Ascends space_of s.rooms → Ascends space_of (run_state s run).rooms
run_order s [] order = order
run_order s (e ∷ run) order = run_order (state_after s e) run (event_order s e order)

-- ---- the next version of a space, and the one that entries name

abbrev next_of : RoomState → ℕ
next_of room = room.next_version

abbrev pub next_at : List SpaceRoom → List ℕ → Option ℕ
next_at rs q = option_map next_of (room_at rs q)

-- the next version that the entries name for the space, or else the one before them
abbrev pub entry_next : List EntryOf → List ℕ → Option ℕ → Option ℕ
entry_next [] q old = old
entry_next (e ∷ es) q old = cond (bytes_eq q e.space) (Some e.change.next_version) (entry_next es q old)

none_next : (es : List EntryOf) (q : List ℕ) (old : Option ℕ) → has_entry es q ≡ false → entry_next es q old ≡ old
none_next [] q old none = refl
none_next (e ∷ es) q old none =
    let parts = or_parts (bytes_eq q e.space) (has_entry es q) none in
    ap (λ (b : Bool). cond b (Some e.change.next_version) (entry_next es q old)) parts.0 ∙ none_next es q old parts.1

next_put : (rs : List SpaceRoom) (space : List ℕ) (room : RoomState) (q : List ℕ) → next_at (put_room rs space room) q ≡ cond (bytes_eq q space) (Some room.next_version) (next_at rs q)
next_put rs space room q = ap (option_map next_of) (at_put rs space room q) ∙ go (bytes_eq q space)
  where
    go : (b : Bool) → option_map next_of (cond b (Some room) (room_at rs q)) ≡ cond b (Some room.next_version) (option_map next_of (room_at rs q))
    go true = refl
    go false = refl

-- ---- entries that are followed

after_names : (s t : RoomState) (c : RecordOf) → after_record s c ≡ Some t → t.next_version ≡ c.next_version
after_names s t c is = go (nat_lt c.next_version s.next_version || nat_lt version_limit c.next_version) (after_removal s c.joined (removes_all s.members c.removed)) is
  where
    go : (b : Bool) (o : Option RoomState) → cond b None (at_version c.next_version o) ≡ Some t → t.next_version ≡ c.next_version
    go true o is = absurd (let e : None ≡ Some t = is in cc)
    go false None is = absurd (let e : None ≡ Some t = is in cc)
    go false (Some u) same =
        let e : Some (record u { next_version = c.next_version }) ≡ Some t = same in
        let f : record u { next_version = c.next_version } ≡ t = cc in
        sym (ap next_of f)

put_next : (ts us : List SpaceRoom) (e : EntryOf) (o : Option RoomState) → put_found ts e.space o ≡ Some us → ((t : RoomState) → o ≡ Some t → t.next_version ≡ e.change.next_version) → (q : List ℕ) → next_at us q ≡ cond (bytes_eq q e.space) (Some e.change.next_version) (next_at ts q)
put_next ts us e None is names q = absurd (let no : None ≡ Some us = is in cc)
put_next ts us e (Some t) is names q =
    let put : Some (put_room ts e.space t) ≡ Some us = is in
    let same : put_room ts e.space t ≡ us = cc in
    ap (λ (rs : List SpaceRoom). next_at rs q) (sym same) ∙ next_put ts e.space t q ∙ ap (λ (n : ℕ). cond (bytes_eq q e.space) (Some n) (next_at ts q)) (names t refl)

entry_followed : (ts us : List SpaceRoom) (e : EntryOf) (o : Option RoomState) → after_change ts e o ≡ Some us → (q : List ℕ) → next_at us q ≡ cond (bytes_eq q e.space) (Some e.change.next_version) (next_at ts q)
entry_followed ts us e (Some room) is q = put_next ts us e (after_record room e.change) is (λ t at. after_names room t e.change at) q
entry_followed ts us e None is q = go (nat_le most_spaces (length ts)) is
  where
    go : (b : Bool) → cond b None (put_found ts e.space (after_record new_room e.change)) ≡ Some us → next_at us q ≡ cond (bytes_eq q e.space) (Some e.change.next_version) (next_at ts q)
    go true is = absurd (let f : None ≡ Some us = is in cc)
    go false same = put_next ts us e (after_record new_room e.change) same (λ t at. after_names new_room t e.change at) q

last_named : (es : List EntryOf) (e : EntryOf) (q : List ℕ) (old : Option ℕ) → has_entry es e.space ≡ false → entry_next es q (cond (bytes_eq q e.space) (Some e.change.next_version) old) ≡ entry_next (e ∷ es) q old
last_named es e q old other = go (bytes_eq q e.space) refl
  where
    go : (b : Bool) → bytes_eq q e.space ≡ b → entry_next es q (cond b (Some e.change.next_version) old) ≡ cond b (Some e.change.next_version) (entry_next es q old)
    go false is = refl
    go true is = none_next es q (Some e.change.next_version) (ap (has_entry es) ((bytes_eq-Decides q e.space).0 is) ∙ other)

followed : (es : List EntryOf) (ts us : List SpaceRoom) → after_entries ts es ≡ Some us → (q : List ℕ) → next_at us q ≡ entry_next es q (next_at ts q)
followed [] ts us is q =
    let here : Some ts ≡ Some us = is in
    let same : ts ≡ us = cc in
    ap (λ (rs : List SpaceRoom). next_at rs q) (sym same)
followed (e ∷ es) ts us is q = go (λ vs more. followed es vs us more q) (has_entry es e.space) refl (after_entry ts e) refl is
  where
    go : ((vs : List SpaceRoom) → after_entries vs es ≡ Some us → next_at us q ≡ entry_next es q (next_at vs q)) → (b : Bool) → has_entry es e.space ≡ b → (o : Option (List SpaceRoom)) → after_entry ts e ≡ o → cond b None (and_on o (λ vs. after_entries vs es)) ≡ Some us → next_at us q ≡ entry_next (e ∷ es) q (next_at ts q)
    go ih true named o one more = absurd (let f : None ≡ Some us = more in cc)
    go ih false other None one more = absurd (let f : None ≡ Some us = more in cc)
    go ih false other (Some vs) one more = ih vs more ∙ ap (entry_next es q) (entry_followed ts vs e (room_at ts e.space) one q) ∙ last_named es e q (next_at ts q) other

-- ---- entries that a step or a restart leaves

-- a change that isn't recorded keeps the next version, and a record names it
abbrev pub Names : ℕ → ℕ → Option RecordOf → Type 0
Names before after None = after ≡ before
Names before after (Some c) = c.next_version ≡ after

change_names : (joined : Option HostInfo) (removed : List Member) (before after : ℕ) → Names before after (changes_record joined removed before after)
change_names joined removed before after = go (is_some joined) (nat_lt 0 (length removed)) (after == before) refl
  where
    go : (a b c : Bool) → (after == before) ≡ c → Names before after (cond (a || (b || not c)) (Some (record { joined = joined; removed = removed; next_version = after })) None)
    go true b c is = refl
    go false true c is = refl
    go false false true is = eqb-true after before is
    go false false false is = refl

step_names : (room : RoomState) (event : PlaceEvent) (now : ℕ) → Names room.next_version (room_step room event now).state.next_version (step_record room event now)
step_names room event now =
    let change = apply_membership room event now in
    change_names change.joined change.removed room.next_version (room_step room event now).state.next_version

restart_names : (room : RoomState) (now : ℕ) → Names room.next_version (room_restarted room now).next_version (restarted_record now room)
restart_names room now = change_names None [] room.next_version (room_restarted room now).next_version

put_noted : (rs : List SpaceRoom) (space : List ℕ) (room next : RoomState) (o : Option RecordOf) → room_at rs space ≡ Some room → Names room.next_version next.next_version o → (q : List ℕ) → next_at (put_room rs space next) q ≡ entry_next (noted space o) q (next_at rs q)
put_noted rs space room next (Some c) at names q = next_put rs space next q ∙ ap (λ (n : ℕ). cond (bytes_eq q space) (Some n) (next_at rs q)) (sym names)
put_noted rs space room next None at same q = next_put rs space next q ∙ go (bytes_eq q space) refl
  where
    go : (b : Bool) → bytes_eq q space ≡ b → cond b (Some next.next_version) (next_at rs q) ≡ next_at rs q
    go false is = refl
    go true is = ap (λ (n : ℕ). Some n) same ∙ sym (ap (next_at rs) ((bytes_eq-Decides q space).0 is) ∙ ap (option_map next_of) at)

in_noted : (s : PlacementState) (space : List ℕ) (event : PlaceEvent) (now : ℕ) (o : Option RoomState) → room_at s.rooms space ≡ o → (q : List ℕ) → next_at (in_room s space event now o).state.rooms q ≡ entry_next (room_entries space event now o) q (next_at s.rooms q)
in_noted s space event now None at q = refl
in_noted s space event now (Some room) at q = put_noted s.rooms space room (room_step room event now).state (step_record room event now) at (step_names room event now) q

not_below : (n : ℕ) → (n == 0) ≡ false → nat_le n 0 ≡ false
not_below n some = go (nat_le n 0) refl
  where
    go : (b : Bool) → nat_le n 0 ≡ b → nat_le n 0 ≡ false
    go true is = let few : n ≤ 0 = leb-true n 0 is in let zero : n ≡ 0 = omega arith in let none : (n == 0) ≡ true = eq-eqb n 0 zero in absurd (cc)
    go false is = is

-- a host with a boot above 0 joins a new room, and that is recorded
joined_record : (host : HostInfo) (now : ℕ) → (host.member.boot == 0) ≡ false → (c : RecordOf) × (step_record new_room (events.Register host) now ≡ Some c)
joined_record host now booted =
    let above = not_below host.member.boot booted in (
      record { joined = Some host; removed = []; next_version = (room_step new_room (events.Register host) now).state.next_version },
      rw above refl,
    )

joins_noted : (s : PlacementState) (host : HostInfo) (now : ℕ) (o : Option RoomState) → room_at s.rooms host.member.space ≡ o → (q : List ℕ) → next_at (joins_room s host now o).state.rooms q ≡ entry_next (join_entries s host now o) q (next_at s.rooms q)
joins_noted s host now (Some room) at q = put_noted s.rooms host.member.space room (room_step room (events.Register host) now).state (step_record room (events.Register host) now) at (step_names room (events.Register host) now) q
joins_noted s host now None at q = go (nat_le most_spaces (length s.rooms)) (host.member.boot == 0) refl
  where
    made : (o : Option RecordOf) → ((c : RecordOf) × (o ≡ Some c)) → Names 1 (room_step new_room (events.Register host) now).state.next_version o → next_at (put_room s.rooms host.member.space (room_step new_room (events.Register host) now).state) q ≡ entry_next (noted host.member.space o) q (next_at s.rooms q)
    made None some names = absurd (let no : None ≡ Some some.0 = some.1 in cc)
    made (Some c) some names = next_put s.rooms host.member.space (room_step new_room (events.Register host) now).state q ∙ ap (λ (n : ℕ). cond (bytes_eq q host.member.space) (Some n) (next_at s.rooms q)) (sym names)

    go : (full zero : Bool) → (host.member.boot == 0) ≡ zero → next_at (cond full (refused s (replies.SpacesFull (length s.rooms))) (cond zero (refused s (replies.StaleBoot 0)) (room_stepped s host.member.space (room_step new_room (events.Register host) now)))).state.rooms q ≡ entry_next (cond full [] (cond zero [] (noted host.member.space (step_record new_room (events.Register host) now)))) q (next_at s.rooms q)
    go true zero is = refl
    go false true is = refl
    go false false is = made (step_record new_room (events.Register host) now) (joined_record host now is) (step_names new_room (events.Register host) now)

each_noted : (f : RoomState → Option RecordOf) (g : RoomState → RoomState) → ((room : RoomState) → Names room.next_version (g room).next_version (f room)) → (rs : List SpaceRoom) → Ascends space_of rs → (q : List ℕ) → next_at (map (each_room g) rs) q ≡ entry_next (each_record f rs) q (next_at rs q)
each_noted f g names [] order q = refl
each_noted f g names (r ∷ rs) order q = go (bytes_eq q r.space) refl (f r.room) (names r.room) (each_noted f g names rs order.1 q)
  where
    go : (b : Bool) → bytes_eq q r.space ≡ b → (o : Option RecordOf) → Names r.room.next_version (g r.room).next_version o → next_at (map (each_room g) rs) q ≡ entry_next (each_record f rs) q (next_at rs q)
        → option_map next_of (cond b (Some (g r.room)) (room_at (map (each_room g) rs) q)) ≡ entry_next (noted r.space o ++ each_record f rs) q (option_map next_of (cond b (Some r.room) (room_at rs q)))
    go false other None named ih = ih
    go false other (Some c) named ih = ih ∙ ap (λ (b : Bool). cond b (Some c.next_version) (entry_next (each_record f rs) q (next_at rs q))) (sym other)
    go true same None named ih = ap (λ (n : ℕ). Some n) named ∙ sym (none_next (each_record f rs) q (Some r.room.next_version) (ap (has_entry (each_record f rs)) ((bytes_eq-Decides q r.space).0 same) ∙ none_named f r.space rs order.0))
    go true same (Some c) named ih = ap (λ (n : ℕ). Some n) (sym named) ∙ ap (λ (b : Bool). cond b (Some c.next_version) (entry_next (each_record f rs) q (Some r.room.next_version))) (sym same)

event_noted : (s : PlacementState) (e : RunEvent) → Ascends space_of s.rooms → (q : List ℕ) → next_at (state_after s e).rooms q ≡ entry_next (record_after s e) q (next_at s.rooms q)
event_noted s (Stepped (events.Register host) now) order q = joins_noted s host now (room_at s.rooms host.member.space) refl q
event_noted s (Stepped (events.Beat m) now) order q = in_noted s m.space (events.Beat m) now (room_at s.rooms m.space) refl q
event_noted s (Stepped (events.Ack m stage version) now) order q = in_noted s m.space (events.Ack m stage version) now (room_at s.rooms m.space) refl q
event_noted s (Stepped (events.Leave m) now) order q = in_noted s m.space (events.Leave m) now (room_at s.rooms m.space) refl q
event_noted s (Stepped (events.Lost m) now) order q = in_noted s m.space (events.Lost m) now (room_at s.rooms m.space) refl q
event_noted s (Stepped events.Tick now) order q = each_noted (tick_record now) (ticked now) (λ room. step_names room events.Tick now) s.rooms order q
event_noted s (Stepped events.Look now) order q = refl
event_noted s (Restarts now) order q = each_noted (restarted_record now) (restarted now) (λ room. restart_names room now) s.rooms order q

-- ---- a run

-- the rooms after the records of a run have the next versions of its last state
pub run_noted : (run : List RunEvent) (s : PlacementState) (ts us : List SpaceRoom) (at : ℕ) → Ascends space_of s.rooms → ((q : List ℕ) → next_at ts q ≡ next_at s.rooms q) → rooms_after at ts (run_records s run) ≡ Ok us → (q : List ℕ) → next_at us q ≡ next_at (run_state s run).rooms q
run_noted [] s ts us at order same is q =
    let here : Ok ts ≡ Ok us = is in
    let last : ts ≡ us = cc in
    ap (λ (rs : List SpaceRoom). next_at rs q) (sym last) ∙ same q
run_noted (e ∷ run) s ts us at order same is q =
    go (λ vs n noted more. run_noted run (state_after s e) vs us n (event_order s e order) noted more q) (record_after s e) (event_noted s e order) is
  where
    go : ((vs : List SpaceRoom) (n : ℕ) → ((p : List ℕ) → next_at vs p ≡ next_at (state_after s e).rooms p) → rooms_after n vs (run_records (state_after s e) run) ≡ Ok us → next_at us q ≡ next_at (run_state (state_after s e) run).rooms q)
        → (es : List EntryOf) → ((p : List ℕ) → next_at (state_after s e).rooms p ≡ entry_next es p (next_at s.rooms p)) → rooms_after at ts (and_then es (run_records (state_after s e) run)) ≡ Ok us → next_at us q ≡ next_at (run_state (state_after s e) run).rooms q
    go ih [] noted more = ih ts at (λ p. same p ∙ sym (noted p)) more
    go ih (x ∷ xs) noted more = on (after_entries ts (x ∷ xs)) refl more
      where
        on : (o : Option (List SpaceRoom)) → after_entries ts (x ∷ xs) ≡ o → go_on at o (λ vs. rooms_after (at + 1) vs (run_records (state_after s e) run)) ≡ Ok us → next_at us q ≡ next_at (run_state (state_after s e) run).rooms q
        on None none more = absurd (let f : Err at ≡ Ok us = more in cc)
        on (Some vs) some more = ih vs (at + 1) (λ p. followed (x ∷ xs) ts vs some p ∙ ap (entry_next (x ∷ xs) p) (same p) ∙ sym (noted p)) more

-- ---- the record of a restart

ascends_of : (f : RoomState → RoomState) (rs : List SpaceRoom) → Ascends space_of (map (each_room f) rs) → Ascends space_of rs
ascends_of f [] order = tt
ascends_of f (r ∷ rs) order = (below_of f r.space rs order.0, ascends_of f rs order.1)
  where
    below_of : (g : RoomState → RoomState) (a : List ℕ) (qs : List SpaceRoom) → IsBelowAll space_of a (map (each_room g) qs) → IsBelowAll space_of a qs
    below_of g a [] below = tt
    below_of g a (q ∷ qs) below = (below.0, below_of g a qs below.1)

text_same : (a : List ℕ) → bytes_eq a a ≡ true
text_same a = (bytes_eq-Decides a a).1 refl

-- rooms of the same restart and the same next versions have the same to record at it
pub restart_recorded : (now : ℕ) (rs ts : List SpaceRoom) → Ascends space_of rs → Ascends space_of ts → map (each_room (restarted now)) ts ≡ map (each_room (restarted now)) rs → ((q : List ℕ) → next_at ts q ≡ next_at rs q) → each_record (restarted_record now) ts ≡ each_record (restarted_record now) rs
restart_recorded now [] [] order ordered same nexts = refl
restart_recorded now [] (t ∷ ts) order ordered same nexts = absurd (cc)
restart_recorded now (r ∷ rs) [] order ordered same nexts = absurd (cc)
restart_recorded now (r ∷ rs) (t ∷ ts) order ordered same nexts =
    let first : each_room (restarted now) t ≡ each_room (restarted now) r = cc in
    let rest : map (each_room (restarted now)) ts ≡ map (each_room (restarted now)) rs = cc in
    let space : t.space ≡ r.space = ap space_of first in
    let after : (room_restarted t.room now).next_version ≡ (room_restarted r.room now).next_version = ap (λ (x : SpaceRoom). x.room.next_version) first in
    let before : t.room.next_version ≡ r.room.next_version = here (nexts r.space) space in
    ap (λ (es : List EntryOf). es ++ each_record (restarted_record now) ts) (ap (λ (s : List ℕ). noted s (restarted_record now t.room)) space ∙ ap (λ (n : ℕ). noted r.space (changes_record None [] n (room_restarted t.room now).next_version)) before ∙ ap (λ (n : ℕ). noted r.space (changes_record None [] r.room.next_version n)) after)
    ∙ ap (λ (es : List EntryOf). noted r.space (restarted_record now r.room) ++ es) (restart_recorded now rs ts order.1 ordered.1 rest (λ q. behind q (bytes_eq q r.space) refl space (nexts q)))
  where
    here : next_at (t ∷ ts) r.space ≡ next_at (r ∷ rs) r.space → t.space ≡ r.space → t.room.next_version ≡ r.room.next_version
    here is space =
        let one : next_at (t ∷ ts) r.space ≡ Some t.room.next_version = ap (λ (b : Bool). option_map next_of (cond b (Some t.room) (room_at ts r.space))) (ap (bytes_eq r.space) space ∙ text_same r.space) in
        let two : next_at (r ∷ rs) r.space ≡ Some r.room.next_version = ap (λ (b : Bool). option_map next_of (cond b (Some r.room) (room_at rs r.space))) (text_same r.space) in
        let both : Some t.room.next_version ≡ Some r.room.next_version = sym one ∙ is ∙ two in
        cc

    behind : (q : List ℕ) (b : Bool) → bytes_eq q r.space ≡ b → t.space ≡ r.space → next_at (t ∷ ts) q ≡ next_at (r ∷ rs) q → next_at ts q ≡ next_at rs q
    behind q true is space both =
        let named : q ≡ r.space = (bytes_eq-Decides q r.space).0 is in
        let one : room_at ts q ≡ None = absent q ts (subst (λ (a : List ℕ). IsBelowAll space_of a ts) (space ∙ sym named) ordered.0) in
        let two : room_at rs q ≡ None = absent q rs (subst (λ (a : List ℕ). IsBelowAll space_of a rs) (sym named) order.0) in
        ap (option_map next_of) one ∙ sym (ap (option_map next_of) two)
    behind q false is space both =
        let one : next_at (t ∷ ts) q ≡ next_at ts q = ap (λ (b : Bool). option_map next_of (cond b (Some t.room) (room_at ts q))) (ap (bytes_eq q) space ∙ is) in
        let two : next_at (r ∷ rs) q ≡ next_at rs q = ap (λ (b : Bool). option_map next_of (cond b (Some r.room) (room_at rs q))) is in
        sym one ∙ both ∙ two

-- the rooms after the records of a run have what its last state has to record at a restart
pub run_recorded : (now : ℕ) (run : List RunEvent) (ts : List SpaceRoom) → rooms_after 0 new_placement.rooms (run_records new_placement run) ≡ Ok ts → map (each_room (restarted now)) ts ≡ map (each_room (restarted now)) (run_state new_placement run).rooms → each_record (restarted_record now) ts ≡ each_record (restarted_record now) (run_state new_placement run).rooms
run_recorded now run ts is same =
    let order = run_order new_placement run (tt, tt) in
    let ordered = ascends_of (restarted now) ts (subst (Ascends space_of) (sym same) (ascends_each (restarted now) (run_state new_placement run).rooms order)) in
    restart_recorded now (run_state new_placement run).rooms ts order ordered same (run_noted run new_placement new_placement.rooms ts 0 (tt, tt) (λ q. refl) is)
