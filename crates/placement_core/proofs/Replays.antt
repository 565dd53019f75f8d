-- The records of a run lead to what a restart keeps of its last state, in each room.
use Rattle.std.proofs.Common.{ℕ, ◌≡◌, ◌+◌, ◌≤◌, Bool, true, false, cond, List, [], ◌∷◌, ◌++◌, length, map, Option, None, Some, refl, sym, ap, ◌∙◌, subst, arith}
use Rattle.std.specs.Prelude.{bytes_eq, nat_le, ◌==◌}
use Rattle.std.specs.declared.cmp.Ordering.{Ordering}
use Rattle.std.specs.declared.cmp.Ordering.TheVariants.{Less, Equal, Greater}
use Rattle.std.specs.declared.result.Result.{Result}
use Rattle.std.specs.declared.result.Result.TheVariants.{Ok}
use Rattle.std.proofs.lemmas.Bool.{leb-true, eq-eqb}
use Rattle.place_table.specs.declared.host.HostInfo.{HostInfo}
use Rattle.member_roster.specs.Members.{is_before}
use Rattle.member_roster.specs.Places.{IsBelowAll, Ascends}
use Rattle.member_roster.proofs.Places.{cmp, same_texts, before_texts}
use Rattle.round_core.specs.declared.event.PlaceEvent.{PlaceEvent}
use Rattle.round_core.specs.declared.event.PlaceEvent.TheVariants as events
use Rattle.round_core.specs.declared.event.PlaceReply.TheVariants as replies
use Rattle.round_core.specs.Room.{RoomState, new_room, room_step, SameDurableState}
use Rattle.round_core.specs.Reached.{IsReached}
use Rattle.round_core.specs.Records.{RecordOf, after_record, step_record}
use Rattle.round_core.specs.Runs.{RunEvent, Steps, Restarts}
use Rattle.round_core.proofs.Reached.{new_reached, event_reached}
use Rattle.round_core.proofs.Replays.{Follows, same_on, event_kept, event_replayed, restarted_same}
use Rattle.placement_core.specs.Entries.{EntryOf, noted, each_record, has_entry, room_entries, join_entries, tick_record, restarted_record}
use Rattle.placement_core.specs.Placement.{SpaceRoom, PlacementState, new_placement, most_spaces, room_at, put_room, each_room, ticked, restarted, in_room, joins_room, refused, room_stepped, placement_restarted}
use Rattle.placement_core.specs.Restores.{put_found, after_change, and_on, after_entries, go_on, rooms_after, restarted_of, placement_restored}
use Rattle.placement_core.specs.Runs.{space_of, SameRooms, state_after, record_after, and_then, run_state, run_records}
use Rattle.placement_core.proofs.Orders.{absent, ascends_put, ascends_each, AllBehind, none_behind, more_behind, room_behind, put_behind, one_more_on, other_space}
use Rattle.placement_core.proofs.Searched.{same_space}

-- ---- each room is one that a run of its own reaches

abbrev AllReached : List SpaceRoom → Type 0
AllReached [] = Unit {0}
AllReached (r ∷ rs) = IsReached r.room × AllReached rs

at_reached : (rs : List SpaceRoom) (space : List ℕ) (room : RoomState) → AllReached rs → room_at rs space ≡ Some room → IsReached room
at_reached [] space room k e = absurd (cc)
at_reached (r ∷ rs) space room k e = go (bytes_eq space r.space) (at_reached rs space room k.1) e
  where
    go : (b : Bool) → (room_at rs space ≡ Some room → IsReached room) → cond b (Some r.room) (room_at rs space) ≡ Some room → IsReached room
    go true ih e = let same : r.room ≡ room = cc in subst IsReached same k.0
    go false ih e = ih e

put_reached : (rs : List SpaceRoom) (space : List ℕ) (room : RoomState) → AllReached rs → IsReached room → AllReached (put_room rs space room)
put_reached [] space room k h = (h, tt)
put_reached (r ∷ rs) space room k h = go (bytes_eq space r.space) (is_before space r.space) (put_reached rs space room k.1 h)
  where
    go : (b c : Bool) → AllReached (put_room rs space room) → AllReached (cond b (record { space = space; room = room } ∷ rs) (cond c (record { space = space; room = room } ∷ r ∷ rs) (r ∷ put_room rs space room)))
    go true c ih = (h, k.1)
    go false true ih = (h, k)
    go false false ih = (k.0, ih)

each_reached : (f : RoomState → RoomState) (rs : List SpaceRoom) → ((s : RoomState) → IsReached s → IsReached (f s)) → AllReached rs → AllReached (map (each_room f) rs)
each_reached f [] h k = tt
each_reached f (r ∷ rs) h k = (h r.room k.0, each_reached f rs h k.1)

-- ---- the same rooms

pub same_self : (rs : List SpaceRoom) → SameRooms rs rs
same_self [] = tt
same_self (r ∷ rs) = (refl, record { next_version = refl; boots = refl; members = refl }, same_self rs)

pub record IsAt (ts : List SpaceRoom) (space : List ℕ) (room : RoomState) : Type 0 where
  pub at : RoomState
  pub is : room_at ts space ≡ Some at
  pub same : SameDurableState room at

pub same_at : (rs ts : List SpaceRoom) (space : List ℕ) (room : RoomState) → SameRooms rs ts → room_at rs space ≡ Some room → IsAt ts space room
same_at [] ts space room d e = absurd (cc)
same_at (r ∷ rs) [] space room d e = absurd d
same_at (r ∷ rs) (t ∷ ts) space room d e = go (bytes_eq space r.space) (bytes_eq space t.space) (ap (bytes_eq space) d.0) refl (same_at rs ts space room d.2) e
  where
    go : (b c : Bool) → c ≡ b → bytes_eq space t.space ≡ c → (room_at rs space ≡ Some room → IsAt ts space room) → cond b (Some r.room) (room_at rs space) ≡ Some room → IsAt (t ∷ ts) space room
    go true true f g ih e = let h : r.room ≡ room = cc in record { at = t.room; is = rw g refl; same = subst (λ (s : RoomState). SameDurableState s t.room) h d.1 }
    go false false f g ih e = let h = ih e in record { at = h.at; is = rw g h.is; same = h.same }
    go true false f g ih e = absurd (cc)
    go false true f g ih e = absurd (cc)

pub none_at : (rs ts : List SpaceRoom) (space : List ℕ) → SameRooms rs ts → room_at rs space ≡ None → room_at ts space ≡ None
none_at [] [] space d e = refl
none_at [] (t ∷ ts) space d e = absurd d
none_at (r ∷ rs) [] space d e = refl
none_at (r ∷ rs) (t ∷ ts) space d e = rw d.0 (go (bytes_eq space r.space) (none_at rs ts space d.2) e)
  where
    go : (b : Bool) → (room_at rs space ≡ None → room_at ts space ≡ None) → cond b (Some r.room) (room_at rs space) ≡ None → cond b (Some t.room) (room_at ts space) ≡ None
    go true ih e = absurd (cc)
    go false ih e = ih e

same_length : (rs ts : List SpaceRoom) → SameRooms rs ts → length ts ≡ length rs
same_length [] [] d = refl
same_length [] (t ∷ ts) d = absurd d
same_length (r ∷ rs) [] d = absurd d
same_length (r ∷ rs) (t ∷ ts) d = let e = same_length rs ts d.2 in omega arith

put_both : (rs ts : List SpaceRoom) (space : List ℕ) (u v : RoomState) → SameRooms rs ts → SameDurableState u v → SameRooms (put_room rs space u) (put_room ts space v)
put_both [] [] space u v d k = (refl, k, tt)
put_both [] (t ∷ ts) space u v d k = absurd d
put_both (r ∷ rs) [] space u v d k = absurd d
put_both (r ∷ rs) (t ∷ ts) space u v d k =
    subst (λ (x : List ℕ). SameRooms (put_room (r ∷ rs) space u) (cond (bytes_eq space x) (record { space = space; room = v } ∷ ts) (cond (is_before space x) (record { space = space; room = v } ∷ t ∷ ts) (t ∷ put_room ts space v)))) (sym d.0)
    (go (bytes_eq space r.space) (is_before space r.space) (put_both rs ts space u v d.2 k))
  where
    go : (b c : Bool) → SameRooms (put_room rs space u) (put_room ts space v) → SameRooms (cond b (record { space = space; room = u } ∷ rs) (cond c (record { space = space; room = u } ∷ r ∷ rs) (r ∷ put_room rs space u))) (cond b (record { space = space; room = v } ∷ ts) (cond c (record { space = space; room = v } ∷ t ∷ ts) (t ∷ put_room ts space v)))
    go true c ih = (refl, k, d.2)
    go false true ih = (refl, k, d)
    go false false ih = (d.0, d.1, ih)

-- a room is put in its own place, and a restart keeps the same of it as before
pub put_kept : (rs ts : List SpaceRoom) (space : List ℕ) (room u : RoomState) → Ascends space_of rs → room_at rs space ≡ Some room → SameRooms rs ts → SameDurableState room u → SameRooms (put_room rs space u) ts
put_kept [] ts space room u a e d k = absurd (cc)
put_kept (r ∷ rs) [] space room u a e d k = absurd d
put_kept (r ∷ rs) (t ∷ ts) space room u a e d k = go (cmp r.space space) refl (λ f. put_kept rs ts space room u a.1 f d.2 k) e
  where
    go : (o : Ordering) → cmp r.space space ≡ o → (room_at rs space ≡ Some room → SameRooms (put_room rs space u) ts) → room_at (r ∷ rs) space ≡ Some room → SameRooms (put_room (r ∷ rs) space u) (t ∷ ts)
    go Less o ih e =
        let f : room_at rs space ≡ Some room = rw (same_texts r.space space Less o) at e in
        rw (same_texts r.space space Less o, before_texts r.space space Less o) (d.0, d.1, ih f)
    go Equal o ih e =
        let same = same_texts r.space space Equal o in
        let is : Some r.room ≡ Some room = rw same at e in
        let f : r.room ≡ room = cc in
        rw same (d.0 ∙ sym (same_space space r.space same), same_on room t.room u (subst (λ (s : RoomState). SameDurableState s t.room) f d.1) k, d.2)
    go Greater o ih e =
        let f : room_at rs space ≡ Some room = rw (same_texts r.space space Greater o) at e in
        let n = absent r.space space rs o a.0 in
        absurd (cc)

-- ---- a record of one entry

-- the rooms after the record are the same as those after the event
record Leads (ts us : List SpaceRoom) (es : List EntryOf) : Type 0 where
  after : List SpaceRoom
  is : after_entries ts es ≡ Some after
  same : SameRooms us after

stays : (ts us : List SpaceRoom) → SameRooms us ts → Leads ts us []
stays ts us d = record { after = ts; is = refl; same = d }

found_leads : (rs ts : List SpaceRoom) (space : List ℕ) (t u : RoomState) (c : RecordOf) → SameRooms rs ts → room_at ts space ≡ Some t → Follows t u c → Leads ts (put_room rs space u) (record { space = space; change = c } ∷ [])
found_leads rs ts space t u c d at h =
    let e : EntryOf = record { space = space; change = c } in
    record {
      after = put_room ts space h.after;
      is = ap (λ (o : Option RoomState). and_on (after_change ts e o) (λ us. Some us)) at ∙ ap (λ (o : Option RoomState). and_on (put_found ts space o) (λ us. Some us)) h.is;
      same = put_both rs ts space u h.after d h.same;
    }

made_leads : (rs ts : List SpaceRoom) (space : List ℕ) (u : RoomState) (c : RecordOf) → SameRooms rs ts → nat_le most_spaces (length rs) ≡ false → room_at rs space ≡ None → Follows new_room u c → Leads ts (put_room rs space u) (record { space = space; change = c } ∷ [])
made_leads rs ts space u c d few free h =
    let l : nat_le most_spaces (length ts) ≡ false = rw (same_length rs ts d) few in
    let e : EntryOf = record { space = space; change = c } in
    record {
      after = put_room ts space h.after;
      is =
          ap (λ (o : Option RoomState). and_on (after_change ts e o) (λ us. Some us)) (none_at rs ts space d free)
          ∙ ap (λ (b : Bool). and_on (cond b None (put_found ts space (after_record new_room c))) (λ us. Some us)) l
          ∙ ap (λ (o : Option RoomState). and_on (put_found ts space o) (λ us. Some us)) h.is;
      same = put_both rs ts space u h.after d h.same;
    }

-- ---- events of a run

record Runs (s : PlacementState) (ts : List SpaceRoom) : Type 0 where
  order : Ascends space_of s.rooms
  reached : AllReached s.rooms
  same : SameRooms s.rooms ts

room_leads : (s : PlacementState) (ts : List SpaceRoom) (space : List ℕ) (room : RoomState) (event : PlaceEvent) (now : ℕ) → Runs s ts → room_at s.rooms space ≡ Some room → Leads ts (put_room s.rooms space (room_step room event now).state) (noted space (step_record room event now))
room_leads s ts space room event now k e = go (step_record room event now) refl
  where
    go : (o : Option RecordOf) → step_record room event now ≡ o → Leads ts (put_room s.rooms space (room_step room event now).state) (noted space o)
    go None f = stays ts _ (put_kept s.rooms ts space room (room_step room event now).state k.order e k.same (event_kept room (Steps event now) (at_reached s.rooms space room k.reached e) f))
    go (Some c) f =
        let p = same_at s.rooms ts space room k.same e in
        found_leads s.rooms ts space p.at (room_step room event now).state c k.same p.is (event_replayed room p.at (Steps event now) c (at_reached s.rooms space room k.reached e) p.same f)

member_leads : (s : PlacementState) (ts : List SpaceRoom) (space : List ℕ) (event : PlaceEvent) (now : ℕ) (o : Option RoomState) → Runs s ts → room_at s.rooms space ≡ o → Leads ts (in_room s space event now o).state.rooms (room_entries space event now o)
member_leads s ts space event now None k e = stays ts s.rooms k.same
member_leads s ts space event now (Some room) k e = room_leads s ts space room event now k e

not_below : (n : ℕ) → (n == 0) ≡ false → nat_le n 0 ≡ false
not_below n e = go n (nat_le n 0) refl e
  where
    go : (n : ℕ) (b : Bool) → nat_le n 0 ≡ b → (n == 0) ≡ false → nat_le n 0 ≡ false
    go n true f e = let h : n ≤ 0 = leb-true n 0 f in let z : n ≡ 0 = omega arith in let t : (n == 0) ≡ true = eq-eqb n 0 z in absurd (cc)
    go n false f e = f

-- a host with a boot above 0 joins a new room, which is recorded
pub joined_record : (host : HostInfo) (now : ℕ) → (host.member.boot == 0) ≡ false → (c : RecordOf) × (step_record new_room (events.Register host) now ≡ Some c)
joined_record host now e =
    let f = not_below host.member.boot e in (
      record { joined = Some host; removed = []; next_version = (room_step new_room (events.Register host) now).state.next_version },
      rw f refl,
    )

new_leads : (s : PlacementState) (ts : List SpaceRoom) (host : HostInfo) (now : ℕ) → Runs s ts → room_at s.rooms host.member.space ≡ None → nat_le most_spaces (length s.rooms) ≡ false → (host.member.boot == 0) ≡ false → Leads ts (put_room s.rooms host.member.space (room_step new_room (events.Register host) now).state) (noted host.member.space (step_record new_room (events.Register host) now))
new_leads s ts host now k free few booted =
    let j = joined_record host now booted in
    let h = event_replayed new_room new_room (Steps (events.Register host) now) j.0 new_reached (record { next_version = refl; boots = refl; members = refl }) j.1 in
    let made = made_leads s.rooms ts host.member.space (room_step new_room (events.Register host) now).state j.0 k.same few free h in
    subst (λ (o : Option RecordOf). Leads ts (put_room s.rooms host.member.space (room_step new_room (events.Register host) now).state) (noted host.member.space o)) (sym j.1) made

join_leads : (s : PlacementState) (ts : List SpaceRoom) (host : HostInfo) (now : ℕ) (o : Option RoomState) → Runs s ts → room_at s.rooms host.member.space ≡ o → Leads ts (joins_room s host now o).state.rooms (join_entries s host now o)
join_leads s ts host now (Some room) k e = room_leads s ts host.member.space room (events.Register host) now k e
join_leads s ts host now None k e = go (nat_le most_spaces (length s.rooms)) (host.member.boot == 0) refl refl
  where
    go : (full zero : Bool) → nat_le most_spaces (length s.rooms) ≡ full → (host.member.boot == 0) ≡ zero → Leads ts (cond full (refused s (replies.SpacesFull (length s.rooms))) (cond zero (refused s (replies.StaleBoot 0)) (room_stepped s host.member.space (room_step new_room (events.Register host) now)))).state.rooms (cond full [] (cond zero [] (noted host.member.space (step_record new_room (events.Register host) now))))
    go true zero f g = stays ts s.rooms k.same
    go false true f g = stays ts s.rooms k.same
    go false false f g = new_leads s ts host now k e f g

-- ---- an event in all rooms: its entries are followed one after the other

-- no entry of the rooms behind names the space
none_named : (f : RoomState → Option RecordOf) (space : List ℕ) (rs : List SpaceRoom) → IsBelowAll space_of space rs → has_entry (each_record f rs) space ≡ false
none_named f space [] b = refl
none_named f space (r ∷ rs) b = go (f r.room) (none_named f space rs b.1)
  where
    go : (o : Option RecordOf) → has_entry (each_record f rs) space ≡ false → has_entry (noted r.space o ++ each_record f rs) space ≡ false
    go None ih = ih
    go (Some c) ih = rw (other_space space r.space b.0) ih

-- the rooms `ps` were passed, and stay as they are
record Walks (ps ts us : List SpaceRoom) (es : List EntryOf) : Type 0 where
  after : List SpaceRoom
  is : after_entries (ps ++ ts) es ≡ Some (ps ++ after)
  same : SameRooms us after

module _ (f : RoomState → Option RecordOf) (g : RoomState → RoomState) (kept : (s : RoomState) → IsReached s → f s ≡ None → SameDurableState s (g s)) (told : (s t : RoomState) (c : RecordOf) → IsReached s → SameDurableState s t → f s ≡ Some c → Follows t (g s) c) where
  walk : (ps rs ts : List SpaceRoom) → AllReached rs → Ascends space_of rs → SameRooms rs ts → AllBehind ps rs → Walks ps ts (map (each_room g) rs) (each_record f rs)
  walk ps [] [] k a d b = record { after = []; is = refl; same = tt }
  walk ps [] (t ∷ ts) k a d b = absurd d
  walk ps (r ∷ rs) [] k a d b = absurd d
  walk ps (r ∷ rs) (t ∷ ts) k a d b = go (λ qs h. walk qs rs ts k.1 a.1 d.2 h) (f r.room) refl
    where
      go : ((qs : List SpaceRoom) → AllBehind qs rs → Walks qs ts (map (each_room g) rs) (each_record f rs)) → (o : Option RecordOf) → f r.room ≡ o → Walks ps (t ∷ ts) (map (each_room g) (r ∷ rs)) (noted r.space o ++ each_record f rs)
      go ih None e =
          let w = ih (ps ++ t ∷ []) (more_behind ps t rs b.1 (subst (λ (s : List ℕ). IsBelowAll space_of s rs) (sym d.0) a.0)) in
          record {
            after = t ∷ w.after;
            is = ap (λ (xs : List SpaceRoom). after_entries xs (each_record f rs)) (sym (one_more_on ps t ts)) ∙ w.is ∙ ap (λ (xs : List SpaceRoom). Some xs) (one_more_on ps t w.after);
            same = (d.0, same_on r.room t.room (g r.room) d.1 (kept r.room k.0 e), w.same);
          }
      go ih (Some c) e =
          let h = told r.room t.room c k.0 d.1 e in
          let y : SpaceRoom = record { space = r.space; room = h.after } in
          let w = ih (ps ++ y ∷ []) (more_behind ps y rs b.1 a.0) in
          record {
            after = y ∷ w.after;
            is =
                let x : EntryOf = record { space = r.space; change = c } in
                let all = ps ++ t ∷ ts in
                let next : List SpaceRoom → Option (List SpaceRoom) = λ xs. after_entries xs (each_record f rs) in
                ap (λ (z : Bool). cond z None (and_on (after_change all x (room_at all r.space)) next)) (none_named f r.space rs a.0)
                ∙ ap (λ (o : Option RoomState). and_on (after_change all x o) next) (room_behind ps t ts r.space b.0 d.0)
                ∙ ap (λ (o : Option RoomState). and_on (put_found all r.space o) next) h.is
                ∙ ap next (put_behind ps t ts r.space h.after b.0 d.0 ∙ sym (one_more_on ps y ts))
                ∙ w.is
                ∙ ap (λ (xs : List SpaceRoom). Some xs) (one_more_on ps y w.after);
            same = (refl, h.same, w.same);
          }

  all_leads : (s : PlacementState) (ts : List SpaceRoom) → Runs s ts → Leads ts (map (each_room g) s.rooms) (each_record f s.rooms)
  all_leads s ts k =
      let w = walk [] s.rooms ts k.reached k.order k.same (none_behind s.rooms) in
      record { after = w.after; is = w.is; same = w.same }

event_leads : (s : PlacementState) (ts : List SpaceRoom) (e : RunEvent) → Runs s ts → Leads ts (state_after s e).rooms (record_after s e)
event_leads s ts (Steps (events.Register host) now) k = join_leads s ts host now (room_at s.rooms host.member.space) k refl
event_leads s ts (Steps (events.Beat m) now) k = member_leads s ts m.space (events.Beat m) now (room_at s.rooms m.space) k refl
event_leads s ts (Steps (events.Ack m stage version) now) k = member_leads s ts m.space (events.Ack m stage version) now (room_at s.rooms m.space) k refl
event_leads s ts (Steps (events.Leave m) now) k = member_leads s ts m.space (events.Leave m) now (room_at s.rooms m.space) k refl
event_leads s ts (Steps (events.Lost m) now) k = member_leads s ts m.space (events.Lost m) now (room_at s.rooms m.space) k refl
event_leads s ts (Steps events.Tick now) k =
    all_leads (tick_record now) (ticked now) (λ r h e. event_kept r (Steps events.Tick now) h e) (λ r t c h d e. event_replayed r t (Steps events.Tick now) c h d e) s ts k
event_leads s ts (Steps events.Look now) k = stays ts s.rooms k.same
event_leads s ts (Restarts now) k =
    all_leads (restarted_record now) (restarted now) (λ r h e. event_kept r (Restarts now) h e) (λ r t c h d e. event_replayed r t (Restarts now) c h d e) s ts k

-- ---- what holds in each state of a run

record IsOrdered (s : PlacementState) : Type 0 where
  order : Ascends space_of s.rooms
  reached : AllReached s.rooms

in_ordered : (s : PlacementState) (space : List ℕ) (event : PlaceEvent) (now : ℕ) (o : Option RoomState) → IsOrdered s → room_at s.rooms space ≡ o → IsOrdered (in_room s space event now o).state
in_ordered s space event now None k e = k
in_ordered s space event now (Some room) k e =
    record { order = ascends_put space (room_step room event now).state s.rooms k.order; reached = put_reached s.rooms space (room_step room event now).state k.reached (event_reached room (Steps event now) (at_reached s.rooms space room k.reached e)) }

joins_ordered : (s : PlacementState) (host : HostInfo) (now : ℕ) (o : Option RoomState) → IsOrdered s → room_at s.rooms host.member.space ≡ o → IsOrdered (joins_room s host now o).state
joins_ordered s host now (Some room) k e = in_ordered s host.member.space (events.Register host) now (Some room) k e
joins_ordered s host now None k e = go (nat_le most_spaces (length s.rooms)) (host.member.boot == 0)
  where
    go : (full zero : Bool) → IsOrdered (cond full (refused s (replies.SpacesFull (length s.rooms))) (cond zero (refused s (replies.StaleBoot 0)) (room_stepped s host.member.space (room_step new_room (events.Register host) now)))).state
    go true zero = k
    go false true = k
    go false false =
        record { order = ascends_put host.member.space (room_step new_room (events.Register host) now).state s.rooms k.order; reached = put_reached s.rooms host.member.space (room_step new_room (events.Register host) now).state k.reached (event_reached new_room (Steps (events.Register host) now) new_reached) }

event_ordered : (s : PlacementState) (e : RunEvent) → IsOrdered s → IsOrdered (state_after s e)
event_ordered s (Steps (events.Register host) now) k = joins_ordered s host now (room_at s.rooms host.member.space) k refl
event_ordered s (Steps (events.Beat m) now) k = in_ordered s m.space (events.Beat m) now (room_at s.rooms m.space) k refl
event_ordered s (Steps (events.Ack m stage version) now) k = in_ordered s m.space (events.Ack m stage version) now (room_at s.rooms m.space) k refl
event_ordered s (Steps (events.Leave m) now) k = in_ordered s m.space (events.Leave m) now (room_at s.rooms m.space) k refl
event_ordered s (Steps (events.Lost m) now) k = in_ordered s m.space (events.Lost m) now (room_at s.rooms m.space) k refl
event_ordered s (Steps events.Tick now) k =
    record { order = ascends_each (ticked now) s.rooms k.order; reached = each_reached (ticked now) s.rooms (λ r h. event_reached r (Steps events.Tick now) h) k.reached }
event_ordered s (Steps events.Look now) k = k
event_ordered s (Restarts now) k =
    record { order = ascends_each (restarted now) s.rooms k.order; reached = each_reached (restarted now) s.rooms (λ r h. event_reached r (Restarts now) h) k.reached }

-- ---- a run

record LeadsOn (at : ℕ) (ts us : List SpaceRoom) (rs : List (List EntryOf)) : Type 0 where
  after : List SpaceRoom
  is : rooms_after at ts rs ≡ Ok after
  same : SameRooms us after

run_leads : (s : PlacementState) (ts : List SpaceRoom) (run : List RunEvent) (at : ℕ) → IsOrdered s → SameRooms s.rooms ts → LeadsOn at ts (run_state s run).rooms (run_records s run)
run_leads s ts [] at k d = record { after = ts; is = refl; same = d }
run_leads s ts (e ∷ es) at k d =
    go (λ us n h. run_leads (state_after s e) us es n (event_ordered s e k) h) (record_after s e) (event_leads s ts e (record { order = k.order; reached = k.reached; same = d }))
  where
    go : ((us : List SpaceRoom) (n : ℕ) → SameRooms (state_after s e).rooms us → LeadsOn n us (run_state (state_after s e) es).rooms (run_records (state_after s e) es)) → (r : List EntryOf) → Leads ts (state_after s e).rooms r → LeadsOn at ts (run_state (state_after s e) es).rooms (and_then r (run_records (state_after s e) es))
    go ih [] l = let f : Some ts ≡ Some l.after = l.is in let same : l.after ≡ ts = cc in ih ts at (subst (λ (xs : List SpaceRoom). SameRooms (state_after s e).rooms xs) same l.same)
    go ih (x ∷ xs) l = let h = ih l.after (at + 1) l.same in record { after = h.after; is = ap (λ (o : Option (List SpaceRoom)). go_on at o (λ us. rooms_after (at + 1) us (run_records (state_after s e) es))) l.is ∙ h.is; same = h.same }

-- ---- the restart

restart_same : (rs ts : List SpaceRoom) (now : ℕ) → SameRooms rs ts → map (each_room (restarted now)) ts ≡ map (each_room (restarted now)) rs
restart_same [] [] now d = refl
restart_same [] (t ∷ ts) now d = absurd d
restart_same (r ∷ rs) [] now d = absurd d
restart_same (r ∷ rs) (t ∷ ts) now d =
    (λ i. record { space = d.0 i; room = restarted_same r.room t.room now d.1 i } ∷ restart_same rs ts now d.2 i)

opening_ordered : IsOrdered new_placement
opening_ordered = record { order = (tt, tt); reached = (new_reached, tt) }

pub run_restored : (run : List RunEvent) (now : ℕ) → placement_restored (run_records new_placement run) now ≡ Ok (placement_restarted (run_state new_placement run) now)
run_restored run now =
    let l = run_leads new_placement new_placement.rooms run 0 opening_ordered (same_self new_placement.rooms) in
    let shown : List SpaceRoom → Result PlacementState ℕ = λ rs. Ok (record { rooms = rs }) in
    ap (λ (o : Result (List SpaceRoom) ℕ). restarted_of o now) l.is ∙ ap shown (restart_same (run_state new_placement run).rooms l.after now l.same)
