-- What is accepted or taken in leaves tables that fit the fields of rows.
use Rattle.std.proofs.Common.{◌≡◌, ◌<◌, ◌≤◌, ◌+◌, ◌-◌, ◌*◌, ◌/◌, ◌%◌, ◌^◌, ℕ, zero, suc, Bool, true, false, List, [], ◌∷◌, ◌++◌, length, Option, Some, None, refl, sym, ap, ◌∙◌, subst, arith, length-append}
use Rattle.std.specs.Prelude.{Result, Ok, Err, if◌then◌else◌, nat_lt, nat_le, ◌&&◌, ◌==◌, is_none, is_some, max, option_map}
use Rattle.std.proofs.lemmas.Bool.Decides.{nat_tests}
use Rattle.actor_names.specs.declared.actor_key.ActorKey.{ActorKey}
use Rattle.actor_names.specs.declared.member.Member.{Member}
use Rattle.schedule_text.specs.declared.advance.Next.{Next}
use Rattle.schedule_text.specs.declared.advance.Next.TheVariants as nexts
use Rattle.schedule_text.specs.declared.advance.Period.{Period}
use Rattle.schedule_text.specs.declared.advance.Schedule.{Schedule}
use Rattle.schedule_text.specs.Range.{end_of_time, moment_of}
use Rattle.schedule_text.specs.Firing.{add_period, sum_of, first_after, following, next_at, is_zero, is_last, next_by, next_firing}
use Rattle.lists_and_limits.specs.Lists.{found, without, with_put}
use Rattle.stamp_lanes.specs.declared.answer.KeptNumber.{KeptNumber}
use Rattle.stamp_lanes.specs.declared.lane.Lane.{Lane}
use Rattle.stamp_lanes.specs.declared.node.NodeLanes.{NodeLanes}
use Rattle.stamp_lanes.specs.declared.error.BootError.{BootError}
use Rattle.stamp_lanes.specs.declared.error.BootError.TheVariants.{NodesFull, Spent}
use Rattle.stamp_lanes.specs.Lanes.{new_lane, dropped, with_space, joined, lane_after, lane_cmp, at_part, lane_at, lane_or_new, lane_of, lanes_after}
use Rattle.stamp_lanes.specs.Stamps.{node_cmp, at_node, node_at, bare_node, greatest_boot, spent_fault, draw_fault, after_draw, node_after, nodes_after, after_accept}
use Rattle.stamp_lanes.specs.Restores.{member_of, after_boot_row, with_lane, put_lane, after_lane_row}
use Rattle.state_rows.specs.declared.entry.StateEntry.{StateEntry}
use Rattle.state_rows.specs.declared.op.StateOp.{StateOp}
use Rattle.state_rows.specs.declared.op.StateOp.TheVariants.{Upsert, Delete}
use Rattle.state_rows.specs.Entries.{row_cmp, at_row, absent_from, new_entry, after_op, after_ops}
use Rattle.reminder_rows.specs.declared.reminder.Reminder.{Reminder}
use Rattle.reminder_rows.specs.declared.row.ReminderRow.{ReminderRow}
use Rattle.reminder_rows.specs.Reminders.{row_at, at_name, row_cmp as reminder_cmp, without_row, new_row, put_at, put_row, next_of, fired_row, refired, after_next, fired_rows}
use Rattle.wire_fields.specs.Fields.{Field, byte, number16, number32, number64, number128, both, only, in_any_order, AllFit, MaybeFits, maybe}
use Rattle.wire_fields.specs.Parts.{boot, flag, node_place, member, actor, record_name, within}
use Rattle.wire_fields.specs.Records.{text, blob, moment, period, schedule, next, NextFits, reminder, ttl, op, ops_list}
use Rattle.store_payloads.specs.Payloads.{end_of_moments}
use Rattle.store_payloads.specs.Fields.{AnswerFits, lane_answer, kept_number, kept_numbers, boot_fields, lane_fields, state_fields, reminder_fields}
use Rattle.std.specs.List.{AllByRecursion as Each}
use Rattle.store_payloads.specs.Fits.{BootFits, LaneFits, LanesFit, ReminderFits, TablesFit}
use Rattle.lists_and_limits.proofs.Each.{each_put, each_without, each_found}

-- ---- state

-- a moment at most 2^32 seconds later
absent_fits : (now : ℕ) (t : Option ℕ) → now < end_of_moments → MaybeFits ttl.Fits t → MaybeFits number64.Fits (absent_from now t)
unfolding ttl number32 number64
absent_fits now None below fits = tt
absent_fits now (Some s) below fits = let small : s < 2 ^ 32 = fits.0 in omega arith

op_keeps : (a : ActorKey) (now : ℕ) (o : StateOp) (rows : List StateEntry) → actor.Fits a → now < end_of_moments → op.Fits o → Each state_fields.Fits rows → Each state_fields.Fits (after_op a now o rows)
unfolding op state_fields
op_keeps a now (Upsert key value t) rows named below fits all =
    each_put state_fields.Fits row_cmp (new_entry a now key value t) rows (named, (fits.0, (fits.1.0, absent_fits now t below fits.1.1))) all
op_keeps a now (Delete key) rows named below fits all = each_without state_fields.Fits (at_row a key) rows all

pub ops_keep : (a : ActorKey) (now : ℕ) (before : Option StateOp) (os : List StateOp) (rows : List StateEntry) → actor.Fits a → now < end_of_moments → AllFit (in_any_order op) before os → Each state_fields.Fits rows → Each state_fields.Fits (after_ops a now os rows)
ops_keep a now before [] rows named below fits all = all
ops_keep a now before (o ∷ os) rows named below fits all = ops_keep a now (Some o) os (after_op a now o rows) named below fits.1 (op_keeps a now o rows named below fits.0 all)

-- ---- nodes

above : (m n : ℕ) → nat_le m n ≡ false → n < m
above m n e = grind (arith, nat_tests)

not_spent : (greatest : ℕ) → spent_fault greatest ≡ None → greatest < 2 ^ 62
not_spent greatest is = go (nat_le (2 ^ 62) greatest) refl is
  where
    go : (b : Bool) → nat_le (2 ^ 62) greatest ≡ b → (if b then Some Spent else None) ≡ None → greatest < 2 ^ 62
    go true e none = absurd (let f : Some Spent ≡ None = none in cc)
    go false e none = above (2 ^ 62) greatest e

-- a draw that isn't refused
pub may_draw : (space node : List ℕ) (nodes : List NodeLanes) → draw_fault space node nodes ≡ None → greatest_boot nodes < 2 ^ 62
may_draw space node nodes is = go (is_none (node_at space node nodes) && nat_le 65536 (length nodes)) is
  where
    go : (b : Bool) → (if b then Some (NodesFull 65536) else spent_fault (greatest_boot nodes)) ≡ None → greatest_boot nodes < 2 ^ 62
    go true is = absurd (let f : Some (NodesFull 65536) ≡ None = is in cc)
    go false is = not_spent (greatest_boot nodes) is

next_in_range : (g : ℕ) → g < 2 ^ 62 → (nat_le 1 (g + 1) && nat_le (g + 1) (2 ^ 62)) ≡ true
next_in_range g low = grind (arith, nat_tests)

pub next_boot : (g : ℕ) → g < 2 ^ 62 → boot.Fits (g + 1)
unfolding boot number64
next_boot g low = (omega arith, next_in_range g low)

pub bare_keeps : (space node : List ℕ) (n : ℕ) (nodes : List NodeLanes) → boot_fields.Fits ((space, node), n) → Each BootFits nodes → Each LanesFit nodes → Each BootFits (after_boot_row space node n nodes) × Each LanesFit (after_boot_row space node n nodes)
bare_keeps space node n nodes fits boots lanes = (each_put BootFits node_cmp (bare_node space node n) nodes fits boots, each_put LanesFit node_cmp (bare_node space node n) nodes tt lanes)

-- ---- lanes

numbers_push : (before : Option KeptNumber) (ks : List KeptNumber) (k : KeptNumber) → AllFit (in_any_order kept_number) before ks → kept_number.Fits k → AllFit (in_any_order kept_number) before (ks ++ k ∷ [])
numbers_push before [] k all fits = (fits, tt)
numbers_push before (x ∷ ks) k all fits = (all.0, numbers_push (Some x) ks k all.1 fits)

-- the fields of a lane
pub record LaneParts (e : NodeLanes) (l : Lane) : Type 0 where
  pub named : member.Fits (member_of e)
  pub part : byte.Fits l.part
  pub floor : l.floor < 2 ^ 64
  pub count : length l.kept < 2 ^ 16
  pub numbers : AllFit (in_any_order kept_number) None l.kept

parts_of : (e : NodeLanes) (l : Lane) → LaneFits e l → LaneParts e l
unfolding lane_fields number64 number16 kept_numbers
parts_of e l fits = record { named = fits.0; part = fits.1.0; floor = fits.1.1.0; count = fits.1.1.1.0; numbers = fits.1.1.1.1 }

of_parts : (e : NodeLanes) (l : Lane) → LaneParts e l → LaneFits e l
unfolding lane_fields number64 number16 kept_numbers
of_parts e l p = (p.named, (p.part, (p.floor, (p.count, p.numbers))))

rest_fits : (before other : Option KeptNumber) (ks : List KeptNumber) → AllFit (in_any_order kept_number) before ks → AllFit (in_any_order kept_number) other ks
rest_fits before other [] all = tt
rest_fits before other (k ∷ ks) all = all

number_small : (k : KeptNumber) → kept_number.Fits k → k.number < 2 ^ 64
unfolding kept_number number64
number_small k fits = fits.0

max_small : (a b : ℕ) → a < 2 ^ 64 → b < 2 ^ 64 → max a b < 2 ^ 64
max_small a b low lower = grind (arith, nat_tests)

-- there is space for one more number
record HasSpace (e : NodeLanes) (l : Lane) : Type 0 where
  parts : LaneParts e l
  space : length l.kept + 1 < 2 ^ 16

dropped_fits : (e : NodeLanes) (l : Lane) (ks : List KeptNumber) → l.kept ≡ ks → nat_le 256 (length l.kept) ≡ true → LaneParts e l → HasSpace e (dropped l ks)
dropped_fits e l [] is full p = absurd (let none : length l.kept ≡ 0 = ap length is in grind (arith, nat_tests))
dropped_fits e l (k ∷ ks) is full p =
    let all : AllFit (in_any_order kept_number) None (k ∷ ks) = subst (AllFit (in_any_order kept_number) None) is p.numbers in
    let count : length (k ∷ ks) < 2 ^ 16 = subst (λ (xs : List KeptNumber). length xs < 2 ^ 16) is p.count in
    record {
      parts = record { named = p.named; part = p.part; floor = max_small l.floor k.number p.floor (number_small k all.0); count = omega arith; numbers = rest_fits (Some k) None ks all.1 };
      space = omega arith;
    }

spaced_fits : (e : NodeLanes) (l : Lane) → LaneParts e l → HasSpace e (with_space l)
spaced_fits e l p = go (nat_le 256 (length l.kept)) refl
  where
    go : (b : Bool) → nat_le 256 (length l.kept) ≡ b → HasSpace e (if b then dropped l l.kept else l)
    go true full = dropped_fits e l l.kept refl full p
    go false few = let low = above 256 (length l.kept) few in record { parts = p; space = omega arith }

joined_fits : (e : NodeLanes) (l : Lane) (k : KeptNumber) → kept_number.Fits k → HasSpace e l → LaneParts e (joined l k)
joined_fits e l k fits s = record {
  named = s.parts.named;
  part = s.parts.part;
  floor = s.parts.floor;
  count = let long = length-append l.kept (k ∷ []) in let room = s.space in omega arith;
  numbers = numbers_push None l.kept k s.parts.numbers fits;
}

new_fits : (e : NodeLanes) (part : ℕ) → member.Fits (member_of e) → byte.Fits part → LaneParts e (new_lane part)
new_fits e part named fits = record { named = named; part = fits; floor = omega arith; count = omega arith; numbers = tt }

pub lane_found : (e : NodeLanes) (part : ℕ) → member.Fits (member_of e) → byte.Fits part → LanesFit e → LaneParts e (lane_of part e.lanes)
lane_found e part named fits all = go (lane_at part e.lanes) refl
  where
    go : (o : Option Lane) → lane_at part e.lanes ≡ o → LaneParts e (lane_or_new part o)
    go None is = new_fits e part named fits
    go (Some l) is = parts_of e l (each_found (LaneFits e) (at_part part) e.lanes l is all)

pub member_fits : (e : NodeLanes) → BootFits e → member.Fits (member_of e)
unfolding boot_fields member
member_fits e fits = fits

-- one more accepted number
pub accept_keeps : (m : Member) (part : ℕ) (k : KeptNumber) (nodes : List NodeLanes) → byte.Fits part → kept_number.Fits k → Each BootFits nodes → Each LanesFit nodes → Each BootFits (after_accept m part k nodes) × Each LanesFit (after_accept m part k nodes)
accept_keeps m part k nodes in_range fits boots lanes = go (node_at m.space m.node nodes) refl
  where
    go : (o : Option NodeLanes) → node_at m.space m.node nodes ≡ o → Each BootFits (nodes_after part k o nodes) × Each LanesFit (nodes_after part k o nodes)
    go None is = (boots, lanes)
    go (Some e) is =
        let booted : BootFits e = each_found BootFits (at_node m.space m.node) nodes e is boots in
        let laned : LanesFit e = each_found LanesFit (at_node m.space m.node) nodes e is lanes in
        let l = lane_of part e.lanes in
        let one : LaneFits e (lane_after l k) = of_parts e (lane_after l k) (joined_fits e (with_space l) k fits (spaced_fits e l (lane_found e part (member_fits e booted) in_range laned))) in (
          each_put BootFits node_cmp (node_after part k e) nodes booted boots,
          each_put LanesFit node_cmp (node_after part k e) nodes (each_put (LaneFits e) lane_cmp (lane_after l k) e.lanes one laned) lanes,
        )

other_member : (m : Member) (e : NodeLanes) (l : Lane) → lane_fields.Fits (m, (l.part, (l.floor, l.kept))) → BootFits e → LaneFits e l
unfolding lane_fields
other_member m e l fits booted = (member_fits e booted, fits.1)

-- a lane that is taken in
pub lane_keeps : (m : Member) (l : Lane) (nodes : List NodeLanes) → lane_fields.Fits (m, (l.part, (l.floor, l.kept))) → Each BootFits nodes → Each LanesFit nodes → Each BootFits (after_lane_row m l nodes) × Each LanesFit (after_lane_row m l nodes)
lane_keeps m l nodes fits boots lanes = go (node_at m.space m.node nodes) refl
  where
    go : (o : Option NodeLanes) → node_at m.space m.node nodes ≡ o → Each BootFits (put_lane l o nodes) × Each LanesFit (put_lane l o nodes)
    go None is = (boots, lanes)
    go (Some e) is =
        let booted : BootFits e = each_found BootFits (at_node m.space m.node) nodes e is boots in
        let laned : LanesFit e = each_found LanesFit (at_node m.space m.node) nodes e is lanes in (
          each_put BootFits node_cmp (with_lane l e) nodes booted boots,
          each_put LanesFit node_cmp (with_lane l e) nodes (each_put (LaneFits e) lane_cmp l e.lanes (other_member m e l fits booted) laned) lanes,
        )

-- ---- moments

pub moment_fits : (m : ℕ) → m < end_of_time → moment.Fits m
unfolding moment number128 number64
moment_fits m low = ((omega arith, omega arith), grind (arith, nat_tests))

some_moment : (n m : ℕ) → moment_of n ≡ Some m → m < end_of_time
some_moment n m is = go (nat_lt n end_of_time) refl is
  where
    low : nat_lt n end_of_time ≡ true → n < end_of_time
    low e = grind (arith, nat_tests)

    go : (b : Bool) → nat_lt n end_of_time ≡ b → (if b then Some n else None) ≡ Some m → m < end_of_time
    go true e is = subst (λ (k : ℕ). k < end_of_time) (let same : n ≡ m = cc in same) (low e)
    go false e is = absurd (let f : None ≡ Some m = is in cc)

period_later : (n m : ℕ) (p : Period) → add_period n p ≡ Some m → m < end_of_time
unfolding add_period
period_later n m p is = some_moment (sum_of n p) m is

low_step : (b : Bool) (found m : ℕ) (rest : Option ℕ) → found < end_of_time → (rest ≡ Some m → m < end_of_time) → elim b [ true ↦ Some found | false ↦ rest ] ≡ Some m → m < end_of_time
low_step true found m rest low later is = subst (λ (k : ℕ). k < end_of_time) (let same : found ≡ m = cc in same) low
low_step false found m rest low later is = later is

low_found : (o : Option ℕ) (now m : ℕ) (later : ℕ → Option ℕ) → ((n : ℕ) → o ≡ Some n → n < end_of_time) → ((n : ℕ) → later n ≡ Some m → m < end_of_time)
    → elim o [ None ↦ None | Some n ↦ elim (nat_lt now n) [ true ↦ Some n | false ↦ later n ] ] ≡ Some m → m < end_of_time
low_found None now m later low rest is = absurd (let f : None ≡ Some m = is in cc)
low_found (Some n) now m later low rest is = low_step (nat_lt now n) n m (later n) (low n refl) (rest n) is

after_low : (most : ℕ) (p : Period) (now n m : ℕ) → first_after most p now n ≡ Some m → m < end_of_time
unfolding first_after
after_low zero p now n m is = absurd (let f : None ≡ Some m = is in cc)
after_low (suc most) p now n m is = low_found (add_period n p) now m (λ k. first_after most p now k) (λ k e. period_later n k p e) (λ k e. after_low most p now k m e) is

left_fits : (left : Option ℕ) → MaybeFits number32.Fits left → MaybeFits number32.Fits (option_map (λ n. n - 1) left)
unfolding number32
left_fits None fits = tt
left_fits (Some n) fits = let low : n < 2 ^ 32 = fits in omega arith

next_fits : (end left found : Option ℕ) → MaybeFits number32.Fits left → ((m : ℕ) → found ≡ Some m → m < end_of_time) → NextFits (next_at end left found)
next_fits None left None fits low = tt
next_fits (Some end) left None fits low = tt
next_fits None left (Some m) fits low = (moment_fits m (low m refl), left_fits left fits)
next_fits (Some end) left (Some m) fits low = go (nat_lt m end)
  where
    go : (b : Bool) → NextFits (if b then nexts.At m (option_map (λ n. n - 1) left) else nexts.Done)
    go true = (moment_fits m (low m refl), left_fits left fits)
    go false = tt

unless : (b c : Bool) (n : Next) → NextFits n → NextFits (if b then nexts.Done else (if c then nexts.Done else n))
unless true c n fits = tt
unless false true n fits = tt
unless false false n fits = fits

by_fits : (p : Option Period) (s : Schedule) (at now : ℕ) → MaybeFits number32.Fits s.left → NextFits (next_by p s at now)
by_fits None s at now fits = tt
by_fits (Some p) s at now fits =
    unless (is_zero p) (is_last s.left) (next_at s.«end» s.left (following p at now)) (next_fits s.«end» s.left (following p at now) fits (λ m is. after_low (suc (now - at)) p now at m is))

left_in : (s : Schedule) → schedule.Fits s → MaybeFits number32.Fits s.left
unfolding schedule
left_in s fits = fits.1.1.0

-- what follows a firing
pub firing_fits : (s : Schedule) (at now : ℕ) → schedule.Fits s → NextFits (next_firing s at now)
firing_fits s at now fits = by_fits s.period s at now (left_in s fits)

-- ---- reminders

pub put_keeps : (a : ActorKey) (name : List ℕ) (r : Reminder) (rows : List ReminderRow) → reminder_fields.Fits (a, (name, r)) → Each ReminderFits rows → Each ReminderFits (put_row a name r rows)
put_keeps a name r rows fits all = go r.schedule.first
  where
    go : (o : Option ℕ) → Each ReminderFits (put_at o a name r rows)
    go None = each_without ReminderFits (at_name a name) rows all
    go (Some m) = each_put ReminderFits reminder_cmp (new_row a name m r) rows fits all

fired_fits : (e : ReminderRow) (m : ℕ) (left : Option ℕ) → ReminderFits e → NextFits (nexts.At m left) → ReminderFits (fired_row e m left)
unfolding reminder_fields reminder schedule
fired_fits e m left fits later = (fits.0, (fits.1.0, ((later.0, (fits.1.1.0.1.0, (later.1, fits.1.1.0.1.1.1))), fits.1.1.1)))

pub schedule_in : (e : ReminderRow) → ReminderFits e → schedule.Fits e.reminder.schedule
unfolding reminder_fields reminder
schedule_in e fits = fits.1.1.0

pub fired_keeps : (a : ActorKey) (name : List ℕ) (at now : ℕ) (rows : List ReminderRow) → Each ReminderFits rows → Each ReminderFits (fired_rows a name (row_at a name rows) at now rows)
fired_keeps a name at now rows all = go (row_at a name rows) refl
  where
    again : (o : Option ReminderRow) (m : ℕ) (left : Option ℕ) → row_at a name rows ≡ o → NextFits (nexts.At m left) → Each ReminderFits (refired o m left rows)
    again None m left is fits = all
    again (Some e) m left is fits = each_put ReminderFits reminder_cmp (fired_row e m left) rows (fired_fits e m left (each_found ReminderFits (at_name a name) rows e is all) fits) all

    after : (n : Next) → NextFits n → Each ReminderFits (after_next a name n rows)
    after (nexts.At m left) fits = again (row_at a name rows) m left refl fits
    after nexts.Done fits = each_without ReminderFits (at_name a name) rows all
    after nexts.OutOfRange fits = each_without ReminderFits (at_name a name) rows all

    if_same : (e : ReminderRow) (b : Bool) → ReminderFits e → Each ReminderFits (if b then after_next a name (next_of e now) rows else rows)
    if_same e true fits = after (next_of e now) (firing_fits e.reminder.schedule e.key.moment now (schedule_in e fits))
    if_same e false fits = all

    go : (o : Option ReminderRow) → row_at a name rows ≡ o → Each ReminderFits (fired_rows a name o at now rows)
    go None is = all
    go (Some e) is = if_same e (e.key.moment == at) (each_found ReminderFits (at_name a name) rows e is all)
