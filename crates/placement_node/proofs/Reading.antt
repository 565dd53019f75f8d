-- Payloads that are read one after another.
use Rattle.std.proofs.Common.{◌≡◌, ℕ, zero, suc, ◌+◌, ◌<◌, ◌≤◌, Bool, true, false, List, [], ◌∷◌, ◌++◌, length, map, take, drop, Option, Some, None, Result, Ok, Err, Vec, refl, sym, ap, ◌∙◌, subst, arith, append_assoc}
use Rattle.std.specs.Prelude.{option_map, IfOk}
use Rattle.std.specs.List.{AllByRecursion, slice_get}
use Rattle.std.proofs.lemmas.List.{append-nil, length-map}
use Rattle.wire_fields.specs.Fields.{AllFit, in_any_order, spell_all}
use Rattle.placement_payloads.specs.Payloads.{Entry, entry, entries, payload, payload_start, payload_reading}
use Rattle.placement_payloads.specs.declared.error.PayloadError.{PayloadError}
use Rattle.placement_payloads.specs.declared.error.PayloadError.TheVariants as errors
use Rattle.placement_payloads.specs.Laws.{IsBytes}
use Rattle.placement_payloads.proofs.PayloadLaws.{begins_entries, fits_again}
use Rattle.tx_journal.specs.declared.error.JournalError.TheVariants as faults
use Rattle.tx_journal.specs.Journal.{Replays}
use Rattle.tx_journal.specs.Calls.{JournalState, first_of, second_of, tell_one, tell_sides, told}
use Rattle.placement_core.specs.Entries.{EntryOf}
use Rattle.placement_core.specs.Placement.{SpaceRoom}
use Rattle.placement_core.specs.Readings.{entries_of}
use Rattle.placement_core.specs.declared.entry.PlacementRecord.{PlacementRecord}
use Rattle.placement_node.specs.declared.error.PlacementOpenError.{PlacementOpenError}
use Rattle.placement_node.specs.declared.error.PlacementOpenError.TheVariants.{Journal, BadRecord}
use Rattle.placement_node.specs.declared.reply.RoomSeen.{RoomSeen}
use Rattle.placement_node.specs.Found.{after_payload, go_on, rooms_found, IsFault, IsPayloadError}
use Rattle.placement_node.specs.Openings.{IsNodeError, NodeCosts}
use Rattle.placement_node.specs.Records.{spelled_entry, read_entry, payload_of, payloads_of, record_in, ReadsRecord}
use Rattle.placement_node.specs.Replies.{seen_room}

-- ---- lists

one_more : (i : ℕ) → suc i ≡ i + 1
one_more i = omega arith

drop_suc : {A : Type 0} (xs : List A) (i : ℕ) (x : A) → slice_get xs i ≡ Some x → drop i xs ≡ x ∷ drop (suc i) xs
drop_suc [] i x at = absurd cc
drop_suc {A} (y ∷ ys) zero x at = let same : y ≡ x = cc in ap (λ (z : A). z ∷ ys) same
drop_suc (y ∷ ys) (suc i) x at = drop_suc ys i x at

pub drop_get : {A : Type 0} (xs : List A) (i : ℕ) (x : A) → slice_get xs i ≡ Some x → drop i xs ≡ x ∷ drop (i + 1) xs
drop_get xs i x at = drop_suc xs i x at ∙ ap (λ (k : ℕ). x ∷ drop k xs) (one_more i)

pub drop_past : {A : Type 0} (xs : List A) (i : ℕ) → length xs ≤ i → drop i xs ≡ []
drop_past [] zero past = refl
drop_past [] (suc i) past = refl
drop_past (y ∷ ys) zero past = absurd (omega arith)
drop_past (y ∷ ys) (suc i) past = drop_past ys i (omega arith)

pub get_few : {A : Type 0} (xs : List A) (i : ℕ) → slice_get xs i ≡ None → length xs ≤ i
get_few [] i none = omega arith
get_few (y ∷ ys) zero none = absurd cc
get_few (y ∷ ys) (suc i) none = let few = get_few ys i none in omega arith

pub get_within : {A : Type 0} (xs : List A) (i : ℕ) (x : A) → slice_get xs i ≡ Some x → i < length xs
get_within [] i x at = absurd cc
get_within (y ∷ ys) zero x at = omega arith
get_within (y ∷ ys) (suc i) x at = let within = get_within ys i x at in omega arith

pub all_get : {A : Type 0} (P : A → Type 0) (xs : List A) (i : ℕ) (x : A) → AllByRecursion P xs → slice_get xs i ≡ Some x → P x
all_get P [] i x all at = absurd cc
all_get P (y ∷ ys) zero x all at = let same : y ≡ x = cc in subst P same all.0
all_get P (y ∷ ys) (suc i) x all at = all_get P ys i x all.1 at

-- ---- the payload of a record

spell_suc : (es : List EntryOf) (i : ℕ) (e : EntryOf) → slice_get es i ≡ Some e → spell_all entry.spell (map spelled_entry (take (suc i) es)) ≡ spell_all entry.spell (map spelled_entry (take i es)) ++ entry.spell (spelled_entry e)
spell_suc [] i e at = absurd cc
spell_suc (x ∷ xs) zero e at = let same : x ≡ e = cc in append-nil (entry.spell (spelled_entry x)) ∙ ap (λ (y : EntryOf). entry.spell (spelled_entry y)) same
spell_suc (x ∷ xs) (suc i) e at =
    ap (λ (text : List ℕ). entry.spell (spelled_entry x) ++ text) (spell_suc xs i e at) ∙ sym (append_assoc (entry.spell (spelled_entry x)) (spell_all entry.spell (map spelled_entry (take i xs))) (entry.spell (spelled_entry e)))

pub spell_more : (es : List EntryOf) (i : ℕ) (e : EntryOf) (front : List ℕ) → slice_get es i ≡ Some e → front ++ spell_all entry.spell (map spelled_entry (take (i + 1) es)) ≡ (front ++ spell_all entry.spell (map spelled_entry (take i es))) ++ entry.spell (spelled_entry e)
spell_more es i e front at =
    ap (λ (k : ℕ). front ++ spell_all entry.spell (map spelled_entry (take k es))) (sym (one_more i))
    ∙ ap (λ (text : List ℕ). front ++ text) (spell_suc es i e at)
    ∙ sym (append_assoc front (spell_all entry.spell (map spelled_entry (take i es))) (entry.spell (spelled_entry e)))

-- the payload of a record is its start and its entries
pub payload_is : (es : List EntryOf) → payload_of es ≡ payload_start (length es) ++ spell_all entry.spell (map spelled_entry es)
payload_is es = begins_entries (map spelled_entry es) ∙ ap (λ (n : ℕ). payload_start n ++ spell_all entry.spell (map spelled_entry es)) (length-map es spelled_entry)

pub some_payload : (es : List EntryOf) → (length es ≡ 0 → ⊥) → payloads_of es ≡ payload_of es ∷ []
some_payload [] some = absurd (some refl)
some_payload (e ∷ es) some = refl

pub no_payload : (es : List EntryOf) → length es ≡ 0 → payloads_of es ≡ []
no_payload [] none = refl
no_payload (e ∷ es) none = absurd (omega arith)

-- ---- what is read

fit_entries : (before : Option Entry) (ps : List Entry) → AllFit (in_any_order entry) before ps → AllByRecursion (λ e. entry.Fits (spelled_entry e)) (map read_entry ps)
fit_entries before [] all = tt
fit_entries before (p ∷ ps) all = (all.0, fit_entries (Some p) ps all.1)

read_fits : (bytes : List ℕ) (ps : List Entry) → IsBytes bytes → payload_reading bytes ≡ Some ps → AllByRecursion (λ e. entry.Fits (spelled_entry e)) (map read_entry ps)
unfolding payload entries
read_fits bytes ps small is = fit_entries None ps (fits_again bytes ps small is).1

record_fits : (bytes : List ℕ) (es : List EntryOf) → IsBytes bytes → record_in bytes ≡ Some es → AllByRecursion (λ e. entry.Fits (spelled_entry e)) es
record_fits bytes es small is = go (payload_reading bytes) refl is
  where
    go : (o : Option (List Entry)) → payload_reading bytes ≡ o → option_map (map read_entry) o ≡ Some es → AllByRecursion (λ e. entry.Fits (spelled_entry e)) es
    go None at none = absurd (let e : None ≡ Some es = none in cc)
    go (Some ps) at some =
        let e : Some (map read_entry ps) ≡ Some es = some in
        let same : map read_entry ps ≡ es = cc in
        subst (AllByRecursion (λ x. entry.Fits (spelled_entry x))) same (read_fits bytes ps small at)

-- a record that was read can be spelled
pub read_again : (bytes : List ℕ) (result : Result PlacementRecord PayloadError) → IsBytes bytes → ReadsRecord result (record_in bytes) → IfOk result (λ r. AllByRecursion (λ e. entry.Fits (spelled_entry e)) (entries_of r))
read_again bytes (Ok r) small reads = record_fits bytes (entries_of r) small reads
read_again bytes (Err errors.NoReading) small reads = tt
read_again bytes (Err errors.OutOfMemory) small reads = tt

-- ---- what is seen

seen_suc : (rooms : List SpaceRoom) (i : ℕ) (one : RoomSeen) → i < length rooms → ((r : SpaceRoom) → slice_get rooms i ≡ Some r → one ≡ seen_room r) → map seen_room (take i rooms) ++ one ∷ [] ≡ map seen_room (take (suc i) rooms)
seen_suc [] i one lt is = absurd (omega arith)
seen_suc (r ∷ rs) zero one lt is = ap (λ (s : RoomSeen). s ∷ []) (is r refl)
seen_suc (r ∷ rs) (suc i) one lt is = ap (λ (l : List RoomSeen). seen_room r ∷ l) (seen_suc rs i one (omega arith) is)

pub seen_more : (rooms : List SpaceRoom) (i : ℕ) (seen : List RoomSeen) (one : RoomSeen) → i < length rooms → ((r : SpaceRoom) → slice_get rooms i ≡ Some r → one ≡ seen_room r) → seen ≡ map seen_room (take i rooms) → seen ++ one ∷ [] ≡ map seen_room (take (i + 1) rooms)
seen_more rooms i seen one lt is so_far = ap (λ (l : List RoomSeen). l ++ one ∷ []) so_far ∙ seen_suc rooms i one lt is ∙ ap (λ (k : ℕ). map seen_room (take k rooms)) (one_more i)

-- ---- the loop over payloads

-- what a journal of one disk reports
pub told_alone : (j : JournalState) → j.other ≡ None → told j ≡ tell_one j.live.told
told_alone j alone = rw alone (go j.is_second_live)
  where
    go : (b : Bool) → tell_sides (first_of b j.live None) (second_of b j.live None) ≡ tell_one j.live.told
    go true = refl
    go false = refl

pub told_same : (j k : JournalState) → j.other ≡ None → k.other ≡ None → k.live.told ≡ j.live.told → told k ≡ told j
told_same j k one two same = told_alone k two ∙ ap tell_one same ∙ sym (told_alone j one)

pub found_next : (index offset : ℕ) (rooms more : List SpaceRoom) (payloads : List (List ℕ)) (bytes : List ℕ) → slice_get payloads index ≡ Some bytes → after_payload index offset rooms (record_in bytes) ≡ Ok more → rooms_found index offset rooms (drop index payloads) ≡ rooms_found (index + 1) (offset + 5 + length bytes) more (drop (index + 1) payloads)
found_next index offset rooms more payloads bytes at after =
    ap (rooms_found index offset rooms) (drop_get payloads index bytes at) ∙ ap (λ (r : Result (List SpaceRoom) PlacementOpenError). go_on r (λ ts. rooms_found (index + 1) (offset + 5 + length bytes) ts (drop (index + 1) payloads))) after

pub found_end : (index offset : ℕ) (rooms : List SpaceRoom) (payloads : List (List ℕ)) → length payloads ≤ index → rooms_found index offset rooms (drop index payloads) ≡ Ok rooms
found_end index offset rooms payloads past = ap (rooms_found index offset rooms) (drop_past payloads index past)

-- a fault of one answer is one of another that has the same
pub fault_on : (e : PlacementOpenError) (r s : Result (List SpaceRoom) PlacementOpenError) → (r ≡ Err e → s ≡ Err e) → IsFault e r → IsFault e s
fault_on (BadRecord index offset) r s same fault = same fault
fault_on (Journal faults.DiskFault) r s same fault = tt
fault_on (Journal faults.OutOfMemory) r s same fault = tt
fault_on (Journal (faults.Damaged offset)) r s same fault = same fault
fault_on (Journal (faults.TooLong n)) r s same fault = same fault
fault_on (Journal (faults.Full len)) r s same fault = same fault
fault_on (Journal faults.Reopen) r s same fault = same fault
fault_on (Journal faults.NotStarted) r s same fault = same fault
fault_on (Journal faults.OneDisk) r s same fault = same fault
fault_on (Journal (faults.Spent count)) r s same fault = same fault

pub found_fault : (e : PlacementOpenError) (index offset : ℕ) (rooms : List SpaceRoom) (payloads : List (List ℕ)) (bytes : List ℕ) → slice_get payloads index ≡ Some bytes → IsFault e (after_payload index offset rooms (record_in bytes)) → IsFault e (rooms_found index offset rooms (drop index payloads))
found_fault e index offset rooms payloads bytes at fault = fault_on e (after_payload index offset rooms (record_in bytes)) (rooms_found index offset rooms (drop index payloads))
    (λ is. ap (rooms_found index offset rooms) (drop_get payloads index bytes at) ∙ ap (λ (r : Result (List SpaceRoom) PlacementOpenError). go_on r (λ ts. rooms_found (index + 1) (offset + 5 + length bytes) ts (drop (index + 1) payloads))) is)
    fault

-- what a replay answers
pub none_left : {Z : Type 0} (rows : List (List ℕ)) (index : ℕ) (o : Option (Vec ℕ Z)) → o ≡ None → Replays rows index (Ok o) → length rows ≤ index
none_left rows index None is past = past
none_left rows index (Some v) is past = absurd (let e : Some v ≡ None = is in cc)

pub some_left : {Z : Type 0} (rows : List (List ℕ)) (index : ℕ) (o : Option (Vec ℕ Z)) (v : Vec ℕ Z) → o ≡ Some v → Replays rows index (Ok o) → slice_get rows index ≡ Some v.items
some_left rows index None v is at = absurd (let e : None ≡ Some v = is in cc)
some_left {Z} rows index (Some w) v is at =
    let e : Some w ≡ Some v = is in
    let same : w ≡ v = cc in
    at ∙ ap (λ (x : Vec ℕ Z). Some x.items) same

pub payload_error : (e : PlacementOpenError) → IsPayloadError e → IsNodeError e
payload_error (BadRecord index offset) is = tt
payload_error (Journal (faults.Damaged offset)) is = tt
payload_error (Journal faults.OutOfMemory) is = tt
payload_error (Journal e) is = absurd is

pub payload_costs : (T : Type 0) (before after : ℕ) (e : PlacementOpenError) → IsPayloadError e → before ≤ after → NodeCosts {T = T} before after (Err e)
payload_costs T before after (BadRecord index offset) is le = le
payload_costs T before after (Journal (faults.Damaged offset)) is le = le
payload_costs T before after (Journal faults.OutOfMemory) is le = le
payload_costs T before after (Journal e) is le = absurd is
