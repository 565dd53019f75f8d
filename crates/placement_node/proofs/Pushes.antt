-- Records and payloads of a run with one event more.
use Rattle.std.proofs.Common.{◌≡◌, ℕ, ◌+◌, List, [], ◌∷◌, ◌++◌, length, map, Option, Some, None, Result, Ok, Err, refl, sym, ap, ◌∙◌, subst, arith}
use Rattle.std.specs.Prelude.{option_map}
use Rattle.std.specs.List.{AllByRecursion}
use Rattle.std.proofs.lemmas.Bool.{le-leb}
use Rattle.std.proofs.lemmas.List.{append-nil, length-map}
use Rattle.wire_fields.specs.Fields.{AllFit, number16, in_any_order}
use Rattle.placement_payloads.specs.Payloads.{Entry, entry, entries, payload}
use Rattle.placement_payloads.proofs.PayloadLaws.{reads_payload}
use Rattle.tx_journal.specs.File.{Image}
use Rattle.round_core.specs.Runs.{RunEvent}
use Rattle.placement_core.specs.Entries.{EntryOf}
use Rattle.placement_core.specs.Placement.{SpaceRoom, PlacementState, new_placement, placement_restarted}
use Rattle.placement_core.specs.Restores as restores
use Rattle.placement_core.specs.Restores.{after_entries, rooms_after, placement_restored}
use Rattle.placement_core.specs.Runs.{state_after, record_after, and_then, run_records, run_state}
use Rattle.placement_node.specs.declared.error.PlacementOpenError.{PlacementOpenError}
use Rattle.placement_node.specs.Found as found
use Rattle.placement_node.specs.Found.{after_payload, first_offset, rooms_found, all_found, placement_found}
use Rattle.placement_node.specs.Ranges.{RecordFits}
use Rattle.placement_node.specs.Records.{spelled_entry, read_entry, payload_of, payloads_of, record_in, with_record, records_in}
use Rattle.placement_node.specs.Runs.{reached, AreOfRun, OpensAs}

-- ---- one event more

pub state_push : (s : PlacementState) (run : List RunEvent) (e : RunEvent) → run_state s (run ++ e ∷ []) ≡ state_after (run_state s run) e
state_push s [] e = refl
state_push s (x ∷ run) e = state_push (state_after s x) run e

then_append : (r : List EntryOf) (xs ys : List (List EntryOf)) → and_then r (xs ++ ys) ≡ and_then r xs ++ ys
then_append [] xs ys = refl
then_append (e ∷ es) xs ys = refl

pub records_push : (s : PlacementState) (run : List RunEvent) (e : RunEvent) → run_records s (run ++ e ∷ []) ≡ run_records s run ++ and_then (record_after (run_state s run) e) []
records_push s [] e = refl
records_push s (x ∷ run) e = ap (and_then (record_after s x)) (records_push (state_after s x) run e) ∙ then_append (record_after s x) (run_records (state_after s x) run) (and_then (record_after (run_state (state_after s x) run) e) [])

-- ---- one payload more

pub payloads_push : (payloads : List (List ℕ)) (bytes : List ℕ) (records : List (List EntryOf)) (r : List EntryOf) → records_in payloads ≡ Some records → record_in bytes ≡ Some r → records_in (payloads ++ bytes ∷ []) ≡ Some (records ++ r ∷ [])
payloads_push [] bytes records r reads one = let none : [] ≡ records = cc in ap (λ (o : Option (List EntryOf)). with_record o (Some [])) one ∙ ap (λ (rs : List (List EntryOf)). Some (rs ++ r ∷ [])) none
payloads_push (p ∷ ps) bytes records r reads one = go (λ xs more. payloads_push ps bytes xs r more one) (record_in p) (records_in ps) refl reads
  where
    go : ((xs : List (List EntryOf)) → records_in ps ≡ Some xs → records_in (ps ++ bytes ∷ []) ≡ Some (xs ++ r ∷ []))
        → (a : Option (List EntryOf)) (b : Option (List (List EntryOf))) → records_in ps ≡ b → with_record a b ≡ Some records → with_record a (records_in (ps ++ bytes ∷ [])) ≡ Some (records ++ r ∷ [])
    go ih None b more is = absurd (let no : None ≡ Some records = is in cc)
    go ih (Some x) None more is = absurd (let no : None ≡ Some records = is in cc)
    go ih (Some x) (Some xs) more is =
        let same : x ∷ xs ≡ records = cc in
        ap (with_record (Some x)) (ih xs more) ∙ ap (λ (rs : List (List EntryOf)). Some (rs ++ r ∷ [])) same

same_entries : (es : List EntryOf) → map read_entry (map spelled_entry es) ≡ es
same_entries [] = refl
same_entries (e ∷ es) = ap (λ (xs : List EntryOf). e ∷ xs) (same_entries es)

all_fit : (before : Option Entry) (es : List EntryOf) → AllByRecursion (λ e. entry.Fits (spelled_entry e)) es → AllFit (in_any_order entry) before (map spelled_entry es)
all_fit before [] all = tt
all_fit before (e ∷ es) all = (all.0, all_fit (Some (spelled_entry e)) es all.1)

pub record_spelled : (es : List EntryOf) → RecordFits es → payload.Fits (map spelled_entry es)
unfolding payload entries number16
record_spelled es fits = ((omega (arith, length-map es spelled_entry, fits.few), le-leb (length (map spelled_entry es)) 64 (omega (arith, length-map es spelled_entry, fits.few))), all_fit None es fits.each)

-- a record that is spelled is read again
pub record_again : (es : List EntryOf) → RecordFits es → record_in (payload_of es) ≡ Some es
record_again es fits = ap (option_map (map read_entry)) (reads_payload (map spelled_entry es) (record_spelled es fits)) ∙ ap (λ (xs : List EntryOf). Some xs) (same_entries es)

pub of_run_push : (run : List RunEvent) (e : RunEvent) (payloads : List (List ℕ)) → RecordFits (record_after (reached run) e) → AreOfRun run payloads → AreOfRun (run ++ e ∷ []) (payloads ++ payloads_of (record_after (reached run) e))
of_run_push run e payloads fits reads = go (record_after (reached run) e) fits ∙ ap (λ (rs : List (List EntryOf)). Some rs) (sym (records_push new_placement run e))
  where
    go : (es : List EntryOf) → RecordFits es → records_in (payloads ++ payloads_of es) ≡ Some (run_records new_placement run ++ and_then es [])
    go [] fits = ap records_in (append-nil payloads) ∙ reads ∙ ap (λ (rs : List (List EntryOf)). Some rs) (sym (append-nil (run_records new_placement run)))
    go (x ∷ xs) fits = payloads_push payloads (payload_of (x ∷ xs)) (run_records new_placement run) (x ∷ xs) reads (record_again (x ∷ xs) fits)

-- ---- what is found in the payloads of a run

found_records : (index offset at : ℕ) (rooms ts : List SpaceRoom) (payloads : List (List ℕ)) (records : List (List EntryOf)) → records_in payloads ≡ Some records → rooms_after at rooms records ≡ Ok ts → rooms_found index offset rooms payloads ≡ Ok ts
found_records index offset at rooms ts [] records reads is =
    let none : [] ≡ records = cc in
    let here : rooms_after at rooms [] ≡ Ok ts = subst (λ (rs : List (List EntryOf)). rooms_after at rooms rs ≡ Ok ts) (sym none) is in
    let same : rooms ≡ ts = cc in
    ap (λ (rs : List SpaceRoom). Ok rs) same
found_records index offset at rooms ts (p ∷ ps) records reads is = go (λ us rs more after. found_records (index + 1) (offset + 5 + length p) (at + 1) us ts ps rs more after) (record_in p) (records_in ps) refl refl reads
  where
    on : ((us : List SpaceRoom) (rs : List (List EntryOf)) → records_in ps ≡ Some rs → rooms_after (at + 1) us rs ≡ Ok ts → rooms_found (index + 1) (offset + 5 + length p) us ps ≡ Ok ts) → (r : List EntryOf) (rs : List (List EntryOf)) → record_in p ≡ Some r → records_in ps ≡ Some rs → (o : Option (List SpaceRoom)) → after_entries rooms r ≡ o → restores.go_on at o (λ us. rooms_after (at + 1) us rs) ≡ Ok ts → rooms_found index offset rooms (p ∷ ps) ≡ Ok ts
    on ih r rs one more None after is = absurd (let no : Err at ≡ Ok ts = is in cc)
    on ih r rs one more (Some us) after is =
        ap (λ (x : Option (List EntryOf)). found.go_on (after_payload index offset rooms x) (λ more. rooms_found (index + 1) (offset + 5 + length p) more ps)) one
        ∙ ap (λ (x : Option (List SpaceRoom)). found.go_on (found.after_record index offset x) (λ more. rooms_found (index + 1) (offset + 5 + length p) more ps)) after
        ∙ ih us rs more is

    go : ((us : List SpaceRoom) (rs : List (List EntryOf)) → records_in ps ≡ Some rs → rooms_after (at + 1) us rs ≡ Ok ts → rooms_found (index + 1) (offset + 5 + length p) us ps ≡ Ok ts) → (a : Option (List EntryOf)) (b : Option (List (List EntryOf))) → record_in p ≡ a → records_in ps ≡ b → with_record a b ≡ Some records → rooms_found index offset rooms (p ∷ ps) ≡ Ok ts
    go ih None b one more reads = absurd (let no : None ≡ Some records = reads in cc)
    go ih (Some r) None one more reads = absurd (let no : None ≡ Some records = reads in cc)
    go ih (Some r) (Some rs) one more reads =
        let same : r ∷ rs ≡ records = cc in
        on ih r rs one more (after_entries rooms r) refl (subst (λ (x : List (List EntryOf)). rooms_after at rooms x ≡ Ok ts) (sym same) is)

-- what restoring the records of every run gives
abbrev pub Restores : Type 0
Restores = (run : List RunEvent) (now : ℕ) → placement_restored (run_records new_placement run) now ≡ Ok (placement_restarted (run_state new_placement run) now)

-- the rooms after the records of a run
pub run_rooms : Restores → (run : List RunEvent) → (ts : List SpaceRoom) × (rooms_after 0 new_placement.rooms (run_records new_placement run) ≡ Ok ts)
run_rooms restored run = go (rooms_after 0 new_placement.rooms (run_records new_placement run)) refl
  where
    go : (r : Result (List SpaceRoom) ℕ) → rooms_after 0 new_placement.rooms (run_records new_placement run) ≡ r → (ts : List SpaceRoom) × (rooms_after 0 new_placement.rooms (run_records new_placement run) ≡ Ok ts)
    go (Ok ts) is = (ts, is)
    go (Err at) is = absurd (let no : Err at ≡ Ok (placement_restarted (reached run) 0) = ap (λ (r : Result (List SpaceRoom) ℕ). restores.restarted_of r 0) (sym is) ∙ restored run 0 in cc)

-- they are restarted as the run's last state is
pub rooms_restarted : Restores → (run : List RunEvent) (ts : List SpaceRoom) (now : ℕ) → rooms_after 0 new_placement.rooms (run_records new_placement run) ≡ Ok ts → placement_restarted (record { rooms = ts }) now ≡ placement_restarted (reached run) now
rooms_restarted restored run ts now is =
    let both : Ok (placement_restarted (record { rooms = ts }) now) ≡ Ok (placement_restarted (reached run) now) = ap (λ (r : Result (List SpaceRoom) ℕ). restores.restarted_of r now) (sym is) ∙ restored run now in
    cc

-- what the payloads of a run lead to
pub run_found : Restores → (run : List RunEvent) (payloads : List (List ℕ)) → AreOfRun run payloads → (ts : List SpaceRoom) × (all_found payloads ≡ Ok ts) × (rooms_after 0 new_placement.rooms (run_records new_placement run) ≡ Ok ts)
run_found restored run payloads reads =
    let rooms = run_rooms restored run in
    (rooms.0, found_records 0 first_offset 0 new_placement.rooms rooms.0 payloads (run_records new_placement run) reads rooms.1, rooms.1)

pub found_run : Restores → (run : List RunEvent) (payloads : List (List ℕ)) (now : ℕ) → AreOfRun run payloads → placement_found payloads now ≡ Ok (placement_restarted (reached run) now)
found_run restored run payloads now reads =
    let rooms = run_found restored run payloads reads in
    ap (λ (r : Result (List SpaceRoom) PlacementOpenError). found.restarted_of r now) rooms.1 ∙ ap (λ (s : PlacementState). Ok s) (rooms_restarted restored run rooms.0 now rooms.2)

pub opens_run : Restores → (run : List RunEvent) (held : Image) → AreOfRun run held.payloads → OpensAs (reached run) (Ok held)
opens_run restored run held reads = (held, refl, λ now. found_run restored run held.payloads now reads)
