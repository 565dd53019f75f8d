-- Reading the record of an index in a file at rest.
use Rattle.std.proofs.Common.{◌≡◌, ◌≢◌, inl, inr, ℕ, zero, suc, ◌+◌, ◌-◌, ◌≤◌, List, [], ◌∷◌, ◌++◌, length, take, drop, Vec, Some, None, Ok, Err, refl, sym, ◌∙◌, ap, subst, arith, append_assoc, length-append, take-append-drop}
use Rattle.std.specs.Prelude.{slice_get}
use Rattle.std.proofs.lemmas.List.{take_at, drop_at, drop-drop}
use Rattle.std.specs.List.{AllByRecursion}
use Rattle.disk_model.specs.Disk.{DiskState}
use Rattle.tx_journal.specs.declared.error.JournalError.{JournalError}
use Rattle.tx_journal.specs.declared.error.JournalError.TheVariants.{DiskFault, Damaged, TooLong, Full, Reopen, NotStarted, OneDisk, Spent, OutOfMemory}
use Rattle.tx_journal.specs.declared.format.Format.{Format}
use Rattle.tx_journal.specs.File.{head, framed, records, IsShort, length_of, payloads_from}
use Rattle.tx_journal.specs.Journal.{IsAtRest, IsGateOf, StandsAt, Finds, Replays, IsPortFault}
use Rattle.tx_journal.proofs.Records.{rest_within}
use Rattle.tx_journal.proofs.Files.{length-framed, length_is, with_fronts, up, all_records, shut_end, fronts_end}

-- a record can be read in only one way
pub framed_once : (p q x y : List ℕ) → IsShort p → IsShort q → framed p ++ x ≡ framed q ++ y → (p ≡ q) × (x ≡ y)
framed_once p q x y short other same =
    let len : length p ≡ length q = sym (length_is p x short) ∙ ap length_of same ∙ length_is q y other in
    let both : p ++ x ≡ q ++ y = ap (drop 4) same in (
      sym (take_at p x (length p) refl) ∙ ap (take (length p)) both ∙ take_at q y (length p) (sym len),
      sym (drop_at p x (length p) refl) ∙ ap (drop (length p)) both ∙ drop_at q y (length p) (sym len),
    )

-- from this gate on there are the records from this index on, and then a closed gate
pub record StandsFor (payloads : List (List ℕ)) (index gate : ℕ) (bytes : List ℕ) : Type 0 where
  pub shut : ℕ
  pub rest : List ℕ
  pub is_shut : shut ≢ 1
  pub short : AllByRecursion IsShort (drop index payloads)
  pub tail : drop gate bytes ≡ records (drop index payloads) ++ shut ∷ rest

records-append : (xs ys : List (List ℕ)) → records (xs ++ ys) ≡ records xs ++ records ys
records-append [] ys = refl
records-append (x ∷ xs) ys = ap (λ (l : List ℕ). 1 ∷ framed x ++ l) (records-append xs ys) ∙ sym (append_assoc (1 ∷ framed x) (records xs) (records ys))

short_drop : (index : ℕ) (payloads : List (List ℕ)) → AllByRecursion IsShort payloads → AllByRecursion IsShort (drop index payloads)
short_drop zero payloads short = short
short_drop (suc index) [] short = tt
short_drop (suc index) (payload ∷ payloads) short = short_drop index payloads short.1

-- at the gate of an index
pub stands_at : {newest format : Format} (payloads : List (List ℕ)) (end index gate : ℕ) (bytes : List ℕ) → IsAtRest newest format payloads end bytes → IsGateOf payloads index gate → StandsFor payloads index gate bytes
stands_at {newest} {format} payloads end index gate bytes at_rest is =
    let split : records payloads ++ at_rest.gate ∷ at_rest.rest ≡ records (take index payloads) ++ (records (drop index payloads) ++ at_rest.gate ∷ at_rest.rest) =
    ap (λ (l : List (List ℕ)). records l ++ at_rest.gate ∷ at_rest.rest) (sym (take-append-drop index payloads))
    ∙ ap (λ (l : List ℕ). l ++ at_rest.gate ∷ at_rest.rest) (records-append (take index payloads) (drop index payloads))
    ∙ append_assoc (records (take index payloads)) (records (drop index payloads)) (at_rest.gate ∷ at_rest.rest) in
    record {
      shut = at_rest.gate;
      rest = at_rest.rest;
      is_shut = at_rest.shut;
      short = short_drop index payloads at_rest.short;
      tail = ap (drop gate) (at_rest.file ∙ ap (λ (l : List ℕ). head format ++ l) split)
          ∙ drop_at (head format ++ records (take index payloads)) (records (drop index payloads) ++ at_rest.gate ∷ at_rest.rest) gate (omega (arith, is.place));
    }

drop_none : (payloads : List (List ℕ)) (index : ℕ) → drop index payloads ≡ [] → length payloads ≤ index
drop_none [] index is = omega arith
drop_none (payload ∷ payloads) zero is = absurd cc
drop_none (payload ∷ payloads) (suc index) is = omega (arith, drop_none payloads index is)

drop_some : (payloads : List (List ℕ)) (index : ℕ) (first : List ℕ) (more : List (List ℕ)) → drop index payloads ≡ first ∷ more → slice_get payloads index ≡ Some first
drop_some [] zero first more is = absurd cc
drop_some [] (suc index) first more is = absurd cc
drop_some (payload ∷ payloads) zero first more is = let same : payload ≡ first = cc in ap (λ (p : List ℕ). Some p) same
drop_some (payload ∷ payloads) (suc index) first more is = drop_some payloads index first more is

-- the record that was found is the one at the index
record Found (payloads : List (List ℕ)) (index : ℕ) (payload behind : List ℕ) : Type 0 where
  pub more : List (List ℕ)
  pub is : drop index payloads ≡ payload ∷ more
  pub short : AllByRecursion IsShort more
  pub shut : ℕ
  pub rest : List ℕ
  pub is_shut : shut ≢ 1
  pub tail : behind ≡ records more ++ shut ∷ rest

found_in : (payloads qs : List (List ℕ)) (index shut : ℕ) (rest payload behind : List ℕ) → drop index payloads ≡ qs → AllByRecursion IsShort qs → shut ≢ 1 → IsShort payload → records qs ++ shut ∷ rest ≡ 1 ∷ framed payload ++ behind → Found payloads index payload behind
found_in payloads [] index shut rest payload behind is short is_shut fits same = absurd (is_shut (let e : shut ≡ 1 = cc in e))
found_in payloads (q ∷ qs) index shut rest payload behind is short is_shut fits same =
    let tails : framed q ++ (records qs ++ shut ∷ rest) ≡ framed payload ++ behind = sym (append_assoc (framed q) (records qs) (shut ∷ rest)) ∙ ap (drop 1) same in
    let once = framed_once q payload (records qs ++ shut ∷ rest) behind short.0 fits tails in
    record { more = qs; is = is ∙ ap (λ (p : List ℕ). p ∷ qs) once.0; short = short.1; shut = shut; rest = rest; is_shut = is_shut; tail = sym once.1 }

found : (payloads : List (List ℕ)) (index gate next : ℕ) (d : DiskState) → StandsFor payloads index gate d.bytes → (stands : StandsAt gate (Ok (Some next)) d) → Found payloads index stands.0 (drop next d.bytes)
found payloads index gate next d at stands =
    found_in payloads (drop index payloads) index at.shut at.rest stands.0 (drop next d.bytes) refl at.short at.is_shut stands.1 (sym at.tail ∙ stands.2)

take_next : (payloads : List (List ℕ)) (index : ℕ) (first : List ℕ) (more : List (List ℕ)) → drop index payloads ≡ first ∷ more → (take (suc index) payloads ≡ take index payloads ++ first ∷ []) × (suc index ≤ length payloads)
take_next [] zero first more is = absurd cc
take_next [] (suc index) first more is = absurd cc
take_next (payload ∷ payloads) zero first more is = let same : payload ≡ first = cc in (ap (λ (p : List ℕ). p ∷ []) same, omega arith)
take_next (payload ∷ payloads) (suc index) first more is =
    let next = take_next payloads index first more is in
    (ap (λ (l : List (List ℕ)). payload ∷ l) next.0, omega (arith, next.1))

-- the gate behind a record
pub gate_next : {newest format : Format} (payloads : List (List ℕ)) (end index gate next : ℕ) (d : DiskState) → IsAtRest newest format payloads end d.bytes → IsGateOf payloads index gate → StandsAt gate (Ok (Some next)) d → IsGateOf payloads (index + 1) next
gate_next payloads end index gate next d at_rest is stands =
    let f = found payloads index gate next d (stands_at payloads end index gate d.bytes at_rest is) stands in
    let more = take_next payloads index stands.0 f.more f.is in
    let size : length (records (take (index + 1) payloads)) ≡ length (records (take index payloads)) + length (records (stands.0 ∷ [])) =
    ap (λ (k : ℕ). length (records (take k payloads))) (let e : index + 1 ≡ suc index = omega arith in e) ∙ ap (λ (l : List (List ℕ)). length (records l)) more.0 ∙ ap length (records-append (take index payloads) (stands.0 ∷ [])) ∙ length-append (records (take index payloads)) (records (stands.0 ∷ [])) in
    record {
      within = omega (arith, more.1);
      place = omega (arith, stands.3, is.place, size, length-append (framed stands.0) [], length-framed stands.0);
    }

pub found_payload : {Z : Type 0} {newest format : Format} (payloads : List (List ℕ)) (end index gate next : ℕ) (d : DiskState) (v : Vec ℕ Z) → IsAtRest newest format payloads end d.bytes → IsGateOf payloads index gate → StandsAt gate (Ok (Some next)) d → v.items ≡ take (next - gate - 5) (drop (gate + 5) d.bytes) → Finds payloads index (Ok (Some (v, next)))
found_payload payloads end index gate next d v at_rest gated stands read =
    let f = found payloads index gate next d (stands_at payloads end index gate d.bytes at_rest gated) stands in
    let size : next - gate - 5 ≡ length stands.0 = omega (arith, stands.3) in
    let body : drop (gate + 5) d.bytes ≡ stands.0 ++ drop next d.bytes = sym (drop-drop 5 gate d.bytes) ∙ ap (drop 5) stands.2 in
    let is : v.items ≡ stands.0 = read ∙ ap (take (next - gate - 5)) body ∙ take_at stands.0 (drop next d.bytes) (next - gate - 5) (sym size) in
    (drop_some payloads index stands.0 f.more f.is ∙ ap (λ (p : List ℕ). Some p) (sym is), gate_next payloads end index gate next d at_rest gated stands)

none_in : (payloads qs : List (List ℕ)) (index shut gate : ℕ) (rest behind : List ℕ) → drop index payloads ≡ qs → gate ≢ 1 → records qs ++ shut ∷ rest ≡ gate ∷ behind → length payloads ≤ index
none_in payloads [] index shut gate rest behind is is_shut same = drop_none payloads index is
none_in payloads (q ∷ qs) index shut gate rest behind is is_shut same = absurd (is_shut (let e : gate ≡ 1 = cc in e))

pub found_none : (payloads : List (List ℕ)) (index gate : ℕ) (d : DiskState) → StandsFor payloads index gate d.bytes → StandsAt gate (Ok None) d → length payloads ≤ index
found_none payloads index gate d at stands = none_in payloads (drop index payloads) index at.shut stands.0 at.rest stands.1 refl stands.2 (sym at.tail ∙ stands.3)

whole_in : (qs : List (List ℕ)) (shut gate offset : ℕ) (rest tail : List ℕ) → AllByRecursion IsShort qs → shut ≢ 1 → tail ≡ records qs ++ shut ∷ rest → ((most : ℕ) → payloads_from (suc most) gate tail ≡ Err offset) → ⊥
whole_in [] shut gate offset rest tail short is_shut is fails =
    let e : Ok [] ≡ Err offset = sym (shut_end 1 gate shut rest (omega arith) is_shut) ∙ ap (payloads_from 1 gate) (sym is) ∙ fails 0 in cc
whole_in (q ∷ qs) shut gate offset rest tail short is_shut is fails =
    let read = all_records (q ∷ qs) 1 gate (shut ∷ rest) short ∙ ap (with_fronts (q ∷ qs)) (shut_end 1 (gate + length (records (q ∷ qs))) shut rest (omega arith) is_shut) ∙ fronts_end (q ∷ qs) in
    let e : Ok (q ∷ qs) ≡ Err offset = sym read ∙ ap (payloads_from (suc (up qs 1)) gate) (sym is) ∙ fails (up qs 1) in cc

pub replay_fails : (Z : Type 0) (payloads : List (List ℕ)) (index other gate : ℕ) (e : JournalError) (d : DiskState) → StandsFor payloads index gate d.bytes → StandsAt gate (Err e) d → Finds {Z = Z} payloads other (Err e)
replay_fails Z payloads index other gate DiskFault d at stands = tt
replay_fails Z payloads index other gate OutOfMemory d at stands = tt
replay_fails Z payloads index other gate (TooLong n) d at stands = stands
replay_fails Z payloads index other gate (Full len) d at stands = stands
replay_fails Z payloads index other gate Reopen d at stands = stands
replay_fails Z payloads index other gate NotStarted d at stands = stands
replay_fails Z payloads index other gate OneDisk d at stands = stands
replay_fails Z payloads index other gate (Spent count) d at stands = stands
replay_fails Z payloads index other gate (Damaged offset) d at stands = whole_in (drop index payloads) at.shut gate offset at.rest (drop gate d.bytes) at.short at.is_shut at.tail stands

pub port_fails : (Z : Type 0) (payloads : List (List ℕ)) (index : ℕ) (e : JournalError) → IsPortFault e → Finds {Z = Z} payloads index (Err e)
port_fails Z payloads index e (inl is) = subst (λ x. Finds {Z = Z} payloads index (Err x)) (sym is) tt
port_fails Z payloads index e (inr is) = subst (λ x. Finds {Z = Z} payloads index (Err x)) (sym is) tt

records_take : (index : ℕ) (payloads : List (List ℕ)) → length (records (take index payloads)) ≤ length (records payloads)
records_take zero payloads = omega arith
records_take (suc index) [] = omega arith
records_take (suc index) (payload ∷ payloads) =
    omega (arith, records_take index payloads, length-append (framed payload) (records payloads), length-append (framed payload) (records (take index payloads)))

-- the gate of an index is within the file
pub gate_within : {newest format : Format} (payloads : List (List ℕ)) (end index gate : ℕ) (bytes : List ℕ) → IsAtRest newest format payloads end bytes → IsGateOf payloads index gate → gate + 1 ≤ length bytes
gate_within payloads end index gate bytes at_rest is =
    omega (arith, (rest_within payloads end bytes at_rest).1, at_rest.end_is, is.place, records_take index payloads)

pub replay_found : (Z : Type 0) (payloads rows : List (List ℕ)) (place index : ℕ) (e : JournalError) → Finds {Z = Z} payloads place (Err e) → Replays {Z = Z} rows index (Err e)
replay_found Z payloads rows place index DiskFault found = tt
replay_found Z payloads rows place index OutOfMemory found = tt
replay_found Z payloads rows place index (Damaged offset) found = found
replay_found Z payloads rows place index (TooLong n) found = found
replay_found Z payloads rows place index (Full len) found = found
replay_found Z payloads rows place index Reopen found = found
replay_found Z payloads rows place index NotStarted found = found
replay_found Z payloads rows place index OneDisk found = found
replay_found Z payloads rows place index (Spent count) found = found
