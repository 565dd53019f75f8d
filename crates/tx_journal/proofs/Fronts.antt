-- However many changes behind a closed first byte are pending, a crash leaves that byte closed.
use Rattle.std.proofs.Common.{◌≡◌, ◌⊎◌, inl, inr, ℕ, zero, suc, ◌+◌, ◌-◌, ◌≤◌, true, false, List, [], ◌∷◌, ◌++◌, length, take, drop, append_assoc, length-append, Result, Ok, Err, refl, sym, ◌∙◌, ap, subst, arith}
use Rattle.std.proofs.lemmas.Bool.{cases_eq}
use Rattle.std.specs.List.{AllByRecursion}
use Rattle.actor_ports.specs.declared.port.PortError.{PortError}
use Rattle.actor_ports.specs.declared.port.PortError.TheVariants.{Failed, OutOfMemory}
use Rattle.disk_model.specs.Disk.{Instant, DiskState, Torn, MayMake, MayLead, overwritten, changed, Writes, Cuts, Syncs}
use Rattle.disk_model.specs.Crash.{LeavesOnly, IsDurable, Later, Since}
use Rattle.disk_model.specs.declared.change.Change.{Change}
use Rattle.disk_model.specs.declared.change.Change.TheVariants.{Over, CutTo}
use Rattle.disk_model.proofs.Moments.{later_here, later_changed, later_then, later_weaker, leaves_durable}
use Rattle.disk_model.proofs.Stages.{Then, Both, Stage, stage_start, stage_write, stage_sync, stage_synced, synced_durable, synced_bytes, wrote_bytes, torn_overwritten}
use Rattle.tx_journal.specs.declared.format.Format.TheVariants.{Two}
use Rattle.tx_journal.specs.File.{most_bytes, name, framed, spelled, is_made, opened}
use Rattle.tx_journal.specs.Pair.{generation_row}
use Rattle.tx_journal.specs.Journal.{IsAtRest}
use Rattle.tx_journal.proofs.Files.{length-framed}
use Rattle.tx_journal.proofs.Records.{rest_within, spelled-push, at_rest_again}
use Rattle.std.proofs.lemmas.List.{take_at}
use Rattle.tx_journal.proofs.Making.{unmade}
use Rattle.tx_journal.specs.Compaction.{IsBehind, IsShutFront, IsUnmade, StaysUnmade, IsMadeOrNot, Finishes, IsFinished, MayBeShut, Closes, IsClosed, WritesFront, HasFirstRow, Begins, HasBegunFile, AddsRow}

-- the first byte is this one
abbrev Front : ℕ → List ℕ → Type 0
Front gate bytes = (rest : List ℕ) × (bytes ≡ gate ∷ rest)

front_of_take : (gate at : ℕ) (old new : List ℕ) → 1 ≤ at → Front gate old → take at new ≡ take at old → Front gate new
front_of_take gate zero old new some front same = absurd (omega arith)
front_of_take gate (suc at) old [] some front same = absurd (let e : [] ≡ take (suc at) (gate ∷ front.0) = same ∙ ap (take (suc at)) front.1 in cc)
front_of_take gate (suc at) old (x ∷ new) some front same =
    let e : x ∷ take at new ≡ gate ∷ take at front.0 = same ∙ ap (take (suc at)) front.1 in
    let one : x ≡ gate = cc in
    (new, ap (λ (k : ℕ). k ∷ new) one)

front_made : (gate : ℕ) (change : Change) (old new : List ℕ) → IsBehind change → Front gate old → MayMake change old new → Front gate new
front_made gate (Over at n) old new behind front made = front_of_take gate at old new behind front made.before
front_made gate (CutTo len) old new behind front (inl same) = (front.0, same ∙ front.1)
front_made gate (CutTo zero) old new behind front (inr cut) = absurd (omega arith)
front_made gate (CutTo (suc len)) old new behind front (inr cut) = (take len front.0, cut ∙ ap (take (suc len)) front.1)

front_led : (gate : ℕ) (changes : List Change) (old new : List ℕ) → AllByRecursion IsBehind changes → Front gate old → MayLead changes old new → Front gate new
front_led gate [] old new all front led = (front.0, led ∙ front.1)
front_led gate (change ∷ changes) old new all front led = front_led gate changes led.0 new all.1 (front_made gate change old led.0 all.0 front led.1) led.2

pub leaves_unmade : (d : DiskState) → IsShutFront d → LeavesOnly IsUnmade d.instant
leaves_unmade d front file image =
    let led = front_led front.gate d.instant.pending d.instant.synced file front.behind front.synced image in
    ap is_made led.1 ∙ unmade front.gate led.0 front.shut

all_push : (changes : List Change) (change : Change) → AllByRecursion IsBehind changes → IsBehind change → AllByRecursion IsBehind (changes ++ change ∷ [])
all_push [] change all one = (one, tt)
all_push (first ∷ changes) change all one = (all.0, all_push changes change all.1 one)

front_changed : (d e : DiskState) (change : Change) (bytes : List ℕ) → IsShutFront d → IsBehind change → ((gate : ℕ) → Front gate d.bytes → Front gate bytes) → e ≡ changed d change bytes → IsShutFront e
front_changed d e change bytes front behind keeps is = subst IsShutFront (sym is) (record {
  gate = front.gate;
  shut = front.shut;
  synced = front.synced;
  reads = keeps front.gate front.reads;
  behind = all_push d.instant.pending change front.behind behind;
})

stays : (d e : DiskState) (change : Change) (bytes : List ℕ) → IsShutFront d → IsBehind change → ((gate : ℕ) → Front gate d.bytes → Front gate bytes) → e ≡ changed d change bytes → IsShutFront e × Later IsUnmade d e
stays d e change bytes front behind keeps is =
    let next = front_changed d e change bytes front behind keeps is in
    (next, later_changed IsUnmade d d e change bytes (later_here IsUnmade d) is (leaves_unmade e next))

pub stays_here : (d e : DiskState) → e ≡ d → StaysUnmade d e
stays_here d e same front = subst (λ x. IsShutFront x × Later IsUnmade d x) (sym same) (front, later_here IsUnmade d)

pub write_stays : {T : Type 0} (at : ℕ) (new : List ℕ) (r : Result T PortError) (d e : DiskState) → 1 ≤ at → at ≤ length d.bytes → Writes at new r d e → StaysUnmade d e
write_stays at new (Ok x) d e some within writes front =
    stays d e (Over at (length new)) (overwritten d.bytes at new) front some (λ gate old. front_of_take gate at d.bytes (overwritten d.bytes at new) some old (torn_overwritten d.bytes new at within).before) writes
write_stays at new (Err Failed) d e some within (inl same) front = stays_here d e same front
write_stays at new (Err Failed) d e some within (inr writes) front =
    stays d e (Over at (length new)) writes.0 front some (λ gate old. front_of_take gate at d.bytes writes.0 some old writes.1.before) writes.2
write_stays at new (Err OutOfMemory) d e some within same front = stays_here d e same front

cut_front : (gate len : ℕ) (bytes : List ℕ) → 1 ≤ len → Front gate bytes → Front gate (take len bytes)
cut_front gate zero bytes some front = absurd (omega arith)
cut_front gate (suc len) bytes some front = (take len front.0, ap (take (suc len)) front.1)

either_front : (gate len : ℕ) (bytes left : List ℕ) → 1 ≤ len → (left ≡ bytes) ⊎ (left ≡ take len bytes) → Front gate bytes → Front gate left
either_front gate len bytes left some (inl same) front = (front.0, same ∙ front.1)
either_front gate len bytes left some (inr cut) front = let c = cut_front gate len bytes some front in (c.0, cut ∙ c.1)

pub cut_stays : {T : Type 0} (len : ℕ) (r : Result T PortError) (d e : DiskState) → 1 ≤ len → Cuts len r d e → StaysUnmade d e
cut_stays len (Ok x) d e some cuts front = stays d e (CutTo len) (take len d.bytes) front some (λ gate old. cut_front gate len d.bytes some old) cuts
cut_stays len (Err Failed) d e some (inl same) front = stays_here d e same front
cut_stays len (Err Failed) d e some (inr cuts) front = stays d e (CutTo len) cuts.0 front some (λ gate old. either_front gate len d.bytes cuts.0 some cuts.1 old) cuts.2
cut_stays len (Err OutOfMemory) d e some same front = stays_here d e same front

pub begins : {T U : Type 0} (text : List ℕ) (x : T) (r : Result U PortError) (d f : DiskState) → Then (Cuts 1 (Ok x)) (Writes 1 text r) d f → StaysUnmade d f
begins text x r d f calls front =
    let first = cut_stays 1 (Ok x) d calls.0 (omega arith) calls.1 front in
    let long : 1 ≤ length calls.0.bytes = omega (arith, ap length first.0.reads.1) in
    let second = write_stays 1 text r calls.0 f (omega arith) long calls.2 first.0 in
    (second.0, later_then IsUnmade d calls.0 f first.1 second.1)

-- the last three calls
torn_open : (gate : ℕ) (rest c : List ℕ) → Torn 0 1 (gate ∷ rest) c → IsMadeOrNot (1 ∷ rest) c
torn_open gate rest [] torn = absurd (let e = torn.no_shorter in omega (arith, e))
torn_open gate rest (g ∷ c) torn =
    let same : c ≡ rest = torn.after in
    elim (cases_eq g 1) [
      | inl open_ ↦ inr (ap (λ (k : ℕ). k ∷ c) open_ ∙ ap (λ (l : List ℕ). 1 ∷ l) same)
      | inr shut ↦ inl (unmade g c shut)
    ]

module _ (d : DiskState) (front : IsShutFront d) where
  abbrev Made : List ℕ → Type 0
  Made = IsMadeOrNot (opened d.bytes)

  made_is : opened d.bytes ≡ 1 ∷ front.reads.0
  made_is = ap opened front.reads.1

  here : Made d.bytes
  here = inl (ap is_made front.reads.1 ∙ unmade front.gate front.reads.0 front.shut)

  synced : {T : Type 0} (x : T) (e : DiskState) → Syncs (Ok x) d e → Stage Made d e
  synced x e sync = stage_synced Made d e x sync here

  opens : {T U : Type 0} (x : T) (r : Result U PortError) (e f : DiskState) → Syncs (Ok x) d e → Writes 0 (1 ∷ []) r e f → Stage Made d f
  opens x r e f sync write = stage_write Made d e f 0 (1 ∷ []) r (synced x e sync) (synced_durable x d e sync) (omega arith) write
      (λ c torn. subst (λ (m : List ℕ). IsMadeOrNot m c) (sym made_is)
      (torn_open front.gate front.reads.0 c (subst (λ (l : List ℕ). Torn 0 1 l c) (synced_bytes x d e sync ∙ front.reads.1) torn)))

since_front : (d e : DiskState) (front : IsShutFront d) → Later (IsMadeOrNot (opened d.bytes)) d e → Since (IsMadeOrNot (opened d.bytes)) d e
since_front d e front later = record { start = λ file image. inl (leaves_unmade d front file image); later = later }

pub finish_1 : {T : Type 0} (r : Result T PortError) (d e : DiskState) → Syncs r d e → Finishes d e
finish_1 (Ok x) d e sync front = since_front d e front (synced d front x e sync).later
finish_1 (Err Failed) d e (inl same) front = since_front d e front (subst (λ s. Later (IsMadeOrNot (opened d.bytes)) d s) (sym same) (later_here (IsMadeOrNot (opened d.bytes)) d))
finish_1 (Err Failed) d e (inr sync) front = since_front d e front (synced d front {T = Unit {0}} tt e sync).later
finish_1 (Err OutOfMemory) d e sync front = since_front d e front (subst (λ s. Later (IsMadeOrNot (opened d.bytes)) d s) (sym sync) (later_here (IsMadeOrNot (opened d.bytes)) d))

pub finish_2 : {T U : Type 0} (x : T) (r : Result U PortError) (d f : DiskState) → Then (Syncs (Ok x)) (Writes 0 (1 ∷ []) r) d f → Finishes d f
finish_2 x r d f calls front = since_front d f front (opens d front x r calls.0 f calls.1 calls.2).later

pub finish_3 : {T U V : Type 0} (x : T) (y : U) (r : Result V PortError) (d h : DiskState) → Then (Then (Syncs (Ok x)) (Writes 0 (1 ∷ []) (Ok y))) (Syncs r) d h → Finishes d h
finish_3 x y r d h calls front = since_front d h front (stage_sync (IsMadeOrNot (opened d.bytes)) d calls.0 h r (opens d front x (Ok y) calls.1.0 calls.0 calls.1.1 calls.1.2) calls.2).later

pub finished : {T U V : Type 0} (x : T) (y : U) (z : V) (d h : DiskState) → Then (Then (Syncs (Ok x)) (Writes 0 (1 ∷ []) (Ok y))) (Syncs (Ok z)) d h → IsFinished d h
finished x y z d h calls front =
    let bytes : calls.1.0.bytes ≡ front.gate ∷ front.reads.0 = synced_bytes x d calls.1.0 calls.1.1 ∙ front.reads.1 in
    (synced_bytes z calls.0 h calls.2 ∙ wrote_bytes y 0 (1 ∷ []) calls.1.0 calls.0 calls.1.2 ∙ ap (λ (l : List ℕ). overwritten l 0 (1 ∷ [])) bytes ∙ sym (made_is d front), synced_durable z calls.0 h calls.2)

-- closing the gate of a made file, or of one of at most one byte
short_not_made : (file : List ℕ) → length file ≤ 1 → is_made file ≡ false
short_not_made [] short = refl
short_not_made (gate ∷ []) short = refl
short_not_made (gate ∷ next ∷ rest) short = absurd (omega arith)

made_open : (gate next : ℕ) (rest : List ℕ) → is_made (gate ∷ next ∷ rest) ≡ true → gate ≡ 1
made_open gate next rest made = elim (cases_eq gate 1) [
  | inl is ↦ is
  | inr shut ↦ absurd (let e : true ≡ false = sym made ∙ unmade gate (next ∷ rest) shut in cc)
]

torn_made : (gate next : ℕ) (rest c : List ℕ) → gate ≡ 1 → Torn 0 1 (gate ∷ next ∷ rest) c → IsMadeOrNot (gate ∷ next ∷ rest) c
torn_made gate next rest [] open_ torn = absurd (let e = torn.no_shorter in omega (arith, e))
torn_made gate next rest (g ∷ c) open_ torn =
    let same : c ≡ next ∷ rest = torn.after in
    elim (cases_eq g 1) [
      | inl is ↦ inr (ap (λ (k : ℕ). k ∷ c) (is ∙ sym open_) ∙ ap (λ (l : List ℕ). gate ∷ l) same)
      | inr shut ↦ inl (unmade g c shut)
    ]

torn_shut : (bytes c : List ℕ) → MayBeShut bytes → Torn 0 1 bytes c → IsMadeOrNot bytes c
torn_shut bytes c (inr short) torn = inl (short_not_made c (omega (arith, torn.no_longer, short)))
torn_shut [] c (inl made) torn = absurd (let e : true ≡ false = sym made in cc)
torn_shut (gate ∷ []) c (inl made) torn = absurd (let e : true ≡ false = sym made in cc)
torn_shut (gate ∷ next ∷ rest) c (inl made) torn = torn_made gate next rest c (made_open gate next rest made) torn

module _ (d : DiskState) (durable : IsDurable d) (may : MayBeShut d.bytes) where
  zeroed : {T : Type 0} (r : Result T PortError) (e : DiskState) → Writes 0 (0 ∷ []) r d e → Stage (IsMadeOrNot d.bytes) d e
  zeroed r e write = stage_write (IsMadeOrNot d.bytes) d d e 0 (0 ∷ []) r (stage_start (IsMadeOrNot d.bytes) d durable (inr refl)) durable (omega arith) write (λ c torn. torn_shut d.bytes c may torn)

  pub closes_1 : {T : Type 0} (r : Result T PortError) (e : DiskState) → Writes 0 (0 ∷ []) r d e → Closes d e
  closes_1 r e write = (zeroed r e write).later

  pub closes_2 : {T U : Type 0} (x : T) (r : Result U PortError) (f : DiskState) → Then (Writes 0 (0 ∷ []) (Ok x)) (Syncs r) d f → Closes d f
  closes_2 x r f calls = (stage_sync (IsMadeOrNot d.bytes) d calls.0 f r (zeroed (Ok x) calls.0 calls.1) calls.2).later

  pub is_closed : {T U : Type 0} (x : T) (y : U) (f : DiskState) → Then (Writes 0 (0 ∷ []) (Ok x)) (Syncs (Ok y)) d f → IsClosed d f
  is_closed x y f calls =
      let is : f.bytes ≡ 0 ∷ drop 1 d.bytes = synced_bytes y calls.0 f calls.2 ∙ wrote_bytes x 0 (0 ∷ []) d calls.0 calls.1 in
      let whole = synced_durable y calls.0 f calls.2 in
      record {
        gate = 0;
        shut = omega arith;
        synced = (drop 1 d.bytes, ap (λ (i : Instant). i.synced) whole ∙ is);
        reads = (drop 1 d.bytes, is);
        behind = subst (λ (i : Instant). AllByRecursion IsBehind i.pending) (sym whole) tt;
      }

-- the name and the first row of a compaction
drop_nil : (n : ℕ) → drop {A = ℕ} n [] ≡ []
drop_nil zero = refl
drop_nil (suc n) = refl

drop_one : (gate n : ℕ) → 1 ≤ n → drop n (gate ∷ []) ≡ []
drop_one gate zero some = absurd (omega arith)
drop_one gate (suc n) some = drop_nil n

append_nil : (xs : List ℕ) → xs ++ [] ≡ xs
append_nil [] = refl
append_nil (x ∷ xs) = ap (λ (l : List ℕ). x ∷ l) (append_nil xs)

pub writes_front : {T U : Type 0} (text : List ℕ) (x : T) (y : U) (d f : DiskState) → Then (Cuts 1 (Ok x)) (Writes 1 text (Ok y)) d f → WritesFront text d f
writes_front text x y d f calls front =
    let first : calls.0.bytes ≡ front.gate ∷ [] = ap (λ (g : DiskState). g.bytes) calls.1 ∙ ap (take 1) front.reads.1 in
    let whole : f.bytes ≡ front.gate ∷ (text ++ []) =
    wrote_bytes y 1 text calls.0 f calls.2 ∙ ap (λ (l : List ℕ). overwritten l 1 text) first ∙ ap (λ (l : List ℕ). front.gate ∷ (text ++ l)) (drop_one front.gate (1 + length text) (omega arith)) in
    ap opened whole ∙ ap (λ (l : List ℕ). 1 ∷ l) (append_nil text)

first_row : (number : ℕ) (text : List ℕ) (e : DiskState) → text ≡ name Two ++ 1 ∷ framed (generation_row number) ++ 0 ∷ [] → opened e.bytes ≡ 1 ∷ text → HasFirstRow number e
first_row number text e is reads =
    let size : length (opened e.bytes) ≡ 31 = ap length (reads ∙ ap (λ (l : List ℕ). 1 ∷ l) is) in
    record {
      known = refl;
      gate = 0;
      rest = [];
      shut = omega arith;
      short = (omega arith, tt);
      file = reads ∙ ap (λ (l : List ℕ). 1 ∷ l) is;
      end_is = refl;
      small = omega (arith, size);
    }

-- a start on a file whose gate is closed
pub begins_shut : (d e : DiskState) → StaysUnmade d e → Begins true d e
begins_shut d e stays front = record { start = λ file image. inl (leaves_unmade d front file image); later = later_weaker IsUnmade (IsMadeOrNot d.bytes) d e (λ file unmade. inl unmade) (stays front).1 }

pub begun_shut : (number : ℕ) (text : List ℕ) (d e : DiskState) → text ≡ name Two ++ 1 ∷ framed (generation_row number) ++ 0 ∷ [] → Both StaysUnmade (WritesFront text) d e → HasBegunFile true number d e
begun_shut number text d e is both front = ((both.0 front).0, first_row number text e is (both.1 front))

-- a start on a file whose gate has to be closed first
pub begins_closed : (d e : DiskState) → Closes d e → Begins false d e
begins_closed d e closes may = record { start = leaves_durable (IsMadeOrNot d.bytes) d may.0 (inr refl); later = closes }

pub begins_open : (d f : DiskState) → Then (Both Closes IsClosed) StaysUnmade d f → Begins false d f
begins_open d f calls may = record {
  start = leaves_durable (IsMadeOrNot d.bytes) d may.0 (inr refl);
  later = later_then (IsMadeOrNot d.bytes) d calls.0 f calls.1.0 (later_weaker IsUnmade (IsMadeOrNot d.bytes) calls.0 f (λ file unmade. inl unmade) (calls.2 calls.1.1).1);
}

pub begun_open : (number : ℕ) (text : List ℕ) (d f : DiskState) → text ≡ name Two ++ 1 ∷ framed (generation_row number) ++ 0 ∷ [] → Then IsClosed (Both StaysUnmade (WritesFront text)) d f → HasBegunFile false number d f
begun_open number text d f is calls may = begun_shut number text calls.0 f is calls.2 calls.1

-- one more row
drop_behind : (gate n : ℕ) (rest : List ℕ) → 1 ≤ n → drop n (gate ∷ rest) ≡ drop n (1 ∷ rest)
drop_behind gate zero rest some = absurd (omega arith)
drop_behind gate (suc n) rest some = refl

opened_over : (gate at : ℕ) (rest text : List ℕ) → 1 ≤ at → opened (overwritten (gate ∷ rest) at text) ≡ overwritten (1 ∷ rest) at text
opened_over gate zero rest text some = absurd (omega arith)
opened_over gate (suc at) rest text some = ap (λ (l : List ℕ). 1 ∷ ((take at rest ++ text) ++ l)) (drop_behind gate (suc at + length text) rest (omega arith))

pub adds_row : {T : Type 0} (at : ℕ) (text : List ℕ) (x : T) (d e : DiskState) → 2 ≤ at → Writes (at - 1) text (Ok x) d e → AddsRow at text d e
adds_row at text x d e some writes rows payload front rests short is few =
    let place : at - 1 ≡ length (spelled Two rows) = omega (arith, rests.end_is) in
    let before : opened d.bytes ≡ 1 ∷ front.reads.0 = ap opened front.reads.1 in
    let over : opened e.bytes ≡ overwritten (opened d.bytes) (at - 1) text =
    ap opened (wrote_bytes x (at - 1) text d e writes ∙ ap (λ (l : List ℕ). overwritten l (at - 1) text) front.reads.1)
    ∙ opened_over front.gate (at - 1) front.reads.0 text (omega arith) ∙ ap (λ (l : List ℕ). overwritten l (at - 1) text) (sym before) in
    let behind = drop (at - 1 + length text) (opened d.bytes) in
    let cut : take (at - 1) (opened d.bytes) ≡ spelled Two rows = ap (take (at - 1)) rests.file ∙ take_at (spelled Two rows) (rests.gate ∷ rests.rest) (at - 1) (sym place) in
    let whole : opened e.bytes ≡ spelled Two (rows ++ payload ∷ []) ++ 0 ∷ behind =
    over ∙ ap (λ (l : List ℕ). (l ++ text) ++ behind) cut ∙ append_assoc (spelled Two rows) text behind ∙ ap (λ (l : List ℕ). spelled Two rows ++ (l ++ behind)) is
    ∙ ap (λ (l : List ℕ). spelled Two rows ++ (1 ∷ l)) (append_assoc (framed payload) (0 ∷ []) behind) ∙ sym (spelled-push Two rows payload (0 ∷ behind)) in
    let within : at - 1 ≤ length (opened d.bytes) = omega (arith, (rest_within rows at (opened d.bytes) rests).1) in
    let size = (torn_overwritten (opened d.bytes) text (at - 1) within).no_longer in
    let small : length (opened e.bytes) ≤ most_bytes = omega (arith, ap length over, size, rests.small, few, some, ap length is, length-framed payload, length-append (framed payload) (0 ∷ [])) in
    let rest = at_rest_again Two Two rests.known rows rests.gate payload behind rests.short short at (opened e.bytes) rests.end_is whole small in
    subst (λ (k : ℕ). IsAtRest Two Two (rows ++ payload ∷ []) k (opened e.bytes)) (omega (arith, length-framed payload, length-append (framed payload) (0 ∷ []))) rest

pub front_long : (d : DiskState) → IsShutFront d → 1 ≤ length d.bytes
front_long d front = omega (arith, ap length front.reads.1)
