-- The calls by which a file is made.
use Rattle.std.proofs.Common.{◌≡◌, ◌≢◌, inl, inr, ℕ, suc, ◌≤◌, true, false, List, [], ◌∷◌, ◌++◌, length, take, drop, Result, Ok, refl, sym, ◌∙◌, ap, subst, arith}
use Rattle.std.proofs.lemmas.Bool.{cases_eq}
use Rattle.std.proofs.lemmas.List.{length-drop}
use Rattle.std.proofs.lemmas.Bool.Decides.{nat_tests}
use Rattle.actor_ports.specs.declared.port.PortError.{PortError}
use Rattle.disk_model.specs.Disk.{DiskState, Torn, overwritten, Writes, Syncs}
use Rattle.disk_model.specs.Crash.{IsDurable}
use Rattle.disk_model.proofs.Stages.{Then, Both, Stage, stage_start, stage_write, stage_sync, synced_durable, synced_bytes, wrote_bytes}
use Rattle.tx_journal.specs.declared.format.Format.{Format}
use Rattle.tx_journal.specs.declared.format.Format.TheVariants.{One, Two}
use Rattle.tx_journal.specs.File.{most_bytes, name, is_known, is_made, file_payloads, IsEmptyOrUnmade, IsBeingMade}
use Rattle.tx_journal.specs.Journal.{IsAtRest, IsShut, Makes, IsNew, Shuts, WasShut, Creates, IsCreated}
use Rattle.disk_model.proofs.Moments.{later_then, later_weaker}
use Rattle.tx_journal.proofs.Files.{image_closed}

pub unmade : (gate : ℕ) (rest : List ℕ) → gate ≢ 1 → is_made (gate ∷ rest) ≡ false
unmade gate [] shut = refl
unmade gate (next ∷ rest) shut = grind (arith, nat_tests)

pub short_unmade : (bytes : List ℕ) → length bytes ≤ 1 → is_made bytes ≡ false
short_unmade [] short = refl
short_unmade (gate ∷ []) short = refl
short_unmade (gate ∷ next ∷ rest) short = absurd (omega arith)

abbrev P : Format → List ℕ → List ℕ → Type 0
P format bytes = IsBeingMade format bytes

-- a journal that knows the formats up to this one knows it
pub knows : (format : Format) → is_known format (name format) ≡ true
knows One = refl
knows Two = refl

module _ (format : Format) {T : Type 0} where
  shut_1 : (r : Result T PortError) (d a : DiskState) → Writes 0 (0 ∷ []) r d a → IsDurable d → length d.bytes ≤ 1 → Stage (P format d.bytes) d a
  shut_1 r d a write durable short =
      stage_write (P format d.bytes) d d a 0 (0 ∷ []) r (stage_start (P format d.bytes) d durable (inl (short_unmade d.bytes short), λ room. room)) durable (omega arith) write
      (λ c torn. (inl (short_unmade c (omega (arith, torn.no_longer, short))), λ room. omega (arith, torn.no_longer, room)))

  pub shuts_1 : (r : Result T PortError) (d a : DiskState) → Writes 0 (0 ∷ []) r d a → Shuts format d a
  shuts_1 r d a write durable short = (shut_1 r d a write durable short).later

  pub shuts_2 : (x : T) (r : Result T PortError) (d b : DiskState) → Then (Writes 0 (0 ∷ []) (Ok x)) (Syncs r) d b → Shuts format d b
  shuts_2 x r d b calls durable short = (stage_sync (P format d.bytes) d calls.0 b r (shut_1 (Ok x) d calls.0 calls.1 durable short) calls.2).later

  pub shuts_all : (x y : T) (d b : DiskState) → Then (Writes 0 (0 ∷ []) (Ok x)) (Syncs (Ok y)) d b → WasShut d b
  shuts_all x y d b calls durable short =
      let is : b.bytes ≡ 0 ∷ drop 1 d.bytes = synced_bytes y calls.0 b calls.2 ∙ wrote_bytes x 0 (0 ∷ []) d calls.0 calls.1 in
      ((0, drop 1 d.bytes, omega arith, is), synced_durable y calls.0 b calls.2, omega (arith, ap length is), omega (arith, ap length is, length-drop 1 d.bytes, short))

-- name and first gate behind a closed gate
abbrev body : Format → List ℕ
body format = name format ++ 0 ∷ []

front_stays : (gate : ℕ) (c : List ℕ) → gate ≢ 1 → take 1 c ≡ gate ∷ [] → is_made c ≡ false
front_stays gate [] shut front = absurd cc
front_stays gate (x ∷ c) shut front = let same : gate ≡ x = cc in subst (λ (k : ℕ). is_made (k ∷ c) ≡ false) same (unmade gate c shut)

opens_new : (format : Format) (g : ℕ) (rest : List ℕ) → IsEmptyOrUnmade format (g ∷ (name format ++ 0 ∷ rest))
opens_new format g rest = elim (cases_eq g 1) [
  | inl open_ ↦ inr (ap (λ (k : ℕ). file_payloads format (k ∷ (name format ++ 0 ∷ rest))) open_ ∙ image_closed format format [] 0 rest (knows format) tt (omega arith))
  | inr shut ↦ inl (unmade g (name format ++ 0 ∷ rest) shut)
]

torn_front : (format : Format) (gate : ℕ) (rest c : List ℕ) → Torn 0 1 (gate ∷ (name format ++ 0 ∷ rest)) c → IsEmptyOrUnmade format c
torn_front format gate rest [] torn = absurd (let e = torn.no_shorter in omega (arith, e))
torn_front format gate rest (g ∷ c) torn = let same : c ≡ name format ++ 0 ∷ rest = torn.after in subst (λ (l : List ℕ). IsEmptyOrUnmade format (g ∷ l)) (sym same) (opens_new format g rest)

module _ (format : Format) (d : DiskState) (durable : IsDurable d) (shut : IsShut d.bytes) where
  start : Stage (P format d.bytes) d d
  start = stage_start (P format d.bytes) d durable (inl (ap is_made shut.3 ∙ unmade shut.0 shut.1 shut.2), λ room. room)

  len : length d.bytes ≡ suc (length shut.1)
  len = ap length shut.3

  body_long : length (body format) ≡ 8
  body_long = refl

  first : {T : Type 0} (r : Result T PortError) (a : DiskState) → Writes 1 (body format) r d a → Stage (P format d.bytes) d a
  first r a write = stage_write (P format d.bytes) d d a 1 (body format) r start durable (omega (arith, len)) write
      (λ c torn. (inl (front_stays shut.0 c shut.2 (torn.before ∙ ap (take 1) shut.3)), λ room. omega (arith, torn.no_longer, body_long, room)))

  second : {T : Type 0} (x : T) (r : Result T PortError) (a b : DiskState) → Writes 1 (body format) (Ok x) d a → Syncs r a b → Stage (P format d.bytes) d b
  second x r a b write sync = stage_sync (P format d.bytes) d a b r (first (Ok x) a write) sync

  named : {T : Type 0} (x y : T) (a b : DiskState) → Writes 1 (body format) (Ok x) d a → Syncs (Ok y) a b → b.bytes ≡ shut.0 ∷ (name format ++ 0 ∷ drop 8 shut.1)
  named x y a b write sync = synced_bytes y a b sync ∙ wrote_bytes x 1 (body format) d a write ∙ ap (λ (l : List ℕ). overwritten l 1 (body format)) shut.3

  third : {T : Type 0} (x y : T) (r : Result T PortError) (a b e : DiskState) → Writes 1 (body format) (Ok x) d a → Syncs (Ok y) a b → Writes 0 (1 ∷ []) r b e → Stage (P format d.bytes) d e
  third x y r a b e write sync open_ = stage_write (P format d.bytes) d b e 0 (1 ∷ []) r (second x (Ok y) a b write sync) (synced_durable y a b sync) (omega arith) open_
      (λ c torn. (
        torn_front format shut.0 (drop 8 shut.1) c (subst (λ (l : List ℕ). Torn 0 1 l c) (named x y a b write sync) torn),
        λ room. omega (arith, torn.no_longer, ap length (named x y a b write sync), length-drop 8 shut.1, len, room),
      ))

  fourth : {T : Type 0} (x y z : T) (r : Result T PortError) (a b e f : DiskState) → Writes 1 (body format) (Ok x) d a → Syncs (Ok y) a b → Writes 0 (1 ∷ []) (Ok z) b e → Syncs r e f → Stage (P format d.bytes) d f
  fourth x y z r a b e f write sync open_ again = stage_sync (P format d.bytes) d e f r (third x y (Ok z) a b e write sync open_) again

  new : {T : Type 0} → length d.bytes ≤ most_bytes → (x y z w : T) (a b e f : DiskState) → Writes 1 (body format) (Ok x) d a → Syncs (Ok y) a b → Writes 0 (1 ∷ []) (Ok z) b e → Syncs (Ok w) e f → IsAtRest format format [] 9 f.bytes × IsDurable f
  new room x y z w a b e f write sync open_ again =
      let is : f.bytes ≡ 1 ∷ (name format ++ 0 ∷ drop 8 shut.1) = synced_bytes w e f again ∙ wrote_bytes z 0 (1 ∷ []) b e open_ ∙ ap (λ (l : List ℕ). overwritten l 0 (1 ∷ [])) (named x y a b write sync) in
      let small : length f.bytes ≤ most_bytes = omega (arith, ap length is, length-drop 8 shut.1, len, room) in
      (record { known = knows format; gate = 0; rest = drop 8 shut.1; shut = omega arith; short = tt; file = is; end_is = refl; small = small }, synced_durable w e f again)

module _ (format : Format) {T : Type 0} where
  pub makes_1 : (r : Result T PortError) (d a : DiskState) → Writes 1 (body format) r d a → Makes format d a
  makes_1 r d a write durable shut = (first format d durable shut r a write).later

  pub makes_2 : (x : T) (r : Result T PortError) (d b : DiskState) → Then (Writes 1 (body format) (Ok x)) (Syncs r) d b → Makes format d b
  makes_2 x r d b calls durable shut = (second format d durable shut x r calls.0 b calls.1 calls.2).later

  pub makes_3 : (x y : T) (r : Result T PortError) (d e : DiskState) → Then (Then (Writes 1 (body format) (Ok x)) (Syncs (Ok y))) (Writes 0 (1 ∷ []) r) d e → Makes format d e
  makes_3 x y r d e calls durable shut = (third format d durable shut x y r calls.1.0 calls.0 e calls.1.1 calls.1.2 calls.2).later

  pub makes_4 : (x y z : T) (r : Result T PortError) (d f : DiskState) → Then (Then (Then (Writes 1 (body format) (Ok x)) (Syncs (Ok y))) (Writes 0 (1 ∷ []) (Ok z))) (Syncs r) d f → Makes format d f
  makes_4 x y z r d f calls durable shut = (fourth format d durable shut x y z r calls.1.1.0 calls.1.0 calls.0 f calls.1.1.1 calls.1.1.2 calls.1.2 calls.2).later

  pub makes_all : (x y z w : T) (d f : DiskState) → Then (Then (Then (Writes 1 (body format) (Ok x)) (Syncs (Ok y))) (Writes 0 (1 ∷ []) (Ok z))) (Syncs (Ok w)) d f → IsNew format d f
  makes_all x y z w d f calls durable shut room = new format d durable shut room x y z w calls.1.1.0 calls.1.0 calls.0 f calls.1.1.1 calls.1.1.2 calls.1.2 calls.2

-- a file that isn't made has a closed gate, if it has two bytes or more
pub shut_of : (bytes : List ℕ) → is_made bytes ≡ false → 2 ≤ length bytes → IsShut bytes
shut_of [] unmade_ long = absurd (omega arith)
shut_of (gate ∷ []) unmade_ long = absurd (omega arith)
shut_of (gate ∷ next ∷ rest) unmade_ long = (gate, next ∷ rest, (λ open_. absurd (let e : false ≡ true = sym unmade_ ∙ ap (λ (k : ℕ). is_made (k ∷ next ∷ rest)) open_ in cc)), refl)

pub creates_short : (format : Format) (d f : DiskState) → length d.bytes ≤ 1 → Then (Both (Shuts format) WasShut) (Makes format) d f → Creates format d f
creates_short format d f short calls durable unmade_ =
    let was = calls.1.1 durable short in
    later_then (P format d.bytes) d calls.0 f (calls.1.0 durable short)
    (later_weaker (P format calls.0.bytes) (P format d.bytes) calls.0 f (λ c left. (left.0, λ room. left.1 (omega (arith, was.3)))) (calls.2 was.1 was.0))

pub created_short : (format : Format) (d f : DiskState) → length d.bytes ≤ 1 → Then (Both (Shuts format) WasShut) (IsNew format) d f → IsCreated format d f
created_short format d f short calls durable unmade_ room =
    let was = calls.1.1 durable short in
    calls.2 was.1 was.0 (omega (arith, was.3))
