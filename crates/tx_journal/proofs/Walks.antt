-- From gate to gate.
use Rattle.std.proofs.Common.{◌≡◌, ℕ, zero, suc, ◌+◌, ◌≤◌, true, List, [], ◌∷◌, ◌++◌, length, take, drop, Some, None, Ok, Err, refl, sym, ◌∙◌, ap, subst, arith, length-append, take-append-drop}
use Rattle.std.proofs.lemmas.List.{append-nil}
use Rattle.std.specs.List.{AllByRecursion}
use Rattle.disk_model.specs.Disk.{DiskState}
use Rattle.tx_journal.specs.declared.error.JournalError.{JournalError}
use Rattle.tx_journal.specs.declared.error.JournalError.TheVariants.{DiskFault, Damaged, TooLong, Full, Reopen, NotStarted, OneDisk, Spent, OutOfMemory}
use Rattle.tx_journal.specs.declared.format.Format.{Format}
use Rattle.tx_journal.specs.File.{most_bytes, name, is_known, head, framed, spelled, IsShort, payloads_from, file_payloads}
use Rattle.tx_journal.specs.Journal.{StandsAt, Scans}
use Rattle.tx_journal.proofs.Files.{image_split, with_fronts, fronts_fail, length-framed}
use Rattle.tx_journal.proofs.Records.{spelled-push, short-push}

-- whole records up to this gate
pub record Walked (newest format : Format) (gate : ℕ) (bytes : List ℕ) : Type 0 where
  pub known : is_known newest (name format) ≡ true
  pub payloads : List (List ℕ)
  pub short : AllByRecursion IsShort payloads
  pub whole : bytes ≡ spelled format payloads ++ drop gate bytes
  pub gate_is : gate ≡ length (spelled format payloads)

pub walk_start : {newest format : Format} (bytes : List ℕ) → is_known newest (name format) ≡ true → take 8 bytes ≡ head format → Walked newest format 8 bytes
walk_start bytes known front = record { known = known; payloads = []; short = tt; whole = sym (take-append-drop 8 bytes) ∙ ap (λ (l : List ℕ). l ++ drop 8 bytes) front; gate_is = refl }

pub walk_more : {newest format : Format} (gate next : ℕ) (d : DiskState) → Walked newest format gate d.bytes → StandsAt gate (Ok (Some next)) d → Walked newest format next d.bytes
walk_more {newest} {format} gate next d walked stands =
    let payload = stands.0 in
    let size : length (spelled format (walked.payloads ++ payload ∷ [])) ≡ length (spelled format walked.payloads) + suc (length (framed payload)) =
    ap length (sym (append-nil (spelled format (walked.payloads ++ payload ∷ []))) ∙ spelled-push format walked.payloads payload [] ∙ ap (λ (l : List ℕ). spelled format walked.payloads ++ (1 ∷ l)) (append-nil (framed payload))) ∙ length-append (spelled format walked.payloads) (1 ∷ framed payload) in
    record {
      known = walked.known;
      payloads = walked.payloads ++ payload ∷ [];
      short = short-push walked.payloads payload walked.short stands.1;
      whole = walked.whole ∙ ap (λ (l : List ℕ). spelled format walked.payloads ++ l) stands.2 ∙ sym (spelled-push format walked.payloads payload (drop next d.bytes));
      gate_is = omega (arith, stands.3, walked.gate_is, size, length-framed payload);
    }

pub walk_end : {newest format : Format} (gate : ℕ) (d : DiskState) → Walked newest format gate d.bytes → StandsAt gate (Ok None) d → length d.bytes ≤ most_bytes → Scans newest format (Ok (gate + 1)) d
walk_end {newest} {format} gate d walked stands small = (
  walked.payloads,
  record {
    known = walked.known;
    gate = stands.0;
    rest = stands.1;
    shut = stands.2;
    short = walked.short;
    file = walked.whole ∙ ap (λ (l : List ℕ). spelled format walked.payloads ++ l) stands.3;
    end_is = omega (arith, walked.gate_is);
    small = small;
  },
)

pub walk_fails : {newest format : Format} (gate : ℕ) (e : JournalError) (d : DiskState) → Walked newest format gate d.bytes → StandsAt gate (Err e) d → Scans newest format (Err e) d
walk_fails gate DiskFault d walked stands = tt
walk_fails gate OutOfMemory d walked stands = tt
walk_fails gate (TooLong n) d walked stands = stands
walk_fails gate (Full len) d walked stands = stands
walk_fails gate Reopen d walked stands = stands
walk_fails gate NotStarted d walked stands = stands
walk_fails gate OneDisk d walked stands = stands
walk_fails gate (Spent count) d walked stands = stands
walk_fails {newest} {format} gate (Damaged offset) d walked stands =
    let split = image_split newest format walked.payloads (drop gate d.bytes) walked.known walked.short in
    let at : payloads_from split.0 (length (spelled format walked.payloads)) (drop gate d.bytes) ≡ Err offset = some_left split.0 split.1 in
    ap (file_payloads newest) walked.whole ∙ split.2 ∙ ap (with_fronts walked.payloads) at ∙ fronts_fail walked.payloads offset
  where
    some_left : (most : ℕ) → 1 ≤ most → payloads_from most (length (spelled format walked.payloads)) (drop gate d.bytes) ≡ Err offset
    some_left zero some = absurd (omega arith)
    some_left (suc most) some = subst (λ (k : ℕ). payloads_from (suc most) k (drop gate d.bytes) ≡ Err offset) walked.gate_is (stands most)
