-- Number and format of a live file.
use Rattle.std.proofs.Common.{◌≡◌, ℕ, true, false, List, Option, Some, refl, sym, ◌∙◌}
use Rattle.disk_model.specs.Disk.{DiskState}
use Rattle.tx_journal.specs.declared.find.Cursor.{Cursor}
use Rattle.tx_journal.specs.declared.format.Format.{Format}
use Rattle.tx_journal.specs.declared.format.Format.TheVariants.{One, Two}
use Rattle.tx_journal.specs.declared.pair.Found.{Found}
use Rattle.tx_journal.specs.declared.kind.FileKind.{FileKind}
use Rattle.tx_journal.specs.declared.kind.FileKind.TheVariants.{Unmade, Other, Journal as Journal_}
use Rattle.tx_journal.specs.File.{name, is_known}
use Rattle.tx_journal.specs.Journal.{IsKind, IsKnownKind}
use Rattle.tx_journal.specs.Pair.{file_generation}
use Rattle.tx_journal.specs.Sound.{IsLive}
use Rattle.tx_journal.specs.Found.{live_told, at_first, IsFound}
use Rattle.tx_journal.proofs.Chosen.{rest_generation}

-- a live file of a pair has the number that was found in it
pub live_numbered : (format : Format) (generation : Option ℕ) (end : ℕ) (cursor : Cursor) (d : DiskState) → IsLive Two format generation end cursor d → generation ≡ file_generation d.bytes
live_numbered format generation end cursor d live = sym (live.numbered refl) ∙ sym (rest_generation live.payloads end d.bytes live.settled.file)

pub found_numbered : (found : Found) (first second : Option DiskState) (d : DiskState) → IsFound found first second → live_told found.is_second_live first second ≡ Some d → found.generation ≡ file_generation d.bytes
found_numbered found first second d is tells = live_numbered found.format found.generation found.end at_first d (is.live d tells)

-- formats that a journal knows
pub kind_known : (newest : Format) (front : List ℕ) (kind : FileKind) → IsKind newest front kind → IsKnownKind newest kind
kind_known newest front Unmade is = tt
kind_known newest front Other is = tt
kind_known newest front (Journal_ format) is = is.1

pub newest_known : (newest : Format) → is_known newest (name newest) ≡ true
newest_known One = refl
newest_known Two = refl

pub known_one : (format : Format) → is_known One (name format) ≡ true → format ≡ One
known_one One known = refl
known_one Two known = absurd (let e : false ≡ true = known in cc)
