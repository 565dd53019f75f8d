-- What an opening sees of a file: own.
use Rattle.std.specs.Prelude.{◌≡◌, Bool, true, false, not, ◌&&◌, ◌||◌, length, nat_lt}
use Rattle.disk_model.specs.Disk.{DiskState}
use Rattle.tx_journal.specs.declared.format.Format.TheVariants.{Two}
use Rattle.tx_journal.specs.declared.kind.FileKind.{FileKind}
use Rattle.tx_journal.specs.declared.kind.FileKind.TheVariants.{Unmade, Other, Journal as Journal_}
use Rattle.tx_journal.specs.declared.survey.Seen.{Seen}
use Rattle.tx_journal.specs.Pair.{file_generation, number}
use Rattle.tx_journal.specs.Journal.{LooksLike}

-- a file of this kind is made
abbrev pub is_made_kind : FileKind → Bool
is_made_kind Unmade = false
is_made_kind Other = true
is_made_kind (Journal_ format) = true

-- what was seen is true of the disk
pub record Sees (d : DiskState) (seen : Seen) : Type 0 where
  pub len_is : seen.len ≡ length d.bytes
  pub kind_is : LooksLike Two d seen.kind
  pub generation_is : seen.generation ≡ file_generation d.bytes

-- by what was seen, the second is the live one
abbrev pub is_second_seen : Seen → Seen → Bool
is_second_seen first second = is_made_kind second.kind && (not (is_made_kind first.kind) || nat_lt (number first.generation) (number second.generation))
