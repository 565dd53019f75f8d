-- What the payloads of a store's journal lead to, and what files open with. Own.
use Rattle.std.specs.Prelude.{◌≡◌, ◌⊎◌, ℕ, Bool, true, false, is_some, List, ◌∷◌, Option, Some, Ok}
use Rattle.store_tables.specs.Tables.{Tables}
use Rattle.store_payloads.specs.Folds.{folded_tables}
use Rattle.store_payloads.specs.Laws.{snapshot_payloads}
use Rattle.tx_journal.specs.declared.format.Format.{Format}
use Rattle.tx_journal.specs.declared.format.Format.TheVariants.{One, Two}
use Rattle.tx_journal.specs.File.{Image}
use Rattle.tx_journal.specs.Pair.{Claim, generation_row, first_generation, without_generation}

-- the payloads of a file of this format are of the first form; nothing but the file's name tells it
abbrev pub is_old : Format → Bool
is_old One = true
is_old Two = false

-- What payloads of this form lead to, if each has a reading where it comes: behind a Generation the rows of a snapshot
-- come first, and each command must be accepted where it comes.
abbrev pub contents_in : Bool → List (List ℕ) → Option Tables
contents_in is_first payloads = folded_tables is_first (is_some (first_generation payloads)) (without_generation payloads)

-- what the payloads of a file lead to, in the form that its format tells
abbrev pub contents_of : Image → Option Tables
contents_of held = contents_in (is_old held.format) held.payloads

-- the payloads of a file that a compaction wrote: the Generation, and one row for each entry
abbrev pub compacted_payloads : ℕ → ℕ → Tables → List (List ℕ)
compacted_payloads number now t = generation_row number ∷ snapshot_payloads now t

-- files that are read so open with these contents
abbrev pub OpensWith : Tables → Claim
OpensWith t read = (held : Image) × (read ≡ Ok held) × (contents_of held ≡ Some t)

-- with these contents or those
abbrev pub OpensWithEither : Tables → Tables → Claim
OpensWithEither t u read = OpensWith t read ⊎ OpensWith u read
