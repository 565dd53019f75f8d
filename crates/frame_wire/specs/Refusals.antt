-- Why the placement refuses a message, and how that is spelled. Own.
use Rattle.std.specs.Prelude.{ℕ, List, [], ◌∷◌}
use Rattle.wire_fields.specs.Fields.{Reading, Field, number64, row, row_of, tagged}
use Rattle.wire_fields.specs.Parts.{counter, fixed, small}
use Rattle.frame_wire.specs.declared.refusal.Refusal.{Refusal}
use Rattle.frame_wire.specs.declared.refusal.Refusal.TheVariants as refusals

abbrev pub refusal_tag : Refusal → ℕ
refusal_tag (refusals.StaleBoot greatest) = 1
refusal_tag (refusals.NodeBusy boot) = 2
refusal_tag (refusals.NotMember greatest) = 3
refusal_tag (refusals.Full members) = 4
refusal_tag refusals.DiskFault = 5
refusal_tag refusals.Reopen = 6
refusal_tag refusals.OutOfMemory = 7
refusal_tag (refusals.JournalFull len) = 8
refusal_tag (refusals.SpacesFull spaces) = 9

abbrev pub refusal_fields : Refusal → List ℕ
refusal_fields (refusals.StaleBoot greatest) = counter.spell greatest
refusal_fields (refusals.NodeBusy boot) = counter.spell boot
refusal_fields (refusals.NotMember greatest) = counter.spell greatest
refusal_fields (refusals.Full members) = small.spell members
refusal_fields refusals.DiskFault = (fixed 0).spell tt
refusal_fields refusals.Reopen = (fixed 0).spell tt
refusal_fields refusals.OutOfMemory = (fixed 0).spell tt
refusal_fields (refusals.JournalFull len) = number64.spell len
refusal_fields (refusals.SpacesFull spaces) = small.spell spaces

abbrev pub RefusalFits : Refusal → Type 0
RefusalFits (refusals.StaleBoot greatest) = counter.Fits greatest
RefusalFits (refusals.NodeBusy boot) = counter.Fits boot
RefusalFits (refusals.NotMember greatest) = counter.Fits greatest
RefusalFits (refusals.Full members) = small.Fits members
RefusalFits refusals.DiskFault = (fixed 0).Fits tt
RefusalFits refusals.Reopen = (fixed 0).Fits tt
RefusalFits refusals.OutOfMemory = (fixed 0).Fits tt
RefusalFits (refusals.JournalFull len) = number64.Fits len
RefusalFits (refusals.SpacesFull spaces) = small.Fits spaces

abbrev pub refusal_rows : List (ℕ × Reading Refusal)
refusal_rows =
    (1, row counter (λ n. refusals.StaleBoot n))
    ∷ (2, row counter (λ n. refusals.NodeBusy n))
    ∷ (3, row counter (λ n. refusals.NotMember n))
    ∷ (4, row small (λ n. refusals.Full n))
    ∷ (5, row (fixed 0) (λ u. refusals.DiskFault))
    ∷ (6, row (fixed 0) (λ u. refusals.Reopen))
    ∷ (7, row (fixed 0) (λ u. refusals.OutOfMemory))
    ∷ (8, row number64 (λ n. refusals.JournalFull n))
    ∷ (9, row small (λ n. refusals.SpacesFull n))
    ∷ []

-- a code, and then the number that belongs to it
unfoldable pub refusal : Field Refusal
refusal = tagged refusal_tag refusal_fields RefusalFits (row_of refusal_rows)
