-- Refusals of the placement are read as they are spelled.
use Rattle.std.proofs.Common.{◌≡◌, ℕ, List, refl}
use Rattle.wire_fields.specs.Fields.{number64, row_of}
use Rattle.wire_fields.specs.Parts.{fixed, small, counter}
use Rattle.wire_fields.proofs.FieldLaws.{IsField, number64_law, row_takes, row_again, AllTake, RowsAgain, rows_take, tagged_law}
use Rattle.wire_fields.proofs.PartLaws.{counter_law, fixed_law, small_law}
use Rattle.frame_wire.specs.declared.refusal.Refusal.TheVariants as refusals
use Rattle.frame_wire.specs.Refusals.{refusal_tag, refusal_fields, RefusalFits, refusal_rows, refusal}

refusal_takes : AllTake refusal_tag refusal_fields RefusalFits refusal_rows
refusal_takes = (
  row_takes refusal_tag refusal_fields RefusalFits 1 (λ n. refusals.StaleBoot n) counter_law (λ n. refl) (λ n. refl) (λ n h. h),
  (
    row_takes refusal_tag refusal_fields RefusalFits 2 (λ n. refusals.NodeBusy n) counter_law (λ n. refl) (λ n. refl) (λ n h. h),
    (
      row_takes refusal_tag refusal_fields RefusalFits 3 (λ n. refusals.NotMember n) counter_law (λ n. refl) (λ n. refl) (λ n h. h),
      (
        row_takes refusal_tag refusal_fields RefusalFits 4 (λ n. refusals.Full n) small_law (λ n. refl) (λ n. refl) (λ n h. h),
        (
          row_takes refusal_tag refusal_fields RefusalFits 5 (λ u. refusals.DiskFault) (fixed_law 0) (λ u. refl) (λ u. refl) (λ u h. h),
          (
            row_takes refusal_tag refusal_fields RefusalFits 6 (λ u. refusals.Reopen) (fixed_law 0) (λ u. refl) (λ u. refl) (λ u h. h),
            (
              row_takes refusal_tag refusal_fields RefusalFits 7 (λ u. refusals.OutOfMemory) (fixed_law 0) (λ u. refl) (λ u. refl) (λ u h. h),
              (
                row_takes refusal_tag refusal_fields RefusalFits 8 (λ n. refusals.JournalFull n) number64_law (λ n. refl) (λ n. refl) (λ n h. h),
                (
                  row_takes refusal_tag refusal_fields RefusalFits 9 (λ n. refusals.SpacesFull n) small_law (λ n. refl) (λ n. refl) (λ n h. h),
                  tt,
                ),
              ),
            ),
          ),
        ),
      ),
    ),
  ),
)

refusal_again : RowsAgain refusal_tag refusal_fields RefusalFits (row_of refusal_rows)
refusal_again (refusals.StaleBoot n) rest h = row_again (λ n. refusals.StaleBoot n) counter_law n rest h
refusal_again (refusals.NodeBusy n) rest h = row_again (λ n. refusals.NodeBusy n) counter_law n rest h
refusal_again (refusals.NotMember n) rest h = row_again (λ n. refusals.NotMember n) counter_law n rest h
refusal_again (refusals.Full n) rest h = row_again (λ n. refusals.Full n) small_law n rest h
refusal_again refusals.DiskFault rest h = row_again (λ u. refusals.DiskFault) (fixed_law 0) tt rest h
refusal_again refusals.Reopen rest h = row_again (λ u. refusals.Reopen) (fixed_law 0) tt rest h
refusal_again refusals.OutOfMemory rest h = row_again (λ u. refusals.OutOfMemory) (fixed_law 0) tt rest h
refusal_again (refusals.JournalFull n) rest h = row_again (λ n. refusals.JournalFull n) number64_law n rest h
refusal_again (refusals.SpacesFull n) rest h = row_again (λ n. refusals.SpacesFull n) small_law n rest h

pub refusal_law : IsField refusal
unfolding refusal
refusal_law = tagged_law refusal_tag refusal_fields RefusalFits (row_of refusal_rows) (rows_take refusal_tag refusal_fields RefusalFits refusal_rows refusal_takes) refusal_again
