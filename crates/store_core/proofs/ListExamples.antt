-- Worked examples of lists.
use Rattle.std.proofs.Common.{◌≡◌, ◌⊎◌, inl, inr, ℕ, ◌+◌, true, false, List, [], ◌∷◌, length, Some, None, refl}
use Rattle.std.specs.Prelude.{codes}
use Rattle.actor_names.specs.Names.{default_space}
use Rattle.frame_wire.specs.declared.store_answer.StoreAnswer.{StoreAnswer}
use Rattle.frame_wire.specs.declared.store_answer.StoreAnswer.TheVariants.{Done, Refused}
use Rattle.frame_wire.specs.declared.store_refusal.StoreRefusal.TheVariants as refusals
use Rattle.store_tables.specs.Tables.{Tables}
use Rattle.store_tables.specs.Contents.{Timed}
use Rattle.tx_journal.specs.declared.error.JournalError.TheVariants.{TooLong, Full}
use Rattle.store_core.specs.Store.{StoreState}
use Rattle.store_core.specs.Lists.{Stays, ahead_by, Joins, Rules, InTurn, Begins, failed_entries, MovesEach, MovesAll}

-- the plain store: nothing stands before it
abbrev pub plain : Rules Timed StoreAnswer
plain = record { given = λ c. c; refusal = λ c s. None; memory = λ c. false; told = λ given. given }

module _ (s : StoreState) (c d : Timed) (after : Tables) where
  -- a command that joins the batch makes the live file longer by five bytes and its payload
  three_bytes_are_eight_longer : (ahead_by (1 ∷ 2 ∷ 3 ∷ []) after s).journal.end ≡ s.journal.end + 5 + 3
  three_bytes_are_eight_longer = refl

  -- one that is too long, or has no room, joins none and changes nothing
  too_long_stays : Joins (Some (TooLong 5242881)) c (Done true) after s (Refused (refusals.CommandTooLong 5242881)) [] s
  too_long_stays = (refl, refl, refl)

  -- if the disk fails, each of the batch is answered so
  failed_are_faults : failed_entries plain ((c, Done true) ∷ (d, Refused refusals.OutOfMemory) ∷ []) ≡ (c, Refused refusals.DiskFault) ∷ (d, Refused refusals.DiskFault) ∷ []
  failed_are_faults = refl

  -- the first of them is the first command of the batch
  batch_begins : Begins plain ((c, Done true) ∷ []) (c ∷ d ∷ [])
  batch_begins = (d ∷ [], refl)

  -- an empty list changes nothing
  pub empty_list_rests : MovesAll plain s [] s
  empty_list_rests = ([], (refl, refl))
