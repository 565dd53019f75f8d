-- Worked examples of what an answer of the store comes to, and of what is printed.
use Rattle.std.proofs.Common.{◌≡◌, true, [], Some, None, Ok, Err, codes, refl}
use Rattle.app_texts.specs.declared.config_error.ConfigError.TheVariants as errors
use Rattle.frame_wire.specs.declared.frame.Frame.TheVariants.{Answer, Idle}
use Rattle.frame_wire.specs.declared.store_answer.StoreAnswer.TheVariants.{Booted, Done, Refused}
use Rattle.frame_wire.specs.declared.store_refusal.StoreRefusal.TheVariants.{NodesFull, Spent}
use Rattle.exchanges.specs.declared.frame_end.FrameEnd.TheVariants.{NoFrame, ConnFault}
use Rattle.sidecar_start.specs.declared.end.StartEnd.TheVariants.{StoreRefused, AppConfig, DialFault}
use Rattle.sidecar_start.specs.Booting.{boot_in}
use Rattle.sidecar_start.specs.Ends.{end_line}

boot_is_drawn : boot_in (Ok (Answer (Booted 7))) ≡ Ok (Some 7)
boot_is_drawn = refl

refusal_is_the_end : boot_in (Ok (Answer (Refused (NodesFull 9)))) ≡ Err (StoreRefused 3)
refusal_is_the_end = refl

spent_is_the_end : boot_in (Ok (Answer (Refused Spent))) ≡ Err (StoreRefused 4)
spent_is_the_end = refl

-- another answer, another frame, and bytes that are none
done_is_asked_again : boot_in (Ok (Answer (Done true))) ≡ Ok None
done_is_asked_again = refl

idle_is_asked_again : boot_in (Ok Idle) ≡ Ok None
idle_is_asked_again = refl

cut_is_asked_again : boot_in (Err (NoFrame 3)) ≡ Ok None
cut_is_asked_again = refl

fault_is_asked_again : boot_in (Err ConnFault) ≡ Ok None
fault_is_asked_again = refl

key_is_printed : end_line (AppConfig (errors.BadKey (codes "entities"))) ≡ codes "application bad-key entities\n"
key_is_printed = refl

failed_dial_is_not_printed : end_line DialFault ≡ []
failed_dial_is_not_printed = refl
