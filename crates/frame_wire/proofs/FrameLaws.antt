-- Frames are read as they are spelled.
use Rattle.std.proofs.Common.{◌≡◌, ℕ, List, [], ◌++◌, Option, Some, None, option_map, Ok, refl, sym, ap, subst, ◌∙◌}
use Rattle.wire_fields.specs.Fields.{Reading, number64, nothing, both, row, by_row, made_of, whole}
use Rattle.wire_fields.proofs.FieldLaws.{IsBytes, IsField, number32_law, number64_law, nothing_law, both_law, only_law, sized_law, row_takes, row_again, made_takes, RowTakes, RowsAgain, tagged_law}
use Rattle.wire_fields.proofs.FieldLaws.{whole_takes as takes_whole, whole_again as again_whole}
use Rattle.wire_fields.proofs.PartLaws.{counter_law, member_law, host_law, hosts_law, stage_law, actor_law}
use Rattle.wire_fields.proofs.RecordLaws.{ops_law}
use Rattle.frame_wire.specs.declared.frame.Frame.{Frame}
use Rattle.frame_wire.specs.declared.frame.Frame.TheVariants.{Register, Beat, Ack, Leave, Lock, Update, Unlock, Idle, Refused, Gone, FencedTx, Mirror, Mirrored, Command, Answer}
use Rattle.frame_wire.specs.declared.kind.Kind.{Kind}
use Rattle.frame_wire.specs.declared.kind.Kind.TheVariants as kind
use Rattle.frame_wire.specs.Kinds.{kind_of, byte_of, command_byte, answer_byte}
use Rattle.frame_wire.specs.Store.{command_tag, command_fields, CommandFits, command_row, answer_fields, AnswerFits, answer_row}
use Rattle.frame_wire.specs.declared.mirror.MirrorCommand.TheVariants as commands
use Rattle.frame_wire.specs.declared.mirror.MirrorAnswer.TheVariants as answers
use Rattle.frame_wire.specs.Mirrors.{piece}
use Rattle.frame_wire.specs.Frames.{frame_kind, frame_fields, FieldsFit, kind_row, payload, whole_frame}
use Rattle.frame_wire.proofs.KindLaws.{some_is, kind_of-byte, byte_of-kind}
use Rattle.frame_wire.proofs.RefusalLaws.{refusal_law}
use Rattle.frame_wire.proofs.StoreLaws.{stamp_law, command_takes, command_again, answer_tag, answer_takes, answer_again}

piece_law : IsField piece
unfolding piece
piece_law = sized_law (only_law _ number32_law)

abbrev frame_tag : Frame → ℕ
frame_tag f = byte_of (frame_kind f)

kind_takes : (k : Kind) → RowTakes frame_tag frame_fields FieldsFit (byte_of k) (kind_row k)
kind_takes kind.Register = row_takes frame_tag frame_fields FieldsFit 1 (λ h. Register h) host_law (λ h. refl) (λ h. refl) (λ h fits. fits)
kind_takes kind.Beat = row_takes frame_tag frame_fields FieldsFit 2 (λ m. Beat m) member_law (λ m. refl) (λ m. refl) (λ m fits. fits)
kind_takes kind.Ack = row_takes frame_tag frame_fields FieldsFit 3 (λ p. Ack p.0 p.1.0 p.1.1) (both_law member_law (both_law stage_law counter_law)) (λ p. refl) (λ p. refl) (λ p fits. fits)
kind_takes kind.Leave = row_takes frame_tag frame_fields FieldsFit 4 (λ m. Leave m) member_law (λ m. refl) (λ m. refl) (λ m fits. fits)
kind_takes kind.Lock = row_takes frame_tag frame_fields FieldsFit 16 (λ n. Lock n) counter_law (λ n. refl) (λ n. refl) (λ n fits. fits)
kind_takes kind.Update = row_takes frame_tag frame_fields FieldsFit 17 (λ p. Update p.0 p.1) (both_law counter_law hosts_law) (λ p. refl) (λ p. refl) (λ p fits. fits)
kind_takes kind.Unlock = row_takes frame_tag frame_fields FieldsFit 18 (λ n. Unlock n) counter_law (λ n. refl) (λ n. refl) (λ n fits. fits)
kind_takes kind.Idle = row_takes frame_tag frame_fields FieldsFit 19 (λ u. Idle) nothing_law (λ u. refl) (λ u. refl) (λ u fits. tt)
kind_takes kind.Refused = row_takes frame_tag frame_fields FieldsFit 20 (λ r. Refused r) refusal_law (λ r. refl) (λ r. refl) (λ r fits. fits)
kind_takes kind.Gone = row_takes frame_tag frame_fields FieldsFit 21 (λ u. Gone) nothing_law (λ u. refl) (λ u. refl) (λ u fits. tt)
kind_takes kind.FencedTx =
    row_takes frame_tag frame_fields FieldsFit 40 (λ p. FencedTx p.0 p.1.0 p.1.1.0 p.1.1.1) (both_law counter_law (both_law stamp_law (both_law actor_law ops_law))) (λ p. refl) (λ p. refl) (λ p fits. fits)
kind_takes kind.MirrorWrite = row_takes frame_tag frame_fields FieldsFit 64 (λ p. Mirror (commands.Write p.0 p.1)) (both_law number64_law piece_law) (λ p. refl) (λ p. refl) (λ p fits. fits)
kind_takes kind.MirrorCut = row_takes frame_tag frame_fields FieldsFit 65 (λ n. Mirror (commands.Cut n)) number64_law (λ n. refl) (λ n. refl) (λ n fits. fits)
kind_takes kind.MirrorSync = row_takes frame_tag frame_fields FieldsFit 66 (λ u. Mirror commands.Sync) nothing_law (λ u. refl) (λ u. refl) (λ u fits. tt)
kind_takes kind.MirrorDone = row_takes frame_tag frame_fields FieldsFit 67 (λ u. Mirrored answers.Done) nothing_law (λ u. refl) (λ u. refl) (λ u fits. tt)
kind_takes kind.MirrorFault = row_takes frame_tag frame_fields FieldsFit 68 (λ u. Mirrored answers.Fault) nothing_law (λ u. refl) (λ u. refl) (λ u fits. tt)
kind_takes (kind.Command k) =
    made_takes command_tag command_fields CommandFits frame_tag frame_fields FieldsFit (command_byte k) (command_row k) (λ c. Command c) (λ c. refl) (λ c. refl) (λ c fits. fits) (command_takes k)
kind_takes (kind.Answer k) =
    made_takes answer_tag answer_fields AnswerFits frame_tag frame_fields FieldsFit (answer_byte k) (answer_row k) (λ a. Answer a) (λ a. refl) (λ a. refl) (λ a fits. fits) (answer_takes k)

from_kind : (t : ℕ) (found : Option Kind) (r : Reading Frame) → kind_of t ≡ found → option_map kind_row found ≡ Some r → RowTakes frame_tag frame_fields FieldsFit t r
from_kind t None r is e = absurd cc
from_kind t (Some k) r is e =
    subst (λ (q : Reading Frame). RowTakes frame_tag frame_fields FieldsFit t q) (some_is (kind_row k) r e) (subst (λ (n : ℕ). RowTakes frame_tag frame_fields FieldsFit n (kind_row k)) (kind_of-byte t k is) (kind_takes k))

kind_again : (f : Frame) (rest : List ℕ) → FieldsFit f → kind_row (frame_kind f) (frame_fields f ++ rest) ≡ Ok (f, rest)
kind_again (Register h) rest fits = row_again (λ h. Register h) host_law h rest fits
kind_again (Beat m) rest fits = row_again (λ m. Beat m) member_law m rest fits
kind_again (Ack m s n) rest fits = row_again (λ p. Ack p.0 p.1.0 p.1.1) (both_law member_law (both_law stage_law counter_law)) (m, (s, n)) rest fits
kind_again (Leave m) rest fits = row_again (λ m. Leave m) member_law m rest fits
kind_again (Lock n) rest fits = row_again (λ n. Lock n) counter_law n rest fits
kind_again (Update n hs) rest fits = row_again (λ p. Update p.0 p.1) (both_law counter_law hosts_law) (n, hs) rest fits
kind_again (Unlock n) rest fits = row_again (λ n. Unlock n) counter_law n rest fits
kind_again Idle rest fits = refl
kind_again (Refused r) rest fits = row_again (λ r. Refused r) refusal_law r rest fits
kind_again Gone rest fits = refl
kind_again (FencedTx epoch s a ops) rest fits = row_again (λ p. FencedTx p.0 p.1.0 p.1.1.0 p.1.1.1) (both_law counter_law (both_law stamp_law (both_law actor_law ops_law))) (epoch, (s, (a, ops))) rest fits
kind_again (Mirror (commands.Write at bytes)) rest fits = row_again (λ p. Mirror (commands.Write p.0 p.1)) (both_law number64_law piece_law) (at, bytes) rest fits
kind_again (Mirror (commands.Cut len)) rest fits = row_again (λ n. Mirror (commands.Cut n)) number64_law len rest fits
kind_again (Mirror commands.Sync) rest fits = refl
kind_again (Mirrored answers.Done) rest fits = refl
kind_again (Mirrored answers.Fault) rest fits = refl
kind_again (Command c) rest fits = rw (command_again c rest fits) refl
kind_again (Answer a) rest fits = rw (answer_again a rest fits) refl

frame_again : RowsAgain frame_tag frame_fields FieldsFit (λ b. option_map kind_row (kind_of b))
frame_again f rest fits =
    ap (λ (found : Option Kind). by_row (frame_tag f) (option_map kind_row found) (frame_fields f ++ rest)) (byte_of-kind (frame_kind f)) ∙ kind_again f rest fits

pub payload_law : IsField payload
unfolding payload
payload_law = tagged_law frame_tag frame_fields FieldsFit (λ b. option_map kind_row (kind_of b)) (λ t r e. from_kind t (kind_of t) r refl e) frame_again

-- ---- whole frames

pub whole_takes : (bytes : List ℕ) (f : Frame) → IsBytes bytes → whole_frame bytes ≡ Ok f → (bytes ≡ payload.spell f) × payload.Fits f
unfolding whole_frame
whole_takes bytes f fits e = takes_whole payload_law bytes f fits e

pub whole_again : (f : Frame) → payload.Fits f → whole_frame (payload.spell f) ≡ Ok f
unfolding whole_frame
whole_again f fits = again_whole payload_law f fits
