-- Frames: the fields of each kind, the spelling of each frame, and how one is read. Own.
use Rattle.std.specs.Prelude.{ℕ, ◌≤◌, List, [], length, option_map, Result}
use Rattle.wire_fields.specs.Fields.{Reading, Field, number32, nothing, both, sized, made_of, row, tagged, whole, number64}
use Rattle.wire_fields.specs.Parts.{counter, member, host, hosts, stage, actor}
use Rattle.wire_fields.specs.Records.{ops_list}
use Rattle.frame_wire.specs.declared.frame.Frame.{Frame}
use Rattle.frame_wire.specs.declared.frame.Frame.TheVariants.{Register, Beat, Ack, Leave, Lock, Update, Unlock, Idle, Refused, Gone, FencedTx, Mirror, Mirrored, Command, Answer}
use Rattle.frame_wire.specs.declared.kind.Kind.{Kind}
use Rattle.frame_wire.specs.declared.kind.Kind.TheVariants as kind
use Rattle.frame_wire.specs.Kinds.{byte_of, kind_of}
use Rattle.frame_wire.specs.declared.mirror.MirrorCommand.TheVariants as commands
use Rattle.frame_wire.specs.declared.mirror.MirrorAnswer.TheVariants as answers
use Rattle.frame_wire.specs.Mirrors.{piece, mirror_kind, mirror_fields, MirrorFits, mirrored_kind}
use Rattle.frame_wire.specs.Refusals.{refusal}
use Rattle.frame_wire.specs.StoreParts.{stamp}
use Rattle.frame_wire.specs.Store.{command_kind, command_fields, CommandFits, command_row, answer_kind, answer_fields, AnswerFits, answer_row}

-- the kind of a frame
abbrev pub frame_kind : Frame → Kind
frame_kind (Register h) = kind.Register
frame_kind (Beat m) = kind.Beat
frame_kind (Ack m s version) = kind.Ack
frame_kind (Leave m) = kind.Leave
frame_kind (Lock version) = kind.Lock
frame_kind (Update version hs) = kind.Update
frame_kind (Unlock version) = kind.Unlock
frame_kind Idle = kind.Idle
frame_kind (Refused r) = kind.Refused
frame_kind Gone = kind.Gone
frame_kind (FencedTx epoch s a ops) = kind.FencedTx
frame_kind (Mirror c) = mirror_kind c
frame_kind (Mirrored a) = mirrored_kind a
frame_kind (Command c) = kind.Command (command_kind c)
frame_kind (Answer a) = kind.Answer (answer_kind a)

-- the spelling of its fields
abbrev pub frame_fields : Frame → List ℕ
frame_fields (Register h) = host.spell h
frame_fields (Beat m) = member.spell m
frame_fields (Ack m s version) = (both member (both stage counter)).spell (m, (s, version))
frame_fields (Leave m) = member.spell m
frame_fields (Lock version) = counter.spell version
frame_fields (Update version hs) = (both counter hosts).spell (version, hs)
frame_fields (Unlock version) = counter.spell version
frame_fields Idle = []
frame_fields (Refused r) = refusal.spell r
frame_fields Gone = []
frame_fields (FencedTx epoch s a ops) = (both counter (both stamp (both actor ops_list))).spell (epoch, (s, (a, ops)))
frame_fields (Mirror c) = mirror_fields c
frame_fields (Mirrored a) = []
frame_fields (Command c) = command_fields c
frame_fields (Answer a) = answer_fields a

-- its fields have their forms and ranges, and fit their lengths and counts
abbrev pub FieldsFit : Frame → Type 0
FieldsFit (Register h) = host.Fits h
FieldsFit (Beat m) = member.Fits m
FieldsFit (Ack m s version) = (both member (both stage counter)).Fits (m, (s, version))
FieldsFit (Leave m) = member.Fits m
FieldsFit (Lock version) = counter.Fits version
FieldsFit (Update version hs) = (both counter hosts).Fits (version, hs)
FieldsFit (Unlock version) = counter.Fits version
FieldsFit Idle = Unit {0}
FieldsFit (Refused r) = refusal.Fits r
FieldsFit Gone = Unit {0}
FieldsFit (FencedTx epoch s a ops) = (both counter (both stamp (both actor ops_list))).Fits (epoch, (s, (a, ops)))
FieldsFit (Mirror c) = MirrorFits c
FieldsFit (Mirrored a) = Unit {0}
FieldsFit (Command c) = CommandFits c
FieldsFit (Answer a) = AnswerFits a

-- the fields of each kind, as they are read
abbrev pub kind_row : Kind → Reading Frame
kind_row kind.Register = row host (λ h. Register h)
kind_row kind.Beat = row member (λ m. Beat m)
kind_row kind.Ack = row (both member (both stage counter)) (λ p. Ack p.0 p.1.0 p.1.1)
kind_row kind.Leave = row member (λ m. Leave m)
kind_row kind.Lock = row counter (λ n. Lock n)
kind_row kind.Update = row (both counter hosts) (λ p. Update p.0 p.1)
kind_row kind.Unlock = row counter (λ n. Unlock n)
kind_row kind.Idle = row nothing (λ u. Idle)
kind_row kind.Refused = row refusal (λ r. Refused r)
kind_row kind.Gone = row nothing (λ u. Gone)
kind_row kind.FencedTx = row (both counter (both stamp (both actor ops_list))) (λ p. FencedTx p.0 p.1.0 p.1.1.0 p.1.1.1)
kind_row kind.MirrorWrite = row (both number64 piece) (λ p. Mirror (commands.Write p.0 p.1))
kind_row kind.MirrorCut = row number64 (λ n. Mirror (commands.Cut n))
kind_row kind.MirrorSync = row nothing (λ u. Mirror commands.Sync)
kind_row kind.MirrorDone = row nothing (λ u. Mirrored answers.Done)
kind_row kind.MirrorFault = row nothing (λ u. Mirrored answers.Fault)
kind_row (kind.Command k) = made_of (command_row k) (λ c. Command c)
kind_row (kind.Answer k) = made_of (answer_row k) (λ a. Answer a)

-- a kind, and then its fields
unfoldable pub payload : Field Frame
payload = tagged (λ f. byte_of (frame_kind f)) frame_fields FieldsFit (λ b. option_map kind_row (kind_of b))

-- the frame whose kind and fields are exactly these bytes
unfoldable pub whole_frame : List ℕ → Result Frame ℕ
whole_frame bytes = whole payload.at bytes

abbrev pub most_payload : ℕ
most_payload = 5242880

-- the spelling of a frame: the length of what follows, the kind, the fields
abbrev pub frame_bytes : Frame → List ℕ
frame_bytes f = (sized number32).spell (payload.spell f)

-- a frame that may be sent
abbrev pub IsFrame : Frame → Type 0
IsFrame f = payload.Fits f × (length (payload.spell f) ≤ most_payload)
