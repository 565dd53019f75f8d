-- The most bytes that a placement's frame can have.
use Rattle.std.proofs.Common.{◌≤◌, length, arith}
use Rattle.wire_fields.specs.Fields.{both}
use Rattle.wire_fields.specs.Parts.{counter, hosts, member, stage}
use Rattle.frame_wire.specs.declared.frame.Frame.{Frame}
use Rattle.frame_wire.specs.declared.frame.Frame.TheVariants.{Register, Beat, Ack, Leave, Lock, Update, Unlock, Idle, Refused, Gone, FencedTx, Mirror, Mirrored, Command, Answer}
use Rattle.frame_wire.specs.Frames.{payload, IsFrame, FieldsFit, frame_fields}
use Rattle.frame_lengths.specs.Lengths.{IsOfPlacement, most_bytes}
use Rattle.frame_lengths.proofs.Widths.{both_within, counter_within, member_within, host_within, hosts_within, stage_within, refusal_within}

-- the fields alone
fields_short : (f : Frame) → IsOfPlacement f → FieldsFit f → length (frame_fields f) ≤ 586250
fields_short (Register h) mine fits = let n = host_within h fits in omega (arith, n)
fields_short (Beat m) mine fits = let n = member_within m fits in omega (arith, n)
fields_short (Ack m s version) mine fits =
    let n = both_within 138 9 member (both stage counter) member_within (both_within 1 8 stage counter stage_within counter_within) (m, (s, version)) fits in omega (arith, n)
fields_short (Leave m) mine fits = let n = member_within m fits in omega (arith, n)
fields_short (Lock version) mine fits = let n = counter_within version fits in omega (arith, n)
fields_short (Update version hs) mine fits = let n = both_within 8 586242 counter hosts counter_within hosts_within (version, hs) fits in omega (arith, n)
fields_short (Unlock version) mine fits = let n = counter_within version fits in omega (arith, n)
fields_short Idle mine fits = omega arith
fields_short (Refused r) mine fits = let n = refusal_within r fits in omega (arith, n)
fields_short Gone mine fits = omega arith
fields_short (FencedTx epoch s a ops) mine fits = absurd mine
fields_short (Mirror c) mine fits = absurd mine
fields_short (Mirrored a) mine fits = absurd mine
fields_short (Command c) mine fits = absurd mine
fields_short (Answer a) mine fits = absurd mine

pub frame_short : (f : Frame) → IsOfPlacement f → payload.Fits f → length (payload.spell f) ≤ most_bytes
unfolding payload
frame_short f mine fits = let n = fields_short f mine fits in omega (arith, n)

pub frame_sent : (f : Frame) → IsOfPlacement f → payload.Fits f → IsFrame f
frame_sent f mine fits = let n = frame_short f mine fits in (fits, omega (arith, n))
