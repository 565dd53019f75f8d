-- Which frames a member can send, and the versions of the frames that it reads.
use Rattle.std.proofs.Common.{ℕ, ◌≤◌, ◌^◌, List, arith}
use Rattle.std.proofs.lemmas.Bool.{leb-true, le-leb}
use Rattle.place_table.specs.declared.host.HostInfo.{HostInfo}
use Rattle.place_table.specs.declared.ack_stage.AckStage.{AckStage}
use Rattle.wire_fields.specs.Fields.{number64}
use Rattle.wire_fields.specs.Parts.{counter, host, stage}
use Rattle.frame_wire.specs.declared.frame.Frame.TheVariants as frames
use Rattle.frame_wire.specs.Frames.{payload}
use Rattle.place_table.specs.Hosts.{PlacementTable}
use Rattle.placement_beats.specs.Replies.{IsTableOf}

pub beat_fits : (h : HostInfo) → payload.Fits (frames.Register h) → payload.Fits (frames.Beat h.member)
unfolding payload host
beat_fits h f = f.0

pub leave_fits : (h : HostInfo) → payload.Fits (frames.Register h) → payload.Fits (frames.Leave h.member)
unfolding payload host
leave_fits h f = f.0

pub ack_fits : (h : HostInfo) (s : AckStage) (version : ℕ) → payload.Fits (frames.Register h) → version ≤ 2 ^ 62 → payload.Fits (frames.Ack h.member s version)
unfolding payload host stage counter number64
ack_fits h s version f small = (f.0, (tt, (omega arith, le-leb version (2 ^ 62) small)))

pub lock_range : (version : ℕ) → payload.Fits (frames.Lock version) → version ≤ 2 ^ 62
unfolding payload counter
lock_range version f = leb-true version (2 ^ 62) f.1

pub unlock_range : (version : ℕ) → payload.Fits (frames.Unlock version) → version ≤ 2 ^ 62
unfolding payload counter
unlock_range version f = leb-true version (2 ^ 62) f.1

pub update_range : (version : ℕ) (hosts : List HostInfo) → payload.Fits (frames.Update version hosts) → version ≤ 2 ^ 62
unfolding payload counter
update_range version hosts f = leb-true version (2 ^ 62) f.0.1

pub table_range : (space : List ℕ) (version : ℕ) (hosts : List HostInfo) (table : PlacementTable) → payload.Fits (frames.Update version hosts) → IsTableOf space version hosts table → table.version ≤ 2 ^ 62
table_range space version hosts table f t =
    let small = update_range version hosts f in
    let is = t.version_is in
    omega arith
