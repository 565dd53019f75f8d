-- The event of a frame has the forms and ranges that its fields have.
use Rattle.std.proofs.Common.{ℕ}
use Rattle.wire_fields.specs.Parts.{host, member}
use Rattle.frame_wire.specs.Frames.{payload}
use Rattle.frame_wire.specs.declared.frame.Frame.TheVariants.{Register, Beat, Ack, Leave}
use Rattle.actor_names.specs.declared.member.Member.{Member}
use Rattle.place_table.specs.declared.host.HostInfo.{HostInfo}
use Rattle.place_table.specs.declared.ack_stage.AckStage.{AckStage}

pub register_fits : (h : HostInfo) → payload.Fits (Register h) → host.Fits h
unfolding payload
register_fits h fits = fits

pub beat_fits : (m : Member) → payload.Fits (Beat m) → member.Fits m
unfolding payload
beat_fits m fits = fits

pub ack_fits : (m : Member) (s : AckStage) (version : ℕ) → payload.Fits (Ack m s version) → member.Fits m
unfolding payload
ack_fits m s version fits = fits.0

pub leave_fits : (m : Member) → payload.Fits (Leave m) → member.Fits m
unfolding payload
leave_fits m fits = fits
