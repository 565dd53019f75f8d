-- The answers of a session are the spellings of their frames.
use Rattle.std.proofs.Common.{◌≡◌, ◌∙◌, ℕ, true, false, List, [], ◌∷◌, Option, Result, Ok, Err, refl, sym, subst}
use Rattle.actor_ports.specs.declared.port.PortError.{PortError}
use Rattle.actor_ports.specs.declared.port.PortError.TheVariants.{Failed, OutOfMemory}
use Rattle.actor_ports.specs.Traffic.{Traffic}
use Rattle.http_edge.specs.Carry.{Over, IsFront, Writes}
use Rattle.disk_model.specs.Disk.{DiskState}
use Rattle.wire_fields.specs.Fields.{number32}
use Rattle.frame_wire.specs.declared.frame.Frame.{Frame}
use Rattle.frame_wire.specs.declared.frame.Frame.TheVariants.{Mirror}
use Rattle.frame_wire.specs.declared.mirror.MirrorCommand.{MirrorCommand}
use Rattle.frame_wire.specs.Frames.{payload}
use Rattle.frame_session.specs.Turns.{Replies}
use Rattle.standby_core.specs.Telling.{done_bytes}
use Rattle.standby_core.proofs.Told.{done_is}
use Rattle.standby_session.specs.Sessions.{fault_bytes}
use Rattle.standby_session.specs.declared.taken.Taken.TheVariants.{Foreign}
use Rattle.standby_session.specs.Taking.{TellsFault, TakesFrame}

pub fault_is : fault_bytes ≡ 0 ∷ 0 ∷ 0 ∷ 1 ∷ 68 ∷ []
unfolding payload number32
fault_is = refl

-- what was written of some bytes
replied : (t0 t1 : Option Traffic) (bytes : List ℕ) (r : Result (Unit {0}) PortError) → Writes t0 t1 bytes r → Replies t0 t1 bytes r
replied t0 t1 bytes (Ok x) w = w
replied t0 t1 bytes (Err Failed) w = w
replied t0 t1 bytes (Err OutOfMemory) w = ([], refl, w)

pub replied_done : (t0 t1 : Option Traffic) (bytes : List ℕ) (r : Result (Unit {0}) PortError) → bytes ≡ 0 ∷ 0 ∷ 0 ∷ 1 ∷ 67 ∷ [] → Writes t0 t1 bytes r → Replies t0 t1 done_bytes r
replied_done t0 t1 bytes r is w = replied t0 t1 done_bytes r (subst (λ (l : List ℕ). Writes t0 t1 l r) (is ∙ sym done_is) w)

pub told_whole : (t0 t1 : Option Traffic) (bytes : List ℕ) (x : Unit {0}) → bytes ≡ 0 ∷ 0 ∷ 0 ∷ 1 ∷ 68 ∷ [] → Writes t0 t1 bytes (Ok x) → TellsFault true t0 t1
told_whole t0 t1 bytes x is w = (fault_bytes, refl, subst (λ (l : List ℕ). Over t0 t1 (record { read = []; written = l })) (is ∙ sym fault_is) w)

pub told_part : (t0 t1 : Option Traffic) (bytes : List ℕ) (e : PortError) → bytes ≡ 0 ∷ 0 ∷ 0 ∷ 1 ∷ 68 ∷ [] → Writes {T = Unit {0}} t0 t1 bytes (Err e) → TellsFault false t0 t1
told_part t0 t1 bytes Failed is w = (w.0, subst (λ (l : List ℕ). IsFront w.0 l) (is ∙ sym fault_is) w.1, w.2)
told_part t0 t1 bytes OutOfMemory is w = ([], record { count = 0; is = refl }, w)

-- a frame that is no call
pub other_frame : (f : Frame) (d : Option DiskState) (t : Option Traffic) → ((call : MirrorCommand) → f ≡ Mirror call → ⊥) → TakesFrame f d d t t Foreign
other_frame (Mirror call) d t other = absurd (other call refl)
other_frame f d t other = (refl, refl, refl)
