-- What one call of a session makes of the disk.
use Rattle.std.proofs.Common.{◌≡◌, inl, ℕ, ◌≤◌, ◌<◌, true, false, List, length, Option, Some, None, Ok, Err, refl, subst, arith}
use Rattle.actor_ports.specs.declared.port.PortError.{PortError}
use Rattle.actor_ports.specs.declared.port.PortError.TheVariants.{Failed, OutOfMemory}
use Rattle.disk_model.specs.Disk.{DiskState, Writes, Cuts, Syncs, Tells}
use Rattle.disk_model.proofs.Stages.{tells_map, tells_map_at}
use Rattle.frame_wire.specs.declared.mirror.MirrorCommand.{MirrorCommand}
use Rattle.frame_wire.specs.declared.mirror.MirrorCommand.TheVariants.{Write, Cut, Sync}
use Rattle.standby_core.specs.Replicas.{IsWithin}
use Rattle.standby_session.specs.Sessions.{FailsCall, MakesCall}

-- the length that the disk answered
abbrev pub HasLength : Option DiskState → ℕ → Type 0
HasLength x len = (d : DiskState) → x ≡ Some d → len ≡ length d.bytes

-- nothing was called but the length
same_fails : (call : MirrorCommand) (e : PortError) (d : DiskState) → FailsCall call e d d
same_fails (Write at new) Failed d = inl refl
same_fails (Write at new) OutOfMemory d = refl
same_fails (Cut len) Failed d = inl refl
same_fails (Cut len) OutOfMemory d = refl
same_fails Sync Failed d = inl refl
same_fails Sync OutOfMemory d = refl

tells_at : (step : DiskState → DiskState → Type 0) (x y : Option DiskState) → y ≡ x → ((d : DiskState) → x ≡ Some d → step d d) → Tells step x y
tells_at step None y same f = same
tells_at step (Some d) y same f = (d, same, f d refl)

pub no_length : (call : MirrorCommand) (e : PortError) (x y : Option DiskState) → y ≡ x → Tells (MakesCall call (Err e)) x y
no_length call e x y same = tells_at (MakesCall call (Err e)) x y same (λ d is. same_fails call e d)

pub past_end : (call : MirrorCommand) (x y : Option DiskState) → y ≡ x → ((d : DiskState) → x ≡ Some d → IsWithin d.bytes call → ⊥) → Tells (MakesCall call (Ok false)) x y
past_end call x y same out = tells_at (MakesCall call (Ok false)) x y same (λ d is. (out d is, refl))

pub past_write : (at : ℕ) (new : List ℕ) (len : ℕ) (x y : Option DiskState) → y ≡ x → HasLength x len → len < at → Tells (MakesCall (Write at new) (Ok false)) x y
past_write at new len x y same has far = past_end (Write at new) x y same (λ d is within. let e = has d is in let k : ⊥ = omega (arith, e, far, within) in k)

pub past_cut : (to len : ℕ) (x y : Option DiskState) → y ≡ x → HasLength x len → len < to → Tells (MakesCall (Cut to) (Ok false)) x y
past_cut to len x y same has far = past_end (Cut to) x y same (λ d is within. let e = has d is in let k : ⊥ = omega (arith, e, far, within) in k)

pub made_write : (at : ℕ) (new : List ℕ) (len : ℕ) (x y z : Option DiskState) → y ≡ x → HasLength x len → at ≤ len → Tells (Writes {T = Unit {0}} at new (Ok tt)) y z → Tells (MakesCall (Write at new) (Ok true)) x z
made_write at new len x y z same has near tells =
    tells_map_at _ _ x z (λ d e is wrote. (let n = has d is in omega (arith, n, near), wrote)) (subst (λ (o : Option DiskState). Tells (Writes {T = Unit {0}} at new (Ok tt)) o z) same tells)

pub made_cut : (to len : ℕ) (x y z : Option DiskState) → y ≡ x → HasLength x len → to ≤ len → Tells (Cuts {T = Unit {0}} to (Ok tt)) y z → Tells (MakesCall (Cut to) (Ok true)) x z
made_cut to len x y z same has near tells =
    tells_map_at _ _ x z (λ d e is cut. (let n = has d is in omega (arith, n, near), cut)) (subst (λ (o : Option DiskState). Tells (Cuts {T = Unit {0}} to (Ok tt)) o z) same tells)

pub made_sync : (x y : Option DiskState) → Tells (Syncs {T = Unit {0}} (Ok tt)) x y → Tells (MakesCall Sync (Ok true)) x y
made_sync x y tells = tells_map _ _ x y (λ d e synced. (tt, synced)) tells

pub failed_write : (at : ℕ) (new : List ℕ) (e : PortError) (x y z : Option DiskState) → y ≡ x → Tells (Writes {T = Unit {0}} at new (Err e)) y z → Tells (MakesCall (Write at new) (Err e)) x z
failed_write at new e x y z same tells = subst (λ (o : Option DiskState). Tells (Writes {T = Unit {0}} at new (Err e)) o z) same tells

pub failed_cut : (to : ℕ) (e : PortError) (x y z : Option DiskState) → y ≡ x → Tells (Cuts {T = Unit {0}} to (Err e)) y z → Tells (MakesCall (Cut to) (Err e)) x z
failed_cut to e x y z same tells = subst (λ (o : Option DiskState). Tells (Cuts {T = Unit {0}} to (Err e)) o z) same tells
