-- Worked examples of the definitions.
use Rattle.std.proofs.Common.{◌≡◌, inl, ℕ, [], ◌∷◌, Ok, Err, refl, arith}
use Rattle.actor_ports.specs.declared.port.PortError.TheVariants.{Failed}
use Rattle.disk_model.specs.declared.change.Change.TheVariants.{Over}
use Rattle.disk_model.specs.Disk.{MayLeave, overwritten}
use Rattle.disk_model.specs.Memory.{DiskMemory, new_disk, call_after, after_write, after_cut, after_sync}

write_replaces_range : overwritten (97 ∷ 98 ∷ 99 ∷ []) 1 (88 ∷ []) ≡ 97 ∷ 88 ∷ 99 ∷ []
write_replaces_range = refl

write_passes_end : overwritten (97 ∷ 98 ∷ []) 1 (88 ∷ 89 ∷ []) ≡ 97 ∷ 88 ∷ 89 ∷ []
write_passes_end = refl

-- a write of two bytes at place 1, which isn't synced
abbrev written : DiskMemory
written = after_write {T = ℕ} 1 (88 ∷ 89 ∷ []) (new_disk (97 ∷ 98 ∷ []) (2 ∷ [])) (Ok 0)

write_waits_for_sync : written.disk ≡ record { bytes = 97 ∷ 88 ∷ 89 ∷ []; instant = record { synced = 97 ∷ 98 ∷ []; pending = Over 1 2 ∷ [] }; past = record { synced = 97 ∷ 98 ∷ []; pending = [] } ∷ [] }
write_waits_for_sync = refl

-- a crash may then leave nothing of it, one byte of another value, or all
crash_loses_write : MayLeave written.disk.instant (97 ∷ 98 ∷ [])
crash_loses_write = (_, record { before = refl; after = refl; no_shorter = omega arith; no_longer = omega arith }, refl)

crash_tears_write : MayLeave written.disk.instant (97 ∷ 7 ∷ [])
crash_tears_write = (_, record { before = refl; after = refl; no_shorter = omega arith; no_longer = omega arith }, refl)

crash_keeps_write : MayLeave written.disk.instant (97 ∷ 88 ∷ 89 ∷ [])
crash_keeps_write = (_, record { before = refl; after = refl; no_shorter = omega arith; no_longer = omega arith }, refl)

failed_write_is_counted : after_write {T = ℕ} 0 (1 ∷ []) written (Err Failed) ≡ record written { calls = 2; faults = 1 }
failed_write_is_counted = refl

sync_leaves_what_is_read : (after_sync {T = ℕ} written (Ok 0)).disk.instant ≡ record { synced = 97 ∷ 88 ∷ 89 ∷ []; pending = [] }
sync_leaves_what_is_read = refl

-- a cut that isn't synced may have happened or not
crash_loses_cut : MayLeave (after_cut {T = ℕ} 1 (new_disk (97 ∷ 98 ∷ []) []) (Ok 0)).disk.instant (97 ∷ 98 ∷ [])
crash_loses_cut = (_, inl refl, refl)

calls_end : call_after 18446744073709551615 ≡ 18446744073709551615
calls_end = refl
