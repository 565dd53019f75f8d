-- Worked examples of the definitions.
use Rattle.std.proofs.Common.{◌≡◌, List, [], ◌∷◌, inl, inr, refl, arith}
use Rattle.wire_fields.specs.Fields.{number32, number64}
use Rattle.disk_model.specs.Disk.{fresh}
use Rattle.frame_wire.specs.declared.mirror.MirrorCommand.{MirrorCommand}
use Rattle.frame_wire.specs.declared.mirror.MirrorCommand.TheVariants.{Write, Cut, Sync}
use Rattle.frame_wire.specs.Frames.{payload}
use Rattle.frame_wire.specs.Mirrors.{piece}
use Rattle.standby_core.specs.Replicas.{replica_after, ReplicaOf, disk_after_all, ArePieces, attach_calls}
use Rattle.standby_core.specs.Telling.{call_bytes, done_bytes, dones_bytes}

done_is_five_bytes : done_bytes ≡ 0 ∷ 0 ∷ 0 ∷ 1 ∷ 67 ∷ []
unfolding payload number32
done_is_five_bytes = refl

two_dones_are_ten_bytes : dones_bytes (Sync ∷ Sync ∷ []) ≡ 0 ∷ 0 ∷ 0 ∷ 1 ∷ 67 ∷ 0 ∷ 0 ∷ 0 ∷ 1 ∷ 67 ∷ []
unfolding payload number32
two_dones_are_ten_bytes = refl

sync_is_five_bytes : call_bytes Sync ≡ 0 ∷ 0 ∷ 0 ∷ 1 ∷ 66 ∷ []
unfolding payload number32
sync_is_five_bytes = refl

cut_has_its_length : call_bytes (Cut 258) ≡ 0 ∷ 0 ∷ 0 ∷ 9 ∷ 65 ∷ 0 ∷ 0 ∷ 0 ∷ 0 ∷ 0 ∷ 0 ∷ 1 ∷ 2 ∷ []
unfolding payload number32 number64
cut_has_its_length = refl

-- the length of all, the kind, the place, the length of the bytes, the bytes
write_has_its_bytes : call_bytes (Write 3 (7 ∷ 8 ∷ [])) ≡ 0 ∷ 0 ∷ 0 ∷ 15 ∷ 64 ∷ 0 ∷ 0 ∷ 0 ∷ 0 ∷ 0 ∷ 0 ∷ 0 ∷ 3 ∷ 0 ∷ 0 ∷ 0 ∷ 2 ∷ 7 ∷ 8 ∷ []
unfolding payload number32 number64 piece
write_has_its_bytes = refl

replica_follows_calls : replica_after (97 ∷ 98 ∷ 99 ∷ []) (Write 1 (88 ∷ []) ∷ Sync ∷ Cut 2 ∷ []) ≡ 97 ∷ 88 ∷ []
replica_follows_calls = refl

-- with one call answered the next may have been made too
abbrev two_cuts : List MirrorCommand
two_cuts = Cut 2 ∷ Cut 1 ∷ []

replica_after_answer : ReplicaOf (97 ∷ 98 ∷ 99 ∷ []) two_cuts 1 (97 ∷ 98 ∷ [])
replica_after_answer = inl refl

replica_under_way : ReplicaOf (97 ∷ 98 ∷ 99 ∷ []) two_cuts 1 (97 ∷ [])
replica_under_way = inr refl

-- a cut that isn't synced is pending, and a sync puts it on the disk
cut_is_pending_until_sync : (disk_after_all (fresh (97 ∷ 98 ∷ [])) (Cut 1 ∷ Sync ∷ [])).instant ≡ record { synced = 97 ∷ []; pending = [] }
cut_is_pending_until_sync = refl

two_pieces_of_a_write : ArePieces 5 (1 ∷ 2 ∷ 3 ∷ []) (Write 5 (1 ∷ 2 ∷ []) ∷ Write 7 (3 ∷ []) ∷ []) []
two_pieces_of_a_write = (refl, omega arith, (3 ∷ [], refl, (refl, omega arith, ([], refl, refl))))

-- the first byte comes last, and whatever the disk held is gone
attach_sets_first_byte_last : attach_calls (1 ∷ 65 ∷ 66 ∷ []) (Write 1 (65 ∷ 66 ∷ []) ∷ []) ≡ Cut 0 ∷ Write 0 (0 ∷ []) ∷ Sync ∷ Write 1 (65 ∷ 66 ∷ []) ∷ Sync ∷ Write 0 (1 ∷ []) ∷ Sync ∷ []
attach_sets_first_byte_last = refl

attach_copies_bytes : replica_after (9 ∷ 9 ∷ 9 ∷ 9 ∷ []) (attach_calls (1 ∷ 65 ∷ 66 ∷ []) (Write 1 (65 ∷ 66 ∷ []) ∷ [])) ≡ 1 ∷ 65 ∷ 66 ∷ []
attach_copies_bytes = refl

attach_copies_nothing : replica_after (9 ∷ 9 ∷ []) (attach_calls [] []) ≡ []
attach_copies_nothing = refl
