-- Worked examples of the definitions: the four calls of a record of one byte, whose gate, shut before, is the second byte.
use Rattle.std.proofs.Common.{◌≡◌, List, [], ◌∷◌, inl, inr, refl, arith}
use Rattle.disk_model.specs.Disk.{Instant, DiskState, fresh}
use Rattle.disk_model.specs.declared.change.Change.TheVariants.{Over}
use Rattle.frame_wire.specs.declared.mirror.MirrorCommand.{MirrorCommand}
use Rattle.frame_wire.specs.declared.mirror.MirrorCommand.TheVariants.{Write, Sync}
use Rattle.standby_core.specs.Replicas.{disk_after_all}
use Rattle.promotion_law.specs.UnderWay.{GoesOn, IsFileBehind}

-- the record goes behind the gate and is synced, and then the gate is opened and synced
abbrev puts_record : List MirrorCommand
puts_record = Write 2 (7 ∷ 0 ∷ []) ∷ Sync ∷ []

abbrev opens_gate : MirrorCommand
opens_gate = Write 1 (1 ∷ [])

abbrev before : DiskState
before = fresh (1 ∷ 0 ∷ [])

abbrev behind : DiskState
behind = disk_after_all before (Write 2 (7 ∷ 0 ∷ []) ∷ Sync ∷ opens_gate ∷ Sync ∷ [])

record_is_behind_an_open_gate : behind.bytes ≡ 1 ∷ 1 ∷ 7 ∷ 0 ∷ []
record_is_behind_an_open_gate = refl

-- each call is a moment
abbrev gate_moments : List Instant
gate_moments = record { synced = 1 ∷ 0 ∷ 7 ∷ 0 ∷ []; pending = Over 1 1 ∷ [] } ∷ record { synced = 1 ∷ 1 ∷ 7 ∷ 0 ∷ []; pending = [] } ∷ []

two_calls_go_on_by_two_moments : GoesOn (disk_after_all before puts_record) behind
two_calls_go_on_by_two_moments = (gate_moments, refl)

-- where the answer to the third call is lost, the standby's file may have an open gate
third_call_was_made : IsFileBehind before behind before (1 ∷ 1 ∷ 7 ∷ 0 ∷ [])
third_call_was_made = record {
  calls = puts_record;
  sent = puts_record;
  within = (omega arith, (tt, tt));
  all_sent = (Write 2 (7 ∷ 0 ∷ []) ∷ [], Sync ∷ [], refl, (refl, omega arith, ([], refl, refl)), (Sync ∷ [], [], refl, refl, refl));
  ends = (gate_moments, refl);
  file = inr (inl (record {
    call = opens_gate;
    sent = opens_gate ∷ [];
    within = omega arith;
    begins = ([], (refl, omega arith, ([], refl, refl)));
    ends = (record { synced = 1 ∷ 1 ∷ 7 ∷ 0 ∷ []; pending = [] } ∷ [], refl);
    file = inl refl;
  }));
}

-- and a crash of the standby may leave it shut
third_call_was_lost : IsFileBehind before behind before (1 ∷ 0 ∷ 7 ∷ 0 ∷ [])
third_call_was_lost = record {
  calls = puts_record;
  sent = puts_record;
  within = (omega arith, (tt, tt));
  all_sent = (Write 2 (7 ∷ 0 ∷ []) ∷ [], Sync ∷ [], refl, (refl, omega arith, ([], refl, refl)), (Sync ∷ [], [], refl, refl, refl));
  ends = (gate_moments, refl);
  file = inr (inl (record {
    call = opens_gate;
    sent = opens_gate ∷ [];
    within = omega arith;
    begins = ([], (refl, omega arith, ([], refl, refl)));
    ends = (record { synced = 1 ∷ 1 ∷ 7 ∷ 0 ∷ []; pending = [] } ∷ [], refl);
    file = inr (1 ∷ 0 ∷ 7 ∷ 0 ∷ [], record { before = refl; after = refl; no_shorter = omega arith; no_longer = omega arith }, refl);
  }));
}
