-- The four calls of an append or a batch, one after the other.
use Rattle.std.proofs.Common.{◌≡◌, inl, ℕ, ◌+◌, ◌-◌, ◌≤◌, List, [], ◌∷◌, ◌++◌, length, Result, Ok, ◌∙◌, ap, subst, arith, length-append}
use Rattle.actor_ports.specs.declared.port.PortError.{PortError}
use Rattle.disk_model.specs.Disk.{DiskState, Torn, overwritten, Writes, Syncs}
use Rattle.disk_model.specs.Crash.{IsDurable, Since}
use Rattle.disk_model.proofs.Stages.{Then, Stage, stage_start, stage_write, stage_sync, synced_durable, synced_bytes, wrote_bytes, torn_overwritten, since_stage}
use Rattle.tx_journal.specs.declared.format.Format.{Format}
use Rattle.std.specs.List.{AllByRecursion}
use Rattle.tx_journal.specs.File.{most_bytes, spelled, IsShort}
use Rattle.tx_journal.specs.Journal.{IsAtRest, RestsBeforeOrAfter, IsText, PutsRecords, HasRecords}
use Rattle.tx_journal.proofs.Records.{spelled-text, rest_within, torn_behind, staged, written_behind, torn_gate, written_gate, at_rest_all}

module _ (newest format : Format) (payloads batch : List (List ℕ)) (text : List ℕ) (end : ℕ) (d : DiskState) (at_rest : IsAtRest newest format payloads end d.bytes) (durable : IsDurable d) (short : AllByRecursion IsShort batch) (is_text : IsText batch text) (room : end + length text ≤ most_bytes) where
  abbrev P : List ℕ → Type 0
  P = RestsBeforeOrAfter newest format payloads batch

  here : P d.bytes
  here = inl (end, at_rest)

  pub first : {T : Type 0} (r : Result T PortError) (a : DiskState) → Writes end text r d a → Stage P d a
  first r a write = stage_write P d d a end text r (stage_start P d durable here) durable (rest_within payloads end d.bytes at_rest).1 write (λ c torn. inl (torn_behind payloads end (length text) d.bytes c at_rest room torn))

  pub second : {T : Type 0} (x : T) (r : Result T PortError) (a b : DiskState) → Writes end text (Ok x) d a → Syncs r a b → Stage P d b
  second x r a b write sync = stage_sync P d a b r (first (Ok x) a write) sync

  staged_is : {T : Type 0} (x y : T) (a b : DiskState) → Writes end text (Ok x) d a → Syncs (Ok y) a b → (rest : List ℕ) × (b.bytes ≡ staged format payloads at_rest.gate text rest)
  staged_is x y a b write sync =
      let w = written_behind payloads end d.bytes text at_rest in
      (w.0, synced_bytes y a b sync ∙ wrote_bytes x end text d a write ∙ w.1)

  -- the file isn't longer than before, or ends behind the record
  staged_small : {T : Type 0} (x y : T) (a b : DiskState) → Writes end text (Ok x) d a → Syncs (Ok y) a b → length b.bytes ≤ most_bytes
  staged_small x y a b write sync =
      let size = (torn_overwritten d.bytes text end (rest_within payloads end d.bytes at_rest).1).no_longer in
      omega (arith, ap length (synced_bytes y a b sync ∙ wrote_bytes x end text d a write), size, at_rest.small, room)

  before_gate : end - 1 ≡ length (spelled format payloads)
  before_gate = omega (arith, at_rest.end_is)

  pub third : {T : Type 0} (x y : T) (r : Result T PortError) (a b e : DiskState) → Writes end text (Ok x) d a → Syncs (Ok y) a b → Writes (end - 1) (1 ∷ []) r b e → Stage P d e
  third x y r a b e write sync open_ =
      let is = staged_is x y a b write sync in
      stage_write P d b e (end - 1) (1 ∷ []) r (second x (Ok y) a b write sync) (synced_durable y a b sync)
      (omega (arith, before_gate, ap length is.1, length-append (spelled format payloads) (at_rest.gate ∷ (text ++ is.0)))) open_
      (λ c torn. torn_gate newest format at_rest.known payloads at_rest.gate batch text is.0 is_text at_rest.short short (end - 1) c before_gate (subst (λ (l : List ℕ). length l ≤ most_bytes) is.1 (staged_small x y a b write sync)) (subst (λ (l : List ℕ). Torn (end - 1) 1 l c) is.1 torn))

  pub fourth : {T : Type 0} (x y z : T) (r : Result T PortError) (a b e f : DiskState) → Writes end text (Ok x) d a → Syncs (Ok y) a b → Writes (end - 1) (1 ∷ []) (Ok z) b e → Syncs r e f → Stage P d f
  fourth x y z r a b e f write sync open_ again = stage_sync P d e f r (third x y (Ok z) a b e write sync open_) again

  pub done : {T : Type 0} (x y z w : T) (a b e f : DiskState) → Writes end text (Ok x) d a → Syncs (Ok y) a b → Writes (end - 1) (1 ∷ []) (Ok z) b e → Syncs (Ok w) e f → IsAtRest newest format (payloads ++ batch) (end + length text) f.bytes × IsDurable f
  done x y z w a b e f write sync open_ again =
      let is = staged_is x y a b write sync in
      let written : f.bytes ≡ spelled format (payloads ++ batch) ++ 0 ∷ is.0 =
      synced_bytes w e f again ∙ wrote_bytes z (end - 1) (1 ∷ []) b e open_ ∙ ap (λ (l : List ℕ). overwritten l (end - 1) (1 ∷ [])) is.1 ∙ written_gate newest format at_rest.known payloads at_rest.gate batch text is.0 is_text at_rest.short short (end - 1) before_gate in
      let small : length f.bytes ≤ most_bytes =
      omega (arith, ap length written, ap length (spelled-text format payloads batch text is.0 is_text), ap length is.1, length-append (spelled format payloads) (1 ∷ (text ++ is.0)), length-append (spelled format payloads) (at_rest.gate ∷ (text ++ is.0)), staged_small x y a b write sync) in
      (at_rest_all newest format at_rest.known payloads at_rest.gate batch text is.0 is_text at_rest.short short end f.bytes at_rest.end_is written small, synced_durable w e f again)

  pub since : (e : DiskState) → Stage P d e → Since P d e
  since e stage = since_stage P d e durable here stage

-- The same for any payloads that the disk holds, and for any batch whose records the bytes are.
module _ (end : ℕ) (text : List ℕ) where
  pub puts_1 : {T : Type 0} (r : Result T PortError) (d a : DiskState) → Writes end text r d a → PutsRecords end text d a
  puts_1 r d a write newest format payloads batch at_rest durable short is room =
      since newest format payloads batch text end d at_rest durable short is room a (first newest format payloads batch text end d at_rest durable short is room r a write)

  pub puts_2 : {T : Type 0} (x : T) (r : Result T PortError) (d b : DiskState) → Then (Writes end text (Ok x)) (Syncs r) d b → PutsRecords end text d b
  puts_2 x r d b calls newest format payloads batch at_rest durable short is room =
      since newest format payloads batch text end d at_rest durable short is room b (second newest format payloads batch text end d at_rest durable short is room x r calls.0 b calls.1 calls.2)

  pub puts_3 : {T : Type 0} (x y : T) (r : Result T PortError) (d e : DiskState) → Then (Then (Writes end text (Ok x)) (Syncs (Ok y))) (Writes (end - 1) (1 ∷ []) r) d e → PutsRecords end text d e
  puts_3 x y r d e calls newest format payloads batch at_rest durable short is room =
      let b = calls.0 in
      let a = calls.1.0 in
      since newest format payloads batch text end d at_rest durable short is room e (third newest format payloads batch text end d at_rest durable short is room x y r a b e calls.1.1 calls.1.2 calls.2)

  pub puts_4 : {T : Type 0} (x y z : T) (r : Result T PortError) (d f : DiskState) → Then (Then (Then (Writes end text (Ok x)) (Syncs (Ok y))) (Writes (end - 1) (1 ∷ []) (Ok z))) (Syncs r) d f → PutsRecords end text d f
  puts_4 x y z r d f calls newest format payloads batch at_rest durable short is room =
      let e = calls.0 in
      let b = calls.1.0 in
      let a = calls.1.1.0 in
      since newest format payloads batch text end d at_rest durable short is room f (fourth newest format payloads batch text end d at_rest durable short is room x y z r a b e f calls.1.1.1 calls.1.1.2 calls.1.2 calls.2)

  pub puts_all : {T : Type 0} (x y z w : T) (d f : DiskState) → Then (Then (Then (Writes end text (Ok x)) (Syncs (Ok y))) (Writes (end - 1) (1 ∷ []) (Ok z))) (Syncs (Ok w)) d f → HasRecords end text d f
  puts_all x y z w d f calls newest format payloads batch at_rest durable short is room =
      let e = calls.0 in
      let b = calls.1.0 in
      let a = calls.1.1.0 in
      done newest format payloads batch text end d at_rest durable short is room x y z w a b e f calls.1.1.1 calls.1.1.2 calls.1.2 calls.2
