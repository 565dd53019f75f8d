-- A standby's file is one that a crash of the placement's own disk might have left.
use Rattle.std.proofs.Common.{◌≡◌, ◌∙◌, inl, inr, ℕ, ◌+◌, ◌≤◌, List, [], ◌∷◌, ◌++◌, length, take, drop, refl, sym, ap, subst, arith, append-nil, append_assoc, length-append, length-take}
use Rattle.std.proofs.lemmas.List.{take-take, drop-drop}
use Rattle.disk_model.specs.Disk.{Instant, DiskState, Torn, MayMake, MayLead, MayLeave, overwritten}
use Rattle.disk_model.specs.declared.change.Change.{Change}
use Rattle.disk_model.specs.declared.change.Change.TheVariants.{Over, CutTo}
use Rattle.disk_model.proofs.Stages.{torn_overwritten}
use Rattle.disk_model.proofs.Sound.{lead_push}
use Rattle.frame_wire.specs.declared.mirror.MirrorCommand.{MirrorCommand}
use Rattle.frame_wire.specs.declared.mirror.MirrorCommand.TheVariants.{Write, Cut, Sync}
use Rattle.standby_core.specs.Replicas.{bytes_after, replica_after, disk_after, disk_after_all, IsWithin, AreWithin, ArePieces, attach_calls, opening_calls, first_of, first_call}
use Rattle.standby_core.specs.Mirrors.{IsWrite}
use Rattle.standby_core.proofs.Replicated.{reads_as_replica, after_more, replica_more, attach_copies, pieces_are_one, sync_keeps}
use Rattle.standby_session.specs.Images.{AreSentFor, Covers, MightLeave, AttachCovers, AnsweredCovers, UnderWayCovers}

-- ---- what changes lead to

lead_split : (front back : List Change) (old new : List ℕ) → MayLead (front ++ back) old new → (mid : List ℕ) × MayLead front old mid × MayLead back mid new
lead_split [] back old new led = (old, refl, led)
lead_split (change ∷ front) back old new led =
    let more = lead_split front back led.0 new led.2 in
    (more.0, (led.0, led.1, more.1), more.2)

-- two torn writes, the second behind the first, are one that is torn
torn_then : (at n m : ℕ) (old mid new : List ℕ) → Torn at n old mid → Torn (at + n) m mid new → Torn at (n + m) old new
torn_then at n m old mid new one two =
    let within : at ≤ at + n = omega arith in
    let place : at + (n + m) ≡ at + n + m = omega arith in
    let front : take at new ≡ take at mid = sym (take-take at (at + n) new within) ∙ ap (λ (l : List ℕ). take at l) two.before ∙ take-take at (at + n) mid within in
    let back : drop (at + n + m) mid ≡ drop (at + n + m) old = sym (drop-drop m (at + n) mid) ∙ ap (λ (l : List ℕ). drop m l) one.after ∙ drop-drop m (at + n) old in
    record {
      before = front ∙ one.before;
      after = ap (λ (k : ℕ). drop k new) place ∙ two.after ∙ back ∙ ap (λ (k : ℕ). drop k old) (sym place);
      no_shorter = omega (arith, one.no_shorter, two.no_shorter);
      no_longer = omega (arith, one.no_longer, two.no_longer);
    }

-- ---- the pieces of a write

-- what the pieces of a write change
abbrev pieces_change : List MirrorCommand → List Change
pieces_change [] = []
pieces_change (Write at new ∷ calls) = Over at (length new) ∷ pieces_change calls
pieces_change (Cut len ∷ calls) = CutTo len ∷ pieces_change calls
pieces_change (Sync ∷ calls) = pieces_change calls

pieces_instant : (at : ℕ) (new : List ℕ) (calls : List MirrorCommand) (rest : List ℕ) (d : DiskState) → ArePieces at new calls rest → (disk_after_all d calls).instant ≡ record { synced = d.instant.synced; pending = d.instant.pending ++ pieces_change calls }
pieces_instant at new [] rest d is = ap (λ (l : List Change). record { synced = d.instant.synced; pending = l }) (sym (append-nil d.instant.pending))
pieces_instant at new (Write place b ∷ calls) rest d is =
    pieces_instant (at + length b) is.2.0 calls rest (disk_after d (Write place b)) is.2.2
    ∙ ap (λ (l : List Change). record { synced = d.instant.synced; pending = l }) (append_assoc d.instant.pending (Over place (length b) ∷ []) (pieces_change calls))
pieces_instant at new (Cut len ∷ calls) rest d is = absurd is
pieces_instant at new (Sync ∷ calls) rest d is = absurd is

-- torn pieces are a torn write
torn_pieces : (at : ℕ) (new : List ℕ) (calls : List MirrorCommand) (rest : List ℕ) → ArePieces at new calls rest → (old left : List ℕ) → MayLead (pieces_change calls) old left → Torn at (length new) old left
torn_pieces at new [] rest is old left led =
    subst (λ (l : List ℕ). Torn at (length new) old l) (sym led) (record { before = refl; after = refl; no_shorter = omega arith; no_longer = omega arith })
torn_pieces at new (Write place b ∷ calls) rest is old left led =
    let here : Torn at (length b) old led.0 = subst (λ (k : ℕ). Torn k (length b) old led.0) is.0 led.1 in
    let more : Torn (at + length b) (length is.2.0) led.0 left = torn_pieces (at + length b) is.2.0 calls rest is.2.2 led.0 left led.2 in
    let size : length b + length is.2.0 ≡ length new = sym (ap length is.2.1 ∙ length-append b is.2.0) in
    subst (λ (k : ℕ). Torn at k old left) size (torn_then at (length b) (length is.2.0) old led.0 left here more)
torn_pieces at new (Cut len ∷ calls) rest is old left led = absurd is
torn_pieces at new (Sync ∷ calls) rest is old left led = absurd is

-- what the pieces of a write leave of the standby's disk, the write might have left of the first
pieces_cover : (first second : DiskState) (at : ℕ) (new : List ℕ) (calls : List MirrorCommand) (rest : List ℕ) → Covers first second → ArePieces at new calls rest → (left : List ℕ) → MayLeave (disk_after_all second calls).instant left → MayLeave (disk_after first (Write at new)).instant left
pieces_cover first second at new calls rest covers is left may =
    let there : MayLead (second.instant.pending ++ pieces_change calls) second.instant.synced left = subst (λ (i : Instant). MayLeave i left) (pieces_instant at new calls rest second is) may in
    let cut = lead_split second.instant.pending (pieces_change calls) second.instant.synced left there in
    let before : MayLeave first.instant cut.0 = covers.leaves cut.0 cut.1 in
    lead_push first.instant.pending (Over at (length new)) first.instant.synced cut.0 left before (torn_pieces at new calls rest is cut.0 left cut.2)

-- the pieces of a write that were made are one that is torn
pieces_torn : (at : ℕ) (new : List ℕ) (calls : List MirrorCommand) (rest : List ℕ) (old : List ℕ) → at ≤ length old → ArePieces at new calls rest → Torn at (length new) old (replica_after old calls)
pieces_torn at new [] rest old within is = record { before = refl; after = refl; no_shorter = omega arith; no_longer = omega arith }
pieces_torn at new (Write place b ∷ calls) rest old within is =
    let within' : place ≤ length old = subst (λ (k : ℕ). k ≤ length old) (sym is.0) within in
    let one : Torn at (length b) old (overwritten old place b) = subst (λ (k : ℕ). Torn k (length b) old (overwritten old place b)) is.0 (torn_overwritten old b place within') in
    let long : at + length b ≤ length (overwritten old place b) = longer old b place at within' is.0 in
    let more : Torn (at + length b) (length is.2.0) (overwritten old place b) (replica_after (overwritten old place b) calls) = pieces_torn (at + length b) is.2.0 calls rest (overwritten old place b) long is.2.2 in
    let size : length b + length is.2.0 ≡ length new = sym (ap length is.2.1 ∙ length-append b is.2.0) in
    subst (λ (k : ℕ). Torn at k old (replica_after (overwritten old place b) calls)) size (torn_then at (length b) (length is.2.0) old (overwritten old place b) (replica_after (overwritten old place b) calls) one more)
  where
    longer : (old b : List ℕ) (place at : ℕ) → place ≤ length old → place ≡ at → at + length b ≤ length (overwritten old place b)
    longer old b place at within same =
        let front : length (take place old) ≡ place = omega (arith, length-take place old, within) in
        omega (arith, length-append (take place old ++ b) (drop (place + length b) old), length-append (take place old) b, front, same)
pieces_torn at new (Cut len ∷ calls) rest old within is = absurd is
pieces_torn at new (Sync ∷ calls) rest old within is = absurd is

-- ---- one call

reads_after : (first second : DiskState) (at : ℕ) (new : List ℕ) (sent : List MirrorCommand) → Covers first second → at ≤ length first.bytes → IsWrite at new sent → (disk_after_all second sent).bytes ≡ overwritten first.bytes at new
reads_after first second at new sent covers within is =
    reads_as_replica second sent
    ∙ ap (λ (l : List ℕ). replica_after l sent) covers.reads
    ∙ (pieces_are_one first.bytes new at sent within is).1

cut_may : (first second : DiskState) (len : ℕ) → Covers first second → (left : List ℕ) → MayLeave (disk_after second (Cut len)).instant left → MayLeave (disk_after first (Cut len)).instant left
cut_may first second len covers left may =
    let split = lead_split second.instant.pending (CutTo len ∷ []) second.instant.synced left may in
    lead_push first.instant.pending (CutTo len) first.instant.synced split.0 left (covers.leaves split.0 split.1) (subst (λ (l : List ℕ). MayMake (CutTo len) split.0 l) (sym split.2.2) split.2.1)

one_covers : (first second : DiskState) (call : MirrorCommand) (sent : List MirrorCommand) → Covers first second → IsWithin first.bytes call → AreSentFor call sent → Covers (disk_after first call) (disk_after_all second sent)
one_covers first second (Write at new) sent covers within is = record {
  reads = reads_after first second at new sent covers within is;
  image = lead_push first.instant.pending (Over at (length new)) first.instant.synced first.bytes (overwritten first.bytes at new) covers.image (torn_overwritten first.bytes new at within);
  leaves = pieces_cover first second at new sent [] covers is;
}
one_covers first second (Cut len) sent covers within is =
    subst (λ (cs : List MirrorCommand). Covers (disk_after first (Cut len)) (disk_after_all second cs)) (sym is) (record {
      reads = ap (λ (l : List ℕ). take len l) covers.reads;
      image = lead_push first.instant.pending (CutTo len) first.instant.synced first.bytes (take len first.bytes) covers.image (inr refl);
      leaves = cut_may first second len covers;
    })
one_covers first second Sync sent covers within is =
    subst (λ (cs : List MirrorCommand). Covers (disk_after first Sync) (disk_after_all second cs)) (sym is) (record {
      reads = covers.reads;
      image = refl;
      leaves = λ left may. may ∙ covers.reads;
    })

-- ---- several calls

pub answered_covers : AnsweredCovers
answered_covers first second [] sent covers within is = subst (λ (cs : List MirrorCommand). Covers first (disk_after_all second cs)) (sym is) covers
answered_covers first second (call ∷ calls) sent covers within is =
    let one : Covers (disk_after first call) (disk_after_all second is.0) = one_covers first second call is.0 covers within.0 is.3 in
    let bytes : bytes_after first.bytes call ≡ (disk_after first call).bytes = sym (reads_as_replica first (call ∷ [])) in
    let inside : AreWithin (disk_after first call).bytes calls = subst (λ (l : List ℕ). AreWithin l calls) bytes within.1 in
    let all = answered_covers (disk_after first call) (disk_after_all second is.0) calls is.1 one inside is.4 in
    subst (λ (s : DiskState). Covers (disk_after_all (disk_after first call) calls) s) (sym (after_more second is.0 is.1) ∙ ap (λ (cs : List MirrorCommand). disk_after_all second cs) (sym is.2)) all

-- ---- a call under way

-- it wasn't begun
not_begun : (first second : DiskState) (call : MirrorCommand) (sent : List MirrorCommand) → Covers first second → sent ≡ [] → ((left : List ℕ) → MayLeave (disk_after_all second sent).instant left → MightLeave first call left) × MightLeave first call (disk_after_all second sent).bytes
not_begun first second call sent covers none =
    subst (λ (cs : List MirrorCommand). ((left : List ℕ) → MayLeave (disk_after_all second cs).instant left → MightLeave first call left) × MightLeave first call (disk_after_all second cs).bytes) (sym none)
    (λ left may. inl (covers.leaves left may), inl (subst (λ (l : List ℕ). MayLeave first.instant l) (sym covers.reads) covers.image))

-- it was done
whole_done : (first second : DiskState) (call : MirrorCommand) (sent : List MirrorCommand) → Covers (disk_after first call) (disk_after_all second sent) → ((left : List ℕ) → MayLeave (disk_after_all second sent).instant left → MightLeave first call left) × MightLeave first call (disk_after_all second sent).bytes
whole_done first second call sent covers =
    (λ left may. inr (covers.leaves left may), inr (subst (λ (l : List ℕ). MayLeave (disk_after first call).instant l) (sym covers.reads) covers.image))

pub under_way_covers : UnderWayCovers
under_way_covers first second (Write at new) sent covers within is =
    let rest : List ℕ = is.0 in
    let torn = pieces_torn at new sent rest first.bytes within is.1 in
    let image : MayLeave (disk_after first (Write at new)).instant (replica_after first.bytes sent) = lead_push first.instant.pending (Over at (length new)) first.instant.synced first.bytes (replica_after first.bytes sent) covers.image torn in
    let same : replica_after first.bytes sent ≡ (disk_after_all second sent).bytes = sym (reads_as_replica second sent ∙ ap (λ (l : List ℕ). replica_after l sent) covers.reads) in
    (λ left may. inr (pieces_cover first second at new sent rest covers is.1 left may), inr (subst (λ (l : List ℕ). MayLeave (disk_after first (Write at new)).instant l) same image))
under_way_covers first second (Cut len) sent covers within (inl none) = not_begun first second (Cut len) sent covers none
under_way_covers first second (Cut len) sent covers within (inr all) = whole_done first second (Cut len) sent (one_covers first second (Cut len) sent covers within all)
under_way_covers first second Sync sent covers within (inl none) = not_begun first second Sync sent covers none
under_way_covers first second Sync sent covers within (inr all) = whole_done first second Sync sent (one_covers first second Sync sent covers within all)

-- ---- an attach

-- the calls of an attach end with a sync
attach_ends : (bytes : List ℕ) (pieces : List MirrorCommand) → attach_calls bytes pieces ≡ (opening_calls pieces ++ Sync ∷ first_call (first_of bytes) ∷ []) ++ Sync ∷ []
attach_ends bytes pieces = sym (append_assoc (opening_calls pieces) (Sync ∷ first_call (first_of bytes) ∷ []) (Sync ∷ []))

pub attach_covers : AttachCovers
attach_covers first second calls image is =
    let pieces : List MirrorCommand = is.0 in
    let front : List MirrorCommand = opening_calls pieces ++ Sync ∷ first_call (first_of first.bytes) ∷ [] in
    let ends : calls ≡ front ++ Sync ∷ [] = is.2 ∙ attach_ends first.bytes pieces in
    let made : replica_after second.bytes calls ≡ first.bytes = (attach_copies first.bytes second.bytes calls is).1 in
    let reads : (disk_after_all second calls).bytes ≡ first.bytes = reads_as_replica second calls ∙ made in
    let synced : replica_after second.bytes front ≡ first.bytes = sym (replica_more second.bytes front (Sync ∷ [])) ∙ ap (λ (cs : List MirrorCommand). replica_after second.bytes cs) (sym ends) ∙ made in
    record {
      reads = reads;
      image = image;
      leaves = λ left may. subst (λ (l : List ℕ). MayLeave first.instant l) (sym (sync_keeps second front left (subst (λ (cs : List MirrorCommand). MayLeave (disk_after_all second cs).instant left) ends may) ∙ synced)) image;
    }
