-- A standby's disk reads as the replica.
use Rattle.std.proofs.Common.{◌≡◌, ◌∙◌, inl, inr, ℕ, zero, suc, List, [], ◌∷◌, ◌++◌, take, Option, Some, None, refl, sym, ap, append-nil}
use Rattle.actor_ports.specs.declared.session.SessionEnd.TheVariants.{Done}
use Rattle.actor_ports.specs.Traffic.{Traffic}
use Rattle.http_edge.specs.Carry.{Over, AtEnd}
use Rattle.disk_model.specs.Disk.{DiskState}
use Rattle.frame_wire.specs.declared.frame.Frame.{Frame}
use Rattle.frame_wire.specs.declared.frame.Frame.TheVariants.{Mirror}
use Rattle.frame_wire.specs.declared.mirror.MirrorCommand.{MirrorCommand}
use Rattle.frame_wire.specs.Frames.{IsFrame}
use Rattle.frame_wire.specs.Laws.{ReadsSpelling, NoPrefix}
use Rattle.frame_wire.specs.Streams.{look}
use Rattle.standby_core.specs.Replicas.{replica_after, ReplicaOf}
use Rattle.standby_core.specs.declared.call.MirrorCall.{MirrorCall}
use Rattle.standby_core.specs.Telling.{call_bytes, calls_bytes, dones_bytes}
use Rattle.standby_core.specs.Attaching.{IsAttach}
use Rattle.standby_session.specs.Sessions.{AreFrames, IsStandby, EndsBehind}
use Rattle.standby_session.specs.Standbys.{commands_of, AreShort, IsGiven, KeepsAnswered}
use Rattle.standby_core.proofs.Replicated.{reads_as_replica, replica_more, attach_copies}
use Rattle.standby_session.proofs.Framing.{frames_more, frames_of, attach_frames}
use Rattle.standby_session.proofs.Reading.{look_nothing}

-- ---- calls are told apart by their spellings

abbrev command_in : Frame → MirrorCommand → MirrorCommand
command_in (Mirror c) d = c
command_in f d = d

some_bytes : ReadsSpelling → (c : MirrorCommand) (rest : List ℕ) → IsFrame (Mirror c) → call_bytes c ++ rest ≡ [] → ⊥
some_bytes reads c rest is_frame is =
    let whole = reads 0 (Mirror c) rest is_frame in
    let none = ap (λ (l : List ℕ). look 0 l) is ∙ look_nothing in
    let k : ⊥ = cc in k

pub same_calls : ReadsSpelling → NoPrefix → (cs ds : List MirrorCommand) → AreFrames cs → AreFrames ds → calls_bytes cs ≡ calls_bytes ds → cs ≡ ds
same_calls reads one [] [] a b is = refl
same_calls reads one [] (d ∷ ds) a b is = absurd (some_bytes reads d (calls_bytes ds) b.0 (sym is))
same_calls reads one (c ∷ cs) [] a b is = absurd (some_bytes reads c (calls_bytes cs) a.0 is)
same_calls reads one (c ∷ cs) (d ∷ ds) a b is =
    let both = one (Mirror c) (Mirror d) (calls_bytes cs) (calls_bytes ds) a.0 b.0 is in
    let first : c ≡ d = ap (λ (f : Frame). command_in f c) both.0 in
    let more : cs ≡ ds = same_calls reads one cs ds a.1 b.1 both.1 in
    ap (λ (x : MirrorCommand). x ∷ cs) first ∙ ap (λ (xs : List MirrorCommand). d ∷ xs) more

frames_take : (n : ℕ) (cs : List MirrorCommand) → AreFrames cs → AreFrames (take n cs)
frames_take zero cs a = tt
frames_take (suc n) [] a = tt
frames_take (suc n) (c ∷ cs) a = (a.0, frames_take n cs a.1)

-- ---- a session that read all that it was given

-- the bytes that were left are those of the calls that were made
given_all : (t0 t1 : Traffic) (read written : List ℕ) → Over (Some t0) (Some t1) (record { read = read; written = written }) → AtEnd (Some t0) (Some t1) → t0.left ≡ read
given_all t0 t1 read written o end =
    let rest : List ℕ = o.0 in
    let one : t1.left ≡ rest = ap (λ (x : Option Traffic). left_in x) o.2 in
    let two : t1.left ≡ end.0.left = ap (λ (x : Option Traffic). left_in x) end.1 in
    let none : rest ≡ [] = sym one ∙ two ∙ end.2 in
    o.1 ∙ ap (λ (l : List ℕ). read ++ l) none ∙ append-nil read
  where
    left_in : Option Traffic → List ℕ
    left_in None = []
    left_in (Some t) = t.left

module _ (reads : ReadsSpelling) (one : NoPrefix) (bytes : List ℕ) (attach commands : List MirrorCommand) (old new : DiskState) (t0 t1 : Traffic) (requests : ℕ) (is : IsAttach bytes attach) (fa : AreFrames attach) (fc : AreFrames commands) (e : EndsBehind (Some old) (Some new) (Some t0) (Some t1) (Done requests)) where
  made : (n : ℕ) → t0.left ≡ calls_bytes (attach ++ take n commands) → new.bytes ≡ replica_after bytes (take n commands)
  made n given =
      let calls : List MirrorCommand = e.0 in
      let none : e.1 ≡ [] = e.5.1 in
      let read : calls_bytes calls ++ e.1 ≡ calls_bytes calls = ap (λ (l : List ℕ). calls_bytes calls ++ l) none ∙ append-nil (calls_bytes calls) in
      let left : t0.left ≡ calls_bytes calls ++ e.1 = given_all t0 t1 (calls_bytes calls ++ e.1) (dones_bytes calls) e.3 e.5.2 in
      let same : calls ≡ attach ++ take n commands = same_calls reads one calls (attach ++ take n commands) e.2 (frames_more attach (take n commands) fa (frames_take n commands fc)) (sym read ∙ sym left ∙ given) in
      let state : new ≡ e.4.0 = ap (λ (x : Option DiskState). state_in x new) e.4.1 in
      ap (λ (d : DiskState). d.bytes) (state ∙ e.4.2.1)
      ∙ reads_as_replica old calls
      ∙ ap (λ (cs : List MirrorCommand). replica_after old.bytes cs) same
      ∙ replica_more old.bytes attach (take n commands)
      ∙ ap (λ (l : List ℕ). replica_after l (take n commands)) (attach_copies bytes old.bytes attach is).1
    where
      state_in : Option DiskState → DiskState → DiskState
      state_in None d = d
      state_in (Some x) d = x

kept : ReadsSpelling → NoPrefix → (calls : List MirrorCommand) (n : ℕ) (bytes : List ℕ) (attach : List MirrorCommand) (old new : DiskState) (t0 t1 : Traffic) (requests : ℕ) → IsAttach bytes attach → AreFrames attach → AreFrames calls → IsGiven attach calls n t0.left → IsStandby (Some old) (Some new) (Some t0) (Some t1) (Done requests) → ReplicaOf bytes calls n new.bytes
kept reads one calls n bytes attach old new t0 t1 requests is fa fc (inl given) (inl e) = inl (made reads one bytes attach calls old new t0 t1 requests is fa fc e n given)
kept reads one calls n bytes attach old new t0 t1 requests is fa fc (inr given) (inl e) = inr (made reads one bytes attach calls old new t0 t1 requests is fa fc e (suc n) given)
kept reads one calls n bytes attach old new t0 t1 requests is fa fc given (inr e) = absurd e.6

pub keeps_answered : ReadsSpelling → NoPrefix → (calls : List MirrorCall) (n : ℕ) → AreShort calls → KeepsAnswered (commands_of calls) n
keeps_answered reads one calls n short bytes attach old new t0 t1 requests is below fit given end =
    kept reads one (commands_of calls) n bytes attach old new t0 t1 requests is (attach_frames bytes attach below is) (frames_of calls short fit) given end
