-- How a session of a standby goes on, and how it ends.
use Rattle.std.proofs.Common.{◌≡◌, ◌∙◌, inl, inr, ℕ, ◌+◌, ◌≤◌, Bool, true, false, List, [], ◌∷◌, ◌++◌, length, Option, Some, None, Ok, Err, is_some, refl, sym, ap, subst, arith, append-nil, append_assoc, length-append}
use Rattle.actor_ports.specs.declared.port.PortError.{PortError}
use Rattle.actor_ports.specs.declared.port.PortError.TheVariants as ports
use Rattle.actor_ports.specs.declared.session.SessionEnd.{SessionEnd}
use Rattle.actor_ports.specs.declared.session.SessionEnd.TheVariants.{Done, Malformed, Broken, ConnFault, OutOfMemory, Spent}
use Rattle.actor_ports.specs.Traffic.{Traffic}
use Rattle.http_edge.specs.Carry.{Over, AtEnd, nothing}
use Rattle.http_edge.proofs.Carried.{over_nothing, over_then, told_along}
use Rattle.disk_model.specs.Disk.{DiskState, Tells}
use Rattle.disk_model.proofs.Stages.{Then, tells_then, tells_map, tells_same}
use Rattle.frame_wire.specs.declared.error.FrameError.{FrameError}
use Rattle.frame_wire.specs.declared.frame.Frame.{Frame}
use Rattle.frame_wire.specs.declared.frame.Frame.TheVariants.{Mirror}
use Rattle.frame_wire.specs.declared.mirror.MirrorCommand.{MirrorCommand}
use Rattle.frame_wire.specs.Frames.{frame_bytes, IsFrame}
use Rattle.frame_wire.specs.Streams.{look, AllFrames, end_look, ReaderState, new_reader, Takes}
use Rattle.frame_session.specs.declared.fetch.Fetched.TheVariants.{Fed, Faulty, Ended}
use Rattle.frame_session.specs.Sessions.{IsBeginning, InputEnd, BeginsWith, SessionCause, cut_end}
use Rattle.frame_session.specs.Turns.{Got, Fetches}
use Rattle.standby_session.specs.declared.taken.Taken.{Taken}
use Rattle.standby_session.specs.declared.taken.Taken.TheVariants as taken
use Rattle.standby_core.specs.Replicas.{IsWithin, AreWithin, disk_after_all, replica_after}
use Rattle.standby_core.specs.Telling.{call_bytes, calls_bytes, done_bytes, dones_bytes}
use Rattle.standby_session.specs.Sessions.{MakesCall, FailsCall, MakesAll, MakesBut, AreFrames, is_call, EndsAt, EndsBehind, IsStandby, BrokenCause}
use Rattle.standby_session.specs.Taking.{TakesFrame, TakesCause, FaultCause, taken_end}
use Rattle.standby_session.specs.Taking.{Takes as TakesCall}
use Rattle.standby_core.proofs.Told.{calls_more, dones_more, over_as}
use Rattle.standby_core.proofs.Replicated.{after_more, within_more, reads_as_replica}
use Rattle.standby_session.proofs.Reading.{kept, Next, Held, look_nothing, kept_next, kept_rest, kept_taken, taken_waiting, taken_held, more_or_fault, no_fault}

-- ---- what went over a connection

read_as : (a d : Option Traffic) (r s w : List ℕ) → r ≡ s → Over a d (record { read = r; written = w }) → Over a d (record { read = s; written = w })
read_as a d r s w is o = subst (λ (l : List ℕ). Over a d (record { read = l; written = w })) is o

wrote_as : (a d : Option Traffic) (r w x : List ℕ) → w ≡ x → Over a d (record { read = r; written = w }) → Over a d (record { read = r; written = x })
wrote_as a d r w x is o = subst (λ (l : List ℕ). Over a d (record { read = r; written = l })) is o

-- ---- lists of calls

pub frames_push : (cs : List MirrorCommand) (c : MirrorCommand) → AreFrames cs → IsFrame (Mirror c) → AreFrames (cs ++ c ∷ [])
frames_push [] c a f = (f, tt)
frames_push (x ∷ cs) c a f = (a.0, frames_push cs c a.1 f)

calls_push : (cs : List MirrorCommand) (c : MirrorCommand) (rest : List ℕ) → calls_bytes cs ++ (call_bytes c ++ rest) ≡ calls_bytes (cs ++ c ∷ []) ++ rest
calls_push cs c rest =
    sym
    (ap (λ (l : List ℕ). l ++ rest) (calls_more cs (c ∷ []))
    ∙ append_assoc (calls_bytes cs) (call_bytes c ++ []) rest
    ∙ ap (λ (l : List ℕ). calls_bytes cs ++ (l ++ rest)) (append-nil (call_bytes c)))

dones_push : (cs : List MirrorCommand) (c : MirrorCommand) → dones_bytes cs ++ done_bytes ≡ dones_bytes (cs ++ c ∷ [])
dones_push cs c = sym (dones_more cs (c ∷ []) ∙ ap (λ (l : List ℕ). dones_bytes cs ++ l) (append-nil done_bytes))

one_longer : (cs : List MirrorCommand) (c : MirrorCommand) (n : ℕ) → n ≡ length cs → n + 1 ≡ length (cs ++ c ∷ [])
one_longer cs c n is = omega (arith, is, length-append cs (c ∷ []))

-- one more call was made
makes_push : (cs : List MirrorCommand) (c : MirrorCommand) (d e f : DiskState) → MakesAll cs d e → MakesCall c (Ok true) e f → MakesAll (cs ++ c ∷ []) d f
makes_push cs c d e f all one =
    let bytes : e.bytes ≡ replica_after d.bytes cs = ap (λ (x : DiskState). x.bytes) all.1 ∙ reads_as_replica d cs in (
      within_more d.bytes cs (c ∷ []) all.0 (subst (λ (l : List ℕ). AreWithin l (c ∷ [])) bytes (one.0, tt)),
      one.1 ∙ ap (λ (x : DiskState). disk_after_all x (c ∷ [])) all.1 ∙ sym (after_more d cs (c ∷ [])),
    )

makes_but : (cs : List MirrorCommand) (c : MirrorCommand) (x : PortError) (d e f : DiskState) → MakesAll cs d e → MakesCall c (Err x) e f → MakesBut cs c x d f
makes_but cs c x d e f all one = (all.0, subst (λ (s : DiskState). FailsCall c x s f) all.1 one)

tells_push : (cs : List MirrorCommand) (c : MirrorCommand) (a b d : Option DiskState) → Tells (MakesAll cs) a b → Tells (MakesCall c (Ok true)) b d → Tells (MakesAll (cs ++ c ∷ [])) a d
tells_push cs c a b d all one =
    tells_map (Then (MakesAll cs) (MakesCall c (Ok true))) (MakesAll (cs ++ c ∷ [])) a d (λ x y both. makes_push cs c x both.0 y both.1 both.2) (tells_then (MakesAll cs) (MakesCall c (Ok true)) a b d all one)

tells_but : (cs : List MirrorCommand) (c : MirrorCommand) (x : PortError) (a b d : Option DiskState) → Tells (MakesAll cs) a b → Tells (MakesCall c (Err x)) b d → Tells (MakesBut cs c x) a d
tells_but cs c x a b d all one =
    tells_map (Then (MakesAll cs) (MakesCall c (Err x))) (MakesBut cs c x) a d (λ s y both. makes_but cs c x s both.0 y both.1 both.2) (tells_then (MakesAll cs) (MakesCall c (Err x)) a b d all one)

-- a call past the end changes nothing
past_same : (c : MirrorCommand) (a b : Option DiskState) → Tells (MakesCall c (Ok false)) a b → b ≡ a
past_same c None b tells = tells
past_same c (Some d) b tells = tells.1 ∙ ap (λ (x : DiskState). Some x) tells.2.1

past_out : (c : MirrorCommand) (a b : Option DiskState) → Tells (MakesCall c (Ok false)) a b → (d : DiskState) → b ≡ Some d → IsWithin d.bytes c → ⊥
past_out c None b tells d is within = let k : ⊥ = cc in k
past_out c (Some x) b tells d is within =
    let same : Some d ≡ Some x = sym is ∙ tells.1 ∙ ap (λ (y : DiskState). Some y) tells.2.1 in
    let one : d ≡ x = cc in
    tells.2.0 (subst (λ (y : DiskState). IsWithin y.bytes c) one within)

-- ---- between two frames

-- where a session stands between two frames
pub record Serving (d0 d1 : Option DiskState) (t0 t1 : Option Traffic) (reader : ReaderState) (faulty : Bool) (requests : ℕ) : Type 0 where
  pub calls : List MirrorCommand
  pub each : AreFrames calls
  pub over : Over t0 t1 (record { read = calls_bytes calls ++ kept reader; written = dones_bytes calls })
  pub made : Tells (MakesAll calls) d0 d1
  pub count : requests ≡ length calls
  pub waiting : AllFrames reader.ready
  pub held : Held reader
  pub fault : faulty ≡ is_some reader.failed

pub serving_none : (d : Option DiskState) (t : Option Traffic) → Serving d d t t new_reader false 0
serving_none d t = record { calls = []; each = tt; over = over_nothing t; made = tells_same (MakesAll []) d d (λ s. (tt, refl)) refl; count = refl; waiting = tt; held = (0, look_nothing); fault = refl }

-- a reader in which no frame waits stays as it is
pub serving_same : (d0 d1 : Option DiskState) (t0 t1 : Option Traffic) (old new : ReaderState) (faulty : Bool) (n : ℕ) → new ≡ old → Serving d0 d1 t0 t1 old faulty n → Serving d0 d1 t0 t1 new faulty n
serving_same d0 d1 t0 t1 old new faulty n same p = subst (λ (r : ReaderState). Serving d0 d1 t0 t1 r faulty n) (sym same) p

module _ (d0 d1 : Option DiskState) (t0 t1 : Option Traffic) (old : ReaderState) (faulty : Bool) (n : ℕ) (p : Serving d0 d1 t0 t1 old faulty n) where
  -- no further call is counted
  pub serving_spent : n ≡ 18446744073709551615 → IsStandby d0 d1 t0 t1 (Spent n n)
  serving_spent most = inl (p.calls, kept old, p.each, p.over, p.made, (p.count, most, refl))

  -- ---- a frame waits

  module _ (f : Frame) (new : ReaderState) (next : Next old f new) where
    first_is_frame : IsFrame f × AllFrames new.ready
    first_is_frame = subst AllFrames next.first p.waiting

    over_first : Over t0 t1 (record { read = calls_bytes p.calls ++ (frame_bytes f ++ kept new); written = dones_bytes p.calls })
    over_first = read_as t0 t1 (calls_bytes p.calls ++ kept old) (calls_bytes p.calls ++ (frame_bytes f ++ kept new)) (dones_bytes p.calls) (ap (λ (l : List ℕ). calls_bytes p.calls ++ l) (kept_next old f new next)) p.over

    begins : BeginsWith (frame_bytes f ++ kept new) f
    begins = (first_is_frame.0, (kept new, refl))

    -- an answer of which these bytes were written
    over_answer : (t2 : Option Traffic) (front : List ℕ) → Over t1 t2 (record { read = []; written = front }) → Over t0 t2 (record { read = calls_bytes p.calls ++ (frame_bytes f ++ kept new); written = dones_bytes p.calls ++ front })
    over_answer t2 front o =
        read_as t0 t2 ((calls_bytes p.calls ++ (frame_bytes f ++ kept new)) ++ []) (calls_bytes p.calls ++ (frame_bytes f ++ kept new)) (dones_bytes p.calls ++ front) (append-nil (calls_bytes p.calls ++ (frame_bytes f ++ kept new)))
        (over_then t0 t1 t2 (record { read = calls_bytes p.calls ++ (frame_bytes f ++ kept new); written = dones_bytes p.calls }) (record { read = []; written = front }) over_first o)

    -- a frame that is foreign changes nothing
    serving_foreign : (d2 : Option DiskState) (t2 : Option Traffic) → is_call f ≡ false → d2 ≡ d1 → t2 ≡ t1 → IsStandby d0 d2 t0 t2 (Malformed n)
    serving_foreign d2 t2 other same link =
        inl (p.calls, frame_bytes f ++ kept new, p.each, subst (λ (t : Option Traffic). Over t0 t (record { read = calls_bytes p.calls ++ (frame_bytes f ++ kept new); written = dones_bytes p.calls })) (sym link) over_first, subst (λ (d : Option DiskState). Tells (MakesAll p.calls) d0 d) (sym same) p.made, (p.count, inr (inl (f, begins, other))))

  -- ---- a call waits

  module _ (call : MirrorCommand) (new : ReaderState) (next : Next old (Mirror call) new) (d2 : Option DiskState) (t2 : Option Traffic) where
    each_more : AreFrames (p.calls ++ call ∷ [])
    each_more = frames_push p.calls call p.each (first_is_frame (Mirror call) new next).0

    over_call : (front : List ℕ) → Over t1 t2 (record { read = []; written = front }) → Over t0 t2 (record { read = calls_bytes (p.calls ++ call ∷ []) ++ kept new; written = dones_bytes p.calls ++ front })
    over_call front o = read_as t0 t2 (calls_bytes p.calls ++ (call_bytes call ++ kept new)) (calls_bytes (p.calls ++ call ∷ []) ++ kept new) (dones_bytes p.calls ++ front) (calls_push p.calls call (kept new)) (over_answer (Mirror call) new next t2 front o)

    serving_done : TakesCall call d1 d2 t1 t2 taken.Done → Serving d0 d2 t0 t2 new faulty (n + 1)
    serving_done h = record {
      calls = p.calls ++ call ∷ [];
      each = each_more;
      over = wrote_as t0 t2 (calls_bytes (p.calls ++ call ∷ []) ++ kept new) (dones_bytes p.calls ++ done_bytes) (dones_bytes (p.calls ++ call ∷ [])) (dones_push p.calls call) (over_call done_bytes h.1);
      made = tells_push p.calls call d0 d1 d2 p.made h.0;
      count = one_longer p.calls call n p.count;
      waiting = (first_is_frame (Mirror call) new next).1;
      held = (p.held.0, ap (look p.held.0) next.rest ∙ p.held.1 ∙ ap end_look (sym next.failed));
      fault = p.fault ∙ ap is_some (sym next.failed);
    }

    ends_within : (end : SessionEnd) (front : List ℕ) → Over t1 t2 (record { read = []; written = front }) → EndsAt end p.calls call front d0 d2 → IsStandby d0 d2 t0 t2 end
    ends_within end front o at = inr (p.calls, call, kept new, front, each_more, over_call front o, at)

    serving_cut : (e : PortError) → TakesCall call d1 d2 t1 t2 (taken.Cut e) → IsStandby d0 d2 t0 t2 (cut_end e n)
    serving_cut ports.Failed (inl h) = ends_within (ConnFault n) h.1.0 h.1.2 (tells_push p.calls call d0 d1 d2 p.made h.0, p.count, h.1.1)
    serving_cut ports.OutOfMemory (inl h) = ends_within (OutOfMemory n) h.1.0 h.1.2 (inl (tells_push p.calls call d0 d1 d2 p.made h.0), p.count, h.1.1)
    serving_cut ports.Failed (inr h) = let e = h.1 in absurd (let k : ⊥ = cc in k)
    serving_cut ports.OutOfMemory (inr h) =
        ends_within (OutOfMemory n) [] (subst (λ (t : Option Traffic). Over t1 t (record { read = []; written = [] })) (sym h.2) (over_nothing t1)) (inr (tells_but p.calls call ports.OutOfMemory d0 d1 d2 p.made h.0), p.count, refl)

    serving_fault : (told : Bool) → TakesCall call d1 d2 t1 t2 (taken.Fault told) → (end : SessionEnd) → taken_end (taken.Fault told) n ≡ Some end → IsStandby d0 d2 t0 t2 end
    serving_fault true h end is =
        let same : Broken (n + 1) ≡ end = cc in
        subst (λ (x : SessionEnd). IsStandby d0 d2 t0 t2 x) same (ends_within (Broken (n + 1)) h.1.0 h.1.2 (tells_but p.calls call ports.Failed d0 d1 d2 p.made h.0, inl (let c = p.count in omega (arith, c), h.1.1)))
    serving_fault false h end is =
        let same : Broken n ≡ end = cc in
        subst (λ (x : SessionEnd). IsStandby d0 d2 t0 t2 x) same (ends_within (Broken n) h.1.0 h.1.2 (tells_but p.calls call ports.Failed d0 d1 d2 p.made h.0, inr (p.count, h.1.1)))

    serving_past : TakesCall call d1 d2 t1 t2 taken.Foreign → IsStandby d0 d2 t0 t2 (Malformed n)
    serving_past h = inl (
      p.calls,
      call_bytes call ++ kept new,
      p.each,
      subst (λ (t : Option Traffic). Over t0 t (record { read = calls_bytes p.calls ++ (call_bytes call ++ kept new); written = dones_bytes p.calls })) (sym h.1) (over_first (Mirror call) new next),
      subst (λ (d : Option DiskState). Tells (MakesAll p.calls) d0 d) (sym (past_same call d1 d2 h.0)) p.made,
      (p.count, inr (inr (inl (call, begins (Mirror call) new next, past_out call d1 d2 h.0)))),
    )

    call_ends : (t : Taken) → TakesCall call d1 d2 t1 t2 t → (end : SessionEnd) → taken_end t n ≡ Some end → IsStandby d0 d2 t0 t2 end
    call_ends taken.Done h end is = absurd (let k : ⊥ = cc in k)
    call_ends (taken.Cut e) h end is =
        let same : cut_end e n ≡ end = cc in
        subst (λ (x : SessionEnd). IsStandby d0 d2 t0 t2 x) same (serving_cut e h)
    call_ends (taken.Fault told) h end is = serving_fault told h end is
    call_ends taken.Foreign h end is =
        let same : Malformed n ≡ end = cc in
        subst (λ (x : SessionEnd). IsStandby d0 d2 t0 t2 x) same (serving_past h)

    call_goes_on : (t : Taken) → TakesCall call d1 d2 t1 t2 t → taken_end t n ≡ None → Serving d0 d2 t0 t2 new faulty (n + 1)
    call_goes_on taken.Done h is = serving_done h
    call_goes_on (taken.Cut e) h is = absurd (let k : ⊥ = cc in k)
    call_goes_on (taken.Fault true) h is = absurd (let k : ⊥ = cc in k)
    call_goes_on (taken.Fault false) h is = absurd (let k : ⊥ = cc in k)
    call_goes_on taken.Foreign h is = absurd (let k : ⊥ = cc in k)

  foreign_ends : (f : Frame) (new : ReaderState) → Next old f new → (d2 : Option DiskState) (t2 : Option Traffic) (t : Taken) → is_call f ≡ false → (t ≡ taken.Foreign) × (d2 ≡ d1) × (t2 ≡ t1) → (end : SessionEnd) → taken_end t n ≡ Some end → IsStandby d0 d2 t0 t2 end
  foreign_ends f new next d2 t2 t other h end is =
      let told : Some (Malformed n) ≡ Some end = sym (ap (λ (x : Taken). taken_end x n) h.0) ∙ is in
      let same : Malformed n ≡ end = cc in
      subst (λ (x : SessionEnd). IsStandby d0 d2 t0 t2 x) same (serving_foreign f new next d2 t2 other h.1 h.2)

  foreign_stays : (t : Taken) → t ≡ taken.Foreign → taken_end t n ≡ None → ⊥
  foreign_stays t foreign is = let told : Some (Malformed n) ≡ None = sym (ap (λ (x : Taken). taken_end x n) foreign) ∙ is in let k : ⊥ = cc in k

  pub frame_ends : (f : Frame) (new : ReaderState) → Next old f new → (d2 : Option DiskState) (t2 : Option Traffic) (t : Taken) → TakesFrame f d1 d2 t1 t2 t → (end : SessionEnd) → Some end ≡ taken_end t n → IsStandby d0 d2 t0 t2 end
  frame_ends (Mirror call) new next d2 t2 t h end is = call_ends call new next d2 t2 t h end (sym is)
  frame_ends f new next d2 t2 t h end is = foreign_ends f new next d2 t2 t refl h end (sym is)

  pub frame_goes_on : (f : Frame) (new : ReaderState) → Next old f new → (d2 : Option DiskState) (t2 : Option Traffic) (t : Taken) → TakesFrame f d1 d2 t1 t2 t → None ≡ taken_end t n → Serving d0 d2 t0 t2 new faulty (n + 1)
  frame_goes_on (Mirror call) new next d2 t2 t h is = call_goes_on call new next d2 t2 t h (sym is)
  frame_goes_on f new next d2 t2 t h is = absurd (foreign_stays t h.0 (sym is))

  -- ---- no frame waits

  module _ (none : old.ready ≡ []) where
    over_rest : Over t0 t1 (record { read = calls_bytes p.calls ++ old.rest; written = dones_bytes p.calls })
    over_rest = read_as t0 t1 (calls_bytes p.calls ++ kept old) (calls_bytes p.calls ++ old.rest) (dones_bytes p.calls) (ap (λ (l : List ℕ). calls_bytes p.calls ++ l) (kept_rest old none)) p.over

    pub read_fault : faulty ≡ true → IsStandby d0 d1 t0 t1 (Malformed n)
    read_fault is_so = inl (p.calls, old.rest, p.each, over_rest, p.made, (p.count, inl (more_or_fault old p.held faulty p.fault is_so)))

    pub not_failed : faulty ≡ false → old.failed ≡ None
    not_failed isnt = no_fault old.failed (sym p.fault ∙ isnt)

    module _ (new : ReaderState) (t2 : Option Traffic) where
      over_got : (got : List ℕ) → Got t1 t2 got → Over t0 t2 (record { read = calls_bytes p.calls ++ (kept old ++ got); written = dones_bytes p.calls })
      over_got got o =
          over_as t0 t2 ((calls_bytes p.calls ++ kept old) ++ got) (calls_bytes p.calls ++ (kept old ++ got)) (dones_bytes p.calls ++ []) (dones_bytes p.calls) (append_assoc (calls_bytes p.calls) (kept old) got) (append-nil (dones_bytes p.calls))
          (over_then t0 t1 t2 (record { read = calls_bytes p.calls ++ kept old; written = dones_bytes p.calls }) (record { read = got; written = [] }) p.over o)

      taken_on : (got : List ℕ) (end : Option FrameError) (b : Bool) → b ≡ is_some end → Got t1 t2 got → Takes old got new end → Serving d0 d1 t0 t2 new b n
      taken_on got end b same o t = record {
        calls = p.calls;
        each = p.each;
        over = read_as t0 t2 (calls_bytes p.calls ++ (kept old ++ got)) (calls_bytes p.calls ++ kept new) (dones_bytes p.calls) (ap (λ (l : List ℕ). calls_bytes p.calls ++ l) (kept_taken old got new end none t)) (over_got got o);
        made = p.made;
        count = p.count;
        waiting = taken_waiting old got new end none t;
        held = taken_held old got new end t;
        fault = same ∙ ap is_some (sym t.4);
      }

      pub read_on : Fetches old new t1 t2 (Ok Fed) → Serving d0 d1 t0 t2 new false n
      read_on r = taken_on r.0 None false refl r.1 r.2

      pub read_faulty : Fetches old new t1 t2 (Ok Faulty) → Serving d0 d1 t0 t2 new true n
      read_faulty r = taken_on r.0 (Some r.1) true refl r.2 r.3

      pub read_cut : (e : PortError) → Fetches old new t1 t2 (Err e) → IsStandby d0 d1 t0 t2 (cut_end e n)
      read_cut ports.Failed r = inl (p.calls, kept old ++ r.0, p.each, over_got r.0 r.1, p.made, p.count)
      read_cut ports.OutOfMemory r = inl (p.calls, kept old ++ r.0, p.each, over_got r.0 r.1, p.made, p.count)

      over_ended : Over t1 t2 nothing → Over t0 t2 (record { read = calls_bytes p.calls ++ old.rest; written = dones_bytes p.calls })
      over_ended o = read_as t0 t2 (calls_bytes p.calls ++ (kept old ++ [])) (calls_bytes p.calls ++ old.rest) (dones_bytes p.calls) (ap (λ (l : List ℕ). calls_bytes p.calls ++ l) (append-nil (kept old) ∙ kept_rest old none)) (over_got [] o)

      ends_told : (end : SessionEnd) → InputEnd old.rest n end → look p.held.0 old.rest ≡ end_look None → Over t1 t2 nothing → AtEnd t0 t2 → EndsBehind d0 d1 t0 t2 end
      ends_told (Done m) e more o at_end = (p.calls, old.rest, p.each, over_ended o, p.made, (e.0 ∙ p.count, e.1, at_end))
      ends_told (Malformed m) e more o at_end = (p.calls, old.rest, p.each, over_ended o, p.made, (e.0 ∙ p.count, inr (inr (inr (e.1, (p.held.0, more), at_end)))))
      ends_told (OutOfMemory m) e more o at_end = (p.calls, old.rest, p.each, over_ended o, p.made, e ∙ p.count)
      ends_told (Broken m) e more o at_end = absurd e
      ends_told (ConnFault m) e more o at_end = absurd e
      ends_told (Spent m count) e more o at_end = absurd e

      pub read_begins : faulty ≡ false → Fetches old new t1 t2 (Ok Ended) → IsBeginning new.rest
      read_begins isnt r = subst (λ (x : ReaderState). IsBeginning x.rest) (sym r.2) (p.held.0, p.held.1 ∙ ap end_look (not_failed isnt))

      pub read_waits : faulty ≡ false → Fetches old new t1 t2 (Ok Ended) → (new.ready ≡ []) × (new.failed ≡ None)
      read_waits isnt r = subst (λ (x : ReaderState). (x.ready ≡ []) × (x.failed ≡ None)) (sym r.2) (none, not_failed isnt)

      pub read_ended : (end : SessionEnd) → faulty ≡ false → Fetches old new t1 t2 (Ok Ended) → InputEnd new.rest n end → IsStandby d0 d1 t0 t2 end
      read_ended end isnt r ends =
          let same : InputEnd old.rest n end = subst (λ (x : ReaderState). InputEnd x.rest n end) r.2 ends in
          let more : look p.held.0 old.rest ≡ end_look None = p.held.1 ∙ ap end_look (not_failed isnt) in
          inl (ends_told end same more r.0 (told_along t0 t1 t2 (record { read = calls_bytes p.calls ++ kept old; written = dones_bytes p.calls }) p.over r.1))

-- ---- the counts

pub link_ends : (t : Taken) (n a b c : ℕ) (end : SessionEnd) → Some end ≡ taken_end t n → a ≤ b → TakesCause b c t → SessionCause a c end
link_ends t n a b c end is before h = go t end (sym is) h
  where
    go : (x : Taken) (y : SessionEnd) → taken_end x n ≡ Some y → TakesCause b c x → SessionCause a c y
    go taken.Done y e k = absurd (let z : ⊥ = cc in z)
    go (taken.Cut ports.Failed) y e k = let same : ConnFault n ≡ y = cc in subst (λ (z : SessionEnd). SessionCause a c z) same (omega (arith, before, k))
    go (taken.Cut ports.OutOfMemory) y e k = let same : OutOfMemory n ≡ y = cc in subst (λ (z : SessionEnd). SessionCause a c z) same (omega (arith, before, k))
    go (taken.Fault true) y e k = let same : Broken (n + 1) ≡ y = cc in subst (λ (z : SessionEnd). SessionCause a c z) same (omega (arith, before, k))
    go (taken.Fault false) y e k = let same : Broken n ≡ y = cc in subst (λ (z : SessionEnd). SessionCause a c z) same (omega (arith, before, k))
    go taken.Foreign y e k = let same : Malformed n ≡ y = cc in subst (λ (z : SessionEnd). SessionCause a c z) same (omega (arith, before, k))

pub disk_ends : (t : Taken) (n a b c : ℕ) (end : SessionEnd) → Some end ≡ taken_end t n → a ≤ b → FaultCause b c t → BrokenCause a c end
disk_ends t n a b c end is before h = go t end (sym is) h
  where
    go : (x : Taken) (y : SessionEnd) → taken_end x n ≡ Some y → FaultCause b c x → BrokenCause a c y
    go taken.Done y e k = absurd (let z : ⊥ = cc in z)
    go (taken.Cut ports.Failed) y e k = let same : ConnFault n ≡ y = cc in subst (λ (z : SessionEnd). BrokenCause a c z) same (omega (arith, before, k))
    go (taken.Cut ports.OutOfMemory) y e k = let same : OutOfMemory n ≡ y = cc in subst (λ (z : SessionEnd). BrokenCause a c z) same (omega (arith, before, k))
    go (taken.Fault true) y e k = let same : Broken (n + 1) ≡ y = cc in subst (λ (z : SessionEnd). BrokenCause a c z) same (omega (arith, before, k))
    go (taken.Fault false) y e k = let same : Broken n ≡ y = cc in subst (λ (z : SessionEnd). BrokenCause a c z) same (omega (arith, before, k))
    go taken.Foreign y e k = let same : Malformed n ≡ y = cc in subst (λ (z : SessionEnd). BrokenCause a c z) same (omega (arith, before, k))

pub link_stays : (t : Taken) (n a b c : ℕ) → None ≡ taken_end t n → a ≤ b → TakesCause b c t → a ≤ c
link_stays taken.Done n a b c is before h = omega (arith, before, h)
link_stays (taken.Cut e) n a b c is before h = absurd (let z : ⊥ = cc in z)
link_stays (taken.Fault true) n a b c is before h = absurd (let z : ⊥ = cc in z)
link_stays (taken.Fault false) n a b c is before h = absurd (let z : ⊥ = cc in z)
link_stays taken.Foreign n a b c is before h = absurd (let z : ⊥ = cc in z)

pub disk_stays : (t : Taken) (n a b c : ℕ) → None ≡ taken_end t n → a ≤ b → FaultCause b c t → a ≤ c
disk_stays taken.Done n a b c is before h = omega (arith, before, h)
disk_stays (taken.Cut e) n a b c is before h = absurd (let z : ⊥ = cc in z)
disk_stays (taken.Fault true) n a b c is before h = absurd (let z : ⊥ = cc in z)
disk_stays (taken.Fault false) n a b c is before h = absurd (let z : ⊥ = cc in z)
disk_stays taken.Foreign n a b c is before h = absurd (let z : ⊥ = cc in z)
