-- How a session goes on, and how it ends.
use Rattle.std.proofs.Common.{◌≡◌, ◌≤◌, ◌<◌, ◌+◌, ℕ, Bool, true, false, List, [], ◌∷◌, ◌++◌, length, Option, Some, None, Ok, Err, is_some, refl, sym, ap, subst, ◌∙◌, append_assoc, append-nil, arith, inl, inr}
use Rattle.actor_ports.specs.declared.port.PortError.{PortError}
use Rattle.actor_ports.specs.declared.port.PortError.TheVariants as ports
use Rattle.actor_ports.specs.declared.session.SessionEnd.{SessionEnd}
use Rattle.actor_ports.specs.declared.session.SessionEnd.TheVariants.{Done, Malformed, Broken, ConnFault, OutOfMemory, Spent}
use Rattle.actor_ports.specs.Traffic.{Traffic}
use Rattle.http_edge.specs.Carry.{Over, AtEnd, IsFront, nothing}
use Rattle.http_edge.proofs.Carried.{told_along}
use Rattle.frame_wire.specs.declared.error.FrameError.{FrameError}
use Rattle.frame_wire.specs.declared.frame.Frame.{Frame}
use Rattle.frame_wire.specs.Frames.{frame_bytes, IsFrame}
use Rattle.frame_wire.specs.Streams.{look, place, AllFrames, frames_bytes, end_look, ReaderState, new_reader, Takes}
use Rattle.frame_session.specs.declared.fetch.Fetched.TheVariants.{Fed, Faulty, Ended}
use Rattle.frame_session.specs.declared.turn.Turn.TheVariants as turns
use Rattle.frame_session.specs.Exchanges.{Exchange}
use Rattle.frame_session.specs.Rounds.{Round, asked, answered, GoOn, Went}
use Rattle.frame_session.specs.Turns.{IsCutAt, Steps, Turns, Got, Fetches}
use Rattle.frame_session.specs.Sessions.{IsBeginning, InputEnd, BeginsWith, IsSession, EndsBetween, EndsCut, cut_end, cut_answer_end}
use Rattle.frame_session.proofs.Rounding.{AddsUp, answered_more, one_more, on_more, went_none, went_read, went_later, went_on}

-- the bytes that wait in a reader
abbrev pub kept : ReaderState → List ℕ
kept r = frames_bytes r.ready ++ r.rest

-- the first frame was taken
pub record Next (old : ReaderState) (f : Frame) (new : ReaderState) : Type 0 where
  pub first : old.ready ≡ f ∷ new.ready
  pub rest : new.rest ≡ old.rest
  pub failed : new.failed ≡ old.failed

pub next_of : (old : ReaderState) (f : Frame) (new : ReaderState) → old.ready ≡ f ∷ new.ready → (new.rest ≡ old.rest) × (new.at ≡ old.at) × (new.failed ≡ old.failed) → Next old f new
next_of old f new first same = record { first = first; rest = same.0; failed = same.2 }

-- what is behind the frames that are ready is no whole frame
abbrev pub Held : ReaderState → Type 0
Held r = (at : ℕ) × (look at r.rest ≡ end_look r.failed)

look_nothing : look 0 [] ≡ end_look None
unfolding look
look_nothing = refl

kept_next : (old : ReaderState) (f : Frame) (new : ReaderState) → Next old f new → kept old ≡ frame_bytes f ++ kept new
kept_next old f new n =
    ap (λ (fs : List Frame). frames_bytes fs ++ old.rest) n.first
    ∙ append_assoc (frame_bytes f) (frames_bytes new.ready) old.rest
    ∙ ap (λ (l : List ℕ). frame_bytes f ++ (frames_bytes new.ready ++ l)) (sym n.rest)

kept_rest : (r : ReaderState) → r.ready ≡ [] → kept r ≡ r.rest
kept_rest r none = ap (λ (fs : List Frame). frames_bytes fs ++ r.rest) none

kept_taken : (old : ReaderState) (got : List ℕ) (new : ReaderState) (end : Option FrameError) → old.ready ≡ [] → Takes old got new end → kept old ++ got ≡ kept new
kept_taken old got new end none t =
    ap (λ (l : List ℕ). l ++ got) (kept_rest old none)
    ∙ t.3.is
    ∙ ap (λ (fs : List Frame). frames_bytes fs ++ new.rest) (sym (t.1 ∙ ap (λ (fs : List Frame). fs ++ t.0) none))

taken_waiting : (old : ReaderState) (got : List ℕ) (new : ReaderState) (end : Option FrameError) → old.ready ≡ [] → Takes old got new end → AllFrames new.ready
taken_waiting old got new end none t = subst AllFrames (sym (t.1 ∙ ap (λ (fs : List Frame). fs ++ t.0) none)) t.3.each

taken_held : (old : ReaderState) (got : List ℕ) (new : ReaderState) (end : Option FrameError) → Takes old got new end → Held new
taken_held old got new end t = (place old.at (length (frames_bytes t.0)), t.3.ends ∙ ap end_look (sym t.4))

more_or_fault : (r : ReaderState) → Held r → (b : Bool) → b ≡ is_some r.failed → b ≡ true → (at : ℕ) × (e : FrameError) × (look at r.rest ≡ end_look (Some e))
more_or_fault r h b e is_so = go r.failed (sym e ∙ is_so) h.1
  where
    go : (failed : Option FrameError) → is_some failed ≡ true → look h.0 r.rest ≡ end_look failed → (at : ℕ) × (e : FrameError) × (look at r.rest ≡ end_look (Some e))
    go None isnt found = absurd cc
    go (Some x) isnt found = (h.0, x, found)

no_fault : (failed : Option FrameError) → is_some failed ≡ false → failed ≡ None
no_fault None e = refl
no_fault (Some x) e = absurd cc

-- no frame waits in it still
pub none_ready : (old new : ReaderState) → new ≡ old → old.ready ≡ [] → new.ready ≡ []
none_ready old new same none = ap (λ (r : ReaderState). r.ready) same ∙ none

module _
    {E R Seat : Type 0} (made : List (Exchange E R) → Seat → Seat → Type 0) (known : Seat → ℕ)
    (event_of : Frame → ℕ → Option E) (answer_of : R → Option Frame) (breaks : R → Bool) where
  -- where a session stands between two frames
  pub record Progress (s0 s1 : Seat) (m0 m1 : ℕ) (t0 t1 : Option Traffic) (reader : ReaderState) (faulty : Bool) (requests : ℕ) : Type 0 where
    pub rounds : List (Round E R)
    pub went : Went made event_of answer_of breaks s0 s1 m0 m1 t0 t1 rounds (kept reader) (answered rounds)
    pub on : GoOn event_of answer_of breaks rounds
    pub count : requests ≡ length rounds
    pub short : requests ≤ known s1
    pub waiting : AllFrames reader.ready
    pub held : Held reader
    pub fault : faulty ≡ is_some reader.failed

  -- a reader in which no frame waits stays as it is
  pub unchanged : (s0 s1 : Seat) (m0 m1 : ℕ) (t0 t1 : Option Traffic) (old new : ReaderState) (faulty : Bool) (n : ℕ) → new ≡ old → Progress s0 s1 m0 m1 t0 t1 old faulty n → Progress s0 s1 m0 m1 t0 t1 new faulty n
  unchanged s0 s1 m0 m1 t0 t1 old new faulty n same p = subst (λ (r : ReaderState). Progress s0 s1 m0 m1 t0 t1 r faulty n) (sym same) p

  pub start : (s : Seat) (m : ℕ) (t : Option Traffic) → made [] s s → Progress s s m m t t new_reader false 0
  start s m t none = record { rounds = []; went = went_none made known event_of answer_of breaks s m t none; on = tt; count = refl; short = omega arith; waiting = tt; held = (0, look_nothing); fault = refl }

  module _ (s0 s1 : Seat) (m0 m1 : ℕ) (t0 t1 : Option Traffic) (old : ReaderState) (faulty : Bool) (n : ℕ) (p : Progress s0 s1 m0 m1 t0 t1 old faulty n) where
    -- ---- a frame waits

    module _ (f : Frame) (new : ReaderState) (next : Next old f new) where
      pub first_is_frame : IsFrame f × AllFrames new.ready
      first_is_frame = subst AllFrames next.first p.waiting

      went_first : Went made event_of answer_of breaks s0 s1 m0 m1 t0 t1 p.rounds (frame_bytes f ++ kept new) (answered p.rounds)
      went_first = subst (λ (l : List ℕ). Went made event_of answer_of breaks s0 s1 m0 m1 t0 t1 p.rounds l (answered p.rounds)) (kept_next old f new next) p.went

      begins : BeginsWith (frame_bytes f ++ kept new) f
      begins = (first_is_frame.0, (kept new, refl))

      module _ (adds : AddsUp made) (s2 : Seat) (m2 : ℕ) (t2 : Option Traffic) where
        went_whole : (r : Round E R) → Steps made known event_of answer_of breaks f s1 s2 m1 m2 t1 t2 r (frame_bytes r.answer) → Went made event_of answer_of breaks s0 s2 m0 m2 t0 t2 (p.rounds ++ r ∷ []) (kept new) (answered (p.rounds ++ r ∷ []))
        went_whole r step =
            subst (λ (l : List ℕ). Went made event_of answer_of breaks s0 s2 m0 m2 t0 t2 (p.rounds ++ r ∷ []) (kept new) l) (sym (answered_more p.rounds r))
            (went_on made known event_of answer_of breaks f s0 s1 s2 m0 m1 m2 t0 t1 t2 p.rounds r (kept new) (answered p.rounds) (frame_bytes r.answer) adds went_first step)

        counted : (r : Round E R) → n + 1 ≡ length (p.rounds ++ r ∷ [])
        counted r = let one = one_more p.rounds r in let count = p.count in omega arith

        pub turn_on : (broken : Bool) → broken ≡ false → Turns made known event_of answer_of breaks f s1 s2 m1 m2 t1 t2 (turns.Answered broken) → Progress s0 s2 m0 m2 t0 t2 new faulty (n + 1)
        turn_on broken isnt t =
            let longer = t.1.longer in
            let short = p.short in
            record {
              rounds = p.rounds ++ t.0 ∷ [];
              went = went_whole t.0 t.1;
              on = on_more event_of answer_of breaks p.rounds t.0 p.on (sym t.2 ∙ isnt);
              count = counted t.0;
              short = omega arith;
              waiting = first_is_frame.1;
              held = (p.held.0, ap (look p.held.0) next.rest ∙ p.held.1 ∙ ap end_look (sym next.failed));
              fault = p.fault ∙ ap is_some (sym next.failed);
            }

        pub turn_fits : (broken : Bool) → Turns made known event_of answer_of breaks f s1 s2 m1 m2 t1 t2 (turns.Answered broken) → n + 1 < 18446744073709551616
        turn_fits broken t =
            let longer = t.1.longer in
            let small = t.1.small in
            let short = p.short in
            omega arith

        pub turn_breaks : (broken : Bool) → broken ≡ true → Turns made known event_of answer_of breaks f s1 s2 m1 m2 t1 t2 (turns.Answered broken) → IsSession made known event_of answer_of breaks s0 s2 m0 m2 t0 t2 (Broken (n + 1))
        turn_breaks broken is_so t =
            inl (p.rounds ++ t.0 ∷ [], kept new, went_whole t.0 t.1, (counted t.0, (p.rounds, t.0, refl, p.on, sym t.2 ∙ is_so)))

        front_of : (e : PortError) (front bytes : List ℕ) → IsCutAt e front bytes → IsFront front bytes
        front_of ports.Failed front bytes cut = cut
        front_of ports.OutOfMemory front bytes cut = record { count = 0; is = cut }

        cut_by : (e : PortError) (broken : Bool) (r : Round E R) (front : List ℕ) → IsCutAt e front (frame_bytes r.answer) → broken ≡ breaks r.exchange.reply → EndsCut event_of answer_of breaks (cut_answer_end e broken n) p.rounds r front
        cut_by e true r front cut says = (p.count, p.on, sym says, front_of e front (frame_bytes r.answer) cut)
        cut_by ports.Failed false r front cut says = (p.count, p.on, sym says, cut)
        cut_by ports.OutOfMemory false r front cut says = (p.count, p.on, sym says, cut)

        pub turn_cut : (e : PortError) (broken : Bool) → Turns made known event_of answer_of breaks f s1 s2 m1 m2 t1 t2 (turns.Cut e broken) → IsSession made known event_of answer_of breaks s0 s2 m0 m2 t0 t2 (cut_answer_end e broken n)
        turn_cut e broken t =
            inr (p.rounds, t.0, kept new, t.1, went_on made known event_of answer_of breaks f s0 s1 s2 m0 m1 m2 t0 t1 t2 p.rounds t.0 (kept new) (answered p.rounds) t.1 adds went_first t.2, cut_by e broken t.0 t.1 t.3 t.4)

        went_past : made [] s1 s2 → m1 ≤ m2 → t2 ≡ t1 → Went made event_of answer_of breaks s0 s2 m0 m2 t0 t2 p.rounds (frame_bytes f ++ kept new) (answered p.rounds)
        went_past none le same =
            subst (λ (t : Option Traffic). Went made event_of answer_of breaks s0 s2 m0 m2 t0 t p.rounds (frame_bytes f ++ kept new) (answered p.rounds)) (sym same)
            (went_later made known event_of answer_of breaks s0 s1 s2 m0 m1 m2 t0 t1 p.rounds (frame_bytes f ++ kept new) (answered p.rounds) adds went_first none le)

        pub turn_foreign : made [] s1 s1 → Turns made known event_of answer_of breaks f s1 s2 m1 m2 t1 t2 turns.Foreign → IsSession made known event_of answer_of breaks s0 s2 m0 m2 t0 t2 (Malformed n)
        turn_foreign none t =
            let still : made [] s1 s2 = subst (λ (s : Seat). made [] s1 s) (sym t.1) none in
            inl (p.rounds, frame_bytes f ++ kept new, went_past still t.2 t.3, (p.count, p.on, inr (inl (f, begins, t.0))))

        pub turn_spent : (count : ℕ) → Turns made known event_of answer_of breaks f s1 s2 m1 m2 t1 t2 (turns.Spent count) → IsSession made known event_of answer_of breaks s0 s2 m0 m2 t0 t2 (Spent n count)
        turn_spent count t =
            inl (p.rounds, frame_bytes f ++ kept new, went_past t.2 t.5 t.6, (p.count, p.on, (f, begins, (t.0, t.1)), t.3, t.4))

    -- ---- no frame waits

    module _ (none : old.ready ≡ []) where
      went_rest : Went made event_of answer_of breaks s0 s1 m0 m1 t0 t1 p.rounds old.rest (answered p.rounds)
      went_rest = subst (λ (l : List ℕ). Went made event_of answer_of breaks s0 s1 m0 m1 t0 t1 p.rounds l (answered p.rounds)) (kept_rest old none) p.went

      pub read_fault : faulty ≡ true → IsSession made known event_of answer_of breaks s0 s1 m0 m1 t0 t1 (Malformed n)
      read_fault is_so = inl (p.rounds, old.rest, went_rest, (p.count, p.on, inl (more_or_fault old p.held faulty p.fault is_so)))

      pub not_failed : faulty ≡ false → old.failed ≡ None
      not_failed isnt = no_fault old.failed (sym p.fault ∙ isnt)

      module _ (new : ReaderState) (t2 : Option Traffic) where
        went_got : (got : List ℕ) → Got t1 t2 got → Went made event_of answer_of breaks s0 s1 m0 m1 t0 t2 p.rounds (kept old ++ got) (answered p.rounds)
        went_got got o = went_read made known event_of answer_of breaks s0 s1 m0 m1 t0 t1 t2 p.rounds (kept old) got (answered p.rounds) p.went o

        taken_on : (got : List ℕ) (end : Option FrameError) (b : Bool) → b ≡ is_some end → Got t1 t2 got → Takes old got new end → Progress s0 s1 m0 m1 t0 t2 new b n
        taken_on got end b same o t = record {
          rounds = p.rounds;
          went = subst (λ (l : List ℕ). Went made event_of answer_of breaks s0 s1 m0 m1 t0 t2 p.rounds l (answered p.rounds)) (kept_taken old got new end none t) (went_got got o);
          on = p.on;
          count = p.count;
          short = p.short;
          waiting = taken_waiting old got new end none t;
          held = taken_held old got new end t;
          fault = same ∙ ap is_some (sym t.4);
        }

        pub read_on : Fetches old new t1 t2 (Ok Fed) → Progress s0 s1 m0 m1 t0 t2 new false n
        read_on r = taken_on r.0 None false refl r.1 r.2

        pub read_faulty : Fetches old new t1 t2 (Ok Faulty) → Progress s0 s1 m0 m1 t0 t2 new true n
        read_faulty r = taken_on r.0 (Some r.1) true refl r.2 r.3

        ends_by : (e : PortError) (rest : List ℕ) → Went made event_of answer_of breaks s0 s1 m0 m1 t0 t2 p.rounds rest (answered p.rounds) → EndsBetween made known event_of answer_of breaks s0 s1 m0 m1 t0 t2 (cut_end e n)
        ends_by ports.Failed rest w = (p.rounds, rest, w, (p.count, p.on))
        ends_by ports.OutOfMemory rest w = (p.rounds, rest, w, (p.count, p.on))

        pub read_cut : (e : PortError) → Fetches old new t1 t2 (Err e) → IsSession made known event_of answer_of breaks s0 s1 m0 m1 t0 t2 (cut_end e n)
        read_cut e r = inl (ends_by e (kept old ++ r.0) (went_got r.0 r.1))

        ended : Over t1 t2 nothing → Went made event_of answer_of breaks s0 s1 m0 m1 t0 t2 p.rounds old.rest (answered p.rounds)
        ended o = subst (λ (l : List ℕ). Went made event_of answer_of breaks s0 s1 m0 m1 t0 t2 p.rounds l (answered p.rounds)) (append-nil (kept old) ∙ kept_rest old none) (went_got [] o)

        ends_told : (end : SessionEnd) → InputEnd old.rest n end → look p.held.0 old.rest ≡ end_look None → Over t1 t2 nothing → AtEnd t0 t2 → EndsBetween made known event_of answer_of breaks s0 s1 m0 m1 t0 t2 end
        ends_told (Done m) e more o at_end = (p.rounds, old.rest, ended o, (e.0 ∙ p.count, p.on, e.1, at_end))
        ends_told (Malformed m) e more o at_end = (p.rounds, old.rest, ended o, (e.0 ∙ p.count, p.on, inr (inr (e.1, (p.held.0, more), at_end))))
        ends_told (OutOfMemory m) e more o at_end = (p.rounds, old.rest, ended o, (e ∙ p.count, p.on))
        ends_told (Broken m) e more o at_end = absurd e
        ends_told (ConnFault m) e more o at_end = absurd e
        ends_told (Spent m count) e more o at_end = absurd e

        pub read_begins : faulty ≡ false → Fetches old new t1 t2 (Ok Ended) → IsBeginning new.rest
        read_begins isnt r = subst (λ (x : ReaderState). IsBeginning x.rest) (sym r.2) (p.held.0, p.held.1 ∙ ap end_look (not_failed isnt))

        pub read_waits : faulty ≡ false → Fetches old new t1 t2 (Ok Ended) → (new.ready ≡ []) × (new.failed ≡ None)
        read_waits isnt r = subst (λ (x : ReaderState). (x.ready ≡ []) × (x.failed ≡ None)) (sym r.2) (none, not_failed isnt)

        pub read_ended : (end : SessionEnd) → faulty ≡ false → Fetches old new t1 t2 (Ok Ended) → InputEnd new.rest n end → IsSession made known event_of answer_of breaks s0 s1 m0 m1 t0 t2 end
        read_ended end isnt r ends =
            let same : InputEnd old.rest n end = subst (λ (x : ReaderState). InputEnd x.rest n end) r.2 ends in
            let more : look p.held.0 old.rest ≡ end_look None = p.held.1 ∙ ap end_look (not_failed isnt) in
            inl (ends_told end same more r.0 (told_along t0 t1 t2 (record { read = asked p.rounds ++ kept old; written = answered p.rounds }) p.went.over r.1))
