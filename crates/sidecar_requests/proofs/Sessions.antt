-- The requests of a session add up.
use Rattle.std.proofs.Common.{◌≡◌, ◌≢◌, ◌∙◌, refl, sym, ap, subst, append_assoc, inl, inr, ℕ, List, [], ◌∷◌, ◌++◌, Option, Result}
use Rattle.std.specs.Prelude.{IfOk}
use Rattle.std.proofs.lemmas.List.{append-nil}
use Rattle.lists_and_limits.specs.declared.memory.OutOfMemory.{OutOfMemory}
use Rattle.actor_ports.specs.declared.session.SessionEnd.{SessionEnd}
use Rattle.actor_ports.specs.Traffic.{Traffic}
use Rattle.http_edge.specs.declared.message.HttpResponse.{HttpResponse}
use Rattle.http_edge.specs.declared.error.EdgeError.{EdgeError}
use Rattle.http_edge.specs.declared.error.EdgeError.TheVariants as edge
use Rattle.http_edge.specs.declared.message.HttpRequest.{HttpRequest}
use Rattle.std.specs.declared.result.Result.TheVariants.{Ok, Err}
use Rattle.http_session.specs.Rounds.{Round, AreRounds, Turns}
use Rattle.http_session.specs.Sessions.{IsSession}
use Rattle.actors_api.specs.declared.reply.ApiReply.{ApiReply}
use Rattle.actors_api.specs.declared.reply.ApiReply.TheVariants.{Made, Unanswered}
use Rattle.actors_api.specs.declared.side.Side.{Side}
use Rattle.actors_api.specs.Responses.{response_of}
use Rattle.sidecar_node.specs.Nodes.{Acts}
use Rattle.sidecar_node.proofs.Actings.{acts_none, acts_then}
use Rattle.exchanges.specs.Exchanges.{Exchange}
use Rattle.exchanges.proofs.Diallings.{none_made, dialling_then}
use Rattle.sidecar_requests.specs.Sessions.{Dialler, Standing, Stays, Exchanged, Deed, Account, account, all_of, edge_response, Does, Sends, IsSent, IsAnswered, SessionDoes}

-- ---- one request

-- an answer whose response isn't made yet
pub sends_other : (side : Side) (answer : ApiReply) (got : Result HttpResponse OutOfMemory) → ((response : HttpResponse) → answer ≢ Made response) → answer ≢ Unanswered → IfOk got (λ r. r ≡ response_of side answer) → Sends side answer got
sends_other side (Made response) got made none h = absurd (made response refl)
sends_other side Unanswered got made none h = absurd (none refl)
sends_other side answer got made none h = h

-- a request was served, and noted behind those before it
is_answered :
    (side : Side) (s t : Standing) (before : List Deed) (d : Deed) (got : Result HttpResponse OutOfMemory)
    → Does side s d t → Sends side d.answer got → IsAnswered side (account s before) d.request got (account t (before ++ d ∷ []))
is_answered side s t before d got does response = record { deed = d; asked = refl; does = does; noted = refl; response = response }

-- what is known of an answer holds of the turn in which it was sent
turns_as :
    {S T : Type 0} (p : S → HttpRequest → Result HttpResponse OutOfMemory → S → Type 0) (q : T → HttpRequest → Result HttpResponse OutOfMemory → T → Type 0) (s0 s1 : S) (t0 t1 : T) (request : HttpRequest)
    → ((got : Result HttpResponse OutOfMemory) → p s0 request got s1 → q t0 request got t1)
    → (before after : Option Traffic) (written : Result (Unit {0}) EdgeError) → Turns p s0 s1 request before after written → Turns q t0 t1 request before after written
turns_as p q s0 s1 t0 t1 request h before after (Ok x) w = (w.0, h (Ok w.0) w.1, w.2)
turns_as p q s0 s1 t0 t1 request h before after (Err edge.ConnFault) w = (w.0, w.1, h (Ok w.0) w.2, w.3, w.4)
turns_as p q s0 s1 t0 t1 request h before after (Err edge.OutOfMemory) w = (w.0, h w.0 w.1, w.2)
turns_as p q s0 s1 t0 t1 request h before after (Err error) w = absurd w

-- a request was served, and its answer sent
pub is_turn :
    (side : Side) (s t : Standing) (before : List Deed) (d : Deed) (t0 t1 : Option Traffic) (written : Result (Unit {0}) EdgeError)
    → Does side s d t → IsSent side d.answer d.request t0 t1 written → Turns (IsAnswered side) (account s before) (account t (before ++ d ∷ [])) d.request t0 t1 written
is_turn side s t before d t0 t1 written does sent =
    turns_as (λ (x : Unit {0}) (asked : HttpRequest) (got : Result HttpResponse OutOfMemory) (y : Unit {0}). Sends side d.answer got) (IsAnswered side) tt tt (account s before) (account t (before ++ d ∷ [])) d.request
    (λ got sends. is_answered side s t before d got does sends) t0 t1 written sent

-- ---- requests add up

stays_then : (s t u : Standing) → Stays s t → Stays t u → Stays s u
stays_then s t u p q = record { node = q.node ∙ p.node; app_at = q.app_at ∙ p.app_at; store_at = q.store_at ∙ p.store_at }

stays_as : (s t : Standing) → t ≡ s → Stays s t
stays_as s t e = record { node = ap (λ (x : Standing). x.node) e; app_at = ap (λ (x : Standing). x.app_at) e; store_at = ap (λ (x : Standing). x.store_at) e }

module _ (side : Side) where
  -- requests were served one after the other, each from where the one before it had led
  abbrev AreDone : Standing → List Deed → Standing → Type 0
  AreDone s [] t = t ≡ s
  AreDone s (d ∷ ds) t = (u : Standing) × Does side s d u × AreDone u ds t

  done_stays : (ds : List Deed) (s t : Standing) → AreDone s ds t → Stays s t
  done_stays [] s t h = stays_as s t h
  done_stays (d ∷ ds) s t h = stays_then s h.0 t h.1.stays (done_stays ds h.0 t h.2)

  done_acts : (ds : List Deed) (s t : Standing) → AreDone s ds t → Acts (all_of (λ (d : Deed). d.entries) ds) s.seats t.seats
  done_acts [] s t h = subst (λ (u : Standing). Acts [] s.seats u.seats) (sym h) (acts_none s.seats)
  done_acts (d ∷ ds) s t h = acts_then d.entries (all_of (λ (e : Deed). e.entries) ds) s.seats h.0.seats t.seats h.1.acts (done_acts ds h.0 t h.2)

  -- the exchanges of one of the diallers
  module _ (pick : Deed → List Exchange) (of : Standing → Dialler) (each : (s t : Standing) (d : Deed) → Does side s d t → Exchanged (pick d) (of s) (of t)) where
    done_exchanges : (ds : List Deed) (s t : Standing) → AreDone s ds t → Exchanged (all_of pick ds) (of s) (of t)
    done_exchanges [] s t h = subst (λ (u : Standing). Exchanged [] (of s) (of u)) (sym h) (none_made (of s).dialled (of s).faults)
    done_exchanges (d ∷ ds) s t h =
        dialling_then (pick d) (all_of pick ds) (of s).dialled (of h.0).dialled (of t).dialled (of s).faults (of h.0).faults (of t).faults (each s h.0 d h.1) (done_exchanges ds h.0 t h.2)

  done_more : (ds : List Deed) (d : Deed) (s t u : Standing) → AreDone s ds t → Does side t d u → AreDone s (ds ++ d ∷ []) u
  done_more [] d s t u h one = (u, subst (λ (v : Standing). Does side v d u) h one, refl)
  done_more (e ∷ ds) d s t u h one = (h.0, h.1, done_more ds d h.0 t u h.2 one)

  -- the deeds of rounds were noted behind those before them
  rounds_done : (rounds : List (Round Account)) (s t : Account) → AreRounds (IsAnswered side) s rounds t → (ds : List Deed) × AreDone s.at ds t.at × (t.deeds ≡ s.deeds ++ ds)
  rounds_done [] s t h = ([], ap (λ (a : Account). a.at) h, ap (λ (a : Account). a.deeds) h ∙ sym (append-nil s.deeds))
  rounds_done (r ∷ rounds) s t h =
      let one = h.0.1 in
      let more = rounds_done rounds r.server t h.1 in (
        one.deed ∷ more.0,
        (r.server.at, one.does, more.1),
        more.2 ∙ (ap (λ (l : List Deed). l ++ more.0) one.noted ∙ append_assoc s.deeds (one.deed ∷ []) more.0),
      )

  -- ---- a session

  module _ (s t : Standing) (t0 t1 : Option Traffic) (f0 f1 : ℕ) (end : SessionEnd) (deeds : List Deed) where
    whole : IsSession (IsAnswered side) (edge_response side) (account s []) (account t deeds) t0 t1 f0 f1 end → (ds : List Deed) → deeds ≡ ds → AreDone s ds t → SessionDoes side s t t0 t1 f0 f1 end
    whole session ds is of =
        let done : AreDone s deeds t = subst (λ (l : List Deed). AreDone s l t) (sym is) of in
        record {
          deeds = deeds;
          session = session;
          stays = done_stays deeds s t done;
          acts = done_acts deeds s t done;
          app = done_exchanges (λ (d : Deed). d.app) (λ (u : Standing). u.app) (λ a b d m. m.app) deeds s t done;
          peers = done_exchanges (λ (d : Deed). d.peers) (λ (u : Standing). u.peers) (λ a b d m. m.peers) deeds s t done;
          store = done_exchanges (λ (d : Deed). d.store) (λ (u : Standing). u.store) (λ a b d m. m.store) deeds s t done;
        }

    session_does : IsSession (IsAnswered side) (edge_response side) (account s []) (account t deeds) t0 t1 f0 f1 end → SessionDoes side s t t0 t1 f0 f1 end
    session_does (inl h) = let r = rounds_done h.0 (account s []) (account t deeds) h.2.each in whole (inl h) r.0 r.2 r.1
    session_does (inr (inl h)) = let r = rounds_done h.0 (account s []) (account t deeds) h.4.each in whole (inr (inl h)) r.0 r.2 r.1
    session_does (inr (inr h)) =
        let cut = h.5 in
        let r = rounds_done h.0 (account s []) cut.server cut.each in
        let one = cut.answered in
        whole (inr (inr h)) (r.0 ++ one.deed ∷ []) (one.noted ∙ ap (λ (l : List Deed). l ++ one.deed ∷ []) r.2) (done_more r.0 one.deed s cut.server.at t r.1 one.does)

  pub adds_up : (s t : Standing) (t0 t1 : Option Traffic) (f0 f1 : ℕ) (end : SessionEnd) → (deeds : List Deed) × IsSession (IsAnswered side) (edge_response side) (account s []) (account t deeds) t0 t1 f0 f1 end → SessionDoes side s t t0 t1 f0 f1 end
  adds_up s t t0 t1 f0 f1 end h = session_does s t t0 t1 f0 f1 end h.0 h.1
