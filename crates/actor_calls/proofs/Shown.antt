-- What replies that were told and exchanges that were made show, and that it stays where more is done.
use Rattle.std.proofs.Common.{◌≡◌, ◌⊎◌, ◌<◌, ◌≤◌, ◌+◌, refl, sym, ap, subst, inl, inr, ℕ, Bool, true, false, List, [], ◌∷◌, ◌++◌, arith, Option, Some, None, Ok, Err}
use Rattle.part_model.specs.declared.event.PartEvent.{PartEvent}
use Rattle.part_model.specs.Receipts.{PartReply}
use Rattle.part_model.specs.declared.event.Reply.TheVariants as replies
use Rattle.actor_ports.specs.Traffic.{Place, Traffic}
use Rattle.http_edge.specs.Carry.{Carried}
use Rattle.http_edge.specs.Replies.{HasNoReading}
use Rattle.http_edge.specs.Settled.{IsNamed}
use Rattle.http_edge.specs.declared.message.HttpResponse.{HttpResponse}
use Rattle.http_edge.specs.declared.error.EdgeError.{EdgeError}
use Rattle.http_edge.specs.declared.error.EdgeError.TheVariants as edge
use Rattle.actors_api.specs.declared.refusal.ApiRefusal.{ApiRefusal}
use Rattle.sidecar_node.specs.Entries.{PartEntry}
use Rattle.sidecar_node.specs.Turns.{Said, Either, asks_again, Polls, AfterAsk, Begins, MakesOne, Ends as EndsTurn}
use Rattle.exchanges.specs.Exchanges.{Exchange, total_rise, Comes}
use Rattle.exchanges.specs.Replies.{Got, HttpCarries, IsHttpExchange}
use Rattle.actor_calls.specs.declared.invoke.Invoke.{Invoke}
use Rattle.actor_calls.specs.Outcomes.{refusal_of}
use Rattle.actor_calls.specs.Hops.{is_fault, TriesOn, AtMostTwice, AtMostThrice}
use Rattle.actor_calls.specs.Causes.{HasReply, IsRefusedSo, LinkRead, HasRead, IsReply, IsUnread}

-- ---- replies that were told

abbrev pub told : PartReply → Said
told reply = Ok reply

reply_or : PartReply → Said → PartReply
reply_or other (Ok reply) = reply
reply_or other (Err spent) = other

reply_in : (last reply : PartReply) → told reply ≡ told last → last ≡ reply
unfolding reply_or
reply_in last reply e = sym (ap (λ (s : Said). reply_or last s) e)

polled_reply : (again : Bool) (call : ℕ) (e : PartEntry) (es : List PartEntry) (reply : PartReply) → (Polls call es (Ok reply) → HasReply reply es) → Either again (Polls call es (Ok reply)) ((es ≡ []) × (told reply ≡ told e.reply)) → HasReply reply (e ∷ es)
polled_reply true call e es reply rest p = inr (rest p)
polled_reply false call e es reply rest p = inl (reply_in e.reply reply p.1)

polls_reply : (call : ℕ) (es : List PartEntry) (reply : PartReply) → Polls call es (Ok reply) → HasReply reply es
polls_reply call [] reply p = absurd p
polls_reply call (e ∷ es) reply p = polled_reply (asks_again e.reply) call e es reply (λ h. polls_reply call es reply h) p.1

after_reply : (first : PartReply) (es : List PartEntry) (reply : PartReply) → AfterAsk first es (Ok reply) → (first ≡ reply) ⊎ HasReply reply es
after_reply (replies.Waits call place) es reply a = inr (polls_reply call es reply a)
after_reply first es reply a = inl (reply_in first reply a.1)

begins_reply : (q : Invoke) (least : Option ℕ) (now : ℕ) (es : List PartEntry) (reply : PartReply) → Begins q.actor q.chain least now es (Ok reply) → (reply ≡ replies.OutOfMemory) ⊎ HasReply reply es
begins_reply q least now [] reply (inl h) = inl (sym (reply_in replies.OutOfMemory reply h))
begins_reply q least now [] reply (inr h) = absurd h
begins_reply q least now (e ∷ es) reply b = inr (after_reply e.reply es reply b.1)

ends_reply : (call now : ℕ) (es : List PartEntry) (reply : PartReply) → EndsTurn call now es (Ok reply) → HasReply reply es
ends_reply call now [] reply h = absurd h
ends_reply call now (e ∷ []) reply h = inl (reply_in e.reply reply h.1)
ends_reply call now (e ∷ f ∷ es) reply h = absurd h

pub one_reply : (event : PartEvent) (es : List PartEntry) (reply : PartReply) → MakesOne event es (Ok reply) → HasReply reply es
one_reply event [] reply h = absurd h
one_reply event (e ∷ []) reply h = inl (reply_in e.reply reply h.1)
one_reply event (e ∷ f ∷ es) reply h = absurd h

pub refused_so : (reply : PartReply) (es : List PartEntry) → HasReply reply es → IsRefusedSo (refusal_of reply) es
refused_so reply [] h = absurd h
refused_so reply (e ∷ es) (inl h) = inl (ap (λ (r : PartReply). refusal_of r) h)
refused_so reply (e ∷ es) (inr h) = inr (refused_so reply es h)

-- the beginning came to this: a reply that was told, or want of memory before the Ask
abbrev pub Began : Said → List PartEntry → Type 0
Began (Ok reply) es = (reply ≡ replies.OutOfMemory) ⊎ HasReply reply es
Began (Err spent) es = Unit {0}

abbrev pub Ended : Said → List PartEntry → Type 0
Ended (Ok reply) es = HasReply reply es
Ended (Err spent) es = Unit {0}

pub began : (q : Invoke) (least : Option ℕ) (now : ℕ) (es : List PartEntry) (said : Said) → Begins q.actor q.chain least now es said → Began said es
began q least now es (Ok reply) b = begins_reply q least now es reply b
began q least now es (Err spent) b = tt

pub ended : (call now : ℕ) (es : List PartEntry) (said : Said) → EndsTurn call now es said → Ended said es
ended call now es (Ok reply) h = ends_reply call now es reply h
ended call now es (Err spent) h = tt

-- ---- what an exchange that came to this says

abbrev pub Shows : List Exchange → Got → Type 0
Shows xs (Ok reply) = HasRead (IsReply reply) xs
Shows xs (Err edge.ConnFault) = 0 < total_rise xs
Shows xs (Err edge.OutOfMemory) = Unit {0}
Shows xs (Err error) = HasRead IsUnread xs

-- what went over a link that came to this; nothing is known of the traffic behind it
abbrev CarriesTo : List ℕ → Option Carried → ℕ → Got → Type 0
CarriesTo text link rise got = Comes (Err edge.ConnFault) (Err edge.OutOfMemory) (HttpCarries text) link rise got

error_alone : (bytes : List ℕ) (t : Option Traffic) (error : EdgeError) → HasNoReading bytes None t error → HasNoReading bytes None None error
error_alone bytes t (edge.CutShort n) h = (h.0, tt, h.2)
error_alone bytes t error h = h

unread_by : (text : List ℕ) (c : Carried) (error : EdgeError) → IsNamed error → HttpCarries text c (Err error) → IsUnread c.read
unread_by text c edge.ConnFault named h = absurd named
unread_by text c edge.OutOfMemory named h = absurd named
unread_by text c error named h = record { error = error; named = named; cause = error_alone c.read h.after error h.gives.1; none = h.settles }

named_fault : (error : EdgeError) → IsNamed error → (let got : Got = Err error in got) ≡ Err edge.ConnFault → ⊥
named_fault error named e = let same : error ≡ edge.ConnFault = cc in subst (λ (x : EdgeError). IsNamed x) same named

link_unread : (text : List ℕ) (link : Option Carried) (rise : ℕ) (error : EdgeError) → IsNamed error → CarriesTo text link rise (Err error) → LinkRead IsUnread link
link_unread text None rise error named h = absurd (named_fault error named h.1)
link_unread text (Some c) rise error named h = unread_by text c error named h.0

link_reply : (text : List ℕ) (link : Option Carried) (rise : ℕ) (reply : HttpResponse) → CarriesTo text link rise (Ok reply) → LinkRead (IsReply reply) link
link_reply text None rise reply h = let e = h.1 in absurd (let k : ⊥ = cc in k)
link_reply text (Some c) rise reply h = ((h.0.after, h.0.gives.1), h.0.settles)

fault_rises : (text : List ℕ) (link : Option Carried) (rise : ℕ) → CarriesTo text link rise (Err edge.ConnFault) → 0 < rise
fault_rises text None rise h = h.0
fault_rises text (Some c) rise h = h.1 refl

one_rise : (x : Exchange) → 0 < x.rise → 0 < total_rise (x ∷ [])
one_rise x h = let g : 0 < x.rise + 0 = omega arith in g

pub exchange_shows : (text : List ℕ) (at : Place) (xs : List Exchange) (got : Got) → IsHttpExchange text at xs got → Shows xs got
exchange_shows text at [] got h = subst (λ (g : Got). Shows [] g) (sym h) tt
exchange_shows text at (x ∷ []) (Ok reply) h = inl (link_reply text x.link x.rise reply h.1)
exchange_shows text at (x ∷ []) (Err edge.ConnFault) h = one_rise x (fault_rises text x.link x.rise h.1)
exchange_shows text at (x ∷ []) (Err edge.OutOfMemory) h = tt
exchange_shows text at (x ∷ []) (Err error) h = inl (link_unread text x.link x.rise error tt h.1)
exchange_shows text at (x ∷ y ∷ xs) got h = absurd h

-- ---- exchanges that are made again after a fault

-- a fault raised the count by so much
abbrev pub FaultRises : ℕ → List Exchange → Got → Type 0
FaultRises n xs (Err edge.ConnFault) = n ≤ total_rise xs
FaultRises n xs got = Unit {0}

-- other bytes that are read where these are
link_map : (P Q : List ℕ → Type 0) (link : Option Carried) → ((bytes : List ℕ) → P bytes → Q bytes) → LinkRead P link → LinkRead Q link
link_map P Q None f h = absurd h
link_map P Q (Some c) f h = f c.read h

pub read_map : (P Q : List ℕ → Type 0) (xs : List Exchange) → ((bytes : List ℕ) → P bytes → Q bytes) → HasRead P xs → HasRead Q xs
read_map P Q [] f h = absurd h
read_map P Q (x ∷ xs) f (inl h) = inl (link_map P Q x.link f h)
read_map P Q (x ∷ xs) f (inr h) = inr (read_map P Q xs f h)

-- ---- causes stay where more is done

rise_then : (xs ys : List Exchange) → total_rise (xs ++ ys) ≡ total_rise xs + total_rise ys
rise_then [] ys = omega arith
rise_then (x ∷ xs) ys = let h = rise_then xs ys in omega arith

-- the same of three
pub many_left : (xs ys : List Exchange) → 3 ≤ total_rise xs → 3 ≤ total_rise (xs ++ ys)
many_left xs ys h = let e = rise_then xs ys in omega arith

pub many_right : (xs ys : List Exchange) → 3 ≤ total_rise ys → 3 ≤ total_rise (xs ++ ys)
many_right xs ys h = let e = rise_then xs ys in omega arith

pub rises_left : (xs ys : List Exchange) → 0 < total_rise xs → 0 < total_rise (xs ++ ys)
rises_left xs ys h = let e = rise_then xs ys in omega arith

pub rises_right : (xs ys : List Exchange) → 0 < total_rise ys → 0 < total_rise (xs ++ ys)
rises_right xs ys h = let e = rise_then xs ys in omega arith

pub read_left : (P : List ℕ → Type 0) (xs ys : List Exchange) → HasRead P xs → HasRead P (xs ++ ys)
read_left P [] ys h = absurd h
read_left P (x ∷ xs) ys (inl h) = inl h
read_left P (x ∷ xs) ys (inr h) = inr (read_left P xs ys h)

pub read_right : (P : List ℕ → Type 0) (xs ys : List Exchange) → HasRead P ys → HasRead P (xs ++ ys)
read_right P [] ys h = h
read_right P (x ∷ xs) ys h = inr (read_right P xs ys h)

pub reply_left : (reply : PartReply) (es fs : List PartEntry) → HasReply reply es → HasReply reply (es ++ fs)
reply_left reply [] fs h = absurd h
reply_left reply (e ∷ es) fs (inl h) = inl h
reply_left reply (e ∷ es) fs (inr h) = inr (reply_left reply es fs h)

pub reply_right : (reply : PartReply) (es fs : List PartEntry) → HasReply reply fs → HasReply reply (es ++ fs)
reply_right reply [] fs h = h
reply_right reply (e ∷ es) fs h = inr (reply_right reply es fs h)

pub refused_left : (refusal : ApiRefusal) (es fs : List PartEntry) → IsRefusedSo refusal es → IsRefusedSo refusal (es ++ fs)
refused_left refusal [] fs h = absurd h
refused_left refusal (e ∷ es) fs (inl h) = inl h
refused_left refusal (e ∷ es) fs (inr h) = inr (refused_left refusal es fs h)

pub refused_right : (refusal : ApiRefusal) (es fs : List PartEntry) → IsRefusedSo refusal fs → IsRefusedSo refusal (es ++ fs)
refused_right refusal [] fs h = h
refused_right refusal (e ∷ es) fs h = inr (refused_right refusal es fs h)

shows_left : (xs ys : List Exchange) (got : Got) → Shows xs got → Shows (xs ++ ys) got
shows_left xs ys (Ok reply) s = read_left (IsReply reply) xs ys s
shows_left xs ys (Err edge.ConnFault) s = rises_left xs ys s
shows_left xs ys (Err edge.OutOfMemory) s = tt
shows_left xs ys (Err error) s = read_left IsUnread xs ys s

shows_right : (xs ys : List Exchange) (got : Got) → Shows ys got → Shows (xs ++ ys) got
shows_right xs ys (Ok reply) s = read_right (IsReply reply) xs ys s
shows_right xs ys (Err edge.ConnFault) s = rises_right xs ys s
shows_right xs ys (Err edge.OutOfMemory) s = tt
shows_right xs ys (Err error) s = read_right IsUnread xs ys s

one_rises : (xs : List Exchange) (got : Got) → Shows xs got → FaultRises 1 xs got
one_rises xs (Ok reply) s = tt
one_rises xs (Err edge.ConnFault) s = omega arith
one_rises xs (Err error) s = tt

-- a fault on top of one fault more
fault_more : (n : ℕ) (xs ys : List Exchange) (first got : Got) → is_fault first ≡ true → FaultRises 1 xs first → FaultRises n ys got → FaultRises (n + 1) (xs ++ ys) got
fault_more n xs ys first (Ok reply) e one more = tt
fault_more n xs ys (Err edge.ConnFault) (Err edge.ConnFault) e one more = let t = rise_then xs ys in omega arith
fault_more n xs ys (Ok reply) (Err edge.ConnFault) e one more = absurd (let h : ⊥ = cc in h)
fault_more n xs ys (Err error) (Err edge.ConnFault) e one more = absurd (let h : ⊥ = cc in h)
fault_more n xs ys first (Err error) e one more = tt

no_fault : (n : ℕ) (xs : List Exchange) (got : Got) → is_fault got ≡ false → FaultRises n xs got
no_fault n xs (Ok reply) e = tt
no_fault n xs (Err edge.ConnFault) e = absurd (let h : ⊥ = cc in h)
no_fault n xs (Err error) e = tt

module _ (One More : List Exchange → Got → Type 0) (one : (xs : List Exchange) (got : Got) → One xs got → Shows xs got) (more : (xs : List Exchange) (got : Got) → More xs got → Shows xs got) where
  either_shows : (b : Bool) (front back : List Exchange) (first got : Got) → Shows front first → Either b (More back got) ((back ≡ []) × (got ≡ first)) → Shows (front ++ back) got
  either_shows true front back first got s m = shows_right front back got (more back got m)
  either_shows false front back first got s m = subst (λ (g : Got). Shows (front ++ back) g) (sym m.1) (shows_left front back first s)

  tries_show : (ys : List Exchange) (got : Got) → TriesOn One More ys got → Shows ys got
  tries_show ys got t = subst (λ (l : List Exchange). Shows l got) (sym t.exchanges) (either_shows (is_fault t.first) t.front t.back t.first got (one t.front t.first t.one) t.more)

  module _ (n : ℕ) (rises : (xs : List Exchange) (got : Got) → More xs got → FaultRises n xs got) where
    either_rises : (b : Bool) (front back : List Exchange) (first got : Got) → is_fault first ≡ b → FaultRises 1 front first → Either b (More back got) ((back ≡ []) × (got ≡ first)) → FaultRises (n + 1) (front ++ back) got
    either_rises true front back first got e r m = fault_more n front back first got e r (rises back got m)
    either_rises false front back first got e r m = subst (λ (g : Got). FaultRises (n + 1) (front ++ back) g) (sym m.1) (no_fault (n + 1) (front ++ back) first e)

    tries_rise : (ys : List Exchange) (got : Got) → TriesOn One More ys got → FaultRises (n + 1) ys got
    tries_rise ys got t =
        subst (λ (l : List Exchange). FaultRises (n + 1) l got) (sym t.exchanges)
        (either_rises (is_fault t.first) t.front t.back t.first got refl (one_rises t.front t.first (one t.front t.first t.one)) t.more)

module _ (text : List ℕ) (at : Place) where
  twice_shows : (ys : List Exchange) (got : Got) → AtMostTwice text at ys got → Shows ys got
  twice_shows ys got t = tries_show (IsHttpExchange text at) (IsHttpExchange text at) (exchange_shows text at) (exchange_shows text at) ys got t

  pub thrice_shows : (ys : List Exchange) (got : Got) → AtMostThrice text at ys got → Shows ys got
  thrice_shows ys got t = tries_show (IsHttpExchange text at) (AtMostTwice text at) (exchange_shows text at) twice_shows ys got t

  once_rises : (ys : List Exchange) (got : Got) → IsHttpExchange text at ys got → FaultRises 1 ys got
  once_rises ys got h = one_rises ys got (exchange_shows text at ys got h)

  twice_rises : (ys : List Exchange) (got : Got) → AtMostTwice text at ys got → FaultRises 2 ys got
  twice_rises ys got t = tries_rise (IsHttpExchange text at) (IsHttpExchange text at) (exchange_shows text at) (exchange_shows text at) 1 once_rises ys got t

  pub thrice_rises : (ys : List Exchange) (got : Got) → AtMostThrice text at ys got → FaultRises 3 ys got
  thrice_rises ys got t = tries_rise (IsHttpExchange text at) (AtMostTwice text at) (exchange_shows text at) twice_shows 2 twice_rises ys got t
