-- What one seat made adds up.
use Rattle.std.proofs.Common.{◌≡◌, ◌∙◌, ℕ, ◌^◌, Bool, true, false, List, [], ◌∷◌, ◌++◌, length, map, All, Result, Ok, Err, IfOk, IfErr, refl, sym, ap, subst, append-nil}
use Rattle.std.specs.List.{AllByRecursion}
use Rattle.std.proofs.lemmas.List.Elements.{recursion_from_All}
use Rattle.step_gate.specs.declared.gate.Spent.{Spent}
use Rattle.step_gate.specs.declared.view.Made.{Made}
use Rattle.step_gate.specs.Gates.{SeatOf, Grows, Adds, SeesLast, seen_of}
use Rattle.step_gate.specs.Waiting.{Tries, Succeeds}
use Rattle.step_gate.proofs.Beginnings.{prefix_self}
use Rattle.step_gate.proofs.Waits.{adds_grows, last_grows, grows_on, succeeds_grows, tries_grow}
use Rattle.part_model.specs.declared.event.PartEvent.{PartEvent}
use Rattle.part_model.specs.declared.event.PartEvent.TheVariants.{Poll}
use Rattle.part_model.specs.Receipts.{PartReply}
use Rattle.part_model.specs.declared.event.Reply.TheVariants as replies
use Rattle.part_model.specs.Rooms.{PartView}
use Rattle.sidecar_node.specs.Entries.{Entry, PartEntry, Makes, Steps, told}
use Rattle.sidecar_node.specs.Turns.{Said, Polls, AfterAsk, AfterFirst, BeginsBy, Either, asks_again}

module _ {E R : Type 0} where
  told_append : (ms ns : List (Made E R)) → map told (ms ++ ns) ≡ map told ms ++ map told ns
  told_append [] ns = refl
  told_append (m ∷ ms) ns = ap (λ (es : List (Entry E R)). told m ∷ es) (told_append ms ns)

  one_told : (m : Made E R) (event : E) (reply : R) → m.entry.event ≡ event → m.entry.reply ≡ reply → map told (m ∷ []) ≡ record { event = event; reply = reply } ∷ []
  one_told m event reply e f = λ i. record { event = e i; reply = f i } ∷ []

module _ {S E R : Type 0} where
  pub makes_none : (s : SeatOf S E R) → Makes [] s s
  makes_none s = record { made = []; entries = refl; grows = record { mine = sym (append-nil _); seen = prefix_self _; number = refl } }

  pub makes_once : (s t : SeatOf S E R) (event : E) (reply : R) → Adds event reply s t → Makes (record { event = event; reply = reply } ∷ []) s t
  makes_once s t event reply adds =
      let g = adds_grows event reply s t adds in
      record { made = g.0 ∷ []; entries = one_told g.0 event reply g.1 g.2; grows = g.3 }

  pub makes_spent : (s t : SeatOf S E R) → SeesLast s t → Makes [] s t
  makes_spent s t last = record { made = []; entries = refl; grows = last_grows s t last }

  pub makes_then : (s t u : SeatOf S E R) (es fs : List (Entry E R)) → Makes es s t → Makes fs t u → Makes (es ++ fs) s u
  makes_then s t u es fs p q =
      record {
        made = p.made ++ q.made;
        entries = told_append p.made q.made ∙ (ap (λ (xs : List (Entry E R)). xs ++ map told q.made) p.entries ∙ ap (λ (ys : List (Entry E R)). es ++ ys) q.entries);
        grows = grows_on p.made q.made s t u p.grows q.grows;
      }

  pub makes_told : (s t : SeatOf S E R) (made : List (Made E R)) → Grows made s t → Makes (map told made) s t
  makes_told s t made g = record { made = made; entries = refl; grows = g }

  -- what a call of the gate told
  pub steps_told : (event : E) (said : Result R Spent) (s t : SeatOf S E R)
      → IfOk said (λ r. Adds event r s t) → IfErr said (λ e. (e.count ≡ 2 ^ 62) × SeesLast s t) → Steps event said s t
  steps_told event (Ok reply) s t a e = makes_once s t event reply a
  steps_told event (Err spent) s t a e = (e.0, e.1.full, makes_spent s t e.1)

-- ---- polls

polls_more : (call : ℕ) (e : PartEntry) (es : List PartEntry) (said : Said) → e.event ≡ Poll call → asks_again e.reply ≡ true → Polls call es said → Polls call (e ∷ es) said
polls_more call e es said is again p = (is, subst (λ (b : Bool). Either b (Polls call es said) ((es ≡ []) × (said ≡ Ok e.reply))) (sym again) p)

polls_last : (call : ℕ) (e : PartEntry) → e.event ≡ Poll call → asks_again e.reply ≡ false → Polls call (e ∷ []) (Ok e.reply)
polls_last call e is done = (is, subst (λ (b : Bool). Either b (Polls call [] (Ok e.reply)) ((let none : List PartEntry = [] in none ≡ []) × (let r : Said = Ok e.reply in r ≡ Ok e.reply))) (sym done) (refl, refl))

abbrev MadeOn : Type 0
MadeOn = Made PartEvent PartReply

polls_done : (call : ℕ) (tries : List MadeOn) (last : MadeOn)
    → AllByRecursion (λ (m : MadeOn). m.entry.event ≡ Poll call) (tries ++ last ∷ []) → AllByRecursion (λ (m : MadeOn). asks_again m.entry.reply ≡ true) tries → asks_again last.entry.reply ≡ false
    → Polls call (map told (tries ++ last ∷ [])) (Ok last.entry.reply)
polls_done call [] last asked failed done = polls_last call (told last) asked.0 done
polls_done call (t ∷ ts) last asked failed done = polls_more call (told t) (map told (ts ++ last ∷ [])) (Ok last.entry.reply) asked.0 failed.0 (polls_done call ts last asked.1 failed.1 done)

polls_cut : (call : ℕ) (tries : List MadeOn) (spent : Spent)
    → AllByRecursion (λ (m : MadeOn). m.entry.event ≡ Poll call) tries → AllByRecursion (λ (m : MadeOn). asks_again m.entry.reply ≡ true) tries → Polls call (map told tries) (Err spent)
polls_cut call [] spent asked failed = tt
polls_cut call (t ∷ ts) spent asked failed = polls_more call (told t) (map told ts) (Err spent) asked.0 failed.0 (polls_cut call ts spent asked.1 failed.1)

polls_succeed : (call : ℕ) (tries : List MadeOn) (last : MadeOn) (reply : PartReply)
    → All (λ (m : MadeOn). m.entry.event ≡ Poll call) (tries ++ last ∷ []) → All (λ (m : MadeOn). asks_again m.entry.reply ≡ true) tries → asks_again last.entry.reply ≡ false → last.entry.reply ≡ reply
    → Polls call (map told (tries ++ last ∷ [])) (Ok reply)
polls_succeed call tries last reply asked failed done e =
    subst (λ (r : PartReply). Polls call (map told (tries ++ last ∷ [])) (Ok r)) e (polls_done call tries last (recursion_from_All _ _ asked) (recursion_from_All _ _ failed) done)

abbrev OnPartSeat : Type 0
OnPartSeat = SeatOf PartView PartEvent PartReply

-- what `wait_until` told, of events that are Polls of the call
pub wait_ends :
    (asks : PartEvent → Type 0) (answers : PartReply → Bool → Type 0) (call : ℕ) (s t : OnPartSeat) (said : Said)
    → ((e : PartEvent) → asks e → e ≡ Poll call) → ((r : PartReply) → answers r false → asks_again r ≡ true) → ((r : PartReply) → answers r true → asks_again r ≡ false)
    → IfOk said (λ r. Succeeds asks answers r s t)
    → IfErr said (λ e. (e.count ≡ 2 ^ 62) × (length (seen_of t) ≡ 2 ^ 62) × ((tries : List MadeOn) × Tries asks answers tries s t))
    → (es : List PartEntry) × Makes es s t × Polls call es said
wait_ends asks answers call s t (Ok reply) is again done x e = (
  map told (x.tries ++ x.last ∷ []),
  makes_told s t (x.tries ++ x.last ∷ []) (succeeds_grows asks answers reply s t x),
  polls_succeed call x.tries x.last reply (λ k d l. is _ (x.asked k d l)) (λ k d l. again _ (x.failed k d l)) (rw x.reply_is (done reply x.answered)) x.reply_is,
)
wait_ends asks answers call s t (Err spent) is again done x e =
    let tries = e.2.0 in
    let h = e.2.1 in (
      map told tries,
      makes_told s t tries (tries_grow asks answers tries s t h),
      polls_cut call tries spent (recursion_from_All _ _ (λ k d l. is _ (h.asked k d l))) (recursion_from_All _ _ (λ k d l. again _ (h.failed k d l))),
    )

-- a reply to an Ask that isn't to wait is the last one
pub asked_other : (reply : PartReply) → ((call place : ℕ) → reply ≡ replies.Waits call place → ⊥) → AfterAsk reply [] (Ok reply)
asked_other (replies.Waits call place) h = absurd (h call place refl)
asked_other reply h = (refl, refl)

-- what follows what came of an Ask
pub first_spent : (first : Said) (spent : Spent) → first ≡ Err spent → AfterFirst first [] (Err spent)
first_spent first spent is = subst (λ (f : Said). AfterFirst f [] (Err spent)) (sym is) (refl, tt)

pub first_other : (first : Said) (reply : PartReply) → first ≡ Ok reply → ((call place : ℕ) → reply ≡ replies.Waits call place → ⊥) → AfterFirst first [] (Ok reply)
first_other first reply is h = subst (λ (f : Said). AfterFirst f [] (Ok reply)) (sym is) (asked_other reply h)

pub first_waits : (first : Said) (reply : PartReply) (call place : ℕ) (es : List PartEntry) (said : Said)
    → first ≡ Ok reply → reply ≡ replies.Waits call place → Polls call es said → AfterFirst first es said
first_waits first reply call place es said is waits p =
    subst (λ (f : Said). AfterFirst f es said) (sym is) (subst (λ (r : PartReply). AfterAsk r es said) (sym waits) p)

-- an Ask, and what followed it
pub asked_then : (ask : PartEvent) (first said : Said) (s t u : OnPartSeat) (es : List PartEntry)
    → IfOk first (λ r. Adds ask r s t) → IfErr first (λ e. (e.count ≡ 2 ^ 62) × SeesLast s t) → Makes es t u → AfterFirst first es said
    → (fs : List PartEntry) × Makes fs s u × BeginsBy ask fs said
asked_then ask (Ok reply) said s t u es added last makes follows =
    let one : PartEntry = record { event = ask; reply = reply } in
    (one ∷ es, makes_then s t u (one ∷ []) es (makes_once s t ask reply added) makes, (refl, follows))
asked_then ask (Err spent) said s t u es added last makes follows =
    ([], subst (λ (fs : List PartEntry). Makes fs s u) follows.0 (makes_then s t u [] es (makes_spent s t last.1) makes), follows.1)

-- where the gate took no Ask, the seat has seen all of its entries
pub full_of : (first : Said) (s t : OnPartSeat) → IfErr first (λ e. (e.count ≡ 2 ^ 62) × SeesLast s t) → IfErr first (λ e. (e.count ≡ 2 ^ 62) × (length (seen_of t) ≡ 2 ^ 62))
full_of (Ok reply) s t e = e
full_of (Err spent) s t e = (e.0, e.1.full)
