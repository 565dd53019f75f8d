-- Calls that were served, in each case.
use Rattle.std.proofs.Common.{◌≡◌, ◌≢◌, ◌≤◌, refl, sym, subst, inl, inr, ℕ, List, [], ◌++◌, Option, Some, Ok, Err}
use Rattle.std.proofs.lemmas.List.{append-nil}
use Rattle.step_gate.specs.declared.gate.Spent.{Spent}
use Rattle.actor_names.specs.declared.member.Member.{Member}
use Rattle.actor_names.specs.declared.address.Address.{Address}
use Rattle.place_table.specs.declared.host.HostInfo.{HostInfo}
use Rattle.part_model.specs.Receipts.{PartReply}
use Rattle.part_model.specs.declared.event.Reply.TheVariants as replies
use Rattle.http_edge.specs.declared.message.HttpRequest.{HttpRequest}
use Rattle.actors_api.specs.declared.reply.ApiReply.{ApiReply}
use Rattle.actors_api.specs.declared.side.Side.{Side}
use Rattle.actors_api.specs.declared.refusal.ApiRefusal.TheVariants as refusals
use Rattle.sidecar_node.specs.declared.node.Seats.{Seats}
use Rattle.part_model.specs.declared.event.PartEvent.TheVariants.{Draw}
use Rattle.sidecar_node.specs.Nodes.{SpentAt}
use Rattle.sidecar_node.specs.Entries.{PartEntry, one_entry}
use Rattle.sidecar_node.specs.Turns.{Said, Begins}
use Rattle.exchanges.specs.Exchanges.{Exchange}
use Rattle.actor_calls.specs.declared.invoke.Invoke.{Invoke}
use Rattle.actor_calls.specs.declared.next.Next.{Next}
use Rattle.actor_calls.specs.declared.next.Next.TheVariants.{Answered, Moves}
use Rattle.http_edge.specs.declared.error.EdgeError.{EdgeError}
use Rattle.http_edge.specs.declared.error.EdgeError.TheVariants as edge
use Rattle.actor_calls.specs.Outcomes.{refused, refusal_of, next_of, ended_answer, turn_answer}
use Rattle.actor_calls.specs.Turns.{IsIdle, IsTurn, Follows, IsAsked}
use Rattle.actor_calls.specs.Hops.{AfterDraw, IsForwarded, IsHop}
use Rattle.actor_calls.proofs.Tries.{makes_one}
use Rattle.actor_calls.specs.Serving.{GoesOn, IsInvoked}

pub idle : (now : ℕ) → IsIdle now now [] []
idle now = record { now = refl; entries = refl; exchanges = refl }

module _ (part : ℕ) (after : Seats) (app : Address) (q : Invoke) (request : HttpRequest) where
  -- a last reply that begins no turn
  pub follows_other : (reply : PartReply) (now : ℕ) → ((call : ℕ) (chain : Option (List ℕ)) → reply ≢ replies.Begun call chain) → Follows part after app q request (Ok reply) now now [] [] (next_of reply)
  follows_other (replies.Begun call chain) now h = absurd (h call chain refl)
  follows_other reply now h = (idle now, refl)

  -- the same, if the outcome goes by another name
  pub follows_next : (reply : PartReply) (next : Next) (now : ℕ) → next ≡ next_of reply → ((call : ℕ) (chain : Option (List ℕ)) → reply ≢ replies.Begun call chain) → Follows part after app q request (Ok reply) now now [] [] next
  follows_next reply next now e h = subst (λ (m : Next). Follows part after app q request (Ok reply) now now [] [] m) (sym e) (follows_other reply now h)

  -- a beginning and what follows it
  pub asked_follows :
      (least : Option ℕ) (chain : Option (List ℕ)) (first middle last : ℕ) (said : Said) (es fs : List PartEntry) (xs : List Exchange) (next : Next)
      → chain ≡ q.chain → first ≤ middle → Begins q.actor chain least middle es said → SpentAt part said after → Follows part after app q request said middle last fs xs next → IsAsked part after app q request least first last (es ++ fs) xs next
  asked_follows least chain first middle last said es fs xs next e later b full f =
      record { middle = middle; front = es; back = fs; said = said; entries = refl; later = later; begins = subst (λ (m : Option (List ℕ)). Begins q.actor m least middle es said) e b; full = full; follows = f }

  -- a turn that began, and its end
  pub asked_turn :
      (least : Option ℕ) (chain told : Option (List ℕ)) (first middle last call : ℕ) (es fs : List PartEntry) (xs : List Exchange) (answer : ApiReply)
      → chain ≡ q.chain → first ≤ middle → Begins q.actor chain least middle es (Ok (replies.Begun call told)) → IsTurn part after app q request call told middle last fs xs answer
      → IsAsked part after app q request least first last (es ++ fs) xs (Answered answer)
  asked_turn least chain told first middle last call es fs xs answer e later b t =
      asked_follows least chain first middle last (Ok (replies.Begun call told)) es fs xs (Answered answer) e later b tt (answer, t, refl)

  -- the gate took no further entry
  pub asked_spent :
      (least : Option ℕ) (chain : Option (List ℕ)) (first middle : ℕ) (spent : Spent) (es : List PartEntry)
      → chain ≡ q.chain → first ≤ middle → Begins q.actor chain least middle es (Err spent) → SpentAt part (Err spent) after → IsAsked part after app q request least first middle es [] (Answered (refused refusals.Spent))
  asked_spent least chain first middle spent es e later b full =
      record {
        middle = middle;
        front = es;
        back = [];
        said = Err spent;
        entries = sym (append-nil es);
        later = later;
        begins = subst (λ (m : Option (List ℕ)). Begins q.actor m least middle es (Err spent)) e b;
        full = full;
        follows = (idle middle, refl);
      }

-- a call that moves on: its part answered, so that nothing is said of the seats, and others may stand for them
module _ (part : ℕ) (before after : Seats) (app : Address) (q : Invoke) (request : HttpRequest) (version : ℕ) (owner : HostInfo) where
  moves_follows : (said : Said) (first last : ℕ) (es : List PartEntry) (xs : List Exchange) → Follows part before app q request said first last es xs (Moves version owner)
      → SpentAt part said after × Follows part after app q request said first last es xs (Moves version owner)
  moves_follows (Ok (replies.Begun call chain)) first last es xs f = let e = f.2 in absurd (let h : ⊥ = cc in h)
  moves_follows (Ok reply) first last es xs f = (tt, f)
  moves_follows (Err spent) first last es xs f = let e = f.1 in absurd (let h : ⊥ = cc in h)

  pub asked_moves : (least : Option ℕ) (first last : ℕ) (es : List PartEntry) (xs : List Exchange) → IsAsked part before app q request least first last es xs (Moves version owner) → IsAsked part after app q request least first last es xs (Moves version owner)
  asked_moves least first last es xs a =
      let f = moves_follows a.said a.middle last a.back xs a.follows in
      record { middle = a.middle; front = a.front; back = a.back; said = a.said; entries = a.entries; later = a.later; begins = a.begins; full = f.0; follows = f.1 }

  forward_moves : (me : Member) (least : ℕ) (to : HostInfo) (es : List PartEntry) (ys : List Exchange) → IsForwarded part before me request least to es ys (Moves version owner) → IsForwarded part after me request least to es ys (Moves version owner)
  forward_moves me least to es ys f =
      record { said = f.said; draws = f.draws; full = drawn_full me least to f.said ys f.follows; follows = f.follows }
    where
      drawn_full : (me : Member) (least : ℕ) (to : HostInfo) (said : Said) (ys : List Exchange) → AfterDraw part me request least to said ys (Moves version owner) → SpentAt part said after
      drawn_full me least to (Ok reply) ys f = tt
      drawn_full me least to (Err spent) ys f = let e = f.1 in absurd (let h : ⊥ = cc in h)

  pub hop_moves : (me : Member) (least : ℕ) (to : HostInfo) (first last : ℕ) (es : List PartEntry) (xs ys : List Exchange)
      → IsHop part before me app q request least to first last es xs ys (Moves version owner) → IsHop part after me app q request least to first last es xs ys (Moves version owner)
  hop_moves me least to first last es xs ys (inl h) = inl (h.0, h.1, asked_moves (Some least) first last es xs h.2)
  hop_moves me least to first last es xs ys (inr h) = inr (h.0, h.1, h.2, forward_moves me least to es ys h.3)

-- a Draw that was refused
pub draw_refused : (part : ℕ) (me : Member) (request : HttpRequest) (least : ℕ) (owner : HostInfo) (reply : PartReply) (next : Next)
    → next ≡ Answered (refused (refusal_of reply)) → ((n : ℕ) → reply ≢ replies.Drawn n) → AfterDraw part me request least owner (Ok reply) [] next
draw_refused part me request least owner (replies.Drawn n) next e h = absurd (h n refl)
draw_refused part me request least owner reply next e h = (refl, e)

-- a Draw on the part, which goes by two names, and what followed
pub forward_at :
    (place part : ℕ) → place ≡ part → (after : Seats) (me : Member) (request : HttpRequest) (least : ℕ) (owner : HostInfo) (said : Said) (ys : List Exchange) (next : Next)
    → SpentAt place said after → AfterDraw place me request least owner said ys next → IsForwarded part after me request least owner (one_entry Draw said) ys next
forward_at place part e after me request least owner said ys next s f =
    record {
      said = said;
      draws = makes_one Draw said;
      full = subst (λ (p : ℕ). SpentAt p said after) e s;
      follows = subst (λ (p : ℕ). AfterDraw p me request least owner said ys next) e f;
    }

module _ (part : ℕ) (after : Seats) (host : Member) (app : Address) (q : Invoke) (request : HttpRequest) (side : Side) where
  -- the first Ask answered the call
  pub invoked_answered : (first last : ℕ) (es : List PartEntry) (xs : List Exchange) (answer : ApiReply)
      → IsAsked part after app q request q.least first last es xs (Answered answer) → IsInvoked part after host app q request side first last es xs [] answer
  invoked_answered first last es xs answer a =
      record {
        middle = last;
        front = es;
        back = [];
        early = xs;
        late = [];
        next = Answered answer;
        entries = sym (append-nil es);
        exchanges = sym (append-nil xs);
        asked = a;
        goes_on = (idle last, refl, refl);
      }

  -- the first Ask named another owner, and what followed
  pub invoked_moves :
      (before : Seats) (me : Member) (at : Address) (first middle last : ℕ) (es fs : List PartEntry) (xs vs ys : List Exchange) (version : ℕ) (owner : HostInfo) (answer : ApiReply)
      → me ≡ host → at ≡ app → IsAsked part before app q request q.least first middle es xs (Moves version owner) → GoesOn part after me at q request side (Moves version owner) middle last fs vs ys answer
      → IsInvoked part after host app q request side first last (es ++ fs) (xs ++ vs) ys answer
  invoked_moves before me at first middle last es fs xs vs ys version owner answer same there a o =
      record {
        middle = middle;
        front = es;
        back = fs;
        early = xs;
        late = vs;
        next = Moves version owner;
        entries = refl;
        exchanges = refl;
        asked = asked_moves part before after app q request version owner q.least first middle es xs a;
        goes_on = subst (λ (m : Member). GoesOn part after m app q request side (Moves version owner) middle last fs vs ys answer) same (subst (λ (l : Address). GoesOn part after me l q request side (Moves version owner) middle last fs vs ys answer) there o);
      }

-- the application gave no reply, and memory didn't run out
pub fault_ended : (reply : PartReply) (error : EdgeError) → error ≢ edge.OutOfMemory → ended_answer reply (Err error) ≡ turn_answer (Ok reply) (Err error)
fault_ended reply edge.OutOfMemory h = absurd (h refl)
fault_ended reply error h = refl
