-- Messages as they are kept, and the tables that were told.
use Rattle.std.proofs.Common.{◌≡◌, ◌≢◌, ◌⊎◌, inl, inr, ℕ, ◌+◌, ◌-◌, ◌<◌, ◌≤◌, Bool, true, false, cond, not, List, [], ◌∷◌, ◌++◌, length, get_or, refl, sym, ap, ◌∙◌, subst, arith, append-nil}
use Rattle.std.specs.Prelude.{zero, suc, ◌==◌, take, drop, map, bytes_eq, slice_get, Option, None, Some, MatchOption}
use Rattle.std.specs.Option.{option_to_list}
use Rattle.std.proofs.lemmas.Bool.{eqb-true, eq-eqb, cond_both, and_parts}
use Rattle.std.proofs.lemmas.Slice.Eq.{bytes_eq-Decides}
use Rattle.std.proofs.lemmas.List.{map-append, length-append, length-map}
use Rattle.std.proofs.lemmas.Option.{slice_get-get_or}
use Rattle.actor_names.specs.declared.member.Member.{Member}
use Rattle.place_table.specs.declared.host.HostInfo.{HostInfo}
use Rattle.place_table.specs.Hosts.{PlacementTable}
use Rattle.round_core.specs.declared.event.PlaceEvent.{PlaceEvent}
use Rattle.round_core.specs.declared.event.PlaceEvent.TheVariants as changes
use Rattle.round_core.specs.declared.event.PlaceReply.{PlaceReply}
use Rattle.round_core.specs.declared.event.PlaceReply.TheVariants as replies
use Rattle.placement_core.specs.Placement.{SpaceRoom, PlacementState, placement_step}
use Rattle.placement_core.specs.Views as views
use Rattle.cluster_model.specs.World.{table_in, restarted_versions}
use Rattle.cluster_model.specs.Messages.{Request, UpdateTo, Message, Asks, Tells, table_of, answer_of, change_of, asker_of}
use Rattle.world_run.specs.declared.kept.Kept.{Kept}
use Rattle.world_run.specs.declared.kept.Kept.TheVariants as kept
use Rattle.world_run.specs.declared.kept.Spot.{Spot}
use Rattle.world_run.specs.declared.kept.Wanted.{Wanted}
use Rattle.world_run.specs.declared.kept.Asked.{Asked}
use Rattle.world_run.specs.Post.{PostView, table_or, message_in, messages_in, told_tables, names_table, brings, IsPostKept, numbered, AgreesOn, kept_answer, updated_version, is_wanted, spot_for, is_register, place_wants, last_for, version_in, started_version, asked_of, GivesReply, Agrees, Delivers, is_request}

-- ---- messages by their number

slice-messages : (ts : List PlacementTable) (ks : List Kept) (n : ℕ) (x : Kept) → slice_get ks n ≡ Some x → slice_get (messages_in ts ks) n ≡ Some (message_in ts x)
slice-messages ts [] n x e = absurd (cc)
slice-messages ts (k ∷ ks) zero x e = (let same : k ≡ x = cc in ap (λ (z : Kept). Some (message_in ts z)) same)
slice-messages ts (k ∷ ks) (suc n) x e = slice-messages ts ks n x e

pub numbered_at : (ts : List PlacementTable) (ks : List Kept) (number : ℕ) (x : Kept) → number ≢ 0 → number ≤ length ks → x ≡ get_or ks (number - 1) x → numbered (messages_in ts ks) number ≡ Some (message_in ts x)
numbered_at ts ks zero x some within e = absurd (some refl)
numbered_at ts ks (suc n) x some within e =
    let less : suc n - 1 ≡ n = omega arith in
    let at : x ≡ get_or ks n x = subst (λ (k : ℕ). x ≡ get_or ks k x) less e in
    slice-messages ts ks n x (slice_get-get_or ks n x (omega arith) ∙ ap (λ (y : Kept). Some y) (sym at))

-- ---- steps of the placement

-- an event other than a Register doesn't run out of memory
pub gives_other : (event : PlaceEvent) (now : ℕ) (reply : PlaceReply) (old new : PlacementState) → is_register event ≡ false → views.GivesStep event now reply old new → GivesReply event now reply old new
gives_other (changes.Register host) now reply old new e g = absurd (cc)
gives_other (changes.Beat m) now reply old new e g = g
gives_other (changes.Ack m stage version) now reply old new e g = g
gives_other (changes.Leave m) now reply old new e g = g
gives_other (changes.Lost m) now reply old new e g = g
gives_other changes.Tick now reply old new e g = g
gives_other changes.Look now reply old new e g = g

in_memory : (event : PlaceEvent) (now : ℕ) (reply : PlaceReply) (old new : PlacementState) → place_wants reply ≡ false → views.GivesInMemory event now reply old new → GivesReply event now reply old new
in_memory event now replies.OutOfMemory old new e g = absurd (cc)
in_memory event now reply old new e g = g

without : (event : PlaceEvent) (now : ℕ) (reply : PlaceReply) (old new : PlacementState) → place_wants reply ≡ true → views.GivesInMemory event now reply old new → new ≡ old
without event now replies.OutOfMemory old new e g = g
without event now reply old new e g = absurd (cc)

-- a Register that didn't run out of memory
pub gives_register : (event : PlaceEvent) (now : ℕ) (reply : PlaceReply) (old new : PlacementState) → place_wants reply ≡ false → views.GivesStep event now reply old new → GivesReply event now reply old new
gives_register (changes.Register host) now reply old new e g = in_memory (changes.Register host) now reply old new e g
gives_register (changes.Beat m) now reply old new e g = gives_other (changes.Beat m) now reply old new refl g
gives_register (changes.Ack m stage version) now reply old new e g = gives_other (changes.Ack m stage version) now reply old new refl g
gives_register (changes.Leave m) now reply old new e g = gives_other (changes.Leave m) now reply old new refl g
gives_register (changes.Lost m) now reply old new e g = gives_other (changes.Lost m) now reply old new refl g
gives_register changes.Tick now reply old new e g = gives_other changes.Tick now reply old new refl g
gives_register changes.Look now reply old new e g = gives_other changes.Look now reply old new refl g

pub gives_none : (event : PlaceEvent) (now : ℕ) (reply : PlaceReply) (old new : PlacementState) → is_register event ≡ true → place_wants reply ≡ true → views.GivesStep event now reply old new → new ≡ old
gives_none (changes.Register host) now reply old new e f g = without (changes.Register host) now reply old new f g
gives_none (changes.Beat m) now reply old new e f g = absurd (cc)
gives_none (changes.Ack m stage version) now reply old new e f g = absurd (cc)
gives_none (changes.Leave m) now reply old new e f g = absurd (cc)
gives_none (changes.Lost m) now reply old new e f g = absurd (cc)
gives_none changes.Tick now reply old new e f g = absurd (cc)
gives_none changes.Look now reply old new e f g = absurd (cc)

-- ---- tables

-- if none is pending, the placement's hosts don't matter
pub settled : (ts : List PlacementTable) (p : Option Wanted) (s others : PlacementState) → p ≡ None → told_tables ts p s ≡ told_tables ts None others
settled ts p s others e = ap (λ (o : Option Wanted). told_tables ts o s) e

pub built_told : (ts : List PlacementTable) (t : PlacementTable) (w : Wanted) (s : PlacementState) → t ≡ table_of w.space w.version (table_in s w.space) → told_tables (ts ++ t ∷ []) None s ≡ told_tables ts (Some w) s
built_told ts t w s e = append-nil (ts ++ t ∷ []) ∙ ap (λ (z : PlacementTable). ts ++ z ∷ []) e

-- ---- one message more

slice-append_left : {A : Type 0} (xs ys : List A) (n : ℕ) (x : A) → slice_get xs n ≡ Some x → slice_get (xs ++ ys) n ≡ Some x
slice-append_left [] ys n x e = absurd (cc)
slice-append_left (z ∷ xs) ys zero x e = e
slice-append_left (z ∷ xs) ys (suc n) x e = slice-append_left xs ys n x e

slice-last : {A : Type 0} (xs : List A) (x : A) → slice_get (xs ++ x ∷ []) (length xs) ≡ Some x
slice-last [] x = refl
slice-last (z ∷ xs) x = slice-last xs x

slice-within : {A : Type 0} (xs : List A) (n : ℕ) (x : A) → slice_get xs n ≡ Some x → n < length xs
slice-within [] n x e = absurd (cc)
slice-within (z ∷ xs) zero x e = omega arith
slice-within (z ∷ xs) (suc n) x e = (let l = slice-within xs n x e in omega arith)

slice-in : {A : Type 0} (xs : List A) (n : ℕ) → n < length xs → (x : A) × (slice_get xs n ≡ Some x)
slice-in [] n l = absurd (omega arith)
slice-in (x ∷ xs) zero l = (x, refl)
slice-in (x ∷ xs) (suc n) l = slice-in xs n (omega arith)

-- more tables don't change a message that names an earlier one
message-more : (ts us : List PlacementTable) (k : Kept) → names_table (length ts) k → message_in (ts ++ us) k ≡ message_in ts k
message-more ts us (kept.Register host) n = refl
message-more ts us (kept.Beat m) n = refl
message-more ts us (kept.Ack m stage version) n = refl
message-more ts us (kept.Leave m) n = refl
message-more ts us (kept.Lock m version) n = refl
message-more ts us (kept.Update m at) n =
    let h = slice-in ts at n in
    ap (λ (o : Option PlacementTable). Tells m (UpdateTo (table_or o))) (slice-append_left ts us at h.0 h.1 ∙ sym h.1)
message-more ts us (kept.Unlock m version) n = refl
message-more ts us (kept.Says m reply) n = refl

messages-more : (ts us : List PlacementTable) (ks : List Kept) → ((n : ℕ) (x : Kept) → slice_get ks n ≡ Some x → names_table (length ts) x) → messages_in (ts ++ us) ks ≡ messages_in ts ks
messages-more ts us [] h = refl
messages-more ts us (k ∷ ks) h = (λ i. message-more ts us k (h 0 k refl) i ∷ messages-more ts us ks (λ n x e. h (suc n) x e) i)

-- an answer that isn't an Update is kept as it is
kept_plain : (ts : List PlacementTable) (m : Member) (reply : PlaceReply) (at : ℕ) (space : List ℕ) (hosts : List HostInfo) → updated_version reply ≡ None → message_in ts (kept_answer m reply at) ≡ Tells m (answer_of space hosts reply)
kept_plain ts m (replies.Lock version) at space hosts e = refl
kept_plain ts m (replies.Update version) at space hosts e = absurd (cc)
kept_plain ts m (replies.Unlock version) at space hosts e = refl
kept_plain ts m reply at space hosts e = refl

names_more : (n k : ℕ) (x : Kept) → n ≤ k → names_table n x → names_table k x
names_more n k (kept.Register host) l h = tt
names_more n k (kept.Beat m) l h = tt
names_more n k (kept.Ack m stage version) l h = tt
names_more n k (kept.Leave m) l h = tt
names_more n k (kept.Lock m version) l h = tt
names_more n k (kept.Update m at) l h = omega arith
names_more n k (kept.Unlock m version) l h = tt
names_more n k (kept.Says m reply) l h = tt

plain_names : (m : Member) (reply : PlaceReply) (at n : ℕ) → updated_version reply ≡ None → names_table n (kept_answer m reply at)
plain_names m (replies.Lock version) at n e = tt
plain_names m (replies.Update version) at n e = absurd (cc)
plain_names m (replies.Unlock version) at n e = tt
plain_names m reply at n e = tt

named_push : (n k : ℕ) (ks : List Kept) (x : Kept) → n ≤ k → ((i : ℕ) (y : Kept) → slice_get ks i ≡ Some y → names_table n y) → names_table k x → (i : ℕ) (y : Kept) → slice_get (ks ++ x ∷ []) i ≡ Some y → names_table k y
named_push n k [] x l h own zero y e = (let same : x ≡ y = cc in subst (λ (z : Kept). names_table k z) same own)
named_push n k [] x l h own (suc i) y e = absurd (cc)
named_push n k (z ∷ ks) x l h own zero y e = names_more n k y l (h 0 y e)
named_push n k (z ∷ ks) x l h own (suc i) y e = named_push n k ks x l (λ j w f. h (suc j) w f) own i y e

brings_some : (at : ℕ) (o : Option Kept) → brings at o ≡ true → (m : Member) × (o ≡ Some (kept.Update m at))
brings_some at (Some (kept.Update m place)) e = (let same : place ≡ at = eqb-true place at e in (m, ap (λ (n : ℕ). Some (kept.Update m n)) same))
brings_some at None e = absurd (cc)
brings_some at (Some (kept.Register host)) e = absurd (cc)
brings_some at (Some (kept.Beat m)) e = absurd (cc)
brings_some at (Some (kept.Ack m stage version)) e = absurd (cc)
brings_some at (Some (kept.Leave m)) e = absurd (cc)
brings_some at (Some (kept.Lock m version)) e = absurd (cc)
brings_some at (Some (kept.Unlock m version)) e = absurd (cc)
brings_some at (Some (kept.Says m reply)) e = absurd (cc)

brings_same : (at : ℕ) (m : Member) → brings at (Some (kept.Update m at)) ≡ true
brings_same at m = eq-eqb at at refl

-- a request changes nothing about the tables that were sent
pub ask_kept : (n last : ℕ) (ks : List Kept) (x : Kept) → is_request x ≡ true → IsPostKept n ks last → IsPostKept n (ks ++ x ∷ []) last
ask_kept n last ks x r h =
    record {
      named = named_push n n ks x (omega arith) h.named (request_names x n r);
      told = λ l. (let b = brings_some (n - 1) (slice_get ks last) (h.told l) in subst (λ (o : Option Kept). brings (n - 1) o ≡ true) (sym (slice-append_left ks (x ∷ []) last _ b.1)) (brings_same (n - 1) b.0));
    }
  where
    request_names : (x : Kept) (n : ℕ) → is_request x ≡ true → names_table n x
    request_names (kept.Register host) n r = tt
    request_names (kept.Beat m) n r = tt
    request_names (kept.Ack m stage version) n r = tt
    request_names (kept.Leave m) n r = tt
    request_names (kept.Lock m version) n r = absurd (cc)
    request_names (kept.Update m at) n r = absurd (cc)
    request_names (kept.Unlock m version) n r = absurd (cc)
    request_names (kept.Says m reply) n r = absurd (cc)

pub ask_message : (ts : List PlacementTable) (x : Kept) → is_request x ≡ true → message_in ts x ≡ message_in [] x
ask_message ts (kept.Register host) r = refl
ask_message ts (kept.Beat m) r = refl
ask_message ts (kept.Ack m stage version) r = refl
ask_message ts (kept.Leave m) r = refl
ask_message ts (kept.Lock m version) r = absurd (cc)
ask_message ts (kept.Update m at) r = absurd (cc)
ask_message ts (kept.Unlock m version) r = absurd (cc)
ask_message ts (kept.Says m reply) r = absurd (cc)

pub messages-push : (ts : List PlacementTable) (ks : List Kept) (x : Kept) → messages_in ts (ks ++ x ∷ []) ≡ messages_in ts ks ++ message_in ts x ∷ []
messages-push ts ks x = map-append (message_in ts) ks (x ∷ [])

-- ---- an answer

-- the messages after an answer that is kept with the table at this place, and how they are kept
pub record AnsweredBy (spot : Spot) (next : ℕ) (ts : List PlacementTable) (ks : List Kept) (m : Member) (reply : PlaceReply) (s : PlacementState) : Type 0 where
  pub messages : messages_in (told_tables ts spot.pending s) (ks ++ kept_answer m reply spot.table ∷ []) ≡ messages_in ts ks ++ Tells m (answer_of m.space (table_in s m.space) reply) ∷ []
  pub kept : IsPostKept (length (told_tables ts spot.pending s)) (ks ++ kept_answer m reply spot.table ∷ []) next

-- the last table is still one that was sent
still_told : (n last : ℕ) (ks : List Kept) (x : Kept) → (0 < n → brings (n - 1) (slice_get ks last) ≡ true) → 0 < n → brings (n - 1) (slice_get (ks ++ x ∷ []) last) ≡ true
still_told n last ks x h l = (let b = brings_some (n - 1) (slice_get ks last) (h l) in subst (λ (o : Option Kept). brings (n - 1) o ≡ true) (sym (slice-append_left ks (x ∷ []) last _ b.1)) (brings_same (n - 1) b.0))

plain : (ts : List PlacementTable) (ks : List Kept) (last : ℕ) (m : Member) (reply : PlaceReply) (s : PlacementState) → updated_version reply ≡ None → IsPostKept (length ts) ks last →
    AnsweredBy (record { table = 0; pending = None }) last ts ks m reply s
plain ts ks last m reply s e h =
    let x : Kept = kept_answer m reply 0 in
    record {
      messages = ap (λ (us : List PlacementTable). messages_in us (ks ++ x ∷ [])) (append-nil ts) ∙ messages-push ts ks x ∙ ap (λ (y : Message). messages_in ts ks ++ y ∷ []) (kept_plain ts m reply 0 m.space (table_in s m.space) e);
      kept = subst (λ (us : List PlacementTable). IsPostKept (length us) (ks ++ x ∷ []) last) (sym (append-nil ts))
          (record { named = named_push (length ts) (length ts) ks x (omega arith) h.named (plain_names m reply 0 (length ts) e); told = still_told (length ts) last ks x h.told });
    }

-- an Update brings the last table
new_told : (n : ℕ) (ks : List Kept) (m : Member) (at : ℕ) → at ≡ n - 1 → brings (n - 1) (slice_get (ks ++ kept.Update m at ∷ []) (length ks)) ≡ true
new_told n ks m at e = ap (λ (o : Option Kept). brings (n - 1) o) (slice-last ks (kept.Update m at)) ∙ ap (λ (k : ℕ). brings (n - 1) (Some (kept.Update m k))) e ∙ brings_same (n - 1) m

wanted_some : (space : List ℕ) (version : ℕ) (o : Option PlacementTable) → is_wanted space version o ≡ true → (t : PlacementTable) × (o ≡ Some t) × (t.space ≡ space) × (t.version ≡ version)
wanted_some space version (Some t) e = let h = and_parts (bytes_eq t.space space) (t.version == version) e in (t, refl, (bytes_eq-Decides t.space space).0 h.0, eqb-true t.version version h.1)
wanted_some space version None e = absurd (cc)

shared : (ts : List PlacementTable) (ks : List Kept) (last : ℕ) (m : Member) (version now : ℕ) (s : PlacementState) → IsPostKept (length ts) ks last → AgreesOn (messages_in ts ks) now m.space (table_in s m.space) (replies.Update version) →
    is_wanted m.space version (slice_get ts (length ts - 1)) ≡ true → AnsweredBy (record { table = length ts - 1; pending = None }) (length ks) ts ks m (replies.Update version) s
shared ts ks last m version now s h agrees e =
    let at : ℕ = length ts - 1 in
    let x : Kept = kept.Update m at in
    let t = wanted_some m.space version (slice_get ts at) e in
    let some : at < length ts = slice-within ts at t.0 t.1 in
    let b = brings_some at (slice_get ks last) (h.told (omega arith)) in
    let told : slice_get (messages_in ts ks) last ≡ Some (Tells b.0 (UpdateTo t.0)) =
    slice-messages ts ks last (kept.Update b.0 at) b.1 ∙ ap (λ (o : Option PlacementTable). Some (Tells b.0 (UpdateTo (table_or o)))) t.1 in
    let same : t.0 ≡ table_of m.space version (table_in s m.space) = agrees b.0 t.0 last told t.2 t.3 in
    record {
      messages = ap (λ (us : List PlacementTable). messages_in us (ks ++ x ∷ [])) (append-nil ts) ∙ messages-push ts ks x
          ∙ ap (λ (o : Option PlacementTable). messages_in ts ks ++ Tells m (UpdateTo (table_or o)) ∷ []) (t.1 ∙ ap (λ (z : PlacementTable). Some z) same);
      kept = subst (λ (us : List PlacementTable). IsPostKept (length us) (ks ++ x ∷ []) (length ks)) (sym (append-nil ts))
          (record { named = named_push (length ts) (length ts) ks x (omega arith) h.named some; told = λ l. new_told (length ts) ks m at refl });
    }

fresh : (ts : List PlacementTable) (ks : List Kept) (last : ℕ) (m : Member) (version : ℕ) (s : PlacementState) → IsPostKept (length ts) ks last →
    AnsweredBy (record { table = length ts; pending = Some (record { space = m.space; version = version }) }) (length ks) ts ks m (replies.Update version) s
fresh ts ks last m version s h =
    let x : Kept = kept.Update m (length ts) in
    let made : PlacementTable = table_of m.space version (table_in s m.space) in
    let new : List PlacementTable = made ∷ [] in
    let count : length (ts ++ new) ≡ length ts + 1 = length-append ts new in
    record {
      messages = messages-push (ts ++ new) ks x ∙ ap (λ (z : List Message). z ++ message_in (ts ++ new) x ∷ []) (messages-more ts new ks h.named)
          ∙ ap (λ (o : Option PlacementTable). messages_in ts ks ++ Tells m (UpdateTo (table_or o)) ∷ []) (slice-last ts made);
      kept = record {
        named = named_push (length ts) (length (ts ++ new)) ks x (omega arith) h.named (omega arith);
        told = λ l. new_told (length (ts ++ new)) ks m (length ts) (omega arith);
      };
    }

-- however the answer is kept, it is the next message
pub answered_by : (ts : List PlacementTable) (ks : List Kept) (last : ℕ) (m : Member) (reply : PlaceReply) (now : ℕ) (s : PlacementState) → IsPostKept (length ts) ks last → AgreesOn (messages_in ts ks) now m.space (table_in s m.space) reply →
    AnsweredBy (spot_for ts m.space (updated_version reply)) (last_for (updated_version reply) (length ks) last) ts ks m reply s
answered_by ts ks last m (replies.Update version) now s h agrees =
    cond_both (is_wanted m.space version (slice_get ts (length ts - 1))) _ _ (λ (x : Spot). AnsweredBy x (length ks) ts ks m (replies.Update version) s)
    (λ e. shared ts ks last m version now s h agrees e) (λ _. fresh ts ks last m version s h)
answered_by ts ks last m reply now s h agrees = plain ts ks last m reply s refl h

-- ---- requests that are delivered

pub delivers_none : (x : Option Message) (now : ℕ) (v : PostView) → asked_of x ≡ None → Delivers x now None v v
delivers_none None now v e = (refl, refl)
delivers_none (Some (Asks r)) now v e = absurd (cc)
delivers_none (Some (Tells m a)) now v e = (refl, refl)

asked_request : (r : Request) (a : Asked) → asked_of (Some (Asks r)) ≡ Some a → record { member = asker_of r; event = change_of r } ≡ a
asked_request r a e = some_same _ a e
  where
    some_same : (a b : Asked) → Some a ≡ Some b → a ≡ b
    some_same a b e = cc

pub delivered : (x : Option Message) (a : Asked) (now : ℕ) (reply : PlaceReply) (old new : PostView) → asked_of x ≡ Some a → GivesReply a.event now reply old.placement new.placement →
    new.messages ≡ old.messages ++ Tells a.member (answer_of a.member.space (table_in new.placement a.member.space) reply) ∷ [] → Delivers x now (Some reply) old new
delivered None a now reply old new e g m = absurd (cc)
delivered (Some (Tells n b)) a now reply old new e g m = absurd (cc)
delivered (Some (Asks r)) a now reply old new e g m =
    let same = asked_request r a e in
    let reply_is : reply ≡ (placement_step old.placement (change_of r) now).reply = g.0 ∙ ap (λ (z : Asked). (placement_step old.placement z.event now).reply) (sym same) in
    let state_is : new.placement ≡ (placement_step old.placement (change_of r) now).state = g.1 ∙ ap (λ (z : Asked). (placement_step old.placement z.event now).state) (sym same) in (
      ap (λ (z : PlaceReply). Some z) reply_is,
      (λ i. record { placement = state_is i; messages = (m ∙ (λ j. old.messages ++ Tells (sym same j).member (answer_of (sym same j).member.space (table_in (state_is j) (sym same j).member.space) (reply_is j)) ∷ [])) i }),
    )

pub agrees_on : (x : Option Message) (a : Asked) (now : ℕ) (reply : PlaceReply) (old : PostView) (s : PlacementState) → asked_of x ≡ Some a → Agrees x now old → GivesReply a.event now reply old.placement s → AgreesOn old.messages now a.member.space (table_in s a.member.space) reply
agrees_on None a now reply old s e h g = absurd (cc)
agrees_on (Some (Tells n b)) a now reply old s e h g = absurd (cc)
agrees_on (Some (Asks r)) a now reply old s e h g =
    let same = asked_request r a e in
    let reply_is : (placement_step old.placement (change_of r) now).reply ≡ reply = sym (g.0 ∙ ap (λ (z : Asked). (placement_step old.placement z.event now).reply) (sym same)) in
    let state_is : (placement_step old.placement (change_of r) now).state ≡ s = sym (g.1 ∙ ap (λ (z : Asked). (placement_step old.placement z.event now).state) (sym same)) in
    subst (λ (b : Asked). AgreesOn old.messages now b.member.space (table_in s b.member.space) reply) same
    (subst (λ (z : PlaceReply). AgreesOn old.messages now (asker_of r).space (table_in s (asker_of r).space) z) reply_is
    (subst (λ (z : PlacementState). AgreesOn old.messages now (asker_of r).space (table_in z (asker_of r).space) (placement_step old.placement (change_of r) now).reply) state_is h))

-- ---- the versions of rounds that a restart started

-- those of the first rooms, then the last versions of the others
abbrev pub versions_at : List SpaceRoom → List SpaceRoom → ℕ → List ℕ
versions_at rooms new n = restarted_versions (take n rooms) (take n new) ++ map version_in (drop n rooms)

-- ---- the last message is taken back

pub snoc_same : {A : Type 0} (xs ys : List A) (x y : A) → xs ++ x ∷ [] ≡ ys ++ y ∷ [] → (xs ≡ ys) × (x ≡ y)
snoc_same [] [] x y e = (refl, head e)
  where
    head : x ∷ [] ≡ y ∷ [] → x ≡ y
    head e = cc
snoc_same [] (z ∷ []) x y e = absurd (let f : length (x ∷ []) ≡ length (z ∷ y ∷ []) = ap length e in omega arith)
snoc_same [] (z ∷ w ∷ ys) x y e = absurd (let f : length (x ∷ []) ≡ length (z ∷ w ∷ (ys ++ y ∷ [])) = ap length e in omega arith)
snoc_same (z ∷ []) [] x y e = absurd (let f : length (z ∷ x ∷ []) ≡ length (y ∷ []) = ap length e in omega arith)
snoc_same (z ∷ w ∷ xs) [] x y e = absurd (let f : length (z ∷ w ∷ (xs ++ x ∷ [])) ≡ length (y ∷ []) = ap length e in omega arith)
snoc_same (z ∷ xs) (w ∷ ys) x y e = (let h = snoc_same xs ys x y (tail e) in ((λ i. head e i ∷ h.0 i), h.1))
  where
    head : z ∷ (xs ++ x ∷ []) ≡ w ∷ (ys ++ y ∷ []) → z ≡ w
    head e = cc

    tail : z ∷ (xs ++ x ∷ []) ≡ w ∷ (ys ++ y ∷ []) → xs ++ x ∷ [] ≡ ys ++ y ∷ []
    tail e = cc

slice-snoc : {A : Type 0} (xs : List A) (x y : A) (n : ℕ) → slice_get (xs ++ x ∷ []) n ≡ Some y → (slice_get xs n ≡ Some y) ⊎ (x ≡ y)
slice-snoc [] x y zero e = inr (some_same e)
  where
    some_same : Some x ≡ Some y → x ≡ y
    some_same e = cc
slice-snoc [] x y (suc n) e = absurd (cc)
slice-snoc (z ∷ xs) x y zero e = inl e
slice-snoc (z ∷ xs) x y (suc n) e = slice-snoc xs x y n e

update_asks : (ts : List PlacementTable) (x : Kept) (m : Member) (at : ℕ) (r : Request) → x ≡ kept.Update m at → message_in ts x ≡ Asks r → ⊥
update_asks ts x m at r e f = (let g : Tells m (UpdateTo (table_or (slice_get ts at))) ≡ Asks r = ap (λ (z : Kept). message_in ts z) (sym e) ∙ f in cc)

-- the messages before the last one
pub record Withdrawn (ts : List PlacementTable) (last : ℕ) (ks : List Kept) (front : List Message) : Type 0 where
  pub kept : IsPostKept (length ts) ks last
  pub messages : messages_in ts ks ≡ front

pub withdrawn : (ts : List PlacementTable) (last : ℕ) (old new : List Kept) (o : Option Kept) (front : List Message) (r : Request) → IsPostKept (length ts) old last → messages_in ts old ≡ front ++ Asks r ∷ [] →
    old ≡ new ++ option_to_list o → MatchOption o (length old ≡ 0) (λ _. Unit {0}) → Withdrawn ts last new front
withdrawn ts last old new None front r h asks items cases =
    absurd (let e : length (messages_in ts old) ≡ length (front ++ Asks r ∷ []) = ap length asks in omega (arith, e, cases, length-map old (message_in ts), length-append front (Asks r ∷ [])))
withdrawn ts last old new (Some x) front r h asks items cases =
    let both = snoc_same (messages_in ts new) front (message_in ts x) (Asks r) (sym (messages-push ts new x) ∙ ap (λ (ks : List Kept). messages_in ts ks) (sym items) ∙ asks) in
    let was : (n : ℕ) (y : Kept) → slice_get new n ≡ Some y → slice_get old n ≡ Some y = λ n y e. ap (λ (ks : List Kept). slice_get ks n) items ∙ slice-append_left new (x ∷ []) n y e in
    record {
      kept = record {
        named = λ n y e. h.named n y (was n y e);
        told = λ l.
            let b = brings_some (length ts - 1) (slice_get old last) (h.told l) in
            elim (slice-snoc new x (kept.Update b.0 (length ts - 1)) last (ap (λ (ks : List Kept). slice_get ks last) (sym items) ∙ b.1)) [
              | inl e ↦ subst (λ (z : Option Kept). brings (length ts - 1) z ≡ true) (sym e) (brings_same (length ts - 1) b.0)
              | inr e ↦ absurd (update_asks ts x b.0 (length ts - 1) r e both.1)
            ];
      };
      messages = both.0;
    }
