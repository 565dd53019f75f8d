-- The list of a script's calls, and the calls that its lines make.
use Rattle.std.proofs.Common.{◌≡◌, ◌⊎◌, ℕ, List, [], ◌∷◌, ◌++◌, length, Option, None, Some, refl, ap, inl, inr, arith}
use Rattle.std.specs.Prelude.{zero, suc, slice_get}
use Rattle.std.specs.declared.result.Result.{Result}
use Rattle.std.specs.declared.result.Result.TheVariants.{Ok, Err}
use Rattle.actor_names.specs.declared.member.Member.{Member}
use Rattle.actor_names.specs.declared.actor_key.ActorKey.{ActorKey}
use Rattle.turn_core.specs.CellSound.{In}
use Rattle.part_model.specs.Receipts.{PartReply}
use Rattle.part_model.specs.declared.event.Reply.TheVariants as replies
use Rattle.part_model.specs.Marks.{PartMark}
use Rattle.world_events.specs.declared.event.WorldEvent.{WorldEvent}
use Rattle.world_events.specs.declared.event.WorldEvent.TheVariants as lines
use Rattle.world_events.specs.declared.outcome.Outcome.{Outcome}
use Rattle.world_events.specs.declared.outcome.Outcome.TheVariants as out
use Rattle.world_events.specs.declared.outcome.TurnOutcome.TheVariants as turn
use Rattle.world_events.specs.declared.error.WorldError.{WorldError}
use Rattle.cluster_model.specs.Asked.{AskedCall, asked_by}
use Rattle.cluster_model.specs.World.{CallPlace, TraceMark, tagged, the_call, call_at, place_of_call, call_outcome}
use Rattle.cluster_model.proofs.Histories.{some_same}
use Rattle.cluster_model.proofs.Runs.{get-append, get-left}

-- ---- the calls of a script

pub append_nil : {A : Type 0} (xs : List A) → xs ++ [] ≡ xs
append_nil [] = refl
append_nil (x ∷ xs) = ap (◌∷◌ x) (append_nil xs)

pub the_call-some : (o : Option (Option CallPlace)) (c : CallPlace) → the_call o ≡ Some c → o ≡ Some (Some c)
the_call-some None c e = absurd (cc)
the_call-some (Some x) c e = ap Some e

pub call_at-left : (cs ds : List (Option CallPlace)) (i : ℕ) (c : CallPlace) → call_at cs i ≡ Some c → call_at (cs ++ ds) i ≡ Some c
call_at-left cs ds zero c e = absurd (cc)
call_at-left cs ds (suc i) c e = ap the_call (get-left cs ds i (Some c) (the_call-some (slice_get cs i) c e))

pub one_only : {A : Type 0} (x : A) (j : ℕ) (y : A) → slice_get (x ∷ []) j ≡ Some y → (j ≡ 0) × (x ≡ y)
one_only x zero y e = (refl, some_same x y e)
one_only x (suc j) y e = absurd (cc)

pub call_at-push : (cs : List (Option CallPlace)) (o : Option CallPlace) (i : ℕ) (c : CallPlace) → call_at (cs ++ o ∷ []) i ≡ Some c → (call_at cs i ≡ Some c) ⊎ ((i ≡ suc (length cs)) × (o ≡ Some c))
call_at-push cs o zero c e = absurd (cc)
call_at-push cs o (suc i) c e =
    elim (get-append cs (o ∷ []) i (Some c) (the_call-some (slice_get (cs ++ o ∷ []) i) c e)) [
      | inl h ↦ inl (ap the_call h)
      | inr h ↦ (let k = one_only o h.0 (Some c) h.2 in inr ((let a = h.1 in let b = k.0 in omega arith), k.1))
    ]

pub call_at-last : (cs : List (Option CallPlace)) (o : Option CallPlace) → call_at (cs ++ o ∷ []) (suc (length cs)) ≡ o
call_at-last [] o = refl
call_at-last (c ∷ cs) o = call_at-last cs o

pub In-tagged : (m n : Member) (x : PartMark) (xs : List PartMark) → In (record { member = m; what = x }) (tagged n xs) → (m ≡ n) × In x xs
In-tagged m n x [] i = absurd i
In-tagged m n x (y ∷ xs) i =
    let more = In-tagged m n x xs in
    elim i [
      | inl e ↦ (ap (λ (z : TraceMark). z.member) e, inl (ap (λ (z : TraceMark). z.what) e))
      | inr j ↦ (let h = more j in (h.0, inr h.1))
    ]

-- ---- what a line asks

pub asked_none : (e : WorldEvent) (error : WorldError) → asked_by e (Err error) ≡ []
asked_none (lines.Call number m key least chain) error = refl
asked_none e error = refl

-- a call that a part took is made by its line
pub asked_taken : (number : ℕ) (m : Member) (key : ActorKey) (least : ℕ) (chain : Option (List ℕ)) (n : ℕ) (reply : PartReply) (c : CallPlace) → place_of_call n reply ≡ Some c
    → asked_by (lines.Call number m key least chain) (Ok (call_outcome number reply)) ≡ record { number = number; member = m; key = key; chain = chain } ∷ []
asked_taken number m key least chain n (replies.Begun call x) c e = refl
asked_taken number m key least chain n (replies.Waits call x) c e = refl
asked_taken number m key least chain n reply c e = absurd (cc)

-- and no line makes another call than its own
pub asked_own : (number : ℕ) (m : Member) (key : ActorKey) (least : ℕ) (chain : Option (List ℕ)) (printed : Result Outcome WorldError) (a : AskedCall) → In a (asked_by (lines.Call number m key least chain) printed)
    → a ≡ record { number = number; member = m; key = key; chain = chain }
asked_own number m key least chain (Ok (out.Turn (turn.Begun n))) a i = elim i [ inl e ↦ e | inr j ↦ absurd j ]
asked_own number m key least chain (Ok (out.Turn (turn.Waits n place))) a i = elim i [ inl e ↦ e | inr j ↦ absurd j ]
asked_own number m key least chain printed a i = absurd i
