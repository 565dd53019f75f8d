-- What a command of a list is answered, by the store that is ahead of the disk.
use Rattle.std.proofs.Common.{◌≡◌, ◌⊎◌, inl, inr, ℕ, ◌+◌, Bool, true, false, List, [], ◌∷◌, ◌++◌, length, Option, Some, None, refl, sym, ◌∙◌, ap, subst, arith}
use Rattle.std.specs.Prelude.{map, nat_lt, if◌then◌else◌}
use Rattle.frame_wire.specs.declared.store_answer.StoreAnswer.{StoreAnswer}
use Rattle.frame_wire.specs.declared.store_answer.StoreAnswer.TheVariants.{Refused}
use Rattle.frame_wire.specs.declared.store_refusal.StoreRefusal.TheVariants as refusals
use Rattle.store_tables.specs.Tables.{Tables, TablesState, Outcome, Told, Accepted, told_in, TakesMemory}
use Rattle.store_tables.specs.Contents.{Timed, outcome_of}
use Rattle.store_payloads.specs.Payloads.{command_payload}
use Rattle.tx_journal.specs.declared.error.JournalError.{JournalError}
use Rattle.tx_journal.specs.declared.error.JournalError.TheVariants.{TooLong, Full, Reopen}
use Rattle.tx_journal.specs.File.{longest, most_bytes}
use Rattle.tx_journal.specs.Batches.{behind, stage_refusal}
use Rattle.tx_journal.specs.Calls.{JournalState, append_refusal}
use Rattle.tx_journal.specs.Pair.{IsJust}
use Rattle.store_core.specs.declared.store.list.Foreseen.TheVariants as foreseens
use Rattle.store_core.specs.Contents.{OpensWith}
use Rattle.store_core.specs.Store.{StoreState, IsCurrent, Leaves, refusal_by}
use Rattle.store_core.specs.Lists.{Stays, ahead_by, Joins, Comes, Foresees, Rules, Passes, Guards, InTurn}
use Rattle.store_core.specs.Listings.{IsForeseen}
use Rattle.store_core.proofs.Claims.{leaves_weaker}
use Rattle.store_core.proofs.Listed.{none_behind, in_turn_more}
use Rattle.store_core.proofs.Chains.{longer_by}
use Rattle.store_core.proofs.Putting.{longer_is}

pub clash : (b : Bool) → b ≡ true → b ≡ false → ⊥
clash b t f = let e : true ≡ false = sym t ∙ f in cc

-- a crash leaves what a store that met no fault contains
pub leaves_current : (s : StoreState) → IsCurrent s.journal s.contents → s.journal.is_broken ≡ false → Leaves s.contents s
leaves_current s current works files is =
    let held = current works files is in
    leaves_weaker (IsJust held.0) (OpensWith s.contents) files (λ r e. (held.0, e, held.2)) held.1.leaves

-- ---- the journal ahead

-- it met a fault where the one before the batch did
pub longer_keeps : (cs : List Timed) (j : JournalState) → (longer_by cs j).is_broken ≡ j.is_broken
longer_keeps [] j = refl
longer_keeps (c ∷ cs) j = longer_keeps cs (record j { end = j.end + 5 + length (command_payload c); staged = None })

-- it refuses an append where the batch refuses one more payload
pub refusal_ahead : (cs : List Timed) (j : JournalState) (payload : List ℕ) → append_refusal (longer_by cs j) payload ≡ stage_refusal j (map command_payload cs) payload
refusal_ahead [] j payload = let same : j.end ≡ j.end + 0 = omega arith in ap (λ e. append_refusal (record j { end = e }) payload) same
refusal_ahead (c ∷ cs) j payload = ap (λ (x : JournalState). append_refusal x payload) (longer_is c cs j)

-- one that met a fault refuses all
pub unbroken_stage : (j : JournalState) (payloads : List (List ℕ)) (payload : List ℕ) → stage_refusal j payloads payload ≡ None → j.is_broken ≡ false
unbroken_stage j payloads payload = go j.is_broken
  where
    go : (b : Bool) → (if b then Some Reopen else append_refusal (record (behind payloads j) { is_broken = false }) payload) ≡ None → b ≡ false
    go true is = absurd (let e : Some Reopen ≡ None = is in cc)
    go false is = refl

-- ---- one command

comes_told : (o : Outcome) (s : StoreState) (c : Timed) (answer : StoreAnswer) → told_in o ≡ Some answer → Comes o c s answer [] s
comes_told (Told given) s c answer is = let same : answer ≡ given = cc in (same, refl, refl)
comes_told (Accepted given after) s c answer is = absurd (cc)

-- what is told at once joins no batch
pub foresees_told :
    (s : StoreState) (c : Timed) (answer : StoreAnswer) (b : Bool) (t : Tables) (after : TablesState) → s.journal.is_broken ≡ b → s.contents ≡ t → IsForeseen b c t (foreseens.Told answer) after
    → Foresees s c answer [] s
foresees_told s c answer true t after broken is foreseen = record { broken = λ _. (foreseen, refl, refl); works = λ works. absurd (clash s.journal.is_broken broken works) }
foresees_told s c answer false t after works is foreseen = record {
  broken = λ broken. absurd (clash s.journal.is_broken broken works);
  works = λ _. elim foreseen [
    | inl told ↦ inr (comes_told (outcome_of s.contents c) s c answer (ap (λ (x : Tables). told_in (outcome_of x c)) is ∙ told))
    | inr ran ↦ inl (subst (λ (x : Tables). TakesMemory (outcome_of x c)) (sym is) ran.0, (ran.1, refl, refl))
  ];
}

-- one that has its memory comes to a store that met no fault
pub ready_is : (b : Bool) (c : Timed) (t : Tables) (payload : _) (prepared : _) (after : TablesState) → IsForeseen b c t (foreseens.Ready payload prepared) after → (b ≡ false) × IsForeseen false c t (foreseens.Ready payload prepared) after
ready_is true c t payload prepared after foreseen = absurd foreseen
ready_is false c t payload prepared after foreseen = (refl, foreseen)

-- an accepted one whose record is staged joins it
pub foresees_joined :
    (s : StoreState) (c : Timed) (given : StoreAnswer) (after : Tables)
    → outcome_of s.contents c ≡ Accepted given after → s.journal.is_broken ≡ false → append_refusal s.journal (command_payload c) ≡ None → Foresees s c given (c ∷ []) (ahead_by (command_payload c) after s)
foresees_joined s c given after is works free =
    let ahead : StoreState = ahead_by (command_payload c) after s in
    record {
      broken = λ broken. absurd (clash s.journal.is_broken broken works);
      works = λ _. inr (subst (λ (o : Outcome). Comes o c s given (c ∷ []) ahead) (sym is) (subst (λ r. Joins r c given after s given (c ∷ []) ahead) (sym free) (refl, refl, refl)));
    }

-- the refusal of an append, by what is tested of it
abbrev refusal_if : Bool → Bool → Bool → ℕ → ℕ → Option JournalError
refusal_if is_broken is_long is_full n len =
    if is_broken then Some Reopen
    else if is_long then Some (TooLong n)
    else if is_full then Some (Full len)
    else None

joins_refused :
    (s : StoreState) (c : Timed) (given : StoreAnswer) (after : Tables) (e : JournalError)
    → s.journal.is_broken ≡ false → append_refusal s.journal (command_payload c) ≡ Some e → Joins (append_refusal s.journal (command_payload c)) c given after s (Refused (refusal_by e)) [] s
joins_refused s c given after e = go s.journal.is_broken (nat_lt longest (length (command_payload c))) (nat_lt most_bytes (s.journal.end + 5 + length (command_payload c))) (length (command_payload c)) s.journal.end
  where
    go : (is_broken is_long is_full : Bool) (n len : ℕ) → is_broken ≡ false → refusal_if is_broken is_long is_full n len ≡ Some e → Joins (refusal_if is_broken is_long is_full n len) c given after s (Refused (refusal_by e)) [] s
    go true is_long is_full n len works is = absurd (clash true refl works)
    go false true is_full n len works is = let same : e ≡ TooLong n = cc in (ap (λ x. Refused (refusal_by x)) same, refl, refl)
    go false false true n len works is = let same : e ≡ Full len = cc in (ap (λ x. Refused (refusal_by x)) same, refl, refl)
    go false false false n len works is = absurd (let none : None ≡ Some e = is in cc)

-- one that is too long, or has no room, joins none
pub foresees_refused :
    (s : StoreState) (c : Timed) (given : StoreAnswer) (after : Tables) (e : JournalError)
    → outcome_of s.contents c ≡ Accepted given after → s.journal.is_broken ≡ false → append_refusal s.journal (command_payload c) ≡ Some e → Foresees s c (Refused (refusal_by e)) [] s
foresees_refused s c given after e is works refused = record {
  broken = λ broken. absurd (clash s.journal.is_broken broken works);
  works = λ _. inr (subst (λ (o : Outcome). Comes o c s (Refused (refusal_by e)) [] s) (sym is) (joins_refused s c given after e works refused));
}

-- and so does any once the disk failed
pub foresees_broken : (s : StoreState) (c : Timed) → s.journal.is_broken ≡ true → Foresees s c (Refused refusals.Reopen) [] s
foresees_broken s c broken = record { broken = λ _. (refl, refl, refl); works = λ works. absurd (clash s.journal.is_broken broken works) }

-- ---- what is asked

module _ {A B : Type 0} (rules : Rules A B) where
  -- a command that is passed on is answered by the store
  pub guards_passed : (s : StoreState) (asked : A) (given : StoreAnswer) (taken : List Timed) (ahead : StoreState) → rules.refusal asked s ≡ None → Foresees s (rules.given asked) given taken ahead → Guards rules s asked (rules.told given) taken ahead
  guards_passed s asked given taken ahead none foresees =
      inr (subst (λ (o : Option B). Passes rules o asked s (rules.told given) taken ahead) (sym none) (given, refl, foresees))

  -- and anything else in its place
  pub guards_refused : (s : StoreState) (asked : A) (answer : B) → rules.refusal asked s ≡ Some answer → Guards rules s asked answer [] s
  guards_refused s asked answer is = inr (subst (λ (o : Option B). Passes rules o asked s answer [] s) (sym is) (refl, refl, refl))

  pub guards_ran_out : (s : StoreState) (asked : A) (answer : B) → rules.memory asked ≡ true → answer ≡ rules.told (Refused refusals.OutOfMemory) → Guards rules s asked answer [] s
  guards_ran_out s asked answer memory is = inl (memory, (is, refl, refl))

  -- one answer more that joins no batch
  pub in_turn_told : (s ahead : StoreState) (entries : List (A × B)) (batch : List Timed) (asked : A) (answer : B) → InTurn rules s entries batch ahead → Guards rules ahead asked answer [] ahead → InTurn rules s (entries ++ (asked, answer) ∷ []) batch ahead
  in_turn_told s ahead entries batch asked answer turn guards =
      subst (λ (l : List Timed). InTurn rules s (entries ++ (asked, answer) ∷ []) l ahead) (none_behind batch) (in_turn_more rules s ahead ahead entries batch [] asked answer turn guards)
