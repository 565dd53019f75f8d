-- A batch and the appends of its payloads in turn.
use Rattle.std.proofs.Common.{◌≡◌, ◌≤◌, ℕ, ◌+◌, Bool, true, false, cond, List, [], ◌∷◌, length, Option, Some, None, Ok, Err, refl, sym, ◌∙◌, ap, arith, length-append}
use Rattle.std.specs.Prelude.{nat_lt, ◌==◌}
use Rattle.std.proofs.lemmas.Bool.{le-ltb}
use Rattle.tx_journal.specs.declared.error.JournalError.TheVariants.{DiskFault, Damaged, TooLong, Full, Reopen, NotStarted, OneDisk, Spent, OutOfMemory}
use Rattle.tx_journal.specs.File.{longest, most_bytes, framed, records, IsShort}
use Rattle.tx_journal.specs.Pair.{first_generation}
use Rattle.tx_journal.specs.Calls.{JournalState, append_refusal, generation_with, Appends}
use Rattle.tx_journal.specs.Batches.{batch_refusal, generation_with_all, behind, behind_each, AppendsAll}
use Rattle.tx_journal.specs.Runs.{Answer, AppendMoves, AppendAllMoves}
use Rattle.tx_journal.proofs.Files.{length-framed}
use Rattle.tx_journal.proofs.Grows.{nine_test, one_generation, one_length}

-- after a first payload the file is longer than nine bytes, so that no later one can give it its Generation
later_generation : (end : ℕ) (generation : Option ℕ) (batch : List (List ℕ)) → 9 ≤ end → (size : ℕ) → 1 ≤ size → (payload : List ℕ) → generation_with_all (end + size) (generation_with end generation payload) batch ≡ generation_with end generation payload
later_generation end (Some n) batch long size some payload = refl
later_generation end None batch long size some payload = go (generation_with end None payload)
  where
    go : (g : Option ℕ) → generation_with_all (end + size) g batch ≡ g
    go (Some n) = refl
    go None = ap (λ (b : Bool). cond b (first_generation batch) None) (nine_test (end + size) (λ nine. omega (arith, nine, long, some)))

more_generation : (end : ℕ) (generation : Option ℕ) (payload : List ℕ) (batch : List (List ℕ)) → generation_with_all end generation (payload ∷ batch) ≡ generation_with end generation payload
more_generation end None payload batch = refl
more_generation end (Some n) payload batch = refl

more_length : (payload : List ℕ) (batch : List (List ℕ)) → length (records (payload ∷ batch)) ≡ 5 + length payload + length (records batch)
more_length payload batch = omega (arith, length-append (framed payload) (records batch), length-framed payload)

no_generation : (end : ℕ) (generation : Option ℕ) → generation_with_all end generation [] ≡ generation
no_generation end None = go (end == 9)
  where
    go : (b : Bool) → cond b (first_generation []) None ≡ None
    go true = refl
    go false = refl
no_generation end (Some n) = refl

pub in_turn : (payloads : List (List ℕ)) (j : JournalState) → 9 ≤ j.end → behind payloads j ≡ behind_each payloads j
in_turn [] j long =
    let size : j.end + 0 ≡ j.end = omega arith in
    ap (λ (g : Option ℕ). record j { end = j.end + 0; generation = g }) (no_generation j.end j.generation) ∙ ap (λ (k : ℕ). record j { end = k; generation = j.generation }) size
in_turn (payload ∷ payloads) j long =
    let next = record j { end = j.end + 5 + length payload; generation = generation_with j.end j.generation payload } in
    let size : j.end + length (records (payload ∷ payloads)) ≡ j.end + 5 + length payload + length (records payloads) = omega (arith, more_length payload payloads) in
    let place : j.end + (5 + length payload) ≡ j.end + 5 + length payload = omega arith in
    let number : generation_with_all j.end j.generation (payload ∷ payloads) ≡ generation_with_all (j.end + 5 + length payload) (generation_with j.end j.generation payload) payloads =
    more_generation j.end j.generation payload payloads ∙ sym (later_generation j.end j.generation payloads long (5 + length payload) (omega arith) payload) ∙ ap (λ (k : ℕ). generation_with_all k (generation_with j.end j.generation payload) payloads) place in
    ap (λ (k : ℕ). record j { end = k; generation = generation_with_all j.end j.generation (payload ∷ payloads) }) size
    ∙ ap (λ (g : Option ℕ). record j { end = j.end + 5 + length payload + length (records payloads); generation = g }) number
    ∙ in_turn payloads next (omega (arith, long))

-- an append of one payload is refused as a batch of it is
one_refusal : (payload : List ℕ) (j : JournalState) → IsShort payload → append_refusal j payload ≡ batch_refusal j (payload ∷ [])
one_refusal payload j short =
    let fits : nat_lt longest (length payload) ≡ false = le-ltb _ _ short in
    let size : j.end + 5 + length payload ≡ j.end + length (records (payload ∷ [])) = omega (arith, one_length payload) in
    ap (λ (b : Bool). cond j.is_broken (Some Reopen) (cond b (Some (TooLong (length payload))) (cond (nat_lt most_bytes (j.end + 5 + length payload)) (Some (Full j.end)) None))) fits
    ∙ ap (λ (k : ℕ). cond j.is_broken (Some Reopen) (cond (nat_lt most_bytes k) (Some (Full j.end)) None)) size

one_taken : (payload : List ℕ) (answer : Answer) (old new : JournalState) → AppendsAll (payload ∷ []) answer old new → Appends payload answer old new
one_taken payload (Ok x) old new appends =
    let size : old.end + length (records (payload ∷ [])) ≡ old.end + 5 + length payload = omega (arith, one_length payload) in (
      appends.0
          ∙ ap (λ (k : ℕ). record old { live = new.live; end = k; generation = generation_with_all old.end old.generation (payload ∷ []); staged = None }) size
          ∙ ap (λ (g : Option ℕ). record old { live = new.live; end = old.end + 5 + length payload; generation = g; staged = None }) (one_generation old.end old.generation payload),
      appends.1,
    )
one_taken payload (Err DiskFault) old new appends = appends
one_taken payload (Err (Damaged offset)) old new appends = appends
one_taken payload (Err (TooLong n)) old new appends = appends
one_taken payload (Err (Full len)) old new appends = appends
one_taken payload (Err Reopen) old new appends = appends
one_taken payload (Err NotStarted) old new appends = appends
one_taken payload (Err OneDisk) old new appends = appends
one_taken payload (Err (Spent count)) old new appends = appends
one_taken payload (Err OutOfMemory) old new appends = appends

pub one : (payload : List ℕ) (answer : Answer) (old new : JournalState) → IsShort payload → AppendAllMoves (payload ∷ []) answer old new → AppendMoves payload answer old new
one payload answer old new short moves = record {
  refused = λ e is. moves.refused e (sym (one_refusal payload old short) ∙ is);
  taken = λ is. one_taken payload answer old new (moves.taken (sym (one_refusal payload old short) ∙ is));
  crash = moves.crash;
  done = moves.done;
}
