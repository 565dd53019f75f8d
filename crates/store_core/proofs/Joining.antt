-- A list under way with one answer more.
use Rattle.std.proofs.Common.{append_assoc, ◌≡◌, ◌⊎◌, inl, inr, ℕ, Bool, true, false, List, [], ◌∷◌, ◌++◌, length, Option, Some, None, refl, sym, ◌∙◌, ap, subst}
use Rattle.std.specs.Prelude.{map}
use Rattle.std.specs.List.{AllByRecursion}
use Rattle.lists_and_limits.proofs.Each.{each_append}
use Rattle.frame_wire.specs.declared.store_answer.StoreAnswer.{StoreAnswer}
use Rattle.store_tables.specs.Tables.{Tables, Accepted}
use Rattle.store_tables.specs.Contents.{Timed, outcome_of}
use Rattle.store_payloads.specs.Payloads.{command_payload}
use Rattle.store_payloads.specs.Laws.{MayCome}
use Rattle.store_payloads.specs.Fits.{TablesFit}
use Rattle.tx_journal.specs.Batches.{stage_refusal}
use Rattle.tx_journal.specs.Calls.{JournalState, append_refusal}
use Rattle.store_core.specs.Store.{StoreState}
use Rattle.store_core.specs.Lists.{ahead_by, Rules, Guards, InTurn, Begins, MovesBatch, MovesEach}
use Rattle.store_core.specs.Listings.{IsUnderWay, first_with}
use Rattle.store_core.proofs.Listed.{none_behind, each_more, in_turn_more, begins_more}
use Rattle.store_core.proofs.Chains.{chain_of}
use Rattle.store_core.proofs.Ahead.{longer_keeps, refusal_ahead, unbroken_stage, leaves_current, foresees_joined, guards_passed, in_turn_told}

-- one more at the end
pub map_last : {X Y : Type 0} (f : X → Y) (xs : List X) (x : X) → map f (xs ++ x ∷ []) ≡ map f xs ++ f x ∷ []
map_last f [] x = refl
map_last f (y ∷ xs) x = ap (λ l. f y ∷ l) (map_last f xs x)

module _ {A B : Type 0} (rules : Rules A B) (old : StoreState) (answered : List (A × B)) (j : JournalState) (t : Tables) (payloads : List (List ℕ)) where
  -- ---- the store ahead

  -- it met a fault where the journal did
  pub ahead_works : (first : Option ℕ) (u : IsUnderWay rules old answered j t payloads first) → u.ahead.journal.is_broken ≡ j.is_broken
  ahead_works first u =
      let chain = chain_of rules u.base u.foreseen u.taken u.ahead u.in_turn in
      ap (λ (x : JournalState). x.is_broken) chain.journal ∙ longer_keeps u.taken u.base.journal ∙ ap (λ (x : JournalState). x.is_broken) (sym u.journal_is)

  -- it refuses a payload where the batch does
  pub ahead_refusal : (first : Option ℕ) (u : IsUnderWay rules old answered j t payloads first) (payload : List ℕ) → append_refusal u.ahead.journal payload ≡ stage_refusal j payloads payload
  ahead_refusal first u payload =
      let chain = chain_of rules u.base u.foreseen u.taken u.ahead u.in_turn in
      ap (λ (x : JournalState). append_refusal x payload) chain.journal
      ∙ refusal_ahead u.taken u.base.journal payload
      ∙ ap (λ (ps : List (List ℕ)). stage_refusal u.base.journal ps payload) (sym u.payloads_are)
      ∙ ap (λ (x : JournalState). stage_refusal x payloads payload) (sym u.journal_is)

  -- ---- an answer that joins no batch

  told_alone : (asked : A) (answer : B) (u : IsUnderWay rules old answered j t payloads None) → Guards rules u.ahead asked answer [] u.ahead → IsUnderWay rules old (answered ++ (asked, answer) ∷ []) j t payloads None
  told_alone asked answer u guards =
      let entry : A × B = (asked, answer) in
      let turn : InTurn rules u.base [] [] u.ahead =
      subst (λ (l : List Timed). InTurn rules u.base [] l u.ahead) u.waits.1 (subst (λ (l : List (A × B)). InTurn rules u.base l u.taken u.ahead) u.waits.0 u.in_turn) in
      let batch : MovesBatch rules u.base (entry ∷ []) u.base = record { foreseen = entry ∷ []; batch = []; ahead = u.ahead; in_turn = in_turn_told rules u.base u.ahead [] [] asked answer turn guards; ends = inl (refl, (refl, leaves_current u.base u.current)) } in
      let whole : answered ≡ u.before = u.answered_is ∙ ap (λ (l : List (A × B)). u.before ++ l) u.waits.0 ∙ none_behind u.before in
      record {
        batches = u.batches ++ (entry ∷ []) ∷ [];
        before = u.before ++ entry ∷ [];
        base = u.base;
        moves = each_more rules old u.base u.base u.batches u.before (entry ∷ []) u.moves batch;
        foreseen = [];
        taken = [];
        ahead = u.ahead;
        in_turn = turn;
        answered_is = ap (λ (l : List (A × B)). l ++ entry ∷ []) whole ∙ sym (none_behind (u.before ++ entry ∷ []));
        journal_is = u.journal_is;
        tables_is = u.tables_is;
        payloads_are = u.payloads_are ∙ ap (λ (l : List Timed). map command_payload l) u.waits.1;
        waits = (refl, refl);
        may = tt;
        current = u.current;
        fits = u.fits;
        paired = u.paired;
      }

  told_behind : (first : ℕ) (asked : A) (answer : B) (u : IsUnderWay rules old answered j t payloads (Some first)) → Guards rules u.ahead asked answer [] u.ahead → IsUnderWay rules old (answered ++ (asked, answer) ∷ []) j t payloads (Some first)
  told_behind first asked answer u guards =
      let entry : A × B = (asked, answer) in
      record {
        batches = u.batches;
        before = u.before;
        base = u.base;
        moves = u.moves;
        foreseen = u.foreseen ++ entry ∷ [];
        taken = u.taken;
        ahead = u.ahead;
        in_turn = in_turn_told rules u.base u.ahead u.foreseen u.taken asked answer u.in_turn guards;
        answered_is = ap (λ (l : List (A × B)). l ++ entry ∷ []) u.answered_is ∙ append_assoc u.before u.foreseen (entry ∷ []);
        journal_is = u.journal_is;
        tables_is = u.tables_is;
        payloads_are = u.payloads_are;
        waits = (u.waits.0, subst (λ (l : List Timed). Begins rules (u.foreseen ++ entry ∷ []) l) (none_behind u.taken) (begins_more rules u.foreseen u.taken [] entry u.waits.1));
        may = u.may;
        current = u.current;
        fits = u.fits;
        paired = u.paired;
      }

  -- it comes behind the others, and the batch is as it was
  pub told_more : (first : Option ℕ) (asked : A) (answer : B) (u : IsUnderWay rules old answered j t payloads first) → Guards rules u.ahead asked answer [] u.ahead → IsUnderWay rules old (answered ++ (asked, answer) ∷ []) j t payloads first
  told_more None asked answer u guards = told_alone asked answer u guards
  told_more (Some first) asked answer u guards = told_behind first asked answer u guards

  -- ---- a command that joins the batch

  module _ (asked : A) (given : StoreAnswer) (after : Tables) (is : outcome_of t (rules.given asked) ≡ Accepted given after) (free : stage_refusal j payloads (command_payload (rules.given asked)) ≡ None) (may : MayCome (rules.given asked)) (fits : TablesFit after) where
    abbrev c : Timed
    c = rules.given asked

    abbrev entry : A × B
    entry = (asked, rules.told given)

    -- the store ahead of it, and then behind it
    joined_guards :
        (first : Option ℕ) (u : IsUnderWay rules old answered j t payloads first) → rules.refusal asked u.ahead ≡ None → Guards rules u.ahead asked (rules.told given) (c ∷ []) (ahead_by (command_payload c) after u.ahead)
    joined_guards first u passes =
        let works : u.ahead.journal.is_broken ≡ false = ahead_works first u ∙ unbroken_stage j payloads (command_payload c) free in
        let there : outcome_of u.ahead.contents c ≡ Accepted given after = ap (λ (x : Tables). outcome_of x c) (sym u.tables_is) ∙ is in
        guards_passed rules u.ahead asked given (c ∷ []) (ahead_by (command_payload c) after u.ahead) passes
        (foresees_joined u.ahead c given after there works (ahead_refusal first u (command_payload c) ∙ free))

    -- the batch and the answers that wait for it are longer by this one
    joined_waiting :
        (first : Option ℕ) (at : ℕ) (u : IsUnderWay rules old answered j t payloads first) → rules.refusal asked u.ahead ≡ None
        → (at ≡ length u.before) × Begins rules (u.foreseen ++ entry ∷ []) (u.taken ++ c ∷ []) → IsUnderWay rules old (answered ++ entry ∷ []) j after (payloads ++ command_payload c ∷ []) (Some at)
    joined_waiting first at u passes waits = record {
      batches = u.batches;
      before = u.before;
      base = u.base;
      moves = u.moves;
      foreseen = u.foreseen ++ entry ∷ [];
      taken = u.taken ++ c ∷ [];
      ahead = ahead_by (command_payload c) after u.ahead;
      in_turn = in_turn_more rules u.base u.ahead (ahead_by (command_payload c) after u.ahead) u.foreseen u.taken (c ∷ []) asked (rules.told given) u.in_turn (joined_guards first u passes);
      answered_is = ap (λ (l : List (A × B)). l ++ entry ∷ []) u.answered_is ∙ append_assoc u.before u.foreseen (entry ∷ []);
      journal_is = u.journal_is;
      tables_is = refl;
      payloads_are = ap (λ (l : List (List ℕ)). l ++ command_payload c ∷ []) u.payloads_are ∙ sym (map_last command_payload u.taken c);
      waits = waits;
      may = each_append MayCome u.taken (c ∷ []) u.may (may, tt);
      current = u.current;
      fits = fits;
      paired = u.paired;
    }

    pub joined_more :
        (first : Option ℕ) (u : IsUnderWay rules old answered j t payloads first) → rules.refusal asked u.ahead ≡ None → IsUnderWay rules old (answered ++ entry ∷ []) j after (payloads ++ command_payload c ∷ []) (first_with first (length answered))
    joined_more None u passes =
        let whole : answered ≡ u.before = u.answered_is ∙ ap (λ (l : List (A × B)). u.before ++ l) u.waits.0 ∙ none_behind u.before in
        let first_one : Begins rules (entry ∷ []) (c ∷ []) = ([], refl) in
        let begins : Begins rules (u.foreseen ++ entry ∷ []) (u.taken ++ c ∷ []) =
        subst (λ (l : List (A × B)). Begins rules (l ++ entry ∷ []) (u.taken ++ c ∷ [])) (sym u.waits.0) (subst (λ (l : List Timed). Begins rules (entry ∷ []) (l ++ c ∷ [])) (sym u.waits.1) first_one) in
        joined_waiting None (length answered) u passes (ap (λ (l : List (A × B)). length l) whole, begins)
    joined_more (Some first) u passes = joined_waiting (Some first) first u passes (u.waits.0, begins_more rules u.foreseen u.taken (c ∷ []) entry u.waits.1)
