-- A command of a list, what is asked next, and a whole list.
use Rattle.std.proofs.Common.{append_assoc, ◌≡◌, ◌⊎◌, inl, inr, ℕ, suc, ◌≤◌, Bool, true, false, List, [], ◌∷◌, ◌++◌, length, Option, Some, None, refl, sym, ◌∙◌, ap, subst, arith}
use Rattle.std.specs.Prelude.{map}
use Rattle.frame_wire.specs.declared.store_answer.StoreAnswer.{StoreAnswer}
use Rattle.frame_wire.specs.declared.store_answer.StoreAnswer.TheVariants.{Refused}
use Rattle.frame_wire.specs.declared.store_refusal.StoreRefusal.{StoreRefusal}
use Rattle.frame_wire.specs.declared.store_refusal.StoreRefusal.TheVariants as refusals
use Rattle.store_tables.specs.Tables.{Tables, TablesState, Accepted}
use Rattle.store_tables.specs.Contents.{Timed, outcome_of}
use Rattle.store_payloads.specs.Payloads.{command_payload}
use Rattle.store_payloads.specs.Laws.{MayCome}
use Rattle.store_payloads.specs.Fits.{TablesFit}
use Rattle.tx_journal.specs.declared.error.JournalError.{JournalError}
use Rattle.tx_journal.specs.Batches.{stage_refusal}
use Rattle.tx_journal.specs.Calls.{JournalState}
use Rattle.store_core.specs.declared.guard.Guarded.TheVariants as decisions
use Rattle.store_core.specs.declared.store.list.Foreseen.TheVariants as foreseens
use Rattle.store_core.specs.Store.{StoreState, IsCurrent, IsWhole, refusal_by}
use Rattle.store_core.specs.Lists.{Rules, Guards, InTurn, Foresees, Decides, MovesEach, MovesAll, AnswersAll}
use Rattle.store_core.specs.Listings.{IsForeseen, MayPut, IsUnderWay, GoesOn, AnswersEach, AnswersNext, first_with, IsLeftOut, Stages, AnswersCommand}
use Rattle.store_core.proofs.Listed.{none_behind}
use Rattle.store_core.proofs.Ahead.{unbroken_stage, foresees_told, foresees_refused, foresees_broken, guards_passed, guards_refused, guards_ran_out}
use Rattle.store_core.proofs.Joining.{map_last, ahead_works, ahead_refusal, told_more, joined_more}

pub length_map : {X Y : Type 0} (f : X → Y) (xs : List X) → length xs ≡ length (map f xs)
length_map f [] = refl
length_map f (x ∷ xs) = ap (λ n. suc n) (length_map f xs)

pub none_of : {X : Type 0} (xs : List X) → length xs ≡ 0 → xs ≡ []
none_of [] is = refl
none_of (x ∷ xs) is = absurd (omega (arith, is))

-- a batch that may be put may be put where there are more answers
pub may_put_more : (first : Option ℕ) (payloads : List (List ℕ)) (j : JournalState) (n m : ℕ) → n ≤ m → MayPut first payloads j n → MayPut first payloads j m
may_put_more None payloads j n m le may = may
may_put_more (Some first) payloads j n m le may = (omega (arith, le, may.0), may.1)

module _ {A B : Type 0} (rules : Rules A B) where
  abbrev asked_of : A × B → A
  asked_of entry = entry.0

  abbrev answer_of : A × B → B
  answer_of entry = entry.1

  -- an answer that joins no batch is the last one
  told_next :
      (j : JournalState) (t : Tables) (payloads : List (List ℕ)) (first : Option ℕ) (answers : List B) (asked : A) (answer : B)
      → ((s : StoreState) → s.contents ≡ t → s.journal.is_broken ≡ j.is_broken → Guards rules s asked answer [] s) → AnswersNext rules asked answers j t payloads first (answers ++ answer ∷ []) j t payloads first
  told_next j t payloads first answers asked answer guarded = λ old answered are u. (
    answered ++ (asked, answer) ∷ [],
    map_last asked_of answered (asked, answer),
    map_last answer_of answered (asked, answer) ∙ ap (λ (l : List B). l ++ answer ∷ []) are,
    told_more rules old answered j t payloads first asked answer u (guarded u.ahead (sym u.tables_is) (ahead_works rules old answered j t payloads first u)),
  )

  -- ---- a command that the guard passed

  -- it is answered at once
  pub command_told :
      (c : Timed) (given : StoreAnswer) (answers : List B) (j : JournalState) (t : Tables) (payloads : List (List ℕ)) (first : Option ℕ) (after : TablesState) → IsForeseen j.is_broken c t (foreseens.Told given) after
      → AnswersCommand rules c given answers j t payloads first answers j t payloads first
  command_told c given answers j t payloads first after foreseen = λ asked is passes.
      told_next j t payloads first answers asked (rules.told given)
      (λ s same works. guards_passed rules s asked given [] s (passes s same works) (subst (λ (x : Timed). Foresees s x given [] s) (sym is) (foresees_told s c given j.is_broken t after works same foreseen)))

  -- a guard answers in place of a store that met a fault only as that does
  abbrev pub Reopens : Type 0
  Reopens = (asked : A) (s t : StoreState) → rules.refusal asked s ≡ None → t.contents ≡ s.contents → t.journal.is_broken ≡ true → (rules.refusal asked t ≡ None) ⊎ (rules.refusal asked t ≡ Some (rules.told (Refused refusals.Reopen)))

  module _ (c : Timed) (given : StoreAnswer) (after t : Tables) (answers answers_after : List B) (j k : JournalState) (payloads payloads_after : List (List ℕ)) (first first_after : Option ℕ) (works : j.is_broken ≡ false) (accepted : outcome_of t c ≡ Accepted given after) where
    -- its payload is in the batch
    pub command_joined :
        MayCome c → TablesFit after → Stages rules (command_payload c) None t answers j payloads first answers_after k payloads_after first_after
        → AnswersCommand rules c given answers j t payloads first answers_after k after payloads_after first_after
    command_joined may fits stages = λ asked is passes old answered are u.
        let on = stages.2 old answered are u in
        let free = stages.3 in
        let v = on.3 in
        let unbroken : k.is_broken ≡ j.is_broken = unbroken_stage k stages.0 (command_payload c) free ∙ sym works in
        let none : rules.refusal asked v.ahead ≡ None = passes v.ahead (sym v.tables_is) (ahead_works rules old on.0 k t stages.0 stages.1 v ∙ unbroken) in
        let same : command_payload (rules.given asked) ≡ command_payload c = ap command_payload is in
        let more = joined_more rules old on.0 k t stages.0 asked given after (ap (λ (x : Timed). outcome_of t x) is ∙ accepted) (ap (λ p. stage_refusal k stages.0 p) same ∙ free) (subst MayCome (sym is) may) fits stages.1 v none in
        let at : first_with stages.1 (length on.0) ≡ first_after = ap (λ n. first_with stages.1 n) (length_map answer_of on.0 ∙ ap (λ (l : List B). length l) on.2) ∙ sym stages.5 in
        let payloads_are : stages.0 ++ command_payload (rules.given asked) ∷ [] ≡ payloads_after = ap (λ p. stages.0 ++ p ∷ []) same ∙ sym stages.4 in
        let next : List (A × B) = on.0 ++ (asked, rules.told given) ∷ [] in (
          next,
          map_last asked_of on.0 (asked, rules.told given) ∙ ap (λ (l : List A). l ++ asked ∷ []) on.1,
          map_last answer_of on.0 (asked, rules.told given) ∙ ap (λ (l : List B). l ++ rules.told given ∷ []) on.2,
          subst (λ f. IsUnderWay rules old next k after payloads_after f) at (subst (λ ps. IsUnderWay rules old next k after ps (first_with stages.1 (length on.0))) payloads_are more),
        )

    -- it is refused for its length, or for that of the file, or the disk failed before
    left_out :
        (refusal : StoreRefusal) → Reopens → (asked : A) → rules.given asked ≡ c → ((s : StoreState) → s.contents ≡ t → s.journal.is_broken ≡ j.is_broken → rules.refusal asked s ≡ None)
        → (old : StoreState) (next : List (A × B)) (v : IsUnderWay rules old next k t payloads_after first_after) → IsLeftOut rules (command_payload c) refusal k payloads_after → Guards rules v.ahead asked (rules.told (Refused refusal)) [] v.ahead
    left_out refusal reopens asked is passes old next v left = elim left [
      | inl error ↦
          let unbroken : v.ahead.journal.is_broken ≡ false = ahead_works rules old next k t payloads_after first_after v ∙ error.1 in
          let none : rules.refusal asked v.ahead ≡ None = passes v.ahead (sym v.tables_is) (unbroken ∙ sym works) in
          let there : outcome_of v.ahead.contents c ≡ Accepted given after = ap (λ (x : Tables). outcome_of x c) (sym v.tables_is) ∙ accepted in
          let foresees : Foresees v.ahead c (Refused (refusal_by error.0)) [] v.ahead = foresees_refused v.ahead c given after error.0 there unbroken (ahead_refusal rules old next k t payloads_after first_after v (command_payload c) ∙ error.2) in
          let here : Foresees v.ahead (rules.given asked) (Refused refusal) [] v.ahead =
          subst (λ (x : Timed). Foresees v.ahead x (Refused refusal) [] v.ahead) (sym is) (subst (λ r. Foresees v.ahead c (Refused r) [] v.ahead) (sym error.3) foresees) in
          guards_passed rules v.ahead asked (Refused refusal) [] v.ahead none here
      | inr failed ↦
          let before : StoreState = record { contents = t; journal = j } in
          let broken : v.ahead.journal.is_broken ≡ true = ahead_works rules old next k t payloads_after first_after v ∙ failed.1 in
          let answer : Guards rules v.ahead asked (rules.told (Refused refusals.Reopen)) [] v.ahead =
          elim (reopens asked before v.ahead (passes before refl refl) (sym v.tables_is) broken) [
            | inl none ↦ guards_passed rules v.ahead asked (Refused refusals.Reopen) [] v.ahead none (foresees_broken v.ahead (rules.given asked) broken)
            | inr told ↦ guards_refused rules v.ahead asked (rules.told (Refused refusals.Reopen)) told
          ] in
          subst (λ r. Guards rules v.ahead asked (rules.told (Refused r)) [] v.ahead) (sym failed.0) answer
    ]

    pub command_left_out :
        (refusal : StoreRefusal) → Reopens → Stages rules (command_payload c) (Some refusal) t answers j payloads first answers_after k payloads_after first_after
        → AnswersCommand rules c (Refused refusal) answers j t payloads first answers_after k t payloads_after first_after
    command_left_out refusal reopens stages = λ asked is passes old answered are u.
        let on = stages.0 old answered are u in
        let answer : B = rules.told (Refused refusal) in
        let guards = left_out refusal reopens asked is passes old on.0 on.3 stages.1 in (
          on.0 ++ (asked, answer) ∷ [],
          map_last asked_of on.0 (asked, answer) ∙ ap (λ (l : List A). l ++ asked ∷ []) on.1,
          map_last answer_of on.0 (asked, answer) ∙ ap (λ (l : List B). l ++ answer ∷ []) on.2,
          told_more rules old on.0 k t payloads_after first_after asked answer on.3 guards,
        )

  -- ---- what is asked next

  -- the guard answers it
  pub next_told :
      (fits : B → Type 0) (asked : A) (answer : B) (answers : List B) (j : JournalState) (t : Tables) (payloads : List (List ℕ)) (first : Option ℕ)
      → ((s : StoreState) → s.contents ≡ t → s.journal.is_broken ≡ j.is_broken → Decides rules fits s asked (decisions.Answer answer)) → AnswersNext rules asked answers j t payloads first (answers ++ answer ∷ []) j t payloads first
  next_told fits asked answer answers j t payloads first decides = told_next j t payloads first answers asked answer
      (λ s same works.
      elim (decides s same works).1 [
        | inl ran ↦ guards_ran_out rules s asked answer ran.0 ran.1
        | inr is ↦ guards_refused rules s asked answer is
      ])

  -- ---- a list

  -- nothing is asked
  pub each_none : (answers : List B) (j : JournalState) (t : Tables) (payloads : List (List ℕ)) (first : Option ℕ) → AnswersEach rules [] answers j t payloads first answers j t payloads first
  each_none answers j t payloads first = λ old answered are u. (answered, sym (none_behind (map asked_of answered)), are, u)

  -- one more is asked
  pub each_next :
      (done : List A) (asked : A) (answers mid_answers last_answers : List B) (j k l : JournalState) (t u v : Tables) (payloads mid_payloads last_payloads : List (List ℕ)) (first mid_first last_first : Option ℕ)
      → AnswersEach rules done answers j t payloads first mid_answers k u mid_payloads mid_first → AnswersNext rules asked mid_answers k u mid_payloads mid_first last_answers l v last_payloads last_first
      → AnswersEach rules (done ++ asked ∷ []) answers j t payloads first last_answers l v last_payloads last_first
  each_next done asked answers mid_answers last_answers j k l t u v payloads mid_payloads last_payloads first mid_first last_first each next = λ old answered are way.
      let on = each old answered are way in
      let end = next old on.0 on.2 on.3 in (
        end.0,
        end.1 ∙ ap (λ (l : List A). l ++ asked ∷ []) on.1 ∙ append_assoc (map asked_of answered) done (asked ∷ []),
        end.2,
        end.3,
      )

  -- one that begins
  pub begun : (s : StoreState) → IsWhole s.journal s.contents → IsUnderWay rules s [] s.journal s.contents [] None
  begun s whole = record {
    batches = [];
    before = [];
    base = s;
    moves = (refl, refl);
    foreseen = [];
    taken = [];
    ahead = s;
    in_turn = (refl, refl);
    answered_is = refl;
    journal_is = refl;
    tables_is = refl;
    payloads_are = refl;
    waits = (refl, refl);
    may = tt;
    current = whole.current;
    fits = whole.fits;
    paired = whole.paired;
  }

  -- the store where no answer waits for a batch
  module _ (old : StoreState) (answered : List (A × B)) (j : JournalState) (t : Tables) (payloads : List (List ℕ)) (u : IsUnderWay rules old answered j t payloads None) where
    came_to : u.ahead ≡ u.base
    came_to =
        let turn : InTurn rules u.base [] [] u.ahead =
        subst (λ (l : List Timed). InTurn rules u.base [] l u.ahead) u.waits.1 (subst (λ (l : List (A × B)). InTurn rules u.base l u.taken u.ahead) u.waits.0 u.in_turn) in
        turn.1

    rested : record { contents = t; journal = j } ≡ u.base
    rested =
        let contents : t ≡ u.base.contents = u.tables_is ∙ ap (λ (s : StoreState). s.contents) came_to in
        ap (λ (x : Tables). record { contents = x; journal = j }) contents ∙ ap (λ (x : JournalState). record { contents = u.base.contents; journal = x }) u.journal_is

    -- all batches are on the disk
    pub ended_moves : MovesAll rules old answered (record { contents = t; journal = j })
    ended_moves =
        let whole : answered ≡ u.before = u.answered_is ∙ ap (λ (l : List (A × B)). u.before ++ l) u.waits.0 ∙ none_behind u.before in
        (u.batches, subst (λ (s : StoreState). MovesEach rules old u.batches answered s) (sym rested) (subst (λ (l : List (A × B)). MovesEach rules old u.batches l u.base) (sym whole) u.moves))

    pub ended_whole : IsWhole j t
    ended_whole = record { current = subst (λ (s : StoreState). IsCurrent s.journal s.contents) (sym rested) u.current; fits = u.fits; paired = u.paired }

  -- a list whose last batch is on the disk, or failed
  module _ (s : StoreState) (whole : IsWhole s.journal s.contents) (asked : List A) (given mid answers : List B) (j k : JournalState) (t : Tables) (before payloads after : List (List ℕ)) (first last : Option ℕ)
      (no_answers : given ≡ []) (empty : before ≡ []) (emptied : after ≡ []) (none_waits : last ≡ None)
      (each : AnswersEach rules asked given s.journal s.contents before None mid j t payloads first) (put : GoesOn rules mid j t payloads first answers k after last) where
    list_ended : (next : List (A × B)) × (map asked_of next ≡ asked) × (map answer_of next ≡ answers) × IsUnderWay rules s next k t [] None
    list_ended =
        let on = each s [] (sym no_answers) (subst (λ ps. IsUnderWay rules s [] s.journal s.contents ps None) (sym empty) (begun s whole)) in
        let end = put s on.0 on.2 on.3 in
        (end.0, end.1 ∙ on.1, end.2, subst (λ f. IsUnderWay rules s end.0 k t [] f) none_waits (subst (λ ps. IsUnderWay rules s end.0 k t ps last) emptied end.3))

    pub list_answers : AnswersAll rules s asked answers (record { contents = t; journal = k })
    list_answers = (list_ended.0, list_ended.1, list_ended.2, ended_moves s list_ended.0 k t [] list_ended.3)

    pub list_whole : IsWhole k t
    list_whole = ended_whole s list_ended.0 k t [] list_ended.3
