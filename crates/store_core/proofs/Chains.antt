-- What the commands of a batch lead to.
use Rattle.std.proofs.Common.{append_assoc, ◌≡◌, ◌⊎◌, inl, inr, ℕ, ◌+◌, Bool, true, false, List, [], ◌∷◌, ◌++◌, length, Option, Some, None, refl, sym, ◌∙◌, ap, subst}
use Rattle.std.specs.Prelude.{option_and_then, map}
use Rattle.std.specs.List.{AllByRecursion}
use Rattle.frame_wire.specs.declared.store_answer.StoreAnswer.{StoreAnswer}
use Rattle.store_tables.specs.Tables.{Tables, Outcome, Told, Accepted}
use Rattle.store_tables.specs.Contents.{Timed, outcome_of, accepted_in, after_accepted}
use Rattle.store_payloads.specs.Payloads.{command_payload}
use Rattle.store_payloads.specs.Laws.{MayCome, ReadsCommands}
use Rattle.tx_journal.specs.declared.error.JournalError.{JournalError}
use Rattle.tx_journal.specs.declared.error.JournalError.TheVariants as errors
use Rattle.tx_journal.specs.declared.format.Format.TheVariants.{Two}
use Rattle.tx_journal.specs.File.{Image, image, with_payload}
use Rattle.tx_journal.specs.Batches.{with_payloads}
use Rattle.tx_journal.specs.Calls.{JournalState, append_refusal}
use Rattle.store_core.specs.Contents.{contents_of}
use Rattle.store_core.specs.Store.{StoreState}
use Rattle.store_core.specs.Lists.{ahead_by, Joins, Comes, Foresees, Rules, Passes, Guards, InTurn}
use Rattle.store_core.proofs.Foldings.{contents-more}

none_behind : {T : Type 0} (xs : List T) → xs ++ [] ≡ xs
none_behind [] = refl
none_behind (x ∷ xs) = ap (λ l. x ∷ l) (none_behind xs)

-- ---- one answer

-- a command stays out of the batch, or it is accepted and joins it
pub data Came (s : StoreState) (taken : List Timed) (ahead : StoreState) : Type 0 where
  Stood : taken ≡ [] → ahead ≡ s → Came s taken ahead
  Joined : (c : Timed) → (given : StoreAnswer) → (after : Tables) → taken ≡ c ∷ [] → outcome_of s.contents c ≡ Accepted given after → ahead ≡ ahead_by (command_payload c) after s → Came s taken ahead

module _ (s : StoreState) (c : Timed) (answer : StoreAnswer) (taken : List Timed) (ahead : StoreState) where
  joins_came : (r : Option JournalError) (given : StoreAnswer) (after : Tables) → outcome_of s.contents c ≡ Accepted given after → Joins r c given after s answer taken ahead → Came s taken ahead
  joins_came None given after is joins = Joined c given after joins.1 is joins.2
  joins_came (Some (errors.TooLong n)) given after is joins = Stood joins.1 joins.2
  joins_came (Some (errors.Full len)) given after is joins = Stood joins.1 joins.2
  joins_came (Some errors.Reopen) given after is joins = absurd joins
  joins_came (Some errors.DiskFault) given after is joins = absurd joins
  joins_came (Some (errors.Damaged offset)) given after is joins = absurd joins
  joins_came (Some errors.NotStarted) given after is joins = absurd joins
  joins_came (Some errors.OneDisk) given after is joins = absurd joins
  joins_came (Some (errors.Spent count)) given after is joins = absurd joins
  joins_came (Some errors.OutOfMemory) given after is joins = absurd joins

  comes_came : (o : Outcome) → outcome_of s.contents c ≡ o → Comes o c s answer taken ahead → Came s taken ahead
  comes_came (Told given) is comes = Stood comes.1 comes.2
  comes_came (Accepted given after) is comes = joins_came (append_refusal s.journal (command_payload c)) given after is comes

  foresees_came : Foresees s c answer taken ahead → Came s taken ahead
  foresees_came foresees = go s.journal.is_broken refl
    where
      go : (b : Bool) → s.journal.is_broken ≡ b → Came s taken ahead
      go true broken = let stays = foresees.broken broken in Stood stays.1 stays.2
      go false works = elim (foresees.works works) [
        | inl ran ↦ Stood ran.1.1 ran.1.2
        | inr comes ↦ comes_came (outcome_of s.contents c) refl comes
      ]

-- ---- a batch

-- the journal once the commands are in it
abbrev pub longer_by : List Timed → JournalState → JournalState
longer_by [] j = j
longer_by (c ∷ cs) j = longer_by cs (record j { end = j.end + 5 + length (command_payload c); staged = None })

-- the commands of a batch lead from the contents before it to those ahead, and the journal is longer by them
pub record Chain (s : StoreState) (batch : List Timed) (ahead : StoreState) : Type 0 where
  pub led : after_accepted batch s.contents ≡ Some ahead.contents
  pub journal : ahead.journal ≡ longer_by batch s.journal

chain_joined : (s mid ahead : StoreState) (c : Timed) (rest : List Timed) (given : StoreAnswer) (after : Tables) → outcome_of s.contents c ≡ Accepted given after → mid ≡ ahead_by (command_payload c) after s → Chain mid rest ahead → Chain s (c ∷ rest) ahead
chain_joined s mid ahead c rest given after is joined chain =
    let on : Chain (ahead_by (command_payload c) after s) rest ahead = subst (λ (x : StoreState). Chain x rest ahead) joined chain in
    record {
      led = ap (λ (o : Outcome). option_and_then (λ (t : Tables). after_accepted rest t) (accepted_in o)) is ∙ on.led;
      journal = on.journal;
    }

module _ {A B : Type 0} (rules : Rules A B) where
  pub guards_came : (s : StoreState) (asked : A) (answer : B) (taken : List Timed) (ahead : StoreState) → Guards rules s asked answer taken ahead → Came s taken ahead
  guards_came s asked answer taken ahead guards = elim guards [
    | inl ran ↦ Stood ran.1.1 ran.1.2
    | inr passes ↦ go (rules.refusal asked s) passes
  ]
    where
      go : (o : Option B) → Passes rules o asked s answer taken ahead → Came s taken ahead
      go (Some refused) stays = Stood stays.1 stays.2
      go None passes = foresees_came s (rules.given asked) passes.0 taken ahead passes.2

  pub chain_of : (s : StoreState) (entries : List (A × B)) (batch : List Timed) (ahead : StoreState) → InTurn rules s entries batch ahead → Chain s batch ahead
  chain_of s [] batch ahead turn = subst (λ (l : List Timed). Chain s l ahead) (sym turn.0) (record { led = ap (λ (x : StoreState). Some x.contents) (sym turn.1); journal = ap (λ (x : StoreState). x.journal) turn.1 })
  chain_of s (entry ∷ entries) batch ahead turn = go turn.1 turn.5 (guards_came s entry.0 entry.1 turn.1 turn.0 turn.3) (chain_of turn.0 entries turn.2 ahead turn.4)
    where
      go : (taken : List Timed) → batch ≡ taken ++ turn.2 → Came s taken turn.0 → Chain turn.0 turn.2 ahead → Chain s batch ahead
      go taken is (Stood none same) chain =
          let all : batch ≡ turn.2 = is ∙ ap (λ l. l ++ turn.2) none in
          subst (λ (l : List Timed). Chain s l ahead) (sym all) (subst (λ (x : StoreState). Chain x turn.2 ahead) same chain)
      go taken is (Joined c given after one o joined) chain =
          let all : batch ≡ c ∷ turn.2 = is ∙ ap (λ l. l ++ turn.2) one in
          subst (λ (l : List Timed). Chain s l ahead) (sym all) (chain_joined s turn.0 ahead c turn.2 given after o joined chain)

-- ---- contents

-- the contents of a file with the payloads of accepted commands behind its own
pub contents_all :
    (held : Image) (cs : List Timed) (t u : Tables) → ReadsCommands → AllByRecursion MayCome cs → held.format ≡ Two → contents_of held ≡ Some t → after_accepted cs t ≡ Some u
    → contents_of (with_payloads (map command_payload cs) held) ≡ Some u
contents_all held [] t u reads may two is led = ap (λ ps. contents_of (image held.format ps)) (none_behind held.payloads) ∙ is ∙ led
contents_all held (c ∷ cs) t u reads may two is led = go (outcome_of t c) refl (λ after rest there. contents_all (with_payload (command_payload c) held) cs after u reads may.1 two there rest) led
  where
    go :
        (o : Outcome) → outcome_of t c ≡ o
        → ((after : Tables) → after_accepted cs after ≡ Some u → contents_of (with_payload (command_payload c) held) ≡ Some after → contents_of (with_payloads (map command_payload cs) (with_payload (command_payload c) held)) ≡ Some u)
        → option_and_then (λ after. after_accepted cs after) (accepted_in o) ≡ Some u → contents_of (with_payloads (map command_payload (c ∷ cs)) held) ≡ Some u
    go (Told given) o more none = absurd (let e : None ≡ Some u = none in cc)
    go (Accepted given after) o more rest =
        ap (λ ps. contents_of (image held.format ps)) (sym (append_assoc held.payloads (command_payload c ∷ []) (map command_payload cs)))
        ∙ more after rest (contents-more held c t after given reads may.0 two is o)
