-- A byte means the kind that has it.
use Rattle.std.proofs.Common.{◌≡◌, ℕ, Bool, true, false, cond, List, [], ◌∷◌, Option, Some, None, option_map, refl, sym, subst, ◌∙◌}
use Rattle.std.specs.Prelude.{◌==◌}
use Rattle.std.proofs.lemmas.Bool.{eqb-true}
use Rattle.wire_fields.specs.Fields.{row_of}
use Rattle.frame_wire.specs.declared.kind.Kind.{Kind}
use Rattle.frame_wire.specs.declared.kind.Kind.TheVariants as kind
use Rattle.frame_wire.specs.declared.store_kind.CommandKind.{CommandKind}
use Rattle.frame_wire.specs.declared.store_kind.CommandKind.TheVariants as commands
use Rattle.frame_wire.specs.declared.store_kind.AnswerKind.{AnswerKind}
use Rattle.frame_wire.specs.declared.store_kind.AnswerKind.TheVariants as answers
use Rattle.frame_wire.specs.Kinds.{kinds, command_kinds, answer_kinds, command_kind_of, answer_kind_of, first_of, store_kind_of, kind_of, command_byte, answer_byte, byte_of}

abbrev AllRows : {X : Type 0} → (ℕ → X → Type 0) → List (ℕ × X) → Type 0
AllRows P [] = Unit {0}
AllRows P (r ∷ rs) = P r.0 r.1 × AllRows P rs

pub some_is : {A : Type 0} (x y : A) → Some x ≡ Some y → x ≡ y
some_is x y e = cc

found_row : {X : Type 0} (P : ℕ → X → Type 0) (t k : ℕ) (b : Bool) (first : X) (others : Option X) (x : X) → (t == k) ≡ b → P k first → (others ≡ Some x → P t x) → cond b (Some first) others ≡ Some x → P t x
found_row {X = X} P t k true first others x is p more e = subst (λ (q : X). P t q) (some_is first x e) (subst (λ (n : ℕ). P n first) (sym (eqb-true t k is)) p)
found_row P t k false first others x is p more e = more e

row_of-all : {X : Type 0} (P : ℕ → X → Type 0) (rows : List (ℕ × X)) → AllRows P rows → (t : ℕ) (x : X) → row_of rows t ≡ Some x → P t x
row_of-all P [] all t x e = absurd cc
row_of-all P (r ∷ rs) all t x e = found_row P t r.0 (t == r.0) r.1 (row_of rs t) x refl all.0 (λ found. row_of-all P rs all.1 t x found) e

-- ---- the kinds of the store

abbrev HasCommandByte : ℕ → CommandKind → Type 0
HasCommandByte t k = command_byte k ≡ t

abbrev HasAnswerByte : ℕ → AnswerKind → Type 0
HasAnswerByte t k = answer_byte k ≡ t

command_bytes : AllRows HasCommandByte command_kinds
command_bytes = (refl, (refl, (refl, (refl, (refl, (refl, (refl, (refl, tt))))))))

answer_bytes : AllRows HasAnswerByte answer_kinds
answer_bytes = (refl, (refl, (refl, (refl, (refl, (refl, (refl, (refl, tt))))))))

pub command_kind_of-byte : (t : ℕ) (k : CommandKind) → command_kind_of t ≡ Some k → command_byte k ≡ t
unfolding command_kind_of
command_kind_of-byte t k e = row_of-all HasCommandByte command_kinds command_bytes t k e

answer_kind_of-byte : (t : ℕ) (k : AnswerKind) → answer_kind_of t ≡ Some k → answer_byte k ≡ t
unfolding answer_kind_of
answer_kind_of-byte t k e = row_of-all HasAnswerByte answer_kinds answer_bytes t k e

pub byte_of-command : (k : CommandKind) → command_kind_of (command_byte k) ≡ Some k
unfolding command_kind_of
byte_of-command commands.Boot = refl
byte_of-command commands.Tx = refl
byte_of-command commands.Get = refl
byte_of-command commands.PutReminder = refl
byte_of-command commands.GetReminder = refl
byte_of-command commands.DeleteReminder = refl
byte_of-command commands.Due = refl
byte_of-command commands.Fired = refl

-- ---- all kinds

abbrev HasByte : ℕ → Kind → Type 0
HasByte t k = byte_of k ≡ t

all_bytes : AllRows HasByte kinds
all_bytes = (refl, (refl, (refl, (refl, (refl, (refl, (refl, (refl, (refl, (refl, (refl, (refl, (refl, (refl, (refl, (refl, tt))))))))))))))))

store_byte : (t : ℕ) (asked : Option CommandKind) (answered : Option AnswerKind) (k : Kind) → command_kind_of t ≡ asked → answer_kind_of t ≡ answered → first_of (option_map (λ c. kind.Command c) asked) (option_map (λ a. kind.Answer a) answered) ≡ Some k → byte_of k ≡ t
store_byte t (Some c) answered k is other e = subst (λ (j : Kind). byte_of j ≡ t) (some_is (kind.Command c) k e) (command_kind_of-byte t c is)
store_byte t None (Some a) k is other e = subst (λ (j : Kind). byte_of j ≡ t) (some_is (kind.Answer a) k e) (answer_kind_of-byte t a other)
store_byte t None None k is other e = absurd cc

first_byte : (t : ℕ) (found : Option Kind) (k : Kind) → row_of kinds t ≡ found → first_of found (store_kind_of t) ≡ Some k → byte_of k ≡ t
first_byte t (Some j) k is e = row_of-all HasByte kinds all_bytes t k (is ∙ e)
first_byte t None k is e = store_byte t (command_kind_of t) (answer_kind_of t) k refl refl e

pub kind_of-byte : (t : ℕ) (k : Kind) → kind_of t ≡ Some k → byte_of k ≡ t
unfolding kind_of
kind_of-byte t k e = first_byte t (row_of kinds t) k refl e

pub byte_of-kind : (k : Kind) → kind_of (byte_of k) ≡ Some k
unfolding kind_of command_kind_of answer_kind_of
byte_of-kind kind.Register = refl
byte_of-kind kind.Beat = refl
byte_of-kind kind.Ack = refl
byte_of-kind kind.Leave = refl
byte_of-kind kind.Lock = refl
byte_of-kind kind.Update = refl
byte_of-kind kind.Unlock = refl
byte_of-kind kind.Idle = refl
byte_of-kind kind.Refused = refl
byte_of-kind kind.Gone = refl
byte_of-kind kind.FencedTx = refl
byte_of-kind kind.MirrorWrite = refl
byte_of-kind kind.MirrorCut = refl
byte_of-kind kind.MirrorSync = refl
byte_of-kind kind.MirrorDone = refl
byte_of-kind kind.MirrorFault = refl
byte_of-kind (kind.Command commands.Boot) = refl
byte_of-kind (kind.Command commands.Tx) = refl
byte_of-kind (kind.Command commands.Get) = refl
byte_of-kind (kind.Command commands.PutReminder) = refl
byte_of-kind (kind.Command commands.GetReminder) = refl
byte_of-kind (kind.Command commands.DeleteReminder) = refl
byte_of-kind (kind.Command commands.Due) = refl
byte_of-kind (kind.Command commands.Fired) = refl
byte_of-kind (kind.Answer answers.Booted) = refl
byte_of-kind (kind.Answer answers.Done) = refl
byte_of-kind (kind.Answer answers.Value) = refl
byte_of-kind (kind.Answer answers.NotThere) = refl
byte_of-kind (kind.Answer answers.ReminderIs) = refl
byte_of-kind (kind.Answer answers.DueList) = refl
byte_of-kind (kind.Answer answers.NextIs) = refl
byte_of-kind (kind.Answer answers.Refused) = refl
