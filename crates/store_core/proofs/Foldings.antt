-- What one more payload leads to.
use Rattle.std.proofs.Common.{◌≡◌, ℕ, Bool, true, false, List, [], ◌∷◌, ◌++◌, length, Option, Some, None, refl, sym, ap, ◌∙◌}
use Rattle.std.specs.Prelude.{◌==◌, ◌&&◌, if◌then◌else◌, is_some}
use Rattle.std.specs.Int.{byte_at}
use Rattle.frame_wire.specs.declared.store_answer.StoreAnswer.{StoreAnswer}
use Rattle.frame_wire.specs.declared.store_command.StoreCommand.{StoreCommand}
use Rattle.frame_wire.specs.declared.store_command.StoreCommand.TheVariants.{Boot, Tx, Get, PutReminder, GetReminder, DeleteReminder, Due, Fired}
use Rattle.frame_wire.specs.Kinds.{command_byte}
use Rattle.frame_wire.specs.Store.{command, command_kind}
use Rattle.store_tables.specs.Tables.{Tables, Accepted}
use Rattle.store_tables.specs.Contents.{Timed, outcome_of}
use Rattle.store_payloads.specs.Payloads.{command_payload, payload_reading}
use Rattle.store_payloads.specs.Folds.{Folded, folded, fold_from, start, tables_in}
use Rattle.store_payloads.specs.Laws.{MayCome, ReadsCommands}
use Rattle.tx_journal.specs.declared.format.Format.{Format}
use Rattle.tx_journal.specs.declared.format.Format.TheVariants.{Two}
use Rattle.tx_journal.specs.File.{Image, with_payload, same_bytes}
use Rattle.tx_journal.specs.Calls.{generation_with}
use Rattle.tx_journal.specs.Pair.{is_generation, generation_kind, generation_in, first_generation, without_generation}
use Rattle.store_core.specs.Contents.{contents_of, contents_in, is_old}

-- ---- no payload of a command is a Generation

and-false : (a b : Bool) → b ≡ false → (a && b) ≡ false
and-false true b h = h
and-false false b h = refl

kind-apart : (c : StoreCommand) → (command_byte (command_kind c) == 128) ≡ false
kind-apart (Boot space node) = refl
kind-apart (Tx s actor ops) = refl
kind-apart (Get actor key) = refl
kind-apart (PutReminder s actor name reminder) = refl
kind-apart (GetReminder actor name) = refl
kind-apart (DeleteReminder s actor name) = refl
kind-apart (Due after limit) = refl
kind-apart (Fired s actor name moment) = refl

nine-apart : (a b c d e f g h k : ℕ) → (k == 128) ≡ false → same_bytes (a ∷ b ∷ c ∷ d ∷ e ∷ f ∷ g ∷ h ∷ k ∷ []) generation_kind ≡ false
nine-apart a b c d e f g h k apart =
    and-false (a == 0) _ (and-false (b == 0) _ (and-false (c == 0) _ (and-false (d == 0) _ (and-false (e == 0) _ (and-false (f == 0) _ (and-false (g == 0) _ (and-false (h == 0) _ (rw apart refl))))))))

pub no-generation : (c : Timed) → is_generation (command_payload c) ≡ false
unfolding command
no-generation c = and-false (length (command_payload c) == 17) _ (nine-apart (byte_at 7 c.now) (byte_at 6 c.now) (byte_at 5 c.now) (byte_at 4 c.now) (byte_at 3 c.now) (byte_at 2 c.now) (byte_at 1 c.now) (byte_at 0 c.now) (command_byte (command_kind c.command)) (kind-apart c.command))

-- the Generation stays
pub generation-same : (end : ℕ) (g : Option ℕ) (p : List ℕ) → is_generation p ≡ false → generation_with end g p ≡ g
generation-same end None p apart = go (end == 9)
  where
    go : (b : Bool) → (if b then generation_in p else None) ≡ None
    go true = rw apart refl
    go false = refl
generation-same end (Some n) p apart = refl

-- ---- folds

without-more : (ps : List (List ℕ)) (p : List ℕ) → is_generation p ≡ false → without_generation (ps ++ p ∷ []) ≡ without_generation ps ++ p ∷ []
without-more [] p h = rw h refl
without-more (x ∷ xs) p h = go (is_generation x)
  where
    go : (b : Bool) → (if b then xs ++ p ∷ [] else x ∷ xs ++ p ∷ []) ≡ (if b then xs else x ∷ xs) ++ p ∷ []
    go true = refl
    go false = refl

-- the first payload is the first one still
first-more : (ps : List (List ℕ)) (p : List ℕ) → is_generation p ≡ false → first_generation (ps ++ p ∷ []) ≡ first_generation ps
first-more [] p h = rw h refl
first-more (x ∷ xs) p h = refl

fold-nil : (o : Option Folded) → fold_from false o [] ≡ o
fold-nil None = refl
fold-nil (Some f) = refl

fold-push : (start : Option Folded) (ps : List (List ℕ)) (p : List ℕ) (f : Folded) → fold_from false start ps ≡ Some f → fold_from false start (ps ++ p ∷ []) ≡ folded (payload_reading p) f
fold-push None ps p f h = absurd (cc)
fold-push (Some g) [] p f h = let same : g ≡ f = cc in fold-nil (folded (payload_reading p) g) ∙ ap (λ (x : Folded). folded (payload_reading p) x) same
fold-push (Some g) (x ∷ xs) p f h = fold-push (folded (payload_reading x) g) xs p f h

-- a fold that leads to tables
pub folded-in : (o : Option Folded) (t : Tables) → tables_in o ≡ Some t → (f : Folded) × (o ≡ Some f) × (f.tables ≡ t)
folded-in None t h = absurd (cc)
folded-in (Some f) t h = (f, refl, cc)

-- an accepted command acts
acts : (c : Timed) (f : Folded) (t after : Tables) (answer : StoreAnswer) → ReadsCommands → MayCome c → f.tables ≡ t → outcome_of t c ≡ Accepted answer after → tables_in (folded (payload_reading (command_payload c)) f) ≡ Some after
acts c f t after answer reads may is o =
    let there : outcome_of f.tables c ≡ Accepted answer after = ap (λ (x : Tables). outcome_of x c) is ∙ o in
    rw (reads c may, there) refl

contents-on : (ps : List (List ℕ)) (c : Timed) (t after : Tables) (answer : StoreAnswer) → ReadsCommands → MayCome c → contents_in false ps ≡ Some t → outcome_of t c ≡ Accepted answer after → contents_in false (ps ++ command_payload c ∷ []) ≡ Some after
contents-on ps c t after answer reads may is o =
    let first = folded-in (fold_from false (Some (start (is_some (first_generation ps)))) (without_generation ps)) t is in
    rw (first-more ps (command_payload c) (no-generation c), without-more ps (command_payload c) (no-generation c))
    (ap tables_in (fold-push (Some (start (is_some (first_generation ps)))) (without_generation ps) (command_payload c) first.0 first.1)
    ∙ acts c first.0 t after answer reads may first.2 o)

-- a file of the second format
pub contents-today : (held : Image) → held.format ≡ Two → contents_of held ≡ contents_in false held.payloads
contents-today held two = ap (λ (f : Format). contents_in (is_old f) held.payloads) two

-- the contents after the payload of an accepted command
pub contents-more : (held : Image) (c : Timed) (t after : Tables) (answer : StoreAnswer) → ReadsCommands → MayCome c → held.format ≡ Two → contents_of held ≡ Some t → outcome_of t c ≡ Accepted answer after → contents_of (with_payload (command_payload c) held) ≡ Some after
contents-more held c t after answer reads may two is o =
    contents-today (with_payload (command_payload c) held) two ∙ contents-on held.payloads c t after answer reads may (sym (contents-today held two) ∙ is) o
