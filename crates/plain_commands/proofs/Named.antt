-- A cluster that a script's lines name has at least one part per member.
use Rattle.std.proofs.Common.{◌≡◌, ℕ, zero, suc, ◌+◌, ◌<◌, true, false, List, [], ◌∷◌, Option, None, Some, Ok, Err, refl, subst, arith}
use Rattle.std.specs.Prelude.{Result, ◌==◌, nat_lt, bytes_eq, codes, fold, length, option_and_then}
use Rattle.std.proofs.lemmas.Bool.{cond_both, true≢false}
use Rattle.world_events.specs.Solo.{SoloEvent}
use Rattle.world_events.specs.declared.event.WorldEvent.{WorldEvent}
use Rattle.lists_and_limits.specs.Decimals.{number_of}
use Rattle.solo_run.specs.World.{TypeDepth}
use Rattle.script_text.specs.Lines.{Word, words_from}
use Rattle.script_text.specs.Reading.{◌>>=◌, Reentrant, Idle, Drain, longest_script_line, some_number, word_value, ending_with, only_as, by_first_word}
use Rattle.script_text.specs.ClusterWords.{parts_in}
use Rattle.script_text.specs.SoloLines as solo
use Rattle.script_text.specs.ClusterLines as cluster
use Rattle.plain_commands.specs.Scripts.{Setup, ScriptLog, Unread, SoloLog, ClusterLog, any_of, solo_with, cluster_with, first_with, with_line, named_by}

abbrev pub HasParts : ScriptLog → Type 0
HasParts Unread = Unit {0}
HasParts (SoloLog depths events) = Unit {0}
HasParts (ClusterLog s events) = 0 < s.parts

-- ---- the first line

positive : (n p : ℕ) → (n == 0) ≡ false → ◌≡◌ {A = Option ℕ} (Some n) (Some p) → 0 < p
positive zero p z e = absurd (true≢false z)
positive (suc n) p z e = let same : suc n ≡ p = cc in omega arith

some_positive : (o : Option ℕ) (p : ℕ) → option_and_then some_number o ≡ Some p → 0 < p
some_positive None p e = absurd (cc)
some_positive (Some n) p e = cond_both (n == 0) None (Some n) (λ (o : Option ℕ). o ≡ Some p → 0 < p) (λ _ f. absurd (cc)) (λ z f. positive n p z f) e

ends_same : (q p : ℕ) (words : List Word) → ending_with q words ≡ Ok p → q ≡ p
ends_same q p [] e = cc
ends_same q p (word ∷ words) e = absurd (cc)

word_positive : (word : Word) (words : List Word) (o : Option ℕ) (p : ℕ) → ((q : ℕ) → o ≡ Some q → 0 < q) → (word_value word words o >>= λ value. ending_with value.0 value.1) ≡ Ok p → 0 < p
word_positive word words None p some e = absurd (cc)
word_positive word words (Some q) p some e = subst (λ (n : ℕ). 0 < n) (ends_same q p words e) (some q refl)

only_positive : (past : ℕ) (words : List Word) (p : ℕ) → only_as parts_in past words ≡ Ok p → 0 < p
only_positive past [] p e = absurd (cc)
only_positive past (word ∷ words) p e = word_positive word words (parts_in word.text) p (some_positive (number_of 16 word.text)) e

then_positive : (r : Result ℕ ℕ) (p : ℕ) → ((q : ℕ) → r ≡ Ok q → 0 < q) → (r >>= λ parts. Ok (Some parts)) ≡ Ok (Some p) → 0 < p
then_positive (Err column) p some e = absurd (cc)
then_positive (Ok q) p some e = let same : q ≡ p = cc in subst (λ (n : ℕ). 0 < n) same (some q refl)

abbrev AreSome : Result (Option ℕ) ℕ → Type 0
AreSome r = (p : ℕ) → r ≡ Ok (Some p) → 0 < p

first_positive : (past : ℕ) (words : List Word) → AreSome (by_first_word cluster.parts_line_by past words)
first_positive past [] = λ p e. absurd (cc)
first_positive past (word ∷ words) =
    cond_both (bytes_eq word.text (codes "cluster")) _ _ AreSome (λ _ p e. then_positive (only_as parts_in past words) p (only_positive past words) e) (λ _ p e. absurd (cc))

line_positive : (line : List ℕ) → AreSome (cluster.parts_line line)
line_positive line =
    cond_both (nat_lt longest_script_line (length line)) _ _ AreSome (λ _ p e. absurd (cc)) (λ _. first_positive (length line + 1) (words_from 1 line))

-- ---- all lines

solo_parts : (depths : List TypeDepth) (events : List SoloEvent) (r : Result solo.SoloLine ℕ) → HasParts (solo_with depths events r)
solo_parts depths events (Err column) = tt
solo_parts depths events (Ok solo.Blank) = tt
solo_parts depths events (Ok (solo.Sets (Reentrant column kind depth))) = tt
solo_parts depths events (Ok (solo.Sets (Idle ms))) = tt
solo_parts depths events (Ok (solo.Sets (Drain ms))) = tt
solo_parts depths events (Ok (solo.Does column event)) = tt

cluster_parts : (s : Setup) (events : List WorldEvent) (r : Result cluster.ClusterLine ℕ) → 0 < s.parts → HasParts (cluster_with s events r)
cluster_parts s events (Err column) some = some
cluster_parts s events (Ok cluster.Blank) some = some
cluster_parts s events (Ok (cluster.Sets (Reentrant column kind depth))) some = some
cluster_parts s events (Ok (cluster.Sets (Idle ms))) some = some
cluster_parts s events (Ok (cluster.Sets (Drain ms))) some = some
cluster_parts s events (Ok (cluster.Does column event)) some = some

first_parts : (line : List ℕ) (r : Result (Option ℕ) ℕ) → AreSome r → HasParts (first_with line r)
first_parts line (Err column) some = tt
first_parts line (Ok None) some = solo_parts [] [] (solo.solo_line false line)
first_parts line (Ok (Some parts)) some = some parts refl

line_parts : (log : ScriptLog) (line : List ℕ) → HasParts log → HasParts (with_line log line)
line_parts Unread line has = first_parts line (cluster.parts_line line) (line_positive line)
line_parts (SoloLog depths events) line has = solo_parts depths events (solo.solo_line (any_of events) line)
line_parts (ClusterLog s events) line has = cluster_parts s events (cluster.cluster_line (any_of events) line) has

fold_parts : (log : ScriptLog) (lines : List (List ℕ)) → HasParts log → HasParts (fold with_line log lines)
fold_parts log [] has = has
fold_parts log (line ∷ lines) has = fold_parts (with_line log line) lines (line_parts log line has)

pub named_parts : (lines : List (List ℕ)) → HasParts (named_by lines)
named_parts lines = fold_parts Unread lines tt
