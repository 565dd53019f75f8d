-- A line that comes late sets nothing.
use Rattle.std.proofs.Common.{◌≡◌, ℕ, Bool, true, List, [], ◌∷◌, length, Ok, Err}
use Rattle.std.specs.Prelude.{Result, nat_lt, bytes_eq, codes, if◌then◌else◌}
use Rattle.std.proofs.lemmas.Bool.{cond_both}
use Rattle.world_events.specs.Solo.{SoloEvent}
use Rattle.world_events.specs.declared.event.WorldEvent.{WorldEvent}
use Rattle.actor_names.specs.declared.actor_key.ActorKey.{ActorKey}
use Rattle.actor_names.specs.declared.member.Member.{Member}
use Rattle.script_text.specs.Lines.{Word, words_from}
use Rattle.script_text.specs.Reading.{◌>>=◌, Setting, longest_script_line, is_blank, by_first_word, ending_with, next_as, number_in, key_in, chain_clause}
use Rattle.script_text.specs.ClusterWords.{member_in, node_in, boot_types_in, space_clause, least_clause}
use Rattle.script_text.specs.SoloLines as solo
use Rattle.script_text.specs.ClusterLines as cluster

-- what is read is none of these values
abbrev IsNone : {A B : Type 0} → (B → A) → Result A ℕ → Type 0
IsNone {A} {B} of r = (b : B) → r ≡ Ok (of b) → ⊥

refuses : {A B : Type 0} (of : B → A) (column : ℕ) → IsNone of (Err column)
refuses of column b e = cc

after : {A B C : Type 0} (of : B → A) (r : Result C ℕ) (f : C → Result A ℕ) → ((c : C) → IsNone of (f c)) → IsNone of (r >>= f)
after of (Err column) f none b e = absurd (cc)
after of (Ok c) f none b e = none c b e

ends : {A B : Type 0} (of : B → A) (value : A) (words : List Word) → IsNone of (Ok value) → IsNone of (ending_with value words)
ends of value [] none b e = none b e
ends of value (word ∷ words) none b e = absurd (cc)

either : {A B : Type 0} (of : B → A) (b : Bool) (x y : Result A ℕ) → IsNone of x → IsNone of y → IsNone of (if◌then◌else◌ b x y)
either of b x y one other = cond_both b x y (IsNone of) (λ _. one) (λ _. other)

by_words : {A B : Type 0} (of : B → A) (line : ℕ → List ℕ → List Word → Result A ℕ) → ((past : ℕ) (first : List ℕ) (words : List Word) → IsNone of (line past first words)) → (past : ℕ) (words : List Word) → IsNone of (by_first_word line past words)
by_words of line none past [] = refuses of past
by_words of line none past (word ∷ words) = none past word.text words

-- ---- solo lines

does_not : (column : ℕ) (event : SoloEvent) → IsNone solo.Sets (Ok (solo.Does column event))
does_not column event b e = cc

blank_not : IsNone solo.Sets (Ok solo.Blank)
blank_not b e = cc

solo_by : (past : ℕ) (first : List ℕ) (words : List Word) → IsNone solo.Sets (solo.solo_line_by true past first words)
solo_by past first words =
    either solo.Sets (bytes_eq first (codes "call")) _ _ (after solo.Sets (next_as number_in past words) _ (λ call. after solo.Sets (next_as key_in past call.1) _ (λ key. after solo.Sets (chain_clause past key.1) _ (λ chain. ends solo.Sets _ chain.1 (does_not _ _)))))
    (either solo.Sets (bytes_eq first (codes "end")) _ _ (after solo.Sets _ _ (λ call. does_not _ _))
    (either solo.Sets (bytes_eq first (codes "poll")) _ _ (after solo.Sets _ _ (λ call. does_not _ _))
    (either solo.Sets (bytes_eq first (codes "hold")) _ _ (after solo.Sets _ _ (λ key. does_not _ _))
    (either solo.Sets (bytes_eq first (codes "release")) _ _ (after solo.Sets _ _ (λ key. does_not _ _))
    (refuses solo.Sets 1)))))

pub late_solo_sets_nothing : (line : List ℕ) (setting : Setting) → solo.solo_line true line ≡ Ok (solo.Sets setting) → ⊥
late_solo_sets_nothing line =
    either solo.Sets (nat_lt longest_script_line (length line)) _ _ (refuses solo.Sets _)
    (either solo.Sets (is_blank line) _ _ blank_not (by_words solo.Sets (solo.solo_line_by true) solo_by _ (words_from 1 line)))

-- ---- cluster lines

happens_not : (column : ℕ) (event : WorldEvent) → IsNone cluster.Sets (Ok (cluster.Does column event))
happens_not column event b e = cc

nothing_not : IsNone cluster.Sets (Ok cluster.Blank)
nothing_not b e = cc

number_not : (event : ℕ → WorldEvent) (past : ℕ) (words : List Word) → IsNone cluster.Sets (cluster.number_line event past words)
number_not event past words = after cluster.Sets _ _ (λ n. happens_not _ _)

member_not : (event : Member → WorldEvent) (past : ℕ) (words : List Word) → IsNone cluster.Sets (cluster.member_line event past words)
member_not event past words = after cluster.Sets _ _ (λ m. happens_not _ _)

actor_not : (event : Member → ActorKey → WorldEvent) (past : ℕ) (words : List Word) → IsNone cluster.Sets (cluster.actor_line event past words)
actor_not event past words = after cluster.Sets _ _ (λ w. happens_not _ _)

part_not : (event : Member → ℕ → WorldEvent) (past : ℕ) (words : List Word) → IsNone cluster.Sets (cluster.part_line event past words)
part_not event past words = after cluster.Sets _ _ (λ w. happens_not _ _)

call_not : (past : ℕ) (words : List Word) → IsNone cluster.Sets (cluster.call_line past words)
call_not past words =
    after cluster.Sets (next_as number_in past words) _ (λ call. after cluster.Sets (next_as member_in past call.1) _ (λ member. after cluster.Sets (next_as key_in past member.1) _ (λ key.
    after cluster.Sets (least_clause past key.1) _ (λ least. after cluster.Sets (chain_clause past least.1) _ (λ chain. ends cluster.Sets _ chain.1 (happens_not _ _))))))

boot_not : (past : ℕ) (words : List Word) → IsNone cluster.Sets (cluster.boot_line past words)
boot_not past words =
    after cluster.Sets (next_as node_in past words) _ (λ node. after cluster.Sets (next_as boot_types_in past node.1) _ (λ kinds.
    after cluster.Sets (space_clause past kinds.1) _ (λ space. happens_not _ _)))

other_not : (past : ℕ) (first : List ℕ) (words : List Word) → IsNone cluster.Sets (cluster.other_line_by true past first words)
other_not past first words =
    either cluster.Sets (bytes_eq first (codes "at")) _ _ (after cluster.Sets _ _ (λ moment. happens_not _ _))
    (either cluster.Sets (bytes_eq first (codes "ptick")) _ _ (ends cluster.Sets _ words (happens_not _ _))
    (either cluster.Sets (bytes_eq first (codes "restart")) _ _ (ends cluster.Sets _ words (happens_not _ _)) (refuses cluster.Sets 1)))

of_actor_not : (past : ℕ) (first : List ℕ) (words : List Word) → IsNone cluster.Sets (cluster.actor_line_by true past first words)
of_actor_not past first words =
    either cluster.Sets (bytes_eq first (codes "hold")) _ _ (actor_not _ past words)
    (either cluster.Sets (bytes_eq first (codes "release")) _ _ (actor_not _ past words)
    (either cluster.Sets (bytes_eq first (codes "closed")) _ _ (actor_not _ past words)
    (either cluster.Sets (bytes_eq first (codes "boot")) _ _ (boot_not past words) (other_not past first words))))

of_member_not : (past : ℕ) (first : List ℕ) (words : List Word) → IsNone cluster.Sets (cluster.member_line_by true past first words)
of_member_not past first words =
    either cluster.Sets (bytes_eq first (codes "beat")) _ _ (member_not _ past words)
    (either cluster.Sets (bytes_eq first (codes "collect")) _ _ (member_not _ past words)
    (either cluster.Sets (bytes_eq first (codes "leave")) _ _ (member_not _ past words)
    (either cluster.Sets (bytes_eq first (codes "tick")) _ _ (member_not _ past words)
    (either cluster.Sets (bytes_eq first (codes "lost")) _ _ (member_not _ past words)
    (either cluster.Sets (bytes_eq first (codes "closing")) _ _ (part_not _ past words)
    (either cluster.Sets (bytes_eq first (codes "stop")) _ _ (part_not _ past words) (of_actor_not past first words)))))))

cluster_by : (past : ℕ) (first : List ℕ) (words : List Word) → IsNone cluster.Sets (cluster.cluster_line_by true past first words)
cluster_by past first words =
    either cluster.Sets (bytes_eq first (codes "call")) _ _ (call_not past words)
    (either cluster.Sets (bytes_eq first (codes "end")) _ _ (number_not _ past words)
    (either cluster.Sets (bytes_eq first (codes "poll")) _ _ (number_not _ past words)
    (either cluster.Sets (bytes_eq first (codes "to")) _ _ (number_not _ past words)
    (either cluster.Sets (bytes_eq first (codes "part")) _ _ (after cluster.Sets _ _ (λ w. happens_not _ _))
    (of_member_not past first words)))))

pub late_cluster_sets_nothing : (line : List ℕ) (setting : Setting) → cluster.cluster_line true line ≡ Ok (cluster.Sets setting) → ⊥
late_cluster_sets_nothing line =
    either cluster.Sets (nat_lt longest_script_line (length line)) _ _ (refuses cluster.Sets _)
    (either cluster.Sets (is_blank line) _ _ nothing_not (by_words cluster.Sets (cluster.cluster_line_by true) cluster_by _ (words_from 1 line)))
