-- What a line of a cluster script says, or the column at which it is refused. Own: docs/scripts.md.
use Rattle.std.specs.Prelude.{◌≡◌, ◌<◌, ◌≤◌, ◌+◌, ℕ, Bool, true, false, nat_lt, if◌then◌else◌, List, length, bytes_eq, codes, Option, None, Some, Result, Ok, Err}
use Rattle.actor_names.specs.declared.actor_key.ActorKey.{ActorKey}
use Rattle.actor_names.specs.declared.member.Member.{Member}
use Rattle.world_events.specs.declared.event.WorldEvent.{WorldEvent}
use Rattle.world_events.specs.declared.event.WorldEvent.TheVariants as lines
use Rattle.script_text.specs.Lines.{Word, words_from}
use Rattle.script_text.specs.Reading.{◌>>=◌, Setting, greatest_number, longest_script_line, number_in, key_in, next_as, next_column, ending_with, only_as, chain_clause, setting_unless, by_first_word, line_by_words}
use Rattle.script_text.specs.ClusterWords.{node_in, member_in, key_of, are_different, boot_types_in, space_clause, parts_in, least_clause}

-- what a line says
pub data ClusterLine : Type 0 where
  Blank : ClusterLine  -- an empty line or a comment
  Sets : Setting → ClusterLine
  Does : (column : ℕ) → WorldEvent → ClusterLine  -- the column of a call's number or an `at`'s moment; else 1

-- an event that is refused at column 1
abbrev pub does : WorldEvent → ClusterLine
does event = Does 1 event

-- two words, each read by its function, and nothing more
abbrev pub two_as : {A B : Type 0} → (List ℕ → Option A) → (List ℕ → Option B) → ℕ → List Word → Result (A × B) ℕ
two_as read other past words = next_as read past words >>= λ a. only_as other past a.1 >>= λ b. Ok (a.0, b)

abbrev pub number_line : (ℕ → WorldEvent) → ℕ → List Word → Result ClusterLine ℕ
number_line event past words = only_as number_in past words >>= λ n. Ok (does (event n))

abbrev pub member_line : (Member → WorldEvent) → ℕ → List Word → Result ClusterLine ℕ
member_line event past words = only_as member_in past words >>= λ member. Ok (does (event member))

-- a member and the key of an actor of its space
abbrev pub actor_words : ℕ → List Word → Result (Member × ActorKey) ℕ
actor_words past words = two_as member_in key_in past words >>= λ w. Ok (w.0, key_of w.0.space w.1)

abbrev pub actor_line : (Member → ActorKey → WorldEvent) → ℕ → List Word → Result ClusterLine ℕ
actor_line event past words = actor_words past words >>= λ w. Ok (does (event w.0 w.1))

-- a member and the number of one of its parts
abbrev pub part_line : (Member → ℕ → WorldEvent) → ℕ → List Word → Result ClusterLine ℕ
part_line event past words = two_as member_in number_in past words >>= λ w. Ok (does (event w.0 w.1))

-- `part K I`
abbrev pub deliver_line : ℕ → List Word → Result ClusterLine ℕ
deliver_line past words = two_as number_in number_in past words >>= λ w. Ok (does (lines.Part w.0 w.1))

abbrev pub at_line : ℕ → List Word → Result ClusterLine ℕ
at_line past words = only_as number_in past words >>= λ moment. Ok (Does (next_column past words) (lines.At moment))

-- `boot NODE TYPES`, then maybe `space S`
abbrev pub boot_line : ℕ → List Word → Result ClusterLine ℕ
boot_line past words =
    next_as node_in past words >>= λ node.
    next_as boot_types_in past node.1 >>= λ kinds.
    space_clause past kinds.1 >>= λ space. Ok (does (lines.Boot space node.0 kinds.0))

-- `call N M TYPE/ID`, then maybe `least V`, then maybe `chain X`
abbrev pub call_line : ℕ → List Word → Result ClusterLine ℕ
call_line past words =
    next_as number_in past words >>= λ call.
    next_as member_in past call.1 >>= λ member.
    next_as key_in past member.1 >>= λ key.
    least_clause past key.1 >>= λ least.
    chain_clause past least.1 >>= λ chain.
    ending_with (Does (next_column past words) (lines.Call call.0 member.0 (key_of member.0.space key.0) least.0 chain.0)) chain.1

-- an event that is its first word alone
abbrev pub bare_line : WorldEvent → List Word → Result ClusterLine ℕ
bare_line event words = ending_with (does event) words

-- A line by its first word; `late` if an event line comes before it. First lines about the placement and time, and
-- settings; any other word isn't allowed there.
abbrev pub other_line_by : Bool → ℕ → List ℕ → List Word → Result ClusterLine ℕ
other_line_by late past first words =
    if bytes_eq first (codes "at") then at_line past words else (
    if bytes_eq first (codes "ptick") then bare_line lines.PlacementTick words else (
    if bytes_eq first (codes "restart") then bare_line lines.Restart words else (
    setting_unless late past first words >>= λ setting. Ok (Sets setting))))

-- lines about the actors of a member, and about members that boot
abbrev pub actor_line_by : Bool → ℕ → List ℕ → List Word → Result ClusterLine ℕ
actor_line_by late past first words =
    if bytes_eq first (codes "hold") then actor_line (λ m key. lines.Hold m key) past words else (
    if bytes_eq first (codes "release") then actor_line (λ m key. lines.Release m key) past words else (
    if bytes_eq first (codes "closed") then actor_line (λ m key. lines.Closed m key) past words else (
    if bytes_eq first (codes "boot") then boot_line past words else
    other_line_by late past first words)))

-- lines about one member or one of its parts
abbrev pub member_line_by : Bool → ℕ → List ℕ → List Word → Result ClusterLine ℕ
member_line_by late past first words =
    if bytes_eq first (codes "beat") then member_line (λ m. lines.Beat m) past words else (
    if bytes_eq first (codes "collect") then member_line (λ m. lines.Collect m) past words else (
    if bytes_eq first (codes "leave") then member_line (λ m. lines.Leave m) past words else (
    if bytes_eq first (codes "tick") then member_line (λ m. lines.Tick m) past words else (
    if bytes_eq first (codes "lost") then member_line (λ m. lines.Lost m) past words else (
    if bytes_eq first (codes "closing") then part_line (λ m i. lines.Closing m i) past words else (
    if bytes_eq first (codes "stop") then part_line (λ m i. lines.Stop m i) past words else
    actor_line_by late past first words))))))

-- any line: those about calls and messages are tested first
abbrev pub cluster_line_by : Bool → ℕ → List ℕ → List Word → Result ClusterLine ℕ
cluster_line_by late past first words =
    if bytes_eq first (codes "call") then call_line past words else (
    if bytes_eq first (codes "end") then number_line (λ n. lines.End n) past words else (
    if bytes_eq first (codes "poll") then number_line (λ n. lines.Poll n) past words else (
    if bytes_eq first (codes "to") then number_line (λ k. lines.To k) past words else (
    if bytes_eq first (codes "part") then deliver_line past words else
    member_line_by late past first words))))

abbrev pub cluster_line : Bool → List ℕ → Result ClusterLine ℕ
cluster_line late line = line_by_words Blank (cluster_line_by late) line

-- whether an event has a key, a chain or types, which take memory
abbrev pub event_has_names : WorldEvent → Bool
event_has_names (lines.At moment) = false
event_has_names (lines.Boot space node kinds) = true
event_has_names (lines.Beat member) = false
event_has_names (lines.Collect member) = false
event_has_names (lines.Leave member) = false
event_has_names (lines.To message) = false
event_has_names (lines.Part message part) = false
event_has_names (lines.Call call member key least chain) = true
event_has_names (lines.Poll call) = false
event_has_names (lines.End call) = false
event_has_names (lines.Hold member key) = true
event_has_names (lines.Release member key) = true
event_has_names (lines.Tick member) = false
event_has_names (lines.Closing member part) = false
event_has_names (lines.Closed member key) = true
event_has_names (lines.Stop member part) = false
event_has_names (lines.Lost member) = false
event_has_names lines.PlacementTick = false
event_has_names lines.Restart = false

-- a line that isn't refused and makes names
abbrev pub reading_makes_names : Result ClusterLine ℕ → Bool
reading_makes_names (Err column) = false
reading_makes_names (Ok Blank) = false
reading_makes_names (Ok (Sets setting)) = false
reading_makes_names (Ok (Does column event)) = event_has_names event

-- 1 to 32 different types
pub record AreBootTypes (kinds : List (List ℕ)) : Type 0 where
  pub some : 0 < length kinds
  pub few : length kinds ≤ 32
  pub different : are_different kinds ≡ true

-- what a world requires of an event apart from the order of the lines
abbrev pub IsWithinLimits : WorldEvent → Type 0
IsWithinLimits (lines.At moment) = moment ≤ greatest_number
IsWithinLimits (lines.Boot space node kinds) = AreBootTypes kinds
IsWithinLimits (lines.Beat member) = Unit {0}
IsWithinLimits (lines.Collect member) = Unit {0}
IsWithinLimits (lines.Leave member) = Unit {0}
IsWithinLimits (lines.To message) = Unit {0}
IsWithinLimits (lines.Part message part) = Unit {0}
IsWithinLimits (lines.Call call member key least chain) = Unit {0}
IsWithinLimits (lines.Poll call) = Unit {0}
IsWithinLimits (lines.End call) = Unit {0}
IsWithinLimits (lines.Hold member key) = Unit {0}
IsWithinLimits (lines.Release member key) = Unit {0}
IsWithinLimits (lines.Tick member) = Unit {0}
IsWithinLimits (lines.Closing member part) = Unit {0}
IsWithinLimits (lines.Closed member key) = Unit {0}
IsWithinLimits (lines.Stop member part) = Unit {0}
IsWithinLimits (lines.Lost member) = Unit {0}
IsWithinLimits lines.PlacementTick = Unit {0}
IsWithinLimits lines.Restart = Unit {0}

-- the first line of a script: `cluster P` begins a cluster script with P parts per member, any other a solo script
abbrev pub parts_line_by : ℕ → List ℕ → List Word → Result (Option ℕ) ℕ
parts_line_by past first words =
    if bytes_eq first (codes "cluster") then (only_as parts_in past words >>= λ parts. Ok (Some parts)) else Ok None

abbrev pub parts_line : List ℕ → Result (Option ℕ) ℕ
parts_line line =
    if nat_lt longest_script_line (length line) then Err (longest_script_line + 1) else
    by_first_word parts_line_by (length line + 1) (words_from 1 line)
