-- What a line of a solo script says, or the column at which it is refused. Own: docs/scripts.md.
use Rattle.std.specs.Prelude.{ℕ, Bool, if◌then◌else◌, List, bytes_eq, codes, Result, Ok}
use Rattle.world_events.specs.Solo.{SoloEvent, Call, End, Poll, Hold, Release}
use Rattle.script_text.specs.Lines.{Word}
use Rattle.script_text.specs.Reading.{◌>>=◌, Setting, number_in, key_in, next_as, next_column, ending_with, only_as, chain_clause, setting_unless, line_by_words}

-- what a line says
pub data SoloLine : Type 0 where
  Blank : SoloLine  -- an empty line or a comment
  Sets : Setting → SoloLine
  Does : (column : ℕ) → SoloEvent → SoloLine  -- the column of a call's number, where a wrong one is refused; else 1

abbrev pub call_line : ℕ → List Word → Result SoloLine ℕ
call_line past words =
    next_as number_in past words >>= λ call.
    next_as key_in past call.1 >>= λ key.
    chain_clause past key.1 >>= λ chain.
    ending_with (Does (next_column past words) (Call call.0 key.0 chain.0)) chain.1

abbrev pub end_line : ℕ → List Word → Result SoloLine ℕ
end_line past words = only_as number_in past words >>= λ call. Ok (Does 1 (End call))

-- a line by its first word; `late` if an event line comes before it
abbrev pub solo_line_by : Bool → ℕ → List ℕ → List Word → Result SoloLine ℕ
solo_line_by late past first words =
    if bytes_eq first (codes "call") then call_line past words else (
    if bytes_eq first (codes "end") then end_line past words else (
    if bytes_eq first (codes "poll") then (only_as number_in past words >>= λ call. Ok (Does 1 (Poll call))) else (
    if bytes_eq first (codes "hold") then (only_as key_in past words >>= λ key. Ok (Does 1 (Hold key))) else (
    if bytes_eq first (codes "release") then (only_as key_in past words >>= λ key. Ok (Does 1 (Release key))) else (
    setting_unless late past first words >>= λ setting. Ok (Sets setting))))))

abbrev pub solo_line : Bool → List ℕ → Result SoloLine ℕ
solo_line late line = line_by_words Blank (solo_line_by late) line
