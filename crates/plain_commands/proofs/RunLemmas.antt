-- One more line of a run.
use Rattle.std.proofs.Common.{◌≡◌, ◌+◌, ◌<◌, ◌≤◌, ℕ, List, [], ◌∷◌, ◌++◌, length, take, drop, Option, None, Some, Ok, Err, refl, sym, ap, subst, ◌∙◌, arith}
use Rattle.std.proofs.lemmas.List.{take_at, take_all, drop_all, take-append-drop, append_assoc, append-nil}
use Rattle.std.proofs.Math.Seq.{take-append-add}
use Rattle.actor_ports.specs.Port.{TakesFront, WritesAll}
use Rattle.actor_ports.specs.declared.port.PortError.TheVariants as port
use Rattle.outcome_text.specs.Outcomes.{bad_line_text}
use Rattle.plain_commands.specs.Scripts.{ScriptLog}
use Rattle.plain_commands.specs.Replay.{LineStep, Goes, Stops, ReplayRun, line_step, after_line, run_lines, most_bytes}
use Rattle.plain_commands.specs.ReplayTold.{IsOf, GoesTo, GivesLine, IsFront, Prints, RefusesLine, EndsLines, HasRead, ReadsAll, Writes, WritesFrontOf, WritesAs, most_read}
use Rattle.plain_commands.specs.declared.line_end.LineEnd.{LineEnd}
use Rattle.plain_commands.specs.declared.line_end.LineEnd.TheVariants as ending
use Rattle.plain_commands.specs.declared.script.Script.{Script}
use Rattle.plain_commands.specs.declared.status.Status.{Status}
use Rattle.plain_commands.specs.declared.status.Status.TheVariants as status

-- what a step that goes on adds comes after what was written before, and before what the next lines write
pub record GoesOn (number : ℕ) (written before after : List ℕ) (new : Script) (lines : List (List ℕ)) (run : ReplayRun) : Type 0 where
  pub log : ScriptLog
  pub is_of : IsOf log new
  pub text : (written ++ after) ++ (run_lines (number + 1) log lines).text ≡ (written ++ before) ++ run.text
  pub status : (run_lines (number + 1) log lines).status ≡ run.status

-- what a step adds, it also adds after another text
behind : (written a b x y : List ℕ) → a ++ x ≡ b ++ y → (written ++ a) ++ x ≡ (written ++ b) ++ y
behind written a b x y e = append_assoc written a x ∙ ap (λ (r : List ℕ). written ++ r) e ∙ sym (append_assoc written b y)

pub goes_on_behind : (written : List ℕ) (number : ℕ) (log : ScriptLog) (new : Script) (line : List ℕ) (lines : List (List ℕ)) (before after : List ℕ) → GoesTo (line_step log line) new before after
    → GoesOn number written before after new lines (run_lines number log (line ∷ lines))
goes_on_behind written number log new line lines before after = go (line_step log line)
  where
    go : (step : LineStep) → GoesTo step new before after → GoesOn number written before after new lines (after_line number log step (λ next. run_lines (number + 1) next lines))
    go (Stops column) goes = absurd goes
    go (Goes next text) goes =
        record {
          log = next;
          is_of = goes.0;
          text = behind written after before (run_lines (number + 1) next lines).text (text ++ (run_lines (number + 1) next lines).text)
              (ap (λ (r : List ℕ). r ++ (run_lines (number + 1) next lines).text) goes.1 ∙ append_assoc before text (run_lines (number + 1) next lines).text);
          status = refl;
        }

stops_text : (number column : ℕ) (log : ScriptLog) (line : List ℕ) (lines : List (List ℕ)) → line_step log line ≡ Stops column → (run_lines number log (line ∷ lines)).text ≡ bad_line_text number column
stops_text number column log line lines h = ap (λ step. (after_line number log step (λ next. run_lines (number + 1) next lines)).text) h

stops_status : (number column : ℕ) (log : ScriptLog) (line : List ℕ) (lines : List (List ℕ)) → line_step log line ≡ Stops column → (run_lines number log (line ∷ lines)).status ≡ 3
stops_status number column log line lines h = ap (λ step. (after_line number log step (λ next. run_lines (number + 1) next lines)).status) h

-- what was printed so far is a prefix of all
pub front_of : (front rest all : List ℕ) → front ++ rest ≡ all → IsFront front all
front_of front rest all h = (length front, rw (← h) (sym (take_at front rest (length front) refl)))

-- the line that reports a refused line ends a run
refused_prints : (number column : ℕ) (before after : List ℕ) (run rest : ReplayRun) (ended : Status) → before ++ rest.text ≡ run.text → rest.status ≡ run.status
    → rest.text ≡ bad_line_text number column → rest.status ≡ 3 → RefusesLine number column before after ended → Prints run ended after
refused_prints number column before after run rest status.Refused text same bad three h = (sym three ∙ same, h ∙ ap (λ t. before ++ t) (sym bad) ∙ text)
refused_prints number column before after run rest status.OutOfMemory text same bad three h = rw h (front_of before rest.text run.text text)
refused_prints number column before after run rest status.Done text same bad three h = absurd h
refused_prints number column before after run rest status.Usage text same bad three h = absurd h
refused_prints number column before after run rest status.SourceFault text same bad three h = absurd h
refused_prints number column before after run rest status.SinkFault text same bad three h = absurd h
refused_prints number column before after run rest status.Limit text same bad three h = absurd h

-- ---- text behind what was written before

refused_behind : (written : List ℕ) (number column : ℕ) (before after : List ℕ) (ended : Status) → RefusesLine number column before after ended → RefusesLine number column (written ++ before) (written ++ after) ended
refused_behind written number column before after status.Refused h = ap (λ (r : List ℕ). written ++ r) h ∙ sym (append_assoc written before (bad_line_text number column))
refused_behind written number column before after status.OutOfMemory h = ap (λ (r : List ℕ). written ++ r) h
refused_behind written number column before after status.Done h = absurd h
refused_behind written number column before after status.Usage h = absurd h
refused_behind written number column before after status.SourceFault h = absurd h
refused_behind written number column before after status.SinkFault h = absurd h
refused_behind written number column before after status.Limit h = absurd h

-- a line that ends the replay ends the run; `written` was written before, and `before` and `after` wait
pub ended_prints : (written : List ℕ) (number : ℕ) (end : LineEnd) (log : ScriptLog) (new : Script) (line : List ℕ) (lines : List (List ℕ)) (before mid after : List ℕ) (run : ReplayRun) (ended : Status)
    → GivesLine {X = Unit {0}} (Err end) (line_step log line) new before mid → EndsLines end number mid after ended
    → (written ++ before) ++ (run_lines number log (line ∷ lines)).text ≡ run.text → (run_lines number log (line ∷ lines)).status ≡ run.status → Prints run ended (written ++ after)
ended_prints written number (ending.Refused column) log new line lines before mid after run ended gives ends text same =
    let refuses : RefusesLine number column before after ended = subst (λ (m : List ℕ). RefusesLine number column m after ended) gives.1 ends in
    refused_prints number column (written ++ before) (written ++ after) run (run_lines number log (line ∷ lines)) ended text same
    (stops_text number column log line lines gives.0) (stops_status number column log line lines gives.0) (refused_behind written number column before after ended refuses)
ended_prints written number ending.OutOfMemory log new line lines before mid after run ended gives ends text same =
    let front : IsFront (written ++ before) run.text = front_of (written ++ before) (run_lines number log (line ∷ lines)).text run.text text in
    let still : IsFront (written ++ after) run.text = subst (λ (r : List ℕ). IsFront (written ++ r) run.text) (sym (ends.1 ∙ gives)) front in
    subst (λ (e : Status). Prints run e (written ++ after)) (sym ends.0) still

-- ---- reading the source

pub drop_front : (xs ys : List ℕ) → drop (length xs) (xs ++ ys) ≡ ys
drop_front [] ys = refl
drop_front (x ∷ xs) ys = drop_front xs ys

-- one more read
pub read_more : (left rest : Option (List ℕ)) (after : Option (List ℕ)) (bytes new : List ℕ) (n : ℕ) → HasRead left rest bytes → TakesFront rest after bytes new (Ok n) → HasRead left after new
read_more None rest after bytes new n has takes = tt
read_more (Some left) None after bytes new n has takes = absurd (let e = has.2 in cc)
read_more (Some left) (Some held) after bytes new n has takes =
    let same : held ≡ has.0 = (let e = has.2 in cc) in (
      drop n held,
      has.1 ∙ ap (λ (r : List ℕ). bytes ++ r) (sym same ∙ sym (take-append-drop n held)) ∙ sym (append_assoc bytes (take n held) (drop n held)) ∙ ap (λ (r : List ℕ). r ++ drop n held) (sym takes.1),
      takes.2,
    )

-- the bytes are more than the limit, by one
pub read_past : (left rest : Option (List ℕ)) (bytes : List ℕ) → most_bytes < length bytes → length bytes ≤ most_read → HasRead left rest bytes → ReadsAll {X = Unit {0}} left rest bytes (Ok tt)
read_past None rest bytes full few has = tt
read_past (Some left) rest bytes full few has = (has.0, has.1, has.2, λ short. absurd (omega arith), few)

-- the source is at its end
pub read_to_end : (left rest after : Option (List ℕ)) (bytes new : List ℕ) (n : ℕ) → n ≡ 0 → length new ≤ most_read → HasRead left rest bytes → TakesFront rest after bytes new (Ok n) → ReadsAll {X = Unit {0}} left after new (Ok tt)
unfolding read_more
read_to_end None rest after bytes new n none few has takes = tt
read_to_end (Some left) None after bytes new n none few has takes = absurd (let e = has.2 in cc)
read_to_end (Some left) (Some held) after bytes new n none few has takes =
    let more = read_more (Some left) (Some held) after bytes new n has takes in
    let empty : held ≡ [] = takes.3 none in
    (more.0, more.1, more.2, λ short. drop_all n held (omega (arith, ap length empty)), few)

-- the source ran out of memory, and took nothing
pub read_no_memory : (left rest after : Option (List ℕ)) (bytes new : List ℕ) → length bytes ≤ most_read → HasRead left rest bytes → TakesFront rest after bytes new (Err port.OutOfMemory)
    → ReadsAll {X = Unit {0}} left after new (Err port.OutOfMemory)
read_no_memory None rest after bytes new few has takes = tt
read_no_memory (Some left) None after bytes new few has takes = absurd (let e = has.2 in cc)
read_no_memory (Some left) (Some held) after bytes new few has takes =
    let same : held ≡ has.0 = (let e = has.2 in cc) in
    (length bytes, few, takes ∙ ap (λ (r : List ℕ). Some r) (same ∙ sym (drop_front bytes has.0) ∙ ap (λ (r : List ℕ). drop (length bytes) r) (sym has.1)))

-- ---- writing the text

whole_front : (text : List ℕ) → IsFront text text
whole_front text = (length text, sym (take_all (length text) text (omega arith)))

front_written : (before after : Option (List ℕ)) (text : List ℕ) → WritesAll {T = Unit {0}} before after text (Ok tt) → WritesFrontOf before after text
front_written None after text written = tt
front_written (Some held) after text written = (text, whole_front text, written)

all_written : (before after : Option (List ℕ)) (text : List ℕ) → WritesAll {T = Unit {0}} before after text (Ok tt) → Writes before after text
all_written None after text written = tt
all_written (Some held) after text written = written

-- all of the text was written, so the status stays
pub written_as : (before after : Option (List ℕ)) (text : List ℕ) (ended : Status) → WritesAll {T = Unit {0}} before after text (Ok tt) → WritesAs before after text ended ended
written_as before after text status.SinkFault written = front_written before after text written
written_as before after text status.OutOfMemory written = front_written before after text written
written_as before after text status.Done written = (refl, all_written before after text written)
written_as before after text status.Refused written = (refl, all_written before after text written)
written_as before after text status.Limit written = (refl, all_written before after text written)
written_as before after text status.Usage written = (refl, all_written before after text written)
written_as before after text status.SourceFault written = (refl, all_written before after text written)

-- ---- writing it in pieces

-- nothing was written so far
pub nothing_yet : (before : Option (List ℕ)) → Writes before before []
nothing_yet None = tt
nothing_yet (Some held) = ap (λ (r : List ℕ). Some r) (sym (append-nil held))

-- a text was written, and then another
pub then_written : (before mid after : Option (List ℕ)) (written text : List ℕ) → Writes before mid written → Writes mid after text → Writes before after (written ++ text)
then_written None mid after written text first second = tt
then_written (Some held) mid after written text first second =
    let more : Writes (Some (held ++ written)) after text = subst (λ (m : Option (List ℕ)). Writes m after text) first second in
    more ∙ ap (λ (r : List ℕ). Some r) (append_assoc held written text)

pub then_front : (before mid after : Option (List ℕ)) (written text : List ℕ) → Writes before mid written → WritesFrontOf mid after text → WritesFrontOf before after (written ++ text)
then_front None mid after written text first second = tt
then_front (Some held) mid after written text first second =
    let more : WritesFrontOf (Some (held ++ written)) after text = subst (λ (m : Option (List ℕ)). WritesFrontOf m after text) first second in (
      written ++ more.0,
      (length written + more.1.0, ap (λ (r : List ℕ). written ++ r) more.1.1 ∙ sym (take-append-add written text more.1.0)),
      more.2 ∙ ap (λ (r : List ℕ). Some r) (append_assoc held written more.0),
    )

-- a text was written before one that ended this way
pub then_as : (before mid after : Option (List ℕ)) (written text : List ℕ) (ended result : Status) → Writes before mid written → WritesAs mid after text ended result → WritesAs before after (written ++ text) ended result
then_as before mid after written text ended status.SinkFault first as_ = then_front before mid after written text first as_
then_as before mid after written text ended status.OutOfMemory first as_ = then_front before mid after written text first as_
then_as before mid after written text ended status.Done first as_ = (as_.0, then_written before mid after written text first as_.1)
then_as before mid after written text ended status.Refused first as_ = (as_.0, then_written before mid after written text first as_.1)
then_as before mid after written text ended status.Limit first as_ = (as_.0, then_written before mid after written text first as_.1)
then_as before mid after written text ended status.Usage first as_ = (as_.0, then_written before mid after written text first as_.1)
then_as before mid after written text ended status.SourceFault first as_ = (as_.0, then_written before mid after written text first as_.1)
