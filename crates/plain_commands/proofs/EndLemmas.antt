-- How a replay ends, from how its lines ended and what was written.
use Rattle.std.proofs.Common.{◌≡◌, ◌⊎◌, inl, inr, ◌<◌, ◌≤◌, ℕ, List, [], ◌++◌, length, take, drop, Option, None, Some, Ok, Err, refl, sym, ap, subst, ◌∙◌, arith, length-append}
use Rattle.std.specs.Prelude.{codes}
use Rattle.std.proofs.lemmas.Bool.{cases_lt, lt-ltb, le-ltb}
use Rattle.std.proofs.lemmas.List.{take-take, take_all, drop_all, length-take, append-nil}
use Rattle.actor_ports.specs.declared.port.PortError.TheVariants as port
use Rattle.plain_commands.specs.declared.status.Status.{Status}
use Rattle.plain_commands.specs.declared.status.Status.TheVariants as status
use Rattle.script_text.specs.Lines.{lines_of}
use Rattle.plain_commands.specs.Scripts.{Unread}
use Rattle.plain_commands.specs.Replay.{ReplayRun, replay_of, limit_run, run_lines, most_bytes, most_lines}
use Rattle.plain_commands.specs.ReplayTold.{IsFront, Prints, Writes, WritesFrontOf, WritesAs, PieceEnds, RunEnds, EndsAs, ReadsAll, AreAllOf, IsReadSoFar, most_read, Replays}
use Rattle.plain_commands.proofs.Headlines.{headline_told}
use Rattle.plain_commands.proofs.RunTold.{replay_told}
use Rattle.plain_commands.proofs.RunLemmas.{front_of, then_front, drop_front}

-- a prefix of a prefix is a prefix
front_front : (a b c : List ℕ) → IsFront a b → IsFront b c → IsFront a c
front_front a b c p q = by (cases_lt p.0 q.0)
  where
    by : (p.0 < q.0) ⊎ (q.0 ≤ p.0) → IsFront a c
    by (inl less) = (p.0, p.1 ∙ ap (λ (l : List ℕ). take p.0 l) q.1 ∙ take-take p.0 q.0 c (omega arith))
    by (inr more) = (q.0, p.1 ∙ take_all p.0 b (omega (arith, ap length q.1, length-take q.0 c)) ∙ q.1)

wider_front : (before after : Option (List ℕ)) (text all : List ℕ) → IsFront text all → WritesFrontOf before after text → WritesFrontOf before after all
wider_front None after text all front written = tt
wider_front (Some held) after text all front written = (written.0, front_front written.0 text all written.1 front, written.2)

-- what was printed is a prefix of the run
printed_front : (run : ReplayRun) (ended : Status) (text : List ℕ) → Prints run ended text → IsFront text run.text
printed_front run status.OutOfMemory text p = p
printed_front run status.Done text p = (length text, sym (take_all (length text) text (omega arith)) ∙ ap (λ (l : List ℕ). take (length text) l) p.1)
printed_front run status.Refused text p = (length text, sym (take_all (length text) text (omega arith)) ∙ ap (λ (l : List ℕ). take (length text) l) p.1)
printed_front run status.Limit text p = (length text, sym (take_all (length text) text (omega arith)) ∙ ap (λ (l : List ℕ). take (length text) l) p.1)
printed_front run status.Usage text p = absurd p
printed_front run status.SourceFault text p = absurd p
printed_front run status.SinkFault text p = absurd p

-- how a run ends, if the lines ended this way and the text was written this way
pub run_ends : (run : ReplayRun) (before after : Option (List ℕ)) (text : List ℕ) (ended result : Status) → Prints run ended text → WritesAs before after text ended result → RunEnds run result before after
run_ends run before after text ended status.SinkFault p w = wider_front before after text run.text (printed_front run ended text p) w
run_ends run before after text ended status.OutOfMemory p w = wider_front before after text run.text (printed_front run ended text p) w
run_ends run before after text ended status.Done p w =
    let q : Prints run status.Done text = subst (λ (s : Status). Prints run s text) w.0 p in (q.0, subst (λ (l : List ℕ). Writes before after l) q.1 w.1)
run_ends run before after text ended status.Refused p w =
    let q : Prints run status.Refused text = subst (λ (s : Status). Prints run s text) w.0 p in (q.0, subst (λ (l : List ℕ). Writes before after l) q.1 w.1)
run_ends run before after text ended status.Limit p w =
    let q : Prints run status.Limit text = subst (λ (s : Status). Prints run s text) w.0 p in (q.0, subst (λ (l : List ℕ). Writes before after l) q.1 w.1)
run_ends run before after text ended status.Usage p w = absurd (subst (λ (s : Status). Prints run s text) w.0 p)
run_ends run before after text ended status.SourceFault p w = absurd (subst (λ (s : Status). Prints run s text) w.0 p)

-- a piece that wasn't written ends the run
pub piece_fault : (run : ReplayRun) (before mid after : Option (List ℕ)) (written waiting rest more : List ℕ) (result : Status) → Writes before mid written → PieceEnds mid after waiting rest result
    → (result ≡ status.Done → ⊥) → (written ++ waiting) ++ more ≡ run.text → RunEnds run result before after
piece_fault run before mid after written waiting rest more status.SinkFault first piece not text =
    wider_front before after (written ++ waiting) run.text (front_of (written ++ waiting) more run.text text) (then_front before mid after written waiting first piece)
piece_fault run before mid after written waiting rest more status.OutOfMemory first piece not text =
    wider_front before after (written ++ waiting) run.text (front_of (written ++ waiting) more run.text text) (then_front before mid after written waiting first piece)
piece_fault run before mid after written waiting rest more status.Done first piece not text = absurd (not refl)
piece_fault run before mid after written waiting rest more status.Refused first piece not text = absurd piece
piece_fault run before mid after written waiting rest more status.Limit first piece not text = absurd piece
piece_fault run before mid after written waiting rest more status.Usage first piece not text = absurd piece
piece_fault run before mid after written waiting rest more status.SourceFault first piece not text = absurd piece

-- a script within both limits is replayed as its lines
pub replay-within : (bytes : List ℕ) → length bytes ≤ most_bytes → length (lines_of bytes) ≤ most_lines → replay_of bytes ≡ run_lines 1 Unread (lines_of bytes)
replay-within bytes few short = rw (le-ltb most_bytes (length bytes) few, le-ltb most_lines (length (lines_of bytes)) short)

replay-past : (bytes : List ℕ) → most_bytes < length bytes → replay_of bytes ≡ limit_run (codes "limit bytes\n")
replay-past bytes many = rw (lt-ltb most_bytes (length bytes) many)

-- ---- the whole replay

-- all bytes of the source, or those that were read if it doesn't show them
abbrev whole_of : Option (List ℕ) → List ℕ → List ℕ
whole_of None bytes = bytes
whole_of (Some left) bytes = left

whole_all : (left : Option (List ℕ)) (bytes : List ℕ) → AreAllOf left (whole_of left bytes)
whole_all None bytes = tt
whole_all (Some left) bytes = refl

-- a source above the limit is replayed as its prefix is, and any other was read to its end
read_whole : (left rest : Option (List ℕ)) (bytes : List ℕ) → ReadsAll {X = Unit {0}} left rest bytes (Ok tt) → replay_of (whole_of left bytes) ≡ replay_of bytes
read_whole None rest bytes reads = refl
read_whole (Some left) rest bytes reads = by (cases_lt most_bytes (length bytes))
  where
    by : (most_bytes < length bytes) ⊎ (length bytes ≤ most_bytes) → replay_of left ≡ replay_of bytes
    by (inl many) = replay-past left (omega (arith, ap length reads.1, length-append bytes reads.0)) ∙ sym (replay-past bytes many)
    by (inr few) = ap replay_of (reads.1 ∙ ap (λ (r : List ℕ). bytes ++ r) (reads.3 few) ∙ append-nil bytes)

-- what remains of a source that was read to its end, or one byte past the limit
left_over : (left : List ℕ) (rest : Option (List ℕ)) (bytes : List ℕ) → ReadsAll {X = Unit {0}} (Some left) rest bytes (Ok tt) → rest ≡ Some (drop most_read left)
left_over left rest bytes reads = by (cases_lt most_bytes (length bytes))
  where
    by : (most_bytes < length bytes) ⊎ (length bytes ≤ most_bytes) → rest ≡ Some (drop most_read left)
    by (inl many) =
        let exact : length bytes ≡ most_read = (let few = reads.4 in omega arith) in
        reads.2 ∙ ap (λ (r : List ℕ). Some r) (sym (drop_front bytes reads.0) ∙ ap (λ (n : ℕ). drop n (bytes ++ reads.0)) exact ∙ ap (λ (r : List ℕ). drop most_read r) (sym reads.1))
    by (inr few) =
        let none = reads.3 few in
        let short : length left ≤ most_read = omega (arith, ap length reads.1, length-append bytes reads.0, ap length none) in
        reads.2 ∙ ap (λ (r : List ℕ). Some r) (none ∙ sym (drop_all most_read left short))

read_so_far : (left rest : Option (List ℕ)) (bytes : List ℕ) (before after : Option (List ℕ)) (ended : Status) → ReadsAll {X = Unit {0}} left rest bytes (Ok tt) → RunEnds (replay_of bytes) ended before after → IsReadSoFar left rest ended
read_so_far None rest bytes before after ended reads ends = tt
read_so_far (Some left) rest bytes before after status.Done reads ends = left_over left rest bytes reads
read_so_far (Some left) rest bytes before after status.Refused reads ends = left_over left rest bytes reads
read_so_far (Some left) rest bytes before after status.Limit reads ends = left_over left rest bytes reads
read_so_far (Some left) rest bytes before after status.SinkFault reads ends = left_over left rest bytes reads
read_so_far (Some left) rest bytes before after status.OutOfMemory reads ends = (most_read, omega arith, left_over left rest bytes reads)
read_so_far (Some left) rest bytes before after status.SourceFault reads ends = tt
read_so_far (Some left) rest bytes before after status.Usage reads ends = tt

ends_as : (run : ReplayRun) (before after : Option (List ℕ)) (ended : Status) → RunEnds run ended before after → EndsAs run ended before after
ends_as run before after status.Done ends = ends
ends_as run before after status.Refused ends = ends
ends_as run before after status.Limit ends = ends
ends_as run before after status.SinkFault ends = ends
ends_as run before after status.OutOfMemory ends = ends
ends_as run before after status.Usage ends = absurd ends
ends_as run before after status.SourceFault ends = absurd ends

-- the source was read, and its bytes were run
pub replays_run : (left rest : Option (List ℕ)) (bytes : List ℕ) (before after : Option (List ℕ)) (ended : Status) → ReadsAll {X = Unit {0}} left rest bytes (Ok tt)
    → RunEnds (replay_of bytes) ended before after → Replays left rest ended before after
replays_run left rest bytes before after ended reads ends =
    record {
      bytes = whole_of left bytes;
      all = whole_all left bytes;
      read = read_so_far left rest bytes before after ended reads ends;
      ends = subst (λ (r : ReplayRun). EndsAs r ended before after) (sym (read_whole left rest bytes reads)) (ends_as (replay_of bytes) before after ended ends);
      tells = replay_told (whole_of left bytes);
      headline = headline_told (lines_of (whole_of left bytes)) (replay_of (whole_of left bytes)) (replay_told (whole_of left bytes));
    }

fault_read : (left rest : Option (List ℕ)) → IsReadSoFar left rest status.SourceFault
fault_read None rest = tt
fault_read (Some left) rest = tt

-- the source failed
pub replays_fault : (left rest before : Option (List ℕ)) → Replays left rest status.SourceFault before before
replays_fault left rest before =
    record {
      bytes = whole_of left [];
      all = whole_all left [];
      read = fault_read left rest;
      ends = refl;
      tells = replay_told (whole_of left []);
      headline = headline_told (lines_of (whole_of left [])) (replay_of (whole_of left [])) (replay_told (whole_of left []));
    }

memory_read : (left rest : Option (List ℕ)) (bytes : List ℕ) → ReadsAll {X = Unit {0}} left rest bytes (Err port.OutOfMemory) → IsReadSoFar left rest status.OutOfMemory
memory_read None rest bytes reads = tt
memory_read (Some left) rest bytes reads = reads

nothing_written : (before : Option (List ℕ)) (text : List ℕ) → WritesFrontOf before before text
nothing_written None text = tt
nothing_written (Some held) text = ([], (0, refl), ap (λ (r : List ℕ). Some r) (sym (append-nil held)))

-- there was no memory for the source's bytes
pub replays_no_memory : (left rest before : Option (List ℕ)) (bytes : List ℕ) → ReadsAll {X = Unit {0}} left rest bytes (Err port.OutOfMemory) → Replays left rest status.OutOfMemory before before
replays_no_memory left rest before bytes reads =
    record {
      bytes = whole_of left [];
      all = whole_all left [];
      read = memory_read left rest bytes reads;
      ends = nothing_written before (replay_of (whole_of left [])).text;
      tells = replay_told (whole_of left []);
      headline = headline_told (lines_of (whole_of left [])) (replay_of (whole_of left [])) (replay_told (whole_of left []));
    }

-- no run of bytes ends by a fault of the source
pub run_no_source : (run : ReplayRun) (before after : Option (List ℕ)) (ended : Status) → RunEnds run ended before after → ended ≡ status.SourceFault → ⊥
run_no_source run before after ended ends is = subst (λ (s : Status). RunEnds run s before after) is ends
