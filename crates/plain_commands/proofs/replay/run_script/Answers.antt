use Rattle.std.proofs.Common.{◌++◌, ◌+◌, ℕ, List, [], length, refl, sym, ap, ◌∙◌, arith}
use Rattle.std.proofs.lemmas.Bool.{eqb-true}
use Rattle.std.proofs.lemmas.List.{append_assoc, append-nil, nil_from_length}
use Rattle.script_text.specs.Lines.{lines_of}
use Rattle.plain_commands.specs.Scripts.{Unread}
use Rattle.plain_commands.specs.Replay.{ReplayRun, run_lines}
use Rattle.plain_commands.specs.ReplayTold.{WritesAs}
use Rattle.plain_commands.specs.declared.status.Status.TheVariants as status
use Rattle.plain_commands.proofs.RunLemmas.{goes_on_behind, ended_prints, nothing_yet, then_written, then_as}
use Rattle.plain_commands.proofs.EndLemmas.{run_ends, piece_fault}
use Rattle.plain_commands.proofs.replay.run_script.Goals as goal

pub returns-in-Err-clause-ends : goal.returns-in-Err-clause-ends
returns-in-Err-clause-ends g c =
    let all : ReplayRun = run_lines 1 Unread (lines_of c.args.script.now) in
    let written = c.loop-rest.invariant.written in
    let before = g.W.Sink.contents c.args.output.now in
    let mid = g.W.Sink.contents c.loop-rest.output in
    let after = g.W.Sink.contents c.write_all.new.output in
    let waits = c.end_lines-status.new.transcript in
    let text = rw c.next_line.ensures.lines at c.loop-rest.invariant.text in
    let same = rw c.next_line.ensures.lines at c.loop-rest.invariant.status in
    let prints = ended_prints written c.loop-rest.number c.in-Err.end c.loop-rest.invariant.log c.line.new.self c.next_line.result.0.now (lines_of c.next_line.result.1.now) c.loop-rest.transcript c.line.new.transcript waits all
    c.end_lines-status.result (c.in-Err.ensures c.loop-rest.invariant.log c.loop-rest.invariant.is_of) c.end_lines-status.ensures text same in
    let writes : WritesAs mid after waits c.end_lines-status.result c.write_all.result = rw c.as_slice.ensures at c.write_all.ensures.ends in
    run_ends all before after (written ++ waits) c.end_lines-status.result c.write_all.result prints
    (then_as before mid after written waits c.end_lines-status.result c.write_all.result c.loop-rest.invariant.held writes)

pub returns-in_default : goal.returns-in_default
returns-in_default g c =
    let all : ReplayRun = run_lines 1 Unread (lines_of c.args.script.now) in
    let written = c.loop-rest.invariant.written in
    let on = goes_on_behind written c.loop-rest.number c.loop-rest.invariant.log c.line.new.self c.next_line.result.0.now (lines_of c.next_line.result.1.now) c.loop-rest.transcript c.line.new.transcript (c.in-Ok.ensures c.loop-rest.invariant.log c.loop-rest.invariant.is_of) in
    let text = rw c.next_line.ensures.lines at c.loop-rest.invariant.text in
    record {
      ends = piece_fault all (g.W.Sink.contents c.args.output.now) (g.W.Sink.contents c.loop-rest.output) (g.W.Sink.contents c.write_piece.new.output) written c.line.new.transcript c.write_piece.new.transcript
          (run_lines (c.loop-rest.number + 1) on.log (lines_of c.next_line.result.1.now)).text c.write_piece.result c.loop-rest.invariant.held c.write_piece.ensures.ends c.in_default.not-Done (on.text ∙ text);
      cause = λ is. (let less = c.write_piece.ensures.cause is in let rose = c.loop-rest.invariant.faults in omega arith);
    }

pub loop-rest-preserved : goal.loop-rest-preserved
loop-rest-preserved g c =
    let written = c.loop-rest.invariant.written in
    let piece = c.in-Done.ensures.ends in
    let on = goes_on_behind written c.loop-rest.number c.loop-rest.invariant.log c.line.new.self c.next_line.result.0.now (lines_of c.next_line.result.1.now) c.loop-rest.transcript c.line.new.transcript (c.in-Ok.ensures c.loop-rest.invariant.log c.loop-rest.invariant.is_of) in
    let text = rw c.next_line.ensures.lines at c.loop-rest.invariant.text in
    let same = rw c.next_line.ensures.lines at c.loop-rest.invariant.status in
    let next = (run_lines (c.loop-rest.number + 1) on.log (lines_of c.next_line.result.1.now)).text in
    let within = c.loop-rest.invariant.within in
    let shorter = c.next_line.ensures.shorter in
    let rose = c.loop-rest.invariant.faults in
    let counted = c.in-Done.ensures.counted in
    record {
      written = written ++ piece.0;
      log = on.log;
      is_of = on.is_of;
      held = then_written (g.W.Sink.contents c.args.output.now) (g.W.Sink.contents c.loop-rest.output) (g.W.Sink.contents c.write_piece.new.output) written piece.0 c.loop-rest.invariant.held piece.1;
      text = ap (λ (r : List ℕ). r ++ next) (append_assoc written piece.0 c.write_piece.new.transcript ∙ ap (λ (r : List ℕ). written ++ r) piece.2) ∙ on.text ∙ text;
      status = on.status ∙ same;
      within = omega arith;
      faults = omega arith;
    }

pub returns-clause-ends : goal.returns-clause-ends
returns-clause-ends g c =
    let all : ReplayRun = run_lines 1 Unread (lines_of c.args.script.now) in
    let written = c.loop-rest.invariant.written in
    let before = g.W.Sink.contents c.args.output.now in
    let mid = g.W.Sink.contents c.loop-rest.output in
    let after = g.W.Sink.contents c.write_all-2.new.output in
    let waits = c.loop-rest.transcript in
    let empty = ap (λ (r : List ℕ). lines_of r) (nil_from_length c.loop-rest.rest.now (eqb-true (length c.loop-rest.rest.now) 0 (sym c.is_empty.ensures ∙ c.loop-rest-test.false))) in
    let text = rw empty at c.loop-rest.invariant.text in
    let same = rw empty at c.loop-rest.invariant.status in
    let writes : WritesAs mid after waits status.Done c.write_all-2.result = rw c.as_slice-2.ensures at c.write_all-2.ensures.ends in
    run_ends all before after (written ++ waits) status.Done c.write_all-2.result (same, sym (append-nil (written ++ waits)) ∙ text)
    (then_as before mid after written waits status.Done c.write_all-2.result c.loop-rest.invariant.held writes)

pub loop-rest-init : goal.loop-rest-init
loop-rest-init g c =
    record {
      written = [];
      log = Unread;
      is_of = c.requires.opening;
      held = nothing_yet (g.W.Sink.contents c.args.output.now);
      text = ap (λ (t : List ℕ). t ++ (run_lines 1 Unread (lines_of c.args.script.now)).text) c.requires.empty;
      status = refl;
      within = omega arith;
      faults = omega arith;
    }
