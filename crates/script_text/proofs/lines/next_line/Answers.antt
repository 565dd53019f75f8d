use Rattle.std.proofs.Common.{◌≤◌, length, arith}
use Rattle.std.proofs.lemmas.List.{take_rest, drop_all}
use Rattle.script_text.proofs.LineLemmas.{lines_split, one_line}
use Rattle.script_text.proofs.lines.next_line.Goals as goal

pub returns-in-Some-clause-lines : goal.returns-in-Some-clause-lines
returns-in-Some-clause-lines c = rw take_rest (lines_split c.args.text.now c.in-Some.end c.in-Some.ensures.found)

pub returns-in-None-clause-lines : goal.returns-in-None-clause-lines
returns-in-None-clause-lines c =
    let all : length c.args.text.now ≤ length c.args.text.now = omega arith in
    rw (take_rest, drop_all) (one_line c.args.text.now c.requires c.in-None.ensures.missing)
