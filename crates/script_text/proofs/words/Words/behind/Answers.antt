use Rattle.std.proofs.Common.{◌≡◌, ◌<◌, ◌≢◌, ℕ, take, length-take, get_or, arith}
use Rattle.std.proofs.lemmas.List.{take_rest, take_all, get_or-take}
use Rattle.script_text.specs.Lines.{IsFirstByte}
use Rattle.script_text.proofs.LineLemmas.{words_split, one_word}
use Rattle.script_text.proofs.words.Words.behind.Goals as goal

pub returns-then-end-rest : goal.returns-then-end-rest
returns-then-end-rest c lacks =
    let whole : take c.args.end c.args.rest.now ≡ c.args.rest.now = take_all c.args.end c.args.rest.now (omega arith) in
    rw whole (one_word c.args.column c.args.rest.now (rw whole at lacks))

pub returns : goal.returns
returns c lacks =
    let before : (k : ℕ) → k < c.args.end → get_or c.args.rest.now k 0 ≢ 32 =
    λ k below space. lacks k (omega (arith, length-take c.args.end c.args.rest.now)) (rw (get_or-take c.args.end c.args.rest.now k 0 below) space) in
    let first : IsFirstByte 32 c.args.rest.now c.args.end =
    record { within = omega arith; here = c.if-rest-end-ne-SPACE.false; before = before } in
    rw take_rest (words_split c.args.column c.args.rest.now c.args.end first)
