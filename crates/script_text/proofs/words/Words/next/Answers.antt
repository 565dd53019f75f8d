use Rattle.std.proofs.lemmas.List.{take_rest}
use Rattle.script_text.proofs.LineLemmas.{words_split, one_word}
use Rattle.script_text.proofs.words.Words.next.Goals as goal

pub returns-in-Some : goal.returns-in-Some
returns-in-Some c =
    rw (c.in_ok-rest.was, take_rest) (words_split c.args.self.column c.in_ok-rest.rest.now c.in-Some.end c.in-Some.ensures.found)

pub returns-in-None : goal.returns-in-None
returns-in-None c = rw c.in_ok-rest.was (one_word c.args.self.column c.in_ok-rest.rest.now c.in-None.ensures.missing)
