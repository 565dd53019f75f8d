use Rattle.std.proofs.Common.{map, option_map, string_bytes, sym, ◌∙◌, rules, arith}
use Rattle.command_words.specs.Told.{told_option}
use Rattle.command_words.proofs.Forms.{StandsAt-item, StandsAt-all, StandsAt-Refused, StandsAt-Names, StandsAt-Gives, options_given-None, StandsAt-ends, StandsAt-lacks, map-push}
use Rattle.command_words.proofs.form.is_form.Goals as goal
use Rattle.command_words.proofs.form.is_form.Goals.{in-Names, in-Gives+in_ok-push-in-Gives, then-is_none, else-is_none}

pub returns-in-Refused-clause-form : goal.returns-in-Refused-clause-form
returns-in-Refused-clause-form c =
    let options = map told_option c.args.options.now in
    let words = map string_bytes c.args.words.now in
    let names = map (λ n. n.now) c.loop-word.names.items in
    let awaited = option_map (λ n. n.now) c.loop-word.awaited in
    let at = StandsAt-item string_bytes c.args.words.now c.loop-word.word-index c.word-item.result options words names awaited c.loop-word-test.true c.loop-word.invariant in
    sym (options_given-None options words (StandsAt-Refused options words names awaited _ _ at (search rules)))

pub loop-word-preserved : goal.loop-word-preserved
loop-word-preserved c =
    let options = map told_option c.args.options.now in
    let words = map string_bytes c.args.words.now in
    let names = map (λ n. n.now) c.loop-word.names.items in
    let awaited = option_map (λ n. n.now) c.loop-word.awaited in
    let at = StandsAt-item string_bytes c.args.words.now c.loop-word.word-index c.word-item.result options words names awaited c.loop-word-test.true c.loop-word.invariant in
    elim c.match-meaning_of.branch [
      | in-Names w ↦ rw (w.names-is, w.awaited-is) (StandsAt-Names options words names awaited _ _ w.in-Names.name.now at (search rules))
      | in-Gives+in_ok-push-in-Gives w ↦
          let next = StandsAt-Gives options words names awaited _ _ w.in-Gives.name.now w.in-Gives.field-1.now at (search rules) in
          rw (w.names-is, w.in_ok-push-in-Gives.ensures.items, w.awaited-is, map-push) next
    ]

pub returns-clause-form : goal.returns-clause-form
returns-clause-form c =
    let options = map told_option c.args.options.now in
    let words = map string_bytes c.args.words.now in
    let names = map (λ n. n.now) c.loop-word.names.items in
    let at = StandsAt-all string_bytes c.args.words.now c.loop-word.word-index options words names (option_map (λ n. n.now) c.loop-word.awaited) (omega arith) c.loop-word.invariant in
    elim c.if-is_none.branch [
      | then-is_none w ↦ rw (w.result-is, w.has_needed.ensures, w.as_slice-then-is_none.ensures.value) (sym (StandsAt-ends options words names c.loop-word.awaited (search rules) at))
      | else-is_none w ↦ w.result-is ∙ w.if-is_none.false ∙ sym (StandsAt-lacks options words names c.loop-word.awaited (search rules) at)
    ]
