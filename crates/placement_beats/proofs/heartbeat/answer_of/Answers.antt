use Rattle.std.proofs.Common.{◌<◌, ◌≤◌, ◌^◌, List, Option, Result, length, sym, subst, arith}
use Rattle.part_model.specs.Receipts.{ReceiptState}
use Rattle.part_model.specs.declared.ack.Ack.{Ack}
use Rattle.member_core.specs.declared.ack.CollectError.{CollectError}
use Rattle.member_core.specs.Answers.{collect_answer}
use Rattle.placement_beats.specs.Beats.{IsShort}
use Rattle.placement_beats.proofs.Shorts.{short_first}
use Rattle.placement_beats.proofs.heartbeat.answer_of.Goals as goal

pub returns-in-Ok-clause-version : goal.returns-in-Ok-clause-version
returns-in-Ok-clause-version c =
    let member = c.args.host.now.member in
    let some : 0 < length c.in-Ok.receipts.items = subst (λ (rs : List ReceiptState). 0 < length rs) (sym c.in-Ok.ensures) c.requires in
    let value = c.version-version.ensures.value in
    let within = c.version-version.ensures.within in
    let small : c.index.result.now.version ≤ 2 ^ 62 = omega arith in
    subst (λ (r : Result (Option Ack) CollectError). IsShort r) (sym c.collect.ensures.answer)
    (subst (λ (rs : List ReceiptState). IsShort (collect_answer member rs)) (sym c.as_slice.ensures.value)
    (short_first member c.in-Ok.receipts.items c.index.result.now some c.index.ensures small))
