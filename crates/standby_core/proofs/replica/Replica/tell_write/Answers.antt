use Rattle.std.proofs.Common.{◌≤◌, ◌∙◌, length, arith}
use Rattle.std.proofs.lemmas.Result.{err_from_is_err_and}
use Rattle.frame_wire.specs.Mirrors.{most_piece}
use Rattle.standby_core.proofs.Mirrored.{sent_more, sent_lost, asks_err, cut_at}
use Rattle.standby_core.proofs.replica.Replica.tell_write.Goals as goal

pub returns-in_err-tell_behind-clause-asks : goal.returns-in_err-tell_behind-clause-asks
returns-in_err-tell_behind-clause-asks g c =
    let p = err_from_is_err_and c.from_residual.result c.from_residual.ensures.1 in
    let few : length c.split_at.result.0.now ≤ most_piece = omega (arith, c.split_at.ensures.front_len, c.min.ensures) in
    asks_err _ _ _ _ _ _ _ _ _ p.1 p.2
    (sent_lost c.args.at c.args.bytes.now c.loop-rest.rest.now c.split_at.result.0.now c.split_at.result.1.now c.loop-rest.sent _ _ _ _ _ _ _ c.loop-rest.invariant.sent (cut_at c.min.result _ _ _ c.split_at.ensures.front c.split_at.ensures.back) few c.loop-rest.invariant.unheard c.in_err-tell_behind.ensures.asks)

pub loop-rest-preserved : goal.loop-rest-preserved
loop-rest-preserved g c =
    let few : length c.split_at.result.0.now ≤ most_piece = omega (arith, c.split_at.ensures.front_len, c.min.ensures) in
    record {
      sent = sent_more c.args.at c.args.bytes.now c.loop-rest.rest.now c.split_at.result.0.now c.split_at.result.1.now c.loop-rest.sent _ _ _ c.loop-rest.invariant.sent (cut_at c.min.result _ _ _ c.split_at.ensures.front c.split_at.ensures.back) few c.in_ok-tell_behind.ensures.asks.0;
      unheard = c.in_ok-tell_behind.ensures.asks.1 ∙ c.loop-rest.invariant.unheard;
      faults = omega (arith, c.loop-rest.invariant.faults, c.in_ok-tell_behind.ensures.cause, c.in_ok-tell_behind.ensures.asks.1);
    }
