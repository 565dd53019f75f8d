use Rattle.std.proofs.Common.{◌≤◌, ◌-◌, ◌∙◌, sym, arith}
use Rattle.std.proofs.lemmas.Result.{err_from_is_err_and}
use Rattle.standby_core.proofs.Attached.{sent_to_more, cause_tell, cause_err, read_piece, read_is, enough_left}
use Rattle.standby_core.proofs.attach.copy_rest.Goals as goal

pub returns-in_err-tell_piece-clause-cause : goal.returns-in_err-tell_piece-clause-cause
returns-in_err-tell_piece-clause-cause g c =
    let p = err_from_is_err_and c.from_residual-in_err-tell_piece.result c.from_residual-in_err-tell_piece.ensures.1 in
    cause_err _ _ _ _ _ _ _ _ _ p.1 p.2 (cause_tell c.loop-at.invariant.sent.calls _ _ _ _ _ _ _ _ _ _ _ c.loop-at.invariant.sent.done c.in_err-tell_piece.ensures.asks)

pub loop-at-preserved : goal.loop-at-preserved
loop-at-preserved g c =
    let few : c.min-most.result ≤ c.in_ok-len.len - c.loop-at.at = omega (arith, c.min-most.ensures) in
    record {
      sent = sent_to_more (g.D.Disk.told c.len.new.self) c.loop-at.at c.in_ok-count.count c.min-most.result c.as_slice.result.now _ _ _ c.loop-at.invariant.sent
          (read_piece _ _ _ _ c.clear.ensures.items c.in_ok-count.ensures.appends c.as_slice.ensures.value)
          (omega (arith, c.in_ok-count.ensures.most, c.min-most.ensures))
          (λ s is. read_is _ _ _ _ _ _ s c.clear.ensures.items (c.in_ok-count.ensures.read s (c.loop-at.invariant.same ∙ is)) c.as_slice.ensures.value)
          (λ s is. enough_left _ _ _ s (c.in_ok-len.ensures.length s (sym c.len.ensures.same ∙ is)) few)
          c.in_ok-tell_piece.ensures.asks.0;
      same = c.read.ensures.same ∙ c.loop-at.invariant.same;
      unheard = c.in_ok-tell_piece.ensures.asks.1 ∙ c.loop-at.invariant.unheard;
      disk = omega (arith, c.loop-at.invariant.disk, c.in_ok-count.ensures.cause);
      link = omega (arith, c.loop-at.invariant.link, c.in_ok-tell_piece.ensures.cause, c.in_ok-tell_piece.ensures.asks.1, c.loop-at.invariant.unheard);
    }
