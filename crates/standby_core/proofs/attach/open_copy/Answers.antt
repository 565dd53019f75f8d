use Rattle.std.proofs.Common.{[], ◌∷◌}
use Rattle.std.proofs.lemmas.Result.{err_from_is_err_and}
use Rattle.frame_wire.specs.declared.mirror.MirrorCommand.TheVariants.{Write, Cut}
use Rattle.standby_core.proofs.Told.{none_done, done_more}
use Rattle.standby_core.proofs.Attached.{cause_tell, cause_err, cause_last, opened_all}
use Rattle.standby_core.proofs.attach.open_copy.Goals as goal

pub returns-in_err-tell_cut-clause-cause : goal.returns-in_err-tell_cut-clause-cause
returns-in_err-tell_cut-clause-cause g c =
    let p = err_from_is_err_and c.from_residual.result c.from_residual.ensures.1 in
    cause_err _ _ _ _ _ _ _ _ _ p.1 p.2 (cause_tell [] (Cut 0) _ _ _ _ _ _ _ _ _ _ (none_done _) c.in_err-tell_cut.ensures.asks)

pub returns-in_err-tell_piece-clause-cause : goal.returns-in_err-tell_piece-clause-cause
returns-in_err-tell_piece-clause-cause g c =
    let p = err_from_is_err_and c.from_residual-in_err-tell_piece.result c.from_residual-in_err-tell_piece.ensures.1 in
    cause_err _ _ _ _ _ _ _ _ _ p.1 p.2 (cause_tell (Cut 0 ∷ []) (Write 0 (0 ∷ [])) _ _ _ _ _ _ _ _ _ _ c.in_ok-tell_cut.ensures.asks.0 c.in_err-tell_piece.ensures.asks)

pub returns-clause-opens : goal.returns-clause-opens
returns-clause-opens g c = opened_all _ _ _ _ _ _ c.tell_sync.result c.in_ok-tell_cut.ensures.asks.0 c.in_ok-tell_piece.ensures.asks.0 c.tell_sync.ensures.asks

pub returns-clause-cause : goal.returns-clause-cause
returns-clause-cause g c =
    cause_last (Cut 0 ∷ Write 0 (0 ∷ []) ∷ []) _ _ _ _ _ _ _ _ _ _ c.tell_sync.result
    (done_more (Cut 0 ∷ []) (Write 0 (0 ∷ []) ∷ []) _ _ _ c.in_ok-tell_cut.ensures.asks.0 c.in_ok-tell_piece.ensures.asks.0) c.tell_sync.ensures.asks
