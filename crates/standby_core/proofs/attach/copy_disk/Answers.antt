use Rattle.std.proofs.Common.{[], ◌∷◌, ◌++◌, Option, Ok, subst}
use Rattle.std.proofs.lemmas.Result.{err_from_is_err_and}
use Rattle.disk_model.specs.Disk.{DiskState}
use Rattle.frame_wire.specs.declared.mirror.MirrorCommand.TheVariants.{Sync}
use Rattle.standby_core.specs.Replicas.{opening_calls, first_call}
use Rattle.standby_core.specs.Attaching.{SendsBehind}
use Rattle.standby_core.proofs.Told.{done_more}
use Rattle.standby_core.proofs.Attached.{cause_tell, cause_behind, cause_err, cause_last, attached_by}
use Rattle.standby_core.proofs.attach.copy_disk.Goals as goal

pub returns-in_err-copy_behind-clause-cause : goal.returns-in_err-copy_behind-clause-cause
returns-in_err-copy_behind-clause-cause g c =
    let p = err_from_is_err_and c.from_residual-in_err-copy_behind.result c.from_residual-in_err-copy_behind.ensures.1 in
    cause_err _ _ _ _ _ _ _ _ _ p.1 p.2 (cause_behind (opening_calls []) _ _ _ _ _ _ _ _ _ _ c.in_ok-open_copy.ensures.opens c.in_ok-first.ensures.cause c.in_ok-open_copy.ensures.link c.in_err-copy_behind.ensures.cause)

pub returns-in_err-tell_sync-clause-cause : goal.returns-in_err-tell_sync-clause-cause
returns-in_err-tell_sync-clause-cause g c =
    let p = err_from_is_err_and c.from_residual-in_err-tell_sync.result c.from_residual-in_err-tell_sync.ensures.1 in
    let sends = c.in_ok-copy_behind.ensures.sends in
    cause_err _ _ _ _ _ _ _ _ _ p.1 p.2 (cause_tell (opening_calls [] ++ sends.1) Sync _ _ _ _ _ _ _ _ _ _ (done_more (opening_calls []) sends.1 _ _ _ c.in_ok-open_copy.ensures.opens sends.5) c.in_err-tell_sync.ensures.asks)

pub returns-in_err-tell_first-clause-cause : goal.returns-in_err-tell_first-clause-cause
returns-in_err-tell_first-clause-cause g c =
    let p = err_from_is_err_and c.from_residual-in_err-tell_first.result c.from_residual-in_err-tell_first.ensures.1 in
    let sends = c.in_ok-copy_behind.ensures.sends in
    cause_err _ _ _ _ _ _ _ _ _ p.1 p.2
    (cause_tell (opening_calls [] ++ sends.1 ++ Sync ∷ []) (first_call c.in_ok-first.first) _ _ _ _ _ _ _ _ _ _
    (done_more (opening_calls [] ++ sends.1) (Sync ∷ []) _ _ _ (done_more (opening_calls []) sends.1 _ _ _ c.in_ok-open_copy.ensures.opens sends.5) c.in_ok-tell_sync.ensures.asks.0) c.in_err-tell_first.ensures.asks)

pub returns-clause-attaches : goal.returns-clause-attaches
returns-clause-attaches g c =
    attached_by (g.D.Disk.told c.args.disk.now) _ _ _ _ _ _ c.in_ok-first.first _ _ c.tell_sync-2.result c.in_ok-first.ensures.reads c.in_ok-open_copy.ensures.opens
    (subst (λ (x : Option DiskState). SendsBehind c.in_ok-first.first x (g.L.Source.read_traffic c.open_copy.new.replica.link) (g.L.Source.read_traffic c.copy_behind.new.replica.link) (Ok tt)) c.read_first.ensures.same c.in_ok-copy_behind.ensures.sends)
    c.in_ok-tell_sync.ensures.asks.0 c.in_ok-tell_first.ensures.asks.0 c.tell_sync-2.ensures.asks

pub returns-clause-cause : goal.returns-clause-cause
returns-clause-cause g c =
    let sends = c.in_ok-copy_behind.ensures.sends in
    cause_last (opening_calls [] ++ sends.1 ++ Sync ∷ [] ++ first_call c.in_ok-first.first ∷ []) _ _ _ _ _ _ _ _ _ _ c.tell_sync-2.result
    (done_more (opening_calls [] ++ sends.1 ++ Sync ∷ []) (first_call c.in_ok-first.first ∷ []) _ _ _
    (done_more (opening_calls [] ++ sends.1) (Sync ∷ []) _ _ _ (done_more (opening_calls []) sends.1 _ _ _ c.in_ok-open_copy.ensures.opens sends.5) c.in_ok-tell_sync.ensures.asks.0) c.in_ok-tell_first.ensures.asks.0) c.tell_sync-2.ensures.asks
