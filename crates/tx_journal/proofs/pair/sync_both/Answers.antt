use Rattle.disk_model.proofs.Stages.{tells_map}
use Rattle.tx_journal.proofs.Founds.{synced_any}
use Rattle.tx_journal.proofs.pair.sync_both.Goals as goal

pub returns-then-is_err-clause-first : goal.returns-then-is_err-clause-first
returns-then-is_err-clause-first g c = tells_map _ _ _ _ (synced_any c.sync.result) c.sync.ensures.synced

pub returns-then-is_err-2-clause-first : goal.returns-then-is_err-2-clause-first
returns-then-is_err-2-clause-first g c = tells_map _ _ _ _ (synced_any c.sync.result) c.sync.ensures.synced

pub returns-then-is_err-2-clause-second : goal.returns-then-is_err-2-clause-second
returns-then-is_err-2-clause-second g c = tells_map _ _ _ _ (synced_any c.sync-2.result) c.sync-2.ensures.synced

pub returns-clause-first : goal.returns-clause-first
returns-clause-first g c = tells_map _ _ _ _ (synced_any c.sync.result) c.sync.ensures.synced

pub returns-clause-second : goal.returns-clause-second
returns-clause-second g c = tells_map _ _ _ _ (synced_any c.sync-2.result) c.sync-2.ensures.synced
