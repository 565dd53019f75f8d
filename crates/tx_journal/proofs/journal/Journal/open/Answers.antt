use Rattle.tx_journal.proofs.Singles.{one_kept, one_opened, one_refused}
use Rattle.tx_journal.proofs.journal.Journal.open.Goals as goal

pub returns-in-Err-clause-refused : goal.returns-in-Err-clause-refused
returns-in-Err-clause-refused g c = (c.in-Err.ensures.errors, one_refused c.args.create c.in-Err.error (g.D.Disk.told c.args.disk) c.in-Err.ensures.refused)

pub returns-in-Err-clause-crash_refused : goal.returns-in-Err-clause-crash_refused
returns-in-Err-clause-crash_refused g c = one_kept c.args.create (g.D.Disk.told c.args.disk) (g.D.Disk.told c.settle.new.disk) c.settle.ensures.crash

pub returns-in-Ok-settle-clause-opened : goal.returns-in-Ok-settle-clause-opened
returns-in-Ok-settle-clause-opened g c = one_opened c.args.create (c.in-Ok-settle.end, c.in-Ok-settle.format) (g.D.Disk.told c.args.disk) (g.D.Disk.told c.settle.new.disk) c.in-Ok-settle.ensures.opened

pub returns-in-Ok-settle-clause-crash : goal.returns-in-Ok-settle-clause-crash
returns-in-Ok-settle-clause-crash g c = one_kept c.args.create (g.D.Disk.told c.args.disk) (g.D.Disk.told c.settle.new.disk) c.settle.ensures.crash
