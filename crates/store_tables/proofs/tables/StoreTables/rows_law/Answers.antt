use Rattle.store_tables.proofs.RowOrders.{rows_lead, rows_order, small_from}
use Rattle.store_tables.proofs.tables.StoreTables.rows_law.Goals as goal

pub returns-clause-order : goal.returns-clause-order
returns-clause-order c = rw (← c.self.view_is) (rows_order _ c.nodes_law.ensures.order c.nodes_law.ensures.each c.state_law.ensures.order c.reminder_law.ensures.order)

pub returns-clause-restores : goal.returns-clause-restores
returns-clause-restores c = rw (← c.self.view_is) (rows_lead _ (small_from _ c.nodes_law.ensures.limit) c.restored_law.ensures c.state_law.ensures.order c.reminder_law.ensures.order c.self.invariant)
