use Rattle.store_tables.proofs.tables.StoreTables.order_law.Goals as goal

pub returns : goal.returns
returns c = rw (← c.self.view_is) (record {
  nodes = c.nodes_law.ensures.order;
  lanes = c.nodes_law.ensures.each;
  rows = c.state_law.ensures.order;
  reminders = c.reminder_law.ensures.order;
  timely = c.self.invariant;
})
