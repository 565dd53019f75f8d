use Rattle.sidecar_requests.proofs.asking.ask_with.Goals as goal

pub returns-in-Transact : goal.returns-in-Transact
returns-in-Transact g c = let x = c.ask_fenced.ensures in (x.0, rw c.in-Transact.is x.1, x.2)

pub returns-in-GetState : goal.returns-in-GetState
returns-in-GetState g c = let x = c.ask_store.ensures in (x.0, rw c.in-GetState.is x.1, x.2)

pub returns-in-PutReminder : goal.returns-in-PutReminder
returns-in-PutReminder g c = let x = c.ask_store-in-PutReminder.ensures in (x.0, rw c.in-PutReminder.is x.1, x.2)

pub returns-in-GetReminder : goal.returns-in-GetReminder
returns-in-GetReminder g c = let x = c.ask_store-in-GetReminder.ensures in (x.0, rw c.in-GetReminder.is x.1, x.2)

pub returns-in-DeleteReminder : goal.returns-in-DeleteReminder
returns-in-DeleteReminder g c = let x = c.ask_store-in-DeleteReminder.ensures in (x.0, rw c.in-DeleteReminder.is x.1, x.2)
