use Rattle.std.proofs.Common.{refl}
use Rattle.sidecar_server.proofs.beats.tell_watch.Goals as goal

pub returns-in-Ok-None-clause-tells : goal.returns-in-Ok-None-clause-tells
returns-in-Ok-None-clause-tells g c = record {
  reply = c.call_in.result;
  entry = c.call_in.ensures.entry;
  spent = c.call_in.ensures.spent;
  follows = rw (c.in-Ok-None.is, c.in-Ok-None.field-0-is) refl;
}

pub returns-in-Ok-Some-clause-tells : goal.returns-in-Ok-Some-clause-tells
returns-in-Ok-Some-clause-tells g c = rw c.stop.ensures.watch (record {
  reply = c.call_in.result;
  entry = c.call_in.ensures.entry;
  spent = c.call_in.ensures.spent;
  follows = rw (c.in-Ok-Some.is, c.in-Ok-Some.field-0-is) c.stop.ensures.stops;
})

pub returns-in-Err-clause-tells : goal.returns-in-Err-clause-tells
returns-in-Err-clause-tells g c = rw c.stop-in-Err.ensures.watch (record {
  reply = c.call_in.result;
  entry = c.call_in.ensures.entry;
  spent = c.call_in.ensures.spent;
  follows = rw c.in-Err.is c.stop-in-Err.ensures.stops;
})
