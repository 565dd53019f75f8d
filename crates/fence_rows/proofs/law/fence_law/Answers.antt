use Rattle.fence_rows.proofs.Steps.{never_falls, crash_keeps}
use Rattle.fence_rows.proofs.Writes.{accepts_at_least, refuses_earlier}
use Rattle.fence_rows.proofs.Apart.{tells_apart}
use Rattle.fence_rows.proofs.Given.{keeps_acknowledged, risks_one}
use Rattle.fence_rows.proofs.law.fence_law.Goals as goal

pub returns : goal.returns
returns c = record {
  never_falls = never_falls;
  crash = crash_keeps;
  at_least = accepts_at_least;
  earlier = refuses_earlier;
  apart = tells_apart;
  keeps = keeps_acknowledged c.store_law.ensures.keeps c.store_law.ensures.once;
  risks = risks_one c.store_law.ensures.keeps c.store_law.ensures.once c.store_law.ensures.risks;
}
