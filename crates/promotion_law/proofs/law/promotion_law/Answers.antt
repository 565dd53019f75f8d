use Rattle.promotion_law.proofs.Openings.{promotes_opening, refuses_opening}
use Rattle.promotion_law.proofs.Promoting.{promotes, refuses_promotion}
use Rattle.promotion_law.proofs.UnderWay.{calls_within, promotes_within, refuses_within}
use Rattle.promotion_law.proofs.law.promotion_law.Goals as goal

pub returns : goal.returns
returns c =
    let image = c.image_law.ensures in
    let law = c.node_law.ensures in
    record {
      opens = promotes law.crash law.opens_left;
      refused = refuses_promotion law.crash law.refused;
      calls = calls_within image.answered;
      under_way = promotes_within image.under_way law.steps law.opens_left;
      refused_under_way = refuses_within image.under_way law.steps law.refused;
      opening = promotes_opening image.under_way law.opening law.opens_left;
      refused_opening = refuses_opening image.under_way law.opening law.refused;
    }
