-- Types that are treated alike. Own.
use Rattle.std.specs.Prelude.{ℕ, List}
use Rattle.app_texts.specs.declared.treatment.Treatment.{Treatment}

pub record TypeGroup : Type 0 where
  pub types : List (List ℕ)
  pub treatment : Treatment
