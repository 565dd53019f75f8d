-- Whether a row was taken in, by the answer of the lanes. Own.
use Rattle.std.specs.Prelude.{◌≡◌, true, false, Bool, Result, Ok, Err, IsErr}
use Rattle.stamp_lanes.specs.declared.error.RestoreError.{RestoreError}
use Rattle.stamp_lanes.specs.declared.error.RestoreError.TheVariants.{SameNode, OtherBoot, SameLane, TooManyNumbers, SameNumber, OutOfMemory}

-- taken in, out of memory, or refused for any other cause
abbrev pub TakesRow : {T E : Type 0} → Result T RestoreError → Result Bool E → Type 0
TakesRow (Ok x) result = result ≡ Ok true
TakesRow (Err OutOfMemory) result = IsErr result
TakesRow (Err SameNode) result = result ≡ Ok false
TakesRow (Err (OtherBoot greatest)) result = result ≡ Ok false
TakesRow (Err SameLane) result = result ≡ Ok false
TakesRow (Err (TooManyNumbers n)) result = result ≡ Ok false
TakesRow (Err (SameNumber number)) result = result ≡ Ok false
