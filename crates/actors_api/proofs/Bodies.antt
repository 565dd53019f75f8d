-- The fault of a body that its reader refused.
use Rattle.std.proofs.Common.{◌≡◌, ◌⊎◌, Result, Err, refl, inl, inr}
use Rattle.api_bodies.specs.declared.error.BodyError.{BodyError}
use Rattle.api_bodies.specs.declared.error.BodyError.TheVariants.{Malformed, OtherNumber, TooLarge, BadSchedule, OutOfMemory}
use Rattle.actors_api.specs.Reading.{Fails, body_fault, of_body}

pub body_fails : {A : Type 0} (reading : Result A BodyError) (error : BodyError) → (error ≡ OutOfMemory) ⊎ (reading ≡ Err error) → Fails (body_fault error) (of_body reading)
body_fails reading Malformed (inl is) = cc
body_fails reading Malformed (inr is) = rw is refl
body_fails reading OtherNumber (inl is) = cc
body_fails reading OtherNumber (inr is) = rw is refl
body_fails reading (TooLarge index) (inl is) = cc
body_fails reading (TooLarge index) (inr is) = rw is refl
body_fails reading (BadSchedule fault) (inl is) = cc
body_fails reading (BadSchedule fault) (inr is) = rw is refl
body_fails reading OutOfMemory cause = tt
