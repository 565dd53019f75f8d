-- A world's refusals, as those of a world with leases. Own.
use Rattle.world_events.specs.declared.error.WorldError.{WorldError}
use Rattle.world_events.specs.declared.error.WorldError.TheVariants as refused
use Rattle.lease_core.specs.declared.error.LeaseError.{LeaseError}
use Rattle.lease_core.specs.declared.error.LeaseError.TheVariants as errors

-- a world's refusals keep their causes
abbrev pub cause_of : WorldError → LeaseError
cause_of (refused.Spent count) = errors.Spent count
cause_of (refused.Dishonest m) = errors.Dishonest m
cause_of (refused.WrongNumber next) = errors.WrongNumber next
cause_of refused.OutOfMemory = errors.OutOfMemory
