-- The range of moments. Own.
use Rattle.std.specs.Prelude.{ℕ, ℤ, pos, negsuc, nat_lt, if◌then◌else◌, Option, Some, None}

-- 9999-01-01T00:00:00Z in nanoseconds since 1970, which is past the last moment
abbrev pub end_of_time : ℕ
end_of_time = 253370764800000000000

-- the moment that many nanoseconds after 1970, if it is one
abbrev pub moment_of : ℕ → Option ℕ
moment_of nanos = if nat_lt nanos end_of_time then Some nanos else None

-- the same for a count that may be negative; a negative one is no moment
abbrev pub moment_from : ℤ → Option ℕ
moment_from (pos nanos) = moment_of nanos
moment_from (negsuc nanos) = None
