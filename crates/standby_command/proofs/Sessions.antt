-- Sessions, one after the other.
use Rattle.std.proofs.Common.{◌≡◌, ◌∙◌, ◌⊎◌, inl, inr, ℕ, ◌+◌, ◌<◌, ◌≤◌, List, [], ◌∷◌, ◌++◌, length, Option, Some, None, refl, sym, ap, subst, arith, length-append}
use Rattle.actor_ports.specs.declared.port.PortError.{PortError}
use Rattle.actor_ports.specs.declared.port.PortError.TheVariants as ports
use Rattle.actor_ports.specs.declared.session.SessionEnd.{SessionEnd}
use Rattle.actor_ports.specs.declared.session.SessionEnd.TheVariants as sessions
use Rattle.actor_ports.specs.Traffic.{Traffic}
use Rattle.disk_model.specs.Disk.{DiskState}
use Rattle.standby_session.specs.Sessions.{IsStandby, BrokenCause}
use Rattle.standby_command.specs.declared.command.StandbyEnd.{StandbyEnd}
use Rattle.standby_command.specs.declared.command.StandbyEnd.TheVariants as ends
use Rattle.standby_command.specs.Runs.{Served, next_end, ServesOn, Serves, ServesNext}

-- one session more
serves_more : (sessions : List Served) (d0 mid d1 : Option DiskState) (s : Served) → ServesOn sessions d0 mid → IsStandby mid d1 s.before s.after s.end → next_end s.end ≡ None → ServesOn (sessions ++ s ∷ []) d0 d1
serves_more [] d0 mid d1 s on is goes = (d1, subst (λ (d : Option DiskState). IsStandby d d1 s.before s.after s.end) on is, goes, refl)
serves_more (x ∷ more) d0 mid d1 s on is goes = (on.0, on.1, on.2, serves_more more on.0 mid d1 s on.3 is goes)

-- so many sessions were served
abbrev pub HasServed : ℕ → Option DiskState → Option DiskState → Type 0
HasServed n d0 d1 = (sessions : List Served) × (length sessions ≡ n) × ServesOn sessions d0 d1

pub served_none : (d : Option DiskState) → HasServed 0 d d
served_none d = ([], refl, refl)

pub served_more : (n : ℕ) (d0 mid d1 : Option DiskState) → HasServed n d0 mid → ServesNext mid d1 None → HasServed (n + 1) d0 d1
served_more n d0 mid d1 has next = (
  has.0 ++ next.0 ∷ [],
  length-append has.0 (next.0 ∷ []) ∙ ap (λ (k : ℕ). k + 1) has.1,
  serves_more has.0 d0 mid d1 next.0 has.2 next.1 next.2,
)

-- sessions, however many
abbrev pub HasServedSome : Option DiskState → Option DiskState → Type 0
HasServedSome d0 d1 = (n : ℕ) × HasServed n d0 d1

pub some_more : (d0 mid d1 : Option DiskState) → HasServedSome d0 mid → ServesNext mid d1 None → HasServedSome d0 d1
some_more d0 mid d1 has next = (has.0 + 1, served_more has.0 d0 mid d1 has.1 next)

-- what ended the command behind them
pub ends_by : (most : Option ℕ) (n : ℕ) (d0 mid d1 : Option DiskState) (end : StandbyEnd) → HasServed n d0 mid → ServesNext mid d1 (Some end) → Serves most d0 d1 end
ends_by most n d0 mid d1 ends.Done has next = absurd next
ends_by most n d0 mid d1 ends.PortFault has next = (has.0, mid, has.2, next)
ends_by most n d0 mid d1 ends.OutOfMemory has next = (has.0, mid, has.2, next)
ends_by most n d0 mid d1 ends.DiskFault has next = (has.0, mid, has.2, next)

-- as many as were asked for
pub done_all : (most n : ℕ) (d0 d1 : Option DiskState) → n ≡ most → HasServed n d0 d1 → Serves (Some most) d0 d1 ends.Done
done_all most n d0 d1 all has = (has.0, d1, has.2, (ap (λ (k : ℕ). Some k) (sym all ∙ sym has.1), refl))

-- ---- the next session

-- no further connection was accepted, or there was no memory for one
pub none_next : (d : Option DiskState) (end : StandbyEnd) (e : PortError) → (((end ≡ ends.PortFault) × (e ≡ ports.Failed)) ⊎ (end ≡ ends.OutOfMemory)) → ServesNext d d (Some end)
none_next d end e (inl is) = subst (λ (x : StandbyEnd). ServesNext d d (Some x)) (sym is.0) refl
none_next d end e (inr is) = subst (λ (x : StandbyEnd). ServesNext d d (Some x)) (sym is) refl

-- one was served
session_next : (d0 d1 : Option DiskState) (t0 t1 : Option Traffic) (end : SessionEnd) → IsStandby d0 d1 t0 t1 end → ServesNext d0 d1 (next_end end)
session_next d0 d1 t0 t1 (sessions.Broken n) is = (record { before = t0; after = t1; end = sessions.Broken n }, is, refl)
session_next d0 d1 t0 t1 (sessions.Done n) is = (record { before = t0; after = t1; end = sessions.Done n }, is, refl)
session_next d0 d1 t0 t1 (sessions.Malformed n) is = (record { before = t0; after = t1; end = sessions.Malformed n }, is, refl)
session_next d0 d1 t0 t1 (sessions.ConnFault n) is = (record { before = t0; after = t1; end = sessions.ConnFault n }, is, refl)
session_next d0 d1 t0 t1 (sessions.OutOfMemory n) is = (record { before = t0; after = t1; end = sessions.OutOfMemory n }, is, refl)
session_next d0 d1 t0 t1 (sessions.Spent n count) is = (record { before = t0; after = t1; end = sessions.Spent n count }, is, refl)

pub one_next : (d0 d1 : Option DiskState) (t0 t1 : Option Traffic) (end : SessionEnd) (o : Option StandbyEnd) → o ≡ next_end end → IsStandby d0 d1 t0 t1 end → ServesNext d0 d1 o
one_next d0 d1 t0 t1 end o same is = subst (λ (x : Option StandbyEnd). ServesNext d0 d1 x) (sym same) (session_next d0 d1 t0 t1 end is)

-- the disk's count rose if it ended the command
pub one_cause : (a b : ℕ) (end : SessionEnd) → BrokenCause a b end → (a ≤ b) × (next_end end ≡ Some ends.DiskFault → a < b)
one_cause a b (sessions.Broken n) cause = (omega (arith, cause), λ is. cause)
one_cause a b (sessions.Done n) cause = (cause, λ is. let never : ⊥ = cc in absurd never)
one_cause a b (sessions.Malformed n) cause = (cause, λ is. let never : ⊥ = cc in absurd never)
one_cause a b (sessions.ConnFault n) cause = (cause, λ is. let never : ⊥ = cc in absurd never)
one_cause a b (sessions.OutOfMemory n) cause = (cause, λ is. let never : ⊥ = cc in absurd never)
one_cause a b (sessions.Spent n count) cause = (cause, λ is. let never : ⊥ = cc in absurd never)
