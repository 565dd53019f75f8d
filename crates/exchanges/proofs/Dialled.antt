-- What one dial, one exchange over its link and the link given back come to, whatever is exchanged.
use Rattle.std.proofs.Common.{refl, ◌≡◌, ◌<◌, ◌≤◌, ◌-◌, ℕ, List, [], ◌∷◌, Option, Some, None, Ok, Err, arith}
use Rattle.actor_ports.specs.declared.port.PortError.TheVariants as ports
use Rattle.actor_ports.specs.Traffic.{Place, Traffic, Dialled, Dials, TakesBack, Counts}
use Rattle.http_edge.specs.Carry.{Carried, Over}
use Rattle.exchanges.specs.Exchanges.{Exchange, Dialling, IsExchange}
use Rattle.exchanges.proofs.Diallings.{none_dialled, failed_told, link_told}

module _ {L G : Type 0} (look : L → Option Traffic) (fault memory : G) (Carries : Carried → G → Type 0) (at : Place) where
  -- a dial for which there was no memory
  pub no_dial : (t0 t1 : Option Dialled) (f0 f1 : ℕ) → Dials look t0 t1 at (Err ports.OutOfMemory) → f0 ≤ f1
      → (xs : List Exchange) × IsExchange fault memory Carries at xs memory × Dialling xs t0 t1 f0 f1
  no_dial t0 t1 f0 f1 dials up = ([], refl, record { told = none_dialled look t0 t1 at dials; counted = omega arith })

  -- a dial that failed
  pub failed_dial : (t0 t1 : Option Dialled) (f0 f1 : ℕ) → Dials look t0 t1 at (Err ports.Failed) → f0 < f1
      → (xs : List Exchange) × IsExchange fault memory Carries at xs fault × Dialling xs t0 t1 f0 f1
  failed_dial t0 t1 f0 f1 dials up = (
    record { at = at; link = None; rise = f1 - f0 } ∷ [],
    (refl, ((let h : 0 < f1 - f0 = omega arith in h), refl)),
    record { told = failed_told look t0 t1 at (f1 - f0) dials; counted = omega arith },
  )

  -- an exchange over a link, which was given back
  pub one_exchange :
      (t0 t1 t2 : Option Dialled) (link after : L) (c : Carried) (got : G) (f0 f1 f2 l0 l1 : ℕ)
      → Dials look t0 t1 at (Ok link) → f0 ≤ f1 → l0 ≡ 0
      → Over (look link) (look after) c → Carries c got → (got ≡ fault → l0 < l1)
      → TakesBack t1 t2 (look after) → Counts f1 f2 l1
      → (xs : List Exchange) × IsExchange fault memory Carries at xs got × Dialling xs t0 t2 f0 f2
  one_exchange t0 t1 t2 link after c got f0 f1 f2 l0 l1 dials up z over carries rises back counts =
      let falls = counts.never_falls in (
        record { at = at; link = Some c; rise = f2 - f0 } ∷ [],
        (refl, (carries, (λ e. let k = rises e in let h : f1 < f2 = counts.rises.1 (omega arith) in omega arith))),
        record { told = link_told look t0 t1 t2 link after at c (f2 - f0) dials over back; counted = omega arith },
      )
