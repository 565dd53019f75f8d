-- What one dial comes to, whatever is exchanged, and how tries follow each other.
use Rattle.std.proofs.Common.{refl, ◌≡◌, ◌<◌, ◌≤◌, ◌-◌, ℕ, List, [], ◌∷◌, ◌++◌, Option, Some, None, Result, Ok, Err, arith}
use Rattle.actor_ports.specs.declared.port.PortError.TheVariants as ports
use Rattle.actor_ports.specs.Traffic.{Place, Traffic, Dialled, Dials, TakesBack, Counts}
use Rattle.http_edge.specs.Carry.{Carried, Over}
use Rattle.exchanges.specs.Exchanges.{Exchange, Dialling}
use Rattle.exchanges.proofs.Diallings.{none_made, none_dialled, failed_told, link_told, dialling_then}
use Rattle.sidecar_start.specs.declared.end.StartEnd.{StartEnd}
use Rattle.sidecar_start.specs.declared.end.StartEnd.TheVariants.{DialFault, OutOfMemory}
use Rattle.sidecar_start.specs.Tries.{IsTry, AreVain, tried, IsRun}

-- the count of a dialler rises with that of its link
pub link_rises : (f0 f1 f2 l0 l1 : ℕ) → f0 ≤ f1 → l0 ≡ 0 → l0 < l1 → Counts f1 f2 l1 → 0 < f2 - f0
link_rises f0 f1 f2 l0 l1 up z k counts = let h : f1 < f2 = counts.rises.1 (omega arith) in omega arith

-- ---- one try

module _ {T L : Type 0} (look : L → Option Traffic) (Carries : Carried → ℕ → Result (Option T) StartEnd → Type 0) (at : Place) where
  -- a dial for which there was no memory
  pub no_dial : (t0 t1 : Option Dialled) (f0 f1 : ℕ) → Dials look t0 t1 at (Err ports.OutOfMemory) → f0 ≤ f1
      → (xs : List Exchange) × IsTry Carries at xs (Err OutOfMemory) × Dialling xs t0 t1 f0 f1
  no_dial t0 t1 f0 f1 dials up = ([], refl, record { told = none_dialled look t0 t1 at dials; counted = omega arith })

  -- a dial that failed
  pub failed_dial : (t0 t1 : Option Dialled) (f0 f1 : ℕ) → Dials look t0 t1 at (Err ports.Failed) → f0 < f1
      → (xs : List Exchange) × IsTry Carries at xs (Err DialFault) × Dialling xs t0 t1 f0 f1
  failed_dial t0 t1 f0 f1 dials up = (
    record { at = at; link = None; rise = f1 - f0 } ∷ [],
    (refl, ((let h : 0 < f1 - f0 = omega arith in h), refl)),
    record { told = failed_told look t0 t1 at (f1 - f0) dials; counted = omega arith },
  )

  -- a link was dialled, used and given back
  pub one_link :
      (t0 t1 t2 : Option Dialled) (link after : L) (c : Carried) (got : Result (Option T) StartEnd) (f0 f1 f2 l1 : ℕ)
      → Dials look t0 t1 at (Ok link) → f0 ≤ f1 → Over (look link) (look after) c → Carries c (f2 - f0) got
      → TakesBack t1 t2 (look after) → Counts f1 f2 l1
      → (xs : List Exchange) × IsTry Carries at xs got × Dialling xs t0 t2 f0 f2
  one_link t0 t1 t2 link after c got f0 f1 f2 l1 dials up over carries back counts =
      let falls = counts.never_falls in (
        record { at = at; link = Some c; rise = f2 - f0 } ∷ [],
        (refl, carries),
        record { told = link_told look t0 t1 t2 link after at c (f2 - f0) dials over back; counted = omega arith },
      )

-- ---- tries one after the other

module _ {T : Type 0} (Carries : Carried → ℕ → Result (Option T) StartEnd → Type 0) (at : Place) where
  -- so far each came to nothing
  abbrev pub Going : Option Dialled → Option Dialled → ℕ → ℕ → Type 0
  Going t0 t1 f0 f1 = (vain : List Exchange) × AreVain Carries at vain × Dialling vain t0 t1 f0 f1

  pub begins : (t : Option Dialled) (f : ℕ) → Going t t f f
  begins t f = ([], tt, none_made t f)

  vain_then : (xs ys : List Exchange) → AreVain Carries at xs → AreVain Carries at ys → AreVain Carries at (xs ++ ys)
  vain_then [] ys a b = b
  vain_then (x ∷ xs) ys a b = (a.0, vain_then xs ys a.1 b)

  one_vain : (xs : List Exchange) → IsTry Carries at xs (Ok None) → AreVain Carries at xs
  one_vain [] t = absurd (let h : ⊥ = cc in h)
  one_vain (x ∷ []) t = (t, tt)
  one_vain (x ∷ y ∷ xs) t = absurd t

  -- one more try that came to nothing
  pub goes_on : (t0 t1 t2 : Option Dialled) (f0 f1 f2 : ℕ) → Going t0 t1 f0 f1
      → (xs : List Exchange) × IsTry Carries at xs (Ok None) × Dialling xs t1 t2 f1 f2
      → Going t0 t2 f0 f2
  goes_on t0 t1 t2 f0 f1 f2 going x = (
    going.0 ++ x.0,
    vain_then going.0 x.0 going.1 (one_vain x.0 x.1),
    dialling_then going.0 x.0 t0 t1 t2 f0 f1 f2 going.2 x.2,
  )

  -- the last try
  pub ends_with : (t0 t1 t2 : Option Dialled) (f0 f1 f2 : ℕ) (got : Result T StartEnd) → Going t0 t1 f0 f1
      → (xs : List Exchange) × IsTry Carries at xs (tried got) × Dialling xs t1 t2 f1 f2
      → (xs : List Exchange) × IsRun Carries at xs got × Dialling xs t0 t2 f0 f2
  ends_with t0 t1 t2 f0 f1 f2 got going x = (
    going.0 ++ x.0,
    record { vain = going.0; last = x.0; are = refl; in_vain = going.1; ends = x.1 },
    dialling_then going.0 x.0 t0 t1 t2 f0 f1 f2 going.2 x.2,
  )

  -- no try was made, since memory ran out
  pub none_tried : (t : Option Dialled) (f : ℕ) → (xs : List Exchange) × IsRun Carries at xs (Err OutOfMemory) × Dialling xs t t f f
  none_tried t f = ([], record { vain = []; last = []; are = refl; in_vain = tt; ends = refl }, none_made t f)
