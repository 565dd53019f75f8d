-- What one dial, one exchange over its link and the link given back come to; exchanges add up.
use Rattle.std.proofs.Common.{sym, refl, ap, ap₂, append_assoc, subst, ◌∙◌, ◌≡◌, ◌<◌, ◌≤◌, ◌-◌, ℕ, ◌+◌, List, [], ◌∷◌, ◌++◌, map, Option, Some, None, Ok, Err, arith}
use Rattle.std.proofs.lemmas.List.{append-nil}
use Rattle.actor_ports.specs.declared.port.PortError.TheVariants as ports
use Rattle.actor_ports.specs.Traffic.{Place, Traffic, Dialled, Returned, Dials, IsNewLink, TakesBack, Counts, returned}
use Rattle.http_edge.specs.declared.error.EdgeError.TheVariants.{ConnFault, OutOfMemory}
use Rattle.http_edge.specs.Carry.{Carried, Over}
use Rattle.http_edge.specs.Requests.{EdgeCause}
use Rattle.http_edge.specs.Exchanges.{Exchanges}
use Rattle.exchanges.specs.Exchanges.{Exchange, Tells, Dialling, links_of, link_of, place_of, total_rise}
use Rattle.exchanges.specs.Replies.{Got, IsHttpExchange}
use Rattle.exchanges.proofs.Replied.{gives_alone}

-- ---- no exchange

none_told : (t : Option Dialled) → Tells [] t t
none_told None = tt
none_told (Some d) = rw (append-nil d.places, append-nil d.links) refl

same_told : (t u : Option Dialled) → u ≡ t → Tells [] t u
same_told t u e = subst (λ (m : Option Dialled). Tells [] t m) (sym e) (none_told t)

-- there was no memory for a dial
pub none_dialled : {L : Type 0} (look : L → Option Traffic) (t0 t1 : Option Dialled) (at : Place) → Dials look t0 t1 at (Err ports.OutOfMemory) → Tells [] t0 t1
none_dialled look None t1 at dials = tt
none_dialled look (Some d) t1 at dials = same_told (Some d) t1 dials

-- a dial for which there was no memory
pub no_dial : {L : Type 0} (look : L → Option Traffic) (text : List ℕ) (t0 t1 : Option Dialled) (at : Place) (f0 f1 : ℕ) → Dials look t0 t1 at (Err ports.OutOfMemory) → f0 ≤ f1
    → (xs : List Exchange) × IsHttpExchange text at xs (Err OutOfMemory) × Dialling xs t0 t1 f0 f1
no_dial look text t0 t1 at f0 f1 dials up = ([], refl, record { told = none_dialled look t0 t1 at dials; counted = omega arith })

-- no exchange was to be made
pub none_made : (t : Option Dialled) (f : ℕ) → Dialling [] t t f f
none_made t f = record { told = none_told t; counted = omega arith }

-- no exchange was made, since memory ran out
pub no_exchange : (text : List ℕ) (t : Option Dialled) (at : Place) (f : ℕ) → (xs : List Exchange) × IsHttpExchange text at xs (Err OutOfMemory) × Dialling xs t t f f
no_exchange text t at f = ([], refl, none_made t f)

-- ---- one exchange

linked : (d : Dialled) (t1 t2 : Option Dialled) (l m : Option Traffic) (at : Place) (c : Carried)
    → t1 ≡ Some (record d { places = d.places ++ at ∷ [] }) → IsNewLink at l → Over l m c → TakesBack t1 t2 m
    → t2 ≡ Some (record { places = d.places ++ at ∷ []; links = d.links ++ record { at = at; read = c.read; written = c.written } ∷ [] })
linked d t1 t2 None m at c e new over back = absurd new
linked d t1 t2 (Some t) m at c e new over back =
    let after : Traffic = record { at = t.at; read = t.read ++ c.read; left = over.0; written = t.written ++ c.written } in
    let q : TakesBack (Some (record d { places = d.places ++ at ∷ [] })) t2 (Some after) =
    subst (λ (a : Option Dialled). TakesBack a t2 (Some after)) e (subst (λ (b : Option Traffic). TakesBack t1 t2 b) over.2 back) in
    let r : returned after ≡ record { at = at; read = c.read; written = c.written } = rw (new.0, new.1, new.2) refl in
    q ∙ ap (λ (x : Returned). Some (record { places = d.places ++ at ∷ []; links = d.links ++ x ∷ [] })) r

-- a link was dialled, used and given back
pub link_told :
    {L : Type 0} (look : L → Option Traffic) (t0 t1 t2 : Option Dialled) (link after : L) (at : Place) (c : Carried) (rise : ℕ)
    → Dials look t0 t1 at (Ok link) → Over (look link) (look after) c → TakesBack t1 t2 (look after)
    → Tells (record { at = at; link = Some c; rise = rise } ∷ []) t0 t2
link_told look None t1 t2 link after at c rise dials over back = tt
link_told look (Some d) t1 t2 link after at c rise dials over back = linked d t1 t2 (look link) (look after) at c dials.0 dials.1 over back

fault_rises : (f1 f2 l0 l1 : ℕ) (got : Got) → l0 ≡ 0 → EdgeCause l0 l1 got → Counts f1 f2 l1 → got ≡ Err ConnFault → f1 < f2
fault_rises f1 f2 l0 l1 got z cause counts e =
    let k : l0 < l1 = subst (λ (g : Got). EdgeCause l0 l1 g) e cause in
    counts.rises.1 (omega arith)

pub one_exchange :
    {L : Type 0} (look : L → Option Traffic) (text : List ℕ) (t0 t1 t2 : Option Dialled) (link after : L) (at : Place) (got : Got) (f0 f1 f2 l0 l1 : ℕ)
    → Dials look t0 t1 at (Ok link) → f0 ≤ f1 → l0 ≡ 0
    → Exchanges text (look link) (look after) got → EdgeCause l0 l1 got
    → TakesBack t1 t2 (look after) → Counts f1 f2 l1
    → (xs : List Exchange) × IsHttpExchange text at xs got × Dialling xs t0 t2 f0 f2
one_exchange look text t0 t1 t2 link after at got f0 f1 f2 l0 l1 dials up z x cause back counts =
    let falls = counts.never_falls in (
      record { at = at; link = Some x.0; rise = f2 - f0 } ∷ [],
      (
        refl,
        (
          record { after = look after; gives = gives_alone text x.0 (look link) (look after) got x.2; settles = x.3 },
          (λ e. let h = fault_rises f1 f2 l0 l1 got z cause counts e in omega arith),
        ),
      ),
      record { told = link_told look t0 t1 t2 link after at x.0 (f2 - f0) dials x.1 back; counted = omega arith },
    )

-- a dial that failed left no link
pub failed_told : {L : Type 0} (look : L → Option Traffic) (t0 t1 : Option Dialled) (at : Place) (rise : ℕ) → Dials look t0 t1 at (Err ports.Failed) → Tells (record { at = at; link = None; rise = rise } ∷ []) t0 t1
failed_told look None t1 at rise dials = tt
failed_told look (Some d) t1 at rise dials = dials ∙ ap (λ (l : List Returned). Some (record { places = d.places ++ at ∷ []; links = l })) (sym (append-nil d.links))

-- a dial that failed
pub failed_dial :
    {L : Type 0} (look : L → Option Traffic) (text : List ℕ) (t0 t1 : Option Dialled) (at : Place) (f0 f1 : ℕ)
    → Dials look t0 t1 at (Err ports.Failed) → f0 < f1
    → (xs : List Exchange) × IsHttpExchange text at xs (Err ConnFault) × Dialling xs t0 t1 f0 f1
failed_dial look text t0 t1 at f0 f1 dials up = (
  record { at = at; link = None; rise = f1 - f0 } ∷ [],
  (refl, ((let h : 0 < f1 - f0 = omega arith in h), refl)),
  record { told = failed_told look t0 t1 at (f1 - f0) dials; counted = omega arith },
)

-- ---- exchanges add up

places_then : (xs ys : List Exchange) → map place_of (xs ++ ys) ≡ map place_of xs ++ map place_of ys
places_then [] ys = refl
places_then (x ∷ xs) ys = ap (λ (l : List Place). x.at ∷ l) (places_then xs ys)

links_then : (xs ys : List Exchange) → links_of (xs ++ ys) ≡ links_of xs ++ links_of ys
links_then [] ys = refl
links_then (x ∷ xs) ys = ap (λ (l : List Returned). link_of x.at x.link ++ l) (links_then xs ys) ∙ sym (append_assoc (link_of x.at x.link) (links_of xs) (links_of ys))

rise_then : (xs ys : List Exchange) → total_rise (xs ++ ys) ≡ total_rise xs + total_rise ys
rise_then [] ys = omega arith
rise_then (x ∷ xs) ys = let h = rise_then xs ys in omega arith

told_then : (xs ys : List Exchange) (t u v : Option Dialled) → Tells xs t u → Tells ys u v → Tells (xs ++ ys) t v
told_then xs ys None u v p q = tt
told_then xs ys (Some d) u v p q =
    subst (λ (m : Option Dialled). Tells ys m v) p q
    ∙ ap₂ (λ (a : List Place) (b : List Returned). Some (record { places = a; links = b })) (append_assoc d.places (map place_of xs) (map place_of ys) ∙ ap (λ (l : List Place). d.places ++ l) (sym (places_then xs ys)))
    (append_assoc d.links (links_of xs) (links_of ys) ∙ ap (λ (l : List Returned). d.links ++ l) (sym (links_then xs ys)))

pub dialling_then : (xs ys : List Exchange) (t u v : Option Dialled) (f g h : ℕ) → Dialling xs t u f g → Dialling ys u v g h → Dialling (xs ++ ys) t v f h
dialling_then xs ys t u v f g h p q =
    let a = p.counted in
    let b = q.counted in
    let c = rise_then xs ys in
    record { told = told_then xs ys t u v p.told q.told; counted = omega arith }
