-- What goes over a connection in successive calls adds up.
use Rattle.std.proofs.Common.{sym, refl, ap, subst, ◌∙◌, ◌≡◌, ℕ, List, [], ◌++◌, take, drop, Option, Some, None, option_map, Result, Ok, Err, append_assoc}
use Rattle.std.proofs.lemmas.List.{append-nil, take-append-drop, length-take-le}
use Rattle.actor_ports.specs.declared.port.PortError.{PortError}
use Rattle.actor_ports.specs.declared.port.PortError.TheVariants.{Failed, OutOfMemory}
use Rattle.actor_ports.specs.Port.{Appends, TakesFront}
use Rattle.actor_ports.specs.Traffic.{Traffic, Receives, Sends, took, sent}
use Rattle.http_edge.specs.Carry.{Carried, nothing, then_carried, Over, AtEnd, Writes, Reads}

-- the traffic after these bytes
abbrev pub after : Traffic → Carried → List ℕ → Traffic
after t c rest = record { at = t.at; read = t.read ++ c.read; left = rest; written = t.written ++ c.written }

same : (t : Traffic) → t ≡ after t nothing t.left
same t = rw (append-nil t.read, append-nil t.written) refl

pub over_nothing : (t : Option Traffic) → Over t t nothing
over_nothing None = tt
over_nothing (Some t) = (t.left, refl, ap Some (same t))

over_some : (t : Traffic) (b d : Option Traffic) (c e : Carried) → Over (Some t) b c → Over b d e → Over (Some t) d (then_carried c e)
over_some t b d c e o p =
    let q : Over (Some (after t c o.0)) d e = subst (λ m. Over m d e) o.2 p in (
      q.0,
      o.1 ∙ ap (λ r. c.read ++ r) q.1 ∙ sym (append_assoc c.read e.read q.0),
      q.2 ∙ ap Some (rw (append_assoc t.read c.read e.read, append_assoc t.written c.written e.written) refl),
    )

pub over_then : (a b d : Option Traffic) (c e : Carried) → Over a b c → Over b d e → Over a d (then_carried c e)
over_then None b d c e o p = tt
over_then (Some t) b d c e o p = over_some t b d c e o p

-- ---- a write

wrote : (t : Traffic) (bytes : List ℕ) → sent bytes t ≡ after t (record { read = []; written = bytes }) t.left
wrote t bytes = rw (append-nil t.read) refl

wrote_over : (t : Traffic) (d : Option Traffic) (bytes : List ℕ) → d ≡ Some (sent bytes t) → Over (Some t) d (record { read = []; written = bytes })
wrote_over t d bytes e = (t.left, refl, e ∙ ap Some (wrote t bytes))

pub writes_from : {T : Type 0} (a d : Option Traffic) (bytes : List ℕ) (result : Result T PortError) → Sends a d bytes result → Writes a d bytes result
writes_from None d bytes (Ok x) s = tt
writes_from None d bytes (Err Failed) s = ([], record { count = 0; is = refl }, tt)
writes_from None d bytes (Err OutOfMemory) s = tt
writes_from (Some t) d bytes (Ok x) s = wrote_over t d bytes s
writes_from (Some t) d bytes (Err Failed) s = (take s.0 bytes, record { count = s.0; is = refl }, wrote_over t d (take s.0 bytes) s.2)
writes_from (Some t) d bytes (Err OutOfMemory) s =
    subst (λ m. Over (Some t) m nothing) (sym s) (over_nothing (Some t))

-- ---- a read

read_over : (t : Traffic) (d : Option Traffic) (n : ℕ) → d ≡ Some (took n t) → t.left ≡ take n t.left ++ drop n t.left → Over (Some t) d (record { read = take n t.left; written = [] })
read_over t d n e cut = (drop n t.left, cut, e ∙ ap Some (rw (append-nil t.written) refl))

drop_nothing : (n : ℕ) (l : List ℕ) → n ≡ 0 → l ≡ [] → drop n l ≡ []
drop_nothing n l e f = rw (e, f) refl

reads_some : (t : Traffic) (d : Option Traffic) (r : Option (List ℕ)) (old new : List ℕ) (n : ℕ) → TakesFront (Some t.left) r old new (Ok n) → Receives (Some t) d (Ok n) → Reads (Some t) d old new (Ok n)
reads_some t d r old new n f s = (
  take n t.left,
  length-take-le n t.left f.0,
  f.1,
  read_over t d n s (sym (take-append-drop n t.left)),
  (λ e. (took n t, s, drop_nothing n t.left e (f.3 e))),
)

kept : (t : Traffic) (d : Option Traffic) → d ≡ Some t → Over (Some t) d nothing
kept t d e = subst (λ m. Over (Some t) m nothing) (sym e) (over_nothing (Some t))

pub reads_from :
    (a d : Option Traffic) (r s : Option (List ℕ)) (old new : List ℕ) (result : Result ℕ PortError)
    → r ≡ option_map (λ (t : Traffic). t.left) a → Appends old new result → TakesFront r s old new result → Receives a d result → Reads a d old new result
reads_from None d r s old new (Ok n) e p f v = (p.0, p.1, p.2, tt, (λ _. tt))
reads_from None d r s old new (Err x) e p f v = (p, tt)
reads_from (Some t) d r s old new (Ok n) e p f v = reads_some t d s old new n (subst (λ m. TakesFront m s old new (Ok n)) e f) v
reads_from (Some t) d r s old new (Err x) e p f v = (p, kept t d v)

-- ---- one after the other

pub end_told : (a b d : Option Traffic) (bytes : List ℕ) → Over a b (record { read = bytes; written = [] }) → AtEnd b d → AtEnd a d
end_told None b d bytes o s = tt
end_told (Some t) b d bytes o s = subst (λ m. AtEnd m d) o.2 s

pub told_along : (a b d : Option Traffic) (c : Carried) → Over a b c → AtEnd b d → AtEnd a d
told_along None b d c o s = tt
told_along (Some t) b d c o s = subst (λ m. AtEnd m d) o.2 s
