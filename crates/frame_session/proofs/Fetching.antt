-- What a read gives to the reader.
use Rattle.std.proofs.Common.{◌≡◌, ℕ, List, [], ◌∷◌, ◌++◌, length, Option, Some, None, Ok, Err, refl, ap, subst, ◌∙◌, arith}
use Rattle.actor_ports.specs.declared.port.PortError.{PortError}
use Rattle.actor_ports.specs.declared.port.PortError.TheVariants as ports
use Rattle.actor_ports.specs.Traffic.{Traffic}
use Rattle.http_edge.specs.Carry.{Reads}
use Rattle.frame_wire.specs.declared.error.FrameError.{FrameError}
use Rattle.frame_wire.specs.declared.error.FrameError.TheVariants.{OutOfMemory, BadKind, BadField, TooLong}
use Rattle.frame_wire.specs.Streams.{ReaderState, Takes, Feeds}
use Rattle.frame_session.specs.declared.fetch.Fetched.TheVariants.{Fed, Faulty, Ended}
use Rattle.frame_session.specs.Turns.{Got, Fetches}

no_bytes : (l : List ℕ) → length l ≡ 0 → l ≡ []
no_bytes [] e = refl
no_bytes (x ∷ l) e = absurd (omega arith)

pub not_came : (r : ReaderState) (t0 t1 : Option Traffic) (before after : List ℕ) (e : PortError) → Reads t0 t1 before after (Err e) → Fetches r r t0 t1 (Err e)
not_came r t0 t1 before after e reads = ([], reads.1, refl)

-- nothing came, since the input has ended
pub nothing_came : (r : ReaderState) (t0 t1 : Option Traffic) (before after : List ℕ) (n : ℕ) → n ≡ 0 → Reads t0 t1 before after (Ok n) → Fetches r r t0 t1 (Ok Ended)
nothing_came r t0 t1 before after n none reads =
    let empty : reads.0 ≡ [] = no_bytes reads.0 (reads.1 ∙ none) in
    (subst (λ (l : List ℕ). Got t0 t1 l) empty reads.3, reads.4 none, refl)

-- what came was given to the reader
module _ (old new : ReaderState) (t0 t1 : Option Traffic) (before after bytes : List ℕ) (n : ℕ) (none : before ≡ []) (same : bytes ≡ after) (reads : Reads t0 t1 before after (Ok n)) where
  all_came : bytes ≡ reads.0
  all_came = same ∙ reads.2 ∙ ap (λ (l : List ℕ). l ++ reads.0) none

  pub came : Feeds old bytes new (Ok tt) → Fetches old new t0 t1 (Ok Fed)
  came fed = (reads.0, reads.3, subst (λ (l : List ℕ). Takes old l new None) all_came fed)

  pub came_lost : Feeds old bytes new (Err OutOfMemory) → Fetches old new t0 t1 (Err ports.OutOfMemory)
  came_lost fed = (reads.0, reads.3, fed)

  pub came_faulty : (e : FrameError) → (e ≡ OutOfMemory → ⊥) → Feeds old bytes new (Err e) → Fetches old new t0 t1 (Ok Faulty)
  came_faulty OutOfMemory isnt fed = absurd (isnt refl)
  came_faulty (BadKind at kind) isnt fed = (reads.0, BadKind at kind, reads.3, subst (λ (l : List ℕ). Takes old l new (Some (BadKind at kind))) all_came fed)
  came_faulty (BadField at) isnt fed = (reads.0, BadField at, reads.3, subst (λ (l : List ℕ). Takes old l new (Some (BadField at))) all_came fed)
  came_faulty (TooLong len) isnt fed = (reads.0, TooLong len, reads.3, subst (λ (l : List ℕ). Takes old l new (Some (TooLong len))) all_came fed)
