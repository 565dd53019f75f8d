-- A fault of the application's connection is counted.
use Rattle.std.proofs.Common.{◌≡◌, ℕ, ◌<◌, ◌≤◌, true, List, [], ◌∷◌, Option, Some, None, Ok, Err, refl, sym, subst, arith}
use Rattle.std.proofs.lemmas.Bool.{true≢false}
use Rattle.actor_ports.specs.Traffic.{Place, Dialled}
use Rattle.http_edge.specs.Carry.{Carried}
use Rattle.http_edge.specs.declared.error.EdgeError.TheVariants as edge
use Rattle.exchanges.specs.Exchanges.{Exchange, Dialling, Comes, total_rise}
use Rattle.exchanges.specs.Replies.{Got, HttpCarries, IsHttpExchange}
use Rattle.clock_turns.specs.Closings.{is_fault}

fault_is : (got : Got) → is_fault got ≡ true → got ≡ Err edge.ConnFault
fault_is (Ok reply) e = absurd (true≢false (sym e))
fault_is (Err edge.ConnFault) e = refl
fault_is (Err error) e = absurd (true≢false (sym e))

no_fault : (got : Got) → got ≡ Err edge.OutOfMemory → is_fault got ≡ true → ⊥
no_fault got e f = true≢false (sym (subst (λ (g : Got). is_fault g ≡ true) e f))

link_rises : (text : List ℕ) (link : Option Carried) (rise : ℕ) (got : Got) → Comes {G = Got} (Err edge.ConnFault) (Err edge.OutOfMemory) (HttpCarries text) link rise got → got ≡ Err edge.ConnFault → 0 < rise
link_rises text None rise got h e = h.0
link_rises text (Some c) rise got h e = h.1 e

exchange_rises : (text : List ℕ) (at : Place) (xs : List Exchange) (got : Got) → IsHttpExchange text at xs got → is_fault got ≡ true → 0 < total_rise xs
exchange_rises text at [] got x f = absurd (no_fault got x f)
exchange_rises text at (x ∷ []) got h f = let up = link_rises text x.link x.rise got h.1 (fault_is got f) in omega arith
exchange_rises text at (x ∷ y ∷ xs) got h f = absurd h

pub fault_counts : (text : List ℕ) (at : Place) (xs : List Exchange) (got : Got) (t0 t1 : Option Dialled) (f0 f1 : ℕ) → IsHttpExchange text at xs got → Dialling xs t0 t1 f0 f1 → is_fault got ≡ true → f0 < f1
fault_counts text at xs got t0 t1 f0 f1 x d f = let up = exchange_rises text at xs got x f in let counted = d.counted in omega arith

-- the count never falls
pub never_falls : (xs : List Exchange) (t0 t1 : Option Dialled) (f0 f1 : ℕ) → Dialling xs t0 t1 f0 f1 → f0 ≤ f1
never_falls xs t0 t1 f0 f1 d = let c = d.counted in omega arith
