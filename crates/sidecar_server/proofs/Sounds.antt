-- What the watch keeps: each moment is one that a clock showed, and a cause is sound.
use Rattle.std.proofs.Common.{arith, ◌≡◌, ◌≤◌, ◌+◌, ◌-◌, ℕ, ◌==◌, nat_le, max, bytes_eq, Bool, true, false, ◌&&◌, if◌then◌else◌, Option, None, Some, refl, ap, subst}
use Rattle.std.proofs.lemmas.Bool.Decides.{nat_tests, Decides-eqb}
use Rattle.std.proofs.lemmas.Slice.Eq.{bytes_eq-Decides}
use Rattle.actor_names.specs.declared.address.Address.{Address}
use Rattle.actor_names.specs.declared.member.Member.{Member}
use Rattle.actor_names.specs.Same.{same_member}
use Rattle.actor_ports.specs.Traffic.{Traffic, Dialled}
use Rattle.round_core.specs.declared.event.PlaceReply.{PlaceReply}
use Rattle.lease_core.specs.Lease.{lease_time, extended, has_ended}
use Rattle.sidecar_server.specs.declared.placements.Placements.{Placements}
use Rattle.sidecar_server.specs.Links.{is_same_address, is_same_second, are_same_placements}
use Rattle.sidecar_server.specs.declared.watch.Parties.{Parties}
use Rattle.sidecar_server.specs.declared.watch.StopCause.{StopCause}
use Rattle.sidecar_server.specs.declared.watch.StopCause.TheVariants as causes
use Rattle.sidecar_server.specs.Causes.{IsShown, IsAnswered, IsRefused, IsSound, IsCause}
use Rattle.sidecar_server.specs.declared.watch.WatchEvent.{WatchEvent}
use Rattle.sidecar_server.specs.declared.watch.WatchEvent.TheVariants as events
use Rattle.sidecar_server.specs.Watch.{are_same, first_cause, heard_lease, stop_after, refused_stop, WatchTakes}

-- ---- two that are the same

both : (a b : Bool) → (a && b) ≡ true → (a ≡ true) × (b ≡ true)
both true b is = (refl, is)
both false b is = cc

pub address_same : (a b : Address) → ((a.ip == b.ip) && (a.port == b.port)) ≡ true → a ≡ b
address_same a b is =
    let parts = both (a.ip == b.ip) (a.port == b.port) is in
    let ip = (Decides-eqb a.ip b.ip).0 parts.0 in
    let port = (Decides-eqb a.port b.port).0 parts.1 in
    λ i. record { ip = ip i; port = port i }

member_same : (a b : Member) → same_member a b ≡ true → a ≡ b
member_same a b is =
    let all = both (bytes_eq a.space b.space) (bytes_eq a.node b.node && (a.boot == b.boot)) is in
    let later = both (bytes_eq a.node b.node) (a.boot == b.boot) all.1 in
    let space = (bytes_eq-Decides a.space b.space).0 all.0 in
    let node = (bytes_eq-Decides a.node b.node).0 later.0 in
    let boot = (Decides-eqb a.boot b.boot).0 later.1 in
    λ i. record { space = space i; node = node i; boot = boot i }

second_same : (a b : Option Address) → is_same_second a b ≡ true → a ≡ b
second_same None None is = refl
second_same None (Some b) is = cc
second_same (Some a) None is = cc
second_same (Some a) (Some b) is = ap (λ (x : Address). Some x) (address_same a b is)

placements_same : (a b : Placements) → are_same_placements a b ≡ true → a ≡ b
placements_same a b is =
    let parts = both (is_same_address a.first b.first) (is_same_second a.second b.second) is in
    let first = address_same a.first b.first parts.0 in
    let second = second_same a.second b.second parts.1 in
    λ i. record { first = first i; second = second i }

parties_same : (a b : Parties) → are_same a b ≡ true → a ≡ b
parties_same a b is =
    let parts = both (same_member a.member b.member) (are_same_placements a.placement b.placement) is in
    let member = member_same a.member b.member parts.0 in
    let placement = placements_same a.placement b.placement parts.1 in
    λ i. record { member = member i; placement = placement i }

-- ---- the lease

greater_shown : {K : Type 0} (shown : K → ℕ) (a b : ℕ) (q : Bool) → nat_le a b ≡ q → IsShown shown a → IsShown shown b → IsShown shown (max a b)
greater_shown shown a b true is x y = let less : a ≤ b = grind (arith, nat_tests) in subst (λ n. IsShown shown n) (let e : b ≡ max a b = omega arith in e) y
greater_shown shown a b false is x y = let more : b ≤ a = grind (arith, nat_tests) in subst (λ n. IsShown shown n) (let e : a ≡ max a b = omega arith in e) x

-- a lease that was extended
extends_shown : {K : Type 0} (shown : K → ℕ) (lease sent : ℕ) → IsShown shown lease → IsShown shown sent → IsShown shown (extended lease sent)
extends_shown shown lease sent x y = greater_shown shown lease sent (nat_le lease sent) refl x y

heard_shown : {K : Type 0} (shown : K → ℕ) (lease sent : ℕ) (q : Bool) → IsShown shown lease → IsShown shown sent → IsShown shown (if q then extended lease sent else lease)
heard_shown shown lease sent true x y = extends_shown shown lease sent x y
heard_shown shown lease sent false x y = x

ended_long : (start now : ℕ) → has_ended start now ≡ true → start + lease_time ≤ now
ended_long start now is = let long : lease_time ≤ now - start = grind (arith, nat_tests) in omega arith

-- ---- causes

module _ {N L K : Type 0} (dialled : N → Option Dialled) (traffic : L → Option Traffic) (shown : K → ℕ) (parties : Parties) where
  first_sound : (stop : Option StopCause) (cause : StopCause) → IsSound dialled traffic shown parties stop → IsCause dialled traffic shown parties cause
      → IsSound dialled traffic shown parties (first_cause stop cause)
  first_sound None cause sound new = new
  first_sound (Some first) cause sound new = sound

  looked_sound : (lease : ℕ) (stop : Option StopCause) (now : ℕ) (q : Bool) → has_ended lease now ≡ q
      → IsShown shown lease → IsShown shown now → IsSound dialled traffic shown parties stop
      → IsSound dialled traffic shown parties (if q then first_cause stop (causes.Silent lease now) else stop)
  looked_sound lease stop now true is x y sound = first_sound stop (causes.Silent lease now) sound (ended_long lease now is, x, y)
  looked_sound lease stop now false is x y sound = sound

  refused_sound : (own : Parties) (stop : Option StopCause) (reply : PlaceReply) (q : Bool) → are_same parties own ≡ q → IsRefused dialled traffic shown parties reply
      → IsSound dialled traffic shown own stop → IsSound dialled traffic shown own (if q then first_cause stop (causes.Refused reply) else stop)
  refused_sound own stop reply true is refused sound =
      subst (λ p. IsSound dialled traffic shown p stop → IsSound dialled traffic shown p (first_cause stop (causes.Refused reply))) (parties_same parties own is) (λ s. first_sound stop (causes.Refused reply) s refused) sound
  refused_sound own stop reply false is refused sound = sound

  -- the moment at which an answered turn was begun is one that a clock showed
  sent_shown : (sent : ℕ) → IsAnswered dialled traffic shown parties sent → IsShown shown sent
  sent_shown sent answered = let turn = answered.turn.turn in (turn.since, turn.sent_is)

-- ---- what the watch is told

module _ {N L K : Type 0} (dialled : N → Option Dialled) (traffic : L → Option Traffic) (shown : K → ℕ) (own : Parties) where
  -- of a turn that was answered
  pub hears_shown : (lease : ℕ) (parties : Parties) (sent : ℕ) (event : WatchEvent) → event ≡ events.Answered parties sent
      → WatchTakes dialled traffic shown event → IsShown shown lease → IsShown shown (heard_lease own lease parties sent)
  hears_shown lease parties sent event is takes x =
      heard_shown shown lease sent (are_same parties own) x (sent_shown dialled traffic shown parties sent (subst (λ (e : WatchEvent). WatchTakes dialled traffic shown e) is takes))

  -- of the time
  pub looks_sound : (lease : ℕ) (stop : Option StopCause) (now : ℕ) (event : WatchEvent) → event ≡ events.Look now
      → WatchTakes dialled traffic shown event → IsShown shown lease → IsSound dialled traffic shown own stop → IsSound dialled traffic shown own (stop_after lease stop now)
  looks_sound lease stop now event is takes x sound =
      looked_sound dialled traffic shown own lease stop now (has_ended lease now) refl x (subst (λ (e : WatchEvent). WatchTakes dialled traffic shown e) is takes) sound

  -- of a refusal
  pub refuses_sound : (stop : Option StopCause) (parties : Parties) (reply : PlaceReply) (event : WatchEvent) → event ≡ events.Refused parties reply
      → WatchTakes dialled traffic shown event → IsSound dialled traffic shown own stop → IsSound dialled traffic shown own (refused_stop own stop parties reply)
  refuses_sound stop parties reply event is takes sound =
      refused_sound dialled traffic shown parties own stop reply (are_same parties own) refl (subst (λ (e : WatchEvent). WatchTakes dialled traffic shown e) is takes) sound
