-- Hops and what follows the first Ask, in each case.
use Rattle.std.proofs.Common.{◌≡◌, ◌≢◌, ◌<◌, ◌≤◌, ◌-◌, ◌+◌, refl, sym, subst, ap, ◌∙◌, true, false, cond, inl, inr, ℕ, List, [], ◌∷◌, ◌++◌, length, Some, arith, length-append}
use Rattle.std.specs.Prelude.{nat_lt, ◌==◌}
use Rattle.std.proofs.lemmas.Bool.{cond_both, eqb-false}
use Rattle.actor_names.specs.declared.member.Member.{Member}
use Rattle.actor_names.specs.declared.address.Address.{Address}
use Rattle.place_table.specs.declared.host.HostInfo.{HostInfo}
use Rattle.member_core.specs.declared.route.Hop.{Hop}
use Rattle.member_core.specs.declared.route.Hop.TheVariants.{Go, NotRising, Moved}
use Rattle.member_core.specs.Routes.{HopStep, last_or, rising_hop, route_hop}
use Rattle.http_edge.specs.declared.message.HttpRequest.{HttpRequest}
use Rattle.actors_api.specs.declared.reply.ApiReply.{ApiReply}
use Rattle.actors_api.specs.declared.refusal.ApiRefusal.{ApiRefusal}
use Rattle.sidecar_node.specs.declared.node.Seats.{Seats}
use Rattle.sidecar_node.specs.Entries.{PartEntry}
use Rattle.exchanges.specs.Exchanges.{Exchange}
use Rattle.actor_calls.specs.declared.invoke.Invoke.{Invoke}
use Rattle.actor_calls.specs.declared.next.Next.TheVariants.{Answered, Moves}
use Rattle.actor_calls.specs.Outcomes.{refused, hop_refusal}
use Rattle.actor_calls.specs.Hops.{IsHop, IsRouted, Stops, Ends, HopsOn}
use Rattle.actor_calls.proofs.Servings.{hop_moves}

-- ---- how many hops are left

-- a hop that is made is one more hop, and seven weren't made before
rising_goes : (hops : List ℕ) (version : ℕ) (owner to : HostInfo) (least : ℕ) → (rising_hop hops version owner).answer ≡ Go to least → (length hops ≢ 7) × ((rising_hop hops version owner).hops ≡ hops ++ version ∷ [])
rising_goes hops version owner to least =
    cond_both (length hops == 7) _ _ (λ (s : HopStep). s.answer ≡ Go to least → (length hops ≢ 7) × (s.hops ≡ hops ++ version ∷ []))
    (λ full e. absurd (let h : ⊥ = cc in h))
    (λ few e. (eqb-false (length hops) 7 few, refl))

pub goes : (hops : List ℕ) (version : ℕ) (owner to : HostInfo) (least : ℕ) → (route_hop hops version owner).answer ≡ Go to least → (length hops ≢ 7) × ((route_hop hops version owner).hops ≡ hops ++ version ∷ [])
goes [] version owner to least = λ e. rising_goes [] version owner to least e
goes (v ∷ vs) version owner to least =
    cond_both (nat_lt (last_or v vs) version) _ _ (λ (s : HopStep). s.answer ≡ Go to least → (length (v ∷ vs) ≢ 7) × (s.hops ≡ v ∷ vs ++ version ∷ []))
    (λ up e. rising_goes (v ∷ vs) version owner to least e)
    (λ down e. absurd (let h : ⊥ = cc in h))

-- so fewer are left
pub hops_left : (hops more : List ℕ) (version : ℕ) (owner to : HostInfo) (least : ℕ)
    → length hops ≤ 7 → Go to least ≡ (route_hop hops version owner).answer → more ≡ (route_hop hops version owner).hops
    → (8 - length more < 8 - length hops) × (length more ≤ 7)
hops_left hops more version owner to least few e is =
    let g = goes hops version owner to least (sym e) in
    let l = ap length (is ∙ g.1) ∙ length-append hops (version ∷ []) in
    below (length hops) (length more) few g.0 l
  where
    below : (n m : ℕ) → n ≤ 7 → (n ≡ 7 → ⊥) → m ≡ n + 1 → (8 - m < 8 - n) × (m ≤ 7)
    below n m a b e = (omega arith, omega arith)

-- ---- the cases of a route

module _ (part : ℕ) (after : Seats) (me : Member) (app : Address) (q : Invoke) (request : HttpRequest) (hops : List ℕ) (version : ℕ) (owner : HostInfo) (hop : Hop) where
  pub route_stops : (now : ℕ) (refusal : ApiRefusal) → hop ≡ (route_hop hops version owner).answer → hop_refusal hop ≡ Some refusal
      → IsRouted part after me app q request hops version owner now now [] [] [] (refused refusal)
  route_stops now refusal e r = Stops hops version owner now refusal (ap hop_refusal (sym e) ∙ r)

  module _ (to : HostInfo) (least : ℕ) (is : hop ≡ Go to least) (e : hop ≡ (route_hop hops version owner).answer) where
    pub route_ends : (first last : ℕ) (es : List PartEntry) (xs ys : List Exchange) (answer : ApiReply)
        → IsHop part after me app q request least to first last es xs ys (Answered answer)
        → IsRouted part after me app q request hops version owner first last es xs ys answer
    route_ends first last es xs ys answer h = Ends hops version owner least to first last es xs ys answer (sym e ∙ is) h

    pub route_goes_on :
        (before : Seats) (at : Address) (more : List ℕ) (first middle last : ℕ) (es fs : List PartEntry) (xs vs ys ws : List Exchange) (version2 : ℕ) (owner2 : HostInfo) (answer : ApiReply)
        → at ≡ app → more ≡ (route_hop hops version owner).hops
        → IsHop part before me app q request least to first middle es xs ys (Moves version2 owner2)
        → IsRouted part after me at q request more version2 owner2 middle last fs vs ws answer
        → IsRouted part after me app q request hops version owner first last (es ++ fs) (xs ++ vs) (ys ++ ws) answer
    route_goes_on before at more first middle last es fs xs vs ys ws version2 owner2 answer same hs h r =
        HopsOn hops version owner least to first middle last es fs xs vs ys ws version2 owner2 answer (sym e ∙ is) (hop_moves part before after app q request version2 owner2 me least to first middle es xs ys h)
        (subst (λ (l : List ℕ). IsRouted part after me app q request l version2 owner2 middle last fs vs ws answer) hs
        (subst (λ (a : Address). IsRouted part after me a q request more version2 owner2 middle last fs vs ws answer) same r))
