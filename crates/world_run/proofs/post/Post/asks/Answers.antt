use Rattle.std.proofs.Common.{◌≡◌, ◌<◌, ◌≤◌, ℕ, ◌-◌, Bool, List, length, Some, refl, ap, sym, ◌∙◌, subst, option_map, arith}
use Rattle.std.specs.Prelude.{zero, suc, slice_get}
use Rattle.std.proofs.lemmas.Option.{slice_get-map, slice_get-get_or}
use Rattle.place_table.specs.Hosts.{PlacementTable}
use Rattle.world_run.specs.declared.kept.Kept.{Kept}
use Rattle.world_run.specs.declared.kept.Kept.TheVariants as kept
use Rattle.world_run.specs.Looks.{asks, asks_at}
use Rattle.world_run.specs.Post.{PostView, is_request, message_in, messages_in, told_tables}
use Rattle.world_run.proofs.post.Post.asks.Goals as goal

asks-in : (ts : List PlacementTable) (k : Kept) → asks (message_in ts k) ≡ is_request k
asks-in ts (kept.Register host) = refl
asks-in ts (kept.Beat m) = refl
asks-in ts (kept.Ack m stage version) = refl
asks-in ts (kept.Leave m) = refl
asks-in ts (kept.Lock m version) = refl
asks-in ts (kept.Update m at) = refl
asks-in ts (kept.Unlock m version) = refl
asks-in ts (kept.Says m reply) = refl

asks_kept : (ts : List PlacementTable) (ks : List Kept) (number : ℕ) (k : Kept) → 0 < number → slice_get ks (number - 1) ≡ Some k → Some (is_request k) ≡ asks_at (messages_in ts ks) number
asks_kept ts ks zero k some at = absurd (omega arith)
asks_kept ts ks (suc n) k some at =
    let here : slice_get ks n ≡ Some k = subst (λ j. slice_get ks j ≡ Some k) (omega arith) at in
    ap (λ (b : Bool). Some b) (sym (asks-in ts k)) ∙ sym (ap (λ o. option_map asks o) (slice_get-map (message_in ts) ks n ∙ ap (option_map (message_in ts)) here))

pub returns : goal.returns
returns c =
    let v = c.self.inside in
    let k : Kept = c.index.result.now in
    let here = slice_get-get_or v.messages.items (c.args.number - 1) k (omega arith) ∙ ap (λ (u : Kept). Some u) (sym c.index.ensures) in
    subst (λ (p : PostView). Some c.is_request.result ≡ asks_at p.messages c.args.number) c.self.view_is
    (ap (λ (b : Bool). Some b) c.is_request.ensures ∙ asks_kept (told_tables v.tables.items v.pending v.placement.state) v.messages.items c.args.number k (omega arith) here)
