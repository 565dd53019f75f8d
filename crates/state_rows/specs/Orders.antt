-- The order of entries is total.
use Rattle.std.specs.Cmp.{IsTotalOrder}
use Rattle.std.proofs.lemmas.Cmp.{nat_list_cmp_total, on_total, then_total}
use Rattle.actor_names.specs.contracts.actor_key.ActorKeyOrd.TheImpl.Laws as actor_laws
use Rattle.state_rows.specs.declared.entry.StateEntry.{StateEntry}
use Rattle.state_rows.specs.Entries.{actor_cmp, row_cmp}

pub actors_total : IsTotalOrder actor_cmp
actors_total = actor_laws.total-law

pub rows_total : IsTotalOrder row_cmp
rows_total = then_total (on_total (λ (e : StateEntry). e.actor) actors_total) (on_total (λ (e : StateEntry). e.key) nat_list_cmp_total)
