-- Reports, in each case.
use Rattle.std.proofs.Common.{◌≡◌, ◌≢◌, refl, sym, subst, ℕ, true, List, [], Ok, Err}
use Rattle.std.proofs.lemmas.Bool.{true≢false}
use Rattle.actor_names.specs.declared.address.Address.{Address}
use Rattle.part_model.specs.declared.event.PartEvent.TheVariants.{Draw}
use Rattle.part_model.specs.Receipts.{PartReply}
use Rattle.part_model.specs.declared.event.Reply.TheVariants as replies
use Rattle.reminder_rows.specs.declared.row.DueKey.{DueKey}
use Rattle.sidecar_node.specs.declared.node.SidecarNode.{SidecarNode}
use Rattle.sidecar_node.specs.declared.node.Seats.{Seats}
use Rattle.sidecar_node.specs.Entries.{one_entry}
use Rattle.sidecar_node.specs.Turns.{Said}
use Rattle.exchanges.specs.Exchanges.{Exchange}
use Rattle.reminder_turns.specs.declared.results.Turned.{Turned}
use Rattle.reminder_turns.specs.declared.results.Turned.TheVariants.{Called, Refused}
use Rattle.reminder_turns.specs.declared.results.Reported.{Reported}
use Rattle.reminder_turns.specs.declared.results.Reported.TheVariants.{Undrawn}
use Rattle.reminder_turns.specs.Callbacks.{TurnedFull}
use Rattle.reminder_turns.specs.Outcomes.{is_owed}
use Rattle.reminder_turns.specs.Reports.{AfterDraw, IsReport, ReportedFull}

module _ (node : SidecarNode) (store : Address) (key : DueKey) where
  -- a reply to the Draw that refuses it
  pub draw_refused : (reply : PartReply) → ((n : ℕ) → reply ≢ replies.Drawn n) → AfterDraw node store key (Ok reply) [] (Undrawn (Ok reply))
  draw_refused (replies.Drawn n) h = absurd (h n refl)
  draw_refused reply h = (refl, refl)

  pub report_follows : (said : Said) (xs : List Exchange) (reported : Reported) → AfterDraw node store key said xs reported → IsReport node store key (one_entry Draw said) xs reported
  report_follows said xs reported follows = record { said = said; draws = refl; follows = follows }

  -- a Draw that had a reply leaves nothing to say of the gate
  pub replied_full : (reply : PartReply) (xs : List Exchange) (reported : Reported) (part : ℕ) (after : Seats) → AfterDraw node store key (Ok reply) xs reported → ReportedFull part reported after
  replied_full (replies.Drawn n) xs reported part after h = subst (λ (r : Reported). ReportedFull part r after) (sym h.2) tt
  replied_full reply xs reported part after h = subst (λ (r : Reported). ReportedFull part r after) (sym h.1) tt

-- a turn that owes a report has an End, so that its gate isn't full by it
pub owed_full : (part : ℕ) (turned : Turned) (after : Seats) → is_owed turned ≡ true → TurnedFull part turned after
owed_full part (Called got (Ok reply)) after e = tt
owed_full part (Called got (Err spent)) after e = absurd (true≢false (sym e))
owed_full part (Refused said) after e = absurd (true≢false (sym e))
