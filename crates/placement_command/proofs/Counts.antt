-- The counts of faults: of a node that has met one, and of a mirror.
use Rattle.std.proofs.Common.{◌≡◌, ◌∙◌, ◌⊎◌, inl, inr, ℕ, zero, suc, ◌+◌, ◌<◌, ◌≤◌, Bool, true, false, List, [], ◌∷◌, Option, Some, None, Ok, Err, refl, sym, ap, subst, arith}
use Rattle.actor_ports.specs.declared.port.PortError.{PortError}
use Rattle.actor_ports.specs.declared.port.PortError.TheVariants as ports
use Rattle.actor_ports.specs.Traffic.{Traffic, Counts}
use Rattle.step_gate.specs.History.{HistoryLeadsTo}
use Rattle.tx_journal.specs.declared.error.JournalError.{JournalError}
use Rattle.tx_journal.specs.declared.error.JournalError.TheVariants.{DiskFault}
use Rattle.tx_journal.specs.Calls.{Side, JournalState, first_of, first_side, append_refusal}
use Rattle.tx_journal.specs.Journal.{Rises}
use Rattle.tx_journal.specs.Runs.{AppendMoves}
use Rattle.placement_node.specs.declared.reply.NodeEvent.{NodeEvent}
use Rattle.placement_node.specs.declared.reply.NodeReply.{NodeReply}
use Rattle.placement_node.specs.Node.{NodeState, NodeAllows, Appended, Works, payloads_for}
use Rattle.placement_node.specs.Replies.{Outcome, Done, NoMemory, NoRoom, Failed, Shut, outcome_of}
use Rattle.placement_node.specs.Histories.{NodeHistory}
use Rattle.standby_core.specs.Telling.{HasLost}
use Rattle.standby_core.specs.Attaching.{AttachCause}
use Rattle.placement_command.specs.Mirrors.{MirrorCause}

clash : (b : Bool) → b ≡ true → b ≡ false → ⊥
clash b is other = let e : true ≡ false = sym is ∙ other in cc

rises_above : (a b : ℕ) → Rises a b → 0 < b
rises_above a b (inl less) = omega (arith, less)
rises_above a b (inr spent) = omega (arith, spent)

-- ---- a journal of one disk

-- it has one disk, and that has counted a fault if the journal has met one
abbrev Counted : JournalState → Type 0
Counted j = (j.other ≡ None) × (j.is_broken ≡ true → 0 < j.live.faults)

sound : (j : JournalState) → j.other ≡ None → j.is_broken ≡ false → Counted j
sound j alone works = (alone, λ broken. absurd (clash j.is_broken broken works))

append_counts : (payload : List ℕ) (old new : JournalState) → Counted old → old.is_broken ≡ false → AppendMoves payload (Ok tt) old new → Counted new
append_counts payload old new counted works moves = go (append_refusal old payload) refl
  where
    go : (o : Option JournalError) → append_refusal old payload ≡ o → Counted new
    go None is = let taken = moves.taken is in sound new (ap (λ (j : JournalState). j.other) taken.0 ∙ counted.0) (ap (λ (j : JournalState). j.is_broken) taken.0 ∙ works)
    go (Some e) is = let refused = moves.refused e is in subst Counted (sym refused.1) counted

fails_count : (payload : List ℕ) (old new : JournalState) → Counted old → old.is_broken ≡ false → AppendMoves payload (Err DiskFault) old new → Counted new
fails_count payload old new counted works moves = go (append_refusal old payload) refl
  where
    go : (o : Option JournalError) → append_refusal old payload ≡ o → Counted new
    go None is = let taken = moves.taken is in (ap (λ (j : JournalState). j.other) taken.0 ∙ counted.0, λ broken. rises_above old.live.faults new.live.faults taken.1)
    go (Some e) is = let refused = moves.refused e is in subst Counted (sym refused.1) counted

written_counts : (payloads : List (List ℕ)) (old new : JournalState) → Counted old → old.is_broken ≡ false → Appended payloads (Ok tt) old new → Counted new
written_counts [] old new counted works same = subst Counted (sym same) counted
written_counts (payload ∷ payloads) old new counted works moves = append_counts payload old new counted works moves

-- ---- a node over it

outcome_counts : (old : NodeState) (event : NodeEvent) (reply : NodeReply) (new : NodeState) (o : Outcome) → Counted old.journal → old.journal.is_broken ≡ false → Works old event reply new o → Counted new.journal
outcome_counts old event reply new Done counted works is = written_counts (payloads_for old event) old.journal new.journal counted works is.written
outcome_counts old event reply new NoMemory counted works is = subst (λ (n : NodeState). Counted n.journal) (sym is) counted
outcome_counts old event reply new (NoRoom len) counted works is = subst (λ (n : NodeState). Counted n.journal) (sym is.1) counted
outcome_counts old event reply new Failed counted works is = fails_count is.payload old.journal new.journal counted works is.written
outcome_counts old event reply new Shut counted works is = absurd is

step_counts : (old : NodeState) (event : NodeEvent) (reply : NodeReply) (new : NodeState) → NodeAllows old event reply new → Counted old.journal → Counted new.journal
step_counts old event reply new allows counted = go old.journal.is_broken refl
  where
    go : (b : Bool) → old.journal.is_broken ≡ b → Counted new.journal
    go true broken = let shut = allows.0.shut broken in subst (λ (n : NodeState). Counted n.journal) (sym shut.1) counted
    go false works = outcome_counts old event reply new (outcome_of reply) counted works (allows.0.works works)

history_counts : (old new : NodeState) (h : NodeHistory) → HistoryLeadsTo NodeAllows old h new → Counted old.journal → Counted new.journal
history_counts old new [] leads counted = subst (λ (n : NodeState). Counted n.journal) leads counted
history_counts old new (e ∷ es) leads counted = history_counts leads.0 new es leads.2 (step_counts old e.event e.reply leads.0 leads.1 counted)

first_alone : (second : Bool) (live : Side) (other : Option Side) → other ≡ None → first_of second live other ≡ live
first_alone true live None alone = refl
first_alone false live None alone = refl
first_alone second live (Some x) alone = let never : ⊥ = cc in absurd never

-- a node that worked and has met a fault since: its disk has counted one
pub shut_counts : (n last : NodeState) (h : NodeHistory) (told_faults : Side) → HistoryLeadsTo NodeAllows n h last → n.journal.other ≡ None → n.journal.is_broken ≡ false
    → last.journal.is_broken ≡ true → told_faults ≡ first_side last.journal → 0 < told_faults.faults
shut_counts n last h side leads alone works broken is =
    let counted = history_counts n last h leads (sound n.journal alone works) in
    let same : first_side last.journal ≡ last.journal.live = first_alone last.journal.is_second_live last.journal.live last.journal.other counted.0 in
    subst (λ (s : Side). 0 < s.faults) (sym (is ∙ same)) (counted.1 broken)

-- ---- a mirror

-- its count is above 0: the disk's is, or the link's, or a call was lost
pub mirror_cause : {L : Type 0} (traffic : L → Option Traffic) (open0 open1 dial0 dial1 d l u : ℕ) → Counts open0 open1 d → Counts dial0 dial1 l → HasLost traffic u → 0 < d + (l + u) → MirrorCause traffic open0 open1 dial0 dial1
mirror_cause traffic open0 open1 dial0 dial1 (suc d) l u opens dials lost some = inl (opens.rises.1 (omega arith))
mirror_cause traffic open0 open1 dial0 dial1 zero (suc l) u opens dials lost some = inr (inl (dials.rises.1 (omega arith)))
mirror_cause traffic open0 open1 dial0 dial1 zero zero u opens dials (inl none) some = let never : ⊥ = omega (arith, none, some) in absurd never
mirror_cause traffic open0 open1 dial0 dial1 zero zero u opens dials (inr lost) some = inr (inr lost)

-- an error of an opening: the count rose, or is at its end
pub rises_cause : (before after : ℕ) → Rises before after → 0 < after
rises_cause before after rises = rises_above before after rises

-- one of two has its cause
pub either : {A B C : Type 0} → A ⊎ B → (A → C) → (B → C) → C
either (inl a) f g = f a
either (inr b) f g = g b

module _ {L : Type 0} (traffic : L → Option Traffic) where
  -- the dialler's count was lower before
  pub cause_from : (open0 open1 dial dial0 dial1 : ℕ) → dial ≤ dial0 → MirrorCause traffic open0 open1 dial0 dial1 → MirrorCause traffic open0 open1 dial dial1
  cause_from open0 open1 dial dial0 dial1 less (inl disk) = inl disk
  cause_from open0 open1 dial dial0 dial1 less (inr (inl link)) = inr (inl (omega (arith, less, link)))
  cause_from open0 open1 dial dial0 dial1 less (inr (inr lost)) = inr (inr lost)

  -- a standby that got no copy, for this error
  pub attach_cause : (open0 open1 dial0 dial1 d0 d1 l0 l1 : ℕ) (before after : L) (e : PortError) → e ≡ ports.Failed → Counts open0 open1 d1 → Counts dial0 dial1 l1
      → AttachCause d0 d1 l0 l1 (traffic before) (traffic after) e → MirrorCause traffic open0 open1 dial0 dial1
  attach_cause open0 open1 dial0 dial1 d0 d1 l0 l1 before after ports.Failed failed opens dials (inl disk) = inl (opens.rises.1 (omega (arith, disk)))
  attach_cause open0 open1 dial0 dial1 d0 d1 l0 l1 before after ports.Failed failed opens dials (inr (inl link)) = inr (inl (dials.rises.1 (omega (arith, link))))
  attach_cause open0 open1 dial0 dial1 d0 d1 l0 l1 before after ports.Failed failed opens dials (inr (inr lost)) = inr (inr (before, after, lost.0, lost.1, lost.2))
  attach_cause open0 open1 dial0 dial1 d0 d1 l0 l1 before after ports.OutOfMemory failed opens dials cause = let never : ⊥ = cc in absurd never
