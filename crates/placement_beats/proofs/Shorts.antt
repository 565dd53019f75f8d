-- Versions of acknowledgements.
use Rattle.std.proofs.Common.{◌≡◌, ℕ, ◌+◌, ◌≤◌, ◌<◌, ◌^◌, Bool, true, false, List, [], ◌∷◌, length, slice_index_or, Option, Some, None, Ok, refl, sym, ap, arith, inl}
use Rattle.std.specs.Prelude.{◌==◌, nat_lt, if◌then◌else◌}
use Rattle.std.proofs.lemmas.Bool.{ltb-true, eqb-true}
use Rattle.place_table.specs.declared.ack_stage.AckStage.{AckStage}
use Rattle.part_model.specs.Receipts.{ReceiptState}
use Rattle.actor_names.specs.declared.member.Member.{Member}
use Rattle.part_model.specs.declared.ack.Ack.{Ack}
use Rattle.part_model.specs.Acks.{shown_ack, shown_stage, stage_rank, is_as_far, collected, other_place, Shows}
use Rattle.member_core.specs.Answers.{collect_answer, answer_of}
use Rattle.part_model.proofs.Collects.{collected_shown}
use Rattle.placement_beats.specs.Beats.{IsShort}

far_version : (a b : Ack) → is_as_far a b ≡ true → b.version ≤ a.version
far_version a b e = go (a.version == b.version) refl e
  where
    go : (t : Bool) → (a.version == b.version) ≡ t → (if t then nat_lt (stage_rank b.stage) (stage_rank a.stage + 1) else nat_lt b.version a.version) ≡ true → b.version ≤ a.version
    go true is h = let same = eqb-true a.version b.version is in omega arith
    go false is h = let less = ltb-true b.version a.version h in omega arith

shown_version : (r : ReceiptState) (s : Option AckStage) (a : Ack) → shown_ack r s ≡ Some a → a.version ≡ r.version
shown_version r None a e = absurd (let h : ⊥ = cc in h)
shown_version r (Some s) a e = let same : record { stage = s; version = r.version } ≡ a = cc in ap (λ (x : Ack). x.version) (sym same)

-- what receipts justify has the version of one of them at most
pub short_answer : (member : Member) (rs : List ReceiptState) (r : ReceiptState)
    → ((ack : Ack) → collected rs ≡ Some ack → Shows r ack) → r.version ≤ 2 ^ 62 → IsShort (collect_answer member rs)
short_answer member rs r shows small = outer (other_place member 0 rs)
  where
    inner : (x : Option Ack) → collected rs ≡ x → IsShort (Ok x)
    inner None e = tt
    inner (Some ack) e =
        let s = shows ack e in
        let v = shown_version r (shown_stage r.stage) s.0 s.1 in
        let f = far_version s.0 ack s.2 in
        omega arith

    outer : (x : Option ℕ) → IsShort (answer_of (collected rs) x)
    outer None = inner (collected rs) refl
    outer (Some at) = tt

pub short_first : (member : Member) (rs : List ReceiptState) (r : ReceiptState) → 0 < length rs → r ≡ slice_index_or rs 0 r → r.version ≤ 2 ^ 62 → IsShort (collect_answer member rs)
short_first member [] r l e small = absurd (omega arith)
short_first member (x ∷ xs) r l e small = short_answer member (x ∷ xs) r (λ ack c. (collected_shown (x ∷ xs) ack c).1 r (inl e)) small
