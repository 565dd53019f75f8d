use Rattle.std.proofs.Common.{◌≡◌, ℕ, List, ◌++◌, None, Result, Ok, Err, sym, ap, ◌∙◌, subst, append_assoc}
use Rattle.std.specs.Result.{OnOk}
use Rattle.stamp_lanes.specs.declared.answer.KeptNumber.{KeptNumber}
use Rattle.wire_fields.specs.Fields.{spell_all, in_any_order, AllFit}
use Rattle.store_payloads.specs.Fields.{kept_number}
use Rattle.store_payloads.proofs.InPieces.{spell-pieces, first-fits, second-fits}
use Rattle.store_payloads.proofs.lanes.put_number_list.Goals as goal

-- both pieces are written
wrote_both : {T E : Type 0} (r : Result T E) (first second all : List KeptNumber) (out mid new : List ℕ) → all ≡ first ++ second → mid ≡ out ++ spell_all kept_number.spell first
    → OnOk r (new ≡ mid ++ spell_all kept_number.spell second) → OnOk r (new ≡ out ++ spell_all kept_number.spell all)
wrote_both (Ok x) first second all out mid new is wrote written =
    written ∙ ap (λ (l : List ℕ). l ++ spell_all kept_number.spell second) wrote ∙ append_assoc out (spell_all kept_number.spell first) (spell_all kept_number.spell second)
    ∙ ap (λ (l : List ℕ). out ++ l) (sym (spell-pieces kept_number.spell first second) ∙ ap (spell_all kept_number.spell) (sym is))
wrote_both (Err e) first second all out mid new is wrote written = tt

pub put_piece-requires : goal.put_piece-requires
put_piece-requires c = first-fits kept_number None c.as_slices.result.0.now c.as_slices.result.1.now (subst (AllFit (in_any_order kept_number) None) c.as_slices.ensures c.requires)

pub put_piece-requires-2 : goal.put_piece-requires-2
put_piece-requires-2 c = second-fits kept_number None c.as_slices.result.0.now c.as_slices.result.1.now (subst (AllFit (in_any_order kept_number) None) c.as_slices.ensures c.requires)

pub returns : goal.returns
returns c = wrote_both c.put_piece-2.result c.as_slices.result.0.now c.as_slices.result.1.now c.args.kept.now c.args.out.now.items c.put_piece.new.out.items c.put_piece-2.new.out.items c.as_slices.ensures c.in_ok-put_piece.ensures c.put_piece-2.ensures
