-- Lanes and rows that were counted stay so.
use Rattle.std.proofs.Common.{◌≡◌, ℕ, suc, ◌+◌, ◌<◌, ◌≤◌, Bool, true, false, if◌then◌else◌, List, [], ◌∷◌, length, Option, Some, None, refl, sym, ap, ◌∙◌, arith, length-append}
use Rattle.std.specs.Prelude.{is_some}
use Rattle.std.specs.declared.cmp.Ordering.{Ordering}
use Rattle.std.specs.Ordering.{is_eq}
use Rattle.std.proofs.lemmas.Bool.{cond_both}
use Rattle.lists_and_limits.specs.Cuts.{IsCut}
use Rattle.lists_and_limits.specs.Lists.{with_changed}
use Rattle.lists_and_limits.proofs.Maps.{put-new, length-put_found}
use Rattle.lists_and_limits.proofs.Orders.{cut_key, ascends_put, ascends_changed}
use Rattle.call_book.specs.declared.lane.LaneName.{LaneName}
use Rattle.call_book.specs.declared.lane.CallLane.{CallLane}
use Rattle.call_book.specs.Lanes.{lane_cmp, at_lane, lane_at, put_lane, risen, raise_lane}
use Rattle.call_book.specs.Turns.{AreCountedLanes}
use Rattle.call_book.specs.Orders.{names_total}

abbrev name_in : CallLane → LaneName
name_in l = l.name

pub cut_lane : (name : LaneName) (lanes : List CallLane) (count : ℕ) → AreCountedLanes lanes count → IsCut (at_lane name) lanes
cut_lane name lanes count a = cut_key name_in lane_cmp names_total name lanes a.order

length-put_new : (lane : CallLane) (lanes : List CallLane) → lane_at lane.name lanes ≡ None → length (put_lane lane lanes) ≡ suc (length lanes)
length-put_new lane lanes h =
    let s = put-new name_in lane_cmp names_total lane lanes h in
    let whole = ap length s.3 ∙ length-append s.0 (lane ∷ s.1) in
    let before = ap length s.2 ∙ length-append s.0 s.1 in
    omega arith

length_after : (there : Bool) (lane : CallLane) (lanes : List CallLane) (count : ℕ) → AreCountedLanes lanes count → there ≡ is_some (lane_at lane.name lanes) → (if there then count else count + 1) ≡ length (put_lane lane lanes)
length_after there lane lanes count a is = go (lane_at lane.name lanes) refl is
  where
    go : (o : Option CallLane) → lane_at lane.name lanes ≡ o → there ≡ is_some o → (if there then count else count + 1) ≡ length (put_lane lane lanes)
    go None none t = let more = length-put_new lane lanes none in let m = a.number in rw t (omega arith)
    go (Some d) found t = let same = length-put_found name_in lane_cmp names_total lane d lanes a.order found in let m = a.number in rw t (m ∙ sym same)

-- there is room for a lane that is new
pub count_room : (there : Bool) (lane : CallLane) (lanes : List CallLane) (count : ℕ) → AreCountedLanes lanes count → there ≡ is_some (lane_at lane.name lanes) → (is_some (lane_at lane.name lanes) ≡ false → length lanes < 4096) → there ≡ false → count < 4096
count_room there lane lanes count a is room new =
    let less = room (sym is ∙ new) in
    let m = a.number in
    omega arith

limit_after : (there : Bool) (count : ℕ) → count ≤ 4096 → (there ≡ false → count < 4096) → (if there then count else count + 1) ≤ 4096
limit_after true count l room = l
limit_after false count l room = let less = room refl in omega arith

-- a lane that is put is counted if it is new
pub counted_put : (there : Bool) (lane : CallLane) (lanes : List CallLane) (count : ℕ) → AreCountedLanes lanes count → there ≡ is_some (lane_at lane.name lanes) → (there ≡ false → count < 4096) → AreCountedLanes (put_lane lane lanes) (if there then count else count + 1)
counted_put there lane lanes count a is room = record {
  order = ascends_put name_in lane_cmp names_total lane lanes a.order;
  number = length_after there lane lanes count a is;
  limit = limit_after there count a.limit room;
}

length-changed : {E : Type 0} (at : E → Ordering) (f : E → E) (xs : List E) → length (with_changed at f xs) ≡ length xs
length-changed at f [] = refl
length-changed at f (x ∷ xs) =
    let more = length-changed at f xs in
    cond_both (is_eq (at x)) _ _ (λ ys. length ys ≡ suc (length xs)) (λ _. refl) (λ _. ap suc more)

pub counted_raised : (name : LaneName) (number : ℕ) (lanes : List CallLane) (count : ℕ) → AreCountedLanes lanes count → AreCountedLanes (raise_lane name number lanes) count
counted_raised name number lanes count a = record {
  order = ascends_changed name_in lane_cmp (at_lane name) (risen number) (λ l. refl) lanes a.order;
  number = a.number ∙ sym (length-changed (at_lane name) (risen number) lanes);
  limit = a.limit;
}
