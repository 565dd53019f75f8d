use Rattle.std.proofs.Common.{ℕ, ◌+◌, List, length, take, ap, subst, ◌∙◌, arith}
use Rattle.std.specs.Int.{w32, from_be_bytes}
use Rattle.exchanges.specs.declared.front.Front.TheVariants as fronts
use Rattle.exchanges.specs.FrameExchanges.{BeginsWith}
use Rattle.exchanges.proofs.Fronts.{look_more}
use Rattle.exchanges.proofs.Readings.{rest_whole, rest_more}
use Rattle.exchanges.proofs.reading.read_rest.Goals as goal

pub fill-requires-after_bounds : goal.fill-requires-after_bounds
fill-requires-after_bounds g c κs within =
    let five = c.requires.five in
    let m = look_more 0 c.args.bytes.items (omega arith) c.requires.more in
    let v = ap (λ (xs : List ℕ). from_be_bytes w32 (take 4 xs)) c.as_slice.ensures.value in
    let l = ap (λ (xs : List ℕ). length xs) c.as_slice.ensures.value in
    let total = c.frame_len-total.ensures in
    let len = c.as_slice.ensures.len in
    omega arith

pub returns-in-Whole-clause-reads : goal.returns-in-Whole-clause-reads
returns-in-Whole-clause-reads g c =
    let five = c.requires.five in
    let total = c.frame_len-total.ensures ∙ ap (λ (xs : List ℕ). 4 + from_be_bytes w32 (take 4 xs)) c.as_slice.ensures.value in
    let begins : BeginsWith c.as_slice-2.result.now (fronts.Whole c.in-Whole.frame) = rw c.in-Whole.is at c.in-Ok-look_front.ensures in
    rest_whole c.args.bytes.items c.fill.new.bytes.items c.frame_len-total.result c.in-Whole.frame _ _ (omega arith) total c.in-Ok.ensures.over c.in-Ok.ensures.most
    (subst (λ (xs : List ℕ). BeginsWith xs (fronts.Whole c.in-Whole.frame)) c.as_slice-2.ensures.value begins)

pub returns-clause-reads : goal.returns-clause-reads
returns-clause-reads g c =
    let five = c.requires.five in
    let total = c.frame_len-total.ensures ∙ ap (λ (xs : List ℕ). 4 + from_be_bytes w32 (take 4 xs)) c.as_slice.ensures.value in
    let begins : BeginsWith c.as_slice-2.result.now fronts.More = rw c.in-More.is at c.in-Ok-look_front.ensures in
    rest_more c.args.bytes.items c.fill.new.bytes.items c.frame_len-total.result c.len.result _ _ (omega arith) total c.in-Ok.ensures.over c.in-Ok.ensures.short
    (subst (λ (xs : List ℕ). BeginsWith xs fronts.More) c.as_slice-2.ensures.value begins) (omega arith)
