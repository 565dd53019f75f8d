use Rattle.std.proofs.Common.{◌≡◌, ◌≤◌, ℕ, suc, ◌+◌, List, [], ◌∷◌, ◌++◌, length, take, slice_set, ap, ◌∙◌, refl, arith, ◌-◌, drop, length-take, length-drop}
use Rattle.std.proofs.lemmas.List.{take-append-le}
use Rattle.tx_journal.proofs.record.fill.Goals as goal

-- a byte before what was filled
filled : (n m : ℕ) (buffer part post text : List ℕ) → m ≡ suc n → 1 ≤ length buffer → n ≤ length part → take n part ≡ text → take m (take 1 (slice_set buffer 0 1) ++ (part ++ post)) ≡ 1 ∷ text
filled n m [] part post text is some long same = absurd (omega (arith, some))
filled n m (b ∷ buffer) part post text is some long same =
    ap (λ (k : ℕ). take k (1 ∷ (part ++ post))) is ∙ ap (λ (l : List ℕ). 1 ∷ l) (take-append-le n part post long ∙ same)

len_set : (buffer : List ℕ) → length (slice_set buffer 0 1) ≡ length buffer
len_set [] = refl
len_set (b ∷ buffer) = refl

pub returns : goal.returns
returns c = filled (5 + length c.args.payload.now) _ c.args.buffer.now c.fill_behind.new.buffer _ _ (omega arith) (omega (arith, c.requires.room)) (omega (arith, c.requires.room, c.fill_behind.auto.buffer, len_set c.args.buffer.now, length-take (length (slice_set c.args.buffer.now 0 1) - 1) (drop 1 (slice_set c.args.buffer.now 0 1)), length-drop 1 (slice_set c.args.buffer.now 0 1))) c.fill_behind.ensures
