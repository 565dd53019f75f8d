-- What a window shows of a disk.
use Rattle.std.proofs.Common.{◌≡◌, ℕ, ◌+◌, ◌-◌, ◌≤◌, List, [], length, take, drop, Result, Ok, Err, ◌∙◌, ap, arith, length-take}
use Rattle.std.specs.Prelude.{OnOk, IfErr}
use Rattle.std.proofs.lemmas.List.{drop-drop, drop-take, take-take}
use Rattle.disk_model.specs.Disk.{DiskState}
use Rattle.tx_journal.specs.declared.error.JournalError.{JournalError}
use Rattle.tx_journal.specs.Window.{IsWindow, ShowsFront}

-- an empty window is right for any disk
pub shows_nothing : (at : ℕ) (bytes : List ℕ) (d : DiskState) → bytes ≡ [] → IsWindow at bytes d
shows_nothing at bytes d none = record { n = 0; reads = none }

-- the bytes within a window are the disk's
pub shows_within : (at from n k : ℕ) (xs : List ℕ) → from ≤ at → at - from + k ≤ n → take k (drop (at - from) (take n (drop from xs))) ≡ take k (drop at xs)
shows_within at from n k xs behind room =
    let j = at - from in
    let m : ℕ = n - j in
    ap (λ (i : ℕ). take k (drop j (take i (drop from xs)))) (let e : n ≡ j + m = omega (arith, room) in e)
    ∙ ap (take k) (drop-take j m (drop from xs))
    ∙ take-take k m (drop j (drop from xs)) (omega (arith, room))
    ∙ ap (take k) (drop-drop j from xs) ∙ ap (λ (i : ℕ). take k (drop i xs)) (let e : from + j ≡ at = omega (arith, behind) in e)

pub shows_front : (from at : ℕ) (bytes : List ℕ) (d : DiskState) → IsWindow from bytes d → from ≤ at → at - from + 5 ≤ length bytes → ShowsFront from bytes at d
shows_front from at bytes d window behind room =
    ap (λ (l : List ℕ). take 5 (drop (at - from) l)) window.reads
    ∙ shows_within at from window.n 5 d.bytes behind (omega (arith, room, ap length window.reads, length-take window.n (drop from d.bytes)))

-- a window that was moved shows what was read
pub shows_moved : (at width : ℕ) (bytes : List ℕ) (d : DiskState) → 5 ≤ width → bytes ≡ take width (drop at d.bytes) → ShowsFront at bytes at d
shows_moved at width bytes d wide read =
    ap (λ (i : ℕ). take 5 (drop i bytes)) (let e : at - at ≡ 0 = omega arith in e) ∙ ap (take 5) read ∙ take-take 5 width (drop at d.bytes) wide

-- the same for a read that may have failed, after which the window is empty
pub shown_read : {T : Type 0} (r : Result T JournalError) (at width : ℕ) (bytes : List ℕ) (d : DiskState) → OnOk r (bytes ≡ take width (drop at d.bytes)) → IfErr r (λ e. bytes ≡ []) → IsWindow at bytes d
shown_read (Ok x) at width bytes d read failed = record { n = width; reads = read }
shown_read (Err e) at width bytes d read failed = shows_nothing at bytes d failed

pub front_read : {T : Type 0} (r : Result T JournalError) (at width : ℕ) (bytes : List ℕ) (d : DiskState) → 5 ≤ width → OnOk r (bytes ≡ take width (drop at d.bytes)) → OnOk r (ShowsFront at bytes at d)
front_read (Ok x) at width bytes d wide read = shows_moved at width bytes d wide read
front_read (Err e) at width bytes d wide read = tt
