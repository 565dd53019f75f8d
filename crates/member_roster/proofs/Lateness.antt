-- Members dropped one after another.
use Rattle.std.proofs.Common.{◌≡◌, ℕ, suc, zero, ◌<◌, ◌≤◌, true, false, List, [], ◌∷◌, ◌++◌, length, get_or, take, drop, refl, ap, ◌∙◌, arith}
use Rattle.std.specs.Prelude.{◌-◌, nat_le, Some}
use Rattle.std.specs.List.{remove, slice_get}
use Rattle.place_table.specs.declared.host.HostInfo.{HostInfo}
use Rattle.member_roster.specs.declared.marks.Mark.{Mark}
use Rattle.member_roster.specs.Members.{Joined, is_late, heard_of, late_of}
use Rattle.member_roster.specs.Roster.{joined_of, joined_all}

-- the mark at a place says whether the member there is late
pub late_at : (hs : List HostInfo) (ms : List Mark) (i now : ℕ) (k : Mark) (j : Joined) → k ≡ get_or ms i k → slice_get (joined_all hs ms) i ≡ Some j → nat_le 10000 (now - k.heard) ≡ is_late now j
late_at [] ms i now k j r e = absurd (cc)
late_at (h ∷ hs) [] i now k j r e = absurd (cc)
late_at (h ∷ hs) (m ∷ ms) zero now k j r e = let same : joined_of h m ≡ j = cc in ap (λ (x : Mark). is_late now (joined_of h x)) r ∙ ap (is_late now) same
late_at (h ∷ hs) (m ∷ ms) (suc i) now k j r e = late_at hs ms i now k j r e

pub take_remove : {X : Type 0} (xs : List X) (i : ℕ) → take i (remove xs i) ≡ take i xs
take_remove [] zero = refl
take_remove [] (suc i) = refl
take_remove (x ∷ xs) zero = refl
take_remove (x ∷ xs) (suc i) = ap (λ ys. x ∷ ys) (take_remove xs i)

pub heard_skip : (hs : List HostInfo) (ms : List Mark) (i now : ℕ) (d : HostInfo) (e : Mark) → length ms ≡ length hs → i < length hs → is_late now (joined_of (get_or hs i d) (get_or ms i e)) ≡ true → heard_of (joined_all (drop i hs) (drop i ms)) now ≡ heard_of (joined_all (drop i (remove hs i)) (drop i (remove ms i))) now
heard_skip [] ms i now d e l m t = absurd (omega arith)
heard_skip (h ∷ hs) [] i now d e l m t = absurd (omega arith)
heard_skip (h ∷ hs) (k ∷ ms) zero now d e l m t = rw t refl
heard_skip (h ∷ hs) (k ∷ ms) (suc i) now d e l m t = heard_skip hs ms i now d e (omega arith) (omega arith) t

pub late_skip : (hs : List HostInfo) (ms : List Mark) (i now : ℕ) (d : HostInfo) (e : Mark) → length ms ≡ length hs → i < length hs → is_late now (joined_of (get_or hs i d) (get_or ms i e)) ≡ true → late_of (joined_all (drop i hs) (drop i ms)) now ≡ (get_or hs i d).member ∷ late_of (joined_all (drop i (remove hs i)) (drop i (remove ms i))) now
late_skip [] ms i now d e l m t = absurd (omega arith)
late_skip (h ∷ hs) [] i now d e l m t = absurd (omega arith)
late_skip (h ∷ hs) (k ∷ ms) zero now d e l m t = rw t refl
late_skip (h ∷ hs) (k ∷ ms) (suc i) now d e l m t = late_skip hs ms i now d e (omega arith) (omega arith) t

-- a member that was heard in time stays
pub heard_keep : (hs : List HostInfo) (ms : List Mark) (i now : ℕ) (d : HostInfo) (e : Mark) → length ms ≡ length hs → i < length hs → is_late now (joined_of (get_or hs i d) (get_or ms i e)) ≡ false → joined_all (take i hs) (take i ms) ++ heard_of (joined_all (drop i hs) (drop i ms)) now ≡ joined_all (take (suc i) hs) (take (suc i) ms) ++ heard_of (joined_all (drop (suc i) hs) (drop (suc i) ms)) now
heard_keep [] ms i now d e l m t = absurd (omega arith)
heard_keep (h ∷ hs) [] i now d e l m t = absurd (omega arith)
heard_keep (h ∷ hs) (k ∷ ms) zero now d e l m t = rw t refl
heard_keep (h ∷ hs) (k ∷ ms) (suc i) now d e l m t = ap (λ js. joined_of h k ∷ js) (heard_keep hs ms i now d e (omega arith) (omega arith) t)

pub late_keep : (hs : List HostInfo) (ms : List Mark) (i now : ℕ) (d : HostInfo) (e : Mark) → length ms ≡ length hs → i < length hs → is_late now (joined_of (get_or hs i d) (get_or ms i e)) ≡ false → late_of (joined_all (drop i hs) (drop i ms)) now ≡ late_of (joined_all (drop (suc i) hs) (drop (suc i) ms)) now
late_keep [] ms i now d e l m t = absurd (omega arith)
late_keep (h ∷ hs) [] i now d e l m t = absurd (omega arith)
late_keep (h ∷ hs) (k ∷ ms) zero now d e l m t = rw t refl
late_keep (h ∷ hs) (k ∷ ms) (suc i) now d e l m t = late_keep hs ms i now d e (omega arith) (omega arith) t

-- at the end
pub heard_end : (hs : List HostInfo) (ms : List Mark) (i now : ℕ) → length ms ≡ length hs → length hs ≤ i → joined_all (take i hs) (take i ms) ++ heard_of (joined_all (drop i hs) (drop i ms)) now ≡ joined_all hs ms
heard_end [] [] zero now l m = refl
heard_end [] [] (suc i) now l m = refl
heard_end [] (k ∷ ms) i now l m = absurd (omega arith)
heard_end (h ∷ hs) [] i now l m = absurd (omega arith)
heard_end (h ∷ hs) (k ∷ ms) zero now l m = absurd (omega arith)
heard_end (h ∷ hs) (k ∷ ms) (suc i) now l m = ap (λ js. joined_of h k ∷ js) (heard_end hs ms i now (omega arith) (omega arith))

pub late_end : (hs : List HostInfo) (ms : List Mark) (i now : ℕ) → length ms ≡ length hs → length hs ≤ i → late_of (joined_all (drop i hs) (drop i ms)) now ≡ []
late_end [] [] zero now l m = refl
late_end [] [] (suc i) now l m = refl
late_end [] (k ∷ ms) i now l m = absurd (omega arith)
late_end (h ∷ hs) [] i now l m = absurd (omega arith)
late_end (h ∷ hs) (k ∷ ms) zero now l m = absurd (omega arith)
late_end (h ∷ hs) (k ∷ ms) (suc i) now l m = late_end hs ms i now (omega arith) (omega arith)
