-- Taking or dropping a prefix of a list in two pieces.
use Rattle.std.proofs.Common.{sym, refl, ◌≡◌, ℕ, ◌+◌, List, ◌++◌, take, drop}
use Rattle.std.proofs.Math.Seq.{take-add}
use Rattle.std.proofs.lemmas.List.{drop-drop}
use Rattle.actor_ports.specs.Traffic.{Place, Traffic, took}

pub take_more : (n m : ℕ) (l : List ℕ) → take (n + m) l ≡ take n l ++ take m (drop n l)
take_more n m l = take-add n m l

pub drop_more : (n m : ℕ) (l : List ℕ) → drop (n + m) l ≡ drop m (drop n l)
drop_more n m l = sym (drop-drop m n l)

-- the traffic of a connection of which r bytes were read, and then n more
pub took_more : (at : Place) (bytes written : List ℕ) (r n : ℕ) →
    (let t : Traffic = record { at = at; read = take (r + n) bytes; left = drop (r + n) bytes; written = written } in t)
    ≡ took n (record { at = at; read = take r bytes; left = drop r bytes; written = written })
took_more at bytes written r n = rw (take_more r n bytes, drop_more r n bytes) refl
