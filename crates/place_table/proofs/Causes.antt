-- The cause of each refusal of a table.
use Rattle.std.specs.Prelude.{◌≡◌, ℕ, ◌<◌, ◌≤◌, ◌↔◌, Bool, true, false, nat_lt, if◌then◌else◌, List, [], ◌∷◌, ◌++◌, length, Option, Some, None, Result, Ok, Err}
use Rattle.std.proofs.Common.{refl, sym, ◌∙◌, ap, true≢false, arith, is_some, is_ok, ltb-true, ltb-false}
use Rattle.std.specs.List.{list_any}
use Rattle.std.specs.Str.{bytes_eq}
use Rattle.place_table.specs.declared.host.HostInfo.{HostInfo}
use Rattle.place_table.specs.declared.error.TableError.{TableError}
use Rattle.place_table.specs.declared.error.TableError.TheVariants.{TooManyMembers, TooManyTypes, SameNode, OtherSpace, OutOfMemory}
use Rattle.place_table.specs.Hosts.{node_of, types_fault, same_node_fault, other_space_fault, first_fault, table_fault, BuildsTable}

-- which cause an error reports
abbrev pub rank : TableError → ℕ
rank (TooManyMembers n) = 0
rank (TooManyTypes node n) = 1
rank (SameNode name) = 2
rank (OtherSpace node) = 3
rank OutOfMemory = 4

types_rank : (hosts : List HostInfo) (e : TableError) → types_fault hosts ≡ Some e → rank e ≡ 1
types_rank [] e is = absurd (true≢false (sym (ap is_some is)))
types_rank (h ∷ hs) e is = split (types_rank hs e) (nat_lt 32 (length h.kinds)) is
  where
    split : (types_fault hs ≡ Some e → rank e ≡ 1) → (b : Bool) → (if b then Some (TooManyTypes (node_of h) (length h.kinds)) else types_fault hs) ≡ Some e → rank e ≡ 1
    split more true f = let same : TooManyTypes (node_of h) (length h.kinds) ≡ e = cc in sym (ap rank same)
    split more false f = more f

same_rank : (earlier hosts : List HostInfo) (e : TableError) → same_node_fault earlier hosts ≡ Some e → rank e ≡ 2
same_rank earlier [] e is = absurd (true≢false (sym (ap is_some is)))
same_rank earlier (h ∷ hs) e is = split (same_rank (earlier ++ h ∷ []) hs e) (list_any (λ x. bytes_eq (node_of x) (node_of h)) earlier) is
  where
    split : (same_node_fault (earlier ++ h ∷ []) hs ≡ Some e → rank e ≡ 2) → (b : Bool) → (if b then Some (SameNode (node_of h)) else same_node_fault (earlier ++ h ∷ []) hs) ≡ Some e → rank e ≡ 2
    split more true f = let same : SameNode (node_of h) ≡ e = cc in sym (ap rank same)
    split more false f = more f

other_rank : (space : List ℕ) (hosts : List HostInfo) (e : TableError) → other_space_fault space hosts ≡ Some e → rank e ≡ 3
other_rank space [] e is = absurd (true≢false (sym (ap is_some is)))
other_rank space (h ∷ hs) e is = split (other_rank space hs e) (bytes_eq h.member.space space) is
  where
    split : (other_space_fault space hs ≡ Some e → rank e ≡ 3) → (b : Bool) → (if b then other_space_fault space hs else Some (OtherSpace (node_of h))) ≡ Some e → rank e ≡ 3
    split more true f = more f
    split more false f = let same : OtherSpace (node_of h) ≡ e = cc in sym (ap rank same)

-- the faults tested after that of the types: their ranks are above its
later_rank : (space : List ℕ) (hosts : List HostInfo) (e : TableError) → first_fault (same_node_fault [] hosts) (other_space_fault space hosts) ≡ Some e → 2 ≤ rank e
later_rank space hosts e is = split (same_node_fault [] hosts) refl is
  where
    split : (o : Option TableError) → same_node_fault [] hosts ≡ o → first_fault o (other_space_fault space hosts) ≡ Some e → 2 ≤ rank e
    split None t f = let three : rank e ≡ 3 = other_rank space hosts e f in omega arith
    split (Some x) t f = let two : rank e ≡ 2 = same_rank [] hosts e (t ∙ f) in omega arith

-- an error other than out of memory is the answer exactly if it is the fault
built : {A : Type 0} (r : Result A TableError) (o : Option TableError) (e : TableError) → BuildsTable o r → rank e < 4 → (r ≡ Err e) ↔ (o ≡ Some e)
built (Ok x) None e h low = (λ is. absurd (true≢false (ap is_ok is)), λ is. absurd (true≢false (sym (ap is_some is))))
built (Err y) None e h low = (λ is. absurd (let same : y ≡ e = cc in let four : rank y ≡ 4 = ap rank h in let two : rank y ≡ rank e = ap rank same in omega arith), λ is. absurd (true≢false (sym (ap is_some is))))
built r (Some f) e h low = (λ is. let same : f ≡ e = cc in ap (λ x. Some x) same, λ is. let same : f ≡ e = cc in h ∙ ap (λ x. Err x) same)

both : {P Q R : Type 0} → P ↔ Q → Q ↔ R → P ↔ R
both a b = (λ p. b.0 (a.0 p), λ r. a.1 (b.1 r))

no_rank_0 : (a s : Option TableError) (n : ℕ) → ((e : TableError) → a ≡ Some e → rank e ≡ 1) → ((e : TableError) → s ≡ Some e → 2 ≤ rank e) → first_fault a s ≡ Some (TooManyMembers n) → 0 < 0
no_rank_0 None s n ra rs is = let two : 2 ≤ rank (TooManyMembers n) = rs (TooManyMembers n) is in omega arith
no_rank_0 (Some f) s n ra rs is = let one : rank (TooManyMembers n) ≡ 1 = ra (TooManyMembers n) is in omega arith

module _ (space : List ℕ) where
  -- the faults tested after that of the types
  abbrev later : List HostInfo → Option TableError
  later hosts = first_fault (same_node_fault [] hosts) (other_space_fault space hosts)

  members_fault : (hosts : List HostInfo) (n : ℕ) → (table_fault space hosts ≡ Some (TooManyMembers n)) ↔ ((n ≡ length hosts) × (256 < n))
  members_fault hosts n = split (nat_lt 256 (length hosts)) refl
    where
      split : (b : Bool) → nat_lt 256 (length hosts) ≡ b → ((if b then Some (TooManyMembers (length hosts)) else first_fault (types_fault hosts) (later hosts)) ≡ Some (TooManyMembers n)) ↔ ((n ≡ length hosts) × (256 < n))
      split true t =
          let over : 256 < length hosts = ltb-true 256 (length hosts) t in (
            λ is. let same : length hosts ≡ n = cc in (sym same, omega arith),
            λ h. ap (λ k. Some (TooManyMembers k)) (sym h.0),
          )
      split false t =
          let within : length hosts ≤ 256 = ltb-false 256 (length hosts) t in (
            λ is. absurd (let z = no_rank_0 (types_fault hosts) (later hosts) n (types_rank hosts) (later_rank space hosts) is in omega arith),
            λ h. absurd (let same : n ≡ length hosts = h.0 in let over : 256 < n = h.1 in omega arith),
          )

  first_types : (a s : Option TableError) (node : List ℕ) (n : ℕ) → ((e : TableError) → s ≡ Some e → 2 ≤ rank e) → (first_fault a s ≡ Some (TooManyTypes node n)) ↔ (a ≡ Some (TooManyTypes node n))
  first_types None s node n rs = (λ is. absurd (let two : 2 ≤ rank (TooManyTypes node n) = rs (TooManyTypes node n) is in omega arith), λ is. absurd (true≢false (sym (ap is_some is))))
  first_types (Some f) s node n rs = (λ is. is, λ is. is)

  -- a fault of a rank above the first's is the answer exactly if the first has none and it is the second's
  second_fault : (a s : Option TableError) (e : TableError) (r : ℕ) → ((x : TableError) → a ≡ Some x → rank x ≡ r) → r < rank e → (first_fault a s ≡ Some e) ↔ ((a ≡ None) × (s ≡ Some e))
  second_fault None s e r ra above = (λ is. (refl, is), λ h. h.1)
  second_fault (Some f) s e r ra above = (λ is. absurd (let one : rank e ≡ r = ra e is in omega arith), λ h. absurd (true≢false (ap is_some h.0)))

  first_same : (a s : Option TableError) (name : List ℕ) → ((e : TableError) → s ≡ Some e → rank e ≡ 3) → (first_fault a s ≡ Some (SameNode name)) ↔ (a ≡ Some (SameNode name))
  first_same None s name rs = (λ is. absurd (let three : rank (SameNode name) ≡ 3 = rs (SameNode name) is in omega arith), λ is. absurd (true≢false (sym (ap is_some is))))
  first_same (Some f) s name rs = (λ is. is, λ is. is)

  within_fault : (hosts : List HostInfo) (e : TableError) → 0 < rank e → (table_fault space hosts ≡ Some e) ↔ ((length hosts ≤ 256) × (first_fault (types_fault hosts) (later hosts) ≡ Some e))
  within_fault hosts e above = split (nat_lt 256 (length hosts)) refl
    where
      split : (b : Bool) → nat_lt 256 (length hosts) ≡ b → ((if b then Some (TooManyMembers (length hosts)) else first_fault (types_fault hosts) (later hosts)) ≡ Some e) ↔ ((length hosts ≤ 256) × (first_fault (types_fault hosts) (later hosts) ≡ Some e))
      split true t =
          let over : 256 < length hosts = ltb-true 256 (length hosts) t in (
            λ is. absurd (let same : TooManyMembers (length hosts) ≡ e = cc in let none : rank (TooManyMembers (length hosts)) ≡ rank e = ap rank same in omega arith),
            λ h. absurd (let within : length hosts ≤ 256 = h.0 in omega arith),
          )
      split false t = (λ is. (ltb-false 256 (length hosts) t, is), λ h. h.1)

  pub members_cause : {A : Type 0} (r : Result A TableError) (hosts : List HostInfo) → BuildsTable (table_fault space hosts) r → (n : ℕ) → (r ≡ Err (TooManyMembers n)) ↔ ((n ≡ length hosts) × (256 < n))
  members_cause r hosts h n = both (built r (table_fault space hosts) (TooManyMembers n) h (omega arith)) (members_fault hosts n)

  pub types_cause : {A : Type 0} (r : Result A TableError) (hosts : List HostInfo) → BuildsTable (table_fault space hosts) r → (node : List ℕ) (n : ℕ) → (r ≡ Err (TooManyTypes node n)) ↔ ((length hosts ≤ 256) × (types_fault hosts ≡ Some (TooManyTypes node n)))
  types_cause r hosts h node n =
      let first = first_types (types_fault hosts) (later hosts) node n (later_rank space hosts) in
      both (both (built r (table_fault space hosts) (TooManyTypes node n) h (omega arith)) (within_fault hosts (TooManyTypes node n) (omega arith)))
      (λ w. (w.0, first.0 w.1), λ w. (w.0, first.1 w.1))

  pub same_cause : {A : Type 0} (r : Result A TableError) (hosts : List HostInfo) → BuildsTable (table_fault space hosts) r → (name : List ℕ) → (r ≡ Err (SameNode name)) ↔ ((length hosts ≤ 256) × (types_fault hosts ≡ None) × (same_node_fault [] hosts ≡ Some (SameNode name)))
  same_cause r hosts h name =
      let behind = second_fault (types_fault hosts) (later hosts) (SameNode name) 1 (types_rank hosts) (omega arith) in
      let first = first_same (same_node_fault [] hosts) (other_space_fault space hosts) name (other_rank space hosts) in
      both (both (built r (table_fault space hosts) (SameNode name) h (omega arith)) (within_fault hosts (SameNode name) (omega arith)))
      (λ w. (w.0, (behind.0 w.1).0, first.0 (behind.0 w.1).1), λ w. (w.0, behind.1 (w.1, first.1 w.2)))

  pub other_cause : {A : Type 0} (r : Result A TableError) (hosts : List HostInfo) → BuildsTable (table_fault space hosts) r → (node : List ℕ) → (r ≡ Err (OtherSpace node)) ↔ ((length hosts ≤ 256) × (types_fault hosts ≡ None) × (same_node_fault [] hosts ≡ None) × (other_space_fault space hosts ≡ Some (OtherSpace node)))
  other_cause r hosts h node =
      let behind = second_fault (types_fault hosts) (later hosts) (OtherSpace node) 1 (types_rank hosts) (omega arith) in
      let last = second_fault (same_node_fault [] hosts) (other_space_fault space hosts) (OtherSpace node) 2 (same_rank [] hosts) (omega arith) in
      both (both (built r (table_fault space hosts) (OtherSpace node) h (omega arith)) (within_fault hosts (OtherSpace node) (omega arith)))
      (λ w. (w.0, (behind.0 w.1).0, (last.0 (behind.0 w.1).1).0, (last.0 (behind.0 w.1).1).1), λ w. (w.0, behind.1 (w.1, last.1 (w.2, w.3))))
