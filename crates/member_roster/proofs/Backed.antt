-- The second copies through each change.
use Rattle.std.proofs.Common.{◌≡◌, ◌⊎◌, ℕ, suc, zero, ◌<◌, Bool, cond, true, false, List, [], ◌∷◌, ◌++◌, length, get_or, set, take, Option, None, Some, refl, sym, ap, ◌∙◌, subst, inl, inr, arith}
use Rattle.std.specs.List.{insert, remove}
use Rattle.std.specs.declared.cmp.Ordering.{Ordering}
use Rattle.std.specs.declared.cmp.Ordering.TheVariants.{Less, Equal, Greater}
use Rattle.std.specs.declared.result.Result.TheVariants.{Ok}
use Rattle.std.specs.Ordering.{ordering_reverse}
use Rattle.std.proofs.lemmas.Cmp.{nat_list_cmp_total}
use Rattle.place_table.specs.declared.host.HostInfo.{HostInfo}
use Rattle.member_roster.specs.declared.marks.Mark.{Mark}
use Rattle.member_roster.specs.Members.{target_hosts}
use Rattle.member_roster.specs.Places.{host_node, IsBelowAll, Ascends, place_by}
use Rattle.member_roster.specs.Roster.{joined_all, IsIn, IsBacked, AreBacked, AreSpare, AreBackedTo}
use Rattle.member_roster.proofs.Places.{cmp}

pub backed_remove : (hs : List HostInfo) (ss : List (Option HostInfo)) (t : List HostInfo) (i : ℕ) → AreBacked hs ss t → AreBacked (remove hs i) (remove ss i) t
backed_remove [] [] t zero b = tt
backed_remove [] [] t (suc i) b = tt
backed_remove [] (s ∷ ss) t i b = absurd b
backed_remove (h ∷ hs) [] t i b = absurd b
backed_remove (h ∷ hs) (s ∷ ss) t zero b = b.1
backed_remove (h ∷ hs) (s ∷ ss) t (suc i) b = (b.0, backed_remove hs ss t i b.1)

-- a new host with its copy
pub backed_insert : (hs : List HostInfo) (ss : List (Option HostInfo)) (t : List HostInfo) (i : ℕ) (x y : HostInfo) → y ≡ x → AreBacked hs ss t → AreBacked (insert hs i x) (insert ss i (Some y)) t
backed_insert [] [] t zero x y e b = (e, tt)
backed_insert [] [] t (suc i) x y e b = (e, tt)
backed_insert [] (s ∷ ss) t i x y e b = absurd b
backed_insert (h ∷ hs) [] t i x y e b = absurd b
backed_insert (h ∷ hs) (s ∷ ss) t zero x y e b = (e, b)
backed_insert (h ∷ hs) (s ∷ ss) t (suc i) x y e b = (b.0, backed_insert hs ss t i x y e b.1)

-- if the table is empty, each copy is spare
pub spare_of_none : (hs : List HostInfo) (ss : List (Option HostInfo)) → AreBacked hs ss [] → AreSpare hs ss
spare_of_none [] [] b = tt
spare_of_none [] (s ∷ ss) b = absurd b
spare_of_none (h ∷ hs) [] b = absurd b
spare_of_none (h ∷ hs) (None ∷ ss) b = absurd b.0
spare_of_none (h ∷ hs) (Some x ∷ ss) b = (ap (λ (y : HostInfo). Some y) b.0, spare_of_none hs ss b.1)

-- ---- a copy is given back

in_more : (h copy : HostInfo) (rest : List HostInfo) → IsIn h (rest ++ copy ∷ []) → IsIn h rest ⊎ (h ≡ copy)
in_more h copy [] (inl e) = inr e
in_more h copy [] (inr i) = absurd i
in_more h copy (x ∷ rest) (inl e) = inl (inl e)
in_more h copy (x ∷ rest) (inr i) = elim (in_more h copy rest i) [ inl j ↦ inl (inr j) | inr e ↦ inr e ]

one_backed : (h copy : HostInfo) (s : Option HostInfo) (rest : List HostInfo) → (h ≡ copy → ⊥) → IsBacked h s (rest ++ copy ∷ []) → IsBacked h s rest
one_backed h copy None rest off b = elim (in_more h copy rest b) [ inl j ↦ j | inr e ↦ absurd (off e) ]
one_backed h copy (Some x) rest off b = b

-- if the copy is of no host
pub backed_without : (hs : List HostInfo) (ss : List (Option HostInfo)) (rest : List HostInfo) (copy : HostInfo) → (IsIn copy hs → ⊥) → AreBacked hs ss (rest ++ copy ∷ []) → AreBacked hs ss rest
backed_without [] [] rest copy off b = tt
backed_without [] (s ∷ ss) rest copy off b = absurd b
backed_without (h ∷ hs) [] rest copy off b = absurd b
backed_without (h ∷ hs) (s ∷ ss) rest copy off b = (one_backed h copy s rest (λ e. off (inl (sym e))) b.0, backed_without hs ss rest copy (λ i. off (inr i)) b.1)

pub cmp_same : (a : List ℕ) → cmp a a ≡ Equal
cmp_same a = go (cmp a a) refl
  where
    go : (o : Ordering) → cmp a a ≡ o → cmp a a ≡ Equal
    go Less e = let t = nat_list_cmp_total in let f : cmp a a ≡ Greater = t.antisymm a a ∙ ap ordering_reverse e in absurd (cc)
    go Equal e = e
    go Greater e = let t = nat_list_cmp_total in let f : cmp a a ≡ Less = t.antisymm a a ∙ ap ordering_reverse e in absurd (cc)

below_in : (node : List ℕ) (copy : HostInfo) (hs : List HostInfo) → IsBelowAll host_node node hs → IsIn copy hs → cmp node copy.member.node ≡ Less
below_in node copy [] b i = absurd i
below_in node copy (h ∷ hs) b (inl e) = subst (λ (x : HostInfo). cmp node x.member.node ≡ Less) (sym e) b.0
below_in node copy (h ∷ hs) b (inr i) = below_in node copy hs b.1 i

-- the search finds each host
pub in_place : (copy : HostInfo) (hs : List HostInfo) → Ascends host_node hs → IsIn copy hs → (j : ℕ) × (place_by host_node copy.member.node hs ≡ Ok j) × (get_or hs j copy ≡ copy)
in_place copy [] a i = absurd i
in_place copy (h ∷ hs) a (inl e) =
    let f : cmp h.member.node copy.member.node ≡ Equal = subst (λ (x : HostInfo). cmp x.member.node copy.member.node ≡ Equal) e (cmp_same copy.member.node) in
    (0, rw f refl, sym e)
in_place copy (h ∷ hs) a (inr i) =
    let f : cmp h.member.node copy.member.node ≡ Less = below_in h.member.node copy hs a.0 i in
    let r = in_place copy hs a.1 i in
    (suc r.0, rw (f, r.1) refl, r.2)

-- a copy given back at the place of its host
pub backed_given : (hs : List HostInfo) (ss : List (Option HostInfo)) (rest : List HostInfo) (copy : HostInfo) (i : ℕ) → Ascends host_node hs → i < length hs → get_or hs i copy ≡ copy → AreBacked hs ss (rest ++ copy ∷ []) → AreBacked hs (set ss i (Some copy)) rest
backed_given [] ss rest copy i a l e b = absurd (omega arith)
backed_given (h ∷ hs) [] rest copy i a l e b = absurd b
backed_given (h ∷ hs) (s ∷ ss) rest copy zero a l e b =
    (sym e, backed_without hs ss rest copy (λ i. let f = below_in h.member.node copy hs a.0 i in let g : cmp h.member.node h.member.node ≡ Less = subst (λ (x : HostInfo). cmp h.member.node x.member.node ≡ Less) (sym e) f in let z = cmp_same h.member.node in absurd (cc)) b.1)
backed_given (h ∷ hs) (s ∷ ss) rest copy (suc i) a l e b =
    (one_backed h copy s rest (λ f. apart f) b.0, backed_given hs ss rest copy i a.1 (omega arith) e b.1)
  where
    at_in : (xs : List HostInfo) (j : ℕ) → j < length xs → get_or xs j copy ≡ copy → IsIn copy xs
    at_in [] j m g = absurd (omega arith)
    at_in (x ∷ xs) zero m g = inl (sym g)
    at_in (x ∷ xs) (suc j) m g = inr (at_in xs j (omega arith) g)

    apart : h ≡ copy → ⊥
    apart f =
        let low = below_in h.member.node copy hs a.0 (at_in hs i (omega arith) e) in
        let g : cmp copy.member.node copy.member.node ≡ Less = subst (λ (x : HostInfo). cmp x.member.node copy.member.node ≡ Less) f low in
        let z = cmp_same copy.member.node in
        absurd (cc)

-- ---- the table is made

in_end : (h x : HostInfo) (t : List HostInfo) → IsIn h t → IsIn h (t ++ x ∷ [])
in_end h x [] i = absurd i
in_end h x (y ∷ t) (inl e) = inl e
in_end h x (y ∷ t) (inr i) = inr (in_end h x t i)

end_in : (x : HostInfo) (t : List HostInfo) → IsIn x (t ++ x ∷ [])
end_in x [] = inl refl
end_in x (y ∷ t) = inr (end_in x t)

backed_end : (h x : HostInfo) (s : Option HostInfo) (t : List HostInfo) → IsBacked h s t → IsBacked h s (t ++ x ∷ [])
backed_end h x None t b = in_end h x t b
backed_end h x (Some y) t b = b

spare_backed : (h : HostInfo) (s : Option HostInfo) (t : List HostInfo) → s ≡ Some h → IsBacked h s t
spare_backed h s t e = subst (λ (o : Option HostInfo). IsBacked h o t) (sym e) refl

-- the copy at the place is spare
pub spare_at : (i : ℕ) (hs : List HostInfo) (ss : List (Option HostInfo)) (t : List HostInfo) (d : HostInfo) → AreBackedTo i hs ss t → i < length hs → get_or ss i None ≡ Some (get_or hs i d)
spare_at zero [] ss t d b l = absurd (omega arith)
spare_at zero (h ∷ hs) [] t d b l = absurd b
spare_at zero (h ∷ hs) (s ∷ ss) t d b l = b.0
spare_at (suc i) [] ss t d b l = absurd (omega arith)
spare_at (suc i) (h ∷ hs) [] t d b l = absurd b
spare_at (suc i) (h ∷ hs) (s ∷ ss) t d b l = spare_at i hs ss t d b.1 (omega arith)

-- a target's copy goes into the table
pub backed_target : (i : ℕ) (hs : List HostInfo) (ss : List (Option HostInfo)) (t : List HostInfo) (d : HostInfo) → AreBackedTo i hs ss t → i < length hs → AreBackedTo (suc i) hs (set ss i None) (t ++ get_or hs i d ∷ [])
backed_target zero [] ss t d b l = absurd (omega arith)
backed_target zero (h ∷ hs) [] t d b l = absurd b
backed_target zero (h ∷ hs) (s ∷ ss) t d b l = (end_in h t, b.1)
backed_target (suc i) [] ss t d b l = absurd (omega arith)
backed_target (suc i) (h ∷ hs) [] t d b l = absurd b
backed_target (suc i) (h ∷ hs) (s ∷ ss) t d b l = (backed_end h (get_or hs i d) s t b.0, backed_target i hs ss t d b.1 (omega arith))

-- any other copy stays spare
pub backed_other : (i : ℕ) (hs : List HostInfo) (ss : List (Option HostInfo)) (t : List HostInfo) → AreBackedTo i hs ss t → i < length hs → AreBackedTo (suc i) hs ss t
backed_other zero [] ss t b l = absurd (omega arith)
backed_other zero (h ∷ hs) [] t b l = absurd b
backed_other zero (h ∷ hs) (s ∷ ss) t b l = (spare_backed h s t b.0, b.1)
backed_other (suc i) [] ss t b l = absurd (omega arith)
backed_other (suc i) (h ∷ hs) [] t b l = absurd b
backed_other (suc i) (h ∷ hs) (s ∷ ss) t b l = (b.0, backed_other i hs ss t b.1 (omega arith))

pub backed_all : (i : ℕ) (hs : List HostInfo) (ss : List (Option HostInfo)) (t : List HostInfo) → i ≡ length hs → AreBackedTo i hs ss t → AreBacked hs ss t
backed_all zero [] [] t e b = tt
backed_all zero [] (s ∷ ss) t e b = absurd b
backed_all zero (h ∷ hs) ss t e b = absurd (omega arith)
backed_all (suc i) [] ss t e b = absurd (omega arith)
backed_all (suc i) (h ∷ hs) [] t e b = absurd b
backed_all (suc i) (h ∷ hs) (s ∷ ss) t e b = (b.0, backed_all i hs ss t (omega arith) b.1)

pub length-spare : (hs : List HostInfo) (ss : List (Option HostInfo)) → AreSpare hs ss → length ss ≡ length hs
length-spare [] [] b = refl
length-spare [] (s ∷ ss) b = absurd b
length-spare (h ∷ hs) [] b = absurd b
length-spare (h ∷ hs) (s ∷ ss) b = let e = length-spare hs ss b.1 in omega arith

pub target-more : (hs : List HostInfo) (ms : List Mark) (i : ℕ) (d : HostInfo) (k : Mark) → length ms ≡ length hs → i < length hs → (get_or ms i k).target ≡ true → target_hosts (joined_all (take (suc i) hs) (take (suc i) ms)) ≡ target_hosts (joined_all (take i hs) (take i ms)) ++ get_or hs i d ∷ []
target-more [] ms i d k l m e = absurd (omega arith)
target-more (h ∷ hs) [] i d k l m e = absurd (omega arith)
target-more (h ∷ hs) (x ∷ ms) zero d k l m e = rw e refl
target-more (h ∷ hs) (x ∷ ms) (suc i) d k l m e = go x.target (target-more hs ms i d k (omega arith) (omega arith) e)
  where
    go : (b : Bool) → target_hosts (joined_all (take (suc i) hs) (take (suc i) ms)) ≡ target_hosts (joined_all (take i hs) (take i ms)) ++ get_or hs i d ∷ [] → cond b (h ∷ target_hosts (joined_all (take (suc i) hs) (take (suc i) ms))) (target_hosts (joined_all (take (suc i) hs) (take (suc i) ms))) ≡ cond b (h ∷ target_hosts (joined_all (take i hs) (take i ms))) (target_hosts (joined_all (take i hs) (take i ms))) ++ get_or hs i d ∷ []
    go true ih = ap (λ (xs : List HostInfo). h ∷ xs) ih
    go false ih = ih

pub target-same : (hs : List HostInfo) (ms : List Mark) (i : ℕ) (k : Mark) → length ms ≡ length hs → i < length hs → (get_or ms i k).target ≡ false → target_hosts (joined_all (take (suc i) hs) (take (suc i) ms)) ≡ target_hosts (joined_all (take i hs) (take i ms))
target-same [] ms i k l m e = absurd (omega arith)
target-same (h ∷ hs) [] i k l m e = absurd (omega arith)
target-same (h ∷ hs) (x ∷ ms) zero k l m e = rw e refl
target-same (h ∷ hs) (x ∷ ms) (suc i) k l m e = go x.target (target-same hs ms i k (omega arith) (omega arith) e)
  where
    go : (b : Bool) → target_hosts (joined_all (take (suc i) hs) (take (suc i) ms)) ≡ target_hosts (joined_all (take i hs) (take i ms)) → cond b (h ∷ target_hosts (joined_all (take (suc i) hs) (take (suc i) ms))) (target_hosts (joined_all (take (suc i) hs) (take (suc i) ms))) ≡ cond b (h ∷ target_hosts (joined_all (take i hs) (take i ms))) (target_hosts (joined_all (take i hs) (take i ms)))
    go true ih = ap (λ (xs : List HostInfo). h ∷ xs) ih
    go false ih = ih

pub empty_of : (xs : List HostInfo) (n : ℕ) → length xs ≡ n → n ≡ 0 → xs ≡ []
empty_of [] n e z = refl
empty_of (x ∷ xs) n e z = absurd (omega arith)

pub some_same : (x y : HostInfo) → Some x ≡ Some y → x ≡ y
some_same x y e = cc

pub spare_all : (hs : List HostInfo) (ss : List (Option HostInfo)) (t : List HostInfo) → AreSpare hs ss → AreBacked hs ss t
spare_all [] [] t b = tt
spare_all [] (s ∷ ss) t b = absurd b
spare_all (h ∷ hs) [] t b = absurd b
spare_all (h ∷ hs) (s ∷ ss) t b = (spare_backed h s t b.0, spare_all hs ss t b.1)
