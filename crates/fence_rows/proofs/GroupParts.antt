-- A history of lists is a list of parts: single events, and batches.
use Rattle.std.proofs.Common.{◌≡◌, inl, inr, List, [], ◌∷◌, ◌++◌, length, refl, sym, ◌∙◌, ap, subst, append_assoc}
use Rattle.std.specs.Prelude.{map, suc}
use Rattle.std.specs.List.{AllByRecursion}
use Rattle.group_gate.specs.declared.view.Asked.{Asked}
use Rattle.group_gate.specs.History.{asks_in}
use Rattle.step_gate.specs.History.{entry}
use Rattle.store_core.specs.Store.{StoreState}
use Rattle.store_core.specs.Lists.{MovesBatch, MovesEach}
use Rattle.fence_rows.specs.declared.event.FencedEvent.{FencedEvent}
use Rattle.fence_rows.specs.declared.event.FencedOutcome.{FencedOutcome}
use Rattle.fence_rows.specs.Events.{Allows}
use Rattle.fence_rows.specs.Runs.{FencedHistory}
use Rattle.fence_rows.specs.Together.{OneByOne, MayShare, SharesShort, SharedFits, Shares, AllowsAll, fence_rules}
use Rattle.fence_rows.specs.Groups.{GroupHistory, GroupRuns, answered, singles, HasAnswers, joined}
use Rattle.fence_rows.proofs.GroupEntries.{Single, pairs_of, same_cons, MayBe, FitsFrame, all_append}

-- one event with its answer, or a batch
pub data Part (old : StoreState) (part : FencedHistory) (new : StoreState) : Type 0 where
  One : (e : Single) → part ≡ e ∷ [] → Allows old e.event e.reply new → Part old part new
  Batch : AllByRecursion MayBe part → AllByRecursion FitsFrame part → MovesBatch fence_rules old (pairs_of part) new → Part old part new

abbrev pub Chain : StoreState → List FencedHistory → StoreState → Type 0
Chain old [] new = new ≡ old
Chain old (part ∷ parts) new = (mid : StoreState) × Part old part mid × Chain mid parts new

abbrev pub Parted : StoreState → FencedHistory → StoreState → Type 0
Parted old es new = (parts : List FencedHistory) × (joined parts ≡ es) × Chain old parts new

-- ---- joined

joined_append : (ps qs : List FencedHistory) → joined (ps ++ qs) ≡ joined ps ++ joined qs
joined_append [] qs = refl
joined_append (p ∷ ps) qs = ap (λ (l : FencedHistory). p ++ l) (joined_append ps qs) ∙ sym (append_assoc p (joined ps) (joined qs))

chain_append : (ps qs : List FencedHistory) (old mid new : StoreState) → Chain old ps mid → Chain mid qs new → Chain old (ps ++ qs) new
chain_append [] qs old mid new is rest = subst (λ (s : StoreState). Chain s qs new) is rest
chain_append (p ∷ ps) qs old mid new chain rest = (chain.0, chain.1, chain_append ps qs chain.0 mid new chain.2 rest)

parted_append : (es fs : FencedHistory) (old mid new : StoreState) → Parted old es mid → Parted mid fs new → Parted old (es ++ fs) new
parted_append es fs old mid new first rest =
    (first.0 ++ rest.0, joined_append first.0 rest.0 ∙ ap (λ (l : FencedHistory). l ++ joined rest.0) first.1 ∙ ap (λ (l : FencedHistory). es ++ l) rest.1, chain_append first.0 rest.0 old mid new first.2 rest.2)

-- ---- one by one

abbrev IsParted : List (Asked FencedEvent) → List FencedOutcome → StoreState → StoreState → Type 0
IsParted cs rs old new = (length rs ≡ length cs) × Parted old (answered cs rs) new

one_parted : (cs : List (Asked FencedEvent)) (rs : List FencedOutcome) (old new : StoreState) → OneByOne old (asks_in cs) rs new → IsParted cs rs old new
one_parted [] [] old new is = (refl, ([], refl, is))
one_parted [] (r ∷ rs) old new is = absurd is
one_parted (c ∷ cs) [] old new is = absurd is
one_parted (c ∷ cs) (r ∷ rs) old new is =
    let rest : IsParted cs rs is.0 new = one_parted cs rs is.0 new is.2 in
    let e : Single = entry c.place c.ask r in
    (ap suc rest.0, ((e ∷ []) ∷ rest.1.0, ap (λ (l : FencedHistory). e ∷ l) rest.1.1, (is.0, One e refl is.1, rest.1.2)))

-- ---- commands that share syncs

abbrev Pairs : Type 0
Pairs = List (FencedEvent × FencedOutcome)

abbrev events_in : Pairs → List FencedEvent
events_in pairs = map (λ (p : FencedEvent × FencedOutcome). p.0) pairs

abbrev replies_in : Pairs → List FencedOutcome
replies_in pairs = map (λ (p : FencedEvent × FencedOutcome). p.1) pairs

same_pair : (a b : FencedEvent) (r q : FencedOutcome) → a ≡ b → r ≡ q → ◌≡◌ {A = FencedEvent × FencedOutcome} (a, r) (b, q)
same_pair a b r q first second = ap (λ (x : FencedEvent). (x, r)) first ∙ ap (λ (y : FencedOutcome). (b, y)) second

pairs_are : (cs : List (Asked FencedEvent)) (rs : List FencedOutcome) (pairs : Pairs) → events_in pairs ≡ asks_in cs → replies_in pairs ≡ rs → (pairs_of (answered cs rs) ≡ pairs) × (length rs ≡ length cs)
pairs_are [] [] [] asks replies = (refl, refl)
pairs_are [] (r ∷ rs) [] asks replies = absurd cc
pairs_are [] rs (p ∷ ps) asks replies = absurd cc
pairs_are (c ∷ cs) rs [] asks replies = absurd cc
pairs_are (c ∷ cs) [] (p ∷ ps) asks replies = absurd cc
pairs_are (c ∷ cs) (r ∷ rs) (p ∷ ps) asks replies =
    let ask : c.ask ≡ p.0 = cc in
    let reply : r ≡ p.1 = cc in
    let later : events_in ps ≡ asks_in cs = cc in
    let after : replies_in ps ≡ rs = cc in
    let rest = pairs_are cs rs ps later after in
    (same_cons (c.ask, r) p (pairs_of (answered cs rs)) ps (same_pair c.ask p.0 r p.1 ask reply) rest.0, ap suc rest.1)

all_may : (cs : List (Asked FencedEvent)) (rs : List FencedOutcome) → AllByRecursion MayShare (asks_in cs) → AllByRecursion SharesShort (asks_in cs) → AllByRecursion MayBe (answered cs rs)
all_may [] rs may short = tt
all_may (c ∷ cs) [] may short = tt
all_may (c ∷ cs) (r ∷ rs) may short = ((may.0, short.0), all_may cs rs may.1 short.1)

all_fit : (cs : List (Asked FencedEvent)) (rs : List FencedOutcome) → AllByRecursion SharedFits rs → AllByRecursion FitsFrame (answered cs rs)
all_fit [] rs fits = tt
all_fit (c ∷ cs) [] fits = tt
all_fit (c ∷ cs) (r ∷ rs) fits = (fits.0, all_fit cs rs fits.1)

-- entries that are two lists of pairs
pub record Split (first rest : Pairs) (es : FencedHistory) : Type 0 where
  pub left : FencedHistory
  pub right : FencedHistory
  pub are : left ++ right ≡ es
  pub first_are : pairs_of left ≡ first
  pub rest_are : pairs_of right ≡ rest

split_cons : (p : FencedEvent × FencedOutcome) (ps rest : Pairs) (e : Single) (es : FencedHistory) → (e.event, e.reply) ≡ p → Split ps rest es → Split (p ∷ ps) rest (e ∷ es)
split_cons p ps rest e es here s = record {
  left = e ∷ s.left;
  right = s.right;
  are = ap (λ (l : FencedHistory). e ∷ l) s.are;
  first_are = same_cons (e.event, e.reply) p (pairs_of s.left) ps here s.first_are;
  rest_are = s.rest_are;
}

split_at : (first rest : Pairs) (es : FencedHistory) → pairs_of es ≡ first ++ rest → Split first rest es
split_at [] rest es is = record { left = []; right = es; are = refl; first_are = refl; rest_are = is }
split_at (p ∷ ps) rest [] is = absurd cc
split_at (p ∷ ps) rest (e ∷ es) is =
    let here : (e.event, e.reply) ≡ p = cc in
    let later : pairs_of es ≡ ps ++ rest = cc in
    split_cons p ps rest e es here (split_at ps rest es later)

each_parted : (batches : List Pairs) (es : FencedHistory) (old new : StoreState) → MovesEach fence_rules old batches (pairs_of es) new → AllByRecursion MayBe es → AllByRecursion FitsFrame es → Parted old es new
each_parted [] [] old new moves may fits = ([], refl, moves.1)
each_parted [] (e ∷ es) old new moves may fits = let none : pairs_of (e ∷ es) ≡ [] = moves.0 in absurd cc
each_parted (first ∷ batches) es old new moves may fits =
    let s : Split first moves.1 es = split_at first moves.1 es moves.4 in
    let mays = all_append MayBe s.left s.right (subst (AllByRecursion MayBe) (sym s.are) may) in
    let fit = all_append FitsFrame s.left s.right (subst (AllByRecursion FitsFrame) (sym s.are) fits) in
    let rest : Parted moves.0 s.right new = each_parted batches s.right moves.0 new (subst (λ (l : Pairs). MovesEach fence_rules moves.0 batches l new) (sym s.rest_are) moves.3) mays.1 fit.1 in (
      s.left ∷ rest.0,
      ap (λ (l : FencedHistory). s.left ++ l) rest.1 ∙ s.are,
      (moves.0, Batch mays.0 fit.0 (subst (λ (l : Pairs). MovesBatch fence_rules old l moves.0) (sym s.first_are) moves.2), rest.2),
    )

share_parted : (cs : List (Asked FencedEvent)) (rs : List FencedOutcome) (old new : StoreState) → Shares old (asks_in cs) rs new → IsParted cs rs old new
share_parted cs rs old new shares =
    let all = shares.all in
    let are = pairs_are cs rs all.0 all.1 all.2 in (
      are.1,
      each_parted all.3.0 (answered cs rs) old new (subst (λ (l : Pairs). MovesEach fence_rules old all.3.0 l new) (sym are.0) all.3.1)
          (all_may cs rs shares.may shares.short) (all_fit cs rs shares.fits),
    )

-- ---- a history

all_parted : (cs : List (Asked FencedEvent)) (rs : List FencedOutcome) (old new : StoreState) → AllowsAll old (asks_in cs) rs new → IsParted cs rs old new
all_parted cs rs old new (inl one) = one_parted cs rs old new one
all_parted cs rs old new (inr shares) = share_parted cs rs old new shares

pub history_parted : (es : GroupHistory) (old new : StoreState) → GroupRuns old es new → AllByRecursion HasAnswers es × Parted old (singles es) new
history_parted [] old new is = (tt, ([], refl, sym is))
history_parted (e ∷ es) old new runs =
    let here : IsParted e.asks e.answers old runs.0 = all_parted e.asks e.answers old runs.0 runs.1 in
    let rest = history_parted es runs.0 new runs.2 in
    ((here.0, rest.0), parted_append (answered e.asks e.answers) (singles es) old runs.0 new here.1 rest.1)
