-- Lists of events: one after another, or together.
use Rattle.std.proofs.Common.{◌≡◌, inl, inr, ℕ, zero, suc, ◌+◌, ◌<◌, ◌≤◌, true, false, List, [], ◌∷◌, ◌++◌, length, reverse, map, All, refl, ap, sym, ◌∙◌, subst, arith, length-append, append_assoc}
use Rattle.std.proofs.lemmas.List.{append-nil, length-map, length-reverse, reverse-append, reverse-reverse}
use Rattle.std.specs.List.{AllByRecursion}
use Rattle.lists_and_limits.proofs.Each.{each_at}
use Rattle.store_core.specs.Store.{StoreState}
use Rattle.store_core.specs.Lists.{AnswersAll}
use Rattle.fence_rows.specs.declared.event.FencedEvent.{FencedEvent}
use Rattle.fence_rows.specs.declared.event.FencedEvent.TheVariants.{Command, Compact}
use Rattle.fence_rows.specs.declared.event.FencedOutcome.{FencedOutcome}
use Rattle.fence_rows.specs.Events.{Takes, Allows}
use Rattle.fence_rows.specs.Together.{are_commands, OneByOne, MayShare, Shares, AllowsAll, fence_rules}

pub no_length : {A : Type 0} (xs : List A) → length xs ≡ 0 → xs ≡ []
no_length [] none = refl
no_length (x ∷ xs) none = absurd (omega arith)

-- ---- what is asked

module _ {A : Type 0} (P : A → Type 0) where
  each_of : (xs : List A) → All P xs → AllByRecursion P xs
  each_of [] all = tt
  each_of (x ∷ xs) all = (all zero x (omega arith), each_of xs (λ k d less. all (suc k) d (omega arith)))

  -- it holds of an element that stands between two parts of the list
  pub between : (xs : List A) → All P xs → (front : List A) (x : A) (back : List A) → xs ≡ front ++ x ∷ back → P x
  between xs all front x back is = each_at P front x back (subst (AllByRecursion P) is (each_of xs all))

by_each : (events : List FencedEvent) → AllByRecursion Takes events → are_commands events ≡ true → AllByRecursion MayShare events
by_each [] takes are = tt
by_each (Command command now ∷ events) takes are = (takes.0, by_each events takes.1 are)
by_each (Compact least now ∷ events) takes are = absurd (let e : false ≡ true = are in cc)

-- commands that may be sent may be sent together
pub may_share : (events : List FencedEvent) → All Takes events → are_commands events ≡ true → AllByRecursion MayShare events
may_share events takes are = by_each events (each_of Takes events takes) are

-- ---- one after another

-- one step more
pub step_more : (old mid new : StoreState) (events : List FencedEvent) (answers : List FencedOutcome) (event : FencedEvent) (answer : FencedOutcome)
    → OneByOne old events answers mid → Allows mid event answer new → OneByOne old (events ++ event ∷ []) (answers ++ answer ∷ []) new
step_more old mid new [] [] event answer steps allows = (new, subst (λ (s : StoreState). Allows s event answer new) steps allows, refl)
step_more old mid new [] (a ∷ answers) event answer steps allows = absurd steps
step_more old mid new (e ∷ events) [] event answer steps allows = absurd steps
step_more old mid new (e ∷ events) (a ∷ answers) event answer steps allows = (steps.0, steps.1, step_more steps.0 mid new events answers event answer steps.2 allows)

-- each event has an answer
pub length_steps : (old new : StoreState) (events : List FencedEvent) (answers : List FencedOutcome) → OneByOne old events answers new → length answers ≡ length events
length_steps old new [] [] steps = refl
length_steps old new [] (a ∷ answers) steps = absurd steps
length_steps old new (e ∷ events) [] steps = absurd steps
length_steps old new (e ∷ events) (a ∷ answers) steps = ap suc (length_steps steps.0 new events answers steps.2)

-- Steps were made by some of the events. The others are left, the next one last.
pub record StepsAlong (old : StoreState) (events left : List FencedEvent) (answers : List FencedOutcome) (new : StoreState) : Type 0 where
  pub done : List FencedEvent
  pub parts : events ≡ done ++ reverse left
  pub steps : OneByOne old done answers new

pub steps_begin : (old : StoreState) (events : List FencedEvent) → StepsAlong old events (reverse events) [] old
steps_begin old events = record { done = []; parts = sym (reverse-reverse events); steps = refl }

module _ (old mid : StoreState) (events left rest : List FencedEvent) (answers : List FencedOutcome) (event : FencedEvent) (along : StepsAlong old events left answers mid) (next : left ≡ rest ++ event ∷ []) where
  parts_next : events ≡ along.done ++ event ∷ reverse rest
  parts_next = along.parts ∙ ap (λ (xs : List FencedEvent). along.done ++ xs) (ap reverse next ∙ reverse-append rest (event ∷ []))

  pub next_is_taken : All Takes events → Takes event
  next_is_taken takes = between Takes events takes along.done event (reverse rest) parts_next

  -- there is room for its answer
  pub next_has_room : length answers < length events
  next_has_room =
      let told = length_steps old mid along.done answers along.steps in
      let whole = ap length parts_next ∙ length-append along.done (event ∷ reverse rest) in omega arith

  pub steps_go_on : (answer : FencedOutcome) (new : StoreState) → Allows mid event answer new → StepsAlong old events rest (answers ++ answer ∷ []) new
  steps_go_on answer new allows = record {
    done = along.done ++ event ∷ [];
    parts = parts_next ∙ sym (append_assoc along.done (event ∷ []) (reverse rest));
    steps = step_more old mid new along.done answers event answer along.steps allows;
  }

pub steps_end : (old new : StoreState) (events left : List FencedEvent) (answers : List FencedOutcome) → StepsAlong old events left answers new → left ≡ [] → OneByOne old events answers new
steps_end old new events left answers along none =
    subst (λ (xs : List FencedEvent). OneByOne old xs answers new) (sym (along.parts ∙ ap (λ (xs : List FencedEvent). along.done ++ reverse xs) none ∙ append-nil along.done)) along.steps

-- ---- together

pub length_shared : (old new : StoreState) (events : List FencedEvent) (answers : List FencedOutcome) → Shares old events answers new → length answers ≡ length events
length_shared old new events answers shares =
    let all = shares.all in
    ap length (sym all.2) ∙ length-map all.0 (λ (e : FencedEvent × FencedOutcome). e.1) ∙ sym (length-map all.0 (λ (e : FencedEvent × FencedOutcome). e.0)) ∙ ap length all.1

pub length_answered : (old new : StoreState) (events : List FencedEvent) (answers : List FencedOutcome) → AllowsAll old events answers new → length answers ≡ length events
length_answered old new events answers (inl steps) = length_steps old new events answers steps
length_answered old new events answers (inr shares) = length_shared old new events answers shares
