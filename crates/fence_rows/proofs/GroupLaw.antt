-- A history of lists comes to single steps.
use Rattle.std.proofs.Common.{◌≡◌, Bool, true, false, List, [], ◌∷◌, ◌++◌, refl, sym, ◌∙◌, ap, subst, append_assoc}
use Rattle.store_tables.specs.Tables.{Tables}
use Rattle.store_core.specs.Store.{StoreState, Leaves}
use Rattle.store_core.specs.Runs.{Stands}
use Rattle.fence_rows.specs.Runs.{FencedHistory, Runs, Keeps, KeepsAcknowledged, RisksOneCommand}
use Rattle.fence_rows.specs.Groups.{GroupHistory, GroupRuns, singles, FlatOf, quiet, IsPart, AreParts, joined, IsAhead, Flattens, FlattensGroups}
use Rattle.fence_rows.proofs.GroupQuiet.{told_quiet, none_stands}
use Rattle.fence_rows.proofs.GroupTurns.{unbroken}
use Rattle.fence_rows.proofs.GroupEntries.{flat_append, flat_same, runs_append}
use Rattle.fence_rows.proofs.GroupBroken.{allows_alike, batch_alike}
use Rattle.fence_rows.proofs.GroupParts.{Part, One, Batch, Chain, Parted, history_parted}
use Rattle.fence_rows.proofs.GroupDone.{kept, GoesOn, Failed, Ends, PartDone, now_either}
use Rattle.fence_rows.proofs.GroupSingles.{single_done}
use Rattle.fence_rows.proofs.GroupBatched.{batch_done}

-- ---- a part

part_done : RisksOneCommand → (old : StoreState) (part : FencedHistory) (new : StoreState) → old.journal.is_broken ≡ false → Leaves old.contents old → Part old part new → PartDone old part new
part_done risks old part new works leaves (One e is allows) = subst (λ (l : FencedHistory). PartDone old l new) (sym is) (single_done old works leaves e.by new risks e.event e.reply allows)
part_done risks old part new works leaves (Batch may fits moves) = batch_done old works new part may fits moves

-- ---- after a fault

module _ (b : StoreState) (other : b.journal.is_broken ≡ true) where
  part_alike : (s : StoreState) (part : FencedHistory) (new : StoreState) → s.journal.is_broken ≡ true → Part s part new → (new ≡ s) × Runs b part b
  part_alike s part new broken (One e is allows) =
      let alike = allows_alike s b broken other new e.event e.reply allows in
      (alike.0, subst (λ (l : FencedHistory). Runs b l b) (sym is) (b, alike.1, refl))
  part_alike s part new broken (Batch may fits moves) = batch_alike s b broken other part new may fits moves

  chain_alike : (parts : List FencedHistory) (s new : StoreState) → s.journal.is_broken ≡ true → Chain s parts new → (new ≡ s) × Runs b (joined parts) b
  chain_alike [] s new broken is = (is, refl)
  chain_alike (part ∷ parts) s new broken chain =
      let here = part_alike s part chain.0 broken chain.1 in
      let rest = chain_alike parts chain.0 new (ap (λ (t : StoreState). t.journal.is_broken) here.0 ∙ broken) chain.2 in
      (rest.0 ∙ here.0, runs_append b b b part (joined parts) here.1 rest.1)

-- ---- at every moment

abbrev LeavesOwn : StoreState → Type 0
LeavesOwn s = s.journal.is_broken ≡ false → Leaves s.contents s

ends_own : (old : StoreState) (part : FencedHistory) (new : StoreState) → Ends old part new → LeavesOwn new
ends_own old part new (GoesOn works leaves) same = leaves
ends_own old part new (Failed flat broken is runs) works = absurd (unbroken new.journal.is_broken works broken)

parts_at : RisksOneCommand → (parts : List FencedHistory) (old new : StoreState) → LeavesOwn old → Chain old parts new → AreParts old parts new
parts_at risks [] old new leaves is = is
parts_at risks (part ∷ parts) old new leaves chain =
    (chain.0, (λ works. (part_done risks old part chain.0 works (leaves works) chain.1).is), (λ broken. (part_alike old broken old part chain.0 broken chain.1).0), parts_at risks parts chain.0 new (own old.journal.is_broken refl) chain.2)
  where
    own : (b : Bool) → old.journal.is_broken ≡ b → LeavesOwn chain.0
    own false works = ends_own old part chain.0 (part_done risks old part chain.0 works (leaves works) chain.1).ends
    own true broken = λ works. absurd (unbroken chain.0.journal.is_broken works (ap (λ (t : StoreState). t.journal.is_broken) (part_alike old broken old part chain.0 broken chain.1).0 ∙ broken))

-- ---- on a store that has met no fault

record Flat (old : StoreState) (entries : FencedHistory) (new : StoreState) : Type 0 where
  pub flat : FencedHistory
  pub last : StoreState
  pub ahead : Tables
  pub is_flat : FlatOf entries flat
  pub runs : Runs (quiet old) flat (quiet last)
  pub journal : last.journal ≡ new.journal
  pub works : new.journal.is_broken ≡ false → last ≡ new
  pub stands : Stands ahead last
  pub reached : IsAhead old entries flat last.contents ahead

-- nothing has happened
flat_none : (old new : StoreState) → old.journal.is_broken ≡ false → Leaves old.contents old → new ≡ old → Flat old [] new
flat_none old new works leaves is = record {
  flat = [];
  last = old;
  ahead = old.contents;
  is_flat = refl;
  runs = refl;
  journal = ap (λ (s : StoreState). s.journal) (sym is);
  works = λ same. sym is;
  stands = record { whole = λ same. leaves; fault = λ broken. absurd (unbroken old.journal.is_broken works broken) };
  reached = record {
    before = [];
    part = [];
    behind = [];
    are = refl;
    hit = [];
    flat_is = refl;
    hit_is = refl;
    mid = quiet old;
    runs = refl;
    acknowledged = refl;
    failed = tt;
    foreseen = [];
    asked = refl;
    reached = quiet old;
    leads = refl;
    contents = refl;
  };
}

put_before : (part whole before hit behind : FencedHistory) → whole ≡ before ++ hit ++ behind → part ++ whole ≡ (part ++ before) ++ hit ++ behind
put_before part whole before hit behind is =
    ap (λ (l : FencedHistory). part ++ l) is ∙ sym (append_assoc part (before ++ hit) behind) ∙ ap (λ (l : FencedHistory). l ++ behind) (sym (append_assoc part before hit))

module _ (old : StoreState) (part : FencedHistory) (mid : StoreState) (entries : FencedHistory) (new : StoreState) (is : IsPart old part mid) where
  -- a part in which no fault was met, and what comes behind it
  flat_then : mid.journal.is_broken ≡ false → Flat mid entries new → Flat old (part ++ entries) new
  flat_then works rest =
      let here : Runs (quiet old) part (quiet mid) = (is.works works).0 in
      let r = rest.reached in
      record {
        flat = part ++ rest.flat;
        last = rest.last;
        ahead = rest.ahead;
        is_flat = flat_append part entries part rest.flat (flat_same part) rest.is_flat;
        runs = runs_append (quiet old) (quiet mid) (quiet rest.last) part rest.flat here rest.runs;
        journal = rest.journal;
        works = rest.works;
        stands = rest.stands;
        reached = record {
          before = part ++ r.before;
          part = r.part;
          behind = r.behind;
          are = put_before part entries r.before r.part r.behind r.are;
          hit = r.hit;
          flat_is = put_before part rest.flat r.before r.hit r.behind r.flat_is;
          hit_is = r.hit_is;
          mid = r.mid;
          runs = runs_append (quiet old) (quiet mid) r.mid part r.before here r.runs;
          acknowledged = r.acknowledged;
          failed = r.failed;
          foreseen = r.foreseen;
          asked = r.asked;
          reached = r.reached;
          leads = r.leads;
          contents = r.contents;
        };
      }

  -- a part in which the disk failed
  flat_failed : (flat : FencedHistory) → mid.journal.is_broken ≡ true → FlatOf part flat → Runs (quiet old) flat (quiet (kept old mid)) → new ≡ mid → Runs (quiet (kept old mid)) entries (quiet (kept old mid))
      → Flat old (part ++ entries) new
  flat_failed flat broken is_flat runs same rest = record {
    flat = flat ++ entries;
    last = kept old mid;
    ahead = is.reached.contents;
    is_flat = flat_append part entries flat entries is_flat (flat_same entries);
    runs = runs_append (quiet old) (quiet (kept old mid)) (quiet (kept old mid)) flat entries runs rest;
    journal = ap (λ (s : StoreState). s.journal) (sym same);
    works = λ works. absurd (unbroken new.journal.is_broken works (ap (λ (s : StoreState). s.journal.is_broken) same ∙ broken));
    stands = record {
      whole = λ works. absurd (unbroken mid.journal.is_broken works broken);
      fault = λ hit files tells. now_either is.reached.contents old mid is.risks files tells;
    };
    reached = record {
      before = [];
      part = part;
      behind = entries;
      are = refl;
      hit = flat;
      flat_is = refl;
      hit_is = is_flat;
      mid = quiet old;
      runs = refl;
      acknowledged = refl;
      failed = is.failed broken;
      foreseen = is.foreseen;
      asked = is.asked;
      reached = is.reached;
      leads = is.leads;
      contents = refl;
    };
  }

flat_chain : RisksOneCommand → (parts : List FencedHistory) (old new : StoreState) → old.journal.is_broken ≡ false → Leaves old.contents old → Chain old parts new → Flat old (joined parts) new
flat_chain risks [] old new works leaves is = flat_none old new works leaves is
flat_chain risks (part ∷ parts) old new works leaves chain =
    let done : PartDone old part chain.0 = part_done risks old part chain.0 works leaves chain.1 in
    ended done.is done.ends (λ on left. flat_chain risks parts chain.0 new on left chain.2)
  where
    ended : IsPart old part chain.0 → Ends old part chain.0 → (chain.0.journal.is_broken ≡ false → Leaves chain.0.contents chain.0 → Flat chain.0 (joined parts) new) → Flat old (part ++ joined parts) new
    ended is (GoesOn on left) rest = flat_then old part chain.0 (joined parts) new is on (rest on left)
    ended is (Failed flat broken is_flat runs) rest =
        let alike = chain_alike (quiet (kept old chain.0)) broken parts chain.0 new broken chain.2 in
        flat_failed old part chain.0 (joined parts) new is flat broken is_flat runs alike.0 alike.1

-- ---- a history

module _ (keeps : KeepsAcknowledged) (risks : RisksOneCommand) (maybe : Tables) (old new : StoreState) (entries : GroupHistory) (stands : Stands maybe old) (runs : GroupRuns old entries new) where
  abbrev parted : Parted old (singles entries) new
  parted = (history_parted entries old new runs).1

  keeps_quiet : (flat : FencedHistory) (last : StoreState) → Runs (quiet old) flat (quiet last) → Keeps maybe (quiet old) flat (quiet last)
  keeps_quiet flat last led = keeps maybe (quiet old) (quiet last) flat (none_stands maybe (quiet old) (told_quiet old)) led

  moments : AreParts old parted.0 new
  moments = parts_at risks parted.0 old new stands.whole parted.2

  flattens_whole : old.journal.is_broken ≡ false → Flattens maybe old entries new
  flattens_whole works =
      let f : Flat old (singles entries) new = subst (λ (l : FencedHistory). Flat old l new) parted.1 (flat_chain risks parted.0 old new works (stands.whole works) parted.2) in
      record {
        flat = f.flat;
        last = f.last;
        ahead = f.ahead;
        parts = parted.0;
        each = (history_parted entries old new runs).0;
        is_flat = f.is_flat;
        runs = f.runs;
        keeps = keeps_quiet f.flat f.last f.runs;
        journal = f.journal;
        works = f.works;
        stands = f.stands;
        broken = λ broken. absurd (unbroken old.journal.is_broken works broken);
        reached = λ same. f.reached;
        are = parted.1;
        moments = moments;
      }

  flattens_broken : old.journal.is_broken ≡ true → Flattens maybe old entries new
  flattens_broken broken =
      let alike = chain_alike (quiet old) broken parted.0 old new broken parted.2 in
      let led : Runs (quiet old) (singles entries) (quiet old) = subst (λ (l : FencedHistory). Runs (quiet old) l (quiet old)) parted.1 alike.1 in
      record {
        flat = singles entries;
        last = old;
        ahead = maybe;
        parts = parted.0;
        each = (history_parted entries old new runs).0;
        is_flat = flat_same (singles entries);
        runs = led;
        keeps = keeps_quiet (singles entries) old led;
        journal = ap (λ (s : StoreState). s.journal) (sym alike.0);
        works = λ works. sym alike.0;
        stands = stands;
        broken = λ same. refl;
        reached = λ works. absurd (unbroken old.journal.is_broken works broken);
        are = parted.1;
        moments = moments;
      }

  flattens_by : (b : Bool) → old.journal.is_broken ≡ b → Flattens maybe old entries new
  flattens_by false works = flattens_whole works
  flattens_by true broken = flattens_broken broken

pub flattens_groups : KeepsAcknowledged → RisksOneCommand → FlattensGroups
flattens_groups keeps risks maybe old new entries stands runs = flattens_by keeps risks maybe old new entries stands runs old.journal.is_broken refl
