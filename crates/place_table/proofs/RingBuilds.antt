-- The points that are kept for a type are those of the hosts that serve it.
use Rattle.std.specs.Prelude.{◌≡◌, ℕ, ◌+◌, ◌<◌, ◌⊎◌, Bool, true, false, ◌||◌, if◌then◌else◌, List, [], ◌∷◌, ◌++◌, length, map, take, All, Vec}
use Rattle.std.proofs.Common.{refl, sym, ◌∙◌, ap, subst, true≢false, inl, inr, arith, get_or, append-nil, Some, slice_get}
use Rattle.std.specs.declared.alloc.Global.{Global}
use Rattle.std.specs.List.{list_any}
use Rattle.std.specs.Str.{bytes_eq}
use Rattle.std.proofs.lemmas.List.{map-append, length-map, get_or-map, take_more}
use Rattle.std.proofs.lemmas.Grind.{flat_map-append}
use Rattle.std.proofs.lemmas.List.Elements.{All-append, All-map, All-nil, All-head, All-tail}
use Rattle.std.proofs.lemmas.Slice.Eq.{bytes_eq-Decides}
use Rattle.place_table.specs.declared.host.HostInfo.{HostInfo}
use Rattle.place_table.specs.declared.table.Slot.{Slot}
use Rattle.place_table.specs.declared.table.TypeRing.{TypeRing}
use Rattle.place_table.specs.Hosts.{node_of, serves, node_points, point_at, host_points, ring_points}
use Rattle.place_table.specs.Tables.{slot_point, slot_at, found_node, places_of, row_items, is_known, kept_slots, IsRingOf}
use Rattle.place_table.proofs.TableOwners.{found_host, empty_from_unserved}
use Rattle.place_table.proofs.SlotOrder.{empty_ring}

-- ---- one host more

slots_of_host : (hosts : List HostInfo) (i : ℕ) (h : HostInfo) (places : List ℕ) → slice_get hosts i ≡ Some h → map (slot_point hosts) (map (slot_at i) places) ≡ map (point_at (node_of h)) places
slots_of_host hosts i h [] e = refl
slots_of_host hosts i h (p ∷ ps) e =
    let one : slot_point hosts (slot_at i p) ≡ point_at (node_of h) p = ap (λ o. point_at (found_node o) p) e in
    let more = slots_of_host hosts i h ps e in
    λ j. one j ∷ more j

slots_if_served : (hosts : List HostInfo) (i : ℕ) (h : HostInfo) (places : List ℕ) → slice_get hosts i ≡ Some h → places ≡ places_of h → (b : Bool) → map (slot_point hosts) (if b then map (slot_at i) places else []) ≡ (if b then node_points (node_of h) else [])
slots_if_served hosts i h places e same true = slots_of_host hosts i h places e ∙ ap (map (point_at (node_of h))) same
slots_if_served hosts i h places e same false = refl

pub take_one_more : {X : Type 0} (xs : List X) (i : ℕ) (x : X) → i < length xs → x ≡ get_or xs i x → take (i + 1) xs ≡ take i xs ++ x ∷ []
take_one_more xs i x within read = take_more xs i x within ∙ ap (λ y. take i xs ++ y ∷ []) (sym read)

pub ring_step : (hosts : List HostInfo) (kind : List ℕ) (slots : List Slot) (i : ℕ) (h : HostInfo) (places : List ℕ) → i < length hosts → h ≡ get_or hosts i h → places ≡ places_of h → map (slot_point hosts) slots ≡ ring_points (take i hosts) kind → map (slot_point hosts) (slots ++ (if serves h kind then map (slot_at i) places else [])) ≡ ring_points (take (i + 1) hosts) kind
ring_step hosts kind slots i h places within read same e =
    let found = found_host hosts i h within read in
    map-append (slot_point hosts) slots (if serves h kind then map (slot_at i) places else [])
    ∙ ap (λ ps. ps ++ map (slot_point hosts) (if serves h kind then map (slot_at i) places else [])) e
    ∙ ap (λ ps. ring_points (take i hosts) kind ++ ps) (slots_if_served hosts i h places found same (serves h kind))
    ∙ ap (λ ps. ring_points (take i hosts) kind ++ ps) (sym (append-nil (host_points kind h)))
    ∙ sym (flat_map-append (host_points kind) (take i hosts) (h ∷ []))
    ∙ sym (ap (λ hs. ring_points hs kind) (take_one_more hosts i h within read))

numbers_if : (n i : ℕ) (places : List ℕ) → i < n → (b : Bool) → All (λ (s : Slot). s.host < n) (if b then map (slot_at i) places else [])
numbers_if n i places below true = All-map (λ (s : Slot). s.host < n) (slot_at i) places (λ k d h. below)
numbers_if n i places below false = All-nil (λ (s : Slot). s.host < n)

pub numbers_step : (n : ℕ) (slots : List Slot) (i : ℕ) (places : List ℕ) (b : Bool) → i < n → All (λ (s : Slot). s.host < n) slots → All (λ (s : Slot). s.host < n) (slots ++ (if b then map (slot_at i) places else []))
numbers_step n slots i places b below all = All-append (λ (s : Slot). s.host < n) slots (if b then map (slot_at i) places else []) all (numbers_if n i places below b)

pub row_at : (rows : List (Vec ℕ Global)) (hosts : List HostInfo) (i : ℕ) (row : Vec ℕ Global) (h : HostInfo) → map row_items rows ≡ map places_of hosts → i < length hosts → row ≡ get_or rows i row → h ≡ get_or hosts i h → row.items ≡ places_of h
row_at rows hosts i row h e within read_row read_host =
    let n : length rows ≡ length hosts = sym (length-map rows row_items) ∙ ap length e ∙ length-map hosts places_of in
    let inside : i < length rows = omega arith in
    ap row_items read_row
    ∙ sym (get_or-map row_items rows i row [] inside)
    ∙ ap (λ (xs : List (List ℕ)). get_or xs i []) e
    ∙ get_or-map places_of hosts i h [] within
    ∙ sym (ap places_of read_host)

-- ---- the types that are kept

true_or : (a b : Bool) → b ≡ true → (a || b) ≡ true
true_or true b e = refl
true_or false b e = e

pub known_pushed : (kind : List ℕ) (rings : List TypeRing) (r : TypeRing) → r.kind ≡ kind → is_known kind (rings ++ r ∷ []) ≡ true
known_pushed kind [] r e = ap (λ b. b || false) ((bytes_eq-Decides r.kind kind).1 e)
known_pushed kind (x ∷ xs) r e = true_or (bytes_eq x.kind kind) (is_known kind (xs ++ r ∷ [])) (known_pushed kind xs r e)

-- if a test holds for some of the elements and one more, it holds for some of them or for the one
pub any_pushed : {X : Type 0} (p : X → Bool) (xs : List X) (x : X) → list_any p (xs ++ x ∷ []) ≡ true → (list_any p xs ≡ true) ⊎ (p x ≡ true)
any_pushed p [] x e = inr (or_false (p x) e)
  where
    or_false : (b : Bool) → (b || false) ≡ true → b ≡ true
    or_false true e = refl
    or_false false e = e
any_pushed p (y ∷ ys) x e = either (p y) e (any_pushed p ys x)
  where
    either : (b : Bool) → (b || list_any p (ys ++ x ∷ [])) ≡ true → (list_any p (ys ++ x ∷ []) ≡ true → (list_any p ys ≡ true) ⊎ (p x ≡ true)) → ((b || list_any p ys) ≡ true) ⊎ (p x ≡ true)
    either true e more = inl refl
    either false e more = more e

pub known_more : (kinds : List (List ℕ)) (i : ℕ) (x : List ℕ) (rings : List TypeRing) → i < length kinds → x ≡ get_or kinds i x → is_known x rings ≡ true → ((k : List ℕ) → list_any (λ y. bytes_eq y k) (take i kinds) ≡ true → is_known k rings ≡ true) → (k : List ℕ) → list_any (λ y. bytes_eq y k) (take (i + 1) kinds) ≡ true → is_known k rings ≡ true
known_more kinds i x rings within read known before k e =
    elim (any_pushed (λ y. bytes_eq y k) (take i kinds) x (ap (list_any (λ y. bytes_eq y k)) (sym (take_one_more kinds i x within read)) ∙ e)) [
      | inl earlier ↦ before k earlier
      | inr this ↦ let same : x ≡ k = (bytes_eq-Decides x k).0 this in let P : List ℕ → Type 0 = λ y. is_known y rings ≡ true in subst P same known
    ]

ring_case : (hosts : List HostInfo) (kind : List ℕ) (r : TypeRing) (rs : List TypeRing) → IsRingOf hosts r.kind r.slots.items → (is_known kind rs ≡ true → IsRingOf hosts kind (kept_slots kind rs)) → (b : Bool) → bytes_eq r.kind kind ≡ b → (b || is_known kind rs) ≡ true → IsRingOf hosts kind (if b then r.slots.items else kept_slots kind rs)
ring_case hosts kind r rs one more true t e = let P : List ℕ → Type 0 = λ k. IsRingOf hosts k r.slots.items in subst P ((bytes_eq-Decides r.kind kind).0 t) one
ring_case hosts kind r rs one more false t e = more e

ring_of_known : (hosts : List HostInfo) (kind : List ℕ) (rings : List TypeRing) → All (λ (r : TypeRing). IsRingOf hosts r.kind r.slots.items) rings → is_known kind rings ≡ true → IsRingOf hosts kind (kept_slots kind rings)
ring_of_known hosts kind [] all e = absurd (true≢false (sym e))
ring_of_known hosts kind (r ∷ rs) all e =
    ring_case hosts kind r rs (All-head (λ (x : TypeRing). IsRingOf hosts x.kind x.slots.items) r rs all)
    (ring_of_known hosts kind rs (All-tail (λ (x : TypeRing). IsRingOf hosts x.kind x.slots.items) r rs all)) (bytes_eq r.kind kind) refl e

unknown_case : (kind : List ℕ) (r : TypeRing) (rs : List TypeRing) → (is_known kind rs ≡ false → kept_slots kind rs ≡ []) → (b : Bool) → (b || is_known kind rs) ≡ false → (if b then r.slots.items else kept_slots kind rs) ≡ []
unknown_case kind r rs more true e = absurd (true≢false e)
unknown_case kind r rs more false e = more e

nothing_kept : (kind : List ℕ) (rings : List TypeRing) → is_known kind rings ≡ false → kept_slots kind rings ≡ []
nothing_kept kind [] e = refl
nothing_kept kind (r ∷ rs) e = unknown_case kind r rs (nothing_kept kind rs) (bytes_eq r.kind kind) e

-- each type that a host serves is known, so what is kept for any type is its points
pub rings_kept : (hosts : List HostInfo) (rings : List TypeRing) → All (λ (r : TypeRing). IsRingOf hosts r.kind r.slots.items) rings → ((k : List ℕ) → list_any (λ h. serves h k) hosts ≡ true → is_known k rings ≡ true) → (kind : List ℕ) → IsRingOf hosts kind (kept_slots kind rings)
rings_kept hosts rings all covered kind =
    elim (is_known kind rings) as (λ b. is_known kind rings ≡ b → IsRingOf hosts kind (kept_slots kind rings)) [
      | true ↦ λ e. ring_of_known hosts kind rings all e
      | false ↦ λ e.
          let unserved : list_any (λ h. serves h kind) hosts ≡ false =
          elim (list_any (λ h. serves h kind) hosts) as (λ b. list_any (λ h. serves h kind) hosts ≡ b → b ≡ false) [
            | true ↦ λ s. absurd (true≢false (sym (covered kind s) ∙ e))
            | false ↦ λ _. refl
          ] refl
          in
          subst (λ (slots : List Slot). IsRingOf hosts kind slots) (sym (nothing_kept kind rings e)) (empty_ring hosts kind (empty_from_unserved hosts kind unserved))
    ] refl
