-- What clap makes of one word that has the form.
use Rattle.std.proofs.Common.{◌≡◌, true, false, List, [], ◌∷◌, Option, None, Some, refl}
use Rattle.std.specs.Str.{bytes_eq}
use Rattle.clap.specs.Lexer.{long_of, short_of}
use Rattle.clap.specs.Walk.{Row, Rule, Walk, Held, idle, option, walked, used, settled_rows, arg_by_long, arg_by_id, takes_values, most_values}
use Rattle.clap.specs.Simple.{Shape}
use Rattle.clap.specs.Takes.{turn_passes, use_passes, settle_passes}
use Rattle.command_words.specs.Options.{Text}

abbrev pub Pending : Type 0
Pending = Option (Text × List Text)

abbrev pub held : List Row → Pending → Held
held rows pending = record { rows = rows; pending = pending; skip = 0 }

-- between two options, when the last may not be used yet
abbrev pub between : List Row → Pending → Walk
between rows pending = record { held = held rows pending; waiting = idle; position = 1; is_trailing = false; stopped = None }

-- an option waits for its value
abbrev pub wanting : List Row → Text → Walk
wanting rows id = record { held = held rows (Some (id, [])); waiting = option id; position = 1; is_trailing = false; stopped = None }

pub attached : (c : List Rule) (rows : List Row) (p : Pending) (word name value : Text) (a : Rule)
    → bytes_eq word (45 ∷ 45 ∷ []) ≡ false → long_of word ≡ Some (name, Some value) → arg_by_long c name ≡ Some a → takes_values a ≡ true
    → walked c [] (between rows p) word ≡ between (used a (value ∷ []) (settled_rows c p rows)) None
unfolding walked
attached c rows p word name value a two long found takes = rw (two, long, found, takes) refl

pub attached_passes : (s : Shape) (rows : List Row) (p : Pending) (word name value : Text) (a : Rule)
    → bytes_eq word (45 ∷ 45 ∷ []) ≡ false → long_of word ≡ Some (name, Some value) → arg_by_long s.rules name ≡ Some a → takes_values a ≡ true
    → settle_passes s.rules s.args_override_self (held rows p) ≡ true → use_passes s.args_override_self a (value ∷ []) (settled_rows s.rules p rows) ≡ true
    → turn_passes s [] (between rows p) word ≡ true
attached_passes s rows p word name value a two long found takes settles uses = rw (two, long, found, takes, settles, uses) refl

pub named : (c : List Rule) (rows : List Row) (p : Pending) (word name : Text) (a : Rule)
    → bytes_eq word (45 ∷ 45 ∷ []) ≡ false → long_of word ≡ Some (name, None) → arg_by_long c name ≡ Some a → takes_values a ≡ true
    → walked c [] (between rows p) word ≡ wanting (settled_rows c p rows) a.id
unfolding walked
named c rows p word name a two long found takes = rw (two, long, found, takes) refl

pub named_passes : (s : Shape) (rows : List Row) (p : Pending) (word name : Text) (a : Rule)
    → bytes_eq word (45 ∷ 45 ∷ []) ≡ false → long_of word ≡ Some (name, None) → arg_by_long s.rules name ≡ Some a → takes_values a ≡ true
    → settle_passes s.rules s.args_override_self (held rows p) ≡ true
    → turn_passes s [] (between rows p) word ≡ true
named_passes s rows p word name a two long found takes settles = rw (two, long, found, takes, settles) refl

pub flagged : (c : List Rule) (rows : List Row) (p : Pending) (word name : Text) (a : Rule)
    → bytes_eq word (45 ∷ 45 ∷ []) ≡ false → long_of word ≡ Some (name, None) → arg_by_long c name ≡ Some a → takes_values a ≡ false
    → walked c [] (between rows p) word ≡ between (used a [] (settled_rows c p rows)) None
unfolding walked
flagged c rows p word name a two long found takes = rw (two, long, found, takes) refl

pub flagged_passes : (s : Shape) (rows : List Row) (p : Pending) (word name : Text) (a : Rule)
    → bytes_eq word (45 ∷ 45 ∷ []) ≡ false → long_of word ≡ Some (name, None) → arg_by_long s.rules name ≡ Some a → takes_values a ≡ false
    → settle_passes s.rules s.args_override_self (held rows p) ≡ true → use_passes s.args_override_self a [] (settled_rows s.rules p rows) ≡ true
    → turn_passes s [] (between rows p) word ≡ true
flagged_passes s rows p word name a two long found takes settles uses = rw (two, long, found, takes, settles, uses) refl

pub valued : (c : List Rule) (rows : List Row) (id word : Text) (a : Rule)
    → bytes_eq word (45 ∷ 45 ∷ []) ≡ false → long_of word ≡ None → short_of word ≡ None → arg_by_id c id ≡ Some a → most_values a ≡ 1 → bytes_eq id a.id ≡ true
    → walked c [] (wanting rows id) word ≡ between rows (Some (id, word ∷ []))
unfolding walked
valued c rows id word a two long short found most same = rw (two, long, short, found, most, same) refl

pub valued_passes : (s : Shape) (rows : List Row) (id word : Text)
    → bytes_eq word (45 ∷ 45 ∷ []) ≡ false → long_of word ≡ None → short_of word ≡ None
    → turn_passes s [] (wanting rows id) word ≡ true
valued_passes s rows id word two long short = rw (two, long, short) refl
