-- clap's walk over words of the form, against what the words give.
use Rattle.std.proofs.Common.{◌≡◌, Bool, true, false, ◌++◌, List, [], ◌∷◌, Option, None, Some, codes, refl, ap, sym, subst, ◌∙◌}
use Rattle.std.specs.Prelude.{fold, if◌then◌else◌}
use Rattle.std.specs.Str.{bytes_eq}
use Rattle.std.proofs.lemmas.Slice.Eq.{bytes_eq-Decides}
use Rattle.clap.specs.Lexer.{long_of, short_of}
use Rattle.clap.specs.Walk.{Row, Walk, walked, used, settled_rows}
use Rattle.clap.specs.Takes.{turn_passes, walk_passes, settle_passes, use_passes}
use Rattle.command_words.specs.Options.{Text, Options, Kind, Needed, Optional, Flag, Given, Meaning, Refused, Names, Gives, names_of, kind_of, is_among, option_word, begins_with_hyphen, value_or_next, flag_alone, kind_meaning, option_meaning, meaning_of, read_from}
use Rattle.command_words.specs.Given.{is_flag}
use Rattle.command_words.proofs.Forms.{after, read_from-word}
use Rattle.command_words.proofs.Walks.{Pending, held, between, wanting, attached, attached_passes, named, named_passes, flagged, flagged_passes, valued, valued_passes}
use Rattle.command_words.proofs.Rules.{built_rule, built_rules, built_shape, valued_takes, valued_most, some_same, kind_of-Found}
use Rattle.command_words.proofs.Rows.{rows_for, rows_for-push, has_row-rows_for, used-absent, use_passes-absent, used-flag, use_passes-flag}

-- the command has an option of this name with a value
pub record Valued (options : Options) (name : Text) : Type 0 where
  pub kind : Kind
  pub valued : is_flag kind ≡ false
  pub known : kind_of options name ≡ Some kind

-- clap holds what was given, and waits for the awaited value
abbrev pub Stands : Options → Given → Option Text → Walk → Type 0
Stands options given None w =
    (rows : List Row) × (p : Pending) × (w ≡ between rows p) × (settled_rows (built_rules options) p rows ≡ rows_for given) × (settle_passes (built_rules options) false (held rows p) ≡ true)
Stands options given (Some name) w = (w ≡ wanting (rows_for given) name) × Valued options name × (is_among (names_of given) name ≡ false)

-- a word of this meaning passes, and the walk is then where the meaning says
abbrev pub Taken : Text → Options → Given → Walk → Text → Meaning → Type 0
Taken command options given w word Refused = Unit {0}
Taken command options given w word (Names name) =
    (turn_passes (built_shape command options) [] w word ≡ true) × Stands options given (Some name) (walked (built_rules options) [] w word)
Taken command options given w word (Gives name value) =
    (turn_passes (built_shape command options) [] w word ≡ true) × Stands options (given ++ (name, value) ∷ []) None (walked (built_rules options) [] w word)

-- our words are clap's
same_word : (word : Text) → option_word word ≡ long_of word
same_word word = refl

hyphens_name_nothing : (word : Text) (p : Text × Option Text) → option_word word ≡ Some p → bytes_eq word (45 ∷ 45 ∷ []) ≡ false
hyphens_name_nothing word p names = go (bytes_eq word (45 ∷ 45 ∷ [])) refl
  where
    go : (b : Bool) → bytes_eq word (45 ∷ 45 ∷ []) ≡ b → b ≡ false
    go false e = refl
    go true e =
        let same : word ≡ 45 ∷ 45 ∷ [] = (bytes_eq-Decides word (45 ∷ 45 ∷ [])).0 e in
        let none : None ≡ Some p = ap option_word (sym same) ∙ names in
        cc

value_is_no_hyphens : (word : Text) → begins_with_hyphen word ≡ false → bytes_eq word (45 ∷ 45 ∷ []) ≡ false
value_is_no_hyphens word plain = go (bytes_eq word (45 ∷ 45 ∷ [])) refl
  where
    go : (b : Bool) → bytes_eq word (45 ∷ 45 ∷ []) ≡ b → b ≡ false
    go false e = refl
    go true e =
        let same : word ≡ 45 ∷ 45 ∷ [] = (bytes_eq-Decides word (45 ∷ 45 ∷ [])).0 e in
        let bad : true ≡ false = ap begins_with_hyphen (sym same) ∙ plain in
        cc

value_is_not_long : (word : Text) → begins_with_hyphen word ≡ false → long_of word ≡ None
value_is_not_long [] plain = refl
value_is_not_long (b ∷ bs) plain = rw plain refl

value_is_not_short : (word : Text) → begins_with_hyphen word ≡ false → short_of word ≡ None
value_is_not_short [] plain = refl
value_is_not_short (b ∷ bs) plain = rw plain refl

bytes_eq-self : (text : Text) → bytes_eq text text ≡ true
bytes_eq-self text = (bytes_eq-Decides text text).1 refl

module _ (command : Text) (options : Options) (given : Given) where
  gives : (rows : List Row) (p : Pending) (word name value : Text) → settled_rows (built_rules options) p rows ≡ rows_for given → settle_passes (built_rules options) false (held rows p) ≡ true
      → option_word word ≡ Some (name, Some value) → Valued options name → is_among (names_of given) name ≡ false
      → Taken command options given (between rows p) word (Gives name value)
  gives rows p word name value settled passes word_is v fresh =
      let found = kind_of-Found options name v.kind v.known in
      let rule = built_rule (name, v.kind) in
      let takes = valued_takes name v.kind v.valued in
      let two = hyphens_name_nothing word (name, Some value) word_is in
      let absent = has_row-rows_for given name ∙ fresh in
      let uses : use_passes false rule (value ∷ []) (settled_rows (built_rules options) p rows) ≡ true =
      rw settled (use_passes-absent name v.kind value (rows_for given) v.valued absent) in
      let rows_are : used rule (value ∷ []) (settled_rows (built_rules options) p rows) ≡ rows_for (given ++ (name, value) ∷ []) =
      rw settled (used-absent name v.kind value (rows_for given) v.valued absent ∙ sym (rows_for-push given name value)) in (
        attached_passes (built_shape command options) rows p word name value rule two word_is found.by_long takes passes uses,
        (_, None, attached (built_rules options) rows p word name value rule two word_is found.by_long takes, rows_are, refl),
      )

  names : (rows : List Row) (p : Pending) (word name : Text) → settled_rows (built_rules options) p rows ≡ rows_for given → settle_passes (built_rules options) false (held rows p) ≡ true
      → option_word word ≡ Some (name, None) → Valued options name → is_among (names_of given) name ≡ false
      → Taken command options given (between rows p) word (Names name)
  names rows p word name settled passes word_is v fresh =
      let found = kind_of-Found options name v.kind v.known in
      let takes = valued_takes name v.kind v.valued in
      let two = hyphens_name_nothing word (name, None) word_is in (
        named_passes (built_shape command options) rows p word name (built_rule (name, v.kind)) two word_is found.by_long takes passes,
        (named (built_rules options) rows p word name (built_rule (name, v.kind)) two word_is found.by_long takes ∙ ap (λ rs. wanting rs name) settled, v, fresh),
      )

  flags : (rows : List Row) (p : Pending) (word name : Text) → settled_rows (built_rules options) p rows ≡ rows_for given → settle_passes (built_rules options) false (held rows p) ≡ true
      → option_word word ≡ Some (name, None) → kind_of options name ≡ Some Flag → is_among (names_of given) name ≡ false
      → Taken command options given (between rows p) word (Gives name (codes "true"))
  flags rows p word name settled passes word_is known fresh =
      let found = kind_of-Found options name Flag known in
      let rule = built_rule (name, Flag) in
      let two = hyphens_name_nothing word (name, None) word_is in
      let absent = has_row-rows_for given name ∙ fresh in
      let uses : use_passes false rule [] (settled_rows (built_rules options) p rows) ≡ true = rw settled (use_passes-flag name (rows_for given) absent) in
      let rows_are : used rule [] (settled_rows (built_rules options) p rows) ≡ rows_for (given ++ (name, codes "true") ∷ []) =
      rw settled (used-flag name (rows_for given) absent ∙ sym (rows_for-push given name (codes "true"))) in (
        flagged_passes (built_shape command options) rows p word name rule two word_is found.by_long refl passes uses,
        (_, None, flagged (built_rules options) rows p word name rule two word_is found.by_long refl, rows_are, refl),
      )

  value_after : (word name : Text) → begins_with_hyphen word ≡ false → Valued options name → is_among (names_of given) name ≡ false
      → Taken command options given (wanting (rows_for given) name) word (Gives name word)
  value_after word name plain v fresh =
      let found = kind_of-Found options name v.kind v.known in
      let two = value_is_no_hyphens word plain in
      let long = value_is_not_long word plain in
      let short = value_is_not_short word plain in
      let absent = has_row-rows_for given name ∙ fresh in (
        valued_passes (built_shape command options) (rows_for given) name word two long short,
        (
          rows_for given,
          Some (name, word ∷ []),
          valued (built_rules options) (rows_for given) name word (built_rule (name, v.kind)) two long short found.by_id (valued_most name v.kind v.valued) (bytes_eq-self name),
          rw found.by_id (used-absent name v.kind word (rows_for given) v.valued absent ∙ sym (rows_for-push given name word)),
          rw found.by_id (use_passes-absent name v.kind word (rows_for given) v.valued absent),
        ),
      )

  valued_taken : (rows : List Row) (p : Pending) (word : Text) (n : Text × Option Text) → settled_rows (built_rules options) p rows ≡ rows_for given
      → settle_passes (built_rules options) false (held rows p) ≡ true → option_word word ≡ Some n → Valued options n.0 → is_among (names_of given) n.0 ≡ false
      → Taken command options given (between rows p) word (value_or_next n.0 n.1)
  valued_taken rows p word n settled passes word_is v f = go n.1 refl
    where
      go : (o : Option Text) → n.1 ≡ o → Taken command options given (between rows p) word (value_or_next n.0 o)
      go None e = names rows p word n.0 settled passes (word_is ∙ ap (λ v. Some (n.0, v)) e) v f
      go (Some value) e = gives rows p word n.0 value settled passes (word_is ∙ ap (λ v. Some (n.0, v)) e) v f

  flag_taken : (rows : List Row) (p : Pending) (word : Text) (n : Text × Option Text) → settled_rows (built_rules options) p rows ≡ rows_for given
      → settle_passes (built_rules options) false (held rows p) ≡ true → option_word word ≡ Some n → kind_of options n.0 ≡ Some Flag → is_among (names_of given) n.0 ≡ false
      → Taken command options given (between rows p) word (flag_alone n.0 n.1)
  flag_taken rows p word n settled passes word_is k f = go n.1 refl
    where
      go : (o : Option Text) → n.1 ≡ o → Taken command options given (between rows p) word (flag_alone n.0 o)
      go None e = flags rows p word n.0 settled passes (word_is ∙ ap (λ v. Some (n.0, v)) e) k f
      go (Some value) e = tt

  kind_taken : (rows : List Row) (p : Pending) (word : Text) (n : Text × Option Text) (k : Option Kind) → settled_rows (built_rules options) p rows ≡ rows_for given
      → settle_passes (built_rules options) false (held rows p) ≡ true → option_word word ≡ Some n → kind_of options n.0 ≡ k → is_among (names_of given) n.0 ≡ false
      → Taken command options given (between rows p) word (kind_meaning n.0 n.1 k)
  kind_taken rows p word n None settled passes word_is k f = tt
  kind_taken rows p word n (Some Needed) settled passes word_is k f = valued_taken rows p word n settled passes word_is (record { kind = Needed; valued = refl; known = k }) f
  kind_taken rows p word n (Some Optional) settled passes word_is k f = valued_taken rows p word n settled passes word_is (record { kind = Optional; valued = refl; known = k }) f
  kind_taken rows p word n (Some Flag) settled passes word_is k f = flag_taken rows p word n settled passes word_is k f

  fresh_or_refused : (rows : List Row) (p : Pending) (word : Text) (n : Text × Option Text) (among : Bool) → settled_rows (built_rules options) p rows ≡ rows_for given
      → settle_passes (built_rules options) false (held rows p) ≡ true → option_word word ≡ Some n → is_among (names_of given) n.0 ≡ among
      → Taken command options given (between rows p) word (if among then Refused else kind_meaning n.0 n.1 (kind_of options n.0))
  fresh_or_refused rows p word n true settled passes word_is f = tt
  fresh_or_refused rows p word n false settled passes word_is f = kind_taken rows p word n (kind_of options n.0) settled passes word_is refl f

  option_taken : (rows : List Row) (p : Pending) (word : Text) (o : Option (Text × Option Text)) → settled_rows (built_rules options) p rows ≡ rows_for given
      → settle_passes (built_rules options) false (held rows p) ≡ true → option_word word ≡ o → Taken command options given (between rows p) word (option_meaning options (names_of given) o)
  option_taken rows p word None settled passes e = tt
  option_taken rows p word (Some n) settled passes e = fresh_or_refused rows p word n (is_among (names_of given) n.0) settled passes e refl

  value_taken : (word name : Text) (hyphen : Bool) → begins_with_hyphen word ≡ hyphen → Valued options name → is_among (names_of given) name ≡ false
      → Taken command options given (wanting (rows_for given) name) word (if hyphen then Refused else Gives name word)
  value_taken word name true e known fresh = tt
  value_taken word name false e known fresh = value_after word name e known fresh

  pub taken : (awaited : Option Text) (w : Walk) (word : Text) → Stands options given awaited w → Taken command options given w word (meaning_of options (names_of given) awaited word)
  taken None w word s = rw s.2 (option_taken s.0 s.1 word (option_word word) s.3 s.4 refl)
  taken (Some name) w word s = rw s.0 (value_taken word name (begins_with_hyphen word) refl s.1 s.2)

-- the walk passes, and holds all that was given
abbrev pub Walks : Text → Options → Given → Walk → List Text → Type 0
Walks command options final w rest =
    (walk_passes (built_shape command options) [] w rest ≡ true) × Stands options final None (fold (walked (built_rules options) []) w rest)

pub walks : (command : Text) (options : Options) (rest : List Text) (given : Given) (awaited : Option Text) (w : Walk) (final : Given)
    → Stands options given awaited w → read_from options given awaited rest ≡ Some final → Walks command options final w rest
unfolding walk_passes read_from
walks command options [] given None w final s reads = (refl, subst (λ g. Stands options g None w) (some_same reads) s)
walks command options [] given (Some name) w final s reads = cc
walks command options (word ∷ rest) given awaited w final s reads =
    go (meaning_of options (names_of given) awaited word) (taken command options given awaited w word s) (sym (read_from-word options given awaited word rest) ∙ reads)
    (λ next awaits v. walks command options rest next awaits v final)
  where
    go : (m : Meaning) → Taken command options given w word m → after options given rest m ≡ Some final
        → ((next : Given) (awaits : Option Text) (v : Walk) → Stands options next awaits v → read_from options next awaits rest ≡ Some final → Walks command options final v rest)
        → Walks command options final w (word ∷ rest)
    go Refused t reads more = cc
    go (Names name) t reads more =
        let rest_walks = more given (Some name) (walked (built_rules options) [] w word) t.1 reads in
        (rw (t.0, rest_walks.0) refl, rest_walks.1)
    go (Gives name value) t reads more =
        let rest_walks = more (given ++ (name, value) ∷ []) None (walked (built_rules options) [] w word) t.1 reads in
        (rw (t.0, rest_walks.0) refl, rest_walks.1)
