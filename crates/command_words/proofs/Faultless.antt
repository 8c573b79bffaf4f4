-- Where the definitions of clap find no fault in words, they take them.
use Rattle.std.proofs.Common.{◌≡◌, ◌+◌, ◌&&◌, ◌||◌, ℕ, Bool, cond, codes, true, false, not, zero, suc, refl, arith, List, [], ◌∷◌, length, drop, min, Option, Some, None, is_some, true≢false}
use Rattle.std.specs.Prelude.{nat_le, encode_utf8, slice_get, find}
use Rattle.std.specs.List.{list_all, list_any}
use Rattle.std.specs.Option.{option_map_or}
use Rattle.std.specs.Str.{bytes_eq, chars}
use Rattle.std.proofs.lemmas.Bool.{and_from, and_parts}
use Rattle.std.proofs.lemmas.Bool.Decides.{nat_tests}
use Rattle.clap.specs.Lexer.{long_of, short_of}
use Rattle.clap.specs.Matches.{count_text}
use Rattle.clap.specs.Facts.{explicit_source, parser_of_value, unwrap_or_range}
use Rattle.clap.specs.ValueTests.{accepts}
use Rattle.clap.specs.Values.{refused_kind}
use Rattle.clap.specs.Walk.{Held, Names, Row, Rule, Step, Text, Waiting, Walk, next, subcommand, trailing, value, action_of, answers_to, arg_by_id, arg_by_index, arg_by_long, arg_by_short}
use Rattle.clap.specs.Walk.{attached_value, count_of, finished, has_row, is_pending, most_values, nothing_held, reacted, settled, subcommand_met, takes_several, takes_values, values_or_missing, walk, walk_from, walked, word_met}
use Rattle.clap.specs.Simple.{App, Shape, argument_words, built, entered, is_simple, label_of, names_of}
use Rattle.clap.specs.Takes.{action_passes, built_takes, bundle_step_passes, count_passes, default_passes, entered_passes, flag_word_passes, flags_pass, is_given, is_valid, level_passes, long_passes, option_passes, other_passes, positional_passes, react_passes, set_passes, settle_passes, short_passes, step_passes, takes, turn_passes, use_passes, walk_passes, word_passes}
use Rattle.clap.specs.Kinds.{Kinds, or_else, range_kinds, value_kinds, values_kinds}
use Rattle.clap.specs.Faults.{action_fault, built_fault, bundle_step_fault, check_fault, count_fault, defaults_fault, entered_fault, fault_of, flag_word_fault, flags_fault, level_fault, long_fault, option_fault, other_fault, positional_fault, react_fault, repeat_fault, set_fault, settle_fault, short_fault, step_fault, stray_fault, turn_fault, use_fault, walk_fault, word_fault}
use Rattle.clap.specs.declared.builder.action.ArgAction.{ArgAction}
use Rattle.clap.specs.declared.builder.action.ArgAction.TheVariants as action
use Rattle.clap.specs.declared.builder.value_parser.ValueParser.{ValueParser}
use Rattle.clap.specs.declared.error.kind.ErrorKind.{ErrorKind}
use Rattle.clap.specs.declared.error.kind.ErrorKind.TheVariants.{InvalidSubcommand, TooManyValues, UnknownArgument}

-- ---- lists of kinds, and the tests beside them

some_kind : {X : Type 0} (k : ErrorKind) (ks : Kinds) → k ∷ ks ≡ [] → X
some_kind k ks e = absurd (cc)

both_none : (a b : Kinds) → or_else a b ≡ [] → (a ≡ []) × (b ≡ [])
both_none [] b e = (refl, e)
both_none (k ∷ ks) b e = some_kind k ks e

-- a test that gives a kind fails
none_if : (b : Bool) (k : ErrorKind) (ks rest : Kinds) → cond b (k ∷ ks) rest ≡ [] → (b ≡ false) × (rest ≡ [])
none_if true k ks rest e = some_kind k ks e
none_if false k ks rest e = (refl, e)

-- a test that gives a kind unless another passes
none_unless : (b other : Bool) (k : ErrorKind) (ks : Kinds) → cond (b && not other) (k ∷ ks) [] ≡ [] → (not b || other) ≡ true
none_unless true true k ks e = refl
none_unless true false k ks e = some_kind k ks e
none_unless false other k ks e = refl

-- a test that gives no kind
none_or : (b passes : Bool) (kinds : Kinds) → (kinds ≡ [] → passes ≡ true) → cond b [] kinds ≡ [] → (b || passes) ≡ true
none_or true passes kinds each e = refl
none_or false passes kinds each e = each e

-- a value that may be missing
where_some : {X : Type 0} (kinds : X → Kinds) (passes : X → Bool) (o : Option X) → ((x : X) → kinds x ≡ [] → passes x ≡ true)
    → option_map_or kinds o [] ≡ [] → option_map_or passes o true ≡ true
where_some kinds passes None each e = refl
where_some kinds passes (Some x) each e = each x e

-- the first that is wanted, where each meets a test
where_found : {X : Type 0} (kinds : X → Kinds) (passes meets wanted : X → Bool) (xs : List X) → ((x : X) → meets x ≡ true → kinds x ≡ [] → passes x ≡ true)
    → list_all meets xs ≡ true → option_map_or kinds (find wanted xs) [] ≡ [] → option_map_or passes (find wanted xs) true ≡ true
where_found kinds passes meets wanted [] each all e = refl
where_found kinds passes meets wanted (x ∷ xs) each all e =
    let parts = and_parts _ _ all in
    go (wanted x) (each x parts.0) (where_found kinds passes meets wanted xs each parts.1) e
  where
    go : (b : Bool) → (kinds x ≡ [] → passes x ≡ true)
        → (option_map_or kinds (find wanted xs) [] ≡ [] → option_map_or passes (find wanted xs) true ≡ true)
        → option_map_or kinds (cond b (Some x) (find wanted xs)) [] ≡ [] → option_map_or passes (cond b (Some x) (find wanted xs)) true ≡ true
    go true here rest e = here e
    go false here rest e = rest e

-- ---- values

module _ (ignore_case : Bool) (parser : ValueParser) where
  value_is : (text : Text) → value_kinds ignore_case parser text ≡ [] → accepts ignore_case parser text ≡ true
  value_is text e = go (accepts ignore_case parser text) e
    where
      go : (b : Bool) → cond b [] (refused_kind parser ∷ []) ≡ [] → b ≡ true
      go true e = refl
      go false e = some_kind (refused_kind parser) [] e

  values_are : (texts : List Text) → values_kinds ignore_case parser texts ≡ [] → list_all (accepts ignore_case parser) texts ≡ true
  values_are [] e = refl
  values_are (text ∷ texts) e =
      let parts = both_none (value_kinds ignore_case parser text) (values_kinds ignore_case parser texts) e in
      and_from _ _ (value_is text parts.0) (values_are texts parts.1)

-- ---- one use of an argument

range_is : (least most n : ℕ) → range_kinds least most n ≡ [] → (nat_le least n ≡ true) × (nat_le n most ≡ true)
range_is least most n e = (grind (arith, nat_tests), grind (arith, nat_tests))

set_is : (again : Bool) (a : Rule) (values : List Text) (rows : List Row) → set_fault again a values rows ≡ [] → set_passes again a values rows ≡ true
set_is again a values rows e =
    let parts = both_none (repeat_fault again a.id rows) _ e in
    and_from _ _ (none_unless (has_row a.id rows) again _ _ parts.0) (values_are a.ignore_case (parser_of_value a.parser) values parts.1)

count_is : (a : Rule) (values : List Text) (rows : List Row) → count_fault a values rows ≡ [] → count_passes a values rows ≡ true
count_is a [] rows e = value_is a.ignore_case (parser_of_value a.parser) (count_text (min (count_of a.id rows + 1) 255)) e
count_is a (v ∷ vs) rows e = values_are a.ignore_case (parser_of_value a.parser) (v ∷ vs) e

action_is : (x : ArgAction) (again : Bool) (a : Rule) (values : List Text) (rows : List Row) → action_fault x again a values rows ≡ []
    → action_passes x again a values rows ≡ true
action_is action.Set again a values rows e = set_is again a values rows e
action_is action.SetTrue again a values rows e = set_is again a values rows e
action_is action.SetFalse again a values rows e = set_is again a values rows e
action_is action.Append again a values rows e = values_are a.ignore_case (parser_of_value a.parser) values e
action_is action.Count again a values rows e = count_is a values rows e
action_is action.Help again a values rows e = some_kind _ _ e
action_is action.HelpShort again a values rows e = some_kind _ _ e
action_is action.HelpLong again a values rows e = some_kind _ _ e
action_is action.Version again a values rows e = some_kind _ _ e

use_is : (again : Bool) (a : Rule) (values : List Text) (rows : List Row) → use_fault again a values rows ≡ [] → use_passes again a values rows ≡ true
use_is again a values rows e =
    let parts = both_none (range_kinds (unwrap_or_range a.range).start_inclusive (most_values a) (length values)) _ e in
    let range = range_is (unwrap_or_range a.range).start_inclusive (most_values a) (length values) parts.0 in
    and_from _ _ range.0 (and_from _ _ range.1 (action_is (action_of a) again a (values_or_missing a values) rows parts.1))

-- ---- one word

module _ (c : List Rule) (again : Bool) where
  settle_is : (h : Held) → settle_fault c again h ≡ [] → settle_passes c again h ≡ true
  settle_is h = where_some _ _ h.pending (λ p. where_some _ _ (arg_by_id c p.0) (λ a. use_is again a p.1 h.rows))

  react_is : (a : Rule) (values : List Text) (h : Held) → react_fault c again a values h ≡ [] → react_passes c again a values h ≡ true
  react_is a values h e =
      let parts = both_none (settle_fault c again h) _ e in
      and_from _ _ (settle_is h parts.0) (use_is again a values (settled c h).rows parts.1)

  option_is : (a : Rule) (v : Option Text) (h : Held) → option_fault c again a v h ≡ [] → option_passes c again a v h ≡ true
  option_is a (Some v) h e = react_is a (v ∷ []) h e
  option_is a None h e = settle_is h e

  long_is : (found : Option Rule) (v : Option Text) (h : Held) → long_fault c again found v h ≡ [] → long_passes c again found v h ≡ true
  long_is None v h e = some_kind _ _ e
  long_is (Some a) v h e = go (takes_values a) v e
    where
      go : (b : Bool) (v : Option Text) → cond b (option_fault c again a v h) (cond (is_some v) (TooManyValues ∷ []) (react_fault c again a [] h)) ≡ []
          → cond b (option_passes c again a v h) (not (is_some v) && react_passes c again a [] h) ≡ true
      go true v e = option_is a v h e
      go false (Some v) e = some_kind _ _ e
      go false None e = react_is a [] h e

  short_is : (found : Option Rule) (rest : Text) (h : Held) (fault : Held → Kinds) (passes : Held → Bool)
      → ((h : Held) → fault h ≡ [] → passes h ≡ true) → short_fault c again found rest h fault ≡ [] → short_passes c again found rest h passes ≡ true
  short_is None rest h fault passes each e = some_kind _ _ e
  short_is (Some a) rest h fault passes each e = go (takes_values a) e
    where
      go : (b : Bool) → cond b (option_fault c again a (attached_value rest) h) (or_else (react_fault c again a [] h) (fault (reacted c a [] h))) ≡ []
          → cond b (option_passes c again a (attached_value rest) h) (react_passes c again a [] h && passes (reacted c a [] h)) ≡ true
      go true e = option_is a (attached_value rest) h e
      go false e =
          let parts = both_none (react_fault c again a [] h) _ e in
          and_from _ _ (react_is a [] h parts.0) (each (reacted c a [] h) parts.1)

  bundle_step_is : (x : Option ℕ) (flags : Text) (skip : ℕ) (h : Held) (fault : Text → ℕ → Held → Kinds) (passes : Text → ℕ → Held → Bool)
      → ((rest : Text) (skip : ℕ) (h : Held) → fault rest skip h ≡ [] → passes rest skip h ≡ true)
      → bundle_step_fault c again x flags skip h fault ≡ [] → bundle_step_passes c again x flags skip h passes ≡ true
  bundle_step_is None flags skip h fault passes each e = refl
  bundle_step_is (Some x) flags zero h fault passes each e =
      let rest = drop (length (encode_utf8 x)) flags in
      short_is (arg_by_short c x) rest h (fault rest 0) (passes rest 0) (each rest 0) e
  bundle_step_is (Some x) flags (suc skip) h fault passes each e = each (drop (length (encode_utf8 x)) flags) skip h e

  flags_are : (k : ℕ) (flags : Text) (skip : ℕ) (h : Held) → flags_fault c again k flags skip h ≡ [] → flags_pass c again k flags skip h ≡ true
  unfolding flags_fault flags_pass
  flags_are zero flags skip h e = refl
  flags_are (suc k) flags skip h e =
      bundle_step_is (slice_get (chars flags) 0) flags skip h (flags_fault c again k) (flags_pass c again k) (flags_are k) e

  flag_word_is : (long : Option (Text × Option Text)) (word : Text) (h : Held) → flag_word_fault c again long word h ≡ []
      → flag_word_passes c again long word h ≡ true
  flag_word_is (Some p) word h e = long_is (arg_by_long c p.0) p.1 h e
  flag_word_is None word h e = where_some _ _ (short_of word) (λ flags. flags_are (length flags) flags h.skip (record h { skip = 0 })) e

  positional_is : (a : Rule) (h : Held) → positional_fault c again a h ≡ [] → positional_passes c again a h ≡ true
  positional_is a h e = none_or (is_pending a h.pending && takes_several a) _ _ (settle_is h) e

-- ---- the words of one command

module _ (s : Shape) where
  other_is : (met : Option Text) (word : Text) (h : Held) → other_fault s met word h ≡ [] → other_passes s met word h ≡ true
  other_is (Some name) word h e = none_unless (bytes_eq name (codes "help")) s.disable_help_subcommand _ _ e
  other_is None word h e = none_or (bytes_eq word (45 ∷ 45 ∷ [])) _ _ (flag_word_is s.rules s.args_override_self (long_of word) word h) e

  word_is : (names : Names) (is_trailing : Bool) (waiting : Waiting) (word : Text) (h : Held) → word_fault s names is_trailing waiting word h ≡ []
      → word_passes s names is_trailing waiting word h ≡ true
  word_is names is_trailing waiting word h e = none_or is_trailing _ _ (other_is (subcommand_met names waiting word) word h) e

  no_stray : stray_fault s ≡ [] → ⊥
  no_stray e = go s.is_leaf e
    where
      go : (b : Bool) → cond b (UnknownArgument ∷ []) (UnknownArgument ∷ InvalidSubcommand ∷ []) ≡ [] → ⊥
      go true e = some_kind _ _ e
      go false e = some_kind _ _ e

  step_is : (position : ℕ) (h : Held) (step : Step) → step_fault s position h step ≡ [] → step_passes s position h step ≡ true
  step_is position h value e = go (arg_by_index s.rules position) e
    where
      go : (found : Option Rule) → option_map_or (λ a. positional_fault s.rules s.args_override_self a h) found (stray_fault s) ≡ []
          → option_map_or (λ a. positional_passes s.rules s.args_override_self a h) found false ≡ true
      go None e = absurd (no_stray e)
      go (Some a) e = positional_is s.rules s.args_override_self a h e
  step_is position h (next waiting) e = refl
  step_is position h (trailing at) e = refl
  step_is position h (subcommand name) e = refl

  turn_is : (names : Names) (w : Walk) (word : Text) → turn_fault s names w word ≡ [] → turn_passes s names w word ≡ true
  turn_is names w word e =
      let met = word_met s.rules names w.is_trailing w.waiting w.position word w.held in
      none_or (is_some w.stopped) _ _ (λ none.
      let parts = both_none (word_fault s names w.is_trailing w.waiting word w.held) _ none in
      and_from _ _ (word_is names w.is_trailing w.waiting word w.held parts.0) (step_is w.position met.0 met.1 parts.1)) e

  walk_is : (names : Names) (w : Walk) (words : List Text) → walk_fault s names w words ≡ [] → walk_passes s names w words ≡ true
  unfolding walk_fault walk_passes
  walk_is names w [] e = refl
  walk_is names w (word ∷ rest) e =
      let parts = both_none (turn_fault s names w word) _ e in
      and_from _ _ (turn_is names w word parts.0) (walk_is names (walked s.rules names w word) rest parts.1)

-- ---- after the words

each_given : (rows : List Row) (rules : List Rule) → list_any (λ a. a.required && not (is_given a.id rows)) rules ≡ false
    → list_all (λ a. not a.required || is_given a.id rows) rules ≡ true
each_given rows [] e = refl
each_given rows (a ∷ rules) e = go a.required (is_given a.id rows) (each_given rows rules) e
  where
    go : (wanted given : Bool)
        → (list_any (λ a. a.required && not (is_given a.id rows)) rules ≡ false → list_all (λ a. not a.required || is_given a.id rows) rules ≡ true)
        → ((wanted && not given) || list_any (λ a. a.required && not (is_given a.id rows)) rules) ≡ false
        → ((not wanted || given) && list_all (λ a. not a.required || is_given a.id rows) rules) ≡ true
    go true true rest e = rest e
    go true false rest e = absurd (true≢false e)
    go false given rest e = rest e

help_not_due : (below wants used : Bool) → (not below && (wants && not used)) ≡ false → (not wants || (below || used)) ≡ true
help_not_due below false used e = refl
help_not_due true true used e = refl
help_not_due false true true e = refl
help_not_due false true false e = absurd (true≢false e)

command_not_due : (below wants : Bool) → (not below && wants) ≡ false → (not wants || below) ≡ true
command_not_due below false e = refl
command_not_due true true e = refl
command_not_due false true e = absurd (true≢false e)

given_or_excused : (excused missing given : Bool) → (missing ≡ false → given ≡ true) → (not excused && missing) ≡ false → (excused || given) ≡ true
given_or_excused true missing given each e = refl
given_or_excused false missing given each e = each e

check_is : (s : Shape) (rows : List Row) (below : Bool) → list_all (λ a. a.is_free) s.rules ≡ true → check_fault s rows below ≡ [] → is_valid s rows below ≡ true
check_is s rows below free e =
    let used = list_any (λ (r : Row). explicit_source r.source) rows in
    let missing = list_any (λ (a : Rule). a.required && not (is_given a.id rows)) s.rules in
    let help = none_if (not below && (s.arg_required_else_help && not used)) _ [] _ e in
    let command = none_if (not below && s.subcommand_required) _ [] _ help.1 in
    let required = none_if (not (s.subcommand_negates_reqs && below) && missing) _ [] _ command.1 in
    and_from _ _ (help_not_due below s.arg_required_else_help used help.0)
    (and_from _ _ (command_not_due below s.subcommand_required command.0)
    (and_from _ _ free (given_or_excused (s.subcommand_negates_reqs && below) missing _ (each_given rows s.rules) required.0)))

-- the defaults of its arguments pass, and none has a rule on another
abbrev pub is_settled : Shape → Bool
is_settled s = list_all default_passes s.rules && list_all (λ a. a.is_free) s.rules

level_is : (s : Shape) (names : Names) (h : Held) (words : List Text) (has : Bool) (below : Kinds) → is_settled s ≡ true
    → level_fault s names h words has below ≡ [] → (below ≡ []) × (level_passes s names h words has ≡ true)
level_is s names h words has below is e =
    let end = (walk s.rules names h words).held in
    let by_walk = both_none (walk_fault s names (walk_from h) words) _ e in
    let by_below = both_none below _ by_walk.1 in
    let by_last = both_none (settle_fault s.rules s.args_override_self end) _ by_below.1 in
    let by_defaults = both_none (defaults_fault (settled s.rules end).rows s.rules) _ by_last.1 in
    let plain = and_parts _ _ is in (
      by_below.0,
      and_from _ _ (walk_is s names (walk_from h) words by_walk.0)
          (and_from _ _ (settle_is s.rules s.args_override_self end by_last.0)
          (and_from _ _ plain.0 (check_is s (finished s.rules end) has plain.1 by_defaults.1))),
    )

entered_is : (a : App) (stop : Option (Text × List Text)) → list_all is_settled a.subs ≡ true → entered_fault a stop ≡ [] → entered_passes a stop ≡ true
entered_is a stop all = where_some _ _ stop (λ p. where_found _ _ is_settled (λ s. answers_to p.0 (label_of s)) a.subs
    (λ s is e. (level_is s [] nothing_held p.1 false [] is e).1) all)

built_is : (a : App) (h : Held) (words : List Text) → is_settled a.top ≡ true → list_all is_settled a.subs ≡ true → built_fault a h words ≡ []
    → built_takes a h words ≡ true
built_is a h words is all e =
    let stop = (walk a.top.rules (names_of a) h words).stopped in
    let parts = level_is a.top (names_of a) h words (is_some (entered a stop)) (entered_fault a stop) is e in
    and_from _ _ (entered_is a stop all parts.0) parts.1

-- a command with no rule of one argument on another, and with good defaults, takes the words in which it finds no fault
pub takes_faultless : (a : App) (words : List Text) → is_simple a ≡ true → is_settled (built a).top ≡ true → list_all is_settled (built a).subs ≡ true
    → fault_of a words ≡ [] → takes a words ≡ true
takes_faultless a words simple is all e = and_from _ _ simple (built_is (built a) nothing_held (argument_words a words) is all e)
