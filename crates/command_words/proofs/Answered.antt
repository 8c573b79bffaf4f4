-- What clap answers on words is what `asks` says of them.
use Rattle.std.proofs.Common.{◌≡◌, ◌∙◌, ap, cond, refl, sym, true, false, List, [], Option, None}
use Rattle.std.specs.Prelude.{option_and_then}
use Rattle.std.specs.List.{list_all}
use Rattle.std.proofs.lemmas.Bool.{false_from_ne_true}
use Rattle.clap.specs.Words.{HasMatchesOf, Row, Text, app_of, built, fault_of, is_simple, is_simple_and_free, subcommand_of, subcommand_rows_of, takes}
use Rattle.clap.specs.declared.builder.command.Command.{Command}
use Rattle.clap.specs.declared.parser.matches.ArgMatches.{ArgMatches}
use Rattle.clap.proofs.OnLiterals.{clap_on_literals}
use Rattle.command_words.specs.Table.{table}
use Rattle.command_words.specs.Words.{Asked, asks, asks_by_name}
use Rattle.command_words.proofs.Faultless.{is_settled, takes_faultless}

-- ---- the table

table_simple : is_simple table ≡ true
unfolding table clap_on_literals
table_simple = refl

table_free : is_simple_and_free table ≡ true
unfolding table clap_on_literals
table_free = refl

top_settled : is_settled (built table).top ≡ true
unfolding table clap_on_literals
top_settled = refl

commands_settled : list_all is_settled (built table).subs ≡ true
unfolding table clap_on_literals
commands_settled = refl

-- ---- the words

abbrev pub asks_of : Option (Text × List Row) → Option Asked
asks_of = option_and_then (λ met. asks_by_name met.0 met.1)

asks-taken : (words : List Text) → takes table words ≡ true → asks_of (subcommand_of table words) ≡ asks words
unfolding asks
asks-taken words e = sym (ap (λ b. cond b (asks_of (subcommand_of table words)) None) e)

asks-refused : (words : List Text) → takes table words ≡ false → None ≡ asks words
unfolding asks
asks-refused words e = sym (ap (λ b. cond b (asks_of (subcommand_of table words)) None) e)

module _ (it : Command) (words : List Text) (is : app_of it ≡ table) where
  -- clap found these matches
  pub found : (m : ArgMatches) → (is_simple_and_free (app_of it) ≡ true → fault_of (app_of it) words ≡ []) → HasMatchesOf (app_of it) words m
      → asks_of (subcommand_rows_of m) ≡ asks words
  found m faultless matches =
      let none : fault_of table words ≡ [] = sym (ap (λ a. fault_of a words) is) ∙ faultless (ap is_simple_and_free is ∙ table_free) in
      let same : subcommand_rows_of m ≡ subcommand_of table words = (matches (ap is_simple is ∙ table_simple)).1 ∙ ap (λ a. subcommand_of a words) is in
      ap asks_of same ∙ asks-taken words (takes_faultless table words table_simple top_settled commands_settled none)

  -- clap refused the words
  pub refused : (takes (app_of it) words ≡ true → ⊥) → None ≡ asks words
  refused not_taken = asks-refused words (false_from_ne_true (takes table words) (λ e. not_taken (ap (λ a. takes a words) is ∙ e)))
