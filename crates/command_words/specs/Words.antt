-- What the words ask for.
use Rattle.std.specs.Prelude.{◌≡◌, ◌&&◌, ℕ, List, codes, length, map, nat_le, if◌then◌else◌, is_some, option_and_then, option_map, ⊤}
use Rattle.std.specs.Str.{bytes_eq}
use Rattle.std.specs.declared.option.Option.{Option}
use Rattle.std.specs.declared.option.Option.TheVariants.{None, Some}
use Rattle.clap.specs.Words.{Row, all_of, first_of, found_of, rows_of, subcommand_of, takes}
use Rattle.clap.specs.declared.parser.matches.ArgMatches.{ArgMatches}
use Rattle.cesr_codes.specs.declared.key.Key.{Key}
use Rattle.cesr_codes.specs.declared.key.KeyCode.TheVariants.{Fixed}
use Rattle.cesr_codes.specs.declared.prefix.Prefix.{Prefix}
use Rattle.cesr_codes.specs.Spelling.{IsPrefix}
use Rattle.cesr_binary.specs.declared.domain.Domain.{Domain}
use Rattle.command_words.specs.Domains.{domain_in}
use Rattle.command_words.specs.Inputs.{AreFew, AreInForm, Inputs, inputs_by, inputs_of}
use Rattle.command_words.specs.Keys.{fixed_key_in}
use Rattle.command_words.specs.Numbers.{number_set}
use Rattle.command_words.specs.Prefixes.{prefix_in}
use Rattle.command_words.specs.Table.{table}
use Rattle.command_words.specs.declared.command.Command.{Command}
use Rattle.command_words.specs.declared.command.Command.TheVariants.{Check, Validate, Watch, Witness, Make, Convert, Export, Blame, Generate, Rehearse}

-- what may be asked for, by the bytes of the words: of `check` a file, of `validate` and `watch` a helper, and files or links, of
-- `witness` a helper, its key, a shelf's file, maybe that of an old one, and a file or links, of `make` a helper, a plan's file and
-- maybe a log's, of `convert` a domain and a file, of `export` a helper, a prefix and files, of `blame` a helper and two files, of
-- `gen` a seed, how many logs, and how many events in each, of `rehearse` nothing
pub data Asked : Type 0 where
  check : List ℕ → Asked
  validate : List ℕ → Inputs (List (List ℕ)) → Asked
  watch : List ℕ → Inputs (List (List ℕ)) → Asked
  witness : List ℕ → Key → List ℕ → Option (List ℕ) → Inputs (List ℕ) → Asked
  make : List ℕ → List ℕ → Option (List ℕ) → Asked
  convert : Domain → List ℕ → Asked
  export : List ℕ → Prefix → List (List ℕ) → Asked
  blame : List ℕ → List ℕ → List ℕ → Asked
  generate : ℕ → ℕ → ℕ → Asked
  rehearse : Asked

-- what a command asks for
abbrev pub asked_by : Command → Asked
asked_by (Check file) = check file.now
asked_by (Validate helper inputs) = validate helper.now (inputs_by (λ files. map (λ f. f.now) files.items) inputs)
asked_by (Watch helper inputs) = watch helper.now (inputs_by (λ files. map (λ f. f.now) files.items) inputs)
asked_by (Witness helper prefix shelf from input) =
    witness helper.now prefix shelf.now (option_map (λ f. f.now) from) (inputs_by (λ file. file.now) input)
asked_by (Make helper plan log) = make helper.now plan.now (option_map (λ l. l.now) log)
asked_by (Convert domain file) = convert domain file.now
asked_by (Export helper prefix files) = export helper.now prefix (map (λ f. f.now) files.items)
asked_by (Blame helper first second) = blame helper.now first.now second.now
asked_by (Generate seed logs events) = generate seed logs events
asked_by Rehearse = rehearse

-- what is sure of the values of a command: `validate`, `watch` and `export` have one file at least, and 64 at most, and so it is of
-- links; the key of a witness can't be rotated, and what is exported is of a prefix
abbrev pub IsInForm : Command → Type 0
IsInForm (Validate helper inputs) = AreInForm (λ files. AreFew (length files.items)) inputs
IsInForm (Watch helper inputs) = AreInForm (λ files. AreFew (length files.items)) inputs
IsInForm (Witness helper prefix shelf from input) = (prefix.code ≡ Fixed) × AreInForm (λ file. ⊤) input
IsInForm (Export helper prefix files) = IsPrefix prefix × AreFew (length files.items)
IsInForm _ = ⊤

-- the values that a command was given, by the names of its options and of its FILE or FILEs
abbrev pub rows_in : ArgMatches → List Row
rows_in found = rows_of (found_of found)

-- what is asked for by two values, where both are there
abbrev pub asks_by_both : {X Y : Type 0} → (X → Y → Asked) → Option X → Option Y → Option Asked
asks_by_both asked x y = option_and_then (λ first. option_map (asked first) y) x

-- `check` asks for its file
abbrev pub asks_check : List Row → Option Asked
asks_check rows = option_map check (first_of (codes "file") rows)

-- the files, of which there are one at least, and 64 at most
abbrev pub few_files : List (List ℕ) → Option (List (List ℕ))
few_files files = if nat_le 1 (length files) && nat_le (length files) 64 then Some files else None

abbrev pub files_set : List Row → Option (List (List ℕ))
files_set rows = option_and_then few_files (all_of (codes "files") rows)

-- files, in the order of the words, or links in their place
abbrev pub files_or_links : List Row → Option (Inputs (List (List ℕ)))
files_or_links rows = inputs_of (is_some (all_of (codes "files") rows)) (files_set rows) rows

-- one file, or links in its place
abbrev pub file_or_links : List Row → Option (Inputs (List ℕ))
file_or_links rows = inputs_of (is_some (first_of (codes "file") rows)) (first_of (codes "file") rows) rows

-- `validate` and `watch` ask for their files or links, with the helper
abbrev pub asks_over_core : (List ℕ → Inputs (List (List ℕ)) → Asked) → List Row → Option Asked
asks_over_core asked rows = asks_by_both asked (first_of (codes "helper") rows) (files_or_links rows)

-- the key that can't be rotated that an option is set to
abbrev pub key_set : List ℕ → List Row → Option Key
key_set option rows = option_and_then fixed_key_in (first_of option rows)

-- `witness` asks for its file or links, with the helper, as the witness of a key, over its shelf, and over the list of an old one
-- where that is named
abbrev pub asks_witness : List Row → Option Asked
asks_witness rows =
    option_and_then (λ helper. option_and_then (λ prefix.
    asks_by_both (λ shelf input. witness helper prefix shelf (first_of (codes "from") rows) input) (first_of (codes "shelf") rows) (file_or_links rows))
    (key_set (codes "prefix") rows)) (first_of (codes "helper") rows)

-- `make` asks for its plan, with the helper, over the log where there is one
abbrev pub asks_make : List Row → Option Asked
asks_make rows =
    asks_by_both (λ helper plan. make helper plan (first_of (codes "log") rows)) (first_of (codes "helper") rows) (first_of (codes "plan") rows)

-- the domain that an option is set to
abbrev pub domain_set : List ℕ → List Row → Option Domain
domain_set option rows = option_and_then domain_in (first_of option rows)

-- `convert` asks for its file in a domain
abbrev pub asks_convert : List Row → Option Asked
asks_convert rows = asks_by_both convert (domain_set (codes "to") rows) (first_of (codes "file") rows)

-- the prefix that an option is set to
abbrev pub prefix_set : List ℕ → List Row → Option Prefix
prefix_set option rows = option_and_then prefix_in (first_of option rows)

-- `export` asks for the log of its prefix, of files, with the helper
abbrev pub asks_export : List Row → Option Asked
asks_export rows =
    option_and_then (λ helper. asks_by_both (export helper) (prefix_set (codes "prefix") rows) (files_set rows)) (first_of (codes "helper") rows)

-- `blame` asks for its two files, in the order of the words, with the helper
abbrev pub asks_blame : List Row → Option Asked
asks_blame rows =
    option_and_then (λ helper. asks_by_both (blame helper) (first_of (codes "first") rows) (first_of (codes "second") rows))
    (first_of (codes "helper") rows)

-- `gen` asks for a seed of 64 bits, up to 1,000 logs, and up to 1,000 events in each
abbrev pub asks_gen : List Row → Option Asked
asks_gen rows =
    option_and_then (λ seed. asks_by_both (generate seed) (number_set (codes "logs") 1 1000 rows) (number_set (codes "events") 1 1000 rows))
    (number_set (codes "seed") 0 18446744073709551615 rows)

-- what the command of this name asks for, by the values that it was given
abbrev pub asks_by_name : List ℕ → List Row → Option Asked
asks_by_name name rows =
    if bytes_eq name (codes "check") then asks_check rows
    else if bytes_eq name (codes "validate") then asks_over_core validate rows
    else if bytes_eq name (codes "watch") then asks_over_core watch rows
    else if bytes_eq name (codes "witness") then asks_witness rows
    else if bytes_eq name (codes "make") then asks_make rows
    else if bytes_eq name (codes "convert") then asks_convert rows
    else if bytes_eq name (codes "export") then asks_export rows
    else if bytes_eq name (codes "blame") then asks_blame rows
    else if bytes_eq name (codes "gen") then asks_gen rows
    else if bytes_eq name (codes "rehearse") then Some rehearse
    else None

-- What the words behind the program's name ask for. They are in the form where the definitions of clap take them for the table,
-- and the command that they name finds in its values what it asks for.
unfoldable pub asks : List (List ℕ) → Option Asked
asks words =
    if takes table words then option_and_then (λ met. asks_by_name met.0 met.1) (subcommand_of table words) else None
