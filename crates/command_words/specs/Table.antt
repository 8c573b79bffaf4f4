-- The table of the commands, as a command line that the port of `clap` reads.
use Rattle.std.specs.Prelude.{◌≡◌, ℕ, List, [], ◌∷◌, true, false, Some, codes}
use Rattle.clap.specs.Words.{App, Rule, Shape, new_rule, shape_of}
use Rattle.clap.specs.Simple.{new_shape}
use Rattle.clap.specs.declared.builder.ArgAction.TheVariants.{Append, Set}
use Rattle.clap.specs.declared.builder.command.Command.{Command}
use Rattle.clap.specs.declared.builder.command.Command.TheViews.{out-Command as fields_of}

-- an option `--name VALUE` that may be left out, and isn't repeated
abbrev pub may_have : List ℕ → Rule
may_have name = record (new_rule name) { long = Some name; action = Some Set }

-- an option that is there once
abbrev pub wants : List ℕ → Rule
wants name = record (may_have name) { required = true }

-- one FILE that may be left out, by the name of its value
abbrev pub maybe_file : List ℕ → Rule
maybe_file name = record (new_rule name) { action = Some Set }

-- one FILE that is there
abbrev pub file : List ℕ → Rule
file name = record (maybe_file name) { required = true }

-- FILEs, none where they are left out
abbrev pub maybe_files : Rule
maybe_files = record (new_rule (codes "files")) { action = Some Append }

-- FILEs, one at least
abbrev pub files : Rule
files = record maybe_files { required = true }

-- a command, and what it is given
abbrev pub command : List ℕ → List Rule → Shape
command name rules = record (new_shape name) { rules = rules }

-- `validate` or `watch`: a helper, and FILEs or links
abbrev pub core_shape : List ℕ → Shape
core_shape name = command name (wants (codes "helper") ∷ may_have (codes "listen") ∷ may_have (codes "links") ∷ maybe_files ∷ [])

-- `witness`: a helper, the key of the witness, its shelf and maybe an old one, and a FILE or links
abbrev pub witness_shape : Shape
witness_shape = command (codes "witness") (wants (codes "helper") ∷ wants (codes "prefix") ∷ wants (codes "shelf") ∷ may_have (codes "from")
    ∷ may_have (codes "listen") ∷ may_have (codes "links") ∷ maybe_file (codes "file") ∷ [])

-- The program before it has a command. The words are those behind its name, and one is to name a command. There are no words for
-- help, and as a program without a version it has none for that.
abbrev pub bare : App
bare = record {
  top = record (new_shape (codes "keri")) {
    no_binary_name = true;
    disable_help_flag = true;
    disable_help_subcommand = true;
    subcommand_required = true;
  };
  subs = [];
}

-- the commands, each with its options and its FILE or FILEs
unfoldable pub table : App
table = record {
  top = record bare.top { is_leaf = false };
  subs = command (codes "check") (file (codes "file") ∷ [])
      ∷ core_shape (codes "validate")
      ∷ core_shape (codes "watch")
      ∷ witness_shape
      ∷ command (codes "make") (wants (codes "helper") ∷ wants (codes "plan") ∷ may_have (codes "log") ∷ [])
      ∷ command (codes "convert") (wants (codes "to") ∷ file (codes "file") ∷ [])
      ∷ command (codes "export") (wants (codes "helper") ∷ wants (codes "prefix") ∷ files ∷ [])
      ∷ command (codes "blame") (wants (codes "helper") ∷ file (codes "first") ∷ file (codes "second") ∷ [])
      ∷ command (codes "gen") (wants (codes "seed") ∷ wants (codes "logs") ∷ wants (codes "events") ∷ [])
      ∷ command (codes "rehearse") []
      ∷ [];
}

-- the command has this shape, and no argument that commands below it would take too
pub record HasShape (shape : Shape) (it : Command) : Type 0 where
  pub shape_is : shape_of it ≡ shape
  pub local : (fields_of it).has_globals ≡ false
