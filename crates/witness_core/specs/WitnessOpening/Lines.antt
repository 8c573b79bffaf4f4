-- The lines that say why there is no shelf, or no witness.
use Rattle.std.specs.Prelude.{ℕ, List, ◌++◌, codes}
use Rattle.std.specs.Fmt.{decimal}

-- `shelf`, and the place at which the file shows first that it is no shelf
abbrev pub shelf_text : ℕ → List ℕ
shelf_text place = codes "shelf " ++ (decimal place ++ codes "\n")

-- `old`, and the same of an old shelf's file
abbrev pub old_text : ℕ → List ℕ
old_text place = codes "old " ++ (decimal place ++ codes "\n")

-- `log`, and the number of the first payload of a shelf that is no event which follows those before it
abbrev pub log_text : ℕ → List ℕ
log_text number = codes "log " ++ (decimal number ++ codes "\n")
