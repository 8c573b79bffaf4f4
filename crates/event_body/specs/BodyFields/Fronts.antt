-- Texts that stand between others.
use Rattle.std.specs.Prelude.{ℕ, List, ◌++◌}

-- a text between two others
abbrev pub between : List ℕ → List ℕ → List ℕ → List ℕ
between opening closing text = opening ++ (text ++ closing)
