-- The indices of an indexed signature, and how they are spelled (CESR: indexed code table).
use Rattle.std.specs.Prelude.{ℕ, ◌==◌, ◌&&◌, nat_lt, Bool, true, false, List, ◌++◌, codes}
use Rattle.std.specs.declared.option.Option.{Option}
use Rattle.std.specs.declared.option.Option.TheVariants.{None, Some}
use Rattle.lists.specs.KeriSpecs.Base64.{base64_text}

-- A small one has an index of one digit, and the same as other index or none. A big one has indices of two digits.
abbrev pub has_form : Bool → ℕ → Option ℕ → Bool
has_form false index None = nat_lt index 64
has_form false index (Some ondex) = nat_lt index 64 && (ondex == index)
has_form true index None = nat_lt index 4096
has_form true index (Some ondex) = nat_lt index 4096 && nat_lt ondex 4096

abbrev pub indexed_code : Bool → Option ℕ → List ℕ
indexed_code false (Some ondex) = codes "A"
indexed_code false None = codes "B"
indexed_code true (Some ondex) = codes "2A"
indexed_code true None = codes "2B"

-- the greater digit first, and `AA` in place of another index that isn't there
abbrev pub index_text : Bool → ℕ → Option ℕ → List ℕ
index_text false index ondex = base64_text 1 index
index_text true index (Some ondex) = base64_text 2 index ++ base64_text 2 ondex
index_text true index None = base64_text 2 index ++ codes "AA"
