-- How indexed signatures are spelled (CESR: indexed code table).
use Rattle.std.specs.Prelude.{List, ℕ, ◌++◌}
use Rattle.lists.specs.KeriSpecs.Base64.{base64_text, whole_number}
use Rattle.cesr_codes.specs.declared.indexed_sig.IndexedSig.{IndexedSig}
use Rattle.cesr_codes.specs.Indices.{indexed_code, index_text}
use Rattle.cesr_codes.specs.Spelling.{IsSig}

-- a code, the indices, and the 86 digits of 64 raw bytes read as one number
abbrev pub indexed_text : IndexedSig → List ℕ
indexed_text s = indexed_code s.big s.ondex ++ index_text s.big s.index s.ondex ++ base64_text 86 (whole_number s.sig.raw)

abbrev pub IsIndexed : IndexedSig → Type 0
IsIndexed s = IsSig s.sig
