-- What digits in base 64 are to raw bytes (RFC 4648, section 5; CESR: conversion by left-padding).
use Rattle.std.specs.Prelude.{◌≡◌, ℕ, ◌^◌, ◌≤◌, List, length, true, false}
use Rattle.std.specs.List.{list_all}
use Rattle.lists.specs.KeriSpecs.Base64.{whole_number, number_of_text, is_character, AreBytes}
use Rattle.cesr_codes.specs.declared.symbols.Decoded.{Decoded}
use Rattle.cesr_codes.specs.declared.symbols.Decoded.TheVariants.{Whole, Large, Bad}

-- A text ends in digits. Either all of it are characters, and the raw bytes are of the digits' number or are too few for it, or it
-- has another.
abbrev pub IsDecoded : List ℕ → List ℕ → List ℕ → Decoded → Type 0
IsDecoded text digits raw Whole = (list_all is_character text ≡ true) × AreBytes (length raw) raw × (whole_number raw ≡ number_of_text digits)
IsDecoded text digits raw Large = (list_all is_character text ≡ true) × (256 ^ length raw ≤ number_of_text digits)
IsDecoded text digits raw Bad = list_all is_character text ≡ false
