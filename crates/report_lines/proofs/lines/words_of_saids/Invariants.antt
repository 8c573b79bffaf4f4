use Rattle.std.proofs.Common.{◌≡◌, ◌++◌, take}
use Rattle.std.specs.Prelude.{codes, flat_map, string_bytes}
use Rattle.cesr_codes.specs.Spelling.{digest_text}
use Rattle.report_lines.proofs.lines.words_of_saids.Given as goal

-- the text has the digests so far
abbrev pub invariant-loop-said : goal.invariant-loop-said
invariant-loop-said l = string_bytes l.text ≡ flat_map (λ d. codes " " ++ digest_text d) (take l.said-index l.saids)
