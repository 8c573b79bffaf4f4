-- The lines of blames.
use Rattle.std.specs.Prelude.{ℕ, List, [], ◌∷◌, ◌++◌, flat_map, codes, slice_get, Option, Some, None}
use Rattle.cesr_codes.specs.Spelling.{digest_text, key_text, prefix_text, sig_text}
use Rattle.cesr_codes.specs.declared.digest.Digest.{Digest}
use Rattle.cesr_codes.specs.declared.prefix.Prefix.{Prefix}
use Rattle.event_body.specs.EventBody.Events.{said_of}
use Rattle.journal.specs.declared.journal.body.Body.{Body}
use Rattle.report_lines.specs.Lines.{line, number}
use Rattle.blame_core.specs.declared.blame_core.culprit.Culprit.{Culprit}
use Rattle.blame_core.specs.declared.blame_core.blames.Blame.{Blame}

-- `blame`, the prefix, the number, and the digests of both events
abbrev pub pair_text : Prefix → ℕ → Digest → Digest → List ℕ
pair_text prefix sn one other = line (codes "blame" ∷ prefix_text prefix ∷ number sn ∷ digest_text one ∷ digest_text other ∷ [])

-- `witness`, the key, and its signatures on both
abbrev pub culprit_text : Culprit → List ℕ
culprit_text c = line (codes "witness" ∷ key_text c.key ∷ sig_text c.one ∷ sig_text c.other ∷ [])

-- the lines of a pair and its culprits, where both bodies are held
abbrev pub lines_of_pair : Option Body → Option Body → Blame → List ℕ
lines_of_pair None other x = []
lines_of_pair (Some b) None x = []
lines_of_pair (Some b) (Some c) x = pair_text x.prefix x.sn (said_of b.event) (said_of c.event) ++ flat_map culprit_text x.culprits

abbrev pub rivals_text : List Body → List Body → Blame → List ℕ
rivals_text held others x = lines_of_pair (slice_get held x.first) (slice_get others x.second) x

-- the lines of all pairs, in order
abbrev pub blames_text : List Body → List Body → List Blame → List ℕ
blames_text held others blames = flat_map (rivals_text held others) blames
