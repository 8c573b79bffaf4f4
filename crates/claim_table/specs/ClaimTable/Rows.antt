-- Rows of claims, and what hearing a verdict makes of them.
use Rattle.std.specs.Prelude.{◌≡◌, ℕ, Bool, false, ◌&&◌, ◌==◌, not, List, [], ◌∷◌, ◌++◌, map, filter, flat_map, Option, Some, None, is_none, slice_get, if◌then◌else◌, bytes_eq}
use Rattle.std.specs.List.{list_any, range_with_len}
use Rattle.cesr_codes.specs.Spelling.{key_code}
use Rattle.cesr_codes.specs.declared.key.Key.{Key}
use Rattle.claim_table.specs.declared.claim_table.claimed.Claimed.{Claimed}
use Rattle.claim_table.specs.declared.claim_table.row.Row.{Row}
use Rattle.claim_table.specs.declared.claim_table.signature.Signature.{Signature}

-- a claim's signature
abbrev pub signature_of : Claimed → Signature
signature_of c = record { body = c.body; key = c.key; sig = c.sig }

-- the keys have one code and the same raw bytes (CESR)
abbrev pub same_key : Key → Key → Bool
same_key k l = (key_code k.code == key_code l.code) && bytes_eq k.raw l.raw

-- they are of one body and one key, and have the same raw bytes
abbrev pub same_signature : Signature → Signature → Bool
same_signature s t = (s.body == t.body) && (same_key s.key t.key && bytes_eq s.sig.raw t.sig.raw)

-- the row is of the signature
abbrev pub is_of : Signature → Row → Bool
is_of s r = same_signature (signature_of r.claimed) s

-- some row is of the signature
abbrev pub is_raised : List Row → Signature → Bool
is_raised rows s = list_any (is_of s) rows

-- the verdict of the first row of the signature
abbrev pub verdict_of : List Row → Signature → Option Bool
verdict_of [] s = None
verdict_of (r ∷ rows) s = if is_of s r then r.verdict else verdict_of rows s

-- the rows of a signature have one verdict
abbrev pub DoAgree : List Row → Type 0
DoAgree rows = (i : ℕ) (r : Row) → slice_get rows i ≡ Some r → r.verdict ≡ verdict_of rows (signature_of r.claimed)

-- a claim is raised: its row has the verdict that was heard on its signature, where there is one
abbrev pub raised : List Row → Claimed → List Row
raised rows c = rows ++ record { claimed = c; verdict = verdict_of rows (signature_of c) } ∷ []

-- claims are raised, one after the other
abbrev pub raised_all : List Row → List Claimed → List Row
raised_all rows [] = rows
raised_all rows (c ∷ claims) = raised_all (raised rows c) claims

abbrev pub with_verdict : Signature → Option Bool → Row → Row
with_verdict s verdict r = if is_of s r then record { claimed = r.claimed; verdict = verdict } else r

-- each row of the signature has this verdict, or none
abbrev pub with_verdicts : Signature → Option Bool → List Row → List Row
with_verdicts s verdict rows = map (with_verdict s verdict) rows

abbrev pub heard : Signature → Bool → List Row → List Row
heard s verdict rows = with_verdicts s (Some verdict) rows

abbrev pub unheard : Signature → List Row → List Row
unheard s rows = with_verdicts s None rows

-- of each signature the first row, in order
abbrev pub first_rows : List Row → List Row
first_rows [] = []
first_rows (r ∷ rows) = r ∷ filter (λ q. not (is_of (signature_of r.claimed) q)) (first_rows rows)

-- the row is of the body, and has no verdict
abbrev pub is_open_on : ℕ → Row → Bool
is_open_on n r = (r.claimed.body == n) && is_none r.verdict

-- body by body, the first rows of their signatures that have no verdict
abbrev pub open_rows : ℕ → List Row → List Row
open_rows bodies rows = flat_map (λ n. filter (is_open_on n) (first_rows rows)) (range_with_len 0 bodies)

abbrev pub is_yes : Option Bool → Bool
is_yes None = false
is_yes (Some verdict) = verdict

-- some row of the body by the key has a yes
abbrev pub has_yes_by : List Row → ℕ → Key → Bool
has_yes_by rows n key = list_any (λ r. is_yes r.verdict && ((r.claimed.body == n) && same_key r.claimed.key key)) rows
