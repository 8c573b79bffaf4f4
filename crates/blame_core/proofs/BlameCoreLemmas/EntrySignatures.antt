-- The signatures of entries are those of what they tell.
use Rattle.std.proofs.Common.{◌≡◌, ℕ, true, false, ◌||◌, List, [], ◌∷◌, ◌++◌, map, Option, Some, None, refl, sym, ◌∙◌, ap, append-nil, inl, inr, option_map}
use Rattle.std.specs.Prelude.{find, flat_map, bytes_eq, position, slice_get, if◌then◌else◌}
use Rattle.std.specs.List.{list_any}
use Rattle.std.specs.Cmp.Lexicographic.{bytes_decides}
use Rattle.std.proofs.lemmas.Bool.{cases_Bool}
use Rattle.std.proofs.lemmas.List.Folds.{list_any-append}
use Rattle.cesr_codes.specs.declared.key.Key.{Key}
use Rattle.cesr_codes.specs.declared.sig.Sig.{Sig}
use Rattle.journal.specs.declared.journal.body.Body.{Body}
use Rattle.journal.specs.declared.journal.claim.Claim.{Claim}
use Rattle.journal.specs.declared.journal.entry.Entry.{Entry}
use Rattle.journal.specs.declared.journal.entry.Entry.TheVariants.{Took}
use Rattle.journal.specs.Journal.History.{Told, took, heard, claimed_sig, said_yes, same_triple, yes_in}
use Rattle.journal.specs.Journal.Journals.{told_by, whole}
use Rattle.journal.proofs.JournalLemmas.Locality.{bytes_differ}
use Rattle.blame_core.specs.BlameLaws.Signatures.{came_on, signature_of, triple_on}
use Rattle.blame_core.specs.BlameCore.FirstSignatures.{at_place, is_signed}
use Rattle.blame_core.specs.BlameCore.Signatures.{came_with, good_in, bears_on}
use Rattle.blame_core.specs.declared.blame_core.signed.Signed.{Signed}
use Rattle.blame_core.proofs.BlameCoreLemmas.FirstPlaces.{at_position}
use Rattle.blame_core.proofs.BlameCoreLemmas.Lists.{flat_found}

-- none stand on a body of another
none_with : (b : Body) (o : Option Body) (reader : ℕ) (claims : List Claim) → bears_on b o ≡ false
    → came_with b (option_map (λ c. took reader c claims) o) ≡ []
none_with b None reader claims h = refl
none_with b (Some c) reader claims h = ap (λ t. map claimed_sig (if t then claims else [])) h

pub none_came : (held : List Body) (b : Body) (e : Entry) (reader n : ℕ) (claims : List Claim) (came : List Sig) → e ≡ Took reader n claims
    → bears_on b (slice_get held n) ≡ false → came ≡ came ++ came_with b (whole held e)
none_came held b e reader n claims came is h =
    sym (append-nil came) ∙ ap (λ xs. came ++ xs) (sym (ap (λ e. came_with b (whole held e)) is ∙ none_with b (slice_get held n) reader claims h))

-- the tests of bytes go both ways
turned_bytes : (xs ys : List ℕ) → bytes_eq xs ys ≡ true → bytes_eq ys xs ≡ true
turned_bytes xs ys h = (bytes_decides ys xs).1 (sym ((bytes_decides xs ys).0 h))

one_told : (key : Key) (sig : Sig) (b : Body) (t : Told)
    → list_any (is_signed key sig) (good_in b.bytes (Some t)) ≡ list_any (same_triple (triple_on b key sig)) (yes_in t)
one_told key sig b (took reader c claims) = refl
one_told key sig b (heard reader c k s true) = elim (cases_Bool (bytes_eq c.bytes b.bytes)) [
  | inl h ↦ (let back = turned_bytes c.bytes b.bytes h in rw (h, back) refl)
  | inr h ↦ (let back = bytes_differ c.bytes b.bytes h in rw (h, back) refl)
]
one_told key sig b (heard reader c k s false) = refl

told_good : (key : Key) (sig : Sig) (b : Body) (told : List Told)
    → list_any (is_signed key sig) (flat_map (λ t. good_in b.bytes (Some t)) told) ≡ list_any (same_triple (triple_on b key sig)) (flat_map yes_in told)
told_good key sig b [] = refl
told_good key sig b (t ∷ told) =
    list_any-append (is_signed key sig) (good_in b.bytes (Some t)) (flat_map (λ t. good_in b.bytes (Some t)) told)
    ∙ (λ i. one_told key sig b t i || told_good key sig b told i)
    ∙ sym (list_any-append (same_triple (triple_on b key sig)) (yes_in t) (flat_map yes_in told))

-- the good signatures on a body
pub good_all : (held : List Body) (entries : List Entry) (b : Body) (key : Key) (sig : Sig)
    → list_any (is_signed key sig) (flat_map (λ e. good_in b.bytes (whole held e)) entries) ≡ said_yes (told_by held entries) (triple_on b key sig)
unfolding said_yes told_by
good_all held entries b key sig =
    ap (list_any (is_signed key sig)) (flat_found (whole held) (λ t. good_in b.bytes (Some t)) (good_in b.bytes) refl (λ t. refl) entries)
    ∙ told_good key sig b (told_by held entries)

-- the first good signature of a key, by its place
pub signature_same : (told : List Told) (b : Body) (key : Key) (came : List Sig) (good : List Signed) (place : Option ℕ) → came ≡ came_on told b
    → ((sig : Sig) → list_any (is_signed key sig) good ≡ said_yes told (triple_on b key sig)) → place ≡ position (λ sig. list_any (is_signed key sig) good) came
    → at_place came place ≡ signature_of told b key
signature_same told b key came good place came_is good_is at =
    ap (at_place came) at ∙ at_position (λ sig. list_any (is_signed key sig) good) came ∙ (λ i. find (λ sig. good_is sig i) (came_is i))
