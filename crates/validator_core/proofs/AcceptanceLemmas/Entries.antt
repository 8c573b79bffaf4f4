-- What the entries of a journal tell, once a body or an entry is added.
use Rattle.std.proofs.Common.{◌≡◌, ℕ, suc, zero, ◌<◌, Bool, false, List, [], ◌∷◌, ◌++◌, length, Option, Some, None, refl, sym, ◌∙◌, ap, option_map}
use Rattle.std.specs.Prelude.{filter_map, flat_map, slice_get, bytes_eq}
use Rattle.std.specs.List.{cons_option, list_any}
use Rattle.std.proofs.lemmas.Bool.{or_parts}
use Rattle.cesr_codes.specs.declared.key.Key.{Key}
use Rattle.cesr_codes.specs.declared.sig.Sig.{Sig}
use Rattle.journal.specs.declared.journal.body.Body.{Body}
use Rattle.journal.specs.declared.journal.claim.Claim.{Claim}
use Rattle.journal.specs.declared.journal.entry.Entry.{Entry}
use Rattle.journal.specs.declared.journal.entry.Entry.TheVariants.{Took, Heard}
use Rattle.journal.specs.Journal.Logs.{is_in, same_body}
use Rattle.journal.specs.Journal.History.{Told, took, heard, same_triple, has_verdict, heard_in}
use Rattle.journal.specs.Journal.Journals.{told_by, whole}
use Rattle.journal.proofs.JournalLemmas.Locality.{bytes_differ}
use Rattle.journal.proofs.JournalLemmas.Places.{slice_get_front, some_at}
use Rattle.claim_table.specs.CoreLaws.ClaimRows.{triple_on}
use Rattle.validator_core.specs.Tables.View.{number_of}

-- an entry of a body that is held tells the same when more bodies are
whole_front : (held more : List Body) (e : Entry) → number_of e < length held → whole (held ++ more) e ≡ whole held e
whole_front held more (Took reader n claims) low = let x = some_at held n low in
    ap (option_map (λ b. took reader b claims)) (slice_get_front held more n x.0 x.1 ∙ sym x.1)
whole_front held more (Heard reader n key sig verdict) low = let x = some_at held n low in
    ap (option_map (λ b. heard reader b key sig verdict)) (slice_get_front held more n x.0 x.1 ∙ sym x.1)

-- and so do all
pub told_front : (held more : List Body) (entries : List Entry) → ((i : ℕ) (e : Entry) → slice_get entries i ≡ Some e → number_of e < length held) → told_by (held ++ more) entries ≡ told_by held entries
unfolding told_by
told_front held more [] below = refl
told_front held more (e ∷ entries) below =
    let here = whole_front held more e (below 0 e refl) in
    let rest = told_front held more entries (λ i f at. below (suc i) f at) in
    ap (λ o. cons_option o (filter_map (whole (held ++ more)) entries)) here ∙ ap (cons_option (whole held e)) rest

-- no verdict was heard on a body that isn't held
pub unheard_outside : (held : List Body) (entries : List Entry) (b : Body) (key : Key) (sig : Sig) → is_in held b ≡ false → has_verdict (told_by held entries) (triple_on b key sig) ≡ false
unfolding told_by has_verdict
unheard_outside held [] b key sig outside = refl
unheard_outside held (e ∷ entries) b key sig outside = by e (unheard_outside held entries b key sig outside)
  where
    apart : (hs : List Body) (n : ℕ) (c : Body) → slice_get hs n ≡ Some c → is_in hs b ≡ false → bytes_eq c.bytes b.bytes ≡ false
    apart [] n c at out = cc
    apart (h ∷ hs) zero c at out = let is : h ≡ c = cc in ap (λ x. same_body x b) (sym is) ∙ (or_parts (same_body h b) (is_in hs b) out).0
    apart (h ∷ hs) (suc n) c at out = apart hs n c at (or_parts (same_body h b) (is_in hs b) out).1

    other : (n : ℕ) (c : Body) → slice_get held n ≡ Some c → bytes_eq b.bytes c.bytes ≡ false
    other n c at = bytes_differ c.bytes b.bytes (apart held n c at outside)

    NoneIn : List Told → Type 0
    NoneIn ts = list_any (same_triple (triple_on b key sig)) (flat_map heard_in ts) ≡ false

    took_of : (reader : ℕ) (claims : List Claim) (o : Option Body) (ts : List Told) → NoneIn ts → NoneIn (cons_option (option_map (λ c. took reader c claims) o) ts)
    took_of reader claims None ts rest = rest
    took_of reader claims (Some c) ts rest = rest

    heard_of : (reader n : ℕ) (k : Key) (g : Sig) (verdict : Bool) (o : Option Body) → slice_get held n ≡ o → (ts : List Told) → NoneIn ts → NoneIn (cons_option (option_map (λ c. heard reader c k g verdict) o) ts)
    heard_of reader n k g verdict None at ts rest = rest
    heard_of reader n k g verdict (Some c) at ts rest = let not_it = other n c at in rw not_it rest

    by : (e : Entry) → NoneIn (filter_map (whole held) entries) → NoneIn (filter_map (whole held) (e ∷ entries))
    by (Took reader n claims) rest = took_of reader claims (slice_get held n) (filter_map (whole held) entries) rest
    by (Heard reader n k g verdict) rest = heard_of reader n k g verdict (slice_get held n) refl (filter_map (whole held) entries) rest
