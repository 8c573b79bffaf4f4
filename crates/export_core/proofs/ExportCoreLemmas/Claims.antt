-- The claims that are sent, found by hints and by the set of good signatures, are those of the definition.
use Rattle.std.proofs.Common.{◌≡◌, ◌||◌, ◌&&◌, ◌==◌, ℕ, Bool, true, false, List, [], ◌∷◌, Option, Some, None, refl, sym, ◌∙◌, ap, inl, inr, if◌then◌else◌}
use Rattle.std.specs.Prelude.{bytes_eq, filter_map, flat_map, option_map, slice_get, IfOk, Result, Ok, Err}
use Rattle.std.specs.BTreeSet.{contains}
use Rattle.std.specs.List.{cons_option, list_any}
use Rattle.std.proofs.lemmas.Bool.{cases_Bool}
use Rattle.std.proofs.lemmas.List.Concat.{flat_map-append}
use Rattle.std.proofs.lemmas.List.Elements.{filter_map-append}
use Rattle.std.proofs.lemmas.List.Folds.{list_any-append}
use Rattle.std.specs.Cmp.Lexicographic.{bytes_decides}
use Rattle.cesr_codes.specs.declared.key.Key.{Key}
use Rattle.cesr_codes.specs.declared.sig.Sig.{Sig}
use Rattle.claim_table.specs.declared.claim_table.signature.Signature.{Signature}
use Rattle.claim_table.specs.CoreLaws.ClaimRows.{triple_on}
use Rattle.journal.specs.EventRules.Claims.{is_yes}
use Rattle.journal.specs.declared.journal.body.Body.{Body}
use Rattle.journal.specs.declared.journal.claim.Claim.{Claim}
use Rattle.journal.specs.declared.journal.entry.Entry.{Entry}
use Rattle.journal.specs.declared.journal.entry.Entry.TheVariants.{Took, Heard}
use Rattle.journal.specs.Journal.History.{Triple, claimed_key, claimed_sig, heard, said_yes, same_triple, took, triple_of, yes_in}
use Rattle.journal.specs.Journal.Journals.{told_by, whole}
use Rattle.journal.specs.Journal.Logs.{same_body}
use Rattle.journal.specs.Journal.Readiness.{yes_to}
use Rattle.journal.proofs.JournalLemmas.Different.{Differ}
use Rattle.journal.proofs.JournalLemmas.Places.{others_differ}
use Rattle.key_state.specs.Same.{same_key, same_sig}
use Rattle.key_state.proofs.Same.{numbers, number_itself, same_key_is, same_key_itself, same_sig_is, same_sig_itself}
use Rattle.export_core.specs.ExportCore.Came.{HasYes, is_signature, signature_cmp, yes_of}
use Rattle.export_core.specs.ExportCore.GoodClaims.{is_good_by}
use Rattle.export_core.specs.ExportCore.Signers.{rules_by}
use Rattle.export_core.specs.declared.export_core.signers.Signers.{Signers}
use Rattle.std.specs.BTreeSet.{BTreeSet}

pub if_ok_so : {T E : Type 0} (r : Result T E) (P Q : T → Type 0) → IfOk r P → ((x : T) → P x → Q x) → IfOk r Q
if_ok_so (Ok x) P Q h so = so x h
if_ok_so (Err e) P Q h so = tt

key_turns : (k l : Key) → same_key k l ≡ same_key l k
key_turns k l = elim (cases_Bool (same_key k l)) [
  | inl h ↦ (let e = same_key_is k l h in ap (λ x. same_key x l) e ∙ ap (same_key l) (sym e))
  | inr h ↦ h ∙ sym (elim (cases_Bool (same_key l k)) as (λ _. same_key l k ≡ false) [
    | inl g ↦ (let e = same_key_is l k g in let yes : same_key k l ≡ true = ap (λ x. same_key x l) (sym e) ∙ same_key_itself l in absurd (cc (yes, h)))
    | inr g ↦ g
  ])
]

sig_turns : (k l : Sig) → same_sig k l ≡ same_sig l k
sig_turns k l = elim (cases_Bool (same_sig k l)) [
  | inl h ↦ (let e = same_sig_is k l h in ap (λ x. same_sig x l) e ∙ ap (same_sig l) (sym e))
  | inr h ↦ h ∙ sym (elim (cases_Bool (same_sig l k)) as (λ _. same_sig l k ≡ false) [
    | inl g ↦ (let e = same_sig_is l k g in let yes : same_sig k l ≡ true = ap (λ x. same_sig x l) (sym e) ∙ same_sig_itself l in absurd (cc (yes, h)))
    | inr g ↦ g
  ])
]

three : (a b c : Bool) → (a && (b && c)) ≡ ((a && b && c) || false)
three true true true = refl
three true true false = refl
three true false c = refl
three false b c = refl

module _ (held : List Body) (differ : Differ same_body held) (n : ℕ) (b : Body) (at : slice_get held n ≡ Some b) where
  number_body : (m : ℕ) (c : Body) → slice_get held m ≡ Some c → (m == n) ≡ bytes_eq b.bytes c.bytes
  number_body m c there = elim (cases_Bool (m == n)) [
    | inl k ↦ (let one : Some c ≡ Some b = sym there ∙ ap (slice_get held) (numbers m n k) ∙ at in let is : c ≡ b = cc one in
        k ∙ sym ((bytes_decides b.bytes c.bytes).1 (ap (λ x. x.bytes) (sym is))))
    | inr k ↦ k ∙ sym (others_differ held differ n b at m c (λ e. (let yes : (m == n) ≡ true = ap (λ x. x == n) e ∙ number_itself n in absurd (cc (yes, k)))) there)
  ]

  module _ (key : Key) (sig : Sig) where
    abbrev t : Triple
    t = triple_on b key sig

    abbrev s : Signature
    s = record { body = n; key = key; sig = sig }

    took_one : (reader : ℕ) (claims : List Claim) (o : Option Body) → false ≡ list_any (same_triple t) (flat_map yes_in (cons_option (option_map (λ c. took reader c claims) o) []))
    took_one reader claims None = refl
    took_one reader claims (Some c) = refl

    heard_one : (reader m : ℕ) (k : Key) (g : Sig) (v : Bool) (o : Option Body) → slice_get held m ≡ o
        → is_signature (if v then Some (record { body = m; key = k; sig = g }) else None) s ≡ list_any (same_triple t) (flat_map yes_in (cons_option (option_map (λ c. heard reader c k g v) o) []))
    heard_one reader m k g false None e = refl
    heard_one reader m k g false (Some c) e = refl
    heard_one reader m k g true None e = elim (cases_Bool (m == n)) [
      | inl h ↦ (let lost : None ≡ Some b = sym e ∙ ap (slice_get held) (numbers m n h) ∙ at in absurd (cc lost))
      | inr h ↦ rw h refl
    ]
    heard_one reader m k g true (Some c) e = (λ i. number_body m c e i && (key_turns k key i && sig_turns g sig i)) ∙ three (bytes_eq b.bytes c.bytes) (same_key key k) (same_sig sig g)

    one : (e : Entry) → is_signature (yes_of e) s ≡ list_any (same_triple t) (flat_map yes_in (cons_option (whole held e) []))
    one (Took reader m claims) = took_one reader claims (slice_get held m)
    one (Heard reader m k g v) = heard_one reader m k g v (slice_get held m) refl

    -- SAID: a verdict in the journal says yes of the signature where it says so of the triple
    said_there : (entries : List Entry) → list_any (λ e. is_signature (yes_of e) s) entries ≡ said_yes (told_by held entries) t
    unfolding said_yes told_by
    said_there [] = refl
    said_there (e ∷ entries) =
        (λ i. one e i || said_there entries i)
        ∙ sym (list_any-append (same_triple t) (flat_map yes_in (cons_option (whole held e) [])) (flat_map yes_in (filter_map (whole held) entries)))
        ∙ ap (list_any (same_triple t)) (sym (flat_map-append yes_in (cons_option (whole held e) []) (filter_map (whole held) entries)) ∙ ap (flat_map yes_in) (sym (filter_map-append (whole held) (e ∷ []) entries)))

  -- GOOD: a claim is good by the set where its triple has a yes
  module _ (entries : List Entry) (good : BTreeSet Signature) (yes : HasYes entries good) (own : Signers) where
    pub good_there : (c : Claim) → is_good_by good own n c ≡ yes_to (told_by held entries) (triple_of (rules_by own) b c)
    good_there c = by (claimed_key (rules_by own) c)
      where
        by : (o : Option Key) → is_yes (λ key sig. contains signature_cmp good (record { body = n; key = key; sig = sig })) o (claimed_sig c)
            ≡ yes_to (told_by held entries) (option_map (λ k. record { body = b.bytes; key = k; sig = claimed_sig c }) o)
        by None = refl
        by (Some k) = yes (record { body = n; key = k; sig = claimed_sig c }) ∙ said_there k (claimed_sig c) entries
