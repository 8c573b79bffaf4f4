-- What is put of an event, and of the events before it.
use Rattle.std.proofs.Common.{◌≡◌, ◌+◌, ℕ, true, false, Bool, cond, List, [], ◌∷◌, ◌++◌, Some, length, map, take, drop, refl, sym, ◌∙◌, ap, subst, inl, inr, append_assoc, append-nil, length-append, arith}
use Rattle.std.specs.Prelude.{IsTrue, filter, flat_map, slice_get}
use Rattle.std.specs.BTreeMap.{BTreeMap, get, is_at}
use Rattle.std.specs.List.{list_any}
use Rattle.std.proofs.lemmas.Bool.{cases_Bool}
use Rattle.std.proofs.lemmas.List.Concat.{flat_map-append}
use Rattle.std.proofs.lemmas.List.Elements.{filter-append}
use Rattle.cesr_codes.specs.declared.prefix.Prefix.{Prefix}
use Rattle.event_body.specs.EventBody.Events.{prefix_of}
use Rattle.export_core.specs.ExportLaws.Export.{Sent, cut_claims, exported, is_of_some, messages_of, ordered, rules_under, sent_claims}
use Rattle.journal_views.proofs.JournalLawsLemmas.Numbered.{fit_parts}
use Rattle.export_core.proofs.ExportLawsLemmas.Rules.{before_there}
use Rattle.journal.specs.declared.journal.body.Body.{Body}
use Rattle.journal.specs.declared.journal.claim.Claim.{Claim}
use Rattle.journal.specs.Journal.Grown.{IsGrown, fits}
use Rattle.journal.specs.Journal.History.{claims_on, triple_of}
use Rattle.journal.specs.Journal.Logs.{before, is_of, state}
use Rattle.journal.specs.Journal.Readiness.{yes_to}
use Rattle.journal.specs.Journal.Replies.{same_claim}
use Rattle.journal.proofs.JournalLemmas.StateSteps.{state-other, state-own}
use Rattle.key_state.specs.Exposure.{own_rules, rules_of}
use Rattle.key_state.specs.Kept.{IsKept}
use Rattle.key_state.specs.Same.{are_witnesses, distinct, same_prefix}
use Rattle.key_state.proofs.Same.{same_prefix_is, same_prefix_itself}
use Rattle.validator_core.specs.ValidatorCore.View.{CoreView, accepted_by, told_of}
use Rattle.export_core.specs.ExportCore.Exported.{HasSigners, PutsAt, PutsEvent, messages_at, prefix_cmp, sent_by}
use Rattle.export_core.specs.ExportCore.Messages.{AreTexts, IsExportText, PutsCut}
use Rattle.export_core.specs.ExportCore.Signers.{own_signers, rules_by, signers_in, signers_of}
use Rattle.export_core.specs.declared.export_core.signers.Signers.{Signers}
use Rattle.export_core.proofs.ExportCoreLemmas.Following.{behind_are, own_are, own_fixed, prefix_turns, same_triples}
use Rattle.export_core.proofs.ExportCoreLemmas.Orders.{prefix_at}
use Rattle.export_core.proofs.ExportCoreLemmas.Placed.{cut_at, take_one}

-- texts of more messages
pub texts_more : (ms more : List Sent) (front rest : List ℕ) → IsExportText ms front → IsExportText more rest → IsExportText (ms ++ more) (front ++ rest)
texts_more [] more front rest a b = subst (IsExportText more) (ap (λ xs. xs ++ rest) (sym a)) b
texts_more (m ∷ ms) more front rest a b = (a.0, a.1 ++ rest, a.2, texts_more ms more a.1 rest a.3 b, ap (λ xs. xs ++ rest) a.4 ∙ append_assoc a.0 a.1 rest)

-- the texts of an event's messages
texts_of : (b : Body) (css : List (List Claim)) (text : List ℕ) → AreTexts b.bytes css text → IsExportText (map (λ claims. record { body = b; claims = claims }) css) text
texts_of b [] text are = are
texts_of b (cs ∷ css) text are = (are.0, are.1, are.2, texts_of b css are.1 are.3, are.4)

module _ (family : List Prefix) (b : Body) where
  family_is : list_any (λ q. same_prefix q (prefix_of b.event)) family ≡ is_of_some family b
  family_is = λ i. list_any (λ q. prefix_turns q (prefix_of b.event) i) family

module _ (core : CoreView) (family : List Prefix) (place : ℕ) (b : Body) (at : slice_get (accepted_by core) place ≡ Some b) (grown : IsGrown (accepted_by core)) (signers : BTreeMap Prefix Signers)
    (has : HasSigners family (take place (accepted_by core)) signers) where
  abbrev log : List Body
  log = accepted_by core

  abbrev front : List Body
  front = take place log

  abbrev its : Prefix
  its = prefix_of b.event

  fit : fits front b ≡ true
  fit = grown front (drop (place + 1) log) b (cut_at log place b at)

  under : rules_under log b ≡ own_rules (state front its) b.event
  under = ap (λ xs. own_rules (state xs its) b.event) (ap (before b) (cut_at log place b at) ∙ before_there front (drop (place + 1) log) b (fit_parts front b fit).1)

  -- OTHER: an event that isn't of the family is passed over
  pub passed_over : (old : List ℕ) → list_any (λ q. same_prefix q its) family ≡ false → PutsAt core family place b false signers old old
  passed_over old other = record {
    puts = (sym (family_is family b) ∙ other, refl);
    signers_are = λ p inside. subst (λ xs. (signers_in (get prefix_cmp signers p) ≡ signers_of (rules_of (state xs p))) × IsTrue (are_witnesses (rules_of (state xs p)).witnesses)) (sym (take_one log place b at))
        (subst (λ s. (signers_in (get prefix_cmp signers p) ≡ signers_of (rules_of s)) × IsTrue (are_witnesses (rules_of s).witnesses)) (sym (state-other front b p (not_own p inside))) (has p inside));
  }
    where
      not_own : (p : Prefix) → list_any (λ q. same_prefix q p) family ≡ true → is_of p b ≡ false
      not_own p inside = elim (cases_Bool (is_of p b)) [
        | inr k ↦ k
        | inl k ↦ (let e = same_prefix_is its p k in let yes : list_any (λ q. same_prefix q its) family ≡ true = ap (λ x. list_any (λ q. same_prefix q x) family) e ∙ inside in absurd (cc (yes, other)))
      ]

  module _ (of : list_any (λ q. same_prefix q its) family ≡ true) (own : Signers) (own_is : own ≡ own_signers (signers_in (get prefix_cmp signers its)) b.event) where
    own_rules_are : own ≡ signers_of (own_rules (state front its) b.event)
    own_rules_are = own_is ∙ ap (λ s. own_signers s b.event) (has its of).0 ∙ own_are (state front its) b.event

    triples : (c : Claim) → triple_of (rules_by own) b c ≡ triple_of (rules_under log b) b c
    triples c = ap (λ s. triple_of (rules_by s) b c) own_rules_are ∙ same_triples (own_rules (state front its) b.event) b c ∙ ap (λ r. triple_of r b c) (sym under)

    -- the claims that are sent
    pub sent_is : sent_by (told_of core) own b ≡ sent_claims (told_of core) log b
    unfolding sent_claims
    sent_is =
        let each : filter (λ c. yes_to (told_of core) (triple_of (rules_by own) b c)) (claims_on (told_of core) b) ≡ filter (λ c. yes_to (told_of core) (triple_of (rules_under log b) b c)) (claims_on (told_of core) b)
        = λ i. filter (λ c. yes_to (told_of core) (triples c i)) (claims_on (told_of core) b) in
        ap (λ claims. ordered (distinct same_claim claims)) each

    module _ (kept : IsKept b.event) where
      fixed : IsTrue (are_witnesses (own_rules (state front its) b.event).witnesses)
      fixed = own_fixed (state front its) b.event kept (fit_parts front b fit).2 (has its of).1

      pub own_witnesses : IsTrue (are_witnesses own.witnesses)
      own_witnesses = subst (λ s. IsTrue (are_witnesses s.witnesses)) (sym own_rules_are) fixed

      -- PUT: an event of the family is put
      pub put_there : (new_signers : BTreeMap Prefix Signers) → ((q : Prefix) → get prefix_cmp new_signers q ≡ cond (is_at (prefix_cmp its) q) (Some own) (get prefix_cmp signers q))
          → (old new bytes : List ℕ) (claims : List Claim) → bytes ≡ b.bytes → claims ≡ sent_by (told_of core) own b → PutsCut bytes claims old new → PutsAt core family place b true new_signers old new
      put_there new_signers updated old new bytes claims bytes_are claims_are put = record {
        puts = (
          sym (family_is family b) ∙ of,
          put.0,
          texts_of b (cut_claims (sent_claims (told_of core) log b)) put.0
              (subst (λ cs. AreTexts b.bytes (cut_claims cs) put.0) (claims_are ∙ sent_is) (subst (λ bs. AreTexts bs (cut_claims claims) put.0) bytes_are put.1)),
          put.2,
        );
        signers_are = λ p inside. subst (λ xs. (signers_in (get prefix_cmp new_signers p) ≡ signers_of (rules_of (state xs p))) × IsTrue (are_witnesses (rules_of (state xs p)).witnesses)) (sym (take_one log place b at))
            (elim (cases_Bool (same_prefix its p)) as (λ _. (signers_in (get prefix_cmp new_signers p) ≡ signers_of (rules_of (state (front ++ b ∷ []) p))) × IsTrue (are_witnesses (rules_of (state (front ++ b ∷ []) p)).witnesses)) [
              | inl k ↦ (let e = same_prefix_is its p k in subst (λ p. (signers_in (get prefix_cmp new_signers p) ≡ signers_of (rules_of (state (front ++ b ∷ []) p))) × IsTrue (are_witnesses (rules_of (state (front ++ b ∷ []) p)).witnesses)) e (
                ap signers_in (updated its ∙ ap (λ t. cond t (Some own) (get prefix_cmp signers its)) (prefix_at its its ∙ same_prefix_itself its)) ∙ own_rules_are ∙ sym behind,
                subst (λ ws. IsTrue (are_witnesses ws)) (ap (λ s. s.witnesses) (sym behind)) fixed,
              ))
              | inr k ↦ (let now = has p inside in let same = state-other front b p k in (
                ap signers_in (updated p ∙ ap (λ t. cond t (Some own) (get prefix_cmp signers p)) (prefix_at its p ∙ k)) ∙ now.0 ∙ ap (λ s. signers_of (rules_of s)) (sym same),
                subst (λ s. IsTrue (are_witnesses (rules_of s).witnesses)) (sym same) now.1,
              ))
            ]);
      }
        where
          behind : signers_of (rules_of (state (front ++ b ∷ []) its)) ≡ signers_of (own_rules (state front its) b.event)
          behind = ap (λ o. signers_of (rules_of o)) (state-own front b its (same_prefix_itself its)) ∙ behind_are (state front its) b.event (fit_parts front b fit).2

-- MORE: the messages of the events before, and of one more
module _ (core : CoreView) (family : List Prefix) (seen : List Body) (b : Body) where
  pub more_put : (old new : List ℕ) (is_put : Bool) → IsExportText (messages_at core family seen) old → PutsEvent core family b is_put old new → IsExportText (messages_at core family (seen ++ b ∷ [])) new
  more_put old new true are put =
      let of = put.0 in
      let longer : exported family (seen ++ b ∷ []) ≡ exported family seen ++ b ∷ [] = filter-append (is_of_some family) seen (b ∷ []) ∙ (rw of refl) in
      let all = flat_map-append (messages_of (told_of core) (accepted_by core)) (exported family seen) (b ∷ []) ∙ ap (λ ms. messages_at core family seen ++ ms) (append-nil (messages_of (told_of core) (accepted_by core) b)) in
      subst (λ ms. IsExportText ms new) (sym (ap (flat_map (messages_of (told_of core) (accepted_by core))) longer ∙ all))
      (subst (IsExportText (messages_at core family seen ++ messages_of (told_of core) (accepted_by core) b)) (sym put.3) (texts_more (messages_at core family seen) (messages_of (told_of core) (accepted_by core) b) old put.1 are put.2))
  more_put old new false are put =
      let of = put.0 in
      let same : exported family (seen ++ b ∷ []) ≡ exported family seen = filter-append (is_of_some family) seen (b ∷ []) ∙ (rw of (append-nil (exported family seen))) in
      subst (λ ms. IsExportText ms new) (sym (ap (flat_map (messages_of (told_of core) (accepted_by core))) same)) (subst (IsExportText (messages_at core family seen)) (sym put.1) are)

  -- and they are counted
  pub more_counted : (old new : List ℕ) (is_put : Bool) → PutsEvent core family b is_put old new → length (exported family (seen ++ b ∷ [])) ≡ length (exported family seen) + (cond is_put 1 0)
  more_counted old new true put =
      let of = put.0 in
      let longer : exported family (seen ++ b ∷ []) ≡ exported family seen ++ b ∷ [] = filter-append (is_of_some family) seen (b ∷ []) ∙ (rw of refl) in
      ap length longer ∙ length-append (exported family seen) (b ∷ [])
  more_counted old new false put =
      let of = put.0 in
      let same : exported family (seen ++ b ∷ []) ≡ exported family seen = filter-append (is_of_some family) seen (b ∷ []) ∙ (rw of (append-nil (exported family seen))) in
      ap length same ∙ omega arith
