-- A full core without a base, and what its states say of its log.
use Rattle.std.proofs.Common.{◌≡◌, ℕ, true, false, Bool, List, [], ◌∷◌, ◌++◌, Option, Some, None, is_none, is_some, take, refl, sym, ◌∙◌, ap, subst, inl, inr, append_assoc, append-nil}
use Rattle.std.specs.Prelude.{All, Contains, filter, flat_map, option_map}
use Rattle.std.specs.List.{list_any}
use Rattle.std.proofs.lemmas.Bool.{cases_Bool}
use Rattle.std.proofs.lemmas.List.Elements.{All-contains, All-nil}
use Rattle.cesr_codes.specs.declared.prefix.Prefix.{Prefix}
use Rattle.validator_core.specs.Acceptance.Standing.{IsHeld}
use Rattle.claim_table.specs.CoreLaws.Standing.{HasNoClash}
use Rattle.event_body.specs.EventBody.Events.{prefix_of}
use Rattle.event_body.specs.declared.event_body.event.Event.{Event}
use Rattle.event_body.specs.declared.event_body.event.Event.TheVariants.{Icp, Rot, Ixn, Dip, Drt, Rct}
use Rattle.export_core.specs.ExportLaws.Export.{IsFamily, export, exported, messages_of}
use Rattle.key_state.proofs.Among.{parted, passing}
use Rattle.journal_views.proofs.JournalLawsLemmas.Came.{grown}
use Rattle.export_core.proofs.ExportLawsLemmas.Export.{export_is_copied}
use Rattle.export_core.proofs.ExportLawsLemmas.Signed.{messages_are_signed}
use Rattle.journal_views.proofs.JournalLawsLemmas.Numbered.{fit_parts}
use Rattle.quorum_laws.proofs.Inside.{accepted_inside}
use Rattle.journal.specs.Journal.Accepted.{accepted}
use Rattle.journal.specs.declared.journal.body.Body.{Body}
use Rattle.journal.specs.declared.journal.mode.Mode.TheVariants.{Full}
use Rattle.journal.specs.Journal.Grown.{IsGrown}
use Rattle.journal.specs.Journal.History.{bodies}
use Rattle.journal.specs.Journal.Logs.{is_of, state, stepped, takes}
use Rattle.journal.specs.Journal.Questions.{IsRegular}
use Rattle.journal.proofs.JournalLemmas.StateSteps.{state-other, state-own}
use Rattle.key_state.specs.KeyStates.{misfit}
use Rattle.key_state.specs.States.{State}
use Rattle.key_state.proofs.Same.{same_prefix_is, same_prefix_itself}
use Rattle.validator_core.specs.ValidatorCore.View.{CoreView, accepted_by, told_of}
use Rattle.export_core.specs.ExportCore.Export.{IsExport}
use Rattle.export_core.specs.ExportCore.Exported.{IsWritten}
use Rattle.export_core.specs.ExportCore.Messages.{IsExportText}
use Rattle.export_core.specs.declared.export_core.exported_events.Exported.{Exported}
use Rattle.export_core.proofs.ExportCoreLemmas.MayBeTaken.{export_taken}
use Rattle.export_core.proofs.ExportCoreLemmas.Reading.{export_held, text_reads}
use Rattle.export_core.proofs.ExportCoreLemmas.Retold.{retold}
use Rattle.export_core.proofs.ExportCoreLemmas.Wanting.{wanted}

stepped_some : (s : State) (e : Event) → is_some (stepped (Some s) e) ≡ true
stepped_some s e = elim (cases_Bool (is_none (misfit s e))) [ inl k ↦ rw k refl | inr k ↦ rw k refl ]

taken_some : (o : Option State) (e : Event) → takes o e ≡ true → is_some (stepped o e) ≡ true
taken_some None (Icp e) t = refl
taken_some None (Dip e) t = refl
taken_some None (Rot e) t = cc
taken_some None (Drt e) t = cc
taken_some None (Ixn e) t = cc
taken_some None (Rct e) t = cc
taken_some (Some s) e t = stepped_some s e

some_stays : (prefix : Prefix) (seen later : List Body) → is_some (state seen prefix) ≡ true → is_some (state (seen ++ later) prefix) ≡ true
some_stays prefix seen [] h = subst (λ xs. is_some (state xs prefix) ≡ true) (sym (append-nil seen)) h
some_stays prefix seen (b ∷ later) h =
    subst (λ xs. is_some (state xs prefix) ≡ true) (append_assoc seen (b ∷ []) later) (some_stays prefix (seen ++ b ∷ []) later (elim (cases_Bool (is_of prefix b)) [
      | inr k ↦ ap is_some (state-other seen b prefix k) ∙ h
      | inl k ↦ ap is_some (state-own seen b prefix k) ∙ of (state seen prefix) h
    ]))
  where
    of : (o : Option State) → is_some o ≡ true → is_some (stepped o b.event) ≡ true
    of None h = cc
    of (Some s) h = stepped_some s b.event

-- an identifier of a grown log has a state where it has an event
pub some_state : (log : List Body) (prefix : Prefix) → IsGrown log → list_any (is_of prefix) log ≡ true → is_some (state log prefix) ≡ true
some_state log prefix grown any =
    let q = passing (is_of prefix) log any in
    let s = parted log q.0 q.1 in
    let its : prefix_of q.0.event ≡ prefix = same_prefix_is (prefix_of q.0.event) prefix q.2 in
    let fit = fit_parts s.0 q.0 (grown s.0 s.1 q.0 s.2) in
    let here : is_some (state (s.0 ++ q.0 ∷ []) (prefix_of q.0.event)) ≡ true = ap is_some (state-own s.0 q.0 (prefix_of q.0.event) (same_prefix_itself (prefix_of q.0.event))) ∙ taken_some (state s.0 (prefix_of q.0.event)) q.0.event fit.2 in
    let there = some_stays (prefix_of q.0.event) (s.0 ++ q.0 ∷ []) s.1 here in
    subst (λ p. is_some (state log p) ≡ true) its (subst (λ xs. is_some (state xs (prefix_of q.0.event)) ≡ true) (append_assoc s.0 (q.0 ∷ []) s.1 ∙ sym s.2) there)

none_left : (q : Body → Bool) (xs : List Body) → list_any q xs ≡ false → filter q xs ≡ []
none_left q [] h = refl
none_left q (x ∷ xs) h = elim (cases_Bool (q x)) [
  | inl k ↦ (let lost : true ≡ false = rw k at h in absurd (cc lost))
  | inr k ↦ (let rest : list_any q xs ≡ false = rw k at h in rw k (none_left q xs rest))
]

none_state : (log : List Body) (prefix : Prefix) → list_any (is_of prefix) log ≡ false → state log prefix ≡ None
unfolding state
none_state log prefix h = (let none = none_left (is_of prefix) log h in rw none refl)

pub none_map : {X Y : Type 0} (f : X → Y) (o : Option X) (p : Option Y) → is_some o ≡ false → option_map f o ≡ p → p ≡ None
none_map f None p h e = sym e
none_map f (Some x) p h e = cc

pub some_map : {X Y : Type 0} (f : X → Y) (o : Option X) (p : Option Y) → is_some o ≡ true → option_map f o ≡ p → is_some p ≡ true
some_map f None p h e = cc
some_map f (Some x) p h e = ap is_some (sym e)

module _ (core : CoreView) (full : core.mode ≡ Full) (no_base : core.base ≡ 0) where
  full_log : accepted_by core ≡ accepted Full [] (told_of core)
  full_log = λ i. accepted (full i) (take (no_base i) core.held) (told_of core)

  pub core_grown : IsGrown (accepted_by core)
  core_grown = subst IsGrown (sym full_log) (grown Full (told_of core))

  -- UNKNOWN: no event of an identifier without a state
  pub unknown : (prefix : Prefix) → state (accepted_by core) prefix ≡ None → list_any (is_of prefix) (accepted_by core) ≡ false
  unknown prefix none = elim (cases_Bool (list_any (is_of prefix) (accepted_by core))) [
    | inr k ↦ k
    | inl k ↦ (let some = some_state (accepted_by core) prefix core_grown k in let lost : false ≡ true = sym (ap is_some none) ∙ some in absurd (cc lost))
  ]

  pub known : (prefix : Prefix) → is_some (state (accepted_by core) prefix) ≡ true → list_any (is_of prefix) (accepted_by core) ≡ true
  known prefix some = elim (cases_Bool (list_any (is_of prefix) (accepted_by core))) [
    | inl k ↦ k
    | inr k ↦ (let lost : false ≡ true = sym (ap is_some (none_state (accepted_by core) prefix k)) ∙ some in absurd (cc lost))
  ]

  -- EXPORT: what is written is the export, by the law
  pub is_export : (prefix : Prefix) (written : Exported) → IsWritten core prefix written → list_any (is_of prefix) (accepted_by core) ≡ true → IsExport core prefix written.text.items written.count
  unfolding export
  is_export prefix written is has =
      let its_text : IsExportText (export (told_of core) is.family) written.text.items
      = subst (λ log. IsExportText (flat_map (messages_of (told_of core) log) (exported is.family log)) written.text.items) full_log is.text_is in
      record {
        family = is.family;
        is_family = is.is_family;
        known = has;
        text_is = its_text;
        reads = text_reads (export (told_of core) is.family) written.text.items (export_held (told_of core) is.family all_held) its_text;
        signed = λ b m inside sent. let there = subst (λ log. Contains log b) full_log inside in
            let its = All-contains IsHeld (accepted Full [] (told_of core)) b log_held there in
            messages_are_signed (told_of core) b m there (wanted (accepted Full [] (told_of core)) b log_held its)
            (subst (λ log. Contains (messages_of (told_of core) log b) m) full_log sent);
        count_is = is.count_is;
        copied = λ limits refused whole clash reads. let again = retold (export (told_of core) is.family) written.text.items (export_taken (told_of core) is.family log_held)
            (export_held (told_of core) is.family all_held) its_text limits refused whole reads in (
              again.0,
              export_is_copied (told_of core) whole prefix is.family regular (subst HasNoClash full_log clash) (subst (λ log. IsFamily log prefix is.family) full_log is.is_family) again.1,
            );
      }
    where
      all_held : All IsHeld (bodies [] (told_of core))
      all_held = subst (λ n. All IsHeld (bodies (take n core.held) (told_of core))) no_base (subst (All IsHeld) is.sound.in_order is.sound.spelled)

      log_held : All IsHeld (accepted Full [] (told_of core))
      log_held = accepted_inside IsHeld Full [] (told_of core) (All-nil IsHeld) all_held

      regular : IsRegular Full [] (told_of core)
      regular = subst (λ m. IsRegular m [] (told_of core)) full (subst (λ n. IsRegular core.mode (take n core.held) (told_of core)) no_base is.sound.regular)

-- a core that differs in its list of accepted numbers alone has the same export
pub export_alike : (core : CoreView) (numbers : List ℕ) (prefix : Prefix) (text : List ℕ) (count : ℕ) → IsExport core prefix text count
    → IsExport (record core { accepted = numbers }) prefix text count
export_alike core numbers prefix text count is = record {
  family = is.family;
  is_family = is.is_family;
  known = is.known;
  text_is = is.text_is;
  reads = is.reads;
  signed = is.signed;
  count_is = is.count_is;
  copied = is.copied;
}
