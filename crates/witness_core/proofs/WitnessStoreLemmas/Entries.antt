-- What one more entry makes of what is stored.
use Rattle.std.proofs.Common.{◌≡◌, ◌≤◌, ℕ, List, [], ◌∷◌, ◌++◌, length, take, drop, map, sym, ◌∙◌, ap, arith, length-append, append_assoc, append-nil}
use Rattle.journal.specs.declared.journal.body.Body.{Body}
use Rattle.journal.specs.declared.journal.mode.Mode.{Mode}
use Rattle.journal.specs.Journal.History.{Told}
use Rattle.journal.proofs.JournalLemmas.Accepting.{accepted_extends}
use Rattle.validator_core.specs.ValidatorCore.View.{CoreView, Follows, told_of}
use Rattle.witness_core.specs.WitnessStore.Histories.{History, history_of, log_in, told_more}
use Rattle.witness_core.specs.WitnessStore.Payloads.{payload_now}
use Rattle.witness_core.specs.WitnessStore.Storing.{IsOnWay, by_entries, missing, newly}
use Rattle.witness_core.proofs.WitnessStoreLemmas.Lists.{take_within}
use Rattle.witness_core.proofs.WitnessStoreLemmas.Stored.{missing_none}

-- a core that follows another goes by what that went by, and what was told since
pub history_follows : (old new : CoreView) (t : Told) → Follows old new → told_of new ≡ told_of old ++ t ∷ [] → history_of new ≡ told_more (history_of old) t
history_follows old new t f told = λ i. record { mode = f.mode i; based = f.base i; base = f.bodies i; told = told i }

pub history_same : (old new : CoreView) → Follows old new → told_of new ≡ told_of old → history_of new ≡ history_of old
history_same old new f told = λ i. record { mode = f.mode i; based = f.base i; base = f.bodies i; told = told i }

-- with one more entry
pub by_entries-push : (mode : Mode) (base : List Body) (earlier xs : List Told) (t : Told) → by_entries mode base earlier (xs ++ t ∷ []) ≡ by_entries mode base earlier xs ++ newly mode base (earlier ++ xs) t
by_entries-push mode base earlier [] t = append-nil (newly mode base earlier t) ∙ ap (λ l. newly mode base l t) (sym (append-nil earlier))
by_entries-push mode base earlier (x ∷ xs) t =
    ap (λ l. newly mode base earlier x ++ l) (by_entries-push mode base (earlier ++ x ∷ []) xs t)
    ∙ sym (append_assoc (newly mode base earlier x) (by_entries mode base (earlier ++ x ∷ []) xs) (newly mode base ((earlier ++ x ∷ []) ++ xs) t))
    ∙ ap (λ l. by_entries mode base earlier (x ∷ xs) ++ newly mode base l t) (append_assoc earlier (x ∷ []) xs)

module _ (h : History) (t : Told) where
  -- what was accepted stays, and more comes behind it
  pub log_more : (more : List Body) × (log_in (told_more h t) ≡ log_in h ++ more)
  log_more = accepted_extends h.mode h.base h.told (t ∷ [])

  pub log_longer : length (log_in h) ≤ length (log_in (told_more h t))
  log_longer = omega (arith, ap length log_more.1, length-append (log_in h) log_more.0)

  -- ENTRY: where all was stored, the list lacks what the entry makes accepted
  pub on_way_more : (list : List (List ℕ)) → length list ≡ length (log_in h) → IsOnWay h list → IsOnWay (told_more h t) list
  on_way_more list all way = record {
    front = omega (arith, all, log_longer);
    based = way.based;
    texts = way.texts;
    read = way.read ∙ ap (map (λ (b : Body). b.bytes)) (sym (ap (take (length list)) log_more.1 ∙ take_within (log_in h) log_more.0 (length list) way.front));
    all = (λ i. (sym (append-nil (drop h.based list)) ∙ ap (λ l. drop h.based list ++ l) (sym (missing_none h list all)) ∙ way.all) i ++ new i)
        ∙ sym (by_entries-push h.mode h.base [] h.told t);
  }
    where
      new : missing (told_more h t) list ≡ newly h.mode h.base h.told t
      new = ap (λ n. map (payload_now (h.told ++ t ∷ []) (log_in (told_more h t))) (drop n (log_in (told_more h t)))) all
