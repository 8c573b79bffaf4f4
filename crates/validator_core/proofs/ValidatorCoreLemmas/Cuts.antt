-- Tables that are cut back to a mark are as they were.
use Rattle.std.proofs.Common.{◌≡◌, ℕ, ◌<◌, Bool, true, false, ◌||◌, List, [], ◌∷◌, length, map, Option, Some, None, refl, sym, ◌∙◌, ap, subst, arith, if◌then◌else◌}
use Rattle.std.proofs.Math.Seq.{take-append_seam, take-length}
use Rattle.std.proofs.lemmas.List.{length-map}
use Rattle.std.specs.Prelude.{All}
use Rattle.std.specs.List.{list_any}
use Rattle.validator_core.specs.Acceptance.Standing.{Extends, Hears, AreSoundTables}
use Rattle.validator_core.proofs.AcceptanceLemmas.Rewound.{extends_itself, extends_then, is_cut, rewound_is}
use Rattle.claim_table.proofs.CoreLawsLemmas.Entries.{all_from}
use Rattle.claim_table.specs.declared.claim_table.row.Row.{Row}
use Rattle.claim_table.specs.declared.claim_table.signature.Signature.{Signature}
use Rattle.claim_table.specs.ClaimTable.Rows.{heard, is_of, is_raised, same_signature, signature_of, unheard, with_verdict}
use Rattle.claim_table.specs.ClaimTable.Table.{KeepsPending}
use Rattle.validator_core.specs.Tables.View.{View, IsCut, mark_of, number_of, rewound, with_claims}

-- TOOK: with no verdict pending
module _ (old new : View) (stands : AreSoundTables old) (idle : old.claims.pending ≡ None) (left : old.released ≡ length old.log.numbers) (more : Extends old new) where
  pub cut_took : IsCut (mark_of old) new
  cut_took = is_cut old new stands (omega (arith, left)) (subst (KeepsPending (length old.claims.rows) new.claims.rows) (sym (more.pending ∙ idle)) tt) more

  pub back_took : rewound (mark_of old) new ≡ old
  back_took = rewound_is old new more

-- a verdict raises no signature and lowers none
raised_heard : (s : Signature) (v : Option Bool) (rows : List Row) → list_any (is_of s) (map (with_verdict s v) rows) ≡ list_any (is_of s) rows
raised_heard s v [] = refl
raised_heard s v (r ∷ rows) =
    let here : is_of s (with_verdict s v r) ≡ is_of s r = ap (λ c. same_signature (signature_of c) s) (kept (is_of s r)) in
    let ih = raised_heard s v rows in
    λ i. here i || ih i
  where
    kept : (p : Bool) → (if p then record { claimed = r.claimed; verdict = v } else r).claimed ≡ r.claimed
    kept true = refl
    kept false = refl

-- HEARD: the tables with a verdict that may be taken back
module _ (s : Signature) (verdict : Bool) (reader : ℕ) (old between new : View) (stands : AreSoundTables old) (idle : old.claims.pending ≡ None) (left : old.released ≡ length old.log.numbers)
    (raised : is_raised old.claims.rows s ≡ true) (hears : Hears s verdict reader old between) (more : Extends between new) where
  abbrev begun : View
  begun = with_claims (record { rows = heard s verdict old.claims.rows; pending = Some s }) old

  begun_extends : Extends begun between
  begun_extends = subst (Extends begun) (sym hears.is)
      (record { held = take-length old.held; entries = take-append_seam old.entries _; log = (extends_itself old stands).log; rows = take-length (heard s verdict old.claims.rows); pending = refl; released = refl })

  all_more : Extends begun new
  all_more = extends_then begun between new begun_extends more

  same_mark : mark_of begun ≡ mark_of old
  same_mark = ap (λ n. record { bodies = length old.held; entries = length old.entries; accepted = length old.log.numbers; claims = n }) (length-map old.claims.rows (with_verdict s (Some verdict)))

  cut_begun : IsCut (mark_of begun) new
  cut_begun = record {
    entries_held = subst (All (λ e. number_of e < length old.held)) (sym all_more.entries) (all_from (λ e. number_of e < length old.held) old.entries stands.entries_held);
    accepted_held = subst (All (λ n. n < length old.held)) (sym (ap (λ l. l.numbers) all_more.log.back)) (all_from (λ n. n < length old.held) old.log.numbers stands.accepted_held);
    released_held = omega (arith, left, all_more.released);
    pending_held = subst (KeepsPending (length (heard s verdict old.claims.rows)) new.claims.rows) (sym all_more.pending)
        (ap (λ rows. is_raised rows s) all_more.rows ∙ raised_heard s (Some verdict) old.claims.rows ∙ raised);
  }

  pub cut_heard : IsCut (mark_of old) new
  cut_heard = subst (λ m. IsCut m new) same_mark cut_begun

  pub back_heard : rewound (mark_of old) new ≡ begun
  back_heard = ap (λ m. rewound m new) (sym same_mark) ∙ rewound_is begun new all_more

  -- and once that is taken back
  pub unheard_is : unheard s (heard s verdict old.claims.rows) ≡ old.claims.rows
  unheard_is = ap (λ (v : View). unheard s v.claims.rows) (sym hears.is) ∙ hears.back

  pub undone : with_claims (record { rows = unheard s (heard s verdict old.claims.rows); pending = None }) begun ≡ old
  undone = λ i. with_claims (record { rows = unheard_is i; pending = idle' i }) old
    where
      idle' : None ≡ old.claims.pending
      idle' = sym idle
