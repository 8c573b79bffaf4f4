-- Where the lists end, and tables with other claims.
use Rattle.std.proofs.Common.{◌≡◌, ℕ, ◌<◌, ◌≤◌, true, List, length, refl, sym, ◌∙◌, ap, subst, Option, Some, None}
use Rattle.std.specs.Prelude.{All, slice_get}
use Rattle.std.proofs.Math.Seq.{take-length}
use Rattle.claim_table.proofs.CoreLawsLemmas.Entries.{all_from}
use Rattle.claim_table.specs.declared.claim_table.row.Row.{Row}
use Rattle.claim_table.specs.declared.claim_table.signature.Signature.{Signature}
use Rattle.claim_table.specs.ClaimTable.Rows.{is_raised}
use Rattle.claim_table.specs.ClaimTable.Table.{KeepsPending, Table}
use Rattle.journal.specs.declared.journal.entry.Entry.{Entry}
use Rattle.validator_core.specs.declared.tables.mark.Mark.{Mark}
use Rattle.validator_core.specs.Tables.Hints.{IsPending}
use Rattle.validator_core.specs.Tables.View.{IsCut, View, mark_of, number_of, with_claims}

pub mark_is : (v : View) (bodies entries accepted claims : ℕ) → bodies ≡ length v.held → entries ≡ length v.entries → accepted ≡ length v.log.numbers → claims ≡ length v.claims.rows
    → (let m : Mark = record { bodies = bodies; entries = entries; accepted = accepted; claims = claims } in m) ≡ mark_of v
mark_is v bodies entries accepted claims b e a c = λ i. record { bodies = b i; entries = e i; accepted = a i; claims = c i }

keeps : (rows : List Row) (p : Option Signature) → ((s : Signature) → p ≡ Some s → is_raised rows s ≡ true) → KeepsPending (length rows) rows p
keeps rows None h = tt
keeps rows (Some s) h = ap (λ rs. is_raised rs s) (take-length rows) ∙ h s refl

-- the whole lists are cut nowhere
pub whole_is_cut : (v : View) → ((i : ℕ) (e : Entry) → slice_get v.entries i ≡ Some e → number_of e < length v.held) → ((i n : ℕ) → slice_get v.log.numbers i ≡ Some n → n < length v.held)
    → v.released ≤ length v.log.numbers → IsPending v.claims → IsCut (mark_of v) v
whole_is_cut v entries accepted released pending = record {
  entries_held = subst (All (λ e. number_of e < length v.held)) (sym (take-length v.entries)) (all_from (λ e. number_of e < length v.held) v.entries entries);
  accepted_held = subst (All (λ n. n < length v.held)) (sym (take-length v.log.numbers)) (all_from (λ n. n < length v.held) v.log.numbers accepted);
  released_held = released;
  pending_held = keeps v.claims.rows v.claims.pending pending;
}

pub table_is : (t : Table) (rows : List Row) (p : Option Signature) → t.rows ≡ rows → t.pending ≡ p → t ≡ record { rows = rows; pending = p }
table_is t rows p r q = λ i. record { rows = r i; pending = q i }

pub with_new : (v now : View) (t u : Table) → v ≡ now → t ≡ u → with_claims t v ≡ with_claims u now
with_new v now t u same is = λ i. with_claims (is i) (same i)
