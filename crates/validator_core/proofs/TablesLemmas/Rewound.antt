-- Tables whose lists are cut back.
use Rattle.std.proofs.Common.{◌≡◌, ℕ, ◌<◌, ◌≤◌, true, List, length, take, min, sym, ◌∙◌, ap, subst, Some, None, nat_le, nat_lt, Bool}
use Rattle.std.specs.Prelude.{◌&&◌, if◌then◌else◌, slice_get}
use Rattle.std.proofs.lemmas.List.{length-take}
use Rattle.validator_core.specs.Tables.AcceptedLog.Values.{Log, rewound as log_rewound}
use Rattle.claim_table.specs.ClaimTable.Rows.{is_raised}
use Rattle.claim_table.specs.ClaimTable.Table.{KeepsPending, Table}
use Rattle.event_body.specs.declared.event_body.event.Event.{Event}
use Rattle.escrow.specs.Escrow.Escrow.{Escrow, held as held_by}
use Rattle.journal.specs.declared.journal.body.Body.{Body}
use Rattle.journal.specs.declared.journal.entry.Entry.{Entry}
use Rattle.validator_core.specs.declared.tables.mark.Mark.{Mark}
use Rattle.validator_core.specs.declared.tables.name.Name.{Name}
use Rattle.validator_core.specs.declared.tables.name.SealKey.{SealKey}
use Rattle.validator_core.specs.declared.tables.name.ClaimKey.{ClaimKey}
use Rattle.validator_core.specs.Tables.Hints.{AreHinted, IsPending}
use Rattle.validator_core.specs.Tables.Inside.{paired}
use Rattle.validator_core.specs.Tables.View.{View, number_of, rewound}
use Rattle.validator_core.proofs.TablesLemmas.Hints.{hinted_cut}
use Rattle.validator_core.proofs.TablesLemmas.Pairs.{paired-take}

module _ (n : ℕ) (bodies fewer : List (List ℕ)) (events less : List Event) (even : length bodies ≡ length events) (b : fewer ≡ take n bodies) (e : less ≡ take n events) where
  pub cut_even : length fewer ≡ length less
  cut_even = ap length b ∙ length-take n bodies ∙ ap (min n) even ∙ sym (length-take n events) ∙ ap length (sym e)

  pub cut_pairs : paired fewer less ≡ take n (paired bodies events)
  cut_pairs = (λ i. paired (b i) (e i)) ∙ paired-take n bodies events even

pub cut_hinted : {held : List Body} {entries : List Entry} {numbers : List ℕ} {released : ℕ} {w : Escrow} {names told places : Name → List ℕ} {came : ClaimKey → List ℕ} {seals : SealKey → List ℕ} {clash : Bool} → AreHinted held entries numbers released w names told places came seals clash
    → (m : Mark) (held_new : List Body) (entries_new : List Entry) (numbers_new : List ℕ) (new : Escrow) (count : ℕ) → held_new ≡ take m.bodies held → entries_new ≡ take m.entries entries → numbers_new ≡ take m.accepted numbers
    → ((i : ℕ) (e : Entry) → slice_get (take m.entries entries) i ≡ Some e → number_of e < m.bodies) → ((i n : ℕ) → slice_get (take m.accepted numbers) i ≡ Some n → n < m.bodies) → released ≤ m.accepted
    → count ≡ length held → ((n : ℕ) → held_by n new ≡ (if nat_le m.bodies n && nat_lt n count then None else held_by n w)) → AreHinted held_new entries_new numbers_new released new names told places came seals clash
cut_hinted {held = held} {w = w} h m held_new entries_new numbers_new new count h_is e_is n_is entries_low numbers_low released_low count_is left =
    rw (h_is, e_is, n_is) (hinted_cut h m.bodies m.entries m.accepted new entries_low numbers_low released_low
    (subst (λ k. (n : ℕ) → held_by n new ≡ (if nat_le m.bodies n && nat_lt n k then None else held_by n w)) count_is left))

pub cut_pending : (n : ℕ) (old new : Table) → KeepsPending n old.rows old.pending → new.rows ≡ take n old.rows → new.pending ≡ old.pending → IsPending new
cut_pending n old new keeps rows pending s is =
    let kept : is_raised (take n old.rows) s ≡ true = subst (KeepsPending n old.rows) (sym pending ∙ is) keeps in
    ap (λ rs. is_raised rs s) rows ∙ kept

pub view_cut : (v now : View) (m : Mark) (held : List Body) (entries : List Entry) (log : Log) (claims : Table) → v ≡ now → held ≡ take m.bodies v.held → entries ≡ take m.entries v.entries → log ≡ log_rewound m.accepted v.log
    → claims.rows ≡ take m.claims v.claims.rows → claims.pending ≡ v.claims.pending
    → (let cut : View = record { held = held; entries = entries; log = log; claims = claims; released = v.released } in cut) ≡ rewound m now
view_cut v now m held entries log claims same h e l r p =
    (λ i. record { held = h i; entries = e i; log = l i; claims = record { rows = r i; pending = p i }; released = v.released }) ∙ ap (rewound m) same
