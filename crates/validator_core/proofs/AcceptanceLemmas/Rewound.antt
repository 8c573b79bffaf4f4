-- Tables that have grown are cut back to what they were.
use Rattle.std.proofs.Common.{◌≡◌, ◌<◌, ◌≤◌, List, [], ◌∷◌, ◌++◌, length, refl, sym, ◌∙◌, ap, subst}
use Rattle.std.proofs.Math.Seq.{take-append_seam, take-length}
use Rattle.std.specs.Prelude.{All, take}
use Rattle.journal.specs.declared.journal.body.Body.{Body}
use Rattle.journal.specs.declared.journal.entry.Entry.{Entry}
use Rattle.claim_table.proofs.CoreLawsLemmas.Entries.{all_from}
use Rattle.validator_core.proofs.TablesLemmas.AcceptedLogLemmas.Extensions.{extends_refl, extends_trans}
use Rattle.claim_table.specs.declared.claim_table.claimed.Claimed.{Claimed}
use Rattle.claim_table.specs.declared.claim_table.row.Row.{Row}
use Rattle.claim_table.specs.ClaimTable.Rows.{raised, raised_all}
use Rattle.claim_table.specs.ClaimTable.Table.{KeepsPending}
use Rattle.validator_core.specs.Tables.View.{View, IsCut, mark_of, number_of, rewound, with_rows}
use Rattle.validator_core.specs.Acceptance.Standing.{Extends, AreSoundTables}
use Rattle.validator_core.specs.Acceptance.Taken.{with_entry}

-- the front of a front is a front
take_front : {X : Type 0} (xs ys zs : List X) → take (length xs) ys ≡ xs → take (length ys) zs ≡ ys → take (length xs) zs ≡ xs
take_front [] ys zs f g = refl
take_front (x ∷ xs) [] zs f g = cc
take_front (x ∷ xs) (y ∷ ys) [] f g = cc
take_front (x ∷ xs) (y ∷ ys) (z ∷ zs) f g =
    let here : z ≡ x = cc in
    let left : take (length xs) ys ≡ xs = cc in
    let right : take (length ys) zs ≡ ys = cc in
    ap (λ w. w ∷ take (length xs) zs) here ∙ ap (λ l. x ∷ l) (take_front xs ys zs left right)

-- BACK: the tables that were
pub rewound_is : (old new : View) → Extends old new → rewound (mark_of old) new ≡ old
rewound_is old new more = λ i. record {
  held = more.held i;
  entries = more.entries i;
  log = more.log.back i;
  claims = record { rows = more.rows i; pending = more.pending i };
  released = more.released i;
}

-- and what is left speaks of bodies that are left
pub is_cut : (old new : View) → AreSoundTables old → old.released ≤ length old.log.numbers → KeepsPending (length old.claims.rows) new.claims.rows new.claims.pending → Extends old new → IsCut (mark_of old) new
is_cut old new is released pending more = record {
  entries_held = subst (All (λ e. number_of e < length old.held)) (sym more.entries) (all_from (λ e. number_of e < length old.held) old.entries is.entries_held);
  accepted_held = subst (All (λ n. n < length old.held)) (sym (ap (λ l. l.numbers) more.log.back)) (all_from (λ n. n < length old.held) old.log.numbers is.accepted_held);
  released_held = subst (λ k. k ≤ length old.log.numbers) (sym more.released) released;
  pending_held = pending;
}

-- ITSELF: nothing has come
pub extends_itself : (v : View) → AreSoundTables v → Extends v v
extends_itself v is = record {
  held = take-length v.held;
  entries = take-length v.entries;
  log = extends_refl v.log (is.log.places ∙ sym is.log.numbers);
  rows = take-length v.claims.rows;
  pending = refl;
  released = refl;
}

-- THEN: more has come behind it
pub extends_then : (u v w : View) → Extends u v → Extends v w → Extends u w
extends_then u v w first next = record {
  held = take_front u.held v.held w.held first.held next.held;
  entries = take_front u.entries v.entries w.entries first.entries next.entries;
  log = extends_trans u.log v.log w.log first.log next.log;
  rows = take_front u.claims.rows v.claims.rows w.claims.rows first.rows next.rows;
  pending = next.pending ∙ first.pending;
  released = next.released ∙ first.released;
}

pub raised_behind : (rows : List Row) (cs : List Claimed) → take (length rows) (raised_all rows cs) ≡ rows
raised_behind rows [] = take-length rows
raised_behind rows (c ∷ cs) = take_front rows (raised rows c) (raised_all (raised rows c) cs) (take-append_seam rows _) (raised_behind (raised rows c) cs)

-- a body, an entry, claims
pub extends_held : (v : View) (b : Body) → AreSoundTables v → Extends v (record v { held = v.held ++ b ∷ [] })
extends_held v b is = record { held = take-append_seam v.held (b ∷ []); entries = take-length v.entries; log = (extends_itself v is).log; rows = take-length v.claims.rows; pending = refl; released = refl }

-- behind tables that extend others, an entry and claims
pub extends_told : (u v : View) (e : Entry) → Extends u v → Extends u (with_entry e v)
extends_told u v e more = record {
  held = more.held;
  entries = take_front u.entries v.entries (v.entries ++ e ∷ []) more.entries (take-append_seam v.entries (e ∷ []));
  log = more.log;
  rows = more.rows;
  pending = more.pending;
  released = more.released;
}

pub extends_claimed : (u v : View) (cs : List Claimed) → Extends u v → Extends u (with_rows (raised_all v.claims.rows cs) v)
extends_claimed u v cs more = record {
  held = more.held;
  entries = more.entries;
  log = more.log;
  rows = take_front u.claims.rows v.claims.rows (raised_all v.claims.rows cs) more.rows (raised_behind v.claims.rows cs);
  pending = more.pending;
  released = more.released;
}
