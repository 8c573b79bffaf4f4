use Rattle.std.proofs.Common.{◌≡◌, ◌<◌, ◌+◌, ◌-◌, ◌^◌, ◌||◌, ◌&&◌, ◌++◌, ◌∷◌, [], length, refl, sym, subst, ◌∙◌, ap, arith, rules}
use Rattle.std.specs.Prelude.{Contains, is_some, not}
use Rattle.std.specs.BTreeMap.{is_at}
use Rattle.std.specs.Option.{option_flatten}
use Rattle.std.specs.BTreeSet.{contains}
use Rattle.claim_table.specs.ClaimTable.Counts.{amount, is_entered}
use Rattle.claim_table.specs.ClaimTable.Entries.{bit}
use Rattle.claim_table.specs.ClaimTable.BodyParts.{BodyPart}
use Rattle.claim_table.specs.declared.claim_table.spot.Spot.{Spot}
use Rattle.claim_table.specs.ClaimTable.Parts.{supports}
use Rattle.claim_table.specs.ClaimTable.Rows.{is_raised, raised, signature_of, verdict_of}
use Rattle.claim_table.specs.ClaimTable.Keeping.{places_of, spot_at, spot_cmp}
use Rattle.claim_table.proofs.ClaimTableLemmas.Kept.{kept_more, kept_raised, known_new, known_verdict}
use Rattle.claim_table.proofs.ClaimTableLemmas.Rows.{verdict_none}
use Rattle.claim_table.proofs.claim_table.claim_rows.ClaimRows.raise.Goals as goal

pub returns-in_err-add-clause-sound : goal.returns-in_err-add-clause-sound
returns-in_err-add-clause-sound c =
    let t = c.args.self.now in let place : c.in_ok-rows.rows - 1 ≡ length t.rows.items = omega (arith, c.in_ok-rows.ensures.ok, c.len-row.ensures) in
    kept_more t.rows.items (places_of t.by_signature) (amount t.counts) (is_entered t.counts) t.pending (contains spot_cmp t.spots) (contains spot_cmp t.spots) _ (places_of c.add.new.self) _ (is_entered c.enter.new.self)
    (c.in_ok-rows.rows - 1) c.in_ok-reserve.ensures.items (λ q. refl) place (λ q. c.in_err-add.ensures.kept q.body q) c.in_ok-enter.ensures.amounts c.in_ok-enter.ensures.kept c.requires

pub returns-in_err-open_new-clause-sound : goal.returns-in_err-open_new-clause-sound
returns-in_err-open_new-clause-sound c =
    let t = c.args.self.now in let place : c.in_ok-rows.rows - 1 ≡ length t.rows.items = omega (arith, c.in_ok-rows.ensures.ok, c.len-row.ensures) in
    kept_more t.rows.items (places_of t.by_signature) (amount t.counts) (is_entered t.counts) t.pending (contains spot_cmp t.spots) (contains spot_cmp c.open_new.new.spots) _ (places_of c.add.new.self) _ (is_entered c.enter.new.self)
    (c.in_ok-rows.rows - 1) c.in_ok-reserve.ensures.items (λ q. ap (λ spots. contains spot_cmp spots q) c.in_err-open_new.ensures.err) place (λ q. c.in_ok-add.ensures.kept q.body q) c.in_ok-enter.ensures.amounts c.in_ok-enter.ensures.kept c.requires

row_is : (c : goal.After-push_reserved) → c.row_of-added.result ≡ record { claimed = c.args.claimed; verdict = verdict_of c.args.self.now.rows.items (signature_of c.args.claimed) }
row_is c =
    let rows = c.args.self.now.rows.items in let s = c.signature-signature.result in
    let verdict = ap option_flatten c.verdict-verdict.ensures ∙ known_verdict (is_raised rows s) (verdict_of rows s) (verdict_none rows s) ∙ ap (verdict_of rows) c.signature-signature.ensures in
    c.row_of-added.ensures ∙ ap (λ v. record { claimed = c.args.claimed; verdict = v }) verdict

rows_are : (c : goal.After-push_reserved) → c.push_reserved.new.self.items ≡ raised c.args.self.now.rows.items c.args.claimed
rows_are c =
    c.push_reserved.ensures.items ∙ ap (λ rows. rows ++ c.row_of-added.result ∷ []) c.in_ok-reserve.ensures.items ∙ ap (λ r. c.args.self.now.rows.items ++ r ∷ []) (row_is c)

pub returns-clause-ok : goal.returns-clause-ok
returns-clause-ok c = rows_are c

pub returns-clause-sound : goal.returns-clause-sound
returns-clause-sound c =
    let t = c.args.self.now in let rows = t.rows.items in let claimed = c.args.claimed in
    let hint = places_of c.add.new.self in let counts = amount c.enter.new.self in let entered = is_entered c.count_yes.new.self in
    let place : c.in_ok-rows.rows - 1 ≡ length rows = omega (arith, c.in_ok-rows.ensures.ok, c.len-row.ensures) in
    let row : c.len-row.result ≡ length rows = omega (arith, c.len-row.ensures) in
    let fits : c.in_ok-rows.rows < 2 ^ 32 = search rules in
    let kept = kept_more rows (places_of t.by_signature) (amount t.counts) (is_entered t.counts) t.pending (contains spot_cmp t.spots) (contains spot_cmp t.spots) rows hint counts entered
    (c.in_ok-rows.rows - 1) refl (λ q. refl) place (λ q. c.in_ok-add.ensures.kept q.body q) c.in_ok-enter.ensures.amounts (λ q h. c.count_yes.ensures.kept q ∙ c.in_ok-enter.ensures.kept q h) c.requires in
    let first = known_new (is_raised rows c.signature-signature.result) (verdict_of rows c.signature-signature.result) c.is_none.result (sym (ap is_some c.verdict-verdict.ensures) ∙ c.is_none.ensures)
    ∙ ap (λ s. not (is_raised rows s)) c.signature-signature.ensures in
    let updates = subst (λ n. (q : Spot) → contains spot_cmp c.open_new.new.spots q ≡ (contains spot_cmp t.spots q || (c.is_none.result && is_at (spot_cmp (spot_at claimed.body n)) q))) row c.in_ok-open_new.ensures.ok in
    let added = subst (λ s. Contains (hint s) (length rows)) c.signature-signature.ensures (subst (λ n. Contains (hint c.signature-signature.result) n) place c.in_ok-add.ensures.added) in
    let more = λ (q : BodyPart). subst (λ r. amount c.count_yes.new.self q ≡ counts q + bit (supports q r)) (row_is c) (c.count_yes.ensures.amounts q) in
    kept_raised rows hint counts entered t.pending (contains spot_cmp t.spots) (contains spot_cmp c.open_new.new.spots) c.is_none.result claimed c.push_reserved.new.self.items (amount c.count_yes.new.self)
    (rows_are c) first updates added more (λ q b. c.count_yes.ensures.kept q ∙ c.in_ok-enter.ensures.entered q b) (omega (arith, fits, c.in_ok-rows.ensures.ok, c.len-row.ensures)) kept
