-- What is kept beside the rows stays right.
use Rattle.std.proofs.Common.{◌≡◌, ℕ, ◌+◌, ◌-◌, ◌<◌, ◌^◌, Bool, true, false, cond, ◌||◌, ◌&&◌, List, [], ◌∷◌, ◌++◌, length, take, Option, Some, None, refl, sym, ◌∙◌, ap, subst, arith}
use Rattle.std.specs.Prelude.{not, is_some, Contains, if◌then◌else◌}
use Rattle.std.specs.BTreeMap.{is_at}
use Rattle.std.specs.Option.{option_flatten, option_map}
use Rattle.std.proofs.lemmas.List.{length-append, length-map}
use Rattle.std.proofs.Math.Seq.{take-append_seam}
use Rattle.claim_table.specs.declared.claim_table.claim_rows.Pending.{Pending}
use Rattle.claim_table.specs.declared.claim_table.claimed.Claimed.{Claimed}
use Rattle.claim_table.specs.ClaimTable.BodyParts.{BodyPart}
use Rattle.claim_table.specs.declared.claim_table.row.Row.{Row}
use Rattle.claim_table.specs.declared.claim_table.signature.Signature.{Signature}
use Rattle.claim_table.specs.declared.claim_table.spot.Spot.{Spot}
use Rattle.claim_table.specs.ClaimTable.Entries.{bit}
use Rattle.claim_table.specs.ClaimTable.Keeping.{AreCounted, AreEntered, AreHinted, IsFirstAt, IsKept, IsPending, IsPendingBelow, spot_at, spot_cmp}
use Rattle.claim_table.specs.ClaimTable.Parts.{brings, supports}
use Rattle.claim_table.specs.ClaimTable.Table.{KeepsPending}
use Rattle.claim_table.specs.ClaimTable.Rows.{DoAgree, heard, is_raised, raised, signature_of, unheard, verdict_of, with_verdict}
use Rattle.claim_table.proofs.ClaimTableLemmas.Hints.{entered_added, entered_front, entered_more, entered_set, hinted_added, hinted_front, hinted_more, hinted_set}
use Rattle.claim_table.proofs.ClaimTableLemmas.Lists.{count_end}
use Rattle.claim_table.proofs.ClaimTableLemmas.Rows.{agree_front, agree_raised, agree_set, first_front, first_longer, first_raised, first_set, first_within, verdict_front, verdict_heard, verdict_longer, verdict_none}
use Rattle.claim_table.proofs.ClaimTableLemmas.Spots.{had_verdict, open_added, open_closed, open_heard, open_popped, open_unheard}

same_entries : (rows : List Row) (old new : BodyPart → Bool) → ((q : BodyPart) → new q ≡ old q) → AreEntered rows old → AreEntered rows new
same_entries rows old new same h = entered_more rows old new (λ q k. same q ∙ k) h

module _ (rows : List Row) (hint : Signature → List ℕ) (counts : BodyPart → ℕ) (entered : BodyPart → Bool) where
  pub kept_closed : (p : Pending) (old new : Spot → Bool) → ((q : Spot) → new q ≡ cond (is_at (spot_cmp (spot_at p.signature.body p.row)) q) false (old q))
      → IsKept rows (Some p) old hint counts entered → IsKept rows None new hint counts entered
  kept_closed p old new updates k = record {
    agree = k.agree;
    first = tt;
    opened = open_closed rows p.signature p.row old new updates k.first.0 (had_verdict rows p.signature k.agree k.first.1) k.opened;
    hinted = k.hinted;
    counted = k.counted;
    entries = k.entries;
    few = k.few;
  }

  pub kept_unheard : (p : Pending) (spots : Spot → Bool) (now : List Row) (new : BodyPart → ℕ) (entered_now : BodyPart → Bool) → now ≡ unheard p.signature rows
      → AreCounted now new → ((q : BodyPart) → entered_now q ≡ entered q) → IsKept rows (Some p) spots hint counts entered → IsKept now None spots hint new entered_now
  kept_unheard p spots now new entered_now is counted same k = subst (λ now. AreCounted now new → IsKept now None spots hint new entered_now) (sym is) (λ counted. record {
    agree = agree_set p.signature None rows k.agree;
    first = tt;
    opened = open_unheard rows p.signature p.row k.first.0 spots (had_verdict rows p.signature k.agree k.first.1) k.opened;
    hinted = hinted_set p.signature None rows hint k.hinted;
    counted = counted;
    entries = same_entries (unheard p.signature rows) entered entered_now same (entered_set p.signature None rows entered k.entries);
    few = (let long = length-map rows (with_verdict p.signature None) in omega (arith, long, k.few));
  }) counted

  pub kept_heard : (p : Pending) (v : Bool) (spots : Spot → Bool) (now : List Row) (new : BodyPart → ℕ) (entered_now : BodyPart → Bool) → now ≡ heard p.signature v rows
      → AreCounted now new → ((q : BodyPart) → entered_now q ≡ entered q) → IsFirstAt rows p.signature p.row → verdict_of rows p.signature ≡ None
      → IsKept rows None spots hint counts entered → IsKept now (Some p) spots hint new entered_now
  kept_heard p v spots now new entered_now is counted same first none k = subst (λ now. AreCounted now new → IsKept now (Some p) spots hint new entered_now) (sym is) (λ counted. record {
    agree = agree_set p.signature (Some v) rows k.agree;
    first = (first_set p.signature p.signature (Some v) rows p.row first, ap is_some (verdict_heard p.signature (Some v) rows (first_raised rows p.signature p.row first)));
    opened = open_heard rows p.signature p.row spots v first k.agree none k.opened;
    hinted = hinted_set p.signature (Some v) rows hint k.hinted;
    counted = counted;
    entries = same_entries (heard p.signature v rows) entered entered_now same (entered_set p.signature (Some v) rows entered k.entries);
    few = (let long = length-map rows (with_verdict p.signature (Some v)) in omega (arith, long, k.few));
  }) counted

  -- more hints and entries do no harm
  pub kept_more : (pending : Option Pending) (spots spots_now : Spot → Bool) (now : List Row) (hint_now : Signature → List ℕ) (new : BodyPart → ℕ) (entered_now : BodyPart → Bool) (number : ℕ)
      → now ≡ rows → ((q : Spot) → spots_now q ≡ spots q) → number ≡ length rows → ((q : Signature) (n : ℕ) → n < number → Contains (hint q) n → Contains (hint_now q) n)
      → ((q : BodyPart) → new q ≡ counts q) → ((q : BodyPart) → entered q ≡ true → entered_now q ≡ true)
      → IsKept rows pending spots hint counts entered → IsKept now pending spots_now hint_now new entered_now
  kept_more pending spots spots_now now hint_now new entered_now number is alike end kept same more k = subst (λ now. IsKept now pending spots_now hint_now new entered_now) (sym is) (record {
    agree = k.agree;
    first = k.first;
    opened = λ n i. alike (spot_at n i) ∙ k.opened n i;
    hinted = hinted_more rows hint hint_now number end kept k.hinted;
    counted = λ q. same q ∙ k.counted q;
    entries = entered_more rows entered entered_now more k.entries;
    few = k.few;
  })

  -- the row of a claim is added
  pub kept_raised : (pending : Option Pending) (old spots : Spot → Bool) (is_new : Bool) (c : Claimed) (now : List Row) (new : BodyPart → ℕ)
      → now ≡ raised rows c → is_new ≡ not (is_raised rows (signature_of c))
      → ((q : Spot) → spots q ≡ (old q || (is_new && is_at (spot_cmp (spot_at c.body (length rows))) q)))
      → Contains (hint (signature_of c)) (length rows)
      → ((q : BodyPart) → new q ≡ counts q + bit (supports q (record { claimed = c; verdict = verdict_of rows (signature_of c) })))
      → ((q : BodyPart) → brings c.body c.parts q ≡ true → entered q ≡ true) → length rows + 1 < 2 ^ 32
      → IsKept rows pending old hint counts entered → IsKept now pending spots hint new entered
  kept_raised pending old spots is_new c now new is first updates added more entries room k = subst (λ now. IsKept now pending spots hint new entered) (sym is) (record {
    agree = agree_raised rows c k.agree;
    first = still pending k.first;
    opened = open_added rows (record { claimed = c; verdict = verdict_of rows (signature_of c) }) pending old spots is_new first (verdict_none rows (signature_of c)) updates k.opened;
    hinted = hinted_added rows (record { claimed = c; verdict = verdict_of rows (signature_of c) }) hint added k.hinted;
    counted = λ q. let one = more q in let all = k.counted q in let end = count_end (supports q) rows (record { claimed = c; verdict = verdict_of rows (signature_of c) }) in omega (arith, one, all, end);
    entries = entered_added rows (record { claimed = c; verdict = verdict_of rows (signature_of c) }) entered entries k.entries;
    few = (let long = length-append rows ((record { claimed = c; verdict = verdict_of rows (signature_of c) }) ∷ []) in omega (arith, long, room));
  })
    where
      still : (pending : Option Pending) → IsPending rows pending → IsPending (raised rows c) pending
      still None h = tt
      still (Some p) h = (first_longer rows (record { claimed = c; verdict = verdict_of rows (signature_of c) }) p.signature p.row h.0, ap is_some (verdict_longer rows _ p.signature (first_raised rows p.signature p.row h.0)) ∙ h.1)

-- the last row is taken away
pub kept_popped : (rows : List Row) (r : Row) (hint : Signature → List ℕ) (counts : BodyPart → ℕ) (entered : BodyPart → Bool) (pending : Option Pending) (old spots : Spot → Bool) (new : BodyPart → ℕ) (entered_now : BodyPart → Bool)
    → ((q : Spot) → spots q ≡ cond (is_at (spot_cmp (spot_at r.claimed.body (length rows))) q) false (old q)) → IsPendingBelow (length rows) pending
    → ((q : BodyPart) → new q ≡ counts q - bit (supports q r)) → ((q : BodyPart) → entered_now q ≡ entered q)
    → IsKept (rows ++ r ∷ []) pending old hint counts entered → IsKept rows pending spots hint new entered_now
kept_popped rows r hint counts entered pending old spots new entered_now updates below less same k = record {
  agree = subst DoAgree front (agree_front (length rows) (rows ++ r ∷ []) k.agree);
  first = still pending below k.first;
  opened = open_popped rows r pending old spots updates below k.opened;
  hinted = subst (λ rows. AreHinted rows hint) front (hinted_front (length rows) (rows ++ r ∷ []) hint k.hinted);
  counted = λ q. let one = less q in let all = k.counted q in let end = count_end (supports q) rows r in omega (arith, one, all, end);
  entries = same_entries rows entered entered_now same (subst (λ rows. AreEntered rows entered) front (entered_front (length rows) (rows ++ r ∷ []) entered k.entries));
  few = (let long = length-append rows (r ∷ []) in omega (arith, long, k.few));
}
  where
    front : take (length rows) (rows ++ r ∷ []) ≡ rows
    front = take-append_seam rows (r ∷ [])

    still : (pending : Option Pending) → IsPendingBelow (length rows) pending → IsPending (rows ++ r ∷ []) pending → IsPending rows pending
    still None b h = tt
    still (Some p) b h =
        let first = subst (λ rows. IsFirstAt rows p.signature p.row) front (first_front (rows ++ r ∷ []) p.signature p.row (length rows) b h.0) in
        let there = subst (λ rows. is_raised rows p.signature ≡ true) (sym front) (first_raised rows p.signature p.row first) in
        (first, ap (λ rows. is_some (verdict_of rows p.signature)) (sym front) ∙ ap is_some (verdict_front (length rows) (rows ++ r ∷ []) p.signature there) ∙ h.1)

-- where the first rows keep a row of the pending signature, they keep its first one
pub pending_within : (len : ℕ) (rows : List Row) (pending : Option Pending) → IsPending rows pending → KeepsPending len rows (option_map (λ p. p.signature) pending) → IsPendingBelow len pending
pending_within len rows None h k = tt
pending_within len rows (Some p) h k = first_within rows p.signature p.row len h.0 k

-- what `verdict` tells of a signature: its verdict, and whether it is new
pub known_verdict : (there : Bool) (v : Option Bool) → (there ≡ false → v ≡ None) → option_flatten (if there then Some v else None) ≡ v
known_verdict true v none = refl
known_verdict false v none = sym (none refl)

pub known_new : (there : Bool) (v : Option Bool) (is_new : Bool) → is_some (if there then Some v else None) ≡ not is_new → is_new ≡ not there
known_new true v true h = h
known_new true v false h = refl
known_new false v true h = refl
known_new false v false h = h

-- no question is pending
pub none_pending : (pending : Option Pending) → option_map (λ p. p.signature) pending ≡ None → pending ≡ None
none_pending None h = refl
none_pending (Some p) h = cc
