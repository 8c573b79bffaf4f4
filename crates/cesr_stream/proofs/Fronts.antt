-- The item at the front stays the same, whatever follows, and is no longer than what is there.
use Rattle.std.proofs.Common.{◌≡◌, ◌≢◌, ℕ, zero, suc, ◌+◌, ◌-◌, ◌*◌, ◌%◌, ◌<◌, ◌≤◌, ◌==◌, nat_lt, if◌then◌else◌, Bool, true, false, List, [], ◌∷◌, ◌++◌, length, drop, slice_index, refl, ap, ◌∙◌, arith, inl, inr, Option, None, Some, length-drop, lit≤}
use Rattle.std.proofs.lemmas.Bool.{cases_Bool}
use Rattle.std.proofs.lemmas.List.{drop-append-le}
use Rattle.cesr_codes.specs.Table.{verdict, fixed_layouts, sig_layouts, number_layouts, digest_layouts, indexed_layouts}
use Rattle.cesr_codes.specs.Dates.{moment_verdict}
use Rattle.cesr_stream.specs.declared.bad.BadReason.TheVariants.{NoStart}
use Rattle.cesr_stream.specs.Parts.{Part, whole, refused, unfinished, shifted, less, followed_by}
use Rattle.cesr_stream.specs.Front.{moment_layouts, primitive_part, signature_part, couple_part, seen_part, anchor_part, element_part, elements_part, counter_part, count_of, counted_part, behind_counter, is_group, group_part, begun_group, groups_part, wrap_part, attached_part, behind_body, front}
use Rattle.cesr_stream.proofs.Stays.{Stays, Fits, stays-followed_by, fits-followed_by, fits-shifted, stays-body_part, fits-body_part, stays-counter_part, fits-counter_part, whole-counter_part, count_same, letter_same, byte_same, enough}
use Rattle.cesr_stream.proofs.Primitives.{InRoom, IsFew, AreFours, extent, few-primitive_part, Judging, stays-primitive_part, fits-primitive_part, in_room-primitive_part, fours-primitive_part, judging-verdict, judging-moment_verdict}

-- what is judged stays; a whole part is within the bytes and within the wrap, and has characters in fours; of one that isn't
-- whole less is there
pub record Holds (most : ℕ) (part : Option ℕ → List ℕ → Part) : Type 0 where
  pub stays : (room : Option ℕ) → Stays (part room)
  pub fits : (room : Option ℕ) → Fits (part room)
  pub in_room : InRoom most part
  pub fours : (room : Option ℕ) (x : List ℕ) (n : ℕ) → part room x ≡ whole n → n % 4 ≡ 0
  pub few : IsFew most part

-- what is whole stays whole
pub whole_stays : (most : ℕ) (part : Option ℕ → List ℕ → Part) → Holds most part → (room : Option ℕ) (x y : List ℕ) (n : ℕ) → part room x ≡ whole n → part room (x ++ y) ≡ whole n
whole_stays most part holds room x y n is = holds.stays room x y (λ e. cc (is, e)) ∙ is

holds-primitive_part : (most : ℕ) (layouts : _) (judge : _) → Judging most layouts judge → Holds most (primitive_part layouts judge)
holds-primitive_part most layouts judge judging = record {
  stays = stays-primitive_part most layouts judge judging;
  fits = fits-primitive_part most layouts judge judging;
  in_room = in_room-primitive_part most layouts judge judging;
  fours = fours-primitive_part most layouts judge judging;
  few = few-primitive_part most layouts judge judging;
}

-- what is left of a wrap behind so many characters
extent-less : (most most' k n : ℕ) (room : Option ℕ) → k ≤ extent most room → n ≤ extent most' (less k room) → k + n ≤ extent (most + most') room
extent-less most most' k n None le le' = omega (arith, le, le')
extent-less most most' k n (Some room) le le' = omega (arith, le, le')

extent-more : (most most' n : ℕ) (room : Option ℕ) → n ≤ extent most room → most ≤ most' → n ≤ extent most' room
extent-more most most' n None le more = omega (arith, le, more)
extent-more most most' n (Some room) le more = le

fours-less : (room : Option ℕ) (k : ℕ) → AreFours room → k % 4 ≡ 0 → AreFours (less k room)
fours-less None k fours e = tt
fours-less (Some room) k fours e = omega (arith, fours, e)

-- a part behind another
module _ (most most' : ℕ) (room : Option ℕ) (first : Part) (next : ℕ → List ℕ → Part) (x : List ℕ) where
  room-followed_by : (n : ℕ) → ((k : ℕ) → first ≡ whole k → k ≤ extent most room) → ((k m : ℕ) → next k (drop k x) ≡ whole m → m ≤ extent most' (less k room))
      → followed_by first next x ≡ whole n → n ≤ extent (most + most') room
  room-followed_by n fits fits' e = go first refl e
    where
      more : (k : ℕ) (part : Part) → first ≡ whole k → next k (drop k x) ≡ part → shifted k part ≡ whole n → n ≤ extent (most + most') room
      more k (whole m) is is' e = let sum : k + m ≡ n = cc e in let le = extent-less most most' k m room (fits k is) (fits' k m is') in omega (arith, sum, le)
      more k (refused place reason) is is' e = cc e
      more k unfinished is is' e = cc e

      go : (part : Part) → first ≡ part → followed_by part next x ≡ whole n → n ≤ extent (most + most') room
      go (whole k) is e = more k (next k (drop k x)) is refl e
      go (refused place reason) is e = cc e
      go unfinished is e = cc e

  few-followed_by : (first ≡ unfinished → length x < extent most room) → ((k : ℕ) → first ≡ whole k → (k ≤ length x) × (k ≤ extent most room))
      → ((k : ℕ) → first ≡ whole k → next k (drop k x) ≡ unfinished → length (drop k x) < extent most' (less k room)) → followed_by first next x ≡ unfinished → length x < extent (most + most') room
  few-followed_by few fits few' e = go first refl e
    where
      more : (k : ℕ) (part : Part) → first ≡ whole k → next k (drop k x) ≡ part → shifted k part ≡ unfinished → length x < extent (most + most') room
      more k (whole m) is is' e = cc e
      more k (refused place reason) is is' e = cc e
      more k unfinished is is' e =
          let le = fits k is in
          let rest = few' k is is' in
          let sum = extent-less most most' k (length (drop k x) + 1) room le.1 (omega (arith, rest)) in
          omega (arith, sum, le.0, length-drop k x)

      go : (part : Part) → first ≡ part → followed_by part next x ≡ unfinished → length x < extent (most + most') room
      go (whole k) is e = more k (next k (drop k x)) is refl e
      go (refused place reason) is e = cc e
      go unfinished is e = let lt = few is in let le = extent-more most (most + most') (length x + 1) room (omega (arith, lt)) (omega arith) in omega (arith, le)

-- a part behind another has characters in fours where both have
fours-followed_by : (first : Part) (next : ℕ → List ℕ → Part) (x : List ℕ) (n : ℕ) → ((k : ℕ) → first ≡ whole k → k % 4 ≡ 0)
    → ((k m : ℕ) → next k (drop k x) ≡ whole m → m % 4 ≡ 0) → followed_by first next x ≡ whole n → n % 4 ≡ 0
fours-followed_by (whole k) next x n fours fours' e = more (next k (drop k x)) refl e
  where
    more : (part : Part) → next k (drop k x) ≡ part → shifted k part ≡ whole n → n % 4 ≡ 0
    more (whole m) is e = let sum : k + m ≡ n = cc e in omega (arith, sum, fours k refl, fours' k m is)
    more (refused place reason) is e = cc e
    more unfinished is e = cc e
fours-followed_by (refused place reason) next x n fours fours' e = cc e
fours-followed_by unfinished next x n fours fours' e = cc e

holds-followed_by : (most most' : ℕ) (first : Option ℕ → List ℕ → Part) (next : Option ℕ → List ℕ → Part) → Holds most first → Holds most' next
    → Holds (most + most') (λ room x. followed_by (first room x) (λ n. next (less n room)) x)
holds-followed_by most most' first next holds holds' = record {
  stays = λ room x y ne. stays-followed_by (first room) (λ n. next (less n room)) (λ n. next (less n room)) (holds.stays room) (holds.fits room) x y
      (λ n is judged. holds'.stays (less n room) (drop n x) y judged) ne;
  fits = λ room. fits-followed_by (first room) (λ n. next (less n room)) (holds.fits room) (λ k. holds'.fits (less k room));
  in_room = λ room x n e. room-followed_by most most' room (first room x) (λ n. next (less n room)) x n (λ k is. holds.in_room room x k is) (λ k m is. holds'.in_room (less k room) (drop k x) m is) e;
  fours = λ room x n e. fours-followed_by (first room x) (λ n. next (less n room)) x n (holds.fours room x) (λ k m. holds'.fours (less k room) (drop k x) m) e;
  few = λ room x fours e. few-followed_by most most' room (first room x) (λ n. next (less n room)) x (holds.few room x fours) (λ k is. (holds.fits room x k is, holds.in_room room x k is))
      (λ k is is'. holds'.few (less k room) (drop k x) (fours-less room k fours (holds.fours room x k is)) is') e;
}

holds-more : (most most' : ℕ) (part : Option ℕ → List ℕ → Part) → most ≤ most' → Holds most part → Holds most' part
holds-more most most' part more holds = record {
  stays = holds.stays;
  fits = holds.fits;
  in_room = λ room x n e. extent-more most most' n room (holds.in_room room x n e) more;
  fours = holds.fours;
  few = λ room x fours e. let lt = holds.few room x fours e in let le = extent-more most most' (length x + 1) room (omega (arith, lt)) more in omega (arith, le);
}

-- elements one behind the other
holds-elements_part : (most : ℕ) (element : Option ℕ → List ℕ → Part) → Holds most element → (count : ℕ) → Holds (count * most) (elements_part element count)
unfolding elements_part
holds-elements_part most element holds zero = record {
  stays = λ room x y ne. refl;
  fits = λ room x n e. let same : 0 ≡ n = cc e in omega (arith, same);
  in_room = λ room x n e. let same : 0 ≡ n = cc e in omega (arith, same);
  fours = λ room x n e. let same : 0 ≡ n = cc e in omega (arith, same);
  few = λ room x fours e. cc e;
}
holds-elements_part most element holds (suc count) =
    holds-more (most + count * most) (suc count * most) (elements_part element (suc count)) (omega arith)
    (holds-followed_by most (count * most) element (elements_part element count) holds (holds-elements_part most element holds count))

pub holds_key : Holds 44 (primitive_part fixed_layouts (verdict fixed_layouts))
holds_key = holds-primitive_part 44 fixed_layouts (verdict fixed_layouts) (judging-verdict 44 fixed_layouts refl (lit≤ tt))

pub holds_sig : Holds 88 (primitive_part sig_layouts (verdict sig_layouts))
holds_sig = holds-primitive_part 88 sig_layouts (verdict sig_layouts) (judging-verdict 88 sig_layouts refl (lit≤ tt))

pub holds_number : Holds 24 (primitive_part number_layouts (verdict number_layouts))
holds_number = holds-primitive_part 24 number_layouts (verdict number_layouts) (judging-verdict 24 number_layouts refl (lit≤ tt))

pub holds_digest : Holds 44 (primitive_part digest_layouts (verdict digest_layouts))
holds_digest = holds-primitive_part 44 digest_layouts (verdict digest_layouts) (judging-verdict 44 digest_layouts refl (lit≤ tt))

pub holds_moment : Holds 36 (primitive_part moment_layouts moment_verdict)
holds_moment = holds-primitive_part 36 moment_layouts moment_verdict judging-moment_verdict

pub holds_signature : Holds 92 signature_part
holds_signature = holds-primitive_part 92 indexed_layouts (verdict indexed_layouts) (judging-verdict 92 indexed_layouts refl (lit≤ tt))

pub holds_couple : Holds 132 couple_part
holds_couple = holds-followed_by 44 88 (primitive_part fixed_layouts (verdict fixed_layouts)) (primitive_part sig_layouts (verdict sig_layouts)) holds_key holds_sig

pub holds_seen : Holds 60 seen_part
holds_seen = holds-followed_by 24 36 (primitive_part number_layouts (verdict number_layouts)) (primitive_part moment_layouts moment_verdict) holds_number holds_moment

pub holds_anchor : Holds 68 anchor_part
holds_anchor = holds-followed_by 24 44 (primitive_part number_layouts (verdict number_layouts)) (primitive_part digest_layouts (verdict digest_layouts)) holds_number holds_digest

-- a key and its signature are the greatest element
pub holds-element_part : (letter : ℕ) → Holds 132 (element_part letter)
holds-element_part letter = at (letter == 67) (letter == 69) (letter == 71)
  where
    at : (couple seen anchor : Bool) → Holds 132 (if couple then couple_part else if seen then seen_part else if anchor then anchor_part else signature_part)
    at true seen anchor = holds_couple
    at false true anchor = holds-more 60 132 seen_part (lit≤ tt) holds_seen
    at false false true = holds-more 68 132 anchor_part (lit≤ tt) holds_anchor
    at false false false = holds-more 92 132 signature_part (lit≤ tt) holds_signature

pub holds-group_elements : (letter count : ℕ) → Holds (count * 132) (elements_part (element_part letter) count)
holds-group_elements letter count = holds-elements_part 132 (element_part letter) (holds-element_part letter) count

-- a whole counter is there whole
pub four : (supported : Bool) (x : List ℕ) (n : ℕ) → counter_part supported x ≡ whole n → 4 ≤ length x
four supported x n e = omega (arith, whole-counter_part supported x n e, fits-counter_part supported x n e)

-- what is behind a counter
stays_behind : (supported : Bool) (x y : List ℕ) (part part' : Part) → (4 ≤ length x → part ≢ unfinished → part' ≡ part)
    → behind_counter (counter_part supported x) part ≢ unfinished → behind_counter (counter_part supported (x ++ y)) part' ≡ behind_counter (counter_part supported x) part
stays_behind supported x y part part' same ne = go (counter_part supported x) refl ne
  where
    go : (c : Part) → counter_part supported x ≡ c → behind_counter c part ≢ unfinished → behind_counter (counter_part supported (x ++ y)) part' ≡ behind_counter c part
    go (whole n) is ne = ap (λ c. behind_counter c part') (stays-counter_part supported x y (λ e. cc (is, e)) ∙ is) ∙ same (four supported x n is) ne
    go (refused place reason) is ne = ap (λ c. behind_counter c part') (stays-counter_part supported x y (λ e. cc (is, e)) ∙ is)
    go unfinished is ne = absurd (ne refl)

-- a whole part behind a counter
whole_behind : (supported : Bool) (x : List ℕ) (part : Part) (n : ℕ) → behind_counter (counter_part supported x) part ≡ whole n → (4 ≤ length x) × (part ≡ whole n)
whole_behind supported x part n e = go (counter_part supported x) refl e
  where
    go : (c : Part) → counter_part supported x ≡ c → behind_counter c part ≡ whole n → (4 ≤ length x) × (part ≡ whole n)
    go (whole m) is e = (four supported x m is, e)
    go (refused place reason) is e = cc e
    go unfinished is e = cc e

whole_shifted : (k : ℕ) (part : Part) (n : ℕ) → shifted k part ≡ whole n → (m : ℕ) × (part ≡ whole m) × (k + m ≡ n)
whole_shifted k (whole m) n e = (m, refl, cc e)
whole_shifted k (refused place reason) n e = cc e
whole_shifted k unfinished n e = cc e

stays_counted : (letter : ℕ) (room : Option ℕ) (x y : List ℕ) → 4 ≤ length x → counted_part (element_part letter) room x ≢ unfinished
    → counted_part (element_part letter) room (x ++ y) ≡ counted_part (element_part letter) room x
unfolding counted_part
stays_counted letter room x y le ne =
    ap (λ k. shifted 4 (elements_part (element_part letter) k (less 4 room) (drop 4 (x ++ y)))) (count_same x y le)
    ∙ ap (λ rest. shifted 4 (elements_part (element_part letter) (count_of x) (less 4 room) rest)) (drop-append-le 4 x y le)
    ∙ ap (shifted 4) ((holds-group_elements letter (count_of x)).stays (less 4 room) (drop 4 x) y (λ e. ne (ap (shifted 4) e)))

stays-group_part : (room : Option ℕ) → Stays (group_part room)
unfolding group_part
stays-group_part room x y ne =
    ap (λ letter. behind_counter (counter_part (is_group letter) (x ++ y)) (counted_part (element_part letter) room (x ++ y))) letter
    ∙ stays_behind (is_group (slice_index x 1)) x y (counted_part (element_part (slice_index x 1)) room x) (counted_part (element_part (slice_index x 1)) room (x ++ y))
    (stays_counted (slice_index x 1) room x y) ne
  where
    letter : slice_index (x ++ y) 1 ≡ slice_index x 1
    letter = letter_same (is_group (slice_index x 1)) x y (λ e. ne (ap (λ c. behind_counter c (counted_part (element_part (slice_index x 1)) room x)) e))

-- a whole group is within the bytes, and within the wrap where its counter is
group_whole : (room : Option ℕ) (x : List ℕ) (n : ℕ) → group_part room x ≡ whole n
    → (m : ℕ) × (elements_part (element_part (slice_index x 1)) (count_of x) (less 4 room) (drop 4 x) ≡ whole m) × (4 + m ≡ n) × (4 ≤ length x)
unfolding group_part counted_part
group_whole room x n e =
    let behind = whole_behind (is_group (slice_index x 1)) x (shifted 4 (elements_part (element_part (slice_index x 1)) (count_of x) (less 4 room) (drop 4 x))) n e in
    let is = whole_shifted 4 (elements_part (element_part (slice_index x 1)) (count_of x) (less 4 room) (drop 4 x)) n behind.1 in
    (is.0, is.1, is.2, behind.0)

fits-group_part : (room : Option ℕ) → Fits (group_part room)
fits-group_part room x n e =
    let is = group_whole room x n e in
    omega (arith, is.2, is.3, length-drop 4 x, (holds-group_elements (slice_index x 1) (count_of x)).fits (less 4 room) (drop 4 x) is.0 is.1)

room-group_part : (room : ℕ) (x : List ℕ) (n : ℕ) → group_part (Some room) x ≡ whole n → 4 ≤ room → (4 ≤ n) × (n ≤ room) × (n % 4 ≡ 0)
room-group_part room x n e le =
    let is = group_whole (Some room) x n e in
    let few = (holds-group_elements (slice_index x 1) (count_of x)).in_room (Some (room - 4)) (drop 4 x) is.0 is.1 in
    let fours = (holds-group_elements (slice_index x 1) (count_of x)).fours (Some (room - 4)) (drop 4 x) is.0 is.1 in
    (omega (arith, is.2), omega (arith, is.2, few), omega (arith, is.2, fours))

pub stays-begun_group : (room : ℕ) → Stays (begun_group room)
stays-begun_group room [] y ne = absurd (ne refl)
stays-begun_group room (b ∷ x) y ne = elim (cases_Bool (b == 45)) [
  | inl t ↦ rw t (stays-group_part (Some room) (b ∷ x) y (rw t at ne))
  | inr f ↦ rw f refl
]

begun_whole : (room : ℕ) (x : List ℕ) (n : ℕ) → begun_group room x ≡ whole n → group_part (Some room) x ≡ whole n
begun_whole room [] n e = cc e
begun_whole room (b ∷ x) n e = at (b == 45) e
  where
    at : (dash : Bool) → (if dash then group_part (Some room) (b ∷ x) else refused 0 NoStart) ≡ whole n → group_part (Some room) (b ∷ x) ≡ whole n
    at true e = e
    at false e = cc e

-- where four characters are left, the group is within the wrap
pub begun_sizes : (room : ℕ) (x : List ℕ) (n : ℕ) → begun_group room x ≡ whole n → 4 ≤ room → (4 ≤ n) × (n ≤ room) × (n % 4 ≡ 0)
begun_sizes room x n e le = room-group_part room x n (begun_whole room x n e) le

pub fits-begun_group : (room : ℕ) → Fits (begun_group room)
fits-begun_group room x n e = fits-group_part (Some room) x n (begun_whole room x n e)

stays-groups_part : (most room : ℕ) → Stays (groups_part most room)
unfolding groups_part
stays-groups_part zero room x y ne = refl
stays-groups_part (suc most) room x y ne = elim (cases_Bool (room == 0)) [
  | inl t ↦ rw t refl
  | inr f ↦
      rw f (stays-followed_by (begun_group room) (λ n. groups_part most (room - n)) (λ n. groups_part most (room - n)) (stays-begun_group room) (fits-begun_group room) x y
      (λ n is judged. stays-groups_part most (room - n) (drop n x) y judged) (rw f at ne))
]

fits-groups_part : (most room : ℕ) → Fits (groups_part most room)
unfolding groups_part
fits-groups_part zero room x n e = let same : 0 ≡ n = cc e in omega (arith, same)
fits-groups_part (suc most) room x n e = elim (cases_Bool (room == 0)) [
  | inl t ↦ let same : whole 0 ≡ whole n = rw t at e in let zero : 0 ≡ n = cc same in omega (arith, zero)
  | inr f ↦
      fits-followed_by (begun_group room) (λ n. groups_part most (room - n)) (fits-begun_group room) (λ k. fits-groups_part most (room - k)) x n (rw f at e)
]

stays-wrap_part : Stays wrap_part
unfolding wrap_part
stays-wrap_part x y ne =
    stays_behind true x y (shifted 4 (groups_part (count_of x) (4 * count_of x) (drop 4 x))) (shifted 4 (groups_part (count_of (x ++ y)) (4 * count_of (x ++ y)) (drop 4 (x ++ y)))) same ne
  where
    same : 4 ≤ length x → shifted 4 (groups_part (count_of x) (4 * count_of x) (drop 4 x)) ≢ unfinished
        → shifted 4 (groups_part (count_of (x ++ y)) (4 * count_of (x ++ y)) (drop 4 (x ++ y))) ≡ shifted 4 (groups_part (count_of x) (4 * count_of x) (drop 4 x))
    same le ne =
        ap (λ k. shifted 4 (groups_part k (4 * k) (drop 4 (x ++ y)))) (count_same x y le)
        ∙ ap (λ rest. shifted 4 (groups_part (count_of x) (4 * count_of x) rest)) (drop-append-le 4 x y le)
        ∙ ap (shifted 4) (stays-groups_part (count_of x) (4 * count_of x) (drop 4 x) y (λ e. ne (ap (shifted 4) e)))

fits-wrap_part : Fits wrap_part
unfolding wrap_part
fits-wrap_part x n e =
    let behind = whole_behind true x (shifted 4 (groups_part (count_of x) (4 * count_of x) (drop 4 x))) n e in
    fits-shifted x 4 (groups_part (count_of x) (4 * count_of x) (drop 4 x)) n behind.0 (fits-groups_part (count_of x) (4 * count_of x) (drop 4 x)) behind.1

-- nothing is judged of one byte
short_attached : (x : List ℕ) → nat_lt (length x) 2 ≡ true → attached_part x ≡ unfinished
unfolding counter_part group_part wrap_part
short_attached x t = elim (cases_Bool (slice_index x 1 == 86)) [ inl l ↦ rw (l, t) refl | inr l ↦ rw (l, t) refl ]

stays-attached_part : Stays attached_part
stays-attached_part x y ne = elim (cases_Bool (nat_lt (length x) 2)) [
  | inl t ↦ absurd (ne (short_attached x t))
  | inr f ↦
      ap (λ letter. if letter == 86 then wrap_part (x ++ y) else group_part None (x ++ y)) (byte_same x y 1 (omega (arith, enough x 2 f)))
      ∙ at (slice_index x 1 == 86) ne
]
  where
    at : (wrap : Bool) → (if wrap then wrap_part x else group_part None x) ≢ unfinished
        → (if wrap then wrap_part (x ++ y) else group_part None (x ++ y)) ≡ (if wrap then wrap_part x else group_part None x)
    at true ne = stays-wrap_part x y ne
    at false ne = stays-group_part None x y ne

fits-attached_part : Fits attached_part
fits-attached_part x n e = at (slice_index x 1 == 86) e
  where
    at : (wrap : Bool) → (if wrap then wrap_part x else group_part None x) ≡ whole n → n ≤ length x
    at true e = fits-wrap_part x n e
    at false e = fits-group_part None x n e

-- what is judged of a group or wrap is kept where a body came, and where none did
stays-behind_body : (begun : Bool) → Stays (λ x. behind_body begun (attached_part x))
stays-behind_body true x y ne = stays-attached_part x y ne
stays-behind_body false x y ne = at (attached_part x) refl ne
  where
    at : (part : Part) → attached_part x ≡ part → behind_body false part ≢ unfinished → behind_body false (attached_part (x ++ y)) ≡ behind_body false part
    at (whole n) is judged = ap (behind_body false) (stays-attached_part x y (λ e. cc (is, e)) ∙ is)
    at (refused place reason) is judged = ap (behind_body false) (stays-attached_part x y (λ e. cc (is, e)) ∙ is)
    at unfinished is judged = absurd (judged refl)

pub stays-front : (limit : ℕ) (begun : Bool) → Stays (front limit begun)
unfolding front
stays-front limit begun [] y ne = absurd (ne refl)
stays-front limit begun (b ∷ x) y ne = elim (cases_Bool (b == 123)) [
  | inl t ↦ rw t (stays-body_part limit (b ∷ x) y (rw t at ne))
  | inr f ↦ elim (cases_Bool (b == 45)) [
    | inl t ↦ rw (f, t) (stays-behind_body begun (b ∷ x) y (rw (f, t) at ne))
    | inr g ↦ rw (f, g) refl
  ]
]

pub fits-front : (limit : ℕ) (begun : Bool) → Fits (front limit begun)
unfolding front
fits-front limit begun [] n e = cc e
fits-front limit begun (b ∷ x) n e = elim (cases_Bool (b == 123)) [
  | inl t ↦ fits-body_part limit (b ∷ x) n (rw t at e)
  | inr f ↦ elim (cases_Bool (b == 45)) [
    | inl t ↦ fits-attached_part (b ∷ x) n (behind begun (attached_part (b ∷ x)) (rw (f, t) at e))
    | inr g ↦ cc (rw (f, g) at e)
  ]
]
  where
    behind : (begun : Bool) (part : Part) → behind_body begun part ≡ whole n → part ≡ whole n
    behind true part e = e
    behind false (whole m) e = cc e
    behind false (refused place reason) e = cc e
    behind false unfinished e = cc e
