-- How many bytes there are at most where the item at the front isn't whole yet.
use Rattle.std.proofs.Common.{◌≡◌, ◌≢◌, ℕ, zero, suc, ◌+◌, ◌-◌, ◌*◌, ◌%◌, ◌<◌, ◌≤◌, ◌==◌, ◌||◌, not, nat_lt, if◌then◌else◌, Bool, true, false, List, [], ◌∷◌, length, drop, slice_index, refl, arith, inl, inr, Option, None, Some, length-drop, lit≤, lit<}
use Rattle.std.specs.List.{list_all}
use Rattle.std.proofs.lemmas.Bool.{cases_Bool, eqb-false, ltb-true, ltb-false}
use Rattle.lists.specs.KeriSpecs.Base64.{is_character}
use Rattle.cesr_codes.proofs.Numbers.{text_low}
use Rattle.cesr_codes.specs.declared.code_fault.CodeFault.TheVariants.{BadCharacter}
use Rattle.cesr_stream.specs.declared.bad.BadReason.TheVariants.{NoStart, Version, TooLarge, GroupNotSupported, Code}
use Rattle.cesr_stream.specs.Parts.{Part, whole, refused, unfinished, shifted, less, followed_by}
use Rattle.cesr_stream.specs.Front.{has_version, size_of, body_part, counter_part, count_of, counted_part, behind_counter, is_group, element_part, elements_part, group_part, begun_group, groups_part, wrap_part, attached_part, behind_body, front}
use Rattle.cesr_stream.proofs.Counters.{counter_characters}
use Rattle.cesr_stream.proofs.Fronts.{holds-group_elements, four, begun_sizes, fits-begun_group}
use Rattle.cesr_stream.proofs.Primitives.{AreFours, extent}

-- a counter has four characters
few-counter_part : (supported : Bool) (x : List ℕ) → counter_part supported x ≡ unfinished → length x < 4
unfolding counter_part
few-counter_part supported x e = at (nat_lt (length x) 2) (not supported) (nat_lt (length x) 4) (not (is_character (slice_index x 2))) (not (is_character (slice_index x 3))) refl refl e
  where
    at : (few other part bad2 bad3 : Bool) → nat_lt (length x) 2 ≡ few → nat_lt (length x) 4 ≡ part
        → (if few then unfinished else if other then refused 0 GroupNotSupported else if part then unfinished else if bad2 then refused 0 (Code (BadCharacter 2)) else if bad3 then refused 0 (Code (BadCharacter 3)) else whole 4) ≡ unfinished → length x < 4
    at true other part bad2 bad3 two all e = let lt = ltb-true (length x) 2 two in omega (arith, lt)
    at false true part bad2 bad3 two all e = cc e
    at false false true bad2 bad3 two all e = ltb-true (length x) 4 all
    at false false false true bad3 two all e = cc e
    at false false false false true two all e = cc e
    at false false false false false two all e = cc e

-- two characters count up to 4,095
few-count : (supported : Bool) (x : List ℕ) (n : ℕ) → counter_part supported x ≡ whole n → count_of x ≤ 4095
few-count supported [] n e = absurd (let long = four supported [] n e in omega (arith, long))
few-count supported (a ∷ []) n e = absurd (let long = four supported (a ∷ []) n e in omega (arith, long))
few-count supported (a ∷ b ∷ []) n e = absurd (let long = four supported (a ∷ b ∷ []) n e in omega (arith, long))
few-count supported (a ∷ b ∷ c ∷ []) n e = absurd (let long = four supported (a ∷ b ∷ c ∷ []) n e in omega (arith, long))
few-count supported (a ∷ b ∷ c ∷ d ∷ x) n e =
    let parts = counter_characters supported (a ∷ b ∷ c ∷ d ∷ x) n e in
    let all : list_all is_character (c ∷ d ∷ []) ≡ true = rw (parts.1, parts.2) refl in
    let low = text_low (c ∷ d ∷ []) all in
    omega (arith, low)

-- what stands behind a counter isn't whole, or the counter isn't
few_behind : (supported : Bool) (x : List ℕ) (part : Part) (most : ℕ) → 4 ≤ most → ((n : ℕ) → counter_part supported x ≡ whole n → part ≡ unfinished → length x < most)
    → behind_counter (counter_part supported x) part ≡ unfinished → length x < most
few_behind supported x part most four_of few e = go (counter_part supported x) refl e
  where
    go : (c : Part) → counter_part supported x ≡ c → behind_counter c part ≡ unfinished → length x < most
    go (whole n) is e = few n is e
    go (refused place reason) is e = cc e
    go unfinished is e = let lt = few-counter_part supported x is in omega (arith, lt, four_of)

unfinished_shifted : (k : ℕ) (part : Part) → shifted k part ≡ unfinished → part ≡ unfinished
unfinished_shifted k (whole n) e = cc e
unfinished_shifted k (refused place reason) e = cc e
unfinished_shifted k unfinished e = refl

fours_behind : (room : Option ℕ) → AreFours room → 4 ≤ extent 540544 room → AreFours (less 4 room)
fours_behind None fours le = tt
fours_behind (Some room) fours le = omega (arith, fours, le)

behind_four : (count : ℕ) (room : Option ℕ) (k : ℕ) → count ≤ 4095 → 4 ≤ extent 540544 room → k < extent (count * 132) (less 4 room) → 4 + k < extent 540544 room
behind_four count None k few le lt = omega (arith, few, lt)
behind_four count (Some room) k few le lt = omega (arith, le, lt)

-- a counter, and at most 4,095 elements of 132
few-group_part : (room : Option ℕ) (x : List ℕ) → AreFours room → 4 ≤ extent 540544 room → group_part room x ≡ unfinished → length x < extent 540544 room
unfolding group_part counted_part
few-group_part room x fours le e =
    few_behind (is_group (slice_index x 1)) x (shifted 4 (elements_part (element_part (slice_index x 1)) (count_of x) (less 4 room) (drop 4 x))) (extent 540544 room) le
    (λ n counter part.
    let some = four (is_group (slice_index x 1)) x n counter in
    let few = (holds-group_elements (slice_index x 1) (count_of x)).few (less 4 room) (drop 4 x) (fours_behind room fours le) (unfinished_shifted 4 (elements_part (element_part (slice_index x 1)) (count_of x) (less 4 room) (drop 4 x)) part) in
    let lt = behind_four (count_of x) room (length (drop 4 x)) (few-count (is_group (slice_index x 1)) x n counter) le few in
    omega (arith, lt, some, length-drop 4 x)) e

few-begun_group : (room : ℕ) (x : List ℕ) → room % 4 ≡ 0 → 4 ≤ room → begun_group room x ≡ unfinished → length x < room
few-begun_group room [] fours le e = omega (arith, le)
few-begun_group room (b ∷ x) fours le e = at (b == 45) e
  where
    at : (dash : Bool) → (if dash then group_part (Some room) (b ∷ x) else refused 0 NoStart) ≡ unfinished → length (b ∷ x) < room
    at true e = few-group_part (Some room) (b ∷ x) fours le e
    at false e = cc e

-- the groups of a wrap have no more than is left of it
few-groups_part : (most room : ℕ) (x : List ℕ) → room % 4 ≡ 0 → groups_part most room x ≡ unfinished → length x < room
unfolding groups_part
few-groups_part zero room x fours e = cc e
few-groups_part (suc most) room x fours e = elim (cases_Bool (room == 0)) [
  | inl t ↦ cc (rw t at e)
  | inr f ↦ next (let ne : room ≢ 0 = eqb-false room 0 f in omega (arith, ne, fours)) (λ n. few-groups_part most (room - n) (drop n x)) (begun_group room x) refl (rw f at e)
]
  where
    behind : (n : ℕ) (part : Part) → 4 ≤ room → (room % 4 ≡ 0 → (room - n) % 4 ≡ 0 → groups_part most (room - n) (drop n x) ≡ unfinished → length (drop n x) < room - n)
        → begun_group room x ≡ whole n → groups_part most (room - n) (drop n x) ≡ part → shifted n part ≡ unfinished → length x < room
    behind n (whole m) le more is rest e = cc e
    behind n (refused place reason) le more is rest e = cc e
    behind n unfinished le more is rest e =
        let sizes = begun_sizes room x n is le in
        let fits = fits-begun_group room x n is in
        let one = sizes.1 in
        let two = sizes.2 in
        let few = more fours (omega (arith, one, two, fours)) rest in
        omega (arith, one, fits, few, length-drop n x)

    next : 4 ≤ room → ((n : ℕ) → (room - n) % 4 ≡ 0 → groups_part most (room - n) (drop n x) ≡ unfinished → length (drop n x) < room - n)
        → (part : Part) → begun_group room x ≡ part → followed_by part (λ n. groups_part most (room - n)) x ≡ unfinished → length x < room
    next le more (whole n) is e = behind n (groups_part most (room - n) (drop n x)) le (λ fours'. more n) is refl e
    next le more (refused place reason) is e = cc e
    next le more unfinished is e = few-begun_group room x fours le is

few-wrap_part : (x : List ℕ) → wrap_part x ≡ unfinished → length x < 540544
unfolding wrap_part
few-wrap_part x e =
    few_behind true x (shifted 4 (groups_part (count_of x) (4 * count_of x) (drop 4 x))) 540544 (lit≤ tt)
    (λ n counter part.
    let some = four true x n counter in
    let count = few-count true x n counter in
    let few = few-groups_part (count_of x) (4 * count_of x) (drop 4 x) (omega arith) (unfinished_shifted 4 (groups_part (count_of x) (4 * count_of x) (drop 4 x)) part) in
    omega (arith, few, some, count, length-drop 4 x)) e

few-body_part : (limit : ℕ) (x : List ℕ) → limit ≤ 65535 → body_part limit x ≡ unfinished → length x < 540544
unfolding body_part
few-body_part limit x standard e =
    at (nat_lt (length x) 24) (not (has_version x) || nat_lt (size_of x) 24) (nat_lt limit (size_of x)) (nat_lt (length x) (size_of x)) refl refl refl e
  where
    at : (few wrong large part : Bool) → nat_lt (length x) 24 ≡ few → nat_lt limit (size_of x) ≡ large → nat_lt (length x) (size_of x) ≡ part
        → (if few then unfinished else if wrong then refused 0 Version else if large then refused 0 TooLarge else if part then unfinished else whole (size_of x)) ≡ unfinished → length x < 540544
    at true wrong large part head most all e = let lt = ltb-true (length x) 24 head in omega (arith, lt)
    at false true large part head most all e = cc e
    at false false true part head most all e = cc e
    at false false false true head most all e = let lt = ltb-true (length x) (size_of x) all in let le = ltb-false limit (size_of x) most in omega (arith, lt, le, standard)
    at false false false false head most all e = cc e

few-attached_part : (x : List ℕ) → attached_part x ≡ unfinished → length x < 540544
few-attached_part x e = at (slice_index x 1 == 86) e
  where
    at : (wrap : Bool) → (if wrap then wrap_part x else group_part None x) ≡ unfinished → length x < 540544
    at true e = few-wrap_part x e
    at false e = few-group_part None x tt (lit≤ tt) e

-- a group of 4,095 keys with their signatures is the greatest item
pub few-front : (limit : ℕ) (begun : Bool) (x : List ℕ) → limit ≤ 65535 → front limit begun x ≡ unfinished → length x < 540544
unfolding front
few-front limit begun [] standard e = lit< tt
few-front limit begun (b ∷ x) standard e = at (b == 123) (b == 45) e
  where
    behind : (begun : Bool) (part : Part) → behind_body begun part ≡ unfinished → part ≡ unfinished
    behind true part e = e
    behind false (whole n) e = cc e
    behind false (refused place reason) e = cc e
    behind false unfinished e = refl

    at : (brace dash : Bool) → (if brace then body_part limit (b ∷ x) else if dash then behind_body begun (attached_part (b ∷ x)) else refused 0 NoStart) ≡ unfinished → length (b ∷ x) < 540544
    at true dash e = few-body_part limit (b ∷ x) standard e
    at false true e = few-attached_part (b ∷ x) (behind begun (attached_part (b ∷ x)) e)
    at false false e = cc e
