-- A log that extends another, and what cutting it back gives.
use Rattle.std.proofs.Common.{◌≡◌, ℕ, ◌-◌, ◌<◌, ◌≤◌, true, false, nat_lt, List, [], ◌∷◌, ◌++◌, length, take, drop, Some, refl, sym, ◌∙◌, ap, arith, length-append}
use Rattle.std.specs.Prelude.{slice_get}
use Rattle.std.proofs.Math.Seq.{take-append_seam, take-length, drop-append_seam, drop-length}
use Rattle.std.proofs.lemmas.Bool.Decides.{nat_tests}
use Rattle.std.proofs.lemmas.List.{take-take, take_all}
use Rattle.cesr_codes.specs.declared.digest.Digest.{Digest}
use Rattle.key_state.specs.States.{State}
use Rattle.validator_core.specs.declared.tables.accepted_log.place.Place.{Place}
use Rattle.validator_core.specs.Tables.AcceptedLog.Values.{Extends, Log, at_place, established, gone_onto, has_more, undone, undone_all, with_since, without_last}
use Rattle.validator_core.proofs.TablesLemmas.AcceptedLogLemmas.Lists.{at_place_back, at_place_here, drop_parts}
use Rattle.lists.proofs.ListsLemmas.Places.{at_end}

pub undone_all-append : (earlier later : List Place) (states : List State) → undone_all (earlier ++ later) states ≡ undone_all earlier (undone_all later states)
undone_all-append [] later states = refl
undone_all-append (p ∷ earlier) later states = ap (undone p.state) (undone_all-append earlier later states)

-- a log extends itself
pub extends_refl : (v : Log) → length v.places ≡ length v.numbers → Extends v v
extends_refl v even =
    let places : take (length v.numbers) v.places ≡ v.places = take_all (length v.numbers) v.places (omega (arith, even)) in
    let rest : drop (length v.numbers) v.places ≡ [] = ap (λ n. drop n v.places) (sym even) ∙ drop-length v.places in
    record {
      back = λ i. record { numbers = take-length v.numbers i; places = places i; states = undone_all (rest i) v.states };
      longer = omega arith;
    }

-- and what extends one that extends a third extends the third
pub extends_trans : (u v w : Log) → Extends u v → Extends v w → Extends u w
extends_trans u v w h k =
    let m = length u.numbers in let n = length v.numbers in
    let le : m ≤ n = h.longer in let longer = k.longer in
    let numbers : take m w.numbers ≡ u.numbers = sym (take-take m n w.numbers le) ∙ ap (λ v. take m v.numbers) k.back ∙ ap (λ v. v.numbers) h.back in
    let places : take m w.places ≡ u.places = sym (take-take m n w.places le) ∙ ap (λ v. take m v.places) k.back ∙ ap (λ v. v.places) h.back in
    let states : undone_all (drop m w.places) w.states ≡ u.states =
    ap (λ ps. undone_all ps w.states) (drop_parts m n w.places le)
    ∙ undone_all-append (drop m (take n w.places)) (drop n w.places) w.states
    ∙ ap (λ (v : Log). undone_all (drop m v.places) v.states) k.back
    ∙ ap (λ v. v.states) h.back in
    record {
      back = λ i. record { numbers = numbers i; places = places i; states = states i };
      longer = omega (arith, le, longer);
    }

-- where one more number and place came
one_back : (v w : Log) (number : ℕ) (p : Place) → length v.places ≡ length v.numbers → w.numbers ≡ v.numbers ++ number ∷ [] → w.places ≡ v.places ++ p ∷ [] → undone p.state w.states ≡ v.states → Extends v w
one_back v w number p even numbers places states =
    let n = length v.numbers in
    let ns : take n w.numbers ≡ v.numbers = ap (take n) numbers ∙ take-append_seam v.numbers (number ∷ []) in
    let ps : take n w.places ≡ v.places = ap (λ n. take n w.places) (sym even) ∙ ap (take (length v.places)) places ∙ take-append_seam v.places (p ∷ []) in
    let rest : drop n w.places ≡ p ∷ [] = ap (λ n. drop n w.places) (sym even) ∙ ap (drop (length v.places)) places ∙ drop-append_seam v.places (p ∷ []) in
    let ss : undone_all (drop n w.places) w.states ≡ v.states = ap (λ ps. undone_all ps w.states) rest ∙ states in
    let more = ap length numbers ∙ length-append v.numbers (number ∷ []) in
    record {
      back = λ i. record { numbers = ns i; places = ps i; states = ss i };
      longer = omega (arith, more);
    }

-- the state of an establishment event goes
pub extends_established : (number entries : ℕ) (s : State) (v : Log) → length v.places ≡ length v.numbers → length s.since ≡ 1 → Extends v (established number entries s v)
extends_established number entries s v even alone =
    one_back v _ number _ even refl refl
    (let at = at_end v.states s in
    let few : has_more (slice_get (v.states ++ s ∷ []) (length v.states)) ≡ false = ap has_more at ∙ (let one : nat_lt 1 (length s.since) ≡ false = grind (arith, nat_tests, alone) in one) in
    rw few (take-append_seam v.states (s ∷ [])))

-- the digest of an interaction goes
pub last_goes : (d : Digest) (s : State) → without_last (with_since d s) ≡ s
last_goes d s = ap (λ (ds : List Digest). record s { since = ds }) (go s.since)
  where
    go : (ds : List Digest) → take (length (ds ++ d ∷ []) - 1) (ds ++ d ∷ []) ≡ ds
    go ds = let n = length-append ds (d ∷ []) in let e : length (ds ++ d ∷ []) - 1 ≡ length ds = omega (arith, n) in rw e (take-append_seam ds (d ∷ []))

pub extends_interacted : (number entries : ℕ) (d : Digest) (k : ℕ) (s : State) (v : Log) → length v.places ≡ length v.numbers → slice_get v.states k ≡ Some s → 0 < length s.since → Extends v (gone_onto number entries d (Some k) v)
extends_interacted number entries d k s v even at some =
    one_back v _ number _ even refl refl
    (let now = at_place_here (with_since d) v.states k s at in
    let len = length-append s.since (d ∷ []) in
    let more : nat_lt 1 (length (s.since ++ d ∷ [])) ≡ true = grind (arith, nat_tests, len, some) in
    let has : has_more (slice_get (at_place k (with_since d) v.states) k) ≡ true = ap has_more now ∙ more in
    rw has (at_place_back without_last (with_since d) v.states k s at (last_goes d s)))
