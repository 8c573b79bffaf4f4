-- Wraps that are read on.
use Rattle.std.proofs.Common.{◌≡◌, ℕ, zero, suc, ◌+◌, ◌-◌, ◌*◌, ◌/◌, ◌%◌, ◌<◌, ◌≤◌, ◌==◌, ◌^◌, true, false, List, [], ◌∷◌, ◌++◌, length, take, drop, slice_index, flat_map, refl, sym, ap, ◌∙◌, arith, append-nil, append_assoc, length-append, length-drop, length-take, Option, Some, None, subst}
use Rattle.std.specs.Prelude.{All}
use Rattle.std.proofs.Math.Seq.{take-add}
use Rattle.std.proofs.lemmas.List.Elements.{All-append, All-cons, All-nil}
use Rattle.std.proofs.lemmas.Bool.{eqb-true, eq-eqb, false_from_ne_true}
use Rattle.std.proofs.lemmas.List.{drop-drop, drop-append-le, take-append-le}
use Rattle.lists.specs.KeriSpecs.Base64.{base64_text}
use Rattle.cesr_stream.specs.declared.begun_group.BegunGroup.{BegunGroup}
use Rattle.cesr_stream.specs.declared.begun_wrap.BegunWrap.{BegunWrap}
use Rattle.cesr_stream.specs.declared.group.Group.{Group}
use Rattle.cesr_stream.specs.declared.stop.Stop.{Stop}
use Rattle.cesr_stream.specs.Begun.{AreGroupsRead, IsBegun, IsBegunIn, IsBegunWrap, IsWholeGroup, IsWholeWrap, MayBeBegun}
use Rattle.cesr_stream.specs.Front.{counter_part, count_of, group_part, begun_group, groups_part, wrap_part, behind_counter}
use Rattle.cesr_stream.specs.Parts.{Part, whole, shifted, followed_by}
use Rattle.cesr_stream.specs.Stops.{Stops, Halts, further}
use Rattle.cesr_stream.specs.Texts.{group_text}
use Rattle.cesr_stream.specs.Written.{IsCounted}
use Rattle.cesr_stream.proofs.BegunGroups.{begun_more, counter_more, shifted-zero}
use Rattle.cesr_stream.proofs.Counters.{count_low, counter_text}
use Rattle.cesr_stream.proofs.Fronts.{begun_sizes, stays-begun_group}
use Rattle.cesr_stream.proofs.ReadElements.{shifted-shifted, text-more}
use Rattle.cesr_stream.proofs.StopLemmas.{halts-further, halts-followed, stops-counter}

-- nothing of the wrap is left
pub groups-done : (most : ℕ) (bytes : List ℕ) → groups_part most 0 bytes ≡ whole 0
unfolding groups_part
groups-done zero bytes = refl
groups-done (suc most) bytes = refl

some_left : (left : ℕ) → 0 < left → (left == 0) ≡ false
some_left left lt = false_from_ne_true (left == 0) (λ e. omega (arith, lt, eqb-true left 0 e))

-- one group is the next, and then the others
groups-one : (most rest left : ℕ) (bytes : List ℕ) → most ≡ suc rest → 0 < left → groups_part most left bytes ≡ followed_by (begun_group left bytes) (λ n. groups_part rest (left - n)) bytes
unfolding groups_part
groups-one most rest left bytes more some = ap (λ k. groups_part k left bytes) more ∙ rw (some_left left some) refl

-- the group that begins with a dash is the next of a wrap
pub begun_in : (bytes : List ℕ) (group : BegunGroup) → slice_index bytes 0 ≡ 45 → 1 ≤ length bytes → ((room : Option ℕ) → IsBegun room bytes group) → (room : ℕ) → IsBegunIn room bytes group
begun_in [] group dash some is room = absurd (omega arith)
begun_in (b ∷ bytes) group dash some is room = record { group = is (Some room); same = λ more. rw (eq-eqb b 45 dash) refl }

-- the group that was begun stands, whatever follows
pub begun_in_more : (room : ℕ) (bytes piece : List ℕ) (begun : Option BegunGroup) → MayBeBegun room bytes begun → MayBeBegun room (bytes ++ piece) begun
begun_in_more room bytes piece None is = tt
begun_in_more room bytes piece (Some begun) is = record {
  group = begun_more (Some room) bytes begun is.group piece;
  same = λ more. subst (λ xs. begun_group room xs ≡ group_part (Some room) xs) (sym (append_assoc bytes piece more)) (is.same (piece ++ more));
}

module _ (bytes : List ℕ) (wrap : BegunWrap) (read : AreGroupsRead bytes wrap) where
  -- what is judged of those left is judged of all
  groups_same : shifted wrap.place (groups_part (wrap.fours - length wrap.groups) (4 * wrap.fours - wrap.place) (drop wrap.place bytes)) ≡ groups_part wrap.fours (4 * wrap.fours) bytes
  groups_same =
      ap (λ xs. shifted wrap.place (groups_part (wrap.fours - length wrap.groups) (4 * wrap.fours - wrap.place) (drop wrap.place xs))) (sym (append-nil bytes))
      ∙ read.same [] ∙ ap (groups_part wrap.fours (4 * wrap.fours)) (append-nil bytes)

  -- all are there
  pub groups_whole : wrap.place ≡ 4 * wrap.fours → groups_part wrap.fours (4 * wrap.fours) bytes ≡ whole wrap.place
  groups_whole all =
      sym groups_same
      ∙ ap (λ left. shifted wrap.place (groups_part (wrap.fours - length wrap.groups) left (drop wrap.place bytes))) (let none : 4 * wrap.fours - wrap.place ≡ 0 = omega (arith, all) in none)
      ∙ ap (shifted wrap.place) (groups-done (wrap.fours - length wrap.groups) (drop wrap.place bytes)) ∙ ap whole (omega arith)

  module _ (more_left : wrap.place < 4 * wrap.fours) where
    one_less : wrap.fours - length wrap.groups ≡ suc (wrap.fours - length wrap.groups - 1)
    one_less = let enough = read.enough in omega (arith, enough, more_left)

    -- one isn't whole
    pub groups_halt : (stop : Stop) → Halts (drop wrap.place bytes) (begun_group (4 * wrap.fours - wrap.place) (drop wrap.place bytes)) stop
        → Halts bytes (groups_part wrap.fours (4 * wrap.fours) bytes) (further wrap.place stop)
    groups_halt stop halts =
        let left = 4 * wrap.fours - wrap.place in
        let behind = drop wrap.place bytes in
        let rest = wrap.fours - length wrap.groups - 1 in
        let next : ℕ → List ℕ → Part = λ n. groups_part rest (left - n) in
        let all : shifted wrap.place (followed_by (begun_group left behind) next behind) ≡ groups_part wrap.fours (4 * wrap.fours) bytes
        = ap (shifted wrap.place) (sym (groups-one (wrap.fours - length wrap.groups) rest left behind one_less (omega (arith, more_left)))) ∙ groups_same in
        subst (λ part. Halts bytes part (further wrap.place stop)) all
        (halts-further bytes wrap.place (followed_by (begun_group left behind) next behind) stop read.within (halts-followed behind behind (begun_group left behind) next stop halts))

    -- one more was read
    pub groups_on : (begun : BegunGroup) (new : BegunWrap) → IsWholeGroup (begun_group (4 * wrap.fours - wrap.place) (drop wrap.place bytes)) (drop wrap.place bytes) begun
        → new.groups ≡ wrap.groups ++ begun.group ∷ [] → new.fours ≡ wrap.fours → new.place ≡ wrap.place + (4 + begun.progress.place) → new.begun ≡ None → AreGroupsRead bytes new
    groups_on begun new is pushed fours further none = record {
      few = omega (arith, count, enough, fours, more_left);
      within = let within = read.within in let fits = is.within in omega (arith, further, within, fits, length-drop wrap.place bytes);
      room = omega (arith, further, fours, sizes.1, more_left);
      whole_fours = let before = read.whole_fours in omega (arith, further, before, sizes.2);
      enough = omega (arith, count, enough, fours, further, more_left);
      spelled = ap (λ place. take place bytes) further ∙ text-more group_text bytes wrap.place n wrap.groups begun.group read.spelled is.spelled ∙ sym (ap (flat_map group_text) pushed);
      counted = subst (All IsCounted) (sym pushed) (All-append IsCounted wrap.groups (begun.group ∷ []) read.counted (All-cons IsCounted begun.group [] is.counted (All-nil IsCounted)));
      same = λ more. same_on more;
      next = subst (λ b. MayBeBegun (4 * new.fours - new.place) (drop new.place bytes) b) (sym none) tt;
    }
      where
        n : ℕ
        n = 4 + begun.progress.place

        count : length new.groups ≡ length wrap.groups + 1
        count = omega (arith, ap length pushed, length-append wrap.groups (begun.group ∷ []))

        enough : 4 * wrap.fours - wrap.place ≤ 4 * (wrap.fours - length wrap.groups)
        enough = read.enough

        sizes : (4 ≤ n) × (n ≤ 4 * wrap.fours - wrap.place) × (n % 4 ≡ 0)
        sizes =
            let before = read.whole_fours in
            begun_sizes (4 * wrap.fours - wrap.place) (drop wrap.place bytes) n is.is_whole (omega (arith, more_left, before))

        same_on : (more : List ℕ) → shifted new.place (groups_part (new.fours - length new.groups) (4 * new.fours - new.place) (drop new.place (bytes ++ more))) ≡ groups_part new.fours (4 * new.fours) (bytes ++ more)
        same_on more =
            let left = 4 * wrap.fours - wrap.place in
            let behind : List ℕ = drop wrap.place (bytes ++ more) in
            let rest = wrap.fours - length wrap.groups - 1 in
            let here : begun_group left behind ≡ whole n
            = ap (begun_group left) (drop-append-le wrap.place bytes more read.within) ∙ stays-begun_group left (drop wrap.place bytes) more (λ e. let whole_is = is.is_whole in cc (whole_is, e)) ∙ is.is_whole in
            ap (λ place. shifted place (groups_part (new.fours - length new.groups) (4 * new.fours - place) (drop place (bytes ++ more)))) further
            ∙ ap (λ k. shifted (wrap.place + n) (groups_part k (4 * new.fours - (wrap.place + n)) (drop (wrap.place + n) (bytes ++ more)))) (let e : new.fours - length new.groups ≡ rest = omega (arith, count, fours) in e)
            ∙ ap (λ k. shifted (wrap.place + n) (groups_part rest k (drop (wrap.place + n) (bytes ++ more)))) (let e : 4 * new.fours - (wrap.place + n) ≡ left - n = omega (arith, fours) in e)
            ∙ sym (ap (shifted wrap.place) (groups-one (wrap.fours - length wrap.groups) rest left behind one_less (omega (arith, more_left)))
            ∙ ap (λ part. shifted wrap.place (followed_by part (λ m. groups_part rest (left - m)) behind)) here
            ∙ shifted-shifted wrap.place n (groups_part rest (left - n) (drop n behind))
            ∙ ap (λ xs. shifted (wrap.place + n) (groups_part rest (left - n) xs)) (drop-drop n wrap.place (bytes ++ more)))
            ∙ read.same more ∙ ap (λ k. groups_part k (4 * k) (bytes ++ more)) (sym fours)

  -- more bytes change nothing
  pub groups_more : (piece : List ℕ) → AreGroupsRead (bytes ++ piece) wrap
  groups_more piece = record {
    few = read.few;
    within = let within = read.within in omega (arith, within, length-append bytes piece);
    room = read.room;
    whole_fours = read.whole_fours;
    enough = read.enough;
    spelled = take-append-le wrap.place bytes piece read.within ∙ read.spelled;
    counted = read.counted;
    same = λ more. subst
        (λ xs. shifted wrap.place (groups_part (wrap.fours - length wrap.groups) (4 * wrap.fours - wrap.place) (drop wrap.place xs)) ≡ groups_part wrap.fours (4 * wrap.fours) xs)
        (sym (append_assoc bytes piece more)) (read.same (piece ++ more));
    next = subst (λ xs. MayBeBegun (4 * wrap.fours - wrap.place) xs wrap.begun) (sym (drop-append-le wrap.place bytes piece read.within))
        (begun_in_more (4 * wrap.fours - wrap.place) (drop wrap.place bytes) piece wrap.begun read.next);
  }

-- a wrap is begun once its counter is read
pub wrap_begun : (bytes : List ℕ) (fours : ℕ) (groups : List Group) → slice_index bytes 0 ≡ 45 → slice_index bytes 1 ≡ 86 → fours ≡ count_of bytes → fours < 2 ^ 32 → counter_part true bytes ≡ whole 4 → 4 ≤ length bytes
    → groups ≡ [] → IsBegunWrap bytes (record { groups = groups; fours = fours; place = 0; begun = None })
unfolding wrap_part
wrap_begun bytes fours groups dash letter count short counter long none = record {
  long = long;
  short = short;
  few = let low = count_low true bytes counter long in omega (arith, count, low);
  counter = counter_text true bytes dash counter long ∙ ap (λ l. 45 ∷ l ∷ base64_text 2 (count_of bytes)) letter ∙ ap (λ k. 45 ∷ 86 ∷ base64_text 2 k) (sym count);
  same = λ more.
      let same = counter_more bytes more true long counter in
      ap (λ c. behind_counter c (shifted 4 (groups_part (count_of (bytes ++ more)) (4 * count_of (bytes ++ more)) (drop 4 (bytes ++ more))))) same.0
      ∙ ap (λ k. shifted 4 (groups_part k (4 * k) (drop 4 (bytes ++ more)))) (same.2 ∙ sym count);
  groups = record {
    few = omega (arith, no_groups);
    within = omega arith;
    room = omega arith;
    whole_fours = refl;
    enough = omega (arith, no_groups);
    spelled = sym (ap (flat_map group_text) none);
    counted = subst (All IsCounted) (sym none) (All-nil IsCounted);
    same = λ more. shifted-zero (groups_part (fours - length groups) (4 * fours - 0) (drop 0 (drop 4 bytes ++ more)))
        ∙ ap (λ k. groups_part k (4 * fours - 0) (drop 4 bytes ++ more)) (let e : fours - length groups ≡ fours = omega (arith, no_groups) in e)
        ∙ ap (λ left. groups_part fours left (drop 4 bytes ++ more)) (let e : 4 * fours - 0 ≡ 4 * fours = omega arith in e);
    next = tt;
  };
}
  where
    no_groups : length groups ≡ 0
    no_groups = ap length none

-- or its counter isn't
pub wrap_stops : (bytes : List ℕ) (stop : Stop) → Stops bytes (counter_part true bytes) stop → Stops bytes (wrap_part bytes) stop
unfolding wrap_part
wrap_stops bytes stop stops = stops-counter bytes (counter_part true bytes) (shifted 4 (groups_part (count_of bytes) (4 * count_of bytes) (drop 4 bytes))) stop stops

module _ (bytes : List ℕ) (old : BegunWrap) (is : IsBegunWrap bytes old) where
  wrap_same : wrap_part bytes ≡ shifted 4 (groups_part old.fours (4 * old.fours) (drop 4 bytes))
  wrap_same =
      ap wrap_part (sym (append-nil bytes)) ∙ is.same []
      ∙ ap (λ xs. shifted 4 (groups_part old.fours (4 * old.fours) (drop 4 xs))) (append-nil bytes)

  -- more of its groups are read
  pub wrap_on : (new : BegunWrap) → new.fours ≡ old.fours → AreGroupsRead (drop 4 bytes) new → IsBegunWrap bytes new
  wrap_on new same read = record {
    long = is.long;
    short = let short = is.short in omega (arith, short, same);
    few = let few = is.few in omega (arith, few, same);
    counter = is.counter ∙ ap (λ k. 45 ∷ 86 ∷ base64_text 2 k) (sym same);
    same = λ more. is.same more ∙ ap (λ k. shifted 4 (groups_part k (4 * k) (drop 4 (bytes ++ more)))) (sym same);
    groups = read;
  }

  pub wrap_halts : (stop : Stop) → Halts (drop 4 bytes) (groups_part old.fours (4 * old.fours) (drop 4 bytes)) stop → Halts bytes (wrap_part bytes) (further 4 stop)
  wrap_halts stop halts =
      subst (λ part. Halts bytes part (further 4 stop)) (sym wrap_same) (halts-further bytes 4 (groups_part old.fours (4 * old.fours) (drop 4 bytes)) stop is.long halts)

  -- all of them are
  pub wrap_whole : old.place ≡ 4 * old.fours → IsWholeWrap bytes old
  wrap_whole all = record {
    is_whole = wrap_same ∙ ap (shifted 4) (groups_whole (drop 4 bytes) old is.groups all);
    spelled = take-add 4 old.place bytes ∙ ap (λ front. front ++ take old.place (drop 4 bytes)) is.counter
        ∙ ap (λ text. (45 ∷ 86 ∷ base64_text 2 old.fours) ++ text) is.groups.spelled
        ∙ ap (λ k. 45 ∷ 86 ∷ (base64_text 2 k ++ flat_map group_text old.groups)) fours;
    within = let long = is.long in let within = is.groups.within in omega (arith, long, within, length-drop 4 bytes);
    counted = is.groups.counted;
    short = let few = is.few in omega (arith, few, sized);
  }
    where
      sized : length (flat_map group_text old.groups) ≡ 4 * old.fours
      sized = let within = is.groups.within in omega (arith, all, within, length-take old.place (drop 4 bytes), ap length is.groups.spelled)

      fours : old.fours ≡ length (flat_map group_text old.groups) / 4
      fours = let within = is.groups.within in let spelled = is.groups.spelled in omega (arith, all, within, length-take old.place (drop 4 bytes), ap length spelled)

  -- more bytes change nothing
  pub wrap_more : (piece : List ℕ) → IsBegunWrap (bytes ++ piece) old
  wrap_more piece = record {
    long = let long = is.long in omega (arith, long, length-append bytes piece);
    short = is.short;
    few = is.few;
    counter = take-append-le 4 bytes piece is.long ∙ is.counter;
    same = λ more. subst (λ xs. wrap_part xs ≡ shifted 4 (groups_part old.fours (4 * old.fours) (drop 4 xs))) (sym (append_assoc bytes piece more)) (is.same (piece ++ more));
    groups = subst (λ xs. AreGroupsRead xs old) (sym (drop-append-le 4 bytes piece is.long)) (groups_more (drop 4 bytes) old is.groups piece);
  }
