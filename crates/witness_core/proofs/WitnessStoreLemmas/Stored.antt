-- What is stored of the accepted payloads.
use Rattle.std.proofs.Common.{◌≡◌, ◌≤◌, ◌<◌, ◌+◌, ℕ, List, [], ◌∷◌, ◌++◌, length, take, drop, map, slice_get, Some, None, refl, sym, ◌∙◌, ap, ⊎_elim, arith, length-append, append_assoc, append-nil, Bool, true, false, subst, Err}
use Rattle.std.proofs.lemmas.Bool.Decides.{nat_tests}
use Rattle.std.proofs.lemmas.List.{drop_all, map-append}
use Rattle.journal_views.specs.EventPayload.Payloads.{text_in}
use Rattle.journal.specs.declared.journal.body.Body.{Body}
use Rattle.shelf_log.specs.KeriDisk.Images.{DiskShown}
use Rattle.shelf_log.proofs.KeriDiskLemmas.Moments.{KnowsNow, and_then, none_yet, weaker}
use Rattle.keri_outside.specs.declared.limits.Limits.{Limits}
use Rattle.shelf_log.specs.ShelfLog.Answers.{Answers, refusal}
use Rattle.shelf_log.specs.ShelfLog.Format.{Holds, shelf_size}
use Rattle.shelf_log.specs.ShelfLog.OnDisk.{AllHold, HoldsEither}
use Rattle.shelf_log.specs.declared.shelf_log.fault.ShelfFault.{ShelfFault}
use Rattle.shelf_log.specs.declared.shelf_log.fault.ShelfFault.TheVariants.{DiskFault, NotAShelf, LimitReached, Broken, OutOfMemory}
use Rattle.shelf_log.specs.declared.shelf_log.version.Version.TheVariants.{Two}
use Rattle.shelf_log.proofs.ShelfLogLemmas.Files.{length-front-push}
use Rattle.witness_core.specs.WitnessStore.Histories.{History, log_in}
use Rattle.witness_core.specs.WitnessStore.Payloads.{payload_now}
use Rattle.witness_core.specs.WitnessStore.Room.{HasRoom}
use Rattle.witness_core.specs.declared.witness_store.room.Room.{Room}
use Rattle.witness_core.specs.WitnessStore.Storing.{Appends, GoesOn, HoldsFirst, IsOnWay, missing, payloads}
use Rattle.witness_core.proofs.WitnessStoreLemmas.Lists.{drop_place, drop_within, take_front, take_place, take_within}

-- one payload more
pub size_push : (list : List (List ℕ)) (payload : List ℕ) → shelf_size Two (list ++ payload ∷ []) ≡ shelf_size Two list + 5 + length payload
size_push list payload = omega (arith, length-front-push Two list payload)

-- where there is room for a payload it isn't refused
pub not_refused : (limits : Limits) (list : List (List ℕ)) (n : ℕ) → length list < limits.records → shelf_size Two list + 5 + n ≤ limits.shelf_bytes → refusal false limits list n ≡ None
not_refused limits list n few short = grind (arith, nat_tests, few, short)

-- it is neither of the disk nor of memory
abbrev pub is_other : ShelfFault → Bool
is_other DiskFault = false
is_other OutOfMemory = false
is_other (NotAShelf place) = true
is_other LimitReached = true
is_other Broken = true

-- where there is room for a payload, an append fails for the disk or for memory
pub only_those : (limits : Limits) (list : List (List ℕ)) (n : ℕ) (broken : Bool) (fault : ShelfFault) → length list < limits.records → shelf_size Two list + 5 + n ≤ limits.shelf_bytes
    → broken ≡ false → Answers (refusal broken limits list n) (Err fault) → is_other fault ≡ true → ⊥
only_those limits list n broken fault few short whole answers shown = ⊎_elim
    (λ is. let no : false ≡ true = sym (ap is_other is) ∙ shown in cc)
    (λ is. let no : false ≡ true = sym (ap is_other is) ∙ shown in cc)
    (subst (λ r. Answers r (Err fault)) (ap (λ b. refusal b limits list n) whole ∙ not_refused limits list n few short) answers)

-- a file that stands for the list stands for it with none of what was accepted since
pub first_held : (list rest : List (List ℕ)) (c : List ℕ) → Holds Two c list → HoldsFirst list (list ++ rest) c
first_held list rest c holds = record {
  count = length list;
  no_fewer = omega arith;
  no_more = omega (arith, length-append list rest);
  holds = subst (λ l. Holds Two c l) (sym (take_front list rest)) holds;
}

-- a payload more was stored, or not
pub first_either : (list rest accepted : List (List ℕ)) (payload c : List ℕ) → accepted ≡ (list ++ payload ∷ []) ++ rest → HoldsEither list payload c → HoldsFirst list accepted c
first_either list rest accepted payload c is either = ⊎_elim
    (λ old. subst (λ a. HoldsFirst list a c) (sym (is ∙ append_assoc list (payload ∷ []) rest)) (first_held list (payload ∷ rest) c old))
    (λ new. let f = first_held (list ++ payload ∷ []) rest c new in subst (λ a. HoldsFirst list a c) (sym is) (record {
      count = f.count;
      no_fewer = omega (arith, f.no_fewer, length-append list (payload ∷ []));
      no_more = f.no_more;
      holds = f.holds;
    }))
    either

-- what holds behind a longer list and among fewer accepted ones, holds behind a shorter and among more
pub first_wider : (list longer accepted more : List (List ℕ)) (c : List ℕ) → length list ≤ length longer → HoldsFirst longer accepted c → HoldsFirst list (accepted ++ more) c
first_wider list longer accepted more c le first = record {
  count = first.count;
  no_fewer = omega (arith, le, first.no_fewer);
  no_more = omega (arith, first.no_more, length-append accepted more);
  holds = subst (λ l. Holds Two c l) (sym (take_within accepted more first.count first.no_more)) first.holds;
}

module _ (h : History) where
  -- where all is stored nothing is missing
  pub missing_none : (list : List (List ℕ)) → length list ≡ length (log_in h) → missing h list ≡ []
  missing_none list all = ap (map (payload_now h.told (log_in h))) (drop_all (length list) (log_in h) (omega (arith, all)))

  pub payloads_all : (list : List (List ℕ)) → length list ≡ length (log_in h) → payloads h list ≡ list
  payloads_all list all = ap (λ l. list ++ l) (missing_none list all) ∙ append-nil list

  -- the payload that comes next
  module _ (list : List (List ℕ)) (b : Body) (payload : List ℕ) (at : slice_get (log_in h) (length list) ≡ Some b) (is : payload ≡ payload_now h.told (log_in h) b) where
    longer_by : length (list ++ payload ∷ []) ≡ length list + 1
    longer_by = length-append list (payload ∷ [])

    pub missing_next : missing h list ≡ payload ∷ missing h (list ++ payload ∷ [])
    missing_next = ap (map (payload_now h.told (log_in h))) (drop_place (log_in h) (length list) b at)
        ∙ (λ i. sym is i ∷ map (payload_now h.told (log_in h)) (drop (sym longer_by i) (log_in h)))

    pub payloads_next : payloads h list ≡ (list ++ payload ∷ []) ++ missing h (list ++ payload ∷ [])
    payloads_next = ap (λ l. list ++ l) missing_next ∙ sym (append_assoc list (payload ∷ []) (missing h (list ++ payload ∷ [])))

    pub on_way_next : text_in payload ≡ b.bytes → length list < length (log_in h) → IsOnWay h list → IsOnWay h (list ++ payload ∷ [])
    on_way_next reads lacking way = record {
      front = omega (arith, longer_by, lacking);
      based = omega (arith, longer_by, way.based);
      texts = ap (map _) (take_within list (payload ∷ []) h.based way.based) ∙ way.texts;
      read = map-append text_in list (payload ∷ []) ∙ (λ i. way.read i ++ reads i ∷ []) ∙ sym (map-append (λ (c : Body). c.bytes) (take (length list) (log_in h)) (b ∷ []))
          ∙ ap (map (λ (c : Body). c.bytes)) (sym (take_place (log_in h) (length list) b at)) ∙ ap (λ n. map (λ (c : Body). c.bytes) (take n (log_in h))) (sym longer_by);
      all = ap (λ l. l ++ missing h (list ++ payload ∷ [])) (drop_within list (payload ∷ []) h.based way.based)
          ∙ append_assoc (drop h.based list) (payload ∷ []) (missing h (list ++ payload ∷ []))
          ∙ ap (λ l. drop h.based list ++ l) (sym missing_next)
          ∙ way.all;
    }

  -- nothing was appended
  pub appends_none : (list : List (List ℕ)) (shown : DiskShown) → KnowsNow shown → IsOnWay h list → AllHold shown list → Appends list shown h list shown
  appends_none list shown knows way holds = record {
    on_way = way;
    same = refl;
    longer = omega arith;
    images = λ c now. first_held list (missing h list) c (holds c now);
    moments = none_yet shown (HoldsFirst list (payloads h list)) knows (λ c now. first_held list (missing h list) c (holds c now));
  }

  -- appended, and then more
  pub appends_more : (first list longer : List (List ℕ)) (shown mid last : DiskShown) → Appends first shown h list mid → Appends list mid h longer last → Appends first shown h longer last
  appends_more first list longer shown mid last a b = record {
    on_way = b.on_way;
    same = b.same ∙ a.same;
    longer = omega (arith, a.longer, b.longer);
    images = b.images;
    moments = and_then shown mid last (HoldsFirst first (payloads h longer))
        (weaker shown mid (HoldsFirst first (payloads h list)) (HoldsFirst first (payloads h longer)) (λ c holds. subst (λ p. HoldsFirst first p c) (sym b.same) holds) a.moments)
        (weaker mid last (HoldsFirst list (payloads h longer)) (HoldsFirst first (payloads h longer))
        (λ c f. record { count = f.count; no_fewer = omega (arith, a.longer, f.no_fewer); no_more = f.no_more; holds = f.holds }) b.moments);
  }

  pub goes_of : (list longer : List (List ℕ)) (shown last : DiskShown) → Appends list shown h longer last → GoesOn list shown h longer last
  goes_of list longer shown last a = record {
    on_way = a.on_way;
    grown = (missing h list, a.same);
    longer = a.longer;
    images = a.images;
    moments = a.moments;
  }

  -- an entry came, or none, and nothing was appended
  pub goes_none : (list : List (List ℕ)) (shown : DiskShown) → KnowsNow shown → IsOnWay h list → AllHold shown list → GoesOn list shown h list shown
  goes_none list shown knows way holds = goes_of list list shown shown (appends_none list shown knows way holds)

-- a run that stored all, and then another
pub goes_more : (h later : History) (first list longer : List (List ℕ)) (shown mid last : DiskShown) → GoesOn first shown h list mid → length list ≡ length (log_in h)
    → GoesOn list mid later longer last → GoesOn first shown later longer last
goes_more h later first list longer shown mid last a all b =
    let list_is : list ≡ first ++ a.grown.0 = sym (payloads_all h list all) ∙ a.grown.1 in
    let goes : payloads later longer ≡ payloads h list ++ b.grown.0 = b.grown.1 ∙ ap (λ l. l ++ b.grown.0) (sym (payloads_all h list all)) in
    record {
      on_way = b.on_way;
      grown = (a.grown.0 ++ b.grown.0, b.grown.1 ∙ ap (λ l. l ++ b.grown.0) list_is ∙ append_assoc first a.grown.0 b.grown.0);
      longer = omega (arith, a.longer, b.longer);
      images = b.images;
      moments = and_then shown mid last (HoldsFirst first (payloads later longer))
          (weaker shown mid (HoldsFirst first (payloads h list)) (HoldsFirst first (payloads later longer))
          (λ c holds. subst (λ p. HoldsFirst first p c) (sym goes) (first_wider first first (payloads h list) b.grown.0 c (omega arith) holds)) a.moments)
          (weaker mid last (HoldsFirst list (payloads later longer)) (HoldsFirst first (payloads later longer))
          (λ c f. record { count = f.count; no_fewer = omega (arith, a.longer, f.no_fewer); no_more = f.no_more; holds = f.holds }) b.moments);
    }

-- what is kept while payloads are stored
pub record IsStoring (h : History) (first list : List (List ℕ)) (shown_old shown : DiskShown) (limits_old limits : Limits) (broken : Bool) (room : Room) : Type 0 where
  pub appends : Appends first shown_old h list shown
  pub fits : HasRoom limits h list room
  pub whole : broken ≡ false
  pub holds : AllHold shown list
  pub same_limits : limits ≡ limits_old
  pub faults : shown.faults ≡ shown_old.faults
