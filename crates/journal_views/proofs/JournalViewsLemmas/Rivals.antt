-- The sets of bodies in order, cut where the place changes, are the conflicts.
use Rattle.std.proofs.Common.{◌≡◌, ◌⊎◌, ◌≤◌, zero, suc, true, false, not, List, [], ◌∷◌, ◌++◌, length, refl, sym, subst, ◌∙◌, ap, inl, inr, get_or, Ordering, arith}
use Rattle.std.proofs.lemmas.Bool.Decides.{nat_tests}
use Rattle.std.specs.Prelude.{Any, AllPairs, Contains, IsTrue, nat_le}
use Rattle.std.specs.declared.cmp.Ordering.TheVariants.{Less, Equal, Greater}
use Rattle.std.specs.Ordering.{is_eq, is_ne, ordering_then}
use Rattle.std.specs.Cmp.{Equal-is}
use Rattle.std.specs.Cmp.Lexicographic.{bytes_decides}
use Rattle.std.proofs.lemmas.Bool.{cases_Bool, and_parts, and_from}
use Rattle.std.proofs.lemmas.Cmp.{nat_list_cmp_total, tied_itself, tied_back, alike_right}
use Rattle.std.proofs.lemmas.List.{append-nil, append_assoc, get_or_default}
use Rattle.std.proofs.lemmas.List.Elements.{All-cons, All-nil, Contains-get_or, Contains-append_left, Contains-append_right, Contains-append_cases, Contains-push_cases}
use Rattle.std.proofs.lemmas.List.Kept.{AllPairs-cons}
use Rattle.std.proofs.lemmas.List.Quantifiers.{all_pairs_push}
use Rattle.journal.specs.declared.journal.body.Body.{Body}
use Rattle.journal.specs.Journal.Logs.{same_body}
use Rattle.journal.specs.Journal.Conflicts.{place_cmp, text_cmp, are_rivals, HeadsRise, AreConflicts}
use Rattle.journal.proofs.JournalLemmas.Accepting.{same_body-refl}
use Rattle.journal_views.specs.JournalViews.Groups.{as_set, cut, is_apart}
use Rattle.journal_views.specs.JournalViews.Rankings.{body_cmp}
use Rattle.journal_views.proofs.JournalViewsLemmas.Bodies.{first_or_other, other}
use Rattle.journal_views.proofs.JournalViewsLemmas.Cuts.{cut-end, cut-apart, cut-here}
use Rattle.journal_views.proofs.JournalViewsLemmas.Orders.{place_total}

none : {X : Type 0} (x : X) → Contains [] x → ⊥
none x (k, h, is) = omega (arith, h)

one : {X : Type 0} (y x : X) → Contains (y ∷ []) x → y ≡ x
one y x h = elim (Contains-push_cases [] y x h) [ inl k ↦ absurd (none x k) | inr e ↦ e ]

-- two of a list that isn't long are one
short : {X : Type 0} (xs : List X) (x y : X) → nat_le 2 (length xs) ≡ false → Contains xs x → Contains xs y → x ≡ y
short [] x y h a b = absurd (none x a)
short (z ∷ []) x y h a b = sym (one z x a) ∙ one z y b
short (z ∷ w ∷ xs) x y h a b = absurd (grind (arith, nat_tests))

any-first : {X : Type 0} (P : X → Type 0) (y : X) (xs : List X) → Any P (y ∷ xs) → P y ⊎ Any P xs
any-first P y xs (zero, x, h, is, p) = inl (subst P (sym is) p)
any-first P y xs (suc k, x, h, is, p) = inr (k, x, omega (arith, h), is, p)

any-other : {X : Type 0} (P : X → Type 0) (y : X) (xs : List X) → Any P xs → Any P (y ∷ xs)
any-other P y xs (k, x, h, is, p) = (suc k, x, omega (arith, h), is, p)

-- bodies of one place whose bytes rise are rivals
rivals : (b c : Body) → place_cmp b c ≡ Equal → text_cmp b.bytes c.bytes ≡ Less → IsTrue (are_rivals b c)
rivals b c at rise = elim (cases_Bool (same_body b c)) [
  | inl k ↦ absurd (let e = (bytes_decides b.bytes c.bytes).0 k in let tied = ap (text_cmp b.bytes) (sym e) ∙ tied_itself nat_list_cmp_total b.bytes in cc)
  | inr k ↦ and_from _ _ (ap is_eq at) (ap not k)
]

rival-place : (b c : Body) → IsTrue (are_rivals b c) → place_cmp b c ≡ Equal
rival-place b c h = (Equal-is (place_cmp b c)).0 (and_parts _ (not (same_body b c)) h).0

heads : (set group : List Body) → 2 ≤ length set → 2 ≤ length group → ((b c : Body) → Contains set b → Contains group c → place_cmp b c ≡ Less) → HeadsRise set group
heads [] group h k less = absurd (omega (arith, h))
heads (b ∷ set) [] h k less = absurd (omega (arith, k))
heads (b ∷ set) (c ∷ group) h k less = less b c (0, omega arith, refl) (0, omega arith, refl)

-- within a place the order is that of bytes
bytes_rise : (b c : Body) → place_cmp b c ≡ Equal → body_cmp b c ≡ Less → text_cmp b.bytes c.bytes ≡ Less
bytes_rise b c at less = sym (ap (λ o. ordering_then o (text_cmp b.bytes c.bytes)) at) ∙ less

-- at another place the order is that of places
places_rise : (b c : Body) → is_ne (place_cmp b c) ≡ true → body_cmp b c ≡ Less → place_cmp b c ≡ Less
places_rise b c other less = by (place_cmp b c) other less
  where
    by : (o : Ordering) → is_ne o ≡ true → ordering_then o (text_cmp b.bytes c.bytes) ≡ Less → o ≡ Less
    by Less other less = refl
    by Equal other less = cc
    by Greater other less = less

at_place : (o : Ordering) → is_ne o ≡ false → o ≡ Equal
at_place Less h = cc
at_place Equal h = refl
at_place Greater h = cc

-- all bodies of a group are at the place of its first
abbrev Together : List Body → Type 0
Together group = (b : Body) → Contains group b → is_apart place_cmp group b ≡ false

alike : (group : List Body) → Together group → (b c : Body) → Contains group b → Contains group c → place_cmp b c ≡ Equal
alike [] same b c of_b of_c = absurd (none b of_b)
alike (g ∷ group) same b c of_b of_c =
    place_total.congr b g c (tied_back place_total g b (at_place (place_cmp g b) (same b of_b))) ∙ at_place (place_cmp g c) (same c of_c)

together-more : (group : List Body) (n : Body) → Together group → is_apart place_cmp group n ≡ false → Together (group ++ n ∷ [])
together-more [] n same here b of_b = ap is_ne (subst (λ b. place_cmp n b ≡ Equal) (one n b of_b) (tied_itself place_total n))
together-more (g ∷ group) n same here b of_b = elim (Contains-push_cases (g ∷ group) n b of_b) [
  | inl k ↦ same b k
  | inr e ↦ subst (λ b. is_ne (place_cmp g b) ≡ false) e here
]

-- those of a group come before the first that is apart
before-apart : (group : List Body) (b n : Body) → Together group → is_apart place_cmp group n ≡ true → Contains group b → body_cmp b n ≡ Less → place_cmp b n ≡ Less
before-apart [] b n same apart of_b less = cc
before-apart (g ∷ group) b n same apart of_b less =
    let at = place_total.congr b g n (alike (g ∷ group) same b g of_b (0, omega arith, refl)) in
    places_rise b n (ap is_ne at ∙ apart) less

-- and before those behind it
before-later : (b n c : Body) → place_cmp b n ≡ Less → body_cmp n c ≡ Less → place_cmp b c ≡ Less
before-later b n c before less = by (place_cmp n c) refl less
  where
    by : (o : Ordering) → place_cmp n c ≡ o → ordering_then o (text_cmp n.bytes c.bytes) ≡ Less → place_cmp b c ≡ Less
    by Less e h = place_total.trans b n c before e
    by Equal e h = sym (alike_right place_total n c b e) ∙ before
    by Greater e h = cc

-- a group ahead of the bodies of further places
module _ (group later : List Body) (sets : List (List Body)) (same : Together group) (rising : AllPairs (λ b c. text_cmp b.bytes c.bytes ≡ Less) group)
    (behind : (b c : Body) → Contains group b → Contains later c → place_cmp b c ≡ Less) (are : AreConflicts later sets) where
  pairs : (b c : Body) → Contains (group ++ later) b → Contains (group ++ later) c → IsTrue (are_rivals b c)
      → (Contains group b × Contains group c) ⊎ Any (λ set. Contains set b × Contains set c) sets
  pairs b c of_b of_c rival = elim (Contains-append_cases group later b of_b) [
    | inl k ↦ elim (Contains-append_cases group later c of_c) [
      | inl l ↦ inl (k, l)
      | inr l ↦ absurd (let less = behind b c k l in let tied = rival-place b c rival in cc)
    ]
    | inr k ↦ elim (Contains-append_cases group later c of_c) [
      | inl l ↦ absurd (let less = behind c b l k in let tied = tied_back place_total b c (rival-place b c rival) in cc)
      | inr l ↦ inr (are.every_pair b c k l rival)
    ]
  ]

  ahead_long : 2 ≤ length group → AreConflicts (group ++ later) (group ∷ sets)
  ahead_long long = record {
    sets_rise = AllPairs-cons HeadsRise group sets
        (λ k d h. let set = get_or sets k d in heads group set long (are.two_or_more k d h)
        (λ b c of_group of_set. behind b c of_group (are.only_counted c (k, set, h, get_or_default sets k set d h, of_set)))) are.sets_rise;
    bodies_rise = All-cons (AllPairs (λ b c. text_cmp b.bytes c.bytes ≡ Less)) group sets rising are.bodies_rise;
    only_rivals = All-cons (AllPairs (λ b c. IsTrue (are_rivals b c))) group sets
        (λ i j d lt h. rivals (get_or group i d) (get_or group j d)
        (alike group same (get_or group i d) (get_or group j d) (Contains-get_or group i d (omega (arith, lt, h))) (Contains-get_or group j d h))
        (rising i j d lt h)) are.only_rivals;
    two_or_more = All-cons (λ set. 2 ≤ length set) group sets long are.two_or_more;
    only_counted = λ b h. elim (any-first (λ set. Contains set b) group sets h) [
      | inl k ↦ Contains-append_left group later b k
      | inr k ↦ Contains-append_right group later b (are.only_counted b k)
    ];
    every_pair = λ b c of_b of_c rival. elim (pairs b c of_b of_c rival) [
      | inl k ↦ (0, group, omega arith, refl, k)
      | inr k ↦ any-other (λ set. Contains set b × Contains set c) group sets k
    ];
  }

  ahead_short : nat_le 2 (length group) ≡ false → AreConflicts (group ++ later) sets
  ahead_short brief = record {
    sets_rise = are.sets_rise;
    bodies_rise = are.bodies_rise;
    only_rivals = are.only_rivals;
    two_or_more = are.two_or_more;
    only_counted = λ b h. Contains-append_right group later b (are.only_counted b h);
    every_pair = λ b c of_b of_c rival. elim (pairs b c of_b of_c rival) [
      | inl k ↦ absurd (let other = (and_parts (is_eq (place_cmp b c)) (not (same_body b c)) rival).1 in
          let same = ap (same_body b) (sym (short group b c brief k.0 k.1)) ∙ same_body-refl b in cc)
      | inr k ↦ k
    ];
  }

  ahead : AreConflicts (group ++ later) (as_set group ++ sets)
  ahead = elim (cases_Bool (nat_le 2 (length group))) [
    | inl k ↦ rw k (ahead_long (grind (arith, nat_tests)))
    | inr k ↦ rw k (ahead_short k)
  ]

pub of_none : AreConflicts [] []
of_none = record {
  sets_rise = λ i j d lt h. absurd (omega (arith, h));
  bodies_rise = All-nil _;
  only_rivals = All-nil _;
  two_or_more = All-nil _;
  only_counted = λ b (k, x, h, is, p). absurd (omega (arith, h));
  every_pair = λ b c of_b of_c rival. absurd (none b of_b);
}

-- CUT: bodies in order, cut where the place changes
pub conflicts-cut : (group rest : List Body) → Together group → AllPairs (λ b c. text_cmp b.bytes c.bytes ≡ Less) group
    → ((b c : Body) → Contains group b → Contains rest c → body_cmp b c ≡ Less) → AllPairs (λ b c. body_cmp b c ≡ Less) rest
    → AreConflicts (group ++ rest) (cut place_cmp group rest)
conflicts-cut group [] same rising across sorted =
    rw (cut-end place_cmp group) (subst (AreConflicts (group ++ [])) (append-nil (as_set group)) (ahead group [] [] same rising (λ b c of_b of_c. absurd (none c of_c)) of_none))
conflicts-cut group (n ∷ rest) same rising across sorted =
    let first : Contains (n ∷ rest) n = (0, omega arith, refl) in
    let after : (c : Body) → Contains rest c → body_cmp n c ≡ Less =
    λ c (k, h, is). subst (λ c. body_cmp n c ≡ Less) is (sorted 0 (suc k) c (omega arith) (omega (arith, h))) in
    let tail : AllPairs (λ b c. body_cmp b c ≡ Less) rest = λ i j d lt h. sorted (suc i) (suc j) d (omega (arith, lt)) (omega (arith, h)) in
    elim (cases_Bool (is_apart place_cmp group n)) [
      | inl k ↦ rw (cut-apart place_cmp group n rest k) (ahead group (n ∷ rest) (cut place_cmp (n ∷ []) rest) same rising
          (λ b c of_b of_c. let before = before-apart group b n same k of_b (across b n of_b first) in elim (first_or_other n rest c of_c) [
            | inl e ↦ subst (λ c. place_cmp b c ≡ Less) e before
            | inr l ↦ before-later b n c before (after c l)
          ])
          (conflicts-cut (n ∷ []) rest (together-more [] n (λ b of_b. absurd (none b of_b)) refl) (λ i j d lt h. absurd (omega (arith, lt, h)))
          (λ b c of_b of_c. subst (λ b. body_cmp b c ≡ Less) (one n b of_b) (after c of_c)) tail))
      | inr k ↦ (
          let more = together-more group n same k in
          let at_n : (b : Body) → Contains group b → place_cmp b n ≡ Equal =
          λ b of_b. alike (group ++ n ∷ []) more b n (Contains-append_left group (n ∷ []) b of_b) (Contains-append_right group (n ∷ []) n (0, omega arith, refl)) in
          rw (cut-here place_cmp group n rest k) (subst (λ bs. AreConflicts bs (cut place_cmp (group ++ n ∷ []) rest)) (append_assoc group (n ∷ []) rest)
          (conflicts-cut (group ++ n ∷ []) rest more
          (all_pairs_push (λ b c. text_cmp b.bytes c.bytes ≡ Less) group n rising
          (λ k d h. let b = get_or group k d in let of_b = Contains-get_or group k d h in bytes_rise b n (at_n b of_b) (across b n of_b first)))
          (λ b c of_b of_c. elim (Contains-push_cases group n b of_b) [
            | inl l ↦ across b c l (other n rest c of_c)
            | inr e ↦ subst (λ b. body_cmp b c ≡ Less) e (after c of_c)
          ]) tail)))
    ]

-- the same bodies have the same conflicts
pub conflicts-same : (xs ys : List Body) (sets : List (List Body)) → ((b : Body) → Contains xs b → Contains ys b) → ((b : Body) → Contains ys b → Contains xs b)
    → AreConflicts xs sets → AreConflicts ys sets
conflicts-same xs ys sets there back are = record {
  sets_rise = are.sets_rise;
  bodies_rise = are.bodies_rise;
  only_rivals = are.only_rivals;
  two_or_more = are.two_or_more;
  only_counted = λ b h. there b (are.only_counted b h);
  every_pair = λ b c of_b of_c rival. are.every_pair b c (back b of_b) (back c of_c) rival;
}
