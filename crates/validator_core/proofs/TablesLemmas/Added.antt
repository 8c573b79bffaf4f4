-- Claims, raised one after the other.
use Rattle.std.proofs.Common.{◌≡◌, ℕ, ◌+◌, ◌<◌, true, List, [], ◌∷◌, ◌++◌, length, take, get_or, refl, sym, ◌∙◌, ap, subst, Option, Some, None}
use Rattle.std.specs.Prelude.{◌==◌, Result, Ok, Err, option_map}
use Rattle.std.specs.List.{cons_option, list_all}
use Rattle.std.specs.Result.{OnErr}
use Rattle.std.proofs.lemmas.Bool.{and_from, or_left}
use Rattle.std.proofs.lemmas.List.{take_more}
use Rattle.std.proofs.lemmas.List.Elements.{filter_map-append}
use Rattle.std.proofs.lemmas.List.Folds.{list_all-append}
use Rattle.event_body.specs.declared.event_body.event.Event.{Event}
use Rattle.key_state.specs.Exposure.{own_rules}
use Rattle.key_state.specs.States.{State}
use Rattle.key_state.proofs.Same.{number_itself}
use Rattle.journal.specs.EventRules.Additions.{adds, is_number as is_added}
use Rattle.journal.specs.EventRules.Parts.{Row as Found}
use Rattle.journal.specs.declared.event_rules.additions.Additions.{Additions}
use Rattle.claim_table.specs.CoreLaws.Claimed.{row_of}
use Rattle.claim_table.specs.declared.claim_table.claimed.Claimed.{Claimed}
use Rattle.claim_table.specs.declared.claim_table.claimed.Parts.{Parts}
use Rattle.claim_table.specs.declared.claim_table.part.Part.{Part}
use Rattle.claim_table.specs.declared.claim_table.part.Part.TheVariants.{Indexed, Revealed, Backed}
use Rattle.claim_table.specs.declared.claim_table.row.Row.{Row}
use Rattle.claim_table.specs.declared.claim_table.signature.Signature.{Signature}
use Rattle.claim_table.specs.ClaimTable.Parts.{brings_part, is_number}
use Rattle.claim_table.specs.ClaimTable.Rows.{is_raised, raised, raised_all}
use Rattle.claim_table.specs.ClaimTable.Table.{Table}
use Rattle.claim_table.proofs.ClaimTableLemmas.Rows.{raised_more}
use Rattle.claim_table.specs.CoreLaws.ClaimRows.{AreFound, IsFound, part_of}
use Rattle.journal.specs.declared.journal.claim.Claim.{Claim}
use Rattle.journal.specs.Journal.History.{claimed_key}
use Rattle.validator_core.specs.Tables.RaisedRows.{RaisesRows, RaisesSomeRows}

raised_all-append : (rows : List Row) (xs ys : List Claimed) → raised_all rows (xs ++ ys) ≡ raised_all (raised_all rows xs) ys
raised_all-append rows [] ys = refl
raised_all-append rows (x ∷ xs) ys = raised_all-append (raised rows x) xs ys

found-append : (n : ℕ) (s : Option State) (e : Event) (fs gs : List Found) (xs ys : List Claimed) → AreFound n s e fs xs → AreFound n s e gs ys → AreFound n s e (fs ++ gs) (xs ++ ys)
found-append n s e [] gs [] ys h k = k
found-append n s e [] gs (x ∷ xs) ys h k = absurd h
found-append n s e (f ∷ fs) gs [] ys h k = absurd h
found-append n s e (f ∷ fs) gs (x ∷ xs) ys h k = (h.0, found-append n s e fs gs xs ys h.1 k)

-- what is found is on the body
found_on : (n : ℕ) (s : Option State) (e : Event) (fs : List Found) (xs : List Claimed) → AreFound n s e fs xs → list_all (λ c. c.body == n) xs ≡ true
found_on n s e [] [] h = refl
found_on n s e [] (x ∷ xs) h = absurd h
found_on n s e (f ∷ fs) [] h = absurd h
found_on n s e (f ∷ fs) (x ∷ xs) h = and_from _ _ (ap (λ m. m == n) h.0.body ∙ number_itself n) (found_on n s e fs xs h.1)

module _ (n : ℕ) (s : Option State) (e : Event) where
  pub raises_nothing : (t : Table) → RaisesRows n s e [] t t
  raises_nothing t = record { added = []; found = tt; new_is = refl }

  pub raises_more : (xs ys : List Claim) (t u v : Table) → RaisesRows n s e xs t u → RaisesRows n s e ys u v → RaisesRows n s e (xs ++ ys) t v
  raises_more xs ys t u v h k = record {
    added = h.added ++ k.added;
    found = subst (λ fs. AreFound n s e fs (h.added ++ k.added)) (sym (filter_map-append (row_of (own_rules s e)) xs ys)) (found-append n s e _ _ h.added k.added h.found k.found);
    new_is = k.new_is ∙ ap {A = Table} (λ w. record w { rows = raised_all w.rows k.added }) h.new_is ∙ ap {A = List Row} (λ rows. record t { rows = rows }) (sym (raised_all-append t.rows h.added k.added));
  }

  -- one claim more of a list is raised
  pub raises_next : (xs : List Claim) (i : ℕ) (x : Claim) (t u v : Table) → x ≡ get_or xs i x → i < length xs → RaisesRows n s e (take i xs) t u → RaisesRows n s e (x ∷ []) u v → RaisesRows n s e (take (i + 1) xs) t v
  raises_next xs i x t u v is low h k =
      subst (λ ys. RaisesRows n s e ys t v) (ap (λ y. take i xs ++ y ∷ []) is ∙ sym (take_more xs i x low)) (raises_more (take i xs) (x ∷ []) t u v h k)

  -- a claim whose key isn't found raises nothing, and one whose key is found is raised
  pub raises_none : (x : Claim) (t : Table) → None ≡ claimed_key (own_rules s e) x → RaisesRows n s e (x ∷ []) t t
  raises_none x t none = record {
    added = [];
    found = subst (λ o. AreFound n s e (cons_option (option_map (λ k. record { claim = x; key = k }) o) []) []) none tt;
    new_is = refl;
  }

  pub raises_one : (x : Claim) (f : Found) (c : Claimed) (t u : Table) → x ≡ f.claim → Some f.key ≡ claimed_key (own_rules s e) x → IsFound n s e f c → u.rows ≡ raised t.rows c → u.pending ≡ t.pending → RaisesRows n s e (x ∷ []) t u
  raises_one x f c t u claim key found rows pending = record {
    added = c ∷ [];
    found = subst (λ o. AreFound n s e (cons_option (option_map (λ k. record { claim = x; key = k }) o) []) (c ∷ [])) key
        (subst (λ y. AreFound n s e (record { claim = y; key = f.key } ∷ []) (c ∷ [])) (sym claim) (found, tt));
    new_is = λ i. record { rows = rows i; pending = pending i };
  }

  pub some_of : (xs : List Claim) (t u : Table) → RaisesRows n s e xs t u → RaisesSomeRows n t u
  some_of xs t u h = record { added = h.added; on = found_on n s e _ h.added h.found; new_is = h.new_is }

pub some_more : (n : ℕ) (t u v : Table) → RaisesSomeRows n t u → RaisesSomeRows n u v → RaisesSomeRows n t v
some_more n t u v h k = record {
  added = h.added ++ k.added;
  on = list_all-append (λ c. c.body == n) h.added k.added ∙ and_from _ _ h.on k.on;
  new_is = k.new_is ∙ ap {A = Table} (λ w. record w { rows = raised_all w.rows k.added }) h.new_is ∙ ap {A = List Row} (λ rows. record t { rows = rows }) (sym (raised_all-append t.rows h.added k.added));
}

-- a signature that is raised stays so
pub raised_stays : (rows : List Row) (claims : List Claimed) (s : Signature) → is_raised rows s ≡ true → is_raised (raised_all rows claims) s ≡ true
raised_stays rows [] s h = h
raised_stays rows (c ∷ claims) s h = raised_stays (raised rows c) claims s (raised_more rows c s ∙ or_left _ _ h)

-- the parts of a table's claim are those that the claim adds
same_number : (o : Option ℕ) (n : ℕ) → is_number o n ≡ is_added o n
same_number None n = refl
same_number (Some m) n = refl

pub parts_are : (parts : Parts) (a : Additions) → parts.index ≡ a.index → parts.reveal ≡ a.reveal → parts.backer ≡ a.backer → (p : Part) → brings_part parts p ≡ adds a (part_of p)
parts_are parts a i r b (Indexed n) = ap (λ o. is_number o n) i ∙ same_number a.index n
parts_are parts a i r b (Revealed n) = ap (λ o. is_number o n) r ∙ same_number a.reveal n
parts_are parts a i r b (Backed n) = ap (λ o. is_number o n) b ∙ same_number a.backer n

-- what is so is so on an error
pub on_err : {T E : Type 0} {P : Type 0} (r : Result T E) → P → OnErr r P
on_err (Ok x) p = tt
on_err (Err e) p = p
