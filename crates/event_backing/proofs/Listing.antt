-- The event seals among values, with one value more.
use Rattle.std.proofs.Common.{List, [], ◌∷◌, ◌++◌, Option, Some, None, sym, ◌∙◌, ap, append-nil}
use Rattle.std.specs.Prelude.{filter_map}
use Rattle.std.proofs.lemmas.List.Elements.{filter_map-append}
use Rattle.json_tree.specs.declared.tree.Tree.{Tree}
use Rattle.event_backing.specs.declared.event_seal.EventSeal.{EventSeal}
use Rattle.event_backing.specs.Listing.{Is, AreEach, AreSealsOf}

AreEach-push : (values : List Tree) (found : List (Option EventSeal)) (v : Tree) (f : Option EventSeal) → AreEach values found → Is v f → AreEach (values ++ v ∷ []) (found ++ f ∷ [])
AreEach-push [] [] v f all is = (is, tt)
AreEach-push [] (g ∷ found) v f all is = absurd all
AreEach-push (u ∷ values) [] v f all is = absurd all
AreEach-push (u ∷ values) (g ∷ found) v f all is = (all.0, AreEach-push values found v f all.1 is)

-- a seal more
pub AreSealsOf-seal : (values : List Tree) (seals : List EventSeal) (v : Tree) (s : EventSeal) → AreSealsOf values seals → Is v (Some s) → AreSealsOf (values ++ v ∷ []) (seals ++ s ∷ [])
AreSealsOf-seal values seals v s those is = record {
  found = those.found ++ Some s ∷ [];
  each = AreEach-push values those.found v (Some s) those.each is;
  those = ap (λ all. all ++ s ∷ []) those.those ∙ sym (filter_map-append (λ f. f) those.found (Some s ∷ []));
}

-- another value more
pub AreSealsOf-other : (values : List Tree) (seals : List EventSeal) (v : Tree) → AreSealsOf values seals → Is v None → AreSealsOf (values ++ v ∷ []) seals
AreSealsOf-other values seals v those is = record {
  found = those.found ++ None ∷ [];
  each = AreEach-push values those.found v None those.each is;
  those = those.those ∙ sym (append-nil (filter_map (λ f. f) those.found)) ∙ sym (filter_map-append (λ f. f) those.found (None ∷ []));
}
