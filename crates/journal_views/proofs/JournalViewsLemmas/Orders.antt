-- The orders of places and of numbers are total.
use Rattle.std.proofs.Common.{◌≡◌, ℕ, true, false, List, map, Option, Some, None, refl, sym, ◌∙◌, ap, Ordering, eqb, inl, inr, arith}
use Rattle.std.proofs.lemmas.Bool.Decides.{nat_tests}
use Rattle.std.specs.declared.cmp.Ordering.TheVariants.{Less, Equal, Greater}
use Rattle.std.specs.Prelude.{slice_get}
use Rattle.std.specs.Cmp.{IsTotalOrder}
use Rattle.std.specs.Ordering.{nat_cmp, is_eq, ordering_then, eq_by_cmp}
use Rattle.std.specs.Option.{option_map}
use Rattle.std.proofs.lemmas.Option.{slice_get-map}
use Rattle.std.specs.Cmp.Lexicographic.{slice_cmp}
use Rattle.std.proofs.lemmas.Cmp.{nat_cmp_total, nat_list_cmp_total, lists_total, on_total, then_total, tied_itself}
use Rattle.std.proofs.lemmas.Bool.{cases_eq, eq-eqb, ne_eqb}
use Rattle.cesr_codes.specs.Spelling.{prefix_text}
use Rattle.cesr_codes.specs.declared.prefix.Prefix.{Prefix}
use Rattle.event_body.specs.declared.event_body.event.Event.{Event}
use Rattle.event_body.specs.EventBody.Events.{prefix_of, sn_of, prior_of}
use Rattle.key_state.specs.Same.{same_prefix}
use Rattle.key_state.proofs.Same.{same_prefix_is}
use Rattle.journal.specs.Journal.Conflicts.{place_cmp, text_cmp, prior_text, sort_of}
use Rattle.journal_views.specs.JournalViews.Rankings.{event_cmp, listed, log_cmp, number_cmp, number_place, of_event, spelled_cmp}

-- one prefix has one text
pub same_text : (p q : Prefix) → same_prefix p q ≡ true → Equal ≡ text_cmp (prefix_text p) (prefix_text q)
same_text p q same = sym (ap (λ r. text_cmp (prefix_text p) (prefix_text r)) (sym (same_prefix_is p q same)) ∙ tied_itself nat_list_cmp_total (prefix_text p))

pub place_total : IsTotalOrder place_cmp
unfolding place_cmp
place_total = then_total (on_total (λ b. prefix_text (prefix_of b.event)) nat_list_cmp_total)
    (then_total (on_total (λ b. sn_of b.event) nat_cmp_total)
    (then_total (on_total (λ b. prior_text (prior_of b.event)) nat_list_cmp_total) (on_total sort_of nat_cmp_total)))

event_total : IsTotalOrder event_cmp
event_total = on_total of_event place_total

pub number_total : (bodies : List (List ℕ)) (events : List Event) → IsTotalOrder (number_cmp bodies events)
unfolding number_cmp
number_total bodies events = then_total (then_total (on_total (λ n. listed (slice_get events n)) (lists_total event_total))
    (on_total (λ n. listed (slice_get bodies n)) (lists_total nat_list_cmp_total))) nat_cmp_total

-- numbers are ordered equal exactly where they are equal
pub number_ties : (bodies : List (List ℕ)) (events : List Event) (m n : ℕ) → eqb m n ≡ eq_by_cmp (number_cmp bodies events) m n
unfolding number_cmp
number_ties bodies events m n = elim (cases_eq m n) [
  | inl e ↦ (let tied = ap is_eq (ap (number_cmp bodies events m) (sym e) ∙ tied_itself (number_total bodies events) m) in eq-eqb m n e ∙ sym tied)
  | inr other ↦ (let apart = ne_eqb m n other in apart ∙ sym (never
      (ordering_then (number_place events m n)
      (slice_cmp text_cmp (listed (slice_get bodies m)) (listed (slice_get bodies n)))) apart))
]
  where
    number : eqb m n ≡ false → is_eq (nat_cmp m n) ≡ false
    number apart = grind (arith, nat_tests)

    never : (o : Ordering) → eqb m n ≡ false → is_eq (ordering_then o (nat_cmp m n)) ≡ false
    never Less apart = refl
    never Equal apart = number apart
    never Greater apart = refl

-- what is there of two lists of one or none is ordered by the one order, then the other
both_then : (o p : Ordering) → ordering_then (ordering_then o p) Equal ≡ ordering_then (ordering_then o Equal) (ordering_then p Equal)
both_then Less p = refl
both_then Equal p = refl
both_then Greater p = refl

spelled_events : (d e : Option Event) → ordering_then (slice_cmp text_cmp (listed (option_map (λ x. prefix_text (prefix_of x)) d)) (listed (option_map (λ x. prefix_text (prefix_of x)) e))) (slice_cmp log_cmp (listed d) (listed e))
    ≡ slice_cmp event_cmp (listed d) (listed e)
unfolding place_cmp
spelled_events None None = refl
spelled_events None (Some e) = refl
spelled_events (Some d) None = refl
spelled_events (Some d) (Some e) = sym (both_then (text_cmp (prefix_text (prefix_of d)) (prefix_text (prefix_of e))) (log_cmp d e))

-- with the texts of the identifiers numbers are ordered alike
pub spelled_is : (texts bodies : List (List ℕ)) (events : List Event) → texts ≡ map (λ e. prefix_text (prefix_of e)) events → spelled_cmp texts bodies events ≡ number_cmp bodies events
unfolding number_cmp spelled_cmp
spelled_is texts bodies events are = λ i m n. ordering_then (ordering_then (place m n i) (slice_cmp text_cmp (listed (slice_get bodies m)) (listed (slice_get bodies n)))) (nat_cmp m n)
  where
    at : (n : ℕ) → slice_get texts n ≡ option_map (λ e. prefix_text (prefix_of e)) (slice_get events n)
    at n = ap (λ ts. slice_get ts n) are ∙ slice_get-map (λ e. prefix_text (prefix_of e)) events n

    place : (m n : ℕ) → ordering_then (slice_cmp text_cmp (listed (slice_get texts m)) (listed (slice_get texts n))) (slice_cmp log_cmp (listed (slice_get events m)) (listed (slice_get events n))) ≡ number_place events m n
    place m n = (λ i. ordering_then (slice_cmp text_cmp (listed (at m i)) (listed (at n i))) (slice_cmp log_cmp (listed (slice_get events m)) (listed (slice_get events n)))) ∙ spelled_events (slice_get events m) (slice_get events n)
