-- One more event in an accepted log.
use Rattle.std.proofs.Common.{◌≡◌, ℕ, ◌+◌, ◌-◌, ◌<◌, true, false, List, [], ◌∷◌, ◌++◌, length, take, Some, refl, sym, ◌∙◌, ap, subst, inl, inr, arith, length-append, if◌then◌else◌}
use Rattle.std.specs.Prelude.{slice_get, IsTrue}
use Rattle.std.proofs.Math.Seq.{take-append_seam}
use Rattle.std.proofs.lemmas.Bool.{cases_Bool, cases_eq}
use Rattle.std.proofs.lemmas.List.{take-append-le, take_all}
use Rattle.std.proofs.lemmas.Option.{slice_get_within}
use Rattle.cesr_codes.specs.declared.digest.Digest.{Digest}
use Rattle.cesr_codes.specs.declared.prefix.Prefix.{Prefix}
use Rattle.event_body.specs.EventBody.Events.{prefix_of, sn_of, said_of, is_interaction}
use Rattle.key_state.specs.Heads.{head_sn}
use Rattle.key_state.specs.KeyStates.{digest_at}
use Rattle.key_state.specs.Same.{same_prefix}
use Rattle.key_state.specs.States.{State}
use Rattle.key_state.proofs.Same.{same_prefix_is, same_prefix_itself}
use Rattle.journal.specs.declared.journal.body.Body.{Body}
use Rattle.journal.specs.Journal.Grown.{fits}
use Rattle.journal.specs.Journal.Logs.{is_of, state}
use Rattle.journal.proofs.JournalLemmas.StateSteps.{state-other}
use Rattle.validator_core.specs.declared.tables.accepted_log.place.Place.{Place}
use Rattle.validator_core.specs.Tables.AcceptedLog.Cuts.{GrowsByInteraction, GrowsByState, HasState, IsBehind, IsLog, cut}
use Rattle.validator_core.specs.Tables.AcceptedLog.Values.{Log, at_place, established, gone_onto, interacted, last_of, last_place, with_since}
use Rattle.validator_core.proofs.TablesLemmas.AcceptedLogLemmas.Last.{last_is_last, last_of-at, last_of-other, last_of-push, place_of_last, there}
use Rattle.validator_core.proofs.TablesLemmas.AcceptedLogLemmas.Lists.{at_place_here, at_place_there, front_within, still_at, take_at_place}
use Rattle.lists.proofs.ListsLemmas.Places.{at_end, not_at_end, of_front}
use Rattle.validator_core.proofs.TablesLemmas.AcceptedLogLemmas.StateSteps.{IsNew, cut_all, cut_more, fits_parts, goes_onto, live_at, live_from, new_of, own_state}

module _ (log : List Body) (v w : Log) (b : Body) (number : ℕ) (p : Place) (is : IsLog log v) where
  -- where the states of the earlier events stay, that of the new one is there, and the last states are the current ones
  one_more : w.numbers ≡ v.numbers ++ number ∷ [] → w.places ≡ v.places ++ p ∷ []
      → ((front : List Body) (c : Body) (k : ℕ) → HasState v.states front c k → HasState w.states front c k)
      → HasState w.states (log ++ b ∷ []) b p.state
      → ((prefix : Prefix) → last_of prefix w.states ≡ state (log ++ b ∷ []) prefix)
      → ((front : List Body) (c : Body) (k : ℕ) → HasState v.states front c k → last_of (prefix_of c.event) (take k w.states) ≡ last_of (prefix_of c.event) (take k v.states))
      → (is_interaction b.event ≡ false → last_of (prefix_of b.event) (take p.state w.states) ≡ state log (prefix_of b.event))
      → IsLog (log ++ b ∷ []) w
  one_more numbers places kept last current stays before = record {
    numbers = ap length numbers ∙ longer v.numbers number is.numbers;
    places = ap length places ∙ longer v.places p is.places;
    current = current;
    behind = λ i c q at pl. by i c q at (sym (ap (λ ps. slice_get ps i) places) ∙ pl);
    under = λ i c q at pl sets. below i c q at (sym (ap (λ ps. slice_get ps i) places) ∙ pl) sets;
  }
    where
      longer : {X : Type 0} (xs : List X) (x : X) → length xs ≡ length log → length (xs ++ x ∷ []) ≡ length (log ++ b ∷ [])
      longer xs x e = omega (arith, e, length-append xs (x ∷ []), length-append log (b ∷ []))

      by : (i : ℕ) (c : Body) (q : Place) → slice_get (log ++ b ∷ []) i ≡ Some c → slice_get (v.places ++ p ∷ []) i ≡ Some q → HasState w.states (take (i + 1) (log ++ b ∷ [])) c q.state
      by i c q at pl = elim (cases_eq i (length log)) [
        | inr other ↦ (let here = sym (not_at_end log b i other) ∙ at in
            let there = sym (not_at_end v.places p i (λ e. other (e ∙ is.places))) ∙ pl in
            let within = slice_get_within log i c here in
            let front = take-append-le (i + 1) log (b ∷ []) (omega (arith, within)) in
            subst (λ xs. HasState w.states xs c q.state) (sym front) (kept (take (i + 1) log) c q.state (is.behind i c q here there)))
        | inl same ↦ (let both : Some b ≡ Some c = sym (at_end log b) ∙ ap (slice_get (log ++ b ∷ [])) (sym same) ∙ at in
            let body : b ≡ c = cc in
            let also : Some p ≡ Some q = sym (at_end v.places p) ∙ ap (slice_get (v.places ++ p ∷ [])) (is.places ∙ sym same) ∙ pl in
            let place : p ≡ q = cc in
            let all = take_all (i + 1) (log ++ b ∷ []) (omega (arith, same, length-append log (b ∷ []))) in
            subst (λ xs. HasState w.states xs c q.state) (sym all) (subst (λ c. HasState w.states (log ++ b ∷ []) c q.state) body (subst (λ (q : Place). HasState w.states (log ++ b ∷ []) b q.state) place last)))
      ]

      below : (i : ℕ) (c : Body) (q : Place) → slice_get (log ++ b ∷ []) i ≡ Some c → slice_get (v.places ++ p ∷ []) i ≡ Some q → is_interaction c.event ≡ false
          → last_of (prefix_of c.event) (take q.state w.states) ≡ state (take i (log ++ b ∷ [])) (prefix_of c.event)
      below i c q at pl sets = elim (cases_eq i (length log)) [
        | inr other ↦ (let here = sym (not_at_end log b i other) ∙ at in
            let there = sym (not_at_end v.places p i (λ e. other (e ∙ is.places))) ∙ pl in
            let within = slice_get_within log i c here in
            let front = take-append-le i log (b ∷ []) (omega (arith, within)) in
            stays (take (i + 1) log) c q.state (is.behind i c q here there) ∙ is.under i c q here there sets ∙ ap (λ xs. state xs (prefix_of c.event)) (sym front))
        | inl same ↦ (let both : Some b ≡ Some c = sym (at_end log b) ∙ ap (slice_get (log ++ b ∷ [])) (sym same) ∙ at in
            let body : b ≡ c = cc in
            let also : Some p ≡ Some q = sym (at_end v.places p) ∙ ap (slice_get (v.places ++ p ∷ [])) (is.places ∙ sym same) ∙ pl in
            let place : p ≡ q = cc in
            let front : take i (log ++ b ∷ []) ≡ log = ap (λ n. take n (log ++ b ∷ [])) same ∙ take-append_seam log (b ∷ []) in
            let own = ap (λ (c : Body). prefix_of c.event) body in
            ap (λ (q : Place). last_of (prefix_of c.event) (take q.state w.states)) (sym place)
            ∙ ap (λ o. last_of o (take p.state w.states)) (sym own)
            ∙ before (ap (λ (c : Body). is_interaction c.event) body ∙ sets)
            ∙ ap (state log) own
            ∙ ap (λ xs. state xs (prefix_of c.event)) (sym front))
      ]

  -- the current state of an identifier, where the last states are as before but for the body's
  currently : (s : State) → state (log ++ b ∷ []) (prefix_of b.event) ≡ Some s
      → ((prefix : Prefix) → last_of prefix w.states ≡ (if same_prefix (prefix_of b.event) prefix then Some s else last_of prefix v.states))
      → (prefix : Prefix) → last_of prefix w.states ≡ state (log ++ b ∷ []) prefix
  currently s now lasts prefix = let last = lasts prefix in elim (cases_Bool (is_of prefix b)) [
    | inl y ↦ (rw y at last) ∙ sym now ∙ ap (state (log ++ b ∷ [])) (same_prefix_is (prefix_of b.event) prefix y)
    | inr y ↦ (rw y at last) ∙ is.current prefix ∙ sym (state-other log b prefix y)
  ]

module _ (log : List Body) (v : Log) (b : Body) (is : IsLog log v) (fit : IsTrue (fits log b)) where
  -- ESTABLISHED: an establishment event that fits, with the state that it makes
  pub grows_established : (number entries : ℕ) (s : State) → is_interaction b.event ≡ false → state (log ++ b ∷ []) (prefix_of b.event) ≡ Some s
      → IsLog (log ++ b ∷ []) (established number entries s v)
  grows_established number entries s sets now =
      let f = fits_parts log b fit in
      let new = new_of (state log (prefix_of b.event)) b.event s f.taken sets f.event (sym f.step ∙ now) in
      let its = (own_state (prefix_of b.event) (log ++ b ∷ []) s now).its in
      one_more log v (established number entries s v) b number (record { state = length v.states; entries = entries }) is refl refl
      (λ front c k h. record { state = h.state; at = still_at v.states (s ∷ []) k h.state h.at; is = h.is })
      (record {
        state = s;
        at = at_end v.states s;
        is = record { prefix = its; live = live_new s new; then_is = now ∙ ap (λ s. Some s) (sym (cut_new s new)) };
      })
      (currently log v (established number entries s v) b number (record { state = length v.states; entries = entries }) is s now (λ prefix. subst (λ own. last_of prefix (v.states ++ s ∷ []) ≡ (if same_prefix own prefix then Some s else last_of prefix v.states)) its (last_of-push prefix v.states s)))
      (λ front c k h. let within = slice_get_within v.states k h.state h.at in ap (last_of (prefix_of c.event)) (take-append-le k v.states (s ∷ []) (omega (arith, within))))
      (λ sets. ap (last_of (prefix_of b.event)) (take-append_seam v.states (s ∷ [])) ∙ is.current (prefix_of b.event))
    where
      live_new : (s : State) → IsNew b.event s → digest_at s (sn_of b.event) ≡ Some (said_of b.event)
      live_new s new = let est = new.est in let alone = new.alone in
          let first : sn_of b.event - s.est_sn ≡ 0 = omega (arith, est) in
          live_from s (sn_of b.event) (said_of b.event) (omega (arith, est)) (rw (first, alone) refl)

      cut_new : (s : State) → IsNew b.event s → cut (sn_of b.event) s ≡ s
      cut_new s new = let one = ap length new.alone in cut_all (sn_of b.event) s (omega (arith, one))

  -- WENT ON: an interaction that fits goes onto the last state of its identifier
  pub grows_interacted : (number entries : ℕ) → is_interaction b.event ≡ true → IsLog (log ++ b ∷ []) (interacted number entries (prefix_of b.event) (said_of b.event) v)
  grows_interacted number entries going =
      let f = fits_parts log b fit in
      let own = prefix_of b.event in
      let d = said_of b.event in
      let goes = goes_onto (state log own) b.event f.taken going in
      let s = goes.0 in
      let place = place_of_last own v.states s (is.current own ∙ goes.1.was) in
      let k = place.0 in
      let w = gone_onto number entries d (Some k) v in
      let now : state (log ++ b ∷ []) own ≡ Some (with_since d s) = f.step ∙ goes.1.now in
      subst (λ o. IsLog (log ++ b ∷ []) (gone_onto number entries d o v)) (sym place.1)
      (one_more log v w b number (record { state = k; entries = entries }) is refl refl
      (λ front c j h. kept k front c j h)
      (record {
        state = with_since d s;
        at = at_place_here (with_since d) v.states k s place.2;
        is = went s now (own_state own log s goes.1.was).its (own_state own log s goes.1.was).some goes.1.next;
      })
      (currently log v w b number (record { state = k; entries = entries }) is (with_since d s) now (λ prefix. last_of-at own prefix v.states k s (with_since d) (λ t. refl) place.1 place.2))
      (λ front c j h. stays k place.1 front c j h)
      (λ sets. let clash : true ≡ false = sym going ∙ sets in cc))
    where
      -- what it went onto is the last state of its identifier, and so none before a state of that identifier
      stays : (k : ℕ) → last_place (prefix_of b.event) v.states ≡ Some k → (front : List Body) (c : Body) (j : ℕ) → HasState v.states front c j
          → last_of (prefix_of c.event) (take j (at_place k (with_since (said_of b.event)) v.states)) ≡ last_of (prefix_of c.event) (take j v.states)
      stays k last front c j h =
          ap (last_of (prefix_of c.event)) (take_at_place j k (with_since (said_of b.event)) v.states)
          ∙ last_of-other (prefix_of c.event) (take j v.states) k (with_since (said_of b.event)) (λ t. refl) (λ t at its.
          let low = front_within j v.states k t at in
          let mine = there (prefix_of b.event) v.states k last in
          let both : Some mine.state ≡ Some t = sym mine.at ∙ of_front v.states j k t at in
          let one : mine.state ≡ t = cc in
          let prefixes : prefix_of b.event ≡ prefix_of c.event = sym mine.its ∙ ap (λ (t : State). t.prefix) one ∙ same_prefix_is t.prefix (prefix_of c.event) its in
          let most = last_is_last (prefix_of b.event) v.states k j h.state last h.at
          (ap (λ p. same_prefix p (prefix_of b.event)) (h.is.prefix ∙ sym prefixes) ∙ same_prefix_itself (prefix_of b.event)) in
          omega (arith, low, most))

      kept : (k : ℕ) (front : List Body) (c : Body) (j : ℕ) → HasState v.states front c j → HasState (at_place k (with_since (said_of b.event)) v.states) front c j
      kept k front c j h = elim (cases_eq j k) [
        | inr other ↦ record { state = h.state; at = at_place_there (with_since (said_of b.event)) v.states k j other ∙ h.at; is = h.is }
        | inl same ↦ record {
          state = with_since (said_of b.event) h.state;
          at = ap (slice_get (at_place k (with_since (said_of b.event)) v.states)) same ∙ at_place_here (with_since (said_of b.event)) v.states k h.state (ap (slice_get v.states) (sym same) ∙ h.at);
          is = longer h.state h.is;
        }
      ]
        where
          longer : (t : State) → IsBehind front c t → IsBehind front c (with_since (said_of b.event) t)
          longer t m =
              let at = live_at t (sn_of c.event) (said_of c.event) m.live in
              let within = slice_get_within t.since (sn_of c.event - t.est_sn) (said_of c.event) at.1 in
              record {
                prefix = m.prefix;
                live = live_from (with_since (said_of b.event) t) (sn_of c.event) (said_of c.event) at.0 (still_at t.since (said_of b.event ∷ []) _ _ at.1);
                then_is = m.then_is ∙ ap (λ t. Some t) (sym (cut_more (sn_of c.event) t (said_of b.event) (omega (arith, within))));
              }

      went : (s : State) → state (log ++ b ∷ []) (prefix_of b.event) ≡ Some (with_since (said_of b.event) s) → s.prefix ≡ prefix_of b.event → 0 < length s.since → sn_of b.event ≡ head_sn s + 1
          → IsBehind (log ++ b ∷ []) b (with_since (said_of b.event) s)
      went s now its some next =
          let more = length-append s.since (said_of b.event ∷ []) in
          let place : sn_of b.event - s.est_sn ≡ length s.since = omega (arith, next, some) in
          record {
            prefix = its;
            live = live_from (with_since (said_of b.event) s) (sn_of b.event) (said_of b.event) (omega (arith, next)) (ap (slice_get (s.since ++ said_of b.event ∷ [])) place ∙ at_end s.since (said_of b.event));
            then_is = now ∙ ap (λ s. Some s) (sym (cut_all (sn_of b.event) (with_since (said_of b.event) s) (omega (arith, more, place))));
          }

pub grows_by_state : (number entries : ℕ) (s : State) (v w : Log) → w ≡ established number entries s v → GrowsByState s v w
grows_by_state number entries s v w made log b is fit sets now = subst (IsLog (log ++ b ∷ [])) (sym made) (grows_established log v b is fit number entries s sets now)

pub grows_by_interaction : (number entries : ℕ) (prefix : Prefix) (said : Digest) (v w : Log) → w ≡ interacted number entries prefix said v → GrowsByInteraction prefix said v w
grows_by_interaction number entries prefix said v w made log b is fit going its its_said =
    let named = ap (λ p. interacted number entries p (said_of b.event) v) its ∙ ap (λ d. interacted number entries prefix d v) its_said in
    subst (IsLog (log ++ b ∷ [])) (named ∙ sym made) (grows_interacted log v b is fit number entries going)
