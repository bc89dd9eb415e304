-- How histories that agree for a page go on.
use Rattle.std.proofs.Common.{◌≡◌, ℕ, suc, ◌<◌, ◌≤◌, Bool, true, false, not, ◌==◌, nat_le, cond, IsTrue, ◌∷◌, length, None, refl, sym, ◌∙◌, ap, subst}
use Rattle.pe_events.specs.Timed.{Timed}
use Rattle.pe_rules.specs.History.{Step, RepliedHistory, History}
use Rattle.pe_rules.specs.Embedders.{page}
use Rattle.pe_rules.specs.Current.{ends, frames_above, is_current}
use Rattle.pe_rules.specs.Activation.{stamp_of}
use Rattle.pe_rules.specs.HistoryActivation.{second_stamp_of}
use Rattle.pe_rules.specs.Delegation.{message, is_delivery_of}
use Rattle.pe_rules.specs.Replies.{step_answer, replied, is_regular}
use Rattle.pe_laws.specs.HistoryLaws.{HistoryLaws}
use Rattle.pe_laws.specs.ActivationLaws.{stamp_after}
use Rattle.pe_laws.specs.HistoryActivationLaws.{second_stamp_after}
use Rattle.pe_laws.specs.DelegationLaws.{delegated_at}
use Rattle.pe_laws.specs.PromptsLaws.{step_of}
use Rattle.pe_features.specs.declared.capability.Capability.{Capability}
use Rattle.pe_isolation.proofs.Alike.{Alike, same, quiet, length-alike}
use Rattle.pe_isolation.proofs.Shown.{current-alike}
use Rattle.pe_isolation.proofs.Made.{page-alike}
use Rattle.pe_isolation.proofs.Pages.{both}
use Rattle.pe_isolation.proofs.Beside.{own, is_own, IsBeside}
use Rattle.pe_isolation.proofs.Agreeing.{Agrees, late, early, stamp-after-alike, second-after-alike, first-older, second-older, first-left, second-left, message-kept, message-left, made-kept, made-left, settled-kept, settled-left, delegated-kept, delegated-left, is_made_in, is_settled_in}
use Rattle.pe_isolation.proofs.Waiting.{waiting-kept, waiting-left}

-- what is read after one of two equal steps is read after the other
carried : {A : Type 0} (read : RepliedHistory → A) (U : RepliedHistory) (s u : Step) → s ≡ u → read (s ∷ U) ≡ read (u ∷ U)
carried read U s u one = ap (λ (x : Step). read (x ∷ U)) one

module _ (laws : HistoryLaws) (top : ℕ) where
  -- by a step of which the same is told in both
  pub kept : (duration : ℕ) (H K : History) (e : Timed) → IsTrue (is_regular duration H) → IsTrue (is_regular duration K) → Agrees top (replied duration H) (replied duration K)
      → step_of duration H e ≡ step_of duration K e → ((m : ℕ) → is_delivery_of e.event m ≡ true → is_own top (message (replied duration H) m) ≡ true)
      → Agrees top (replied duration (e ∷ H)) (replied duration (e ∷ K))
  unfolding replied
  kept duration H K e regular also a one deliveries =
      let T = replied duration H in
      let U = replied duration K in
      let s = step_of duration H e in
      let u = step_of duration K e in record {
        alike = subst (λ (x : Step). Alike (s ∷ T) (x ∷ U)) one (same s a.alike);
        first = λ d h.
            laws.activation.stamp_step s T d
            ∙ stamp-after-alike a.alike s d (stamp_of T d)
            ∙ ap (λ before. stamp_after s U d before) (first-older laws top a s d h)
            ∙ sym (laws.activation.stamp_step s U d)
            ∙ carried (λ V. stamp_of V d) U s u one;
        second = λ d h.
            laws.history_activation.second_stamp_step s T d
            ∙ second-after-alike a.alike s d (second_stamp_of T d) (first-older laws top a s d h)
            ∙ ap (λ before. second_stamp_after s U d before) (second-older laws top a s d h)
            ∙ sym (laws.history_activation.second_stamp_step s U d)
            ∙ carried (λ V. second_stamp_of V d) U s u one;
        message = λ m. message-kept laws top s a m ∙ carried (λ V. own top (message V m)) U s u one;
        made = λ m. made-kept laws top s a m ∙ carried (λ V. is_made_in top V m) U s u one;
        settled = λ m. settled-kept laws top duration H K s regular also a m ∙ carried (λ V. is_settled_in top V m) U s u one;
        waiting = waiting-kept laws top duration H K e regular also a one;
        delegated = λ d capability current h. delegated-kept laws top s a deliveries d capability current h ∙ carried (λ V. delegated_at V d capability) U s u one;
      }

  -- by two steps beside the page, at one time
  pub beside : (duration : ℕ) (H K : History) (e f : Timed) → IsTrue (is_regular duration H) → IsTrue (is_regular duration K) → Agrees top (replied duration H) (replied duration K)
      → e.time ≡ f.time → IsBeside top e.event (step_answer duration (replied duration H) e.time e.event) (replied duration H)
      → IsBeside top f.event (step_answer duration (replied duration K) f.time f.event) (replied duration K)
      → Agrees top (replied duration (e ∷ H)) (replied duration (f ∷ K))
  unfolding replied
  beside duration H K e f regular also a time left right =
      let T = replied duration H in
      let U = replied duration K in
      let s = step_of duration H e in
      let u = step_of duration K f in
      let alike : Alike (s ∷ T) (u ∷ U) = quiet s u time (record { event = left.quiet; item = left.silent }) (record { event = right.quiet; item = right.silent }) a.alike in record {
        alike = alike;
        first = λ d h. first-left laws top s T left d h ∙ first-older laws top a s d h ∙ sym (first-left laws top u U right d (sym (page-alike alike d) ∙ h));
        second = λ d h. second-left laws top s T left d h ∙ second-older laws top a s d h ∙ sym (second-left laws top u U right d (sym (page-alike alike d) ∙ h));
        message = λ m. message-left laws top s T left m ∙ (λ i. cond (m == suc (length-alike a.alike i)) None (a.message m i)) ∙ sym (message-left laws top u U right m);
        made = λ m. made-left laws top s T left m ∙ (λ i. cond (m == suc (length-alike a.alike i)) false (a.made m i)) ∙ sym (made-left laws top u U right m);
        settled = λ m.
            settled-left laws top duration H s m regular left
            ∙ (λ i. cond (m == suc (length-alike a.alike i)) false (a.settled m i))
            ∙ sym (settled-left laws top duration K u m also right);
        waiting = waiting-left laws top duration H e regular left ∙ a.waiting ∙ sym (waiting-left laws top duration K f also right);
        delegated = λ d capability current h. by_place d capability current h (nat_le d (length T)) refl;
      }
    where
      by_place : (d : ℕ) (capability : Capability) → is_current (step_of duration H e ∷ replied duration H) d ≡ true → page (step_of duration H e ∷ replied duration H) d ≡ top → (b : Bool) → nat_le d (length (replied duration H)) ≡ b
          → delegated_at (step_of duration H e ∷ replied duration H) d capability ≡ delegated_at (step_of duration K f ∷ replied duration K) d capability
      by_place d capability current h true is =
          let le : d ≤ length (replied duration H) = early d (length (replied duration H)) is in
          let here : page (replied duration H) d ≡ top = sym (laws.embedders.page_older (step_of duration H e) (replied duration H) d le) ∙ h in
          let was : is_current (replied duration H) d ≡ true =
          (both (is_current (replied duration H) d) (not (ends (frames_above (replied duration H) d) e.event)) (sym (laws.current.is_current_older (step_of duration H e) (replied duration H) d le) ∙ current)).0 in
          delegated-left laws top (step_of duration H e) (replied duration H) left d capability was here
          ∙ a.delegated d capability was here
          ∙ sym (delegated-left laws top (step_of duration K f) (replied duration K) right d capability (sym (current-alike a.alike d) ∙ was) (sym (page-alike a.alike d) ∙ here))
      by_place d capability current h false is =
          let past : length (replied duration H) < d = late d (length (replied duration H)) is in
          laws.delegation.delegated_beyond (step_of duration H e ∷ replied duration H) d capability past
          ∙ sym (laws.delegation.delegated_beyond (step_of duration K f ∷ replied duration K) d capability (subst (λ n. n < d) (length-alike a.alike) past))
