-- Histories that agree for a page: they are alike, and its user activation, its messages and what its documents hold by them are the same.
-- That goes on by a step that is one in both, and by steps beside the page.
use Rattle.std.proofs.Common.{◌≡◌, ℕ, suc, ◌<◌, ◌≤◌, Bool, true, false, not, ◌&&◌, ◌||◌, ◌==◌, nat_le, cond, IsTrue, ◌∷◌, length, Option, Some, None, is_some, unwrap_or, option_map, option_and_then, refl, sym, ◌∙◌, ap, subst, arith}
use Rattle.std.proofs.lemmas.Bool.Decides.{nat_tests}
use Rattle.pe_base.specs.declared.input.Stamp.{Stamp}
use Rattle.pe_base.specs.declared.input.Stamp.TheVariants as stamp
use Rattle.pe_features.specs.Capabilities.{capability_named}
use Rattle.pe_features.specs.declared.capability.Capability.{Capability}
use Rattle.pe_events.specs.declared.event.Event.{Event}
use Rattle.pe_events.specs.declared.event.Event.TheVariants as event
use Rattle.pe_rules.specs.History.{StepAnswer, Step, RepliedHistory, History, some_if}
use Rattle.pe_rules.specs.Numbering.{makes_message, is_message}
use Rattle.pe_rules.specs.Making.{frame_of}
use Rattle.pe_rules.specs.Embedders.{page}
use Rattle.pe_rules.specs.Current.{ends, frames_above, is_current}
use Rattle.pe_rules.specs.Settings.{word_origin}
use Rattle.pe_rules.specs.Activation.{is_by_transient, is_consuming_call, is_frame_of_page, consumes_by, consumes, stamp_of}
use Rattle.pe_rules.specs.HistoryActivation.{is_allowance, consumes_history_by, consumes_history, second_stamp_of}
use Rattle.pe_rules.specs.Delegation.{Message, message_by, message, is_delivery_of, is_message_settled, is_delivered, is_same_capability, hands_over, spends, waiting_messages}
use Rattle.pe_rules.specs.Replies.{replied, is_regular}
use Rattle.pe_laws.specs.HistoryLaws.{HistoryLaws}
use Rattle.pe_laws.specs.ActivationLaws.{consumed_stamp, stamp_after}
use Rattle.pe_laws.specs.HistoryActivationLaws.{second_stamp_after}
use Rattle.pe_laws.specs.DelegationLaws.{delegated_at}
use Rattle.pe_isolation.proofs.Alike.{Alike, length-alike}
use Rattle.pe_isolation.proofs.Quiet.{and-false}
use Rattle.pe_isolation.proofs.Made.{page-alike, page-of-frame-alike, frame-of-alike}
use Rattle.pe_isolation.proofs.Shown.{current-alike, document-in-alike}
use Rattle.pe_isolation.proofs.Policies.{activates-alike}
use Rattle.pe_isolation.proofs.Pages.{same-numbers, is-same, both}
use Rattle.pe_isolation.proofs.Posted.{message-step}
use Rattle.pe_isolation.proofs.Beside.{own, is_own, IsBeside}

-- a message of the page that was made; one that is settled
abbrev pub is_made_in : ℕ → RepliedHistory → ℕ → Bool
is_made_in top T m = is_own top (message T m) && is_message T m

abbrev pub is_settled_in : ℕ → RepliedHistory → ℕ → Bool
is_settled_in top T m = is_own top (message T m) && is_message_settled T m

-- the two agree for the page
pub record Agrees (top : ℕ) (T U : RepliedHistory) : Type 0 where
  pub alike : Alike T U
  pub first : (d : ℕ) → page T d ≡ top → stamp_of T d ≡ stamp_of U d
  pub second : (d : ℕ) → page T d ≡ top → second_stamp_of T d ≡ second_stamp_of U d
  pub message : (m : ℕ) → own top (message T m) ≡ own top (message U m)
  pub made : (m : ℕ) → is_made_in top T m ≡ is_made_in top U m
  pub settled : (m : ℕ) → is_settled_in top T m ≡ is_settled_in top U m
  pub waiting : waiting_messages T top ≡ waiting_messages U top
  pub delegated : (d : ℕ) (capability : Capability) → is_current T d ≡ true → page T d ≡ top → delegated_at T d capability ≡ delegated_at U d capability

-- ---- messages of the page

pub own-test : (top : ℕ) (o : Option Message) → is_some (own top o) ≡ is_own top o
own-test top None = refl
own-test top (Some x) = by_test (x.page == top)
  where
    by_test : (b : Bool) → is_some (some_if b x) ≡ b
    by_test true = refl
    by_test false = refl

pub own-is : (top : ℕ) (o : Option Message) → is_own top o ≡ true → own top o ≡ o
own-is top None h = cc
own-is top (Some x) h = ap (λ b. some_if b x) h

pub own-test-alike : (top : ℕ) (o p : Option Message) → own top o ≡ own top p → is_own top o ≡ is_own top p
own-test-alike top o p h = sym (own-test top o) ∙ ap is_some h ∙ own-test top p

-- a message of the page is one message in both
pub own-alike : (top : ℕ) (o p : Option Message) → own top o ≡ own top p → is_own top o ≡ true → o ≡ p
own-alike top o p h passes = sym (own-is top o passes) ∙ h ∙ own-is top p (sym (own-test-alike top o p h) ∙ passes)

own-cond : (top : ℕ) (b : Bool) (o p : Option Message) → own top (cond b o p) ≡ cond b (own top o) (own top p)
own-cond top true o p = refl
own-cond top false o p = refl

-- ---- what the same step does

pub message-by-alike : {T U : RepliedHistory} → Alike T U → (e : Event) → message_by e T ≡ message_by e U
message-by-alike r (event.Post sender target named capability) = λ i.
    option_and_then (λ d. option_and_then (λ p. option_map (λ c. record { page = p; target = d; origin = option_and_then word_origin named; capability = c }) (capability_named capability)) (page-of-frame-alike r sender i)) (document-in-alike r target i)
message-by-alike r e = refl

frame-of-page-alike : {T U : RepliedHistory} → Alike T U → (frame top : ℕ) → is_frame_of_page T frame top ≡ is_frame_of_page U frame top
frame-of-page-alike r frame top = λ i. unwrap_or (option_map (λ p. p == top) (page-of-frame-alike r frame i)) false

consumes-alike : {T U : RepliedHistory} → Alike T U → (e : Event) (item : StepAnswer) (top : ℕ) → consumes_by e item T top ≡ consumes_by e item U top
consumes-alike r (event.UseCall frame call) item top = λ i. is_by_transient item && is_consuming_call call && frame-of-page-alike r frame top i
consumes-alike r (event.Post sender target named capability) item top = λ i. makes_message item && frame-of-page-alike r sender top i
consumes-alike r e item top = refl

history-alike : {T U : RepliedHistory} → Alike T U → (e : Event) (item : StepAnswer) (top : ℕ) → consumes_history_by e item T top ≡ consumes_history_by e item U top
history-alike r (event.History frame) item top = λ i. is_allowance item && frame-of-page-alike r frame top i
history-alike r e item top = refl

pub stamp-after-alike : {T U : RepliedHistory} → Alike T U → (s : Step) (d : ℕ) (before : Stamp) → stamp_after s T d before ≡ stamp_after s U d before
unfolding consumes
stamp-after-alike r s d before = λ i. cond (activates-alike r s.event d i) (stamp.At s.time) (cond (consumes-alike r s.event s.item (page-alike r d i) i) (consumed_stamp before) before)

pub second-after-alike : {T U : RepliedHistory} → Alike T U → (s : Step) (d : ℕ) (before : Stamp) → stamp_of T d ≡ stamp_of U d → second_stamp_after s T d before ≡ second_stamp_after s U d before
unfolding consumes_history
second-after-alike r s d before one = λ i. cond (history-alike r s.event s.item (page-alike r d i) i && current-alike r d i) (one i) before

-- a delivery of the same message hands over the same
hands-alike : (T U : RepliedHistory) (e : Event) (item : StepAnswer) (d : ℕ) (capability : Capability) → ((m : ℕ) → is_delivery_of e m ≡ true → message T m ≡ message U m)
    → hands_over e item T d capability ≡ hands_over e item U d capability
hands-alike T U (event.Deliver m) item d capability one = λ i.
    is_delivered item && unwrap_or (option_map (λ (x : Message). x.target == d && is_same_capability x.capability capability) (one m (is-same m) i)) false
hands-alike T U e item d capability one = refl

-- ---- positions

-- within the history, or beyond
pub late : (d n : ℕ) → nat_le d n ≡ false → n < d
late d n h = grind (arith, nat_tests)

pub early : (d n : ℕ) → nat_le d n ≡ true → d ≤ n
early d n h = grind (arith, nat_tests)

module _ (laws : HistoryLaws) (top : ℕ) where
  -- ---- stamps

  pub first-older : {T U : RepliedHistory} → Agrees top T U → (s : Step) (d : ℕ) → page (s ∷ T) d ≡ top → stamp_of T d ≡ stamp_of U d
  first-older {T} {U} a s d h = by_place (nat_le d (length T)) refl
    where
      by_place : (b : Bool) → nat_le d (length T) ≡ b → stamp_of T d ≡ stamp_of U d
      by_place true is = a.first d (sym (laws.embedders.page_older s T d (early d (length T) is)) ∙ h)
      by_place false is =
          laws.activation.stamp_beyond T d (late d (length T) is)
          ∙ sym (laws.activation.stamp_beyond U d (late d (length U) (ap (λ n. nat_le d n) (sym (length-alike a.alike)) ∙ is)))

  pub second-older : {T U : RepliedHistory} → Agrees top T U → (s : Step) (d : ℕ) → page (s ∷ T) d ≡ top → second_stamp_of T d ≡ second_stamp_of U d
  second-older {T} {U} a s d h = by_place (nat_le d (length T)) refl
    where
      by_place : (b : Bool) → nat_le d (length T) ≡ b → second_stamp_of T d ≡ second_stamp_of U d
      by_place true is = a.second d (sym (laws.embedders.page_older s T d (early d (length T) is)) ∙ h)
      by_place false is =
          laws.history_activation.second_stamp_beyond T d (late d (length T) is)
          ∙ sym (laws.history_activation.second_stamp_beyond U d (late d (length U) (ap (λ n. nat_le d n) (sym (length-alike a.alike)) ∙ is)))

  -- a step beside the page leaves the stamps of its documents
  pub first-left : (s : Step) (T : RepliedHistory) → IsBeside top s.event s.item T → (d : ℕ) → page (s ∷ T) d ≡ top → stamp_of (s ∷ T) d ≡ stamp_of T d
  unfolding consumes
  first-left s T beside d h = laws.activation.stamp_step s T d ∙ by_place (nat_le d (length T)) refl
    where
      by_test : (b : Bool) → cond b (consumed_stamp stamp.Never) stamp.Never ≡ stamp.Never
      by_test true = refl
      by_test false = refl

      by_place : (b : Bool) → nat_le d (length T) ≡ b → stamp_after s T d (stamp_of T d) ≡ stamp_of T d
      by_place true is =
          let here : page T d ≡ top = sym (laws.embedders.page_older s T d (early d (length T) is)) ∙ h in
          ap (λ b. cond b (stamp.At s.time) (cond (consumes_by s.event s.item T (page T d)) (consumed_stamp (stamp_of T d)) (stamp_of T d))) (beside.activates d here)
          ∙ ap (λ p. cond (consumes_by s.event s.item T p) (consumed_stamp (stamp_of T d)) (stamp_of T d)) here
          ∙ ap (λ b. cond b (consumed_stamp (stamp_of T d)) (stamp_of T d)) beside.consumes
      by_place false is =
          let past : length T < d = late d (length T) is in
          ap (λ b. cond b (stamp.At s.time) (cond (consumes_by s.event s.item T (page T d)) (consumed_stamp (stamp_of T d)) (stamp_of T d))) (laws.activation.activates_within s.event T d past)
          ∙ ap (λ x. cond (consumes_by s.event s.item T (page T d)) (consumed_stamp x) x) (laws.activation.stamp_beyond T d past)
          ∙ by_test (consumes_by s.event s.item T (page T d))
          ∙ sym (laws.activation.stamp_beyond T d past)

  pub second-left : (s : Step) (T : RepliedHistory) → IsBeside top s.event s.item T → (d : ℕ) → page (s ∷ T) d ≡ top → second_stamp_of (s ∷ T) d ≡ second_stamp_of T d
  unfolding consumes_history
  second-left s T beside d h = laws.history_activation.second_stamp_step s T d ∙ by_place (nat_le d (length T)) refl
    where
      by_place : (b : Bool) → nat_le d (length T) ≡ b → second_stamp_after s T d (second_stamp_of T d) ≡ second_stamp_of T d
      by_place true is =
          let here : page T d ≡ top = sym (laws.embedders.page_older s T d (early d (length T) is)) ∙ h in
          ap (λ p. cond (consumes_history_by s.event s.item T p && is_current T d) (stamp_of T d) (second_stamp_of T d)) here
          ∙ ap (λ b. cond (b && is_current T d) (stamp_of T d) (second_stamp_of T d)) beside.history
      by_place false is =
          let past : length T < d = late d (length T) is in
          by_current (is_current T d) refl
        where
          by_current : (b : Bool) → is_current T d ≡ b → cond (consumes_history_by s.event s.item T (page T d) && b) (stamp_of T d) (second_stamp_of T d) ≡ second_stamp_of T d
          by_current true current = let w : (1 ≤ d) × (d ≤ length T) = laws.current.is_current_within T d current in let past : length T < d = late d (length T) is in absurd (omega arith)
          by_current false current = ap (λ b. cond b (stamp_of T d) (second_stamp_of T d)) (and-false (consumes_history_by s.event s.item T (page T d)))

  -- ---- messages

  pub message-left : (s : Step) (T : RepliedHistory) → IsBeside top s.event s.item T → (m : ℕ) → own top (message (s ∷ T) m) ≡ cond (m == suc (length T)) None (own top (message T m))
  message-left s T beside m =
      ap (own top) (message-step s T m) ∙ own-cond top (m == suc (length T)) (message_by s.event T) (message T m)
      ∙ ap (λ o. cond (m == suc (length T)) o (own top (message T m))) beside.posts

  pub message-kept : (s : Step) {T U : RepliedHistory} → Agrees top T U → (m : ℕ) → own top (message (s ∷ T) m) ≡ own top (message (s ∷ U) m)
  message-kept s {T} {U} a m =
      ap (own top) (message-step s T m)
      ∙ own-cond top (m == suc (length T)) (message_by s.event T) (message T m)
      ∙ (λ i. cond (m == suc (length-alike a.alike i)) (own top (message-by-alike a.alike s.event i)) (a.message m i))
      ∙ sym (own-cond top (m == suc (length U)) (message_by s.event U) (message U m))
      ∙ ap (own top) (sym (message-step s U m))

  -- which numbers are those of messages of the page, after a step
  made-step : (s : Step) (T : RepliedHistory) (m : ℕ) → is_made_in top (s ∷ T) m ≡ cond (m == suc (length T)) (is_own top (message_by s.event T) && makes_message s.item) (is_made_in top T m)
  made-step s T m = ap (λ o. is_own top o && is_message (s ∷ T) m) (message-step s T m) ∙ by_test (m == suc (length T)) refl
    where
      by_test : (b : Bool) → (m == suc (length T)) ≡ b → (is_own top (cond b (message_by s.event T) (message T m)) && is_message (s ∷ T) m)
          ≡ cond b (is_own top (message_by s.event T) && makes_message s.item) (is_made_in top T m)
      by_test true is =
          ap (λ k. is_own top (message_by s.event T) && is_message (s ∷ T) k) (same-numbers m (suc (length T)) is)
          ∙ ap (λ b. is_own top (message_by s.event T) && b) (laws.numbering.is_message_newest s T)
      by_test false is = ap (λ b. is_own top (message T m) && b) (laws.numbering.is_message_older s T m (λ e. differs (subst (λ k. (k == suc (length T)) ≡ false) e is)))
        where
          differs : (suc (length T) == suc (length T)) ≡ false → ⊥
          differs unlike = let alike : (suc (length T) == suc (length T)) ≡ true = is-same (suc (length T)) in cc

  pub made-kept : (s : Step) {T U : RepliedHistory} → Agrees top T U → (m : ℕ) → is_made_in top (s ∷ T) m ≡ is_made_in top (s ∷ U) m
  made-kept s {T} {U} a m =
      made-step s T m
      ∙ (λ i. cond (m == suc (length-alike a.alike i)) (is_own top (message-by-alike a.alike s.event i) && makes_message s.item) (a.made m i))
      ∙ sym (made-step s U m)

  pub made-left : (s : Step) (T : RepliedHistory) → IsBeside top s.event s.item T → (m : ℕ) → is_made_in top (s ∷ T) m ≡ cond (m == suc (length T)) false (is_made_in top T m)
  made-left s T beside m =
      made-step s T m ∙ ap (λ b. cond (m == suc (length T)) (b && makes_message s.item) (is_made_in top T m)) (own-test-alike top (message_by s.event T) None beside.posts)

  no-delivery : (e : Event) (T : RepliedHistory) (m : ℕ) → (is_own top (message_by e T) && is_delivery_of e m) ≡ false
  no-delivery (event.Post sender target named capability) T m = and-false (is_own top (message_by (event.Post sender target named capability) T))
  no-delivery e T m = refl

  -- a number beyond the history is settled by none
  settled-late : (duration : ℕ) (H : History) (m : ℕ) → IsTrue (is_regular duration H) → length (replied duration H) < m → is_message_settled (replied duration H) m ≡ false
  settled-late duration H m regular past = by_settled (is_message_settled (replied duration H) m) refl
    where
      by_settled : (b : Bool) → is_message_settled (replied duration H) m ≡ b → b ≡ false
      by_settled true is =
          let w : (1 ≤ m) × (m ≤ length (replied duration H)) = laws.numbering.message_within (replied duration H) m (laws.delegation.settled_made duration H m regular is) in
          absurd (omega arith)
      by_settled false is = refl

  -- which messages of the page are settled after a step
  settled-step : (duration : ℕ) (H : History) (s : Step) (m : ℕ) → IsTrue (is_regular duration H)
      → is_settled_in top (s ∷ replied duration H) m
      ≡ cond (m == suc (length (replied duration H))) false ((is_own top (message (replied duration H) m) && is_delivery_of s.event m) || is_settled_in top (replied duration H) m)
  settled-step duration H s m regular =
      ap (λ o. is_own top o && is_message_settled (s ∷ replied duration H) m) (message-step s (replied duration H) m)
      ∙ ap (λ b. is_own top (cond (m == suc (length (replied duration H))) (message_by s.event (replied duration H)) (message (replied duration H) m)) && b) (laws.delegation.settled_step s (replied duration H) m)
      ∙ by_test (m == suc (length (replied duration H))) refl
    where
      apart : (a b c : Bool) → (a && (b || c)) ≡ ((a && b) || (a && c))
      apart true b c = refl
      apart false b c = refl

      or-none : (b : Bool) → (b || false) ≡ b
      or-none true = refl
      or-none false = refl

      by_test : (b : Bool) → (m == suc (length (replied duration H))) ≡ b
          → (is_own top (cond b (message_by s.event (replied duration H)) (message (replied duration H) m)) && (is_delivery_of s.event m || is_message_settled (replied duration H) m))
          ≡ cond b false ((is_own top (message (replied duration H) m) && is_delivery_of s.event m) || is_settled_in top (replied duration H) m)
      by_test true is =
          let here : m ≡ suc (length (replied duration H)) = same-numbers m (suc (length (replied duration H))) is in
          ap (λ b. is_own top (message_by s.event (replied duration H)) && (is_delivery_of s.event m || b)) (settled-late duration H m regular (omega arith))
          ∙ ap (λ b. is_own top (message_by s.event (replied duration H)) && b) (or-none (is_delivery_of s.event m))
          ∙ no-delivery s.event (replied duration H) m
      by_test false is = apart (is_own top (message (replied duration H) m)) (is_delivery_of s.event m) (is_message_settled (replied duration H) m)

  own-both : {T U : RepliedHistory} → Agrees top T U → (m : ℕ) → is_own top (message T m) ≡ is_own top (message U m)
  own-both {T} {U} a m = own-test-alike top (message T m) (message U m) (a.message m)

  pub settled-kept : (duration : ℕ) (H K : History) (s : Step) → IsTrue (is_regular duration H) → IsTrue (is_regular duration K) → Agrees top (replied duration H) (replied duration K)
      → (m : ℕ) → is_settled_in top (s ∷ replied duration H) m ≡ is_settled_in top (s ∷ replied duration K) m
  settled-kept duration H K s regular also a m =
      settled-step duration H s m regular
      ∙ (λ i. cond (m == suc (length-alike a.alike i)) false ((own-both a m i && is_delivery_of s.event m) || a.settled m i))
      ∙ sym (settled-step duration K s m also)

  pub settled-left : (duration : ℕ) (H : History) (s : Step) (m : ℕ) → IsTrue (is_regular duration H) → IsBeside top s.event s.item (replied duration H)
      → is_settled_in top (s ∷ replied duration H) m ≡ cond (m == suc (length (replied duration H))) false (is_settled_in top (replied duration H) m)
  settled-left duration H s m regular beside =
      settled-step duration H s m regular
      ∙ ap (λ b. cond (m == suc (length (replied duration H))) false (b || is_settled_in top (replied duration H) m)) (by_delivery (is_delivery_of s.event m) refl)
    where
      by_delivery : (b : Bool) → is_delivery_of s.event m ≡ b → (is_own top (message (replied duration H) m) && b) ≡ false
      by_delivery true is = ap (λ b. b && true) (beside.delivers m is)
      by_delivery false is = and-false (is_own top (message (replied duration H) m))

  -- ---- capabilities

  pub delegated-kept : (s : Step) {T U : RepliedHistory} → Agrees top T U → ((m : ℕ) → is_delivery_of s.event m ≡ true → is_own top (message T m) ≡ true)
      → (d : ℕ) (capability : Capability) → is_current (s ∷ T) d ≡ true → page (s ∷ T) d ≡ top → delegated_at (s ∷ T) d capability ≡ delegated_at (s ∷ U) d capability
  delegated-kept s {T} {U} a kept d capability current h = by_place (nat_le d (length T)) refl
    where
      one : (m : ℕ) → is_delivery_of s.event m ≡ true → message T m ≡ message U m
      one m is = own-alike top (message T m) (message U m) (a.message m) (kept m is)

      by_place : (b : Bool) → nat_le d (length T) ≡ b → delegated_at (s ∷ T) d capability ≡ delegated_at (s ∷ U) d capability
      by_place true is =
          let le : d ≤ length T = early d (length T) is in
          let older : delegated_at T d capability ≡ delegated_at U d capability =
          a.delegated d capability (both (is_current T d) (not (ends (frames_above T d) s.event)) (sym (laws.current.is_current_older s T d le) ∙ current)).0 (sym (laws.embedders.page_older s T d le) ∙ h) in
          laws.delegation.delegated_step s T d capability le
          ∙ (λ i. cond (hands-alike T U s.event s.item d capability one i) (Some s.time) (cond (spends s.event s.item (frame-of-alike a.alike d i) capability) None (older i)))
          ∙ sym (laws.delegation.delegated_step s U d capability (subst (λ n. d ≤ n) (length-alike a.alike) le))
      by_place false is =
          let past : length T < d = late d (length T) is in
          laws.delegation.delegated_beyond (s ∷ T) d capability past
          ∙ sym (laws.delegation.delegated_beyond (s ∷ U) d capability (subst (λ n. n < d) (length-alike a.alike) past))

  pub delegated-left : (s : Step) (T : RepliedHistory) → IsBeside top s.event s.item T → (d : ℕ) (capability : Capability) → is_current T d ≡ true → page T d ≡ top
      → delegated_at (s ∷ T) d capability ≡ delegated_at T d capability
  delegated-left s T beside d capability current h =
      laws.delegation.delegated_step s T d capability (laws.current.is_current_within T d current).1
      ∙ ap (λ b. cond b (Some s.time) (cond (spends s.event s.item (frame_of T d) capability) None (delegated_at T d capability))) (beside.hands d capability h)
      ∙ ap (λ b. cond b None (delegated_at T d capability)) (beside.spends d capability current h)
