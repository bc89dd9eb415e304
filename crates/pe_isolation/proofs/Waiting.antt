-- The waiting messages of a page, by a step that is one in both histories and by steps beside the page.
use Rattle.std.proofs.Common.{◌≡◌, ℕ, suc, Bool, true, false, not, ◌&&◌, ◌==◌, cond, IsTrue, List, [], ◌∷◌, ◌++◌, length, filter, Option, None, option_to_list, refl, sym, ◌∙◌, ap}
use Rattle.pe_events.specs.Timed.{Timed}
use Rattle.pe_events.specs.declared.event.Event.{Event}
use Rattle.pe_events.specs.declared.event.Event.TheVariants as event
use Rattle.pe_rules.specs.History.{StepAnswer, Step, History, some_if}
use Rattle.pe_rules.specs.Numbering.{makes_message, numbers_made}
use Rattle.pe_rules.specs.Delegation.{Message, message_by, message, is_delivery_of, is_message_settled, is_waiting_in, waiting_messages}
use Rattle.pe_rules.specs.Replies.{step_answer, replied, is_regular}
use Rattle.pe_laws.specs.HistoryLaws.{HistoryLaws}
use Rattle.pe_laws.specs.EffectsLaws.{effects_of}
use Rattle.pe_laws.specs.PromptsLaws.{step_of}
use Rattle.pe_isolation.proofs.Alike.{length-alike}
use Rattle.pe_isolation.proofs.Quiet.{and-false}
use Rattle.pe_isolation.proofs.Pages.{same-numbers, is-same}
use Rattle.pe_isolation.proofs.Beside.{is_own, IsBeside}
use Rattle.pe_isolation.proofs.Agreeing.{Agrees, own-test-alike, message-by-alike}

-- a list without the numbers that fail a test has none of them to take out
taken-out : (test : ℕ → Bool) (m : ℕ) → test m ≡ false → (xs : List ℕ) → filter (λ j. not (m == j)) (filter test xs) ≡ filter test xs
taken-out test m fails [] = refl
taken-out test m fails (x ∷ xs) = by_test (test x) refl (taken-out test m fails xs)
  where
    by_same : test x ≡ true → (b : Bool) → (m == x) ≡ b → filter (λ j. not (m == j)) (filter test xs) ≡ filter test xs
        → cond (not b) (x ∷ filter (λ j. not (m == j)) (filter test xs)) (filter (λ j. not (m == j)) (filter test xs)) ≡ x ∷ filter test xs
    by_same passes true is later = let differs : test x ≡ false = ap test (sym (same-numbers m x is)) ∙ fails in cc
    by_same passes false is later = ap (λ ys. x ∷ ys) later

    by_test : (b : Bool) → test x ≡ b → filter (λ j. not (m == j)) (filter test xs) ≡ filter test xs
        → filter (λ j. not (m == j)) (cond b (x ∷ filter test xs) (filter test xs)) ≡ cond b (x ∷ filter test xs) (filter test xs)
    by_test true is later = by_same is (m == x) refl later
    by_test false is later = later

append-none : (xs : List ℕ) → xs ++ [] ≡ xs
append-none [] = refl
append-none (x ∷ xs) = ap (λ ys. x ∷ ys) (append-none xs)

-- what a post or a delivery makes of the waiting messages, and that every other step leaves them
data IsPosting (s : Step) : Type 0 where
  post : makes_message s.item ≡ true → IsPosting s
  deliver : (m : ℕ) → s.event ≡ event.Deliver m → IsPosting s
  neither : (effects_of s).posts ≡ false → (effects_of s).settles_message ≡ false → IsPosting s

-- what was made is a message only where the event is a post
posting : (e : Event) (item : StepAnswer) (time : ℕ) → IsPosting (record { time = time; event = e; item = item })
posting (event.Post sender target named capability) item time = by_made (makes_message item) refl
  where
    by_made : (b : Bool) → makes_message item ≡ b → IsPosting (record { time = time; event = event.Post sender target named capability; item = item })
    by_made true is = post is
    by_made false is = neither is refl
posting (event.Deliver m) item time = deliver m refl
posting e item time = neither refl refl

module _ (laws : HistoryLaws) (top : ℕ) where
  waiting-by : (duration : ℕ) (H : History) (e : Timed) (o : Option Message) → IsTrue (is_regular duration H) → makes_message (step_of duration H e).item ≡ true → message_by e.event (replied duration H) ≡ o
      → waiting_messages (replied duration (e ∷ H)) top ≡ waiting_messages (replied duration H) top ++ option_to_list (some_if (is_own top o) (suc (length (replied duration H))))
  unfolding replied
  waiting-by duration H e o regular made is =
      laws.delegation.waiting_made duration H e top regular made
      ∙ ap (λ x. waiting_messages (replied duration H) top ++ option_to_list (some_if (is_own top x) (suc (length (replied duration H))))) is

  pub waiting-kept : (duration : ℕ) (H K : History) (e : Timed) → IsTrue (is_regular duration H) → IsTrue (is_regular duration K) → Agrees top (replied duration H) (replied duration K)
      → step_of duration H e ≡ step_of duration K e → waiting_messages (replied duration (e ∷ H)) top ≡ waiting_messages (replied duration (e ∷ K)) top
  waiting-kept duration H K e regular also a one = by_posting (posting e.event (step_answer duration (replied duration H) e.time e.event) e.time)
    where
      by_posting : IsPosting (step_of duration H e) → waiting_messages (replied duration (e ∷ H)) top ≡ waiting_messages (replied duration (e ∷ K)) top
      by_posting (post made) =
          waiting-by duration H e (message_by e.event (replied duration H)) regular made refl
          ∙ (λ i. a.waiting i ++ option_to_list (some_if (is_own top (message-by-alike a.alike e.event i)) (suc (length-alike a.alike i))))
          ∙ sym (waiting-by duration K e (message_by e.event (replied duration K)) also (ap (λ (s : Step). makes_message s.item) (sym one) ∙ made) refl)
      by_posting (deliver m is) =
          laws.delegation.waiting_delivered duration H e m top is
          ∙ ap (filter (λ j. not (m == j))) a.waiting
          ∙ sym (laws.delegation.waiting_delivered duration K e m top is)
      by_posting (neither posts settles) =
          laws.delegation.waiting_stay duration H e top posts settles
          ∙ a.waiting
          ∙ sym (laws.delegation.waiting_stay duration K e top (ap (λ (s : Step). (effects_of s).posts) (sym one) ∙ posts) (ap (λ (s : Step). (effects_of s).settles_message) (sym one) ∙ settles))

  pub waiting-left : (duration : ℕ) (H : History) (e : Timed) → IsTrue (is_regular duration H) → IsBeside top e.event (step_answer duration (replied duration H) e.time e.event) (replied duration H)
      → waiting_messages (replied duration (e ∷ H)) top ≡ waiting_messages (replied duration H) top
  unfolding waiting_messages
  waiting-left duration H e regular beside = by_posting (posting e.event (step_answer duration (replied duration H) e.time e.event) e.time)
    where
      no-wait : (b c : Bool) → c ≡ false → (b && c) ≡ false
      no-wait b c h = ap (λ x. b && x) h ∙ and-false b

      by_posting : IsPosting (step_of duration H e) → waiting_messages (replied duration (e ∷ H)) top ≡ waiting_messages (replied duration H) top
      by_posting (post made) =
          waiting-by duration H e (message_by e.event (replied duration H)) regular made refl
          ∙ ap (λ b. waiting_messages (replied duration H) top ++ option_to_list (some_if b (suc (length (replied duration H))))) (own-test-alike top (message_by e.event (replied duration H)) None beside.posts)
          ∙ append-none (waiting_messages (replied duration H) top)
      by_posting (deliver m is) =
          laws.delegation.waiting_delivered duration H e m top is
          ∙ taken-out (is_waiting_in (replied duration H) top) m
          (no-wait (not (is_message_settled (replied duration H) m)) (is_own top (message (replied duration H) m)) (beside.delivers m (ap (λ x. is_delivery_of x m) is ∙ is-same m)))
          (numbers_made (λ s. makes_message s.item) (replied duration H))
      by_posting (neither posts settles) = laws.delegation.waiting_stay duration H e top posts settles
