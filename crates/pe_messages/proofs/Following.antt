-- For what messages stand after a step.
use Rattle.std.proofs.Common.{◌≡◌, ◌≢◌, ℕ, suc, Bool, true, false, not, ◌&&◌, ◌||◌, ◌==◌, List, [], ◌∷◌, ◌++◌, length, filter, Option, Some, is_some, unwrap_or, option_map, option_to_list, nat_eq, refl, sym, ◌∙◌, ap, arith}
use Rattle.std.proofs.lemmas.Bool.Decides.{nat_tests}
use Rattle.pe_delegation.specs.declared.message.Message.{Message}
use Rattle.pe_delegation.specs.Posted.{Posted, message_of, was_given, without}
use Rattle.pe_events.specs.Timed.{Timed}
use Rattle.pe_events.specs.declared.answer.Answer.TheVariants as answer
use Rattle.pe_events.specs.declared.event.Event.TheVariants as event
use Rattle.pe_rules.specs.History.{Step, RepliedHistory, History, some_if, newest_answer, all_answers}
use Rattle.pe_rules.specs.Numbering.{makes_message, is_message}
use Rattle.pe_rules.specs.Delegation as rules
use Rattle.pe_rules.specs.Delegation.{message_by, is_delivery_of, is_message_settled, waiting_messages}
use Rattle.pe_rules.specs.Replies.{answer_of, replied, is_regular}
use Rattle.pe_laws.specs.HistoryLaws.{HistoryLaws}
use Rattle.pe_laws.specs.Effects.{effects}
use Rattle.pe_laws.specs.EffectsLaws.{effects_of}
use Rattle.pe_laws.specs.PromptsLaws.{step_of}
use Rattle.pe_laws.specs.StatusesLaws.{Each}
use Rattle.pe_messages.specs.Parts.{message_of_row, numbers_of_page, IsMessages, IsPost}
use Rattle.pe_messages.proofs.Rows.{each-weaker, each-filter, each-append, found-more, listed-more, given-more, found-less, listed-less}
use Rattle.pe_messages.proofs.Naming.{named, number-made, told-posted}

-- each waiting message is the history's of its number
abbrev AreKept : RepliedHistory → List (ℕ × Message) → Type 0
AreKept T es = Each (λ e. rules.message T e.0 ≡ Some (message_of_row e.1)) es

none-made : (m : ℕ) → is_message [] m ≡ false
unfolding is_message newest_answer
none-made m = refl

none-waits : (top : ℕ) → waiting_messages [] top ≡ []
unfolding waiting_messages all_answers
none-waits top = refl

none-found : (m : ℕ) → is_some (message_of [] m) ≡ false
unfolding message_of
none-found m = refl

none-given : (m : ℕ) → was_given [] m ≡ false
unfolding was_given
none-given m = refl

pub start : IsMessages [] (record { waiting = []; given = [] })
start = record {
  given = λ m. none-given m ∙ sym (none-made m);
  kept = tt;
  unsettled = λ m. none-found m ∙ sym (ap (λ b. b && not (is_message_settled [] m)) (none-made m));
  listed = λ top. sym (none-waits top);
}

module _ (laws : HistoryLaws) where
  kept-on : (s : Step) (T : RepliedHistory) (es : List (ℕ × Message)) → AreKept T es → AreKept (s ∷ T) es
  kept-on s T es kept =
      each-weaker (λ e. rules.message T e.0 ≡ Some (message_of_row e.1)) (λ e. rules.message (s ∷ T) e.0 ≡ Some (message_of_row e.1)) es
      (λ e h. laws.delegation.message_older s T e.0 ((laws.delegation.message_within T e.0 (message_of_row e.1) h).1) ∙ h) kept

  made-stays : (duration : ℕ) (H : History) (e : Timed) (m : ℕ) → (effects_of (step_of duration H e)).posts ≡ false → is_message (step_of duration H e ∷ replied duration H) m ≡ is_message (replied duration H) m
  made-stays duration H e m posts = sym (ap (λ T. is_message T m) (laws.steps.told_step duration e H)) ∙ laws.delegation.is_message_stays duration H e m posts

  pub quiet : (duration : ℕ) (H : History) (e : Timed) (posted : Posted) → (effects_of (step_of duration H e)).posts ≡ false → (effects_of (step_of duration H e)).settles_message ≡ false
      → IsMessages (replied duration H) posted → IsMessages (step_of duration H e ∷ replied duration H) posted
  quiet duration H e posted posts settles is = let T = replied duration H in let s = step_of duration H e in record {
    given = λ m. is.given m ∙ sym (made-stays duration H e m posts);
    kept = kept-on s T posted.waiting is.kept;
    unsettled = λ m. is.unsettled m ∙ sym (ap (λ b. b && not (is_message_settled T m)) (made-stays duration H e m posts)) ∙ sym (ap (λ b. is_message (s ∷ T) m && not b) (laws.delegation.settled_stays s T m settles));
    listed = λ top. is.listed top ∙ sym (laws.delegation.waiting_stay duration H e top posts settles) ∙ ap (λ U. waiting_messages U top) (laws.steps.told_step duration e H);
  }

  -- ---- a post

  new-unsettled : (duration : ℕ) (H : History) → is_regular duration H ≡ true → is_message_settled (replied duration H) (suc (length (replied duration H))) ≡ false
  new-unsettled duration H regular = by_settled (is_message_settled (replied duration H) (suc (length (replied duration H)))) refl
    where
      by_settled : (b : Bool) → is_message_settled (replied duration H) (suc (length (replied duration H))) ≡ b → b ≡ false
      by_settled false is = refl
      by_settled true is =
          let within = laws.numbering.message_within (replied duration H) (suc (length (replied duration H))) (laws.delegation.settled_made duration H (suc (length (replied duration H))) regular is) in
          absurd (omega (arith, within.1))

  -- the numbers with that of the new message
  numbers-more : (s : Step) (T : RepliedHistory) (number k : ℕ) (ns : List ℕ) → makes_message s.item ≡ true → number ≡ suc (length T) → was_given ns k ≡ is_message T k → was_given (ns ++ number ∷ []) k ≡ is_message (s ∷ T) k
  numbers-more s T number k ns makes at known = given-more ns number k ∙ by_test (nat_eq k number) refl
    where
      or-true : (b : Bool) → (b || true) ≡ true
      or-true true = refl
      or-true false = refl

      or-false : (b : Bool) → (b || false) ≡ b
      or-false true = refl
      or-false false = refl

      by_test : (b : Bool) → nat_eq k number ≡ b → (was_given ns k || b) ≡ is_message (s ∷ T) k
      by_test true t =
          let e : suc (length T) ≡ k = grind (arith, nat_tests) in
          or-true (was_given ns k) ∙ sym makes ∙ sym (laws.numbering.is_message_newest s T) ∙ ap (is_message (s ∷ T)) e
      by_test false t =
          let ne : k ≢ suc (length T) = grind (arith, nat_tests) in
          or-false (was_given ns k) ∙ known ∙ sym (laws.numbering.is_message_older s T k ne)

  waits-more : (s : Step) (T : RepliedHistory) (number k : ℕ) (x : Message) (es : List (ℕ × Message)) → makes_message s.item ≡ true → (effects_of s).settles_message ≡ false → is_message_settled T (suc (length T)) ≡ false → number ≡ suc (length T)
      → is_some (message_of es k) ≡ (is_message T k && not (is_message_settled T k)) → is_some (message_of (es ++ (number, x) ∷ []) k) ≡ (is_message (s ∷ T) k && not (is_message_settled (s ∷ T) k))
  waits-more s T number k x es makes settles unsettled at known =
      found-more es number k x ∙ by_test (nat_eq k number) refl ∙ sym (ap (λ b. is_message (s ∷ T) k && not b) (laws.delegation.settled_stays s T k settles))
    where
      or-true : (b : Bool) → (b || true) ≡ true
      or-true true = refl
      or-true false = refl

      or-false : (b : Bool) → (b || false) ≡ b
      or-false true = refl
      or-false false = refl

      by_test : (b : Bool) → nat_eq k number ≡ b → (is_some (message_of es k) || b) ≡ (is_message (s ∷ T) k && not (is_message_settled T k))
      by_test true t =
          let e : suc (length T) ≡ k = grind (arith, nat_tests) in
          or-true (is_some (message_of es k))
          ∙ sym (ap (λ b. b && true) makes)
          ∙ sym (ap (λ b. makes_message s.item && not b) unsettled)
          ∙ sym (ap (λ b. b && not (is_message_settled T (suc (length T)))) (laws.numbering.is_message_newest s T))
          ∙ ap (λ n. is_message (s ∷ T) n && not (is_message_settled T n)) e
      by_test false t =
          let ne : k ≢ suc (length T) = grind (arith, nat_tests) in
          or-false (is_some (message_of es k)) ∙ known ∙ sym (ap (λ b. b && not (is_message_settled T k)) (laws.numbering.is_message_older s T k ne))

  listed-made : (duration : ℕ) (H : History) (e : Timed) (number top : ℕ) (x : Message) → is_regular duration H ≡ true → makes_message (step_of duration H e).item ≡ true
      → message_by e.event (replied duration H) ≡ Some (message_of_row x) → number ≡ suc (length (replied duration H))
      → waiting_messages (step_of duration H e ∷ replied duration H) top ≡ waiting_messages (replied duration H) top ++ option_to_list (some_if (x.page == top) number)
  listed-made duration H e number top x regular makes message at =
      let T = replied duration H in
      sym (ap (λ U. waiting_messages U top) (laws.steps.told_step duration e H))
      ∙ laws.delegation.waiting_made duration H e top regular makes
      ∙ ap (λ (o : Option rules.Message). waiting_messages T top ++ option_to_list (some_if (unwrap_or (option_map (λ y. y.page == top) o) false) (length (replied duration (e ∷ H))))) message
      ∙ ap (λ (n : ℕ). waiting_messages T top ++ option_to_list (some_if (x.page == top) n)) (ap length (laws.steps.told_step duration e H) ∙ sym at)

  pub posted : (duration : ℕ) (H : History) (e : Timed) (sender target : ℕ) (words : Option (List ℕ)) (capability : List ℕ) (number : ℕ) (x : Message) (old new : Posted) → is_regular duration H ≡ true
      → e.event ≡ event.Post sender target words capability → IsPost (replied duration H) sender target words capability x
      → answer_of duration (replied duration H) e.time e.event ≡ answer.MessageMade number
      → IsMessages (replied duration H) old → new.waiting ≡ old.waiting ++ (number, x) ∷ [] → new.given ≡ old.given ++ number ∷ [] → IsMessages (step_of duration H e ∷ replied duration H) new
  posted duration H e sender target words capability number x old new regular post parts says is waiting given =
      let T = replied duration H in
      let s = step_of duration H e in
      let makes : makes_message s.item ≡ true = ap makes_message (told-posted duration T e.time sender target number words capability e.event post says) in
      let settles : (effects_of s).settles_message ≡ false = ap (λ y. (effects y s.item).settles_message) post in
      let at : number ≡ suc (length T) = number-made duration T e.time sender target number words capability (sym (ap (answer_of duration T e.time) post) ∙ says) in
      let message : message_by e.event T ≡ Some (message_of_row x) = ap (λ y. message_by y T) post ∙ named T sender target words capability x parts in
      let newest : rules.message (s ∷ T) number ≡ Some (message_of_row x) = ap (rules.message (s ∷ T)) at ∙ laws.delegation.message_newest s T ∙ message in
      record {
        given = λ k. ap (λ ns. was_given ns k) given ∙ numbers-more s T number k old.given makes at (is.given k);
        kept = rw waiting (each-append (λ y. rules.message (s ∷ T) y.0 ≡ Some (message_of_row y.1)) old.waiting ((number, x) ∷ []) (kept-on s T old.waiting is.kept) (newest, tt));
        unsettled = λ k. ap (λ es. is_some (message_of es k)) waiting ∙ waits-more s T number k x old.waiting makes settles (new-unsettled duration H regular) at (is.unsettled k);
        listed = λ top. ap (numbers_of_page top) waiting ∙ listed-more old.waiting number top x ∙ ap (λ ns. ns ++ option_to_list (some_if (x.page == top) number)) (is.listed top)
            ∙ sym (listed-made duration H e number top x regular makes message at);
      }

  -- ---- a delivery

  waits-less : (m k : ℕ) (made settled : Bool) → (not (nat_eq m k) && (made && not settled)) ≡ (made && not ((m == k) || settled))
  waits-less m k made settled = by_tests (nat_eq m k) made
    where
      by_tests : (b c : Bool) → (not b && (c && not settled)) ≡ (c && not (b || settled))
      by_tests true true = refl
      by_tests true false = refl
      by_tests false true = refl
      by_tests false false = refl

  pub delivered : (duration : ℕ) (H : History) (e : Timed) (m : ℕ) (old new : Posted) → e.event ≡ event.Deliver m
      → IsMessages (replied duration H) old → new.waiting ≡ without m old.waiting → new.given ≡ old.given → IsMessages (step_of duration H e ∷ replied duration H) new
  unfolding without
  delivered duration H e m old new deliver is waiting given =
      let T = replied duration H in
      let s = step_of duration H e in
      let posts : (effects_of s).posts ≡ false = ap (λ y. (effects y s.item).posts) deliver in
      record {
        given = λ k. ap (λ ns. was_given ns k) given ∙ is.given k ∙ sym (made-stays duration H e k posts);
        kept = rw waiting (each-filter (λ y. rules.message (s ∷ T) y.0 ≡ Some (message_of_row y.1)) (λ y. not (nat_eq m y.0)) old.waiting (kept-on s T old.waiting is.kept));
        unsettled = λ k.
            ap (λ es. is_some (message_of es k)) waiting ∙ found-less old.waiting m k ∙ ap (λ b. not (nat_eq m k) && b) (is.unsettled k)
            ∙ waits-less m k (is_message T k) (is_message_settled T k)
            ∙ sym (ap (λ b. b && not ((m == k) || is_message_settled T k)) (made-stays duration H e k posts))
            ∙ sym (ap (λ b. is_message (s ∷ T) k && not b) (laws.delegation.settled_step s T k ∙ ap (λ y. is_delivery_of y k || is_message_settled T k) deliver));
        listed = λ top. ap (numbers_of_page top) waiting ∙ listed-less old.waiting m top ∙ ap (filter (λ j. not (m == j))) (is.listed top)
            ∙ sym (laws.delegation.waiting_delivered duration H e m top deliver) ∙ ap (λ U. waiting_messages U top) (laws.steps.told_step duration e H);
      }
