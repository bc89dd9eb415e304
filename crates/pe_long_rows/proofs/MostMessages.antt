-- The greatest number of messages of a page that are not delivered, from the bytes of the script to the bytes of the output.
-- The script is too long to be computed in one theorem: it is proved by induction over how many messages were posted.
-- A post consumes the user activation, so an input stands before each.
use Rattle.std.proofs.Common.{◌≡◌, ◌≢◌, ℕ, suc, ◌+◌, ◌<◌, ◌≤◌, true, false, List, [], ◌∷◌, ◌++◌, length, map, filter, codes, decimal, Option, Some, None, option_to_list, refl, ◌∙◌, ap, arith, append-nil, add-one}
use Rattle.std.proofs.lemmas.Bool.{lt-leb, le-ltb}
use Rattle.std.specs.Fmt.{digits}
use Rattle.pe_base.specs.declared.input.InputKind.TheVariants.{Mousedown}
use Rattle.pe_lines.specs.Lines.{lines, lines_or_too_long}
use Rattle.pe_features.specs.declared.capability.Capability.TheVariants as capability
use Rattle.pe_features.specs.declared.feature.Feature.TheVariants as feature
use Rattle.pe_features.specs.Capabilities.{capability_named}
use Rattle.pe_events.specs.declared.answer.Answer.TheVariants as answer
use Rattle.pe_events.specs.declared.cause.Cause.TheVariants as cause
use Rattle.pe_events.specs.declared.event.Event.{Event}
use Rattle.pe_events.specs.declared.event.Event.TheVariants as event
use Rattle.pe_events.specs.Texts.{answer_text, answer_words}
use Rattle.pe_events.specs.Timed.{Timed}
use Rattle.pe_rules.specs.History.{Replied, Step, RepliedHistory, History, some_if, newest_answer, all_answers}
use Rattle.pe_rules.specs.Numbering.{makes_message, documents_made}
use Rattle.pe_rules.specs.Embedders.{page}
use Rattle.pe_rules.specs.Denials.{why_denied}
use Rattle.pe_rules.specs.Activation.{reaches, activates, activated_count, last_activation, is_consumed_since, has_transient}
use Rattle.pe_rules.specs.Settings.{setting_named, setting_by}
use Rattle.pe_rules.specs.Delegation.{message, is_message_settled, is_waiting_in, waiting_messages}
use Rattle.pe_rules.specs.Causes.{cause_of, names_unknown, names_settled, names_closed, names_not_shown, has_bad_url, has_bad_feature, has_bad_call, has_bad_capability, names_other_page, exceeds_pages, exceeds_depth, exceeds_frames, exceeds_statuses, exceeds_pending, exceeds_store}
use Rattle.pe_rules.specs.Replies.{post_reason, answer_of, replied, reply_in, accepts_in}
use Rattle.pe_script.specs.Reading.{Reading, Says}
use Rattle.pe_output.specs.OutputText.{reading_or_too_long, event_text, history_after, text_from, output_text}
use Rattle.pe_laws.specs.HistoryLaws.{HistoryLaws}
use Rattle.pe_rows.proofs.OnLiterals.{output_on_literals}
use Rattle.pe_long_rows.proofs.Counts.{count-step}
use Rattle.pe_long_rows.proofs.FirstPage.{opening, step, IsFirstPage, opened, kept, live, document-of, page-of-frame, statuses_made, nothing-before, nothing-after, first_line, first_text, script-text}
use Rattle.pe_long_rows.proofs.Repeated.{blocks, texts_from, IsTaken, text-taken, text-last, two-lines, repeated}
use Rattle.pe_long_rows.specs.MostMessagesText.{script, output}

-- an input that activates the page's document
abbrev input : Event
input = event.Input 1 Mousedown

-- a message of the page to itself
abbrev post : Event
post = event.Post 1 1 (Some (codes "https://a.example")) (codes "payment")

is-named : capability_named (codes "payment") ≡ Some capability.Payment
unfolding capability_named
is-named = refl

-- ---- a page of some messages

-- the page has one document, which may hand on payment, and so many messages, none of which is delivered
pub record IsPage (k : ℕ) (T : RepliedHistory) : Type 0 where
  pub first : IsFirstPage T
  pub waits : length (waiting_messages T 1) ≡ k
  pub unsettled : (m : ℕ) → is_message_settled T m ≡ false
  pub documents : documents_made T ≡ 1 ∷ []
  pub allowed : why_denied T feature.Payment 1 ≡ None
  pub statuses : statuses_made T ≡ []

page-begun : IsPage 0 (replied 5000 (opening ∷ []))
unfolding output_on_literals
page-begun = record { first = opened; waits = refl; unsettled = λ m. refl; documents = refl; allowed = refl; statuses = refl }

-- ---- what an event leaves

module _ (laws : HistoryLaws) where
  message-older : (s : Step) (T : RepliedHistory) (m : ℕ) → m ≤ length T → message (s ∷ T) m ≡ message T m
  unfolding message
  message-older s T m h = let ne : m ≢ suc (length T) = omega arith in rw (laws.steps.step_at_older s T m ne) refl

  waiting-step : (s : Step) (T : RepliedHistory) (top : ℕ) → ((m : ℕ) → is_message_settled (s ∷ T) m ≡ is_message_settled T m)
      → length (waiting_messages (s ∷ T) top) ≡ length (waiting_messages T top) + length (filter (is_waiting_in (s ∷ T) top) (option_to_list (some_if (makes_message s.item) (suc (length T)))))
  unfolding waiting_messages
  waiting-step s T top same =
      count-step (λ s. makes_message s.item) (is_waiting_in T top) (is_waiting_in (s ∷ T) top) s T (λ m h. rw (same m, message-older s T m h) refl)

  -- ---- the input

  -- what was told of it
  abbrev input_step : Step
  input_step = step input (Replied (answer.Activated 1))

  settled-input : (T : RepliedHistory) (m : ℕ) → is_message_settled (input_step ∷ T) m ≡ is_message_settled T m
  unfolding is_message_settled newest_answer
  settled-input T m = refl

  statuses-input : (T : RepliedHistory) → statuses_made T ≡ [] → statuses_made (input_step ∷ T) ≡ []
  unfolding all_answers
  statuses-input T e = rw e refl

  page-input : (k : ℕ) (T : RepliedHistory) → IsPage k T → IsPage k (input_step ∷ T)
  page-input k T w = record {
    first = kept laws input (Replied (answer.Activated 1)) T refl w.first;
    waits = waiting-step input_step T 1 (settled-input T) ∙ omega (arith, w.waits);
    unsettled = λ m. settled-input T m ∙ w.unsettled m;
    documents = laws.effects.documents_made_stay input_step T refl ∙ w.documents;
    allowed = laws.denials.why_denied_older input_step T feature.Payment 1 w.first.begun ∙ w.allowed;
    statuses = statuses-input T w.statuses;
  }

  input-activates : (T : RepliedHistory) → IsFirstPage T → activates input T 1 ≡ true
  unfolding activates reaches
  input-activates T w = rw (document-of T w, w.current, w.chain_is) refl

  input-accepted : (T : RepliedHistory) → IsFirstPage T → length T < 1000000 → cause_of T 0 input ≡ None
  unfolding cause_of names_unknown names_settled names_closed names_not_shown has_bad_url has_bad_feature has_bad_call has_bad_capability names_other_page exceeds_pages exceeds_depth exceeds_frames exceeds_statuses exceeds_pending exceeds_store setting_by setting_named
  input-accepted T w few = rw (lt-leb 1000000 (length T) few, w.clock_is, w.made, live T w) refl

  input-answer : (k : ℕ) (T : RepliedHistory) → IsPage k T → answer_of 5000 T 0 input ≡ answer.Activated 1
  unfolding answer_of activated_count
  input-answer k T w = rw (w.documents, input-activates T w.first) refl

  -- ---- transient activation

  unconsumed : (T : RepliedHistory) (position top : ℕ) → length T ≤ position → is_consumed_since T position top ≡ false
  unfolding is_consumed_since newest_answer
  unconsumed [] position top h = refl
  unconsumed (s ∷ T) position top h = rw (le-ltb position (suc (length T)) h) (unconsumed T position top (omega arith))

  last-input : (T : RepliedHistory) → IsFirstPage T → last_activation (input_step ∷ T) 1 ≡ Some (suc (length T), 0)
  unfolding last_activation newest_answer
  last-input T w = rw (input-activates T w) refl

  transient : (T : RepliedHistory) → IsFirstPage T → has_transient 5000 (input_step ∷ T) 0 1 ≡ true
  unfolding has_transient
  transient T w = rw (last-input T w, unconsumed (input_step ∷ T) (suc (length T)) (page (input_step ∷ T) 1) (omega arith)) refl

  -- ---- the post

  -- what was told of it
  abbrev post_step : ℕ → Step
  post_step n = step post (Replied (answer.MessageMade n))

  settled-post : (n : ℕ) (T : RepliedHistory) (m : ℕ) → is_message_settled (post_step n ∷ T) m ≡ is_message_settled T m
  unfolding is_message_settled newest_answer
  settled-post n T m = refl

  statuses-post : (n : ℕ) (T : RepliedHistory) → statuses_made T ≡ [] → statuses_made (post_step n ∷ T) ≡ []
  unfolding all_answers
  statuses-post n T e = rw e refl

  waiting-new : (n k : ℕ) (T : RepliedHistory) → IsPage k T → is_waiting_in (post_step n ∷ T) 1 (suc (length T)) ≡ true
  unfolding message
  waiting-new n k T w = rw (settled-post n T (suc (length T)), w.unsettled (suc (length T)), laws.steps.step_at_newest (post_step n) T, document-of T w.first, page-of-frame T w.first, is-named) refl

  page-post : (n k : ℕ) (T : RepliedHistory) → IsPage k T → IsPage (suc k) (post_step n ∷ T)
  page-post n k T w = record {
    first = kept laws post (Replied (answer.MessageMade n)) T refl w.first;
    waits = waiting-step (post_step n) T 1 (settled-post n T) ∙ rw (waiting-new n k T w, w.waits) (add-one k);
    unsettled = λ m. settled-post n T m ∙ w.unsettled m;
    documents = laws.effects.documents_made_stay (post_step n) T refl ∙ w.documents;
    allowed = laws.denials.why_denied_older (post_step n) T feature.Payment 1 w.first.begun ∙ w.allowed;
    statuses = statuses-post n T w.statuses;
  }

  good-words : has_bad_url post ≡ false
  unfolding output_on_literals
  good-words = refl

  post-accepted : (k : ℕ) (T : RepliedHistory) → IsPage k T → length T < 1000000 → k < 256 → cause_of T 0 post ≡ None
  unfolding cause_of names_unknown names_settled names_closed names_not_shown has_bad_feature has_bad_call has_bad_capability names_other_page exceeds_pages exceeds_depth exceeds_frames exceeds_statuses exceeds_pending exceeds_store setting_by setting_named
  post-accepted k T w few below =
      rw (lt-leb 1000000 (length T) few, w.first.clock_is, w.first.made, live T w.first, good-words, is-named, page-of-frame T w.first, w.waits, lt-leb 256 k below) refl

  post-refused : (T : RepliedHistory) → IsPage 256 T → length T < 1000000 → cause_of T 0 post ≡ Some cause.LimitPending
  unfolding cause_of names_unknown names_settled names_closed names_not_shown has_bad_feature has_bad_call has_bad_capability names_other_page exceeds_pages exceeds_depth exceeds_frames exceeds_statuses exceeds_pending
  post-refused T w few =
      rw (lt-leb 1000000 (length T) few, w.first.clock_is, w.first.made, live T w.first, good-words, is-named, page-of-frame T w.first, w.waits) refl

  nothing-denies : (k : ℕ) (T : RepliedHistory) → IsPage k T → has_transient 5000 T 0 1 ≡ true → post_reason 5000 T 0 1 (Some (codes "https://a.example")) (codes "payment") ≡ None
  unfolding post_reason
  nothing-denies k T w active = rw (is-named, w.allowed, active) refl

  post-answer : (k : ℕ) (T : RepliedHistory) → IsPage k T → has_transient 5000 T 0 1 ≡ true → answer_of 5000 T 0 post ≡ answer.MessageMade (length T + 1)
  unfolding answer_of
  post-answer k T w active = rw (document-of T w.first, nothing-denies k T w active) refl

  -- ---- the two lines

  -- the line of an input, and that of a post
  abbrev press : Timed
  press = record { time = 0; event = input }

  abbrev again : Timed
  again = record { time = 0; event = post }

  -- the text of an input that is accepted, by the number of its line
  abbrev input_line : ℕ → List ℕ
  input_line n = decimal n ++ codes " " ++ codes "activated 1" ++ 10 ∷ []

  -- the text of the message of this number
  abbrev message_line : ℕ → List ℕ
  message_line n = decimal n ++ codes " " ++ (codes "message m" ++ decimal n) ++ 10 ∷ []

  -- the text of the line that is refused
  abbrev refused_line : List ℕ
  refused_line = codes "515 refused limit-pending" ++ 10 ∷ []

  one : decimal 1 ≡ codes "1"
  unfolding output digits
  one = refl

  input-text : (n : ℕ) → answer_text n (answer.Activated 1) ≡ input_line n
  unfolding answer_text answer_words
  input-text n = rw one refl

  message-text : (n : ℕ) → answer_text n (answer.MessageMade n) ≡ message_line n
  unfolding answer_text answer_words
  message-text n = refl

  refused-text : answer_text 515 (answer.Refused cause.LimitPending) ≡ refused_line
  unfolding output_on_literals
  refused-text = refl

  -- what holds after so many messages
  abbrev Holds : ℕ → History → Type 0
  Holds k H = IsPage k (replied 5000 H) × (length H ≡ suc (k + k))

  -- what was told of an input after so many messages, and of a post after that
  told-input : (k : ℕ) (H : History) → IsPage k (replied 5000 H) → replied 5000 (press ∷ H) ≡ input_step ∷ replied 5000 H
  unfolding replied
  told-input k H w = rw (input-answer k (replied 5000 H) w) refl

  page-pressed : (k : ℕ) (H : History) → IsPage k (replied 5000 H) → IsPage k (replied 5000 (press ∷ H))
  page-pressed k H w = rw (told-input k H w) (page-input k (replied 5000 H) w)

  active-pressed : (k : ℕ) (H : History) → IsPage k (replied 5000 H) → has_transient 5000 (replied 5000 (press ∷ H)) 0 1 ≡ true
  active-pressed k H w = rw (told-input k H w) (transient (replied 5000 H) w.first)

  told-post : (k : ℕ) (H : History) → IsPage k (replied 5000 H)
      → replied 5000 (again ∷ press ∷ H) ≡ post_step (length (replied 5000 (press ∷ H)) + 1) ∷ replied 5000 (press ∷ H)
  unfolding replied
  told-post k H w = rw (post-answer k (replied 5000 (press ∷ H)) (page-pressed k H w) (active-pressed k H w)) refl

  page-posted : (k : ℕ) (H : History) → IsPage k (replied 5000 H) → IsPage (suc k) (replied 5000 (again ∷ press ∷ H))
  page-posted k H w = rw (told-post k H w) (page-post (length (replied 5000 (press ∷ H)) + 1) k (replied 5000 (press ∷ H)) (page-pressed k H w))

  -- the input is accepted
  pressed : (k : ℕ) (H : History) → IsPage k (replied 5000 H) → length H < 1000 → cause_of (replied 5000 H) 0 input ≡ None
  pressed k H w few = input-accepted (replied 5000 H) w.first (omega (arith, laws.steps.told_length 5000 H))

  input-taken : (k : ℕ) (H : History) → IsPage k (replied 5000 H) → length H < 1000 → IsTaken 5000 press input_line H
  unfolding event_text history_after accepts_in reply_in
  input-taken k H w few = record {
    text_is = rw (
      pressed k H w few,
      input-answer k (replied 5000 H) w,
      nothing-before (replied 5000 H) w.first.clock_is,
      nothing-after (replied 5000 H) (replied 5000 (press ∷ H)) w.statuses,
    ) (append-nil (answer_text (length H + 1) (answer.Activated 1)) ∙ input-text (length H + 1));
    after = rw (pressed k H w few) refl;
  }

  -- the post is accepted, or refused
  posted : (k : ℕ) (H : History) → IsPage k (replied 5000 H) → length H < 1000 → k < 256 → cause_of (replied 5000 (press ∷ H)) 0 post ≡ None
  posted k H w few below = post-accepted k (replied 5000 (press ∷ H)) (page-pressed k H w) (omega (arith, laws.steps.told_length 5000 (press ∷ H))) below

  post-taken : (k : ℕ) (H : History) → IsPage k (replied 5000 H) → length H < 1000 → k < 256 → IsTaken 5000 again message_line (press ∷ H)
  unfolding event_text history_after accepts_in reply_in
  post-taken k H w few below = record {
    text_is = rw (
      posted k H w few below,
      post-answer k (replied 5000 (press ∷ H)) (page-pressed k H w) (active-pressed k H w),
      nothing-before (replied 5000 (press ∷ H)) (page-pressed k H w).first.clock_is,
      nothing-after (replied 5000 (press ∷ H)) (replied 5000 (again ∷ press ∷ H)) (page-pressed k H w).statuses,
      laws.steps.told_length 5000 (press ∷ H),
    ) (append-nil (answer_text (length (press ∷ H) + 1) (answer.MessageMade (length (press ∷ H) + 1))) ∙ message-text (length (press ∷ H) + 1));
    after = rw (posted k H w few below) refl;
  }

  post-ended : (H : History) → IsPage 256 (replied 5000 H) → length H < 1000 → event_text 5000 515 (press ∷ H) again ≡ refused_line
  unfolding event_text accepts_in reply_in
  post-ended H w few = rw (post-refused (replied 5000 (press ∷ H)) (page-pressed 256 H w) (omega (arith, laws.steps.told_length 5000 (press ∷ H)))) refused-text

  -- ---- 256 messages, and one more

  -- the readings of an input and a post, and the text of the two lines
  abbrev both : List Reading
  both = Says press ∷ Says again ∷ []

  abbrev both_lines : ℕ → List ℕ
  both_lines n = input_line n ++ message_line (n + 1)

  last-lines : (H : History) → Holds 256 H → text_from 5000 (length H + 1) H both ≡ input_line 514 ++ refused_line
  last-lines H h =
      let few : length H < 1000 = omega (arith, h.1) in
      text-taken 5000 press input_line H (Says again ∷ []) (input-taken 256 H h.0 few)
      ∙ ap (λ t. input_line (length H + 1) ++ t) (text-last 5000 (length (press ∷ H) + 1) (press ∷ H) again)
      ∙ rw h.1 (ap (λ t. input_line 514 ++ t) (post-ended H h.0 few))

  messages-text : text_from 5000 2 (opening ∷ []) (blocks 256 both both) ≡ texts_from both_lines 2 (input_line 514 ++ refused_line) 2 256
  messages-text = repeated 5000 2 Holds both both both_lines (input_line 514 ++ refused_line) 256
      (λ k H h below.
      let few : length H < 1000 = omega (arith, h.1) in
      two-lines 5000 (Holds (suc k)) press again input_line message_line H (input-taken k H h.0 few) (post-taken k H h.0 few below) (page-posted k H h.0, omega (arith, h.1)))
      last-lines
      256 0 (opening ∷ []) (page-begun, refl) refl

  -- ---- the script

  -- its second and third line
  abbrev lines_of_both : List (Option (List ℕ))
  lines_of_both = Some (codes "0 input f1 mousedown") ∷ Some (codes "0 post f1 f1 https://a.example payment") ∷ []

  reads-both : map reading_or_too_long lines_of_both ≡ both
  unfolding output_on_literals
  reads-both = refl

  lines-are : lines_or_too_long script ≡ Some first_line ∷ blocks 256 lines_of_both lines_of_both
  unfolding script lines_or_too_long lines
  lines-are = refl

  output-is : first_text ++ texts_from both_lines 2 (input_line 514 ++ refused_line) 2 256 ≡ output
  unfolding output digits
  output-is = refl

  -- the output text of the script's bytes is the bytes of the output
  pub row_MostMessages : output_text 5000 script ≡ output
  row_MostMessages =
      script-text script (texts_from both_lines 2 (input_line 514 ++ refused_line) 2 256) 256 lines_of_both lines_of_both both both
      lines-are reads-both reads-both messages-text
      ∙ output-is
