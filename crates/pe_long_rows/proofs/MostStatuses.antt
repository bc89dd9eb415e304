-- The greatest number of live statuses of a page, from the bytes of the script to the bytes of the output.
-- The script is too long to be computed in one theorem: it is proved by induction over how many statuses were made.
-- Computed are the readings of its two lines, the text of the first, and the digits of the output.
use Rattle.std.proofs.Common.{◌≡◌, ℕ, suc, ◌+◌, ◌<◌, Bool, true, false, ◌==◌, List, [], ◌∷◌, ◌++◌, length, filter, flat_map, map, codes, decimal, cond, Option, Some, None, option_and_then, option_to_list, refl, ◌∙◌, ap, arith, append-nil}
use Rattle.std.proofs.lemmas.List.{length_push, length-map}
use Rattle.std.proofs.lemmas.Bool.{lt-leb}
use Rattle.std.specs.Fmt.{digits}
use Rattle.pe_base.specs.declared.state.State.TheVariants as state
use Rattle.pe_lines.specs.Lines.{lines, lines_or_too_long}
use Rattle.pe_features.specs.declared.feature.Feature.TheVariants.{Camera}
use Rattle.pe_features.specs.Features.{feature_named}
use Rattle.pe_store.specs.Pairs.{Pair}
use Rattle.pe_events.specs.declared.answer.Answer.TheVariants as answer
use Rattle.pe_events.specs.declared.answer.Change.{Change}
use Rattle.pe_events.specs.declared.cause.Cause.TheVariants as cause
use Rattle.pe_events.specs.declared.event.Event.{Event}
use Rattle.pe_events.specs.declared.event.Event.TheVariants as event
use Rattle.pe_events.specs.Texts.{answer_text, answer_words}
use Rattle.pe_events.specs.Timed.{Timed}
use Rattle.pe_rules.specs.History.{StepAnswer, Replied, RepliedHistory, History, some_if, newest_answer, all_answers}
use Rattle.pe_rules.specs.Embedders.{page}
use Rattle.pe_rules.specs.Origins.{is_secure}
use Rattle.pe_rules.specs.Denials.{why_denied}
use Rattle.pe_rules.specs.Settings.{pair_for, setting_named, setting_by, last_setting, stored_by, stored_state}
use Rattle.pe_rules.specs.PermissionState.{permission_state}
use Rattle.pe_rules.specs.Statuses.{Status, drops, is_live_status, live_statuses}
use Rattle.pe_rules.specs.Causes.{cause_of, names_unknown, names_settled, names_closed, names_not_shown, has_bad_url, has_bad_feature, has_bad_call, has_bad_capability, names_other_page, page_statuses, exceeds_pages, exceeds_depth, exceeds_frames, exceeds_statuses, exceeds_pending, exceeds_store}
use Rattle.pe_rules.specs.Changes.{change_between, changes_after, is_live_in}
use Rattle.pe_rules.specs.Replies.{answer_of, replied, reply_in, accepts_in}
use Rattle.pe_script.specs.Reading.{Says}
use Rattle.pe_output.specs.OutputText.{reading_or_too_long, event_text, history_after, text_from, output_text}
use Rattle.pe_laws.specs.HistoryLaws.{HistoryLaws}
use Rattle.pe_rows.proofs.OnLiterals.{output_on_literals}
use Rattle.pe_long_rows.proofs.FirstPage.{opening, step, IsFirstPage, opened, kept, live, document-of, page-of, page-of-frame, statuses_made, nothing-before, first_line, first_text, script-text}
use Rattle.pe_long_rows.proofs.Repeated.{blocks, texts_from, IsTaken, one-line, text-last, repeated}
use Rattle.pe_long_rows.specs.MostStatusesText.{script, output}

-- the event that makes a status of the page's document
abbrev query : Event
query = event.Query 1 (codes "camera")

-- a line that does
abbrev again : Timed
again = record { time = 0; event = query }

is-named : feature_named (codes "camera") ≡ Some Camera
unfolding feature_named
is-named = refl

-- ---- a page of some statuses

-- each status is of the page's document and of the camera
abbrev AreOfPage : List Status → Type 0
AreOfPage [] = Unit {0}
AreOfPage (x ∷ xs) = ((x.document ≡ 1) × (x.feature ≡ Camera)) × AreOfPage xs

-- each step but the first made a status of the page of frame 1, and the camera may be asked for there
pub record IsPage (T : RepliedHistory) : Type 0 where
  pub first : IsFirstPage T
  pub size : length (statuses_made T) + 1 ≡ length T
  pub of_page : AreOfPage (statuses_made T)
  pub dropped : (n : ℕ) → newest_answer (λ s B. some_if (drops s.event n) n) T ≡ None
  pub secure : is_secure T 1 ≡ true
  pub allowed : why_denied T Camera 1 ≡ None
  pub unset : (pair : Pair) → last_setting T pair ≡ None

page-begun : IsPage (replied 5000 (opening ∷ []))
unfolding output_on_literals
page-begun = record { first = opened; size = refl; of_page = tt; dropped = λ n. refl; secure = refl; allowed = refl; unset = λ pair. refl }

-- ---- the page with one more status

of-page-append : (xs ys : List Status) → AreOfPage xs → AreOfPage ys → AreOfPage (xs ++ ys)
of-page-append [] ys h k = k
of-page-append (x ∷ xs) ys h k = (h.0, of-page-append xs ys h.1 k)

-- the status that a query makes
abbrev added : RepliedHistory → Status
added T = record { number = suc (length T); document = 1; feature = Camera }

statuses-step : (T : RepliedHistory) (item : StepAnswer) → IsFirstPage T → statuses_made (step query item ∷ T) ≡ statuses_made T ++ added T ∷ []
unfolding all_answers
statuses-step T item w = rw (document-of T w, is-named) refl

dropped-step : (T : RepliedHistory) (item : StepAnswer) (n : ℕ) → newest_answer (λ s B. some_if (drops s.event n) n) T ≡ None → newest_answer (λ s B. some_if (drops s.event n) n) (step query item ∷ T) ≡ None
unfolding newest_answer
dropped-step T item n none = none

module _ (laws : HistoryLaws) where
  unset-step : (T : RepliedHistory) (item : StepAnswer) (pair : Pair) → last_setting T pair ≡ None → last_setting (step query item ∷ T) pair ≡ None
  unfolding setting_by setting_named
  unset-step T item pair none = laws.settings.last_setting_step (step query item) T pair ∙ none

  grown : (T : RepliedHistory) (item : StepAnswer) → IsPage T → IsPage (step query item ∷ T)
  grown T item w = record {
    first = kept laws query item T refl w.first;
    size = rw (statuses-step T item w.first) (omega (arith, w.size, length_push (statuses_made T) (added T)));
    of_page = rw (statuses-step T item w.first) (of-page-append (statuses_made T) (added T ∷ []) w.of_page ((refl, refl), tt));
    dropped = λ n. dropped-step T item n (w.dropped n);
    secure = laws.origins.is_secure_older (step query item) T 1 w.first.begun ∙ w.secure;
    allowed = laws.denials.why_denied_older (step query item) T Camera 1 w.first.begun ∙ w.allowed;
    unset = λ pair. unset-step T item pair (w.unset pair);
  }

  -- ---- the live statuses of the page are those that were made

  filter-all : (p : Status → Bool) (xs : List Status) → AreOfPage xs → ((x : Status) → x.document ≡ 1 → p x ≡ true) → filter p xs ≡ xs
  filter-all p [] h passes = refl
  filter-all p (x ∷ xs) h passes = rw (passes x h.0.0, filter-all p xs h.1 passes) refl

  live-status : (T : RepliedHistory) → IsPage T → (x : Status) → x.document ≡ 1 → is_live_status T x ≡ true
  unfolding is_live_status
  live-status T w x is = rw (w.dropped x.number, is, w.first.current) refl

  all-live : (T : RepliedHistory) → IsPage T → live_statuses T ≡ statuses_made T
  unfolding live_statuses
  all-live T w = filter-all (is_live_status T) (statuses_made T) w.of_page (live-status T w)

  page-count : (T : RepliedHistory) → IsPage T → length (page_statuses T 1) ≡ length (statuses_made T)
  unfolding page_statuses
  page-count T w =
      rw (all-live T w, filter-all (λ x. page T x.document == 1) (statuses_made T) w.of_page (λ x is. rw (is, page-of T w.first) refl)) (length-map (statuses_made T) (λ x. x.number))

  -- ---- the reply to one more query

  stored-none : (T : RepliedHistory) → IsPage T → (o : Option Pair) → option_and_then (stored_state T 0) o ≡ None
  unfolding stored_state stored_by
  stored-none T w None = refl
  stored-none T w (Some pair) = rw (w.unset pair) refl

  prompts : (T : RepliedHistory) → IsPage T → permission_state T 0 1 Camera ≡ state.Prompt
  unfolding permission_state
  prompts T w = rw (w.secure, w.allowed, stored-none T w (pair_for T 1 Camera)) refl

  has-key : has_bad_feature query ≡ false
  unfolding output_on_literals
  has-key = refl

  none-refuses : (T : RepliedHistory) → IsPage T → length T < 257 → cause_of T 0 query ≡ None
  unfolding cause_of names_unknown names_settled names_closed names_not_shown has_bad_url has_bad_call has_bad_capability names_other_page exceeds_pages exceeds_depth exceeds_frames exceeds_statuses exceeds_pending exceeds_store setting_by setting_named
  none-refuses T w few =
      let room : length T < 1000000 = omega arith in
      let below : length (statuses_made T) < 256 = omega (arith, w.size) in
      rw (lt-leb 1000000 (length T) room, w.first.clock_is, w.first.made, live T w.first, has-key, page-of-frame T w.first, page-count T w, lt-leb 256 (length (statuses_made T)) below) refl

  statuses-refuse : (T : RepliedHistory) → IsPage T → length T ≡ 257 → cause_of T 0 query ≡ Some cause.LimitStatuses
  unfolding cause_of names_unknown names_settled names_closed names_not_shown has_bad_url has_bad_call has_bad_capability names_other_page exceeds_pages exceeds_depth exceeds_frames exceeds_statuses
  statuses-refuse T w full =
      let all : length (statuses_made T) ≡ 256 = omega (arith, w.size) in
      rw (full, w.first.clock_is, w.first.made, live T w.first, has-key, page-of-frame T w.first, page-count T w, all) refl

  answer-is : (duration : ℕ) (T : RepliedHistory) → IsPage T → answer_of duration T 0 query ≡ answer.StatusMade (length T + 1) state.Prompt
  unfolding answer_of
  answer-is duration T w = rw (document-of T w.first, is-named, prompts T w) refl

  -- ---- no status changes

  none-of : (p : Status → Bool) (f : Status → List Change) (xs : List Status) → AreOfPage xs → ((x : Status) → x.document ≡ 1 → x.feature ≡ Camera → f x ≡ []) → flat_map f (filter p xs) ≡ []
  none-of p f [] h none = refl
  none-of p f (x ∷ xs) h none = by_test (p x) (none-of p f xs h.1 none)
    where
      by_test : (b : Bool) → flat_map f (filter p xs) ≡ [] → flat_map f (cond b (x ∷ filter p xs) (filter p xs)) ≡ []
      by_test true rest = rw (none x h.0.0 h.0.1, rest) refl
      by_test false rest = rest

  same-state : (T U : RepliedHistory) → IsPage T → IsPage U → (x : Status) → x.document ≡ 1 → x.feature ≡ Camera → change_between T U 0 x ≡ None
  unfolding change_between
  same-state T U w v x is of = rw (is, of, prompts T w, prompts U v) refl

  nothing-after : (T U : RepliedHistory) → IsPage T → IsPage U → changes_after T U 0 ≡ []
  unfolding changes_after
  nothing-after T U w v = rw (all-live T w) (none-of (is_live_in U) _ (statuses_made T) w.of_page (λ x is of. ap option_to_list (same-state T U w v x is of)))

  -- ---- the line of one more query

  -- the text of the status of this number
  abbrev status_line : ℕ → List ℕ
  status_line n = decimal n ++ codes " " ++ (codes "status s" ++ decimal n ++ codes " " ++ codes "prompt") ++ 10 ∷ []

  -- the text of the line that is refused
  abbrev refused_line : List ℕ
  refused_line = codes "258 refused limit-statuses" ++ 10 ∷ []

  status-text : (n : ℕ) → answer_text n (answer.StatusMade n state.Prompt) ≡ status_line n
  unfolding answer_text answer_words
  status-text n = refl

  refused-text : answer_text 258 (answer.Refused cause.LimitStatuses) ≡ refused_line
  unfolding output_on_literals
  refused-text = refl

  accepted : (H : History) → IsPage (replied 5000 H) → length H < 257 → cause_of (replied 5000 H) 0 query ≡ None
  accepted H w few = none-refuses (replied 5000 H) w (omega (arith, laws.steps.told_length 5000 H))

  page-again : (H : History) → IsPage (replied 5000 H) → IsPage (replied 5000 (again ∷ H))
  unfolding replied
  page-again H w = grown (replied 5000 H) (Replied (answer_of 5000 (replied 5000 H) 0 query)) w

  text-accepted : (H : History) → IsPage (replied 5000 H) → length H < 257 → event_text 5000 (length H + 1) H again ≡ status_line (length H + 1)
  unfolding event_text accepts_in reply_in
  text-accepted H w few =
      rw (
        accepted H w few,
        answer-is 5000 (replied 5000 H) w,
        nothing-before (replied 5000 H) w.first.clock_is,
        nothing-after (replied 5000 H) (replied 5000 (again ∷ H)) w (page-again H w),
        laws.steps.told_length 5000 H,
      ) (append-nil (answer_text (length H + 1) (answer.StatusMade (length H + 1) state.Prompt)) ∙ status-text (length H + 1))

  after-accepted : (H : History) → IsPage (replied 5000 H) → length H < 257 → history_after 5000 H again ≡ again ∷ H
  unfolding history_after accepts_in
  after-accepted H w few = rw (accepted H w few) refl

  text-refused : (H : History) → IsPage (replied 5000 H) → length H ≡ 257 → event_text 5000 258 H again ≡ refused_line
  unfolding event_text accepts_in reply_in
  text-refused H w full = rw (statuses-refuse (replied 5000 H) w (laws.steps.told_length 5000 H ∙ full)) refused-text

  taken : (H : History) → IsPage (replied 5000 H) → length H < 257 → IsTaken 5000 again status_line H
  taken H w few = record { text_is = text-accepted H w few; after = after-accepted H w few }

  -- what holds after so many of these lines
  abbrev Holds : ℕ → History → Type 0
  Holds k H = IsPage (replied 5000 H) × (length H ≡ suc k)

  -- 256 statuses, and one more
  statuses-text : text_from 5000 2 (opening ∷ []) (blocks 256 (Says again ∷ []) (Says again ∷ [])) ≡ texts_from status_line 1 refused_line 2 256
  statuses-text = repeated 5000 1 Holds (Says again ∷ []) (Says again ∷ []) status_line refused_line 256
      (λ k H h below. one-line 5000 (Holds (suc k)) again status_line H (taken H h.0 (omega (arith, h.1))) (page-again H h.0, ap suc h.1))
      (λ H h. text-last 5000 (length H + 1) H again ∙ rw h.1 (text-refused H h.0 h.1))
      256 0 (opening ∷ []) (page-begun, refl) refl

  -- ---- the script

  -- the line that makes a status
  abbrev again_line : List ℕ
  again_line = codes "0 query f1 camera"

  reads-again : map reading_or_too_long (Some again_line ∷ []) ≡ Says again ∷ []
  unfolding output_on_literals
  reads-again = refl

  lines-are : lines_or_too_long script ≡ Some first_line ∷ blocks 256 (Some again_line ∷ []) (Some again_line ∷ [])
  unfolding script lines_or_too_long lines
  lines-are = refl

  output-is : first_text ++ texts_from status_line 1 refused_line 2 256 ≡ output
  unfolding output digits
  output-is = refl

  -- the output text of the script's bytes is the bytes of the output
  pub row_MostStatuses : output_text 5000 script ≡ output
  row_MostStatuses =
      script-text script (texts_from status_line 1 refused_line 2 256) 256 (Some again_line ∷ []) (Some again_line ∷ []) (Says again ∷ []) (Says again ∷ [])
      lines-are reads-again reads-again statuses-text
      ∙ output-is
