-- The greatest number of frames of a page, from the bytes of the script to the bytes of the output.
-- The script is too long to be computed in one theorem: it is proved by induction over how many frames were embedded.
-- Computed are the readings of its two lines, the text of the first, and the digits of the output.
use Rattle.std.proofs.Common.{◌≡◌, ◌≢◌, ℕ, suc, ◌+◌, ◌<◌, true, false, List, [], ◌∷◌, ◌++◌, length, map, codes, decimal, Some, None, is_none, is_some, refl, ◌∙◌, ap, arith, append-nil, add-one}
use Rattle.std.proofs.lemmas.Bool.{eq-eqb, lt-leb}
use Rattle.std.specs.Fmt.{digits}
use Rattle.pe_lines.specs.Lines.{lines, lines_or_too_long}
use Rattle.pe_origin.specs.Origins.{origin_text}
use Rattle.pe_origin.specs.Places.{place_at}
use Rattle.pe_events.specs.declared.answer.Answer.TheVariants as answer
use Rattle.pe_events.specs.declared.cause.Cause.TheVariants as cause
use Rattle.pe_events.specs.declared.event.Event.{Event}
use Rattle.pe_events.specs.declared.event.Event.TheVariants as event
use Rattle.pe_events.specs.Texts.{answer_text, answer_words}
use Rattle.pe_events.specs.Timed.{Timed}
use Rattle.pe_rules.specs.History.{StepAnswer, Replied, RepliedHistory, History, newest_answer, all_answers}
use Rattle.pe_rules.specs.Numbering.{last_document}
use Rattle.pe_rules.specs.Making.{Making, making_by}
use Rattle.pe_rules.specs.Embedders.{chain, top_document, page, page_of_frame}
use Rattle.pe_rules.specs.Current.{is_live}
use Rattle.pe_rules.specs.Origins.{origin_of, sandbox_flag, place_or_none, origin_of_place, is_blank_kind}
use Rattle.pe_rules.specs.Settings.{setting_named, setting_by}
use Rattle.pe_rules.specs.Causes.{cause_of, names_unknown, names_settled, names_closed, names_not_shown, has_bad_url, has_bad_feature, has_bad_call, has_bad_capability, names_other_page, live_frames, exceeds_pages, exceeds_depth, exceeds_frames, exceeds_statuses, exceeds_pending, exceeds_store}
use Rattle.pe_rules.specs.Replies.{answer_of, new_origin, replied, reply_in, accepts_in}
use Rattle.pe_script.specs.Reading.{Says}
use Rattle.pe_output.specs.OutputText.{reading_or_too_long, event_text, history_after, text_from, output_text}
use Rattle.pe_laws.specs.HistoryLaws.{HistoryLaws}
use Rattle.pe_rows.proofs.OnLiterals.{output_on_literals}
use Rattle.pe_long_rows.proofs.FirstPage.{opening, step, IsFirstPage, opened, kept, live, page-of-frame, depth-of, statuses_made, nothing-before, nothing-after, first_line, first_text, script-text}
use Rattle.pe_long_rows.proofs.Repeated.{blocks, texts_from, IsTaken, one-line, text-last, repeated}
use Rattle.pe_long_rows.specs.MostFramesText.{script, output}

-- the event that embeds a frame in the page
abbrev embedding : List ℕ → Event
embedding url = event.Embed 1 (Some url) None None None false false None

-- ---- a page of some frames

-- each step made a frame of the page of frame 1
pub record IsPage (T : RepliedHistory) : Type 0 where
  pub first : IsFirstPage T
  pub size : length (live_frames T 1) ≡ length T
  pub statuses : statuses_made T ≡ []

page-begun : IsPage (replied 5000 (opening ∷ []))
unfolding output_on_literals
page-begun = record { first = opened; size = refl; statuses = refl }

-- ---- what one more frame is

-- the making of its document
abbrev child : List ℕ → RepliedHistory → Making
child url T = record {
  frame = length T + 1;
  url = url;
  header = None;
  embedder = last_document T 1;
  srcdoc = false;
  attributes = record { src = Some url; srcdoc = false; allow = None; sandbox = None; fullscreen = false };
}

child-made : (url : List ℕ) (T : RepliedHistory) (item : StepAnswer) → making_by (step (embedding url) item).event T ≡ Some (child url T)
unfolding making_by
child-made url T item = refl

module _ (laws : HistoryLaws) where
  chain-new : (url : List ℕ) (T : RepliedHistory) (item : StepAnswer) → IsFirstPage T → chain (step (embedding url) item ∷ T) (suc (length T)) ≡ 1 ∷ suc (length T) ∷ []
  chain-new url T item w = laws.embedders.chain_newest (step (embedding url) item) T (child url T) (child-made url T item) ∙ rw (w.document) (ap (λ c. c ++ suc (length T) ∷ []) w.chain_is)

  flag-new : (url : List ℕ) (T : RepliedHistory) (item : StepAnswer) → IsFirstPage T → sandbox_flag (step (embedding url) item ∷ T) (suc (length T)) ≡ false
  flag-new url T item w = laws.origins.sandbox_flag_newest (step (embedding url) item) T (child url T) (child-made url T item) ∙ rw (w.document, w.flag) refl

  -- a URL that is not about:blank gives the origin
  origin-new : (url : List ℕ) (T : RepliedHistory) (item : StepAnswer) → IsFirstPage T → is_blank_kind (place_or_none url).kind ≡ false
      → origin_of (step (embedding url) item ∷ T) (suc (length T)) ≡ origin_of_place (suc (length T)) (place_or_none url)
  origin-new url T item w other =
      laws.origins.origin_of_newest (step (embedding url) item) T (child url T) (child-made url T item) ∙ rw (flag-new url T item w, w.document, other) refl

  last-new : (url : List ℕ) (T : RepliedHistory) (item : StepAnswer) → last_document (step (embedding url) item ∷ T) (suc (length T)) ≡ Some (suc (length T))
  unfolding last_document newest_answer
  last-new url T item = rw (eq-eqb (suc (length T)) (suc (length T)) refl) refl

  live-new : (url : List ℕ) (T : RepliedHistory) (item : StepAnswer) → is_live (step (embedding url) item ∷ T) (suc (length T)) ≡ true
  unfolding is_live
  live-new url T item = ap is_some (laws.current.document_in_made (step (embedding url) item) T (suc (length T)) refl)

  page-new : (url : List ℕ) (T : RepliedHistory) (item : StepAnswer) → IsFirstPage T → page_of_frame (step (embedding url) item ∷ T) (suc (length T)) ≡ Some 1
  unfolding page_of_frame page top_document
  page-new url T item w =
      let other : 1 ≢ suc (length T) = omega (arith, w.begun) in
      rw (last-new url T item, chain-new url T item w) (ap Some (laws.making.frame_of_older (step (embedding url) item) T 1 other ∙ w.frame))

  -- ---- the page with one more frame

  statuses-step : (url : List ℕ) (T : RepliedHistory) (item : StepAnswer) → statuses_made T ≡ [] → statuses_made (step (embedding url) item ∷ T) ≡ []
  unfolding all_answers
  statuses-step url T item e = rw e refl

  grown : (url : List ℕ) (T : RepliedHistory) (item : StepAnswer) → IsPage T → IsPage (step (embedding url) item ∷ T)
  grown url T item w = record {
    first = kept laws (embedding url) item T refl w.first;
    size = ap length (laws.effects.live_frames_grow (step (embedding url) item) T 1 refl) ∙ rw (live-new url T item, page-new url T item w.first) (ap suc w.size);
    statuses = statuses-step url T item w.statuses;
  }

  -- ---- the reply to one more frame

  none-refuses : (url : List ℕ) (T : RepliedHistory) → IsPage T → is_none (place_at url) ≡ false → length T < 256 → cause_of T 0 (embedding url) ≡ None
  unfolding cause_of names_unknown names_settled names_closed names_not_shown has_bad_url has_bad_feature has_bad_call has_bad_capability names_other_page exceeds_pages exceeds_depth exceeds_frames exceeds_statuses exceeds_pending exceeds_store setting_by setting_named
  none-refuses url T w place few =
      let room : length T < 1000000 = omega arith in
      rw (lt-leb 1000000 (length T) room, w.first.clock_is, w.first.made, live T w.first, place, depth-of T w.first, page-of-frame T w.first, w.size, lt-leb 256 (length T) few) refl

  frames-refuse : (url : List ℕ) (T : RepliedHistory) → IsPage T → is_none (place_at url) ≡ false → length T ≡ 256 → cause_of T 0 (embedding url) ≡ Some cause.LimitFrames
  unfolding cause_of names_unknown names_settled names_closed names_not_shown has_bad_url has_bad_feature has_bad_call has_bad_capability names_other_page exceeds_pages exceeds_depth exceeds_frames
  frames-refuse url T w place full =
      rw (w.first.clock_is, w.first.made, live T w.first, place, depth-of T w.first, page-of-frame T w.first, w.size, full) refl

  answer-is : (duration : ℕ) (url : List ℕ) (T : RepliedHistory) → IsPage T → is_blank_kind (place_or_none url).kind ≡ false
      → answer_of duration T 0 (embedding url) ≡ answer.FrameMade (length T + 1) (length T + 1) (origin_of_place (length T + 1) (place_or_none url))
  unfolding answer_of new_origin
  answer-is duration url T w other = rw (add-one (length T)) (ap (answer.FrameMade (suc (length T)) (suc (length T))) (origin-new url T (Replied answer.Done) w.first other))

  -- ---- the line of one more frame

  -- a line that embeds a frame of b.example
  abbrev again : Timed
  again = record { time = 0; event = embedding (codes "https://b.example/") }

  -- the text of the frame of this number
  abbrev frame_line : ℕ → List ℕ
  frame_line n = decimal n ++ codes " " ++ (codes "frame f" ++ decimal n ++ codes " doc d" ++ decimal n ++ codes " " ++ codes "https://b.example") ++ 10 ∷ []

  -- the text of the line that is refused
  abbrev refused_line : List ℕ
  refused_line = codes "257 refused limit-frames" ++ 10 ∷ []

  is-url : is_none (place_at (codes "https://b.example/")) ≡ false
  unfolding output_on_literals
  is-url = refl

  is-not-blank : is_blank_kind (place_or_none (codes "https://b.example/")).kind ≡ false
  unfolding output_on_literals
  is-not-blank = refl

  origin-is : (n : ℕ) → origin_text (origin_of_place n (place_or_none (codes "https://b.example/"))) ≡ codes "https://b.example"
  unfolding output_on_literals
  origin-is n = refl

  frame-text : (n : ℕ) → answer_text n (answer.FrameMade n n (origin_of_place n (place_or_none (codes "https://b.example/")))) ≡ frame_line n
  unfolding answer_text answer_words
  frame-text n = rw (origin-is n) refl

  refused-text : answer_text 257 (answer.Refused cause.LimitFrames) ≡ refused_line
  unfolding output_on_literals
  refused-text = refl

  accepted : (H : History) → IsPage (replied 5000 H) → length H < 256 → cause_of (replied 5000 H) 0 again.event ≡ None
  accepted H w few = none-refuses (codes "https://b.example/") (replied 5000 H) w is-url (omega (arith, laws.steps.told_length 5000 H))

  text-accepted : (H : History) → IsPage (replied 5000 H) → length H < 256 → event_text 5000 (length H + 1) H again ≡ frame_line (length H + 1)
  unfolding event_text accepts_in reply_in
  text-accepted H w few =
      rw (
        accepted H w few,
        answer-is 5000 (codes "https://b.example/") (replied 5000 H) w is-not-blank,
        nothing-before (replied 5000 H) w.first.clock_is,
        nothing-after (replied 5000 H) (replied 5000 (again ∷ H)) w.statuses,
        laws.steps.told_length 5000 H,
      ) (append-nil (answer_text (length H + 1) _) ∙ frame-text (length H + 1))

  after-accepted : (H : History) → IsPage (replied 5000 H) → length H < 256 → history_after 5000 H again ≡ again ∷ H
  unfolding history_after accepts_in
  after-accepted H w few = rw (accepted H w few) refl

  page-again : (H : History) → IsPage (replied 5000 H) → IsPage (replied 5000 (again ∷ H))
  unfolding replied
  page-again H w = grown (codes "https://b.example/") (replied 5000 H) (Replied (answer_of 5000 (replied 5000 H) 0 again.event)) w

  text-refused : (H : History) → IsPage (replied 5000 H) → length H ≡ 256 → event_text 5000 257 H again ≡ refused_line
  unfolding event_text accepts_in reply_in
  text-refused H w full = rw (frames-refuse (codes "https://b.example/") (replied 5000 H) w is-url (laws.steps.told_length 5000 H ∙ full)) refused-text

  taken : (H : History) → IsPage (replied 5000 H) → length H < 256 → IsTaken 5000 again frame_line H
  taken H w few = record { text_is = text-accepted H w few; after = after-accepted H w few }

  -- what holds after so many of these lines
  abbrev Holds : ℕ → History → Type 0
  Holds k H = IsPage (replied 5000 H) × (length H ≡ suc k)

  -- 255 frames beside the top one, and one more
  frames-text : text_from 5000 2 (opening ∷ []) (blocks 255 (Says again ∷ []) (Says again ∷ [])) ≡ texts_from frame_line 1 refused_line 2 255
  frames-text = repeated 5000 1 Holds (Says again ∷ []) (Says again ∷ []) frame_line refused_line 255
      (λ k H h below. one-line 5000 (Holds (suc k)) again frame_line H (taken H h.0 (omega (arith, h.1))) (page-again H h.0, ap suc h.1))
      (λ H h. text-last 5000 (length H + 1) H again ∙ rw h.1 (text-refused H h.0 h.1))
      255 0 (opening ∷ []) (page-begun, refl) refl

  -- ---- the script

  -- the line that embeds a frame
  abbrev again_line : List ℕ
  again_line = codes "0 embed f1 https://b.example/"

  reads-again : map reading_or_too_long (Some again_line ∷ []) ≡ Says again ∷ []
  unfolding output_on_literals
  reads-again = refl

  lines-are : lines_or_too_long script ≡ Some first_line ∷ blocks 255 (Some again_line ∷ []) (Some again_line ∷ [])
  unfolding script lines_or_too_long lines
  lines-are = refl

  output-is : first_text ++ texts_from frame_line 1 refused_line 2 255 ≡ output
  unfolding output digits
  output-is = refl

  -- the output text of the script's bytes is the bytes of the output
  pub row_MostFrames : output_text 5000 script ≡ output
  row_MostFrames =
      script-text script (texts_from frame_line 1 refused_line 2 255) 255 (Some again_line ∷ []) (Some again_line ∷ []) (Says again ∷ []) (Says again ∷ [])
      lines-are reads-again reads-again frames-text
      ∙ output-is
