-- Which position makes a frame, a document, a permission status, a prompt or a message.
-- The numbering is this project's own: an object has the position of the event that made it.
-- A number is unknown where its position makes no such thing or is not in the history.
use Rattle.std.specs.Prelude.{ℕ, Bool, true, false, ◌&&◌, ◌==◌, List, ◌∷◌, length, Option, Some, None, is_some, option_and_then, option_to_list, if◌then◌else◌}
use Rattle.pe_events.specs.declared.answer.Answer.TheVariants as answer
use Rattle.pe_events.specs.declared.event.Event.{Event}
use Rattle.pe_events.specs.declared.event.Event.TheVariants as event
use Rattle.pe_rules.specs.History.{StepAnswer, Replied, Step, RepliedHistory, some_if, newest_answer, all_answers, answers_newest_first}

-- the event makes a frame: it opens a page or embeds a frame
abbrev pub makes_frame : Event → Bool
makes_frame (event.OpenPage url header) = true
makes_frame (event.Embed parent src place allow sandbox fullscreen srcdoc header) = true
makes_frame e = false

-- the frame in which the event at position k makes a document
abbrev pub document_frame : Event → ℕ → Option ℕ
document_frame (event.OpenPage url header) k = Some k
document_frame (event.Embed parent src place allow sandbox fullscreen srcdoc header) k = Some k
document_frame (event.Navigate frame url header) k = Some frame
document_frame e k = None

-- the event makes a status
abbrev pub makes_status : Event → Bool
makes_status (event.Query frame feature) = true
makes_status e = false

-- what was told is that a prompt was made
abbrev pub makes_prompt : StepAnswer → Bool
makes_prompt (Replied (answer.PromptMade prompt)) = true
makes_prompt item = false

-- what was told is that a message was made
abbrev pub makes_message : StepAnswer → Bool
makes_message (Replied (answer.MessageMade message)) = true
makes_message item = false

-- some position that passes a test has this number
abbrev pub is_made : (Step → Bool) → RepliedHistory → ℕ → Bool
is_made makes T k = is_some (newest_answer (λ s B. some_if (k == length (s ∷ B) && makes s) k) T)

-- the number is that of a frame
unfoldable pub is_frame : RepliedHistory → ℕ → Bool
is_frame T k = is_made (λ s. makes_frame s.event) T k

-- the number is that of a status
unfoldable pub is_status : RepliedHistory → ℕ → Bool
is_status T k = is_made (λ s. makes_status s.event) T k

-- the number is that of a prompt
unfoldable pub is_prompt : RepliedHistory → ℕ → Bool
is_prompt T k = is_made (λ s. makes_prompt s.item) T k

-- the number is that of a message
unfoldable pub is_message : RepliedHistory → ℕ → Bool
is_message T k = is_made (λ s. makes_message s.item) T k

-- the numbers whose positions pass a test, rising
abbrev pub numbers_made : (Step → Bool) → RepliedHistory → List ℕ
numbers_made makes T = all_answers (λ s B. option_to_list (some_if (makes s) (length (s ∷ B)))) T

-- the frames that were made, newest first; users count or look up, and none reads the order
unfoldable pub frames_made : RepliedHistory → List ℕ
frames_made T = answers_newest_first (λ s B. some_if (makes_frame s.event) (length (s ∷ B))) T

-- the documents that were made, newest first; the 0 stands for a position that does not matter
unfoldable pub documents_made : RepliedHistory → List ℕ
documents_made T = answers_newest_first (λ s B. some_if (is_some (document_frame s.event 0)) (length (s ∷ B))) T

-- the last document made in a frame
unfoldable pub last_document : RepliedHistory → ℕ → Option ℕ
last_document T f = newest_answer (λ s B. option_and_then (λ g. some_if (g == f) (length (s ∷ B))) (document_frame s.event (length (s ∷ B)))) T

-- the frame in which the event embeds a frame
abbrev pub parent_by : Event → Option ℕ
parent_by (event.Embed parent src place allow sandbox fullscreen srcdoc header) = Some parent
parent_by e = None

-- the parent of a frame; a top frame has none
unfoldable pub parent_frame : RepliedHistory → ℕ → Option ℕ
parent_frame T f = newest_answer (λ s B. if f == length (s ∷ B) then parent_by s.event else None) T
