-- User activation: which documents an input activates, what consumes it, sticky and transient activation.
-- HTML Standard, "Tracking user activation" ("activation notification", "consume user activation", "sticky activation", "transient activation").
-- The duration is that of the run, in milliseconds.
use Rattle.std.specs.Prelude.{ℕ, ◌+◌, Bool, true, false, not, ◌&&◌, ◌||◌, ◌==◌, nat_lt, List, ◌∷◌, length, filter, Option, is_some, unwrap_or, option_map, if◌then◌else◌}
use Rattle.std.specs.List.{list_any}
use Rattle.pe_base.specs.declared.input.Stamp.{Stamp}
use Rattle.pe_base.specs.declared.input.Stamp.TheVariants as stamp
use Rattle.pe_base.specs.Activation.{triggers}
use Rattle.pe_features.specs.Calls.{call_named, gate_of}
use Rattle.pe_origin.specs.Origins.{is_same_origin}
use Rattle.pe_events.specs.declared.event.Event.{Event}
use Rattle.pe_events.specs.declared.event.Event.TheVariants as event
use Rattle.pe_events.specs.declared.reason.Verdict.TheVariants as verdict
use Rattle.pe_events.specs.declared.reason.Via.TheVariants as via
use Rattle.pe_rules.specs.History.{StepAnswer, Judged, Step, RepliedHistory, some_if, newest_answer}
use Rattle.pe_rules.specs.Numbering.{documents_made, makes_message}
use Rattle.pe_rules.specs.Embedders.{chain, page, page_of_frame}
use Rattle.pe_rules.specs.Current.{is_current, document_in}
use Rattle.pe_rules.specs.Origins.{origin_of}

-- the number is one of the list
abbrev pub is_one_of : List ℕ → ℕ → Bool
is_one_of numbers n = list_any (λ x. x == n) numbers

-- an input in document c activates document d: it is current, and above c, or below it and same origin with it
unfoldable pub reaches : RepliedHistory → ℕ → ℕ → Bool
reaches B c d = is_current B d && (is_one_of (chain B c) d || is_one_of (chain B d) c && is_same_origin (origin_of B c) (origin_of B d))

-- the event, after these steps, activates document d
unfoldable pub activates : Event → RepliedHistory → ℕ → Bool
activates (event.Input frame kind) B d = triggers kind && unwrap_or (option_map (λ c. reaches B c d) (document_in B frame)) false
activates e B d = false

-- how many documents the event activates
unfoldable pub activated_count : Event → RepliedHistory → ℕ
activated_count e B = length (filter (activates e B) (documents_made B))

-- what was told is that a use was met by transient activation
abbrev pub is_by_transient : StepAnswer → Bool
is_by_transient (Judged (verdict.Allowed via.Transient)) = true
is_by_transient item = false

-- a call of this name consumes user activation
abbrev pub is_consuming_call : List ℕ → Bool
is_consuming_call name = unwrap_or (option_map (λ call. (gate_of call).consumes) (call_named name)) false

-- the frame is in the page
abbrev pub is_frame_of_page : RepliedHistory → ℕ → ℕ → Bool
is_frame_of_page B frame top = unwrap_or (option_map (λ p. p == top) (page_of_frame B frame)) false

-- the event, of which this was told, consumes the user activation of the page
abbrev pub consumes_by : Event → StepAnswer → RepliedHistory → ℕ → Bool
consumes_by (event.UseCall frame call) item B top = is_by_transient item && is_consuming_call call && is_frame_of_page B frame top
consumes_by (event.Post sender target named capability) item B top = makes_message item && is_frame_of_page B sender top
consumes_by e item B top = false

-- the step, after these, consumes the user activation of the page
unfoldable pub consumes : Step → RepliedHistory → ℕ → Bool
consumes s B top = consumes_by s.event s.item B top

-- the last activation of a document: its position and its time
unfoldable pub last_activation : RepliedHistory → ℕ → Option (ℕ × ℕ)
last_activation T d = newest_answer (λ s B. some_if (activates s.event B d) (length (s ∷ B), s.time)) T

-- the user activation of the page was consumed after a position
unfoldable pub is_consumed_since : RepliedHistory → ℕ → ℕ → Bool
is_consumed_since T position top = is_some (newest_answer (λ s B. some_if (nat_lt position (length (s ∷ B)) && consumes s B top) position) T)

-- sticky activation: some input activated the document
unfoldable pub has_sticky : RepliedHistory → ℕ → Bool
has_sticky T d = is_some (last_activation T d)

-- transient activation: the last activation is younger than the duration and was not consumed
unfoldable pub has_transient : ℕ → RepliedHistory → ℕ → ℕ → Bool
has_transient duration T now d =
    unwrap_or (option_map (λ last. nat_lt now (last.1 + duration) && not (is_consumed_since T last.0 (page T d))) (last_activation T d)) false

-- the stamp of a document: never where no input activated it, consumed where its page's activation was consumed since the last that did, else the time of that one
unfoldable pub stamp_of : RepliedHistory → ℕ → Stamp
stamp_of T d =
    unwrap_or (option_map (λ last. if is_consumed_since T last.0 (page T d) then stamp.Consumed else stamp.At last.1) (last_activation T d)) stamp.Never
