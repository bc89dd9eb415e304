-- Which documents are current, and which frames are live.
-- HTML Standard, "fully active"; without session history a document is current exactly where it is fully active.
-- A document stays current until its frame, or one above it, gets another document or is closed.
use Rattle.std.specs.Prelude.{ℕ, Bool, false, not, ◌&&◌, ◌==◌, List, map, Option, is_some, option_and_then}
use Rattle.std.specs.List.{list_all, list_any}
use Rattle.pe_events.specs.declared.event.Event.{Event}
use Rattle.pe_events.specs.declared.event.Event.TheVariants as event
use Rattle.pe_rules.specs.History.{RepliedHistory, some_if, steps_since}
use Rattle.pe_rules.specs.Numbering.{last_document}
use Rattle.pe_rules.specs.Making.{making, frame_of}
use Rattle.pe_rules.specs.Embedders.{chain}

-- the event navigates or closes one of these frames
abbrev pub ends : List ℕ → Event → Bool
ends frames (event.Navigate frame url header) = list_any (λ f. f == frame) frames
ends frames (event.Close frame) = list_any (λ f. f == frame) frames
ends frames e = false

-- the frames of the documents of the chain
unfoldable pub frames_above : RepliedHistory → ℕ → List ℕ
frames_above T d = map (frame_of T) (chain T d)

-- the document is current: no event after its making navigates or closes the frame of a document of its chain
unfoldable pub is_current : RepliedHistory → ℕ → Bool
is_current T d = is_some (making T d) && list_all (λ s. not (ends (frames_above T d) s.event)) (steps_since T d)

-- the current document of a frame, where the frame is live
unfoldable pub document_in : RepliedHistory → ℕ → Option ℕ
document_in T f = option_and_then (λ d. some_if (is_current T d) d) (last_document T f)

-- the frame is live: its last document is current
unfoldable pub is_live : RepliedHistory → ℕ → Bool
is_live T f = is_some (document_in T f)
