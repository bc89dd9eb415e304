-- The making of a document: its frame, URL and header, its embedder, and the attributes in force.
-- HTML Standard, "container document", "navigate"; the attributes are those of its "iframe" element.
-- A frame and its first document are made by one event, which is this project's own.
use Rattle.std.specs.Prelude.{ℕ, ◌+◌, Bool, false, ◌==◌, List, [], ◌∷◌, length, codes, Option, Some, None, unwrap_or, option_map, option_and_then, if◌then◌else◌}
use Rattle.pe_events.specs.declared.event.Event.{Event}
use Rattle.pe_events.specs.declared.event.Event.TheVariants as event
use Rattle.pe_rules.specs.History.{RepliedHistory, newest_answer}
use Rattle.pe_rules.specs.Numbering.{last_document, parent_frame}
use Rattle.pe_rules.specs.Attributes.{Attributes, no_attributes, attributes_of}

-- what a document was made of; `srcdoc` says that it is a srcdoc document
pub record Making : Type 0 where
  pub frame : ℕ
  pub url : List ℕ
  pub header : Option (List ℕ)
  pub embedder : Option ℕ
  pub srcdoc : Bool
  pub attributes : Attributes

-- the URL of an embedded document: the given place, else `src`, else about:blank
abbrev pub embedded_url : Option (List ℕ) → Option (List ℕ) → List ℕ
embedded_url place src = unwrap_or place (unwrap_or src (codes "about:blank"))

-- the document that an event makes after these steps
unfoldable pub making_by : Event → RepliedHistory → Option Making
making_by (event.OpenPage url header) B = Some (record {
  frame = length B + 1;
  url = url;
  header = header;
  embedder = None;
  srcdoc = false;
  attributes = no_attributes;
})
making_by (event.Embed parent src place allow sandbox fullscreen srcdoc header) B = Some (record {
  frame = length B + 1;
  url = embedded_url place src;
  header = header;
  embedder = last_document B parent;
  srcdoc = srcdoc;
  attributes = record { src = src; srcdoc = srcdoc; allow = allow; sandbox = sandbox; fullscreen = fullscreen };
})
making_by (event.Navigate frame url header) B = Some (record {
  frame = frame;
  url = url;
  header = header;
  embedder = option_and_then (last_document B) (parent_frame B frame);
  srcdoc = false;
  attributes = attributes_of B frame;
})
making_by e B = None

-- the making of a document
unfoldable pub making : RepliedHistory → ℕ → Option Making
making T d = newest_answer (λ s B. if d == length (s ∷ B) then making_by s.event B else None) T

-- a value of each document, by the steps up to its making, the making and the value of its embedder
unfoldable pub fold_embedders : {A : Type 0} → A → (RepliedHistory → Making → Option A → A) → RepliedHistory → ℕ → A
fold_embedders other rule [] d = other
fold_embedders other rule (s ∷ T) d =
    let earlier = fold_embedders other rule T d in
    let of_embedder = λ (m : Making). option_map (fold_embedders other rule T) m.embedder in
    let here = unwrap_or (option_map (λ m. rule (s ∷ T) m (of_embedder m)) (making_by s.event T)) other in
    if d == length (s ∷ T) then here else earlier

-- the frame of a document
unfoldable pub frame_of : RepliedHistory → ℕ → ℕ
frame_of T d = unwrap_or (option_map (λ m. m.frame) (making T d)) 0
