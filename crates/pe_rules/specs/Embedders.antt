-- The chain of embedders of a document, its top document and its page.
-- HTML Standard, "container document", "top-level traversable", "inclusive ancestor navigables".
-- A page is named by its top frame; a top frame has depth 1.
use Rattle.std.specs.Prelude.{ℕ, ◌++◌, List, [], ◌∷◌, length, Option, unwrap_or, option_map}
use Rattle.pe_rules.specs.History.{RepliedHistory}
use Rattle.pe_rules.specs.Numbering.{last_document}
use Rattle.pe_rules.specs.Making.{fold_embedders, frame_of}

-- the documents from the top one to this one, in which each is the embedder of the next
unfoldable pub chain : RepliedHistory → ℕ → List ℕ
chain T d = fold_embedders [] (λ H m above. unwrap_or above [] ++ length H ∷ []) T d

-- the first of a list, or another value where it is empty
abbrev pub first_or : {A : Type 0} → A → List A → A
first_or other [] = other
first_or other (x ∷ xs) = x

-- the top document of a document's page
unfoldable pub top_document : RepliedHistory → ℕ → ℕ
top_document T d = first_or d (chain T d)

-- the page of a document: the frame of its top document
unfoldable pub page : RepliedHistory → ℕ → ℕ
page T d = frame_of T (top_document T d)

-- the page of a frame
unfoldable pub page_of_frame : RepliedHistory → ℕ → Option ℕ
page_of_frame T f = option_map (page T) (last_document T f)

-- the depth of a frame
unfoldable pub depth : RepliedHistory → ℕ → ℕ
depth T f = unwrap_or (option_map (λ d. length (chain T d)) (last_document T f)) 0
