-- Laws of the chain of embedders: it is settled when its document is made.
use Rattle.std.specs.Prelude.{◌≡◌, ◌≢◌, ℕ, ◌≤◌, IsTrue, List, [], ◌∷◌, ◌++◌, length, Some, None, is_some, unwrap_or, option_map}
use Rattle.pe_rules.specs.History.{Step, RepliedHistory}
use Rattle.pe_rules.specs.Making.{Making, making_by, making}
use Rattle.pe_rules.specs.Embedders.{chain, top_document, page}
use Rattle.pe_rules.specs.Activation.{is_one_of}

-- a document of the chain of another
pub record IsAbove (T : RepliedHistory) (d p : ℕ) : Type 0 where
  -- it was made, no later
  pub made : IsTrue (is_some (making T p))
  pub least : 1 ≤ p
  pub within : p ≤ d
  pub most : p ≤ length T
  -- its own chain is a front of the other's
  pub front : (below : List ℕ) × (chain T d ≡ chain T p ++ below)

-- what holds of chains of embedders
pub record EmbeddersLaws : Type 0 where
  pub chain_older : (s : Step) (T : RepliedHistory) (d : ℕ) → d ≢ length (s ∷ T) → chain (s ∷ T) d ≡ chain T d
  pub chain_newest : (s : Step) (T : RepliedHistory) (m : Making) → making_by s.event T ≡ Some m
      → chain (s ∷ T) (length (s ∷ T)) ≡ unwrap_or (option_map (chain T) m.embedder) [] ++ length (s ∷ T) ∷ []
  -- the chain of a document is that of its embedder, and the document
  pub chain_is : (T : RepliedHistory) (d : ℕ) (m : Making) → making T d ≡ Some m → chain T d ≡ unwrap_or (option_map (chain T) m.embedder) [] ++ d ∷ []
  -- a number that is not of a document has no chain
  pub chain_none : (T : RepliedHistory) (d : ℕ) → making T d ≡ None → chain T d ≡ []
  pub above : (T : RepliedHistory) (d p : ℕ) → IsTrue (is_one_of (chain T d) p) → IsAbove T d p
  pub top_document_older : (s : Step) (T : RepliedHistory) (d : ℕ) → d ≢ length (s ∷ T) → top_document (s ∷ T) d ≡ top_document T d
  -- a document's top document is the top document of itself
  pub top_document_top : (T : RepliedHistory) (d : ℕ) → top_document T (top_document T d) ≡ top_document T d
  pub page_older : (s : Step) (T : RepliedHistory) (d : ℕ) → d ≤ length T → page (s ∷ T) d ≡ page T d
