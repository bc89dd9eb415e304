-- What an answer to `policy` says of the documents from the page's top one down to the one that is asked for, and what change lines name.
-- Permissions Policy, "define an inherited policy for feature in container at origin", "is feature enabled in document for origin".
-- Each test is by the header that its document was made with, and by the attributes that stood in its element then.
use Rattle.std.specs.Prelude.{◌≡◌, ◌⊎◌, ℕ, true, false, ◌==◌, List, [], ◌∷◌, Some, None, IsTrue}
use Rattle.std.specs.List.{list_any}
use Rattle.pe_base.specs.declared.denial.Denial.{Denial}
use Rattle.pe_features.specs.declared.feature.Feature.{Feature}
use Rattle.pe_features.specs.Features.{feature_named}
use Rattle.pe_policy.specs.Links.{ChainDocument, pair_test, own_test}
use Rattle.pe_events.specs.declared.answer.Change.{Change}
use Rattle.pe_rules.specs.History.{RepliedHistory}
use Rattle.pe_rules.specs.Current.{document_in}
use Rattle.pe_rules.specs.Denials.{chain_documents}
use Rattle.pe_rules.specs.InheritedPolicy.{inherited, is_enabled}
use Rattle.pe_rules.specs.Statuses.{live_statuses}
use Rattle.pe_laws.specs.StatusesLaws.{Each}

-- no test fails between an embedder and the document below it, nor that of the last document's own header
abbrev pub NoTestFails : Feature → List ChainDocument → Type 0
NoTestFails f [] = Unit {0}
NoTestFails f (last ∷ []) = own_test f last ≡ None
NoTestFails f (embedder ∷ child ∷ rest) = (pair_test f embedder child ≡ None) × NoTestFails f (child ∷ rest)

-- this is the first test that fails, nearest the top
abbrev pub IsFirstFailing : Feature → Denial → List ChainDocument → Type 0
IsFirstFailing f x [] = ⊥
IsFirstFailing f x (last ∷ []) = own_test f last ≡ Some x
IsFirstFailing f x (embedder ∷ child ∷ rest) = (pair_test f embedder child ≡ Some x) ⊎ ((pair_test f embedder child ≡ None) × IsFirstFailing f x (child ∷ rest))

-- the document that the frame shows, and the feature of this name
pub record IsAskedFor (T : RepliedHistory) (frame : ℕ) (name : List ℕ) (document : ℕ) (feature : Feature) : Type 0 where
  pub shown : document_in T frame ≡ Some document
  pub named : feature_named name ≡ Some feature

-- no test fails along the chain of the document, and its inherited value is Enabled
pub record IsAllowedBelow (T : RepliedHistory) (document : ℕ) (feature : Feature) : Type 0 where
  pub passes : NoTestFails feature (chain_documents T document)
  pub inherits : inherited T feature document ≡ true

-- this test is the first that fails along the chain of the document, and the inherited value with the own header is Disabled
pub record IsDeniedBelow (T : RepliedHistory) (document : ℕ) (feature : Feature) (why : Denial) : Type 0 where
  pub fails : IsFirstFailing feature why (chain_documents T document)
  pub disabled : is_enabled T feature document ≡ false

-- the feature of this name is allowed in the document that the frame shows
abbrev pub IsAllowedIn : RepliedHistory → ℕ → List ℕ → Type 0
IsAllowedIn T frame name = (d : ℕ) × (f : Feature) × IsAskedFor T frame name d f × IsAllowedBelow T d f

-- the feature of this name is denied in the document that the frame shows, for this reason
abbrev pub IsDeniedIn : RepliedHistory → ℕ → List ℕ → Denial → Type 0
IsDeniedIn T frame name why = (d : ℕ) × (f : Feature) × IsAskedFor T frame name d f × IsDeniedBelow T d f why

-- each change names a status that is live
abbrev pub AreOfLive : RepliedHistory → List Change → Type 0
AreOfLive T changes = Each (λ c. IsTrue (list_any (λ x. x.number == c.status) (live_statuses T))) changes
