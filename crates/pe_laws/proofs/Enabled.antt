-- The links of a document end with it, and so the two ways to the decision agree.
use Rattle.std.proofs.Common.{◌≡◌, ◌↔◌, ◌⊎◌, inl, inr, ℕ, suc, Bool, true, false, ◌==◌, IsTrue, List, [], ◌∷◌, ◌++◌, length, map, Option, Some, None, unwrap_or, option_map, refl, sym, ap, cond}
use Rattle.pe_features.specs.declared.feature.Feature.{Feature}
use Rattle.pe_origin.specs.declared.origin.Origin.{Origin}
use Rattle.pe_allowlist.specs.Lists.{is_policy_controlled}
use Rattle.pe_policy.specs.Links.{ChainDocument, end_of_chain}
use Rattle.pe_policy.specs.Denials.{first_failing, denial}
use Rattle.pe_policy.specs.InheritedPolicy.{value_for}
use Rattle.pe_rules.specs.History.{RepliedHistory}
use Rattle.pe_rules.specs.Making.{Making, making_by, fold_embedders}
use Rattle.pe_rules.specs.Embedders.{chain}
use Rattle.pe_rules.specs.Origins.{origin_of}
use Rattle.pe_rules.specs.Denials.{chain_document, chain_documents, why_denied}
use Rattle.pe_rules.specs.InheritedPolicy.{is_enabled, is_enabled_for}
use Rattle.pe_laws.proofs.Numbers.{same-numbers}

-- the list is empty, or ends with this number
abbrev pub EndsWith : List ℕ → ℕ → Type 0
EndsWith ds d = (ds ≡ []) ⊎ ((front : List ℕ) × (ds ≡ front ++ d ∷ []))

ends-step : (T : RepliedHistory) (d : ℕ) → EndsWith (chain T d) d → (b : Bool) → (d == suc (length T)) ≡ b → (o : Option Making)
    → EndsWith (cond b (unwrap_or (option_map (λ m. unwrap_or (option_map (chain T) m.embedder) [] ++ suc (length T) ∷ []) o) []) (chain T d)) d
ends-step T d older false h o = older
ends-step T d older true h None = inl refl
ends-step T d older true h (Some m) =
    inr (
      unwrap_or (option_map (chain T) m.embedder) [],
      ap (λ k. unwrap_or (option_map (chain T) m.embedder) [] ++ k ∷ []) (sym (same-numbers d (suc (length T)) h)),
    )

-- the chain of a document ends with it; a number that is not of a document has no chain
pub chain-ends : (T : RepliedHistory) (d : ℕ) → EndsWith (chain T d) d
unfolding chain fold_embedders
chain-ends [] d = inl refl
chain-ends (s ∷ T) d = ends-step T d (chain-ends T d) (d == suc (length T)) refl (making_by s.event T)

last-end : (T : RepliedHistory) (x : ℕ) (front : List ℕ) (d : ℕ) → end_of_chain (chain_document T x) (map (chain_document T) (front ++ d ∷ [])) ≡ chain_document T d
last-end T x [] d = refl
last-end T x (y ∷ front) d = last-end T y front d

origin-end : (T : RepliedHistory) (x : ℕ) (front : List ℕ) (d : ℕ) → (end_of_chain (chain_document T x) (map (chain_document T) (front ++ d ∷ []))).origin ≡ origin_of T d
unfolding chain_document
origin-end T x front d = ap (λ (l : ChainDocument). l.origin) (last-end T x front d)

abbrev Agrees : Feature → List ChainDocument → Origin → Type 0
Agrees f ls o = (denial f ls ≡ None) ↔ (value_for f ls o ≡ true)

module _ (
    values : (f : Feature) (top : ChainDocument) (rest : List ChainDocument)
    → IsTrue (is_policy_controlled f)
    → (denial f (top ∷ rest) ≡ None) ↔ (value_for f (top ∷ rest) (end_of_chain top rest).origin ≡ true)
    )
  where
    agrees-top : (T : RepliedHistory) (f : Feature) (d : ℕ) → IsTrue (is_policy_controlled f) → Agrees f (chain_document T d ∷ []) (origin_of T d)
    unfolding chain_document
    agrees-top T f d h = values f (chain_document T d) [] h

    agrees-ends : (T : RepliedHistory) (f : Feature) (d : ℕ) (front : List ℕ) → IsTrue (is_policy_controlled f) → Agrees f (map (chain_document T) (front ++ d ∷ [])) (origin_of T d)
    agrees-ends T f d [] h = agrees-top T f d h
    agrees-ends T f d (x ∷ front) h = rw (← origin-end T x front d) (values f (chain_document T x) (map (chain_document T) (front ++ d ∷ [])) h)

    agrees-none : (f : Feature) (o : Origin) → IsTrue (is_policy_controlled f) → Agrees f [] o
    unfolding first_failing denial value_for
    agrees-none f o h = (λ e. refl, λ e. rw h refl)

    agrees : (T : RepliedHistory) (f : Feature) (d : ℕ) → IsTrue (is_policy_controlled f) → Agrees f (chain_documents T d) (origin_of T d)
    unfolding chain_documents
    agrees T f d h = elim (chain-ends T d) as (λ x. Agrees f (map (chain_document T) (chain T d)) (origin_of T d)) [
      | inl e ↦ rw e (agrees-none f (origin_of T d) h)
      | inr e ↦ rw (e.1) (agrees-ends T f d e.0 h)
    ]

    pub denied-enabled : (T : RepliedHistory) (f : Feature) (d : ℕ) → IsTrue (is_policy_controlled f) → (why_denied T f d ≡ None) ↔ (is_enabled T f d ≡ true)
    unfolding why_denied is_enabled is_enabled_for
    denied-enabled T f d h = agrees T f d h
