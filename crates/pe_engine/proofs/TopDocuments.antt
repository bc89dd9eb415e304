-- The top document of a page: it is settled when a document is made in the page.
use Rattle.std.proofs.Common.{◌≡◌, ◌≢◌, ℕ, suc, ◌≤◌, List, [], ◌∷◌, ◌++◌, length, map, Some, unwrap_or, option_map, refl, sym, ◌∙◌, ap, subst, arith}
use Rattle.std.proofs.lemmas.Bool.Decides.{Decides-eqb}
use Rattle.pe_policy.specs.Links.{ChainDocument}
use Rattle.pe_origin.specs.Trust.{is_trustworthy}
use Rattle.pe_rules.specs.History.{Step, RepliedHistory}
use Rattle.pe_rules.specs.Making.{Making, making_by, making}
use Rattle.pe_rules.specs.Embedders.{first_or, chain, top_document}
use Rattle.pe_rules.specs.Origins.{origin_of, place_or_none, is_secure}
use Rattle.pe_rules.specs.Denials.{chain_document, chain_documents}
use Rattle.pe_laws.specs.HistoryLaws.{HistoryLaws}
use Rattle.pe_engine.specs.Rows.{top_origin}

-- a document with a policy has a chain
pub chain-some : (T : RepliedHistory) (d : ℕ) (t : ChainDocument) (r : List ChainDocument) → chain_documents T d ≡ t ∷ r → (c : ℕ) × (cs : List ℕ) × (chain T d ≡ c ∷ cs)
unfolding chain_documents
chain-some T d t r h = by_chain (chain T d) refl h
  where
    by_chain : (ds : List ℕ) → chain T d ≡ ds → map (chain_document T) ds ≡ t ∷ r → (c : ℕ) × (cs : List ℕ) × (chain T d ≡ c ∷ cs)
    by_chain [] is h = cc
    by_chain (c ∷ cs) is h = (c, cs, is)

pub top-is : (T : RepliedHistory) (d c : ℕ) (cs : List ℕ) → chain T d ≡ c ∷ cs → top_document T d ≡ c
unfolding top_document
top-is T d c cs is = ap (first_or d) is

-- documents with one top document are in secure contexts alike
pub secure-alike : (T : RepliedHistory) (d p : ℕ) → top_document T d ≡ top_document T p → is_secure T d ≡ is_secure T p
unfolding is_secure
secure-alike T d p same = rw same refl

-- a top document is in one where its URL is trustworthy
pub secure-top : (T : RepliedHistory) (d : ℕ) (m : Making) → top_document T d ≡ d → making T d ≡ Some m → is_secure T d ≡ is_trustworthy (place_or_none m.url)
unfolding is_secure
secure-top T d m top made = rw (top, made) refl

module _ (laws : HistoryLaws) where
  top-within : (T : RepliedHistory) (d c : ℕ) (cs : List ℕ) → chain T d ≡ c ∷ cs → top_document T d ≤ length T
  top-within T d c cs is =
      subst (λ n. n ≤ length T) (sym (top-is T d c cs is)) ((laws.embedders.above T d c (rw (is, (Decides-eqb c c).1 refl) refl)).most)

  -- the origin of the top document stays at a step after the document's making
  top-stays : (s : Step) (T : RepliedHistory) (d c : ℕ) (cs : List ℕ) → chain T d ≡ c ∷ cs → origin_of (s ∷ T) (top_document T d) ≡ top_origin T d
  top-stays s T d c cs is =
      let within = top-within T d c cs is in
      let ne : top_document T d ≢ suc (length T) = (λ e. absurd (omega (arith, within, e))) in
      laws.origins.origin_of_older s T (top_document T d) ne

  pub top-origin-older : (s : Step) (T : RepliedHistory) (d : ℕ) (t : ChainDocument) (r : List ChainDocument) → d ≢ suc (length T) → chain_documents T d ≡ t ∷ r → top_origin (s ∷ T) d ≡ top_origin T d
  top-origin-older s T d t r ne chained =
      let (c, cs, is) = chain-some T d t r chained in
      ap (origin_of (s ∷ T)) (laws.embedders.top_document_older s T d ne) ∙ top-stays s T d c cs is

  -- the top document of one that is embedded is that of its embedder
  top-child : (s : Step) (T : RepliedHistory) (m : Making) (p c : ℕ) (cs : List ℕ) → making_by s.event T ≡ Some m → m.embedder ≡ Some p → chain T p ≡ c ∷ cs → top_document (s ∷ T) (suc (length T)) ≡ top_document T p
  top-child s T m p c cs e is_up is =
      let k = suc (length T) in
      top-is (s ∷ T) k c (cs ++ k ∷ []) (laws.embedders.chain_newest s T m e ∙ ap (λ o. unwrap_or (option_map (chain T) o) [] ++ k ∷ []) is_up ∙ ap (λ (l : List ℕ). l ++ k ∷ []) is)
      ∙ sym (top-is T p c cs is)

  pub top-origin-child : (s : Step) (T : RepliedHistory) (m : Making) (p : ℕ) (t : ChainDocument) (r : List ChainDocument) → making_by s.event T ≡ Some m → m.embedder ≡ Some p → chain_documents T p ≡ t ∷ r
      → top_origin (s ∷ T) (suc (length T)) ≡ top_origin T p
  top-origin-child s T m p t r e is_up chained =
      let (c, cs, is) = chain-some T p t r chained in
      ap (origin_of (s ∷ T)) (top-child s T m p c cs e is_up is) ∙ top-stays s T p c cs is

  pub secure-child : (s : Step) (T : RepliedHistory) (m : Making) (p : ℕ) (t : ChainDocument) (r : List ChainDocument) → p ≤ length T → making_by s.event T ≡ Some m → m.embedder ≡ Some p → chain_documents T p ≡ t ∷ r
      → is_secure (s ∷ T) (suc (length T)) ≡ is_secure T p
  secure-child s T m p t r le e is_up chained =
      let (c, cs, is) = chain-some T p t r chained in
      let ne : p ≢ suc (length T) = (λ q. absurd (omega (arith, le, q))) in
      secure-alike (s ∷ T) (suc (length T)) p (top-child s T m p c cs e is_up is ∙ sym (laws.embedders.top_document_older s T p ne)) ∙ laws.origins.is_secure_older s T p le
