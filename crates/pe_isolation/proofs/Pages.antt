-- The pages of documents, of what an input reaches, and of messages.
use Rattle.std.proofs.Common.{◌≡◌, ℕ, Bool, true, false, not, ◌&&◌, ◌||◌, ◌==◌, List, [], ◌∷◌, ◌++◌, Option, Some, None, is_some, unwrap_or, option_map, option_and_then, refl, sym, ◌∙◌, ap, subst, arith}
use Rattle.std.proofs.lemmas.Bool.Decides.{nat_tests}
use Rattle.pe_rules.specs.History.{RepliedHistory, some_if}
use Rattle.pe_rules.specs.Numbering.{last_document}
use Rattle.pe_rules.specs.Making.{Making, making, frame_of}
use Rattle.pe_rules.specs.Embedders.{chain, first_or, top_document, page, page_of_frame}
use Rattle.pe_rules.specs.Current.{is_current, document_in}
use Rattle.pe_origin.specs.Origins.{is_same_origin}
use Rattle.pe_rules.specs.Origins.{origin_of}
use Rattle.pe_rules.specs.Activation.{is_one_of, reaches}
use Rattle.pe_rules.specs.Muting.{is_other_page}
use Rattle.pe_laws.specs.HistoryLaws.{HistoryLaws}
use Rattle.pe_laws.specs.EmbeddersLaws.{IsAbove}

-- ---- tests

pub same-numbers : (a b : ℕ) → (a == b) ≡ true → a ≡ b
same-numbers a b h = grind (arith, nat_tests)

pub is-same : (a : ℕ) → (a == a) ≡ true
is-same a = grind (arith, nat_tests)

pub both : (a b : Bool) → (a && b) ≡ true → (a ≡ true) × (b ≡ true)
both true true h = (refl, refl)
both true false h = cc
both false b h = cc

pub then-same : {A B : Type 0} (f g : A → Option B) (o : Option A) → ((x : A) → o ≡ Some x → f x ≡ g x) → option_and_then f o ≡ option_and_then g o
then-same f g None one = refl
then-same f g (Some x) one = one x refl

pub map-same : {A B : Type 0} (f g : A → B) (o : Option A) → ((x : A) → o ≡ Some x → f x ≡ g x) → option_map f o ≡ option_map g o
map-same f g None one = refl
map-same f g (Some x) one = ap Some (one x refl)

-- ---- the page of what a frame shows

-- a document that a frame shows is its last, and current
pub shown-last : (T : RepliedHistory) (f d : ℕ) → document_in T f ≡ Some d → (last_document T f ≡ Some d) × (is_current T d ≡ true)
unfolding document_in
shown-last T f d h = by_last (last_document T f) h
  where
    by_test : (c : ℕ) (b : Bool) → is_current T c ≡ b → some_if b c ≡ Some d → (Some c ≡ Some d) × (is_current T d ≡ true)
    by_test c true is e = (e, subst (λ x. is_current T x ≡ true) (ap (λ o. unwrap_or o c) e) is)
    by_test c false is e = cc

    by_last : (o : Option ℕ) → option_and_then (λ c. some_if (is_current T c) c) o ≡ Some d → (o ≡ Some d) × (is_current T d ≡ true)
    by_last None e = cc
    by_last (Some c) e = by_test c (is_current T c) refl e

pub shown-page : (T : RepliedHistory) (f d : ℕ) → document_in T f ≡ Some d → page_of_frame T f ≡ Some (page T d)
unfolding page_of_frame
shown-page T f d h = ap (option_map (page T)) (shown-last T f d h).0

-- the page is this one, where it is no other
pub this-page : (p : ℕ) (o : Option ℕ) (top : ℕ) → o ≡ Some p → is_other_page o top ≡ false → p ≡ top
this-page p o top is h = by_test (p == top) refl (ap (λ x. is_other_page x top) (sym is) ∙ h)
  where
    by_test : (b : Bool) → (p == top) ≡ b → not b ≡ false → p ≡ top
    by_test true same h = same-numbers p top same
    by_test false same h = cc

-- and it is not this one, where it is another
pub not-this : (o : Option ℕ) (top : ℕ) → is_other_page o top ≡ true → unwrap_or (option_map (λ p. p == top) o) false ≡ false
not-this o top h = by_test (unwrap_or (option_map (λ p. p == top) o) false) h
  where
    by_test : (b : Bool) → not b ≡ true → b ≡ false
    by_test true h = cc
    by_test false h = refl

pub other-page : (p : ℕ) (o : Option ℕ) (top : ℕ) → o ≡ Some p → is_other_page o top ≡ true → p ≡ top → ⊥
other-page p o top is h same =
    let unlike : (p == top) ≡ false = ap (λ x. unwrap_or (option_map (λ q. q == top) x) false) (sym is) ∙ not-this o top h in
    absurd-by (subst (λ x. (p == x) ≡ false) (sym same) unlike)
  where
    absurd-by : (p == p) ≡ false → ⊥
    absurd-by e = let alike : (p == p) ≡ true = is-same p in cc

-- ---- what an input reaches

module _ (laws : HistoryLaws) where
  first-append : (d : ℕ) (xs ys : List ℕ) (p : ℕ) → first_or d ((xs ++ p ∷ []) ++ ys) ≡ first_or p (xs ++ p ∷ [])
  first-append d [] ys p = refl
  first-append d (x ∷ xs) ys p = refl

  -- a document of the chain has the top document of the other
  above-top : (T : RepliedHistory) (d p : ℕ) → is_one_of (chain T d) p ≡ true → top_document T d ≡ top_document T p
  unfolding top_document
  above-top T d p h = by_making (making T p) refl above.made
    where
      above : IsAbove T d p
      above = laws.embedders.above T d p h

      by_making : (o : Option Making) → making T p ≡ o → is_some o ≡ true → first_or d (chain T d) ≡ first_or p (chain T p)
      by_making None is some = cc
      by_making (Some m) is some =
          ap (first_or d) above.front.1
          ∙ ap (λ c. first_or d (c ++ above.front.0)) (laws.embedders.chain_is T p m is)
          ∙ first-append d (unwrap_or (option_map (chain T) m.embedder) []) above.front.0 p
          ∙ ap (first_or p) (sym (laws.embedders.chain_is T p m is))

  pub reaches-page : (T : RepliedHistory) (c d : ℕ) → reaches T c d ≡ true → page T c ≡ page T d
  unfolding reaches page
  reaches-page T c d h = by_above (is_one_of (chain T c) d) refl (both (is_current T d) _ h).1
    where
      by_above : (b : Bool) → is_one_of (chain T c) d ≡ b → (b || is_one_of (chain T d) c && is_same_origin (origin_of T c) (origin_of T d)) ≡ true
          → frame_of T (top_document T c) ≡ frame_of T (top_document T d)
      by_above true is e = ap (frame_of T) (above-top T c d is)
      by_above false is e = ap (frame_of T) (sym (above-top T d c (both (is_one_of (chain T d) c) _ e).0))
