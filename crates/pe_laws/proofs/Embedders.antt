-- The chain of a document, and of the documents of it.
use Rattle.std.proofs.Common.{◌≡◌, ◌≢◌, ◌⊎◌, inl, inr, ℕ, suc, ◌≤◌, Bool, true, false, ◌||◌, ◌==◌, List, [], ◌∷◌, ◌++◌, length, Option, Some, None, is_some, unwrap_or, option_map, refl, sym, ◌∙◌, ap, arith, append_assoc, append-nil}
use Rattle.pe_rules.specs.History.{Step, RepliedHistory}
use Rattle.pe_rules.specs.Making.{Making, making_by, making, fold_embedders}
use Rattle.pe_rules.specs.Embedders.{chain, first_or, top_document, page}
use Rattle.pe_rules.specs.Activation.{is_one_of}
use Rattle.pe_laws.specs.EmbeddersLaws.{IsAbove}
use Rattle.pe_laws.proofs.Numbers.{is_same, same-numbers}
use Rattle.pe_laws.proofs.Older.{AllWithin, chain-older, frame-older, chain-within}
use Rattle.pe_laws.proofs.Making.{making-other, making-newest, making-within, embedder-older, along-other, along-newest, along-unmade}

pub chain-other : (s : Step) (T : RepliedHistory) (d : ℕ) → d ≢ suc (length T) → chain (s ∷ T) d ≡ chain T d
unfolding chain
chain-other s T d ne = along-other _ _ s T d ne

-- the chain of an embedder, where there is one
abbrev pub chain_above : RepliedHistory → Making → List ℕ
chain_above T m = unwrap_or (option_map (chain T) m.embedder) []

pub chain-newest : (s : Step) (T : RepliedHistory) (m : Making) → making_by s.event T ≡ Some m → chain (s ∷ T) (suc (length T)) ≡ chain_above T m ++ suc (length T) ∷ []
unfolding chain
chain-newest s T m h = along-newest _ _ s T m h

pub chain-none : (T : RepliedHistory) (d : ℕ) → making T d ≡ None → chain T d ≡ []
unfolding chain
chain-none T d h = along-unmade _ _ T d h

above-older : (s : Step) (T : RepliedHistory) (d : ℕ) (m : Making) → d ≤ suc (length T) → ((p : ℕ) → m.embedder ≡ Some p → suc p ≤ d) → chain_above (s ∷ T) m ≡ chain_above T m
above-older s T d m h below = by_embedder m.embedder below
  where
    by_embedder : (o : Option ℕ) → ((p : ℕ) → o ≡ Some p → suc p ≤ d) → unwrap_or (option_map (chain (s ∷ T)) o) [] ≡ unwrap_or (option_map (chain T) o) []
    by_embedder None below = refl
    by_embedder (Some p) below = chain-older s T p (omega (arith, below p refl))

-- the chain of a document is that of its embedder, and the document
pub chain-is : (T : RepliedHistory) (d : ℕ) (m : Making) → making T d ≡ Some m → chain T d ≡ chain_above T m ++ d ∷ []
chain-is [] d m h = absurd (none d m h)
  where
    none : (d : ℕ) (m : Making) → making [] d ≡ Some m → ⊥
    none d m h = let within = making-within [] d (ap is_some h) in omega (arith, within.0, within.1)
chain-is (s ∷ T) d m h = by_test (d == suc (length T)) refl (chain-is T d m)
  where
    older : chain_above (s ∷ T) m ≡ chain_above T m
    older =
        let within = making-within (s ∷ T) d (ap is_some h) in
        above-older s T d m within.1 (λ p e. let w = embedder-older (s ∷ T) d m p h e in w.0)

    by_test : (b : Bool) → (d == suc (length T)) ≡ b → (making T d ≡ Some m → chain T d ≡ chain_above T m ++ d ∷ []) → chain (s ∷ T) d ≡ chain_above (s ∷ T) m ++ d ∷ []
    by_test true is before =
        let here : d ≡ suc (length T) = same-numbers d (suc (length T)) is in
        let made : making_by s.event T ≡ Some m = sym (making-newest s T) ∙ ap (making (s ∷ T)) (sym here) ∙ h in
        ap (chain (s ∷ T)) here ∙ chain-newest s T m made ∙ ap (λ k. chain_above T m ++ k ∷ []) (sym here) ∙ ap (λ xs. xs ++ d ∷ []) (sym older)
    by_test false is before =
        let ne : d ≢ suc (length T) = (λ e. let same : (d == suc (length T)) ≡ true = ap (λ x. d == x) (sym e) ∙ is_same d in cc) in
        chain-other s T d ne ∙ before (sym (making-other s T d ne) ∙ h) ∙ ap (λ xs. xs ++ d ∷ []) (sym older)

-- ---- the documents of a chain

-- one of a list with one more at its end
pub one-at-end : (xs : List ℕ) (x k : ℕ) → is_one_of (xs ++ x ∷ []) k ≡ true → (is_one_of xs k ≡ true) ⊎ (x ≡ k)
one-at-end [] x k h = by_test (x == k) refl h
  where
    by_test : (b : Bool) → (x == k) ≡ b → (b || false) ≡ true → (false ≡ true) ⊎ (x ≡ k)
    by_test true is e = inr (same-numbers x k is)
    by_test false is e = inl e
one-at-end (y ∷ xs) x k h = by_test (y == k) (one-at-end xs x k) h
  where
    by_test : (b : Bool) → (is_one_of (xs ++ x ∷ []) k ≡ true → (is_one_of xs k ≡ true) ⊎ (x ≡ k)) → (b || is_one_of (xs ++ x ∷ []) k) ≡ true
        → ((b || is_one_of xs k) ≡ true) ⊎ (x ≡ k)
    by_test true rest e = inl refl
    by_test false rest e = rest e

above-stays : (s : Step) (T : RepliedHistory) (d p : ℕ) → d ≢ suc (length T) → IsAbove T d p → IsAbove (s ∷ T) d p
above-stays s T d p ne w =
    let other : p ≢ suc (length T) = omega (arith, w.most) in
    record {
      made = ap is_some (making-other s T p other) ∙ w.made;
      least = w.least;
      within = w.within;
      most = omega (arith, w.most);
      front = (w.front.0, chain-other s T d ne ∙ w.front.1 ∙ ap (λ xs. xs ++ w.front.0) (sym (chain-other s T p other)));
    }

-- of a document that the step makes
above-new : (s : Step) (T : RepliedHistory) (m : Making) (p : ℕ) → making_by s.event T ≡ Some m → ((q : ℕ) → is_one_of (chain T q) p ≡ true → IsAbove T q p)
    → is_one_of (chain (s ∷ T) (suc (length T))) p ≡ true → IsAbove (s ∷ T) (suc (length T)) p
above-new s T m p made older h = by_place (one-at-end (chain_above T m) (suc (length T)) p (ap (λ xs. is_one_of xs p) (sym (chain-newest s T m made)) ∙ h))
  where
    itself : suc (length T) ≡ p → IsAbove (s ∷ T) (suc (length T)) p
    itself is = record {
      made = ap (λ x. is_some (making (s ∷ T) x)) (sym is) ∙ ap is_some (making-newest s T ∙ made);
      least = omega (arith, is);
      within = omega (arith, is);
      most = omega (arith, is);
      front = ([], ap (chain (s ∷ T)) is ∙ sym (append-nil (chain (s ∷ T) p)));
    }

    below : (q : ℕ) → m.embedder ≡ Some q → IsAbove T q p → IsAbove (s ∷ T) (suc (length T)) p
    below q is w =
        let other : p ≢ suc (length T) = omega (arith, w.most) in
        record {
          made = ap is_some (making-other s T p other) ∙ w.made;
          least = w.least;
          within = omega (arith, w.most);
          most = omega (arith, w.most);
          front = (
            w.front.0 ++ suc (length T) ∷ [],
            chain-newest s T m made
                ∙ ap (λ o. unwrap_or (option_map (chain T) o) [] ++ suc (length T) ∷ []) is
                ∙ ap (λ xs. xs ++ suc (length T) ∷ []) (w.front.1)
                ∙ append_assoc (chain T p) (w.front.0) (suc (length T) ∷ [])
                ∙ ap (λ xs. xs ++ (w.front.0 ++ suc (length T) ∷ [])) (sym (chain-other s T p other)),
          );
        }

    by_embedder : (o : Option ℕ) → m.embedder ≡ o → is_one_of (unwrap_or (option_map (chain T) o) []) p ≡ true → IsAbove (s ∷ T) (suc (length T)) p
    by_embedder None is e = cc
    by_embedder (Some q) is e = below q is (older q e)

    by_place : (is_one_of (chain_above T m) p ≡ true) ⊎ (suc (length T) ≡ p) → IsAbove (s ∷ T) (suc (length T)) p
    by_place (inl e) = by_embedder m.embedder refl e
    by_place (inr is) = itself is

no-chain : (d p : ℕ) → is_one_of (chain [] d) p ≡ true → ⊥
unfolding chain fold_embedders
no-chain d p h = cc

pub above : (T : RepliedHistory) (d p : ℕ) → is_one_of (chain T d) p ≡ true → IsAbove T d p
above [] d p h = absurd (no-chain d p h)
above (s ∷ T) d p h = by_test (d == suc (length T)) refl (λ q. above T q p)
  where
    by_making : (o : Option Making) → making_by s.event T ≡ o → d ≡ suc (length T) → ((q : ℕ) → is_one_of (chain T q) p ≡ true → IsAbove T q p) → IsAbove (s ∷ T) d p
    by_making None made here older =
        let none : chain (s ∷ T) d ≡ [] = chain-none (s ∷ T) d (ap (making (s ∷ T)) here ∙ making-newest s T ∙ made) in
        let clash : is_one_of [] p ≡ true = ap (λ xs. is_one_of xs p) (sym none) ∙ h in
        cc
    by_making (Some m) made here older =
        rw here (above-new s T m p made older (ap (λ x. is_one_of (chain (s ∷ T) x) p) (sym here) ∙ h))

    by_test : (b : Bool) → (d == suc (length T)) ≡ b → ((q : ℕ) → is_one_of (chain T q) p ≡ true → IsAbove T q p) → IsAbove (s ∷ T) d p
    by_test true is older = by_making (making_by s.event T) refl (same-numbers d (suc (length T)) is) older
    by_test false is older =
        let ne : d ≢ suc (length T) = (λ e. let same : (d == suc (length T)) ≡ true = ap (λ x. d == x) (sym e) ∙ is_same d in cc) in
        above-stays s T d p ne (older d (ap (λ xs. is_one_of xs p) (sym (chain-other s T d ne)) ∙ h))

-- ---- the top document and the page

pub top-other : (s : Step) (T : RepliedHistory) (d : ℕ) → d ≢ suc (length T) → top_document (s ∷ T) d ≡ top_document T d
unfolding top_document
top-other s T d ne = rw (chain-other s T d ne) refl

-- the first of a list of documents of the history
pub first-within : (n d : ℕ) (ds : List ℕ) → d ≤ n → AllWithin n ds → first_or d ds ≤ n
first-within n d [] h all = h
first-within n d (x ∷ ds) h all = all.0

pub top-within : (T : RepliedHistory) (d : ℕ) → d ≤ length T → top_document T d ≤ length T
unfolding top_document
top-within T d h = first-within (length T) d (chain T d) h (chain-within T d)

pub page-older : (s : Step) (T : RepliedHistory) (d : ℕ) → d ≤ length T → page (s ∷ T) d ≡ page T d
unfolding page
page-older s T d h =
    let ne : d ≢ suc (length T) = omega arith in
    rw (top-other s T d ne) (frame-older s T (top_document T d) (top-within T d h))

pub top-top : (T : RepliedHistory) (d : ℕ) → top_document T (top_document T d) ≡ top_document T d
unfolding top_document
top-top T d = by_chain (chain T d) refl
  where
    -- the first of the chain has a chain that begins as this one does
    by_front : (p : ℕ) (xs : List ℕ) → chain T d ≡ p ∷ xs → (below ps : List ℕ) → chain T p ≡ ps → p ∷ xs ≡ ps ++ below → first_or p ps ≡ p
    by_front p xs is below [] own front = refl
    by_front p xs is below (q ∷ ps) own front = let same : p ≡ q = cc in sym same

    by_chain : (ds : List ℕ) → chain T d ≡ ds → first_or (first_or d ds) (chain T (first_or d ds)) ≡ first_or d ds
    by_chain [] is = rw is refl
    by_chain (p ∷ xs) is =
        let one : is_one_of (chain T d) p ≡ true = ap (λ ds. is_one_of ds p) is ∙ ap (λ b. b || is_one_of xs p) (is_same p) in
        let w = above T d p one in
        by_front p xs is w.front.0 (chain T p) refl (sym is ∙ w.front.1)
