-- The entries that hold while a document is current, in a list with one entry for each pair.
use Rattle.std.proofs.Common.{◌≡◌, ℕ, suc, ◌+◌, ◌<◌, ◌≤◌, length, get_or, drop, drop-cons, arith, Bool, true, false, ◌||◌, not, List, [], ◌∷◌, map, filter, Option, Some, None, refl, sym, ◌∙◌, ap, cond}
use Rattle.std.proofs.Math.ListN.{drop_of_length-le}
use Rattle.std.specs.Bool.{Decides}
use Rattle.std.specs.List.{find, list_any, AllByRecursion}
use Rattle.pe_store.specs.declared.entry.Entry.{Entry}
use Rattle.pe_store.specs.Entries.{pair_of, is_of, entry_of, without, without_all, IsOnePerPair}
use Rattle.pe_store.specs.Pages.{pairs_of_page, without_page, is_listed, AreApart}
use Rattle.pe_store.specs.Pairs.{Pair, is_same_pair}
use Rattle.pe_store.specs.Places.{is_page_of, has_life}
use Rattle.pe_store.proofs.Lists.{same-turned}
use Rattle.pe_store.proofs.OnePerPair.{all-weaker, own-each}

pub taken-more : (ps : List Pair) (es : List Entry) (i : ℕ) (p : Pair) → i < length ps → p ≡ get_or ps i p → without_all (drop i ps) es ≡ without_all (drop (i + 1) ps) (without p es)
unfolding without_all
taken-more ps es i p lt is =
    let next : suc i ≡ i + 1 = omega arith in
    ap (λ (qs : List Pair). without_all qs es) (drop-cons ps i p lt) ∙ ap (λ (q : Pair). without_all (drop (suc i) ps) (without q es)) (sym is) ∙ ap (λ (n : ℕ). without_all (drop n ps) (without p es)) next

pub taken-all : (ps : List Pair) (es : List Entry) (i : ℕ) → length ps ≤ i → without_all (drop i ps) es ≡ es
unfolding without_all
taken-all ps es i le = ap (λ (qs : List Pair). without_all qs es) (drop_of_length-le ps le)

module _ (pairs : (p q : Pair) → Decides (is_same_pair p q) (p ≡ q)) (d : ℕ) where
  -- a later entry of a pair is none, where the first is of the pair
  later-none : (e : Entry) (es : List Entry) (q : Pair) → entry_of es (pair_of e) ≡ None → is_same_pair (pair_of e) q ≡ true → entry_of es q ≡ None
  later-none e es q none same = ap (entry_of es) (sym ((pairs (pair_of e) q).0 same)) ∙ none

  pub listed-pages : (es : List Entry) (q : Pair) → IsOnePerPair es → is_listed q (pairs_of_page d es) ≡ has_life is_page_of d (entry_of es q)
  unfolding is_listed pairs_of_page entry_of
  listed-pages [] q one = refl
  listed-pages (e ∷ es) q one = by_tests (is_page_of d e.life) (is_same_pair (pair_of e) q) refl refl (listed-pages es q one.1)
    where
      ended : List Pair
      ended = map pair_of (filter (λ (x : Entry). is_page_of d x.life) es)

      by_tests : (b s : Bool) → is_page_of d e.life ≡ b → is_same_pair (pair_of e) q ≡ s → list_any (λ p. is_same_pair p q) ended ≡ has_life is_page_of d (find (is_of q) es)
          → list_any (λ p. is_same_pair p q) (map pair_of (cond b (e ∷ filter (λ (x : Entry). is_page_of d x.life) es) (filter (λ (x : Entry). is_page_of d x.life) es)))
          ≡ has_life is_page_of d (cond s (Some e) (find (is_of q) es))
      by_tests true true page same rest = rw (same, page) refl
      by_tests true false page same rest = rw same rest
      by_tests false true page same rest = rest ∙ ap (has_life is_page_of d) (later-none e es q one.0 same) ∙ sym page
      by_tests false false page same rest = rest

  pub apart-pages : (es : List Entry) → IsOnePerPair es → AreApart (pairs_of_page d es)
  unfolding AreApart is_listed pairs_of_page
  apart-pages [] one = tt
  apart-pages (e ∷ es) one = by_test (is_page_of d e.life) (listed-pages es (pair_of e) one.1 ∙ ap (has_life is_page_of d) one.0) (apart-pages es one.1)
    where
      by_test : (b : Bool) → is_listed (pair_of e) (pairs_of_page d es) ≡ false → AreApart (pairs_of_page d es)
          → AreApart (map pair_of (cond b (e ∷ filter (λ (x : Entry). is_page_of d x.life) es) (filter (λ (x : Entry). is_page_of d x.life) es)))
      by_test true none rest = (none, rest)
      by_test false none rest = rest

  pub found-pages : (es : List Entry) (q : Pair) → IsOnePerPair es → entry_of (without_page d es) q ≡ cond (has_life is_page_of d (entry_of es q)) None (entry_of es q)
  unfolding without_page entry_of
  found-pages [] q one = refl
  found-pages (e ∷ es) q one = by_tests (is_page_of d e.life) (is_same_pair (pair_of e) q) refl refl (found-pages es q one.1)
    where
      kept : List Entry
      kept = filter (λ (x : Entry). not (is_page_of d x.life)) es

      by_tests : (b s : Bool) → is_page_of d e.life ≡ b → is_same_pair (pair_of e) q ≡ s
          → find (is_of q) kept ≡ cond (has_life is_page_of d (find (is_of q) es)) None (find (is_of q) es)
          → find (is_of q) (cond (not b) (e ∷ kept) kept) ≡ cond (has_life is_page_of d (cond s (Some e) (find (is_of q) es))) None (cond s (Some e) (find (is_of q) es))
      by_tests true true page same rest = rest ∙ ap (λ (o : Option Entry). cond (has_life is_page_of d o) None o) (later-none e es q one.0 same) ∙ rw page refl
      by_tests true false page same rest = rest
      by_tests false true page same rest = rw (same, page) refl
      by_tests false false page same rest = rw same rest

  -- ---- the entries of these pairs, taken out one after another

  without-one : (p : Pair) (ps : List Pair) (es : List Entry)
      → filter (λ (e : Entry). not (list_any (λ q. is_same_pair q (pair_of e)) ps)) (filter (λ e. not (is_of p e)) es) ≡ filter (λ (e : Entry). not (is_same_pair p (pair_of e) || list_any (λ q. is_same_pair q (pair_of e)) ps)) es
  without-one p ps [] = refl
  without-one p ps (e ∷ es) = rw (same-turned pairs p (pair_of e)) (by_test (is_same_pair (pair_of e) p) (without-one p ps es))
    where
      left : List Entry
      left = filter (λ (x : Entry). not (list_any (λ q. is_same_pair q (pair_of x)) ps)) (filter (λ x. not (is_of p x)) es)

      right : List Entry
      right = filter (λ (x : Entry). not (is_same_pair p (pair_of x) || list_any (λ q. is_same_pair q (pair_of x)) ps)) es

      by_test : (s : Bool) → left ≡ right
          → filter (λ (x : Entry). not (list_any (λ q. is_same_pair q (pair_of x)) ps)) (cond (not s) (e ∷ filter (λ x. not (is_of p x)) es) (filter (λ x. not (is_of p x)) es))
          ≡ cond (not (s || list_any (λ q. is_same_pair q (pair_of e)) ps)) (e ∷ right) right
      by_test true rest = rest
      by_test false rest = ap (λ (xs : List Entry). cond (not (list_any (λ q. is_same_pair q (pair_of e)) ps)) (e ∷ xs) xs) rest

  all-kept : (es : List Entry) → filter (λ (e : Entry). true) es ≡ es
  all-kept [] = refl
  all-kept (e ∷ es) = ap (λ (xs : List Entry). e ∷ xs) (all-kept es)

  without-listed : (ps : List Pair) (es : List Entry) → without_all ps es ≡ filter (λ (e : Entry). not (list_any (λ q. is_same_pair q (pair_of e)) ps)) es
  unfolding without_all without
  without-listed [] es = sym (all-kept es)
  without-listed (p ∷ ps) es = without-listed ps (filter (λ e. not (is_of p e)) es) ∙ without-one p ps es

  filter-alike : (t u : Entry → Bool) (es : List Entry) → AllByRecursion (λ e. t e ≡ u e) es → filter t es ≡ filter u es
  filter-alike t u [] h = refl
  filter-alike t u (e ∷ es) h = ap (λ b. cond b (e ∷ filter t es) (filter t es)) h.0 ∙ ap (λ (xs : List Entry). cond (u e) (e ∷ xs) xs) (filter-alike t u es h.1)

  pub pages-taken : (es : List Entry) → IsOnePerPair es → without_all (pairs_of_page d es) es ≡ without_page d es
  unfolding without_page is_listed
  pages-taken es one =
      without-listed (pairs_of_page d es) es
      ∙ filter-alike (λ (e : Entry). not (list_any (λ q. is_same_pair q (pair_of e)) (pairs_of_page d es))) (λ (e : Entry). not (is_page_of d e.life)) es
      (all-weaker (λ (e : Entry). entry_of es (pair_of e) ≡ Some e) (λ (e : Entry). not (list_any (λ q. is_same_pair q (pair_of e)) (pairs_of_page d es)) ≡ not (is_page_of d e.life)) es
      (λ e own. ap not (listed-pages es (pair_of e) one ∙ ap (has_life is_page_of d) own)) (own-each pairs es one))
