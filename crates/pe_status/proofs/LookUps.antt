-- What is found under each number, and counted in each page, after a change.
use Rattle.std.proofs.Common.{◌≡◌, ℕ, ◌+◌, ◌<◌, Bool, true, false, cond, not, List, [], ◌∷◌, ◌++◌, Option, Some, None, refl, sym, ap, subst, ◌∙◌, arith, true≢false}
use Rattle.std.specs.Prelude.{◌==◌, IfSome}
use Rattle.std.proofs.lemmas.Bool.Decides.{nat_tests, Decides-eqb}
use Rattle.pe_status.specs.declared.giving.Given.{Given}
use Rattle.pe_status.specs.declared.index.Index.{Index}
use Rattle.pe_status.specs.declared.registered.Registered.{Registered}
use Rattle.pe_status.specs.Registry.{Registry, status_of, count_of_page, without, unless_of, AreBelow, AreRising}
use Rattle.pe_status.specs.Kept.{numbers, is_of_document, IsIndex, IsOneOf}
use Rattle.pe_status.specs.Places.{value_at}
use Rattle.pe_status.proofs.Listed.{nos, kept, found-no, found-filter, found-push}
use Rattle.pe_status.proofs.Live.{below-live, numbers-push}
use Rattle.pe_status.proofs.Keeping.{own-number, rising}
use Rattle.pe_status.proofs.Pages.{count-push, count-without}
use Rattle.pe_status.proofs.Seen.{seen}

found-without : (n m : ℕ) (rs : List Registered) → AreRising (nos rs) → status_of (without n rs) m ≡ cond (n == m) None (status_of rs m)
unfolding without
found-without n m rs rises = found-filter (λ s. not (s.no == n)) rs m rises ∙ by_status (status_of rs m) refl
  where
    none : Option Registered
    none = None

    same : (b : Bool) → none ≡ cond b none none
    same true = refl
    same false = refl

    other : (a : ℕ) → a ≡ m → (n == m) ≡ false → (a == n) ≡ false
    other a is e = grind (arith, nat_tests)

    by_test : (s : Registered) → s.no ≡ m → (b : Bool) → (n == m) ≡ b → cond (not (s.no == n)) (Some s) None ≡ cond b None (Some s)
    by_test s is true e = ap (λ (c : Bool). cond (not c) (Some s) None) ((Decides-eqb s.no n).1 (is ∙ sym ((Decides-eqb n m).0 e)))
    by_test s is false e = ap (λ (c : Bool). cond (not c) (Some s) None) (other s.no is e)

    by_status : (o : Option Registered) → status_of rs m ≡ o → kept (λ s. not (s.no == n)) o ≡ cond (n == m) None o
    by_status None e = same (n == m)
    by_status (Some s) e = by_test s (found-no rs m s e) (n == m) refl

next-below : (ns : List ℕ) (n k : ℕ) → AreBelow n ns → n < k → AreBelow k (ns ++ n ∷ [])
next-below [] n k below lt = (lt, tt)
next-below (m ∷ ns) n k below lt = (omega (arith, lt, below.0), next-below ns n k below.1 lt)

module _ (gs : List Given) (x : Index) (k : IsIndex gs x) (s : Registry) (view : seen gs x ≡ s) where
  rises : AreRising (nos s.live)
  rises = subst (λ (t : Registry). AreRising (nos t.live)) view (rising k)

  below-seen : (n : ℕ) → AreBelow n s.given → AreBelow n (nos s.live)
  below-seen n below =
      subst (λ (t : Registry). AreBelow n (nos t.live)) view
      (below-live (value_at x.rows) (own-number k) gs n (subst (λ (t : Registry). AreBelow n t.given) (sym view) below))

  -- after a status was registered
  pub entered-found : (r : Registered) (new : List Registered) → AreBelow r.no s.given → new ≡ s.live ++ r ∷ [] → (n : ℕ) → status_of new n ≡ cond (r.no == n) (Some r) (status_of s.live n)
  entered-found r new below is n = ap (λ (rs : List Registered). status_of rs n) is ∙ found-push r s.live n (below-seen r.no below)

  pub entered-next : (n pair : ℕ) (items : List Given) → AreBelow n s.given → items ≡ gs ++ record { no = n; pair = pair } ∷ [] → (m : ℕ) → n < m → AreBelow m (numbers items)
  entered-next n pair items below is m lt =
      subst (λ (ns : List ℕ). AreBelow m ns) (sym (ap (λ (hs : List Given). numbers hs) is ∙ numbers-push gs (record { no = n; pair = pair })))
      (next-below (numbers gs) n m (subst (λ (t : Registry). AreBelow n t.given) (sym view) below) lt)

  -- after the status of a number ended
  pub ended-found : (n : ℕ) (new : List Registered) → new ≡ without n s.live → (m : ℕ) → status_of new m ≡ cond (n == m) None (status_of s.live m)
  ended-found n new is m = ap (λ (rs : List Registered). status_of rs m) is ∙ found-without n m s.live rises

  pub ended-count : (n : ℕ) (new : List Registered) → new ≡ without n s.live
      → IfSome (status_of s.live n) (λ r. (p : ℕ) → count_of_page p s.live ≡ cond (r.page == p) (count_of_page p new + 1) (count_of_page p new))
  ended-count n new is = by_status (status_of s.live n) refl
    where
      by_status : (o : Option Registered) → status_of s.live n ≡ o → IfSome o (λ r. (p : ℕ) → count_of_page p s.live ≡ cond (r.page == p) (count_of_page p new + 1) (count_of_page p new))
      by_status None e = tt
      by_status (Some r) e = λ p.
          count-without p n r s.live rises e
          ∙ ap (λ (rs : List Registered). cond (r.page == p) (count_of_page p rs + 1) (count_of_page p rs)) (sym is)

pub entered-count : (r : Registered) (old new : List Registered) → new ≡ old ++ r ∷ [] → (p : ℕ) → count_of_page p new ≡ cond (r.page == p) (count_of_page p old + 1) (count_of_page p old)
entered-count r old new is p = ap (count_of_page p) is ∙ count-push p r old

-- the statuses that are none of a document's, once one of its own ended
pub unless-step : (doc n : ℕ) (rs new : List Registered) → is_of_document doc (status_of rs n) ≡ true → ((m : ℕ) → status_of new m ≡ cond (n == m) None (status_of rs m))
    → (m : ℕ) → unless_of doc (status_of new m) ≡ unless_of doc (status_of rs m)
unless-step doc n rs new own found m = ap (unless_of doc) (found m) ∙ by_test (n == m) refl
  where
    none : (o : Option Registered) → is_of_document doc o ≡ true → None ≡ unless_of doc o
    none None h = absurd (true≢false (sym h))
    none (Some r) h = sym (ap (λ (b : Bool). cond b None (Some r)) h)

    by_test : (b : Bool) → (n == m) ≡ b → unless_of doc (cond b None (status_of rs m)) ≡ unless_of doc (status_of rs m)
    by_test true e = none (status_of rs m) (ap (λ (i : ℕ). is_of_document doc (status_of rs i)) (sym ((Decides-eqb n m).0 e)) ∙ own)
    by_test false e = refl

pub unless-done : (doc : ℕ) (rs : List Registered) → IsOneOf rs doc None → (m : ℕ) → status_of rs m ≡ unless_of doc (status_of rs m)
unless-done doc rs none m = by_status (status_of rs m) (none m)
  where
    by_status : (o : Option Registered) → is_of_document doc o ≡ false → o ≡ unless_of doc o
    by_status None h = refl
    by_status (Some r) h = sym (ap (λ (b : Bool). cond b None (Some r)) h)
