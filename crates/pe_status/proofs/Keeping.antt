-- The structures say the same of the statuses after each change.
use Rattle.std.proofs.Common.{◌≡◌, ℕ, ◌+◌, ◌-◌, ◌<◌, ◌≤◌, Bool, true, false, cond, not, ◌||◌, ◌&&◌, List, [], ◌∷◌, ◌++◌, Option, Some, None, refl, sym, ap, subst, ◌∙◌, arith, true≢false}
use Rattle.std.specs.Prelude.{◌==◌, filter, option_and_then, unwrap_or}
use Rattle.std.specs.Bool.{Decides}
use Rattle.std.proofs.lemmas.Bool.Decides.{nat_tests, Decides-eqb}
use Rattle.pe_base.specs.declared.limits.TheConstants.{STATUS_LIMIT, EVENT_LIMIT}
use Rattle.pe_store.specs.Pairs.{Pair, is_same_pair}
use Rattle.pe_status.specs.declared.giving.Given.{Given}
use Rattle.pe_status.specs.declared.registered.Registered.{Registered}
use Rattle.pe_status.specs.Registry.{pair_of, status_of, count_of_page, was_given, without, without_document, AreBelow, AreRising}
use Rattle.pe_status.specs.Kept.{numbers, pair_given, live_rows, is_of_document, IsPlaced, IsKnown, IsKept, IsOneOf}
use Rattle.std.specs.List.{cons_option}
use Rattle.pe_status.proofs.Listed.{nos, kept, self-test, later-test, found-no, found-filter, found-push, rising-filter, same-statuses}
use Rattle.pe_status.proofs.Live.{row_of, below-live, given-none, given-below, given-push, rising-push, numbers-push, given-later, given-last, not-given, rising-live, found-live, live-same, live-before, live-push}
use Rattle.pe_status.proofs.Pages.{count-push, count-without}

module _ {gs : List Given} {at : ℕ → ℕ → Option Registered} {number : Pair → Option ℕ} {owned : ℕ → ℕ → Bool} {count : ℕ → ℕ} (k : IsKept gs at number owned count) where
  -- what stands under a number has it
  pub own-number : (g n : ℕ) (r : Registered) → at g n ≡ Some r → r.no ≡ n
  own-number g n r e = (k.placed g n r e).no

  pub rising : AreRising (nos (live_rows at gs))
  rising = rising-live at own-number gs k.rising

  pub found : (n : ℕ) → status_of (live_rows at gs) n ≡ row_of at gs n
  found n = found-live at own-number gs n k.rising

  -- what stands somewhere is the live status of its number
  pub found-at : (g n : ℕ) (r : Registered) → at g n ≡ Some r → status_of (live_rows at gs) n ≡ Some r
  found-at g n r e = found n ∙ ap (option_and_then (λ p. at p n)) (k.placed g n r e).given ∙ e

-- structures that say the same of each status are kept alike
pub kept-alike : {gs : List Given} {at to : ℕ → ℕ → Option Registered} {number named : Pair → Option ℕ} {owned holds : ℕ → ℕ → Bool} {count counts : ℕ → ℕ}
    → ((g n : ℕ) → to g n ≡ at g n) → ((x : Pair) → named x ≡ number x) → ((d n : ℕ) → holds d n ≡ owned d n) → ((p : ℕ) → counts p ≡ count p)
    → IsKept gs at number owned count → IsKept gs to named holds counts
kept-alike {gs} {at} {to} {number} {named} {owned} {holds} {count} {counts} rows pairs owns pages k = record {
  rising = k.rising;
  placed = λ g n r e. let p = k.placed g n r (sym (rows g n) ∙ e) in record { no = p.no; pair = pairs (pair_of r) ∙ p.pair; given = p.given };
  apart = λ x y g ex ey. k.apart x y g (sym (pairs x) ∙ ex) (sym (pairs y) ∙ ey);
  known = λ x g e. k.known x g (sym (pairs x) ∙ e);
  owning = λ d n. owns d n ∙ k.owning d n ∙ ap (λ (rs : List Registered). is_of_document d (status_of rs n)) (sym (live-same at to rows gs));
  counted = λ p. pages p ∙ k.counted p ∙ ap (count_of_page p) (sym (live-same at to rows gs));
  few = λ p. rw (pages p) (k.few p);
}

and-none : (b c : Bool) → c ≡ false → (b && c) ≡ false
and-none true c h = h
and-none false c h = refl

and-parts : (b c : Bool) → (b && c) ≡ true → (b ≡ true) × (c ≡ true)
and-parts true c h = (refl, h)
and-parts false c h = absurd (true≢false (sym h))

other-turned : (a b : ℕ) → (a == b) ≡ false → (b == a) ≡ false
other-turned a b h = grind (arith, nat_tests)

-- structures with one status more
module _ {gs : List Given} {at to : ℕ → ℕ → Option Registered} {number named : Pair → Option ℕ} {owned holds : ℕ → ℕ → Bool} {count counts : ℕ → ℕ}
    (same : (x y : Pair) → Decides (is_same_pair x y) (x ≡ y)) (k : IsKept gs at number owned count) (r : Registered) (g : ℕ)
    (below : AreBelow r.no (numbers gs)) (small : r.no ≤ EVENT_LIMIT) (room : count r.page < STATUS_LIMIT) (group : g ≡ unwrap_or (number (pair_of r)) r.no)
    (rows : (a n : ℕ) → to a n ≡ cond (g == a && r.no == n) (Some r) (at a n))
    (pairs : (x : Pair) → named x ≡ cond (is_same_pair (pair_of r) x) (Some g) (number x))
    (owns : (d n : ℕ) → holds d n ≡ (r.doc.doc == d && r.no == n) || owned d n)
    (pages : (p : ℕ) → counts p ≡ cond (r.page == p) (count p + 1) (count p)) where
  abbrev last : Given
  last = record { no = r.no; pair = g }

  to-here : to g r.no ≡ Some r
  to-here = rows g r.no ∙ ap (λ (b : Bool). cond b (Some r) (at g r.no)) (ap (λ (b : Bool). b && (r.no == r.no)) (self-test g) ∙ self-test r.no)

  to-before : (a n : ℕ) → n < r.no → to a n ≡ at a n
  to-before a n lt = rows a n ∙ ap (λ (b : Bool). cond b (Some r) (at a n)) (and-none (g == a) (r.no == n) (later-test r.no n lt))

  pub live-with : live_rows to (gs ++ last ∷ []) ≡ live_rows at gs ++ r ∷ []
  live-with =
      live-push to gs last ∙ ap (λ (rs : List Registered). rs ++ cons_option (to g r.no) []) (live-before at to r.no to-before gs below)
      ∙ ap (λ (o : Option Registered). live_rows at gs ++ cons_option o []) to-here

  -- the number was that of the status's pair alone
  fresh : (y : Pair) → number y ≡ Some g → pair_of r ≡ y
  fresh y e = by_number (number (pair_of r)) refl group
    where
      by_number : (o : Option ℕ) → number (pair_of r) ≡ o → g ≡ unwrap_or o r.no → pair_of r ≡ y
      by_number None f is = absurd (not-given (numbers gs) r.no below (ap (was_given (numbers gs)) (sym is) ∙ (k.known y g e).given))
      by_number (Some p) f is = k.apart (pair_of r) y g (f ∙ ap Some (sym is)) e

  placed-with : (a n : ℕ) (s : Registered) → to a n ≡ Some s → IsPlaced (gs ++ last ∷ []) named a n s
  placed-with a n s e = by_test (g == a && r.no == n) refl (sym (rows a n) ∙ e)
    where
      new : a ≡ g → n ≡ r.no → s ≡ r → IsPlaced (gs ++ last ∷ []) named a n s
      new ia in' is = record {
        no = ap (λ (x : Registered). x.no) is ∙ sym in';
        pair = ap (λ (x : Registered). named (pair_of x)) is ∙ pairs (pair_of r) ∙ ap (λ (b : Bool). cond b (Some g) (number (pair_of r))) ((same (pair_of r) (pair_of r)).1 refl) ∙ ap Some (sym ia);
        given = given-push last gs n below ∙ ap (λ (b : Bool). cond b (Some g) (pair_given gs n)) ((Decides-eqb r.no n).1 (sym in')) ∙ ap Some (sym ia);
      }

      named-old : (b : Bool) → is_same_pair (pair_of r) (pair_of s) ≡ b → number (pair_of s) ≡ Some a → cond b (Some g) (number (pair_of s)) ≡ Some a
      named-old true f p = ap Some (group ∙ ap (λ (o : Option ℕ). unwrap_or o r.no) (ap number ((same (pair_of r) (pair_of s)).0 f) ∙ p))
      named-old false f p = p

      old : IsPlaced gs number a n s → IsPlaced (gs ++ last ∷ []) named a n s
      old p = record {
        no = p.no;
        pair = pairs (pair_of s) ∙ named-old (is_same_pair (pair_of r) (pair_of s)) refl p.pair;
        given = given-push last gs n below ∙ ap (λ (b : Bool). cond b (Some g) (pair_given gs n)) (later-test r.no n (given-below gs r.no n a below p.given)) ∙ p.given;
      }

      by_test : (b : Bool) → (g == a && r.no == n) ≡ b → cond b (Some r) (at a n) ≡ Some s → IsPlaced (gs ++ last ∷ []) named a n s
      by_test true f h =
          let parts = and-parts (g == a) (r.no == n) f in
          let is : s ≡ r = cc in
          new (sym ((Decides-eqb g a).0 parts.0)) (sym ((Decides-eqb r.no n).0 parts.1)) is
      by_test false f h = old (k.placed a n s h)

  apart-with : (x y : Pair) (a : ℕ) → named x ≡ Some a → named y ≡ Some a → x ≡ y
  apart-with x y a ex ey = by_tests (is_same_pair (pair_of r) x) refl (is_same_pair (pair_of r) y) refl (sym (pairs x) ∙ ex) (sym (pairs y) ∙ ey)
    where
      by_tests : (b : Bool) → is_same_pair (pair_of r) x ≡ b → (c : Bool) → is_same_pair (pair_of r) y ≡ c
          → cond b (Some g) (number x) ≡ Some a → cond c (Some g) (number y) ≡ Some a → x ≡ y
      by_tests true e true f hx hy = sym ((same (pair_of r) x).0 e) ∙ (same (pair_of r) y).0 f
      by_tests true e false f hx hy = sym ((same (pair_of r) x).0 e) ∙ fresh y (hy ∙ sym hx)
      by_tests false e true f hx hy = sym (fresh x (hx ∙ sym hy)) ∙ (same (pair_of r) y).0 f
      by_tests false e false f hx hy = k.apart x y a hx hy

  known-with : (x : Pair) (a : ℕ) → named x ≡ Some a → IsKnown (gs ++ last ∷ []) a
  known-with x a e = by_test (is_same_pair (pair_of r) x) (sym (pairs x) ∙ e)
    where
      given : was_given (numbers gs ++ r.no ∷ []) a ≡ true → was_given (numbers (gs ++ last ∷ [])) a ≡ true
      given h = ap (λ (ns : List ℕ). was_given ns a) (numbers-push gs last) ∙ h

      later : IsKnown gs a → IsKnown (gs ++ last ∷ []) a
      later h = record { given = given (given-later (numbers gs) r.no a h.given); small = h.small }

      by_number : (o : Option ℕ) → number (pair_of r) ≡ o → a ≡ unwrap_or o r.no → IsKnown (gs ++ last ∷ []) a
      by_number None f is = record { given = given (ap (was_given (numbers gs ++ r.no ∷ [])) is ∙ given-last (numbers gs) r.no); small = omega (arith, is, small) }
      by_number (Some p) f is = later (k.known (pair_of r) a (f ∙ ap Some (sym is)))

      by_test : (b : Bool) → cond b (Some g) (number x) ≡ Some a → IsKnown (gs ++ last ∷ []) a
      by_test true h =
          let is : a ≡ g = cc in
          by_number (number (pair_of r)) refl (is ∙ group)
      by_test false h = later (k.known x a h)

  owning-with : (d n : ℕ) → holds d n ≡ is_of_document d (status_of (live_rows to (gs ++ last ∷ [])) n)
  owning-with d n =
      owns d n ∙ ap (λ (b : Bool). (r.doc.doc == d && r.no == n) || b) (k.owning d n)
      ∙ by_test (r.no == n) refl (r.doc.doc == d) refl
      ∙ ap (is_of_document d) (sym (found-push r (live_rows at gs) n (below-live at (own-number k) gs r.no below)))
      ∙ ap (λ (rs : List Registered). is_of_document d (status_of rs n)) (sym live-with)
    where
      none : r.no ≡ n → status_of (live_rows at gs) n ≡ None
      none is = found k n ∙ ap (option_and_then (λ p. at p n)) (ap (pair_given gs) (sym is) ∙ given-none gs r.no below)

      by_test : (b : Bool) → (r.no == n) ≡ b → (c : Bool) → (r.doc.doc == d) ≡ c
          → (c && b) || is_of_document d (status_of (live_rows at gs) n) ≡ is_of_document d (cond b (Some r) (status_of (live_rows at gs) n))
      by_test true e true f = sym f
      by_test true e false f = ap (is_of_document d) (none ((Decides-eqb r.no n).0 e)) ∙ sym f
      by_test false e true f = refl
      by_test false e false f = refl

  pub kept-with : IsKept (gs ++ last ∷ []) to named holds counts
  kept-with = record {
    rising = subst AreRising (sym (numbers-push gs last)) (rising-push (numbers gs) r.no k.rising below);
    placed = placed-with;
    apart = apart-with;
    known = known-with;
    owning = owning-with;
    counted = λ p.
        pages p ∙ ap (λ (m : ℕ). cond (r.page == p) (m + 1) m) (k.counted p) ∙ sym (count-push p r (live_rows at gs)) ∙ ap (count_of_page p) (sym live-with);
    few = λ p. by_page p (r.page == p) refl (pages p) (k.few p);
  }
    where
      by_page : (p : ℕ) (b : Bool) → (r.page == p) ≡ b → counts p ≡ cond b (count p + 1) (count p) → count p ≤ STATUS_LIMIT → counts p ≤ STATUS_LIMIT
      by_page p true e h le =
          let is : count r.page ≡ count p = ap count ((Decides-eqb r.page p).0 e) in
          omega (arith, is, h, room)
      by_page p false e h le = omega (arith, h, le)

-- structures with one status less
module _ {gs : List Given} {at to : ℕ → ℕ → Option Registered} {number named : Pair → Option ℕ} {owned holds : ℕ → ℕ → Bool} {count counts : ℕ → ℕ}
    (same : (x y : Pair) → Decides (is_same_pair x y) (x ≡ y)) (k : IsKept gs at number owned count) (r : Registered) (g : ℕ) (here : at g r.no ≡ Some r)
    (rows : (a n : ℕ) → to a n ≡ cond (g == a && r.no == n) None (at a n))
    (others : (x : Pair) → is_same_pair (pair_of r) x ≡ false → named x ≡ number x)
    (own : (n : ℕ) (s : Registered) → to g n ≡ Some s → (x : Pair) → named x ≡ number x)
    (still : (x : Pair) (a : ℕ) → named x ≡ Some a → number x ≡ Some a)
    (owns : (d n : ℕ) → holds d n ≡ cond (r.doc.doc == d && r.no == n) false (owned d n))
    (pages : (p : ℕ) → counts p ≡ cond (r.page == p) (count p - 1) (count p)) where
  to-old : (a n : ℕ) (s : Registered) → to a n ≡ Some s → at a n ≡ Some s
  to-old a n s e = by_test (g == a && r.no == n) (sym (rows a n) ∙ e)
    where
      by_test : (b : Bool) → cond b None (at a n) ≡ Some s → at a n ≡ Some s
      by_test true h = absurd cc
      by_test false h = h

  own-to : (a n : ℕ) (s : Registered) → to a n ≡ Some s → s.no ≡ n
  own-to a n s e = own-number k a n s (to-old a n s e)

  abbrev stays : Registered → Bool
  stays s = not (s.no == r.no)

  stays-other : (n : ℕ) (s : Registered) → s.no ≡ n → (r.no == n) ≡ false → stays s ≡ true
  stays-other n s is e = ap not (ap (λ (m : ℕ). m == r.no) is ∙ other-turned r.no n e)

  leaves : stays r ≡ false
  leaves = ap not (self-test r.no)

  -- what is found under each number
  left : (n : ℕ) → kept stays (status_of (live_rows at gs) n) ≡ cond (r.no == n) None (status_of (live_rows at gs) n)
  left n = by_test (r.no == n) refl
    where
      by_status : (r.no == n) ≡ false → (o : Option Registered) → status_of (live_rows at gs) n ≡ o → kept stays o ≡ o
      by_status e None f = refl
      by_status e (Some s) f = ap (λ (b : Bool). cond b (Some s) None) (stays-other n s (found-no (live_rows at gs) n s f) e)

      by_test : (b : Bool) → (r.no == n) ≡ b → kept stays (status_of (live_rows at gs) n) ≡ cond b None (status_of (live_rows at gs) n)
      by_test true e =
          ap (λ (m : ℕ). kept stays (status_of (live_rows at gs) m)) (sym ((Decides-eqb r.no n).0 e))
          ∙ ap (kept stays) (found-at k g r.no r here) ∙ ap (λ (b : Bool). cond b (Some r) None) leaves
      by_test false e = by_status e (status_of (live_rows at gs) n) refl

  found-to : (n : ℕ) → status_of (live_rows to gs) n ≡ cond (r.no == n) None (status_of (live_rows at gs) n)
  found-to n = found-live to own-to gs n k.rising ∙ by_test (r.no == n) refl ∙ ap (cond (r.no == n) None) (sym (found k n))
    where
      same-group : (a : ℕ) → r.no ≡ n → pair_given gs n ≡ Some a → a ≡ g
      same-group a is e = let f = (k.placed g r.no r here).given in let h = ap (pair_given gs) is in cc

      gone : r.no ≡ n → (o : Option ℕ) → pair_given gs n ≡ o → option_and_then (λ p. to p n) o ≡ None
      gone is None e = refl
      gone is (Some a) e =
          rows a n ∙ ap (λ (b : Bool). cond b None (at a n)) (ap (λ (b : Bool). b && (r.no == n)) ((Decides-eqb g a).1 (sym (same-group a is e))) ∙ (Decides-eqb r.no n).1 is)

      stay : (r.no == n) ≡ false → (o : Option ℕ) → option_and_then (λ p. to p n) o ≡ option_and_then (λ p. at p n) o
      stay e None = refl
      stay e (Some a) = rows a n ∙ ap (λ (b : Bool). cond b None (at a n)) (and-none (g == a) (r.no == n) e)

      by_test : (b : Bool) → (r.no == n) ≡ b → row_of to gs n ≡ cond b None (row_of at gs n)
      by_test true e = gone ((Decides-eqb r.no n).0 e) (pair_given gs n) refl
      by_test false e = stay e (pair_given gs n)

  pub live-without : live_rows to gs ≡ without r.no (live_rows at gs)
  unfolding without
  live-without =
      same-statuses (live_rows to gs) (filter stays (live_rows at gs)) (rising-live to own-to gs k.rising) (rising-filter stays (live_rows at gs) (rising k))
      (λ n. found-to n ∙ sym (left n) ∙ sym (found-filter stays (live_rows at gs) n (rising k)))

  placed-without : (a n : ℕ) (s : Registered) → to a n ≡ Some s → IsPlaced gs named a n s
  placed-without a n s e =
      let p = k.placed a n s (to-old a n s e) in
      record { no = p.no; pair = by_test (is_same_pair (pair_of r) (pair_of s)) refl p; given = p.given }
    where
      by_test : (b : Bool) → is_same_pair (pair_of r) (pair_of s) ≡ b → IsPlaced gs number a n s → named (pair_of s) ≡ Some a
      by_test true f p =
          let pair : pair_of r ≡ pair_of s = (same (pair_of r) (pair_of s)).0 f in
          let mine : number (pair_of r) ≡ Some g = (k.placed g r.no r here).pair in
          let theirs : number (pair_of s) ≡ Some a = p.pair in
          let one : a ≡ g = group a mine (ap number pair ∙ theirs) in
          own n s (ap (λ (c : ℕ). to c n) (sym one) ∙ e) (pair_of s) ∙ theirs
        where
          group : (c : ℕ) → number (pair_of r) ≡ Some g → number (pair_of r) ≡ Some c → c ≡ g
          group c x y = let z = sym x ∙ y in cc
      by_test false f p = others (pair_of s) f ∙ p.pair

  owning-without : (d n : ℕ) → holds d n ≡ is_of_document d (status_of (live_rows to gs) n)
  owning-without d n =
      owns d n ∙ ap (λ (b : Bool). cond (r.doc.doc == d && r.no == n) false b) (k.owning d n)
      ∙ by_test (r.no == n) refl (r.doc.doc == d) refl ∙ ap (is_of_document d) (sym (found-to n))
    where
      mine : r.no ≡ n → is_of_document d (status_of (live_rows at gs) n) ≡ (r.doc.doc == d)
      mine is = ap (λ (m : ℕ). is_of_document d (status_of (live_rows at gs) m)) (sym is) ∙ ap (is_of_document d) (found-at k g r.no r here)

      by_test : (b : Bool) → (r.no == n) ≡ b → (c : Bool) → (r.doc.doc == d) ≡ c
          → cond (c && b) false (is_of_document d (status_of (live_rows at gs) n)) ≡ is_of_document d (cond b None (status_of (live_rows at gs) n))
      by_test true e true f = refl
      by_test true e false f = mine ((Decides-eqb r.no n).0 e) ∙ f
      by_test false e true f = refl
      by_test false e false f = refl

  pub kept-without : IsKept gs to named holds counts
  kept-without = record {
    rising = k.rising;
    placed = placed-without;
    apart = λ x y a ex ey. k.apart x y a (still x a ex) (still y a ey);
    known = λ x a e. k.known x a (still x a e);
    owning = owning-without;
    counted = λ p. by_page p (r.page == p) (pages p) (k.counted p) (count-without p r.no r (live_rows at gs) (rising k) (found-at k g r.no r here)) ∙ ap (count_of_page p) (sym live-without);
    few = λ p. fewer p (r.page == p) (pages p) (k.few p);
  }
    where
      by_page : (p : ℕ) (b : Bool) → counts p ≡ cond b (count p - 1) (count p) → count p ≡ count_of_page p (live_rows at gs)
          → count_of_page p (live_rows at gs) ≡ cond b (count_of_page p (without r.no (live_rows at gs)) + 1) (count_of_page p (without r.no (live_rows at gs)))
          → counts p ≡ count_of_page p (without r.no (live_rows at gs))
      by_page p true h c w = omega (arith, h, c, w)
      by_page p false h c w = h ∙ c ∙ w

      fewer : (p : ℕ) (b : Bool) → counts p ≡ cond b (count p - 1) (count p) → count p ≤ STATUS_LIMIT → counts p ≤ STATUS_LIMIT
      fewer p true h le = omega (arith, h, le)
      fewer p false h le = omega (arith, h, le)

-- where no status has the number, none is gone without it
pub without-none : (n : ℕ) (rs : List Registered) → AreRising (nos rs) → status_of rs n ≡ None → without n rs ≡ rs
unfolding without
without-none n rs rising none =
    same-statuses (filter stays rs) rs (rising-filter stays rs rising) rising (λ m. found-filter stays rs m rising ∙ by_status m (status_of rs m) refl)
  where
    stays : Registered → Bool
    stays s = not (s.no == n)

    by_status : (m : ℕ) (o : Option Registered) → status_of rs m ≡ o → kept stays o ≡ o
    by_status m None e = refl
    by_status m (Some s) e = by_test (s.no == n) refl
      where
        by_test : (b : Bool) → (s.no == n) ≡ b → cond (not b) (Some s) None ≡ Some s
        by_test true f =
            let is = (Decides-eqb s.no n).0 f in
            let own = found-no rs m s e in
            let there : status_of rs n ≡ Some s = ap (status_of rs) (sym is ∙ own) ∙ e in
            absurd cc
        by_test false f = refl

-- the statuses without those of a document are the same without one of them
pub document-step : (doc n : ℕ) (rs : List Registered) → AreRising (nos rs) → is_of_document doc (status_of rs n) ≡ true → without_document doc (without n rs) ≡ without_document doc rs
unfolding without without_document
document-step doc n rs rising own =
    same-statuses (filter others (filter stays rs)) (filter others rs) (rising-filter others (filter stays rs) (rising-filter stays rs rising)) (rising-filter others rs rising)
    (λ m. found-filter others (filter stays rs) m (rising-filter stays rs rising) ∙ ap (kept others) (found-filter stays rs m rising) ∙ by_status m (status_of rs m) refl ∙ sym (found-filter others rs m rising))
  where
    stays : Registered → Bool
    stays s = not (s.no == n)

    others : Registered → Bool
    others s = not (s.doc.doc == doc)

    by_status : (m : ℕ) (o : Option Registered) → status_of rs m ≡ o → kept others (kept stays o) ≡ kept others o
    by_status m None e = refl
    by_status m (Some s) e = by_test (s.no == n) refl
      where
        by_test : (b : Bool) → (s.no == n) ≡ b → kept others (cond (not b) (Some s) None) ≡ kept others (Some s)
        by_test true f =
            let is = (Decides-eqb s.no n).0 f in
            let mine = found-no rs m s e in
            let there : is_of_document doc (status_of rs n) ≡ (s.doc.doc == doc) = ap (is_of_document doc) (ap (status_of rs) (sym is ∙ mine) ∙ e) in
            sym (ap (λ (b : Bool). cond (not b) (Some s) None) (sym there ∙ own))
        by_test false f = refl

pub document-done : (doc : ℕ) (rs : List Registered) → AreRising (nos rs) → IsOneOf rs doc None → without_document doc rs ≡ rs
unfolding without_document
document-done doc rs rising none =
    same-statuses (filter others rs) rs (rising-filter others rs rising) rising (λ m. found-filter others rs m rising ∙ by_status m (status_of rs m) refl)
  where
    others : Registered → Bool
    others s = not (s.doc.doc == doc)

    by_status : (m : ℕ) (o : Option Registered) → status_of rs m ≡ o → kept others o ≡ o
    by_status m None e = refl
    by_status m (Some s) e = ap (λ (b : Bool). cond (not b) (Some s) None) (ap (is_of_document doc) (sym e) ∙ none m)
