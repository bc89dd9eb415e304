-- What is seen of the structures.
use Rattle.std.proofs.Common.{◌≡◌, ℕ, ◌+◌, ◌<◌, ◌≤◌, Bool, true, false, cond, List, [], ◌∷◌, ◌++◌, Option, Some, None, is_some, is_none, refl, sym, ap, subst, ◌∙◌, arith, true≢false}
use Rattle.std.specs.Prelude.{option_and_then, IfSome, ◌^◌}
use Rattle.pe_base.specs.declared.limits.TheConstants.{STATUS_LIMIT, EVENT_LIMIT}
use Rattle.pe_counts.specs.Counts.{count_of}
use Rattle.pe_store.specs.Numbers.{number_of}
use Rattle.std.specs.Bool.{Decides}
use Rattle.pe_store.specs.Pairs.{Pair, is_same_pair}
use Rattle.pe_status.specs.declared.giving.Given.{Given}
use Rattle.pe_status.specs.declared.index.Index.{Index}
use Rattle.pe_status.specs.declared.registered.Registered.{Registered}
use Rattle.pe_status.specs.declared.registered.ReleaseFault.TheVariants.{Unknown, Closed}
use Rattle.pe_status.specs.Registry.{Registry, pair_of, AreBelow, status_of, release_fault, count_of_page, without, IsInOrder, AreRising}
use Rattle.pe_status.specs.Places.{value_at, is_taken}
use Rattle.pe_status.specs.Kept.{numbers, pair_given, live_rows, IsIndex, IsOneOf, IsFirstOf, IsAlike, IsWith, IsWithout, number_for, is_of_document}
use Rattle.pe_status.proofs.Listed.{nos}
use Rattle.pe_status.proofs.Live.{was-given, live-same, given-none}
use Rattle.pe_status.proofs.Keeping.{rising, found, without-none, kept-alike, kept-with, kept-without, live-with, live-without}

-- what contracts see
abbrev pub seen : List Given → Index → Registry
seen gs x = record { live = live_rows (value_at x.rows) gs; given = numbers gs }

module _ (gs : List Given) (x : Index) (k : IsIndex gs x) where
  order-seen : IsInOrder (seen gs x).live
  unfolding IsInOrder
  order-seen = rising k

  pub order : (s : Registry) → seen gs x ≡ s → IsInOrder s.live
  order s view = subst (λ (t : Registry). IsInOrder t.live) view order-seen

  unknown-seen : (n : ℕ) → pair_given gs n ≡ None → Some Unknown ≡ release_fault (seen gs x) n
  unknown-seen n none = sym (ap (λ (b : Bool). cond b (cond (is_none (status_of (seen gs x).live n)) (Some Closed) None) (Some Unknown)) (was-given gs n ∙ ap is_some none))

  given-seen : (n g : ℕ) (o : Option Registered) → pair_given gs n ≡ Some g → value_at x.rows g n ≡ o → cond (is_none o) (Some Closed) None ≡ release_fault (seen gs x) n
  given-seen n g o some value =
      sym (ap (λ (b : Bool). cond b (cond (is_none (status_of (seen gs x).live n)) (Some Closed) None) (Some Unknown)) (was-given gs n ∙ ap is_some some)
      ∙ ap (λ (p : Option Registered). cond (is_none p) (Some Closed) None) (found k n ∙ ap (option_and_then (λ p. value_at x.rows p n)) some ∙ value))

  pub unknown-fault : (s : Registry) → seen gs x ≡ s → (n : ℕ) → pair_given gs n ≡ None → Some Unknown ≡ release_fault s n
  unknown-fault s view n none = unknown-seen n none ∙ ap (λ (t : Registry). release_fault t n) view

  pub closed-fault : (s : Registry) → seen gs x ≡ s → (n g : ℕ) → pair_given gs n ≡ Some g → value_at x.rows g n ≡ None → Some Closed ≡ release_fault s n
  closed-fault s view n g some none = given-seen n g None some none ∙ ap (λ (t : Registry). release_fault t n) view

  pub no-fault : (s : Registry) → seen gs x ≡ s → (n g : ℕ) (r : Registered) → pair_given gs n ≡ Some g → value_at x.rows g n ≡ Some r → None ≡ release_fault s n
  no-fault s view n g r some value = given-seen n g (Some r) some value ∙ ap (λ (t : Registry). release_fault t n) view

  pub status-found : (s : Registry) → seen gs x ≡ s → (n g : ℕ) (o : Option Registered) → pair_given gs n ≡ Some g → value_at x.rows g n ≡ o → status_of s.live n ≡ o
  status-found s view n g o some value =
      ap (λ (t : Registry). status_of t.live n) (sym view) ∙ found k n ∙ ap (option_and_then (λ p. value_at x.rows p n)) some ∙ value

  pub status-none : (s : Registry) → seen gs x ≡ s → (n : ℕ) → pair_given gs n ≡ None → status_of s.live n ≡ None
  status-none s view n none = ap (λ (t : Registry). status_of t.live n) (sym view) ∙ found k n ∙ ap (option_and_then (λ p. value_at x.rows p n)) none

  -- where no status has the number, nothing ends
  pub none-ends : (s : Registry) → seen gs x ≡ s → (n : ℕ) → status_of s.live n ≡ None → s.live ≡ without n s.live
  none-ends s view n none = sym (without-none n s.live (subst (λ (t : Registry). AreRising (nos t.live)) view (rising k)) none)

  pub first-seen : (s : Registry) → seen gs x ≡ s → (doc : ℕ) (o : Option ℕ) → IsFirstOf x.owned doc o → IsOneOf s.live doc o
  first-seen s view doc None h = λ n. ap (λ (t : Registry). is_of_document doc (status_of t.live n)) (sym view) ∙ sym (k.owning doc n) ∙ h n
  first-seen s view doc (Some n) h = ap (λ (t : Registry). is_of_document doc (status_of t.live n)) (sym view) ∙ sym (k.owning doc n) ∙ h

-- whether the status of a number ended
pub true-fault : (gs : List Given) (x : Index) → IsIndex gs x → (s : Registry) → seen gs x ≡ s → (n g : ℕ) → pair_given gs n ≡ Some g → is_some (value_at x.rows g n) ≡ true → None ≡ release_fault s n
true-fault gs x k s view n g some e = by_row (value_at x.rows g n) refl e
  where
    by_row : (o : Option Registered) → value_at x.rows g n ≡ o → is_some o ≡ true → None ≡ release_fault s n
    by_row None f h = absurd (true≢false (sym h))
    by_row (Some r) f h = no-fault gs x k s view n g r some f

pub false-fault : (gs : List Given) (x : Index) → IsIndex gs x → (s : Registry) → seen gs x ≡ s → (n g : ℕ) → pair_given gs n ≡ Some g → is_some (value_at x.rows g n) ≡ false → Some Closed ≡ release_fault s n
false-fault gs x k s view n g some e = by_row (value_at x.rows g n) refl e
  where
    by_row : (o : Option Registered) → value_at x.rows g n ≡ o → is_some o ≡ false → Some Closed ≡ release_fault s n
    by_row None f h = closed-fault gs x k s view n g some f
    by_row (Some r) f h = absurd (true≢false h)

-- nothing is kept at first
kept-nothing : (x : Index) → ((g n : ℕ) → value_at x.rows g n ≡ None) → ((q : Pair) → number_of x.pairs q ≡ None) → ((d n : ℕ) → is_taken x.owned d n ≡ false) → ((p : ℕ) → count_of x.pages p ≡ 0) → IsIndex [] x
unfolding status_of count_of_page
kept-nothing x rows pairs owned pages = record {
  rising = tt;
  placed = λ g n r e. absurd (nothing r (sym (rows g n) ∙ e));
  apart = λ a b g ea eb. absurd (nothing g (sym (pairs a) ∙ ea));
  known = λ a g e. absurd (nothing g (sym (pairs a) ∙ e));
  owning = owned;
  counted = pages;
  few = λ p. let h = pages p in omega (arith, h);
}
  where
    nothing : {A : Type 0} (y : A) → None ≡ Some y → ⊥
    nothing y e = cc

pub empty-index : (gs : List Given) (x : Index) → gs ≡ [] → ((g n : ℕ) → value_at x.rows g n ≡ None) → ((q : Pair) → number_of x.pairs q ≡ None) → ((d n : ℕ) → is_taken x.owned d n ≡ false) → ((p : ℕ) → count_of x.pages p ≡ 0)
    → IsIndex gs x
empty-index gs x none rows pairs owned pages = subst (λ (hs : List Given). IsIndex hs x) (sym none) (kept-nothing x rows pairs owned pages)

-- the number of a pair has a next one
pub group-fits : (gs : List Given) (x : Index) → IsIndex gs x → (q : Pair) (o : Option ℕ) → o ≡ number_of x.pairs q → IfSome o (λ g. g + 1 < 2 ^ 64)
group-fits gs x k q None e = tt
group-fits gs x k q (Some g) e = fits g (k.known q g (sym e)).small
  where
    fits : (m : ℕ) → m ≤ EVENT_LIMIT → m + 1 < 2 ^ 64
    fits m le = omega (arith, le)

pub row-group-fits : (gs : List Given) (x : Index) → IsIndex gs x → (g n : ℕ) → IfSome (value_at x.rows g n) (λ r. g + 1 < 2 ^ 64)
row-group-fits gs x k g n = by_row (value_at x.rows g n) refl
  where
    fits : (m : ℕ) → m ≤ EVENT_LIMIT → m + 1 < 2 ^ 64
    fits m le = omega (arith, le)

    by_row : (o : Option Registered) → value_at x.rows g n ≡ o → IfSome o (λ r. g + 1 < 2 ^ 64)
    by_row None e = tt
    by_row (Some r) e = fits g (k.known (pair_of r) g (k.placed g n r e).pair).small

pub row-owns : (gs : List Given) (x : Index) → IsIndex gs x → (g n : ℕ) → IfSome (value_at x.rows g n) (λ r. r.no ≡ n)
row-owns gs x k g n = by_row (value_at x.rows g n) refl
  where
    by_row : (o : Option Registered) → value_at x.rows g n ≡ o → IfSome o (λ r. r.no ≡ n)
    by_row None e = tt
    by_row (Some r) e = (k.placed g n r e).no

pub alike-index : (gs : List Given) (x y : Index) → IsIndex gs x → IsAlike x y → IsIndex gs y
alike-index gs x y k a = kept-alike a.left.rows a.pairs a.left.owned a.left.pages k

module _ (same : (p q : Pair) → Decides (is_same_pair p q) (p ≡ q)) (gs : List Given) (x y : Index) (k : IsIndex gs x) where
  -- a status ends
  ended : (g n : ℕ) (o : Option Registered) → value_at x.rows g n ≡ o → IfSome o (λ r. IsWithout r g x y) → (o ≡ None → IsAlike x y) → IsIndex gs y
  ended g n None e w a = alike-index gs x y k (a refl)
  ended g n (Some r) e w a =
      kept-without same k r g (ap (value_at x.rows g) (k.placed g n r e).no ∙ e) w.rows w.pairs.others w.pairs.own w.pairs.kept w.owned w.pages

  pub ended-index : (g n : ℕ) → IfSome (value_at x.rows g n) (λ r. IsWithout r g x y) → (value_at x.rows g n ≡ None → IsAlike x y) → IsIndex gs y
  ended-index g n w a = ended g n (value_at x.rows g n) refl w a

  live-ended : (g n : ℕ) → pair_given gs n ≡ Some g → (o : Option Registered) → value_at x.rows g n ≡ o → IfSome o (λ r. IsWithout r g x y) → (o ≡ None → IsAlike x y)
      → live_rows (value_at y.rows) gs ≡ without n (live_rows (value_at x.rows) gs)
  live-ended g n given None e w a =
      live-same (value_at x.rows) (value_at y.rows) (a refl).left.rows gs
      ∙ sym (without-none n (live_rows (value_at x.rows) gs) (rising k) (found k n ∙ ap (option_and_then (λ p. value_at x.rows p n)) given ∙ e))
  live-ended g n given (Some r) e w a =
      live-without same k r g (ap (value_at x.rows g) (k.placed g n r e).no ∙ e) w.rows w.pairs.others w.pairs.own w.pairs.kept w.owned w.pages
      ∙ ap (λ (m : ℕ). without m (live_rows (value_at x.rows) gs)) (k.placed g n r e).no

  pub ended-live : (s : Registry) → seen gs x ≡ s → (g n : ℕ) → pair_given gs n ≡ Some g → IfSome (value_at x.rows g n) (λ r. IsWithout r g x y) → (value_at x.rows g n ≡ None → IsAlike x y)
      → live_rows (value_at y.rows) gs ≡ without n s.live
  ended-live s view g n given w a = live-ended g n given (value_at x.rows g n) refl w a ∙ ap (λ (t : Registry). without n t.live) view

  -- a status is registered
  module _ (r : Registered) (g : ℕ) (below : AreBelow r.no (numbers gs)) (small : r.no ≤ EVENT_LIMIT) (room : count_of x.pages r.page < STATUS_LIMIT) (group : g ≡ number_for x r) (w : IsWith r g x y) where
    pub entered-index : (items : List Given) → items ≡ gs ++ record { no = r.no; pair = g } ∷ [] → IsIndex items y
    entered-index items is =
        subst (λ (hs : List Given). IsIndex hs y) (sym is) (kept-with same k r g below small room group w.put.rows w.pairs w.put.owned w.put.pages)

    pub entered-live : (s : Registry) → seen gs x ≡ s → (items : List Given) → items ≡ gs ++ record { no = r.no; pair = g } ∷ [] → live_rows (value_at y.rows) items ≡ s.live ++ r ∷ []
    entered-live s view items is =
        ap (live_rows (value_at y.rows)) is ∙ live-with same k r g below small room group w.put.rows w.pairs w.put.owned w.put.pages
        ∙ ap (λ (t : Registry). t.live ++ r ∷ []) view

pub unowned : (gs : List Given) (x : Index) → IsIndex gs x → (doc n : ℕ) → AreBelow n (numbers gs) → is_taken x.owned doc n ≡ false
unowned gs x k doc n below =
    k.owning doc n ∙ ap (is_of_document doc) (found k n ∙ ap (option_and_then (λ p. value_at x.rows p n)) (given-none gs n below))
