-- What stands for a pair step by step.
use Rattle.std.proofs.Common.{◌≡◌, ◌≢◌, ◌⊎◌, inl, inr, ℕ, ◌+◌, ◌<◌, Bool, true, false, ◌&&◌, ◌==◌, nat_le, [], ◌∷◌, Option, Some, None, is_some, unwrap_or, option_map, option_and_then, refl, sym, ◌∙◌, ap, arith, subst, cond}
use Rattle.std.specs.Bool.{Decides}
use Rattle.std.specs.Option.{option_or}
use Rattle.std.proofs.lemmas.Bool.Decides.{nat_tests}
use Rattle.pe_base.specs.declared.limits.TheConstants.{EMBARGO_DISMISSALS}
use Rattle.pe_store.specs.Pairs.{Pair, is_same_pair}
use Rattle.pe_events.specs.declared.event.Event.TheVariants as event
use Rattle.pe_events.specs.declared.event.EventLife.{EventLife}
use Rattle.pe_events.specs.declared.event.Outcome.TheVariants as outcome
use Rattle.pe_rules.specs.History.{Step, RepliedHistory, some_if}
use Rattle.pe_rules.specs.Settings.{Setting, Standing, prompt_pair, setting_named, setting_by, dismissed_pair, is_pair, counts, completes_embargo, embargo, embargo_for, after_dismissal, after_unnamed, after_step, standing_of, dismissals}
use Rattle.pe_laws.specs.SettingsLaws.{setting_of, is_dismissed, standing_anew, standing_dismissed}
use Rattle.pe_laws.proofs.Settings.{of_pair, apart}

-- ---- fewer dismissals stand than make an embargo

few-after : (time : ℕ) (p : Pair) (before : Standing) → before.dismissals < EMBARGO_DISMISSALS → (after_dismissal time p before).dismissals < EMBARGO_DISMISSALS
few-after time p before few = by_test (completes_embargo before) refl
  where
    by_test : (b : Bool) → completes_embargo before ≡ b
        → (cond {A = Standing} b (record { last = Some (embargo time p); dismissals = 0 }) (record { last = before.last; dismissals = before.dismissals + 1 })).dismissals < EMBARGO_DISMISSALS
    by_test true is = omega arith
    by_test false is = grind (arith, nat_tests)

few-step : (s : Step) (T : RepliedHistory) (p : Pair) (before : Standing) → before.dismissals < EMBARGO_DISMISSALS → (after_step s T p before).dismissals < EMBARGO_DISMISSALS
unfolding after_step after_unnamed
few-step s T p before few = by_named (of_pair p (setting_named s.time s.event T))
  where
    by_dismissed : (b : Bool) → (cond {A = Standing} b (after_dismissal s.time p before) before).dismissals < EMBARGO_DISMISSALS
    by_dismissed true = few-after s.time p before few
    by_dismissed false = few

    by_named : (o : Option Setting)
        → (unwrap_or (option_map standing_anew o) (cond (is_pair (dismissed_pair s.event T) p && counts T s.time before) (after_dismissal s.time p before) before)).dismissals < EMBARGO_DISMISSALS
    by_named None = by_dismissed (is_pair (dismissed_pair s.event T) p && counts T s.time before)
    by_named (Some x) = omega arith

few : (T : RepliedHistory) (p : Pair) → (standing_of T p).dismissals < EMBARGO_DISMISSALS
unfolding standing_of
few [] p = omega arith
few (s ∷ T) p = few-step s T p (standing_of T p) (few T p)

pub dismissals-below : (T : RepliedHistory) (p : Pair) → dismissals T p < EMBARGO_DISMISSALS
unfolding dismissals
dismissals-below T p = few T p

-- ---- the embargo

pub setting-dismissed : (time prompt : ℕ) (given : EventLife) (T : RepliedHistory)
    → setting_by time (event.Answered prompt outcome.Dismiss given) T ≡ option_and_then (embargo_for time T) (prompt_pair T prompt)
unfolding setting_by setting_named
setting-dismissed time prompt given T = refl

last-wanted : (n : ℕ) → n < EMBARGO_DISMISSALS → nat_le EMBARGO_DISMISSALS (n + 1) ≡ (n + 1 == EMBARGO_DISMISSALS)
last-wanted n h = by_test (nat_le EMBARGO_DISMISSALS (n + 1)) refl
  where
    by_test : (b : Bool) → nat_le EMBARGO_DISMISSALS (n + 1) ≡ b → b ≡ (n + 1 == EMBARGO_DISMISSALS)
    by_test true is = grind (arith, nat_tests)
    by_test false is = grind (arith, nat_tests)

pub embargo-is : (time : ℕ) (T : RepliedHistory) (p : Pair) → embargo_for time T p ≡ some_if (counts T time (standing_of T p) && dismissals T p + 1 == EMBARGO_DISMISSALS) (embargo time p)
unfolding embargo_for dismissals
embargo-is time T p = ap (λ b. some_if (counts T time (standing_of T p) && b) (embargo time p)) (last-wanted (standing_of T p).dismissals (few T p))

-- ---- one step

module _ (pairs : (p q : Pair) → Decides (is_same_pair p q) (p ≡ q)) where
  same : (p : Pair) → is_same_pair p p ≡ true
  same p = (pairs p p).1 refl

  other : (p q : Pair) → p ≢ q → is_same_pair p q ≡ false
  other p q ne = by_test (is_same_pair p q) refl
    where
      by_test : (b : Bool) → is_same_pair p q ≡ b → b ≡ false
      by_test false is = refl
      by_test true is = absurd (ne ((pairs p q).0 is))

  -- what the step makes of what stood, by the setting and the dismissal
  abbrev anew : Pair → Option Setting → Bool → Standing → Standing
  anew p o dismissed before = unwrap_or (option_map standing_anew (of_pair p o)) (cond dismissed (standing_dismissed before) before)

  -- the dismissal that counts, by the embargo or as one more
  here : (time : ℕ) (p : Pair) (before : Standing) (c : Bool)
      → cond {A = Standing} c (after_dismissal time p before) before ≡ anew p (some_if (c && completes_embargo before) (embargo time p)) c before
  here time p before false = refl
  here time p before true = by_count (completes_embargo before)
    where
      by_count : (k : Bool) → cond {A = Standing} k (record { last = Some (embargo time p); dismissals = 0 }) (record { last = before.last; dismissals = before.dismissals + 1 })
          ≡ anew p (some_if k (embargo time p)) true before
      by_count true = rw (same p) refl
      by_count false = refl

  there : (time : ℕ) (p q : Pair) (before : Standing) (c : Bool) → is_same_pair q p ≡ false → before ≡ anew p (some_if c (embargo time q)) false before
  there time p q before true is = rw is refl
  there time p q before false is = refl

  by-dismissal : (s : Step) (T : RepliedHistory) (p q : Pair)
      → cond {A = Standing} (is_same_pair q p && counts T s.time (standing_of T p)) (after_dismissal s.time p (standing_of T p)) (standing_of T p)
      ≡ anew p (embargo_for s.time T q) (is_same_pair q p && counts T s.time (standing_of T p)) (standing_of T p)
  unfolding embargo_for
  by-dismissal s T p q = by_same (is_same_pair q p) refl
    where
      by_same : (b : Bool) → is_same_pair q p ≡ b
          → cond {A = Standing} (b && counts T s.time (standing_of T p)) (after_dismissal s.time p (standing_of T p)) (standing_of T p)
          ≡ anew p (some_if (counts T s.time (standing_of T q) && completes_embargo (standing_of T q)) (embargo s.time q)) (b && counts T s.time (standing_of T p)) (standing_of T p)
      by_same false is = there s.time p q (standing_of T p) (counts T s.time (standing_of T q) && completes_embargo (standing_of T q)) is
      by_same true is = let one : p ≡ q = sym ((pairs q p).0 is) in
          subst (λ (r : Pair). cond {A = Standing} (counts T s.time (standing_of T p)) (after_dismissal s.time p (standing_of T p)) (standing_of T p)
          ≡ anew p (some_if (counts T s.time (standing_of T r) && completes_embargo (standing_of T r)) (embargo s.time r)) (counts T s.time (standing_of T p)) (standing_of T p))
          one (here s.time p (standing_of T p) (counts T s.time (standing_of T p)))

  pub standing-step : (s : Step) (T : RepliedHistory) (p : Pair)
      → standing_of (s ∷ T) p ≡ unwrap_or (option_map standing_anew (setting_of s T p)) (cond (is_dismissed s T p) (standing_dismissed (standing_of T p)) (standing_of T p))
  unfolding standing_of after_step after_unnamed setting_by
  standing-step s T p = by_way (setting_named s.time s.event T) (dismissed_pair s.event T) (apart s.time s.event T)
    where
      by_way : (named : Option Setting) (dismissed : Option Pair) → (named ≡ None) ⊎ (dismissed ≡ None)
          → unwrap_or (option_map standing_anew (of_pair p named)) (cond (is_pair dismissed p && counts T s.time (standing_of T p)) (after_dismissal s.time p (standing_of T p)) (standing_of T p))
          ≡ anew p (option_or named (option_and_then (embargo_for s.time T) dismissed)) (is_pair dismissed p && counts T s.time (standing_of T p)) (standing_of T p)
      by_way None None way = refl
      by_way (Some x) None way = refl
      by_way None (Some q) way = by-dismissal s T p q
      by_way (Some x) (Some q) (inl clash) = cc
      by_way (Some x) (Some q) (inr clash) = cc

  pub dismissals-step : (s : Step) (T : RepliedHistory) (p : Pair)
      → dismissals (s ∷ T) p ≡ cond (is_some (setting_of s T p)) 0 (cond (is_dismissed s T p) (dismissals T p + 1) (dismissals T p))
  unfolding dismissals
  dismissals-step s T p = ap (λ (x : Standing). x.dismissals) (standing-step s T p) ∙ by_set (setting_of s T p) (is_dismissed s T p)
    where
      by_set : (o : Option Setting) (b : Bool)
          → (unwrap_or (option_map standing_anew o) (cond b (standing_dismissed (standing_of T p)) (standing_of T p))).dismissals
          ≡ cond (is_some o) 0 (cond b ((standing_of T p).dismissals + 1) (standing_of T p).dismissals)
      by_set (Some x) b = refl
      by_set None true = refl
      by_set None false = refl

  pub standing-set : (s : Step) (T : RepliedHistory) (x : Setting) → setting_by s.time s.event T ≡ Some x → standing_of (s ∷ T) x.pair ≡ standing_anew x
  standing-set s T x is = standing-step s T x.pair ∙ rw (is, same x.pair) refl

  -- the setting of an embargo is one of the pair that is dismissed
  of-embargo : (time : ℕ) (T : RepliedHistory) (q : Pair) (x : Setting) → embargo_for time T q ≡ Some x → q ≡ x.pair
  unfolding embargo_for
  of-embargo time T q x e = by_test (counts T time (standing_of T q) && completes_embargo (standing_of T q)) e
    where
      by_test : (b : Bool) → some_if b (embargo time q) ≡ Some x → q ≡ x.pair
      by_test true e = ap (λ (o : Option Setting). unwrap_or (option_map (λ (y : Setting). y.pair) o) q) e
      by_test false e = cc

  -- a step that makes a setting of one pair dismisses no other
  undismissed-beside : (s : Step) (T : RepliedHistory) (x : Setting) (p : Pair) → setting_by s.time s.event T ≡ Some x → x.pair ≢ p → is_pair (dismissed_pair s.event T) p ≡ false
  unfolding setting_by
  undismissed-beside s T x p is ne = by_way (setting_named s.time s.event T) (dismissed_pair s.event T) (apart s.time s.event T) is
    where
      by_way : (named : Option Setting) (dismissed : Option Pair) → (named ≡ None) ⊎ (dismissed ≡ None)
          → option_or named (option_and_then (embargo_for s.time T) dismissed) ≡ Some x → is_pair dismissed p ≡ false
      by_way named None way e = refl
      by_way None (Some q) way e = other q p (λ same. ne (sym (of-embargo s.time T q x e) ∙ same))
      by_way (Some y) (Some q) (inl clash) e = cc
      by_way (Some y) (Some q) (inr clash) e = cc

  pub standing-beside : (s : Step) (T : RepliedHistory) (x : Setting) (p : Pair) → setting_by s.time s.event T ≡ Some x → x.pair ≢ p → standing_of (s ∷ T) p ≡ standing_of T p
  standing-beside s T x p is ne = standing-step s T p ∙ rw (is, other x.pair p ne, undismissed-beside s T x p is ne) refl

  pub standing-undismissed : (s : Step) (T : RepliedHistory) (q p : Pair) → dismissed_pair s.event T ≡ Some q → q ≢ p → standing_of (s ∷ T) p ≡ standing_of T p
  unfolding standing_of after_step after_unnamed
  standing-undismissed s T q p is ne = by_way (setting_named s.time s.event T) (apart s.time s.event T)
    where
      by_way : (named : Option Setting) → (named ≡ None) ⊎ (dismissed_pair s.event T ≡ None)
          → unwrap_or (option_map standing_anew (of_pair p named)) (cond (is_pair (dismissed_pair s.event T) p && counts T s.time (standing_of T p)) (after_dismissal s.time p (standing_of T p)) (standing_of T p)) ≡ standing_of T p
      by_way None way = rw (is, other q p ne) refl
      by_way (Some y) (inl clash) = cc
      by_way (Some y) (inr clash) = let no : ◌≡◌ {A = Option Pair} (Some q) None = sym is ∙ clash in cc
