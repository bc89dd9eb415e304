-- The last setting of a pair after a step, also where it is that of an embargo.
use Rattle.std.proofs.Common.{◌≡◌, ◌⊎◌, inl, inr, ℕ, ◌+◌, Bool, true, false, ◌&&◌, ◌∷◌, Option, Some, None, unwrap_or, option_map, option_and_then, refl, sym, subst, cond}
use Rattle.std.specs.Bool.{Decides}
use Rattle.std.specs.Option.{option_or}
use Rattle.pe_store.specs.Pairs.{Pair, is_same_pair}
use Rattle.pe_events.specs.declared.event.Event.{Event}
use Rattle.pe_events.specs.declared.event.Event.TheVariants as event
use Rattle.pe_events.specs.declared.event.Outcome.TheVariants as outcome
use Rattle.pe_rules.specs.History.{Step, RepliedHistory, some_if}
use Rattle.pe_rules.specs.Settings.{Setting, Standing, setting_named, setting_by, dismissed_pair, is_pair, counts, completes_embargo, embargo, embargo_for, after_dismissal, after_unnamed, after_step, standing_of, last_setting}

-- the setting, where it is one of this pair
abbrev pub of_pair : Pair → Option Setting → Option Setting
of_pair p o = option_and_then (λ x. some_if (is_same_pair x.pair p) x) o

-- a dismissal names no setting
pub apart : (time : ℕ) (e : Event) (B : RepliedHistory) → (setting_named time e B ≡ None) ⊎ (dismissed_pair e B ≡ None)
unfolding setting_named
apart time (event.Answered prompt outcome.Dismiss given) B = inl refl
apart time e B = inr refl

-- the last setting of what stands
abbrev last_of : Standing → Option Setting
last_of x = x.last

module _ (pairs : (p q : Pair) → Decides (is_same_pair p q) (p ≡ q)) where
  -- what stands for the pair has this last setting
  abbrev after : Step → RepliedHistory → Pair → Standing → Option Setting → Option Pair → Standing
  after s T p before named dismissed =
      unwrap_or (option_map (λ x. record { last = Some x; dismissals = 0 }) (of_pair p named))
      (cond (is_pair dismissed p && counts T s.time before) (after_dismissal s.time p before) before)

  by-name : (s : Step) (T : RepliedHistory) (p : Pair) (named : Option Setting)
      → (after s T p (standing_of T p) named None).last ≡ option_or (of_pair p (option_or named None)) (standing_of T p).last
  by-name s T p None = refl
  by-name s T p (Some x) = by_same (is_same_pair x.pair p)
    where
      by_same : (b : Bool)
          → last_of (unwrap_or (option_map (λ x. record { last = Some x; dismissals = 0 }) (some_if b x)) (standing_of T p)) ≡ option_or (some_if b x) (standing_of T p).last
      by_same true = refl
      by_same false = refl

  same : (p : Pair) → is_same_pair p p ≡ true
  same p = (pairs p p).1 refl

  by-dismissal : (s : Step) (T : RepliedHistory) (p q : Pair)
      → (after s T p (standing_of T p) None (Some q)).last ≡ option_or (of_pair p (embargo_for s.time T q)) (standing_of T p).last
  unfolding embargo_for
  by-dismissal s T p q = by_same (is_same_pair q p) refl
    where
      -- the pair that is dismissed is this one
      here : (before : Standing) (c : Bool)
          → (cond {A = Standing} c (after_dismissal s.time p before) before).last ≡ option_or (of_pair p (some_if (c && completes_embargo before) (embargo s.time p))) before.last
      here before true = by_count (completes_embargo before)
        where
          by_count : (k : Bool)
              → (cond {A = Standing} k (record { last = Some (embargo s.time p); dismissals = 0 }) (record { last = before.last; dismissals = before.dismissals + 1 })).last
              ≡ option_or (of_pair p (some_if k (embargo s.time p))) before.last
          by_count true = rw (same p) refl
          by_count false = refl
      here before false = refl

      -- it is another one
      there : (before : Standing) (b c : Bool) → is_same_pair q p ≡ false → before.last ≡ option_or (of_pair p (some_if c (embargo s.time q))) before.last
      there before b true is = rw is refl
      there before b false is = refl

      by_same : (b : Bool) → is_same_pair q p ≡ b
          → (cond {A = Standing} (b && counts T s.time (standing_of T p)) (after_dismissal s.time p (standing_of T p)) (standing_of T p)).last
          ≡ option_or (of_pair p (some_if (counts T s.time (standing_of T q) && completes_embargo (standing_of T q)) (embargo s.time q))) (standing_of T p).last
      by_same true is = let one : p ≡ q = sym ((pairs q p).0 is) in
          subst (λ (r : Pair). (cond {A = Standing} (counts T s.time (standing_of T p)) (after_dismissal s.time p (standing_of T p)) (standing_of T p)).last
          ≡ option_or (of_pair p (some_if (counts T s.time (standing_of T r) && completes_embargo (standing_of T r)) (embargo s.time r))) (standing_of T p).last)
          one (here (standing_of T p) (counts T s.time (standing_of T p)))
      by_same false is = there (standing_of T p) false (counts T s.time (standing_of T q) && completes_embargo (standing_of T q)) is

  -- a setting of the pair that the step makes, by name or as an embargo, else the last one before
  pub last-setting-step : (s : Step) (T : RepliedHistory) (p : Pair) → last_setting (s ∷ T) p ≡ option_or (of_pair p (setting_by s.time s.event T)) (last_setting T p)
  unfolding last_setting standing_of after_step after_unnamed setting_by
  last-setting-step s T p = by_way (setting_named s.time s.event T) (dismissed_pair s.event T) (apart s.time s.event T)
    where
      by_way : (named : Option Setting) (dismissed : Option Pair) → (named ≡ None) ⊎ (dismissed ≡ None)
          → (after s T p (standing_of T p) named dismissed).last ≡ option_or (of_pair p (option_or named (option_and_then (embargo_for s.time T) dismissed))) (standing_of T p).last
      by_way named None way = by-name s T p named
      by_way None (Some q) way = by-dismissal s T p q
      by_way (Some x) (Some q) (inl clash) = cc
      by_way (Some x) (Some q) (inr clash) = cc
