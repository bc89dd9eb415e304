-- The passing of time changes nothing but at due moments.
use Rattle.std.proofs.Common.{◌≡◌, ◌≢◌, ℕ, ◌-◌, Bool, true, false, ◌||◌, List, [], ◌∷◌, ◌++◌, filter, flat_map, Option, Some, None, unwrap_or, option_map, option_and_then, option_to_list, refl, sym, ◌∙◌, ap, arith, cond}
use Rattle.std.specs.Option.{option_or}
use Rattle.std.specs.Bool.{Decides}
use Rattle.std.specs.List.{list_any}
use Rattle.std.proofs.lemmas.Bool.Decides.{nat_tests}
use Rattle.std.proofs.lemmas.List.Folds.{list_any-append}
use Rattle.pe_base.specs.declared.state.State.{State}
use Rattle.pe_base.specs.declared.state.State.TheVariants as state
use Rattle.pe_features.specs.declared.feature.Feature.{Feature}
use Rattle.pe_store.specs.declared.key.Life.{Life}
use Rattle.pe_store.specs.declared.key.Life.TheVariants as life
use Rattle.pe_store.specs.Pairs.{Pair, is_same_pair}
use Rattle.pe_rules.specs.History.{Step, RepliedHistory, some_if, all_answers, clock}
use Rattle.pe_rules.specs.Settings.{Setting, standing_of, setting_by, last_setting, holds, stored_by, stored_state, pair_for}
use Rattle.pe_rules.specs.PermissionState.{permission_state}
use Rattle.pe_rules.specs.Statuses.{Status, live_statuses}
use Rattle.pe_rules.specs.Changes.{is_same_state, change_at, changes_at, changes_before, numbers_above}
use Rattle.pe_laws.specs.DueMoments.{ends_at, lapses, settings_made, is_due, due_moments, MayLapse}
use Rattle.pe_laws.proofs.Settings.{last-setting-step}

-- ---- a moment at which nothing lapses

holds-quiet : (T : RepliedHistory) (now : ℕ) (l : Life) → ends_at now l ≡ false → holds T (now - 1) l ≡ holds T now l
unfolding holds
holds-quiet T now life.Forever h = refl
holds-quiet T now (life.Page d) h = refl
holds-quiet T now (life.Until end) h = grind (arith, nat_tests)

pub stored-quiet : (T : RepliedHistory) (now : ℕ) (p : Pair) → lapses T now p ≡ false → stored_state T (now - 1) p ≡ stored_state T now p
unfolding stored_state stored_by lapses
stored-quiet T now p h = by_setting (last_setting T p) h
  where
    by_setting : (o : Option Setting) → unwrap_or (option_map (λ x. ends_at now x.life) o) false ≡ false
        → option_and_then (λ x. some_if (holds T (now - 1) x.life) x.state) o ≡ option_and_then (λ x. some_if (holds T now x.life) x.state) o
    by_setting None h = refl
    by_setting (Some x) h = rw (holds-quiet T now x.life h) refl

pub state-quiet : (T : RepliedHistory) (now d : ℕ) (f : Feature) → ((p : Pair) → pair_for T d f ≡ Some p → lapses T now p ≡ false)
    → permission_state T (now - 1) d f ≡ permission_state T now d f
unfolding permission_state
state-quiet T now d f quiet = rw (by_pair (pair_for T d f) quiet) refl
  where
    by_pair : (o : Option Pair) → ((p : Pair) → o ≡ Some p → lapses T now p ≡ false) → option_and_then (stored_state T (now - 1)) o ≡ option_and_then (stored_state T now) o
    by_pair None quiet = refl
    by_pair (Some p) quiet = stored-quiet T now p (quiet p refl)

-- the state changes with the moment only where the pair lapses at it
pub changes-at-lapse : (T : RepliedHistory) (now d : ℕ) (f : Feature) → permission_state T (now - 1) d f ≢ permission_state T now d f → MayLapse T now d f
changes-at-lapse T now d f differ = by_pair (pair_for T d f) refl
  where
    by_lapse : (p : Pair) → pair_for T d f ≡ Some p → (b : Bool) → lapses T now p ≡ b → MayLapse T now d f
    by_lapse p is true h = (p, is, h)
    by_lapse p is false h = absurd (differ (state-quiet T now d f (λ q e. let same : p ≡ q = cc in rw (← same) h)))

    by_pair : (o : Option Pair) → pair_for T d f ≡ o → MayLapse T now d f
    by_pair None is = absurd (differ (state-quiet T now d f (λ q e. cc)))
    by_pair (Some p) is = by_lapse p is (lapses T now p) refl

-- ---- a moment that is not due

or-true : (b : Bool) → (b || true) ≡ true
or-true true = refl
or-true false = refl

pub same-state : (a : State) → is_same_state a a ≡ true
same-state state.Granted = refl
same-state state.Denied = refl
same-state state.Prompt = refl

module _ (pairs : (p q : Pair) → Decides (is_same_pair p q) (p ≡ q)) where
  made-step : (s : Step) (T : RepliedHistory) (p : Pair) (test : Pair → Bool) (x : Setting) → test p ≡ true
      → (last_setting T p ≡ Some x → list_any (λ x. test x.pair) (settings_made T) ≡ true) → (o : Option Setting)
      → option_or (option_and_then (λ x. some_if (is_same_pair x.pair p) x) o) (last_setting T p) ≡ Some x
      → (list_any (λ x. test x.pair) (settings_made T) || list_any (λ x. test x.pair) (option_to_list o)) ≡ true
  made-step s T p test x passes older None e = rw (older e) refl
  made-step s T p test x passes older (Some y) e = by_same (is_same_pair y.pair p) refl e
    where
      by_same : (b : Bool) → is_same_pair y.pair p ≡ b → option_or (some_if b y) (last_setting T p) ≡ Some x
          → (list_any (λ x. test x.pair) (settings_made T) || (test y.pair || false)) ≡ true
      by_same true same e = let is : y.pair ≡ p = (pairs y.pair p).0 same in rw (is, passes) (or-true (list_any (λ x. test x.pair) (settings_made T)))
      by_same false same e = rw (older e) refl

  no-last : (p : Pair) (x : Setting) → last_setting [] p ≡ Some x → ⊥
  unfolding last_setting standing_of
  no-last p x h = cc

  -- the last setting of a pair is one of those that were made
  made-last : (T : RepliedHistory) (p : Pair) (test : Pair → Bool) (x : Setting) → test p ≡ true → last_setting T p ≡ Some x
      → list_any (λ x. test x.pair) (settings_made T) ≡ true
  unfolding settings_made all_answers
  made-last [] p test x passes h = absurd (no-last p x h)
  made-last (s ∷ T) p test x passes h =
      list_any-append (λ x. test x.pair) (settings_made T) (option_to_list (setting_by s.time s.event T))
      ∙ made-step s T p test x passes (made-last T p test x passes) (setting_by s.time s.event T) (sym (last-setting-step pairs s T p) ∙ h)

  -- a moment at which a pair lapses is due
  lapse-is-due : (T : RepliedHistory) (moment : ℕ) (p : Pair) → lapses T moment p ≡ true → is_due T moment ≡ true
  unfolding lapses is_due
  lapse-is-due T moment p h = by_setting (last_setting T p) refl h
    where
      by_setting : (o : Option Setting) → last_setting T p ≡ o → unwrap_or (option_map (λ x. ends_at moment x.life) o) false ≡ true
          → list_any (λ x. lapses T moment x.pair) (settings_made T) ≡ true
      by_setting None is e = cc
      by_setting (Some x) is e = made-last T p (λ q. lapses T moment q) x h is

  quiet-moment : (T : RepliedHistory) (moment : ℕ) → is_due T moment ≡ false → (p : Pair) → lapses T moment p ≡ false
  quiet-moment T moment quiet p = by_lapse (lapses T moment p) refl
    where
      by_lapse : (b : Bool) → lapses T moment p ≡ b → lapses T moment p ≡ false
      by_lapse false h = h
      by_lapse true h = let due : is_due T moment ≡ true = lapse-is-due T moment p h in cc

  -- ---- the walk

  no-change : (T : RepliedHistory) (moment : ℕ) → is_due T moment ≡ false → (x : Status) → change_at T moment x ≡ None
  unfolding change_at
  no-change T moment quiet x =
      rw (state-quiet T moment x.document x.feature (λ p is. quiet-moment T moment quiet p), same-state (permission_state T moment x.document x.feature)) refl

  no-changes : (T : RepliedHistory) (moment : ℕ) (xs : List Status) → ((x : Status) → change_at T moment x ≡ None) → flat_map (λ x. option_to_list (change_at T moment x)) xs ≡ []
  no-changes T moment [] none = refl
  no-changes T moment (x ∷ xs) none = rw (none x) (no-changes T moment xs none)

  pub quiet-changes : (T : RepliedHistory) (moment : ℕ) → is_due T moment ≡ false → changes_at T moment ≡ []
  unfolding changes_at
  quiet-changes T moment quiet = no-changes T moment (live_statuses T) (no-change T moment quiet)

  -- what gives nothing may be left out
  flat_map-filter : {A : Type 0} (f : ℕ → List A) (test : ℕ → Bool) (ns : List ℕ) → ((n : ℕ) → test n ≡ false → f n ≡ [])
      → flat_map f ns ≡ flat_map f (filter test ns)
  flat_map-filter f test [] none = refl
  flat_map-filter f test (n ∷ ns) none = by_test (test n) refl (flat_map-filter f test ns none)
    where
      by_test : (b : Bool) → test n ≡ b → flat_map f ns ≡ flat_map f (filter test ns) → f n ++ flat_map f ns ≡ flat_map f (cond b (n ∷ filter test ns) (filter test ns))
      by_test true h rest = ap (λ r. f n ++ r) rest
      by_test false h rest = rw (none n h) rest

  pub walk-due : (T : RepliedHistory) (now : ℕ) → changes_before T now ≡ flat_map (changes_at T) (due_moments T now)
  unfolding changes_before due_moments
  walk-due T now = flat_map-filter (changes_at T) (is_due T) (numbers_above (clock T) (now - clock T)) (quiet-changes T)
