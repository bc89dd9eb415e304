-- The setting of a pair that is in force.
use Rattle.std.proofs.Common.{◌≡◌, ℕ, ◌≤◌, Bool, true, false, ◌&&◌, ◌∷◌, Option, Some, None, unwrap_or, option_map, option_and_then, refl}
use Rattle.std.specs.Bool.{Decides}
use Rattle.std.specs.Option.{option_or}
use Rattle.pe_store.specs.Pairs.{Pair, is_same_pair}
use Rattle.pe_rules.specs.History.{Step, RepliedHistory, some_if}
use Rattle.pe_rules.specs.Settings.{Setting, holds, stored_by, last_setting, stored_state}
use Rattle.pe_laws.specs.SettingsLaws.{setting_of, leaves_life, IsLifeWithin, in_force}
use Rattle.pe_laws.proofs.Settings.{last-setting-step}
use Rattle.pe_laws.proofs.Lives.{last-within, holds-step, ended-later}

pub stored-in-force : (T : RepliedHistory) (now : ℕ) (p : Pair) → stored_state T now p ≡ option_map (λ x. x.state) (in_force T now p)
unfolding stored_state stored_by in_force
stored-in-force T now p = by_last (last_setting T p)
  where
    by_test : (b : Bool) (x : Setting) → some_if b x.state ≡ option_map (λ (y : Setting). y.state) (some_if b x)
    by_test true x = refl
    by_test false x = refl

    by_last : (o : Option Setting) → option_and_then (λ x. some_if (holds T now x.life) x.state) o ≡ option_map (λ x. x.state) (option_and_then (λ x. some_if (holds T now x.life) x) o)
    by_last None = refl
    by_last (Some x) = by_test (holds T now x.life) x

pub in-force-later : (T : RepliedHistory) (now later : ℕ) (p : Pair) → now ≤ later → in_force T later p ≡ option_and_then (λ x. some_if (holds T later x.life) x) (in_force T now p)
unfolding in_force
in-force-later T now later p le = by_last (last_setting T p)
  where
    by_now : (x : Setting) (b : Bool) → (b ≡ false → holds T later x.life ≡ false) → some_if (holds T later x.life) x ≡ option_and_then (λ (y : Setting). some_if (holds T later y.life) y) (some_if b x)
    by_now x true ends = refl
    by_now x false ends = rw (ends refl) refl

    by_last : (o : Option Setting) → option_and_then (λ x. some_if (holds T later x.life) x) o
        ≡ option_and_then (λ x. some_if (holds T later x.life) x) (option_and_then (λ x. some_if (holds T now x.life) x) o)
    by_last None = refl
    by_last (Some x) = by_now x (holds T now x.life) (ended-later T now later x.life le)

module _ (pairs : (p q : Pair) → Decides (is_same_pair p q) (p ≡ q)) where
  pub in-force-step : (s : Step) (T : RepliedHistory) (now : ℕ) (p : Pair)
      → in_force (s ∷ T) now p ≡ unwrap_or (option_map (λ x. some_if (holds (s ∷ T) now x.life) x) (setting_of s T p)) (option_and_then (λ x. some_if (leaves_life T s x.life) x) (in_force T now p))
  unfolding in_force
  in-force-step s T now p = rw (last-setting-step pairs s T p) (by_set (setting_of s T p))
    where
      by_test : (b : Bool) (x : Setting) → some_if (b && leaves_life T s x.life) x ≡ option_and_then (λ (y : Setting). some_if (leaves_life T s y.life) y) (some_if b x)
      by_test true x = refl
      by_test false x = refl

      by_last : (o : Option Setting) → ((x : Setting) → o ≡ Some x → IsLifeWithin T x.life)
          → option_and_then (λ x. some_if (holds (s ∷ T) now x.life) x) o
          ≡ option_and_then (λ x. some_if (leaves_life T s x.life) x) (option_and_then (λ x. some_if (holds T now x.life) x) o)
      by_last None within = refl
      by_last (Some x) within = rw (holds-step s T now x.life (within x refl)) (by_test (holds T now x.life) x)

      by_set : (o : Option Setting)
          → option_and_then (λ x. some_if (holds (s ∷ T) now x.life) x) (option_or o (last_setting T p))
          ≡ unwrap_or (option_map (λ x. some_if (holds (s ∷ T) now x.life) x) o) (option_and_then (λ x. some_if (leaves_life T s x.life) x) (option_and_then (λ x. some_if (holds T now x.life) x) (last_setting T p)))
      by_set None = by_last (last_setting T p) (last-within pairs T p)
      by_set (Some x) = refl
