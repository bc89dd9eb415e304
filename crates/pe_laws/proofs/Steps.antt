-- The steps of a history by their positions.
use Rattle.std.proofs.Common.{◌≡◌, ◌≢◌, ℕ, suc, ◌≤◌, Bool, true, false, ◌==◌, [], ◌∷◌, length, Some, refl, ap, arith}
use Rattle.std.specs.Option.{option_or}
use Rattle.pe_events.specs.Timed.{Timed}
use Rattle.pe_rules.specs.History.{Step, RepliedHistory, History, some_if, newest_answer, clock, step_at, steps_since}
use Rattle.pe_rules.specs.Replies.{step_answer, replied, accepts, is_regular}
use Rattle.pe_laws.proofs.Lists.{both}
use Rattle.pe_laws.proofs.Numbers.{not_same, is_same, same-numbers, is_within, is_not_within}

pub told-start : (duration : ℕ) → replied duration [] ≡ []
unfolding replied
told-start duration = refl

pub told-step : (duration : ℕ) (e : Timed) (H : History)
    → replied duration (e ∷ H) ≡ record { time = e.time; event = e.event; item = step_answer duration (replied duration H) e.time e.event } ∷ replied duration H
unfolding replied
told-step duration e H = refl

pub told-length : (duration : ℕ) (H : History) → length (replied duration H) ≡ length H
unfolding replied
told-length duration [] = refl
told-length duration (e ∷ H) = ap suc (told-length duration H)

pub clock-start : clock [] ≡ 0
unfolding clock
clock-start = refl

pub clock-step : (s : Step) (T : RepliedHistory) → clock (s ∷ T) ≡ s.time
unfolding clock
clock-step s T = refl

pub step-other : (s : Step) (T : RepliedHistory) (k : ℕ) → k ≢ suc (length T) → step_at (s ∷ T) k ≡ step_at T k
unfolding step_at newest_answer
step-other s T k ne = rw (not_same k (suc (length T)) ne) refl

pub step-older : (s : Step) (T : RepliedHistory) (k : ℕ) → k ≤ length T → step_at (s ∷ T) k ≡ step_at T k
step-older s T k h = step-other s T k (omega arith)

pub step-newest : (s : Step) (T : RepliedHistory) → step_at (s ∷ T) (suc (length T)) ≡ Some (s, T)
unfolding step_at newest_answer
step-newest s T = rw (is_same (suc (length T))) refl

pub step-position : (T : RepliedHistory) (k : ℕ) (a : Step × RepliedHistory) → step_at T k ≡ Some a → (suc (length a.1) ≡ k) × (k ≤ length T)
unfolding step_at newest_answer
step-position [] k a h = cc
step-position (s ∷ T) k a h = by_test (k == suc (length T)) refl (step-position T k a) h
  where
    by_test : (b : Bool) → (k == suc (length T)) ≡ b → (step_at T k ≡ Some a → (suc (length a.1) ≡ k) × (k ≤ length T))
        → option_or (some_if b (s, T)) (step_at T k) ≡ Some a → (suc (length a.1) ≡ k) × (k ≤ suc (length T))
    by_test true is older e =
        let here : k ≡ suc (length T) = same-numbers k (suc (length T)) is in
        let at : ◌≡◌ {A = Step × RepliedHistory} (s, T) a = cc in
        let size : length T ≡ length a.1 = ap (λ (x : Step × RepliedHistory). length x.1) at in
        (omega arith, omega arith)
    by_test false is older e = let w = older e in (w.0, omega (arith, w.1))

pub since-newest : (T : RepliedHistory) (k : ℕ) → length T ≤ k → steps_since T k ≡ []
unfolding steps_since
since-newest [] k h = refl
since-newest (s ∷ T) k h = rw (is_within k (suc (length T)) h) refl

pub since-older : (s : Step) (T : RepliedHistory) (k : ℕ) → k ≤ length T → steps_since (s ∷ T) k ≡ s ∷ steps_since T k
unfolding steps_since
since-older s T k h = rw (is_not_within k (length T) h) refl

pub regular-step : (duration : ℕ) (e : Timed) (H : History) → is_regular duration (e ∷ H) ≡ true → (is_regular duration H ≡ true) × (accepts duration H e ≡ true)
unfolding is_regular
regular-step duration e H h = both (is_regular duration H) (accepts duration H e) h
