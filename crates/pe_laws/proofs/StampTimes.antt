-- The times of stamps in a regular history.
use Rattle.std.proofs.Common.{◌≡◌, ℕ, ◌≤◌, Bool, true, false, nat_lt, [], ◌∷◌, sym, ◌∙◌, ap, arith, cond}
use Rattle.std.proofs.lemmas.Bool.Decides.{nat_tests}
use Rattle.pe_base.specs.declared.input.Stamp.{Stamp}
use Rattle.pe_base.specs.declared.input.Stamp.TheVariants as stamp
use Rattle.pe_rules.specs.History.{Step, RepliedHistory, History, clock}
use Rattle.pe_rules.specs.Embedders.{page}
use Rattle.pe_rules.specs.Activation.{activates, consumes, stamp_of}
use Rattle.pe_rules.specs.Replies.{replied, is_regular}
use Rattle.pe_laws.specs.ActivationLaws.{consumed_stamp}
use Rattle.pe_laws.proofs.Steps.{regular-step}
use Rattle.pe_laws.proofs.Shown.{accepted-faultless}
use Rattle.pe_laws.proofs.Stamps.{stamp-start, stamp-step}

-- the time of a stamp, or another one
abbrev time_or : Stamp → ℕ → ℕ
time_or (stamp.At time) other = time
time_or x other = other

not-at : (x : Stamp) (time : ℕ) → consumed_stamp x ≡ stamp.At time → ⊥
not-at stamp.Never time h = cc
not-at stamp.Consumed time h = cc
not-at (stamp.At t) time h = cc

-- the time of a stamp after a step that is not before the clock
time-step : (s : Step) (T : RepliedHistory) (d time : ℕ) → clock T ≤ s.time → (stamp_of T d ≡ stamp.At time → time ≤ clock T) → stamp_of (s ∷ T) d ≡ stamp.At time → time ≤ s.time
time-step s T d time le older h = by_tests (activates s.event T d) (consumes s T (page T d)) (sym (stamp-step s T d) ∙ h)
  where
    by_tests : (b c : Bool) → cond b (stamp.At s.time) (cond c (consumed_stamp (stamp_of T d)) (stamp_of T d)) ≡ stamp.At time → time ≤ s.time
    by_tests true c e = let same : s.time ≡ time = ap (λ x. time_or x time) e in omega arith
    by_tests false true e = absurd (not-at (stamp_of T d) time e)
    by_tests false false e = omega (arith, older e)

pub stamp-time : (duration : ℕ) (H : History) (d time : ℕ) → is_regular duration H ≡ true → stamp_of (replied duration H) d ≡ stamp.At time → time ≤ clock (replied duration H)
unfolding replied clock
stamp-time duration [] d time regular h = let no : stamp.Never ≡ stamp.At time = sym (stamp-start d) ∙ h in cc
stamp-time duration (e ∷ H) d time regular h =
    let w = regular-step duration e H regular in
    let fine = accepted-faultless duration H e w.1 in
    let late : nat_lt e.time (clock (replied duration H)) ≡ false = fine.in_time in
    let le : clock (replied duration H) ≤ e.time = grind (arith, nat_tests) in
    time-step _ (replied duration H) d time le (stamp-time duration H d time w.0) h
