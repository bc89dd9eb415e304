-- The second stamp of a document step by step.
use Rattle.std.proofs.Common.{◌≡◌, ℕ, suc, ◌<◌, ◌≤◌, Bool, true, false, ◌&&◌, nat_le, [], ◌∷◌, length, Option, None, unwrap_or, refl, ◌∙◌, ap, arith, cond}
use Rattle.std.specs.Option.{option_or}
use Rattle.std.proofs.lemmas.Bool.Decides.{nat_tests}
use Rattle.pe_base.specs.declared.input.Stamp.{Stamp}
use Rattle.pe_base.specs.declared.input.Stamp.TheVariants as stamp
use Rattle.pe_base.specs.Activation.{is_history_active}
use Rattle.pe_rules.specs.History.{Step, RepliedHistory, some_if, newest_answer}
use Rattle.pe_rules.specs.Making.{making}
use Rattle.pe_rules.specs.Embedders.{page}
use Rattle.pe_rules.specs.Current.{is_current}
use Rattle.pe_rules.specs.Activation.{stamp_of}
use Rattle.pe_rules.specs.HistoryActivation.{consumes_history, second_stamp_of, has_history_activation}
use Rattle.pe_laws.specs.HistoryActivationLaws.{second_stamp_after}
use Rattle.pe_laws.proofs.Making.{making-beyond}
use Rattle.pe_laws.proofs.Embedders.{page-older}
use Rattle.pe_laws.proofs.Current.{unmade-current}
use Rattle.pe_laws.proofs.Stamps.{unmade-before}

pub second-start : (d : ℕ) → second_stamp_of [] d ≡ stamp.Never
unfolding second_stamp_of newest_answer
second-start d = refl

-- the stamp before the last history action of a page that was allowed while the document was current
abbrev last_taken : RepliedHistory → ℕ → ℕ → Option Stamp
last_taken T top d = newest_answer (λ s B. some_if (consumes_history s B top && is_current B d) (stamp_of B d)) T

and-false : (b : Bool) → (b && false) ≡ false
and-false true = refl
and-false false = refl

taken-unmade : (T : RepliedHistory) (top d : ℕ) → making T d ≡ None → last_taken T top d ≡ None
unfolding newest_answer
taken-unmade [] top d h = refl
taken-unmade (s ∷ T) top d h =
    let before = unmade-before s T d h in
    rw (unmade-current T d before, and-false (consumes_history s T top)) (taken-unmade T top d before)

pub second-unmade : (T : RepliedHistory) (d : ℕ) → making T d ≡ None → second_stamp_of T d ≡ stamp.Never
unfolding second_stamp_of
second-unmade T d h = rw (taken-unmade T (page T d) d h) refl

pub second-beyond : (T : RepliedHistory) (d : ℕ) → length T < d → second_stamp_of T d ≡ stamp.Never
second-beyond T d h = second-unmade T d (making-beyond T d h)

-- no step acts on the history for what was not made before it
taken-past : (s : Step) (T : RepliedHistory) (top d : ℕ) → making T d ≡ None → last_taken (s ∷ T) top d ≡ None
unfolding newest_answer
taken-past s T top d h = rw (unmade-current T d h, and-false (consumes_history s T top)) (taken-unmade T top d h)

second-past : (s : Step) (T : RepliedHistory) (d : ℕ) → making T d ≡ None → second_stamp_of (s ∷ T) d ≡ stamp.Never
unfolding second_stamp_of
second-past s T d h = rw (taken-past s T (page (s ∷ T) d) d h) refl

pub second-newest : (s : Step) (T : RepliedHistory) → second_stamp_of (s ∷ T) (suc (length T)) ≡ stamp.Never
second-newest s T = second-past s T (suc (length T)) (making-beyond T (suc (length T)) (omega arith))

taken-step : (s : Step) (T : RepliedHistory) (top d : ℕ)
    → unwrap_or (last_taken (s ∷ T) top d) stamp.Never ≡ cond (consumes_history s T top && is_current T d) (stamp_of T d) (unwrap_or (last_taken T top d) stamp.Never)
unfolding newest_answer
taken-step s T top d = by_test (consumes_history s T top && is_current T d)
  where
    by_test : (b : Bool) → unwrap_or (option_or (some_if b (stamp_of T d)) (last_taken T top d)) stamp.Never ≡ cond b (stamp_of T d) (unwrap_or (last_taken T top d) stamp.Never)
    by_test true = refl
    by_test false = refl

second-older : (s : Step) (T : RepliedHistory) (d : ℕ) → d ≤ length T → second_stamp_of (s ∷ T) d ≡ second_stamp_after s T d (second_stamp_of T d)
unfolding second_stamp_of
second-older s T d h = ap (λ top. unwrap_or (last_taken (s ∷ T) top d) stamp.Never) (page-older s T d h) ∙ taken-step s T (page T d) d

pub second-step : (s : Step) (T : RepliedHistory) (d : ℕ) → second_stamp_of (s ∷ T) d ≡ second_stamp_after s T d (second_stamp_of T d)
second-step s T d = by_place (nat_le d (length T)) refl
  where
    by_place : (b : Bool) → nat_le d (length T) ≡ b → second_stamp_of (s ∷ T) d ≡ second_stamp_after s T d (second_stamp_of T d)
    by_place true is = second-older s T d (grind (arith, nat_tests))
    by_place false is =
        let past : length T < d = grind (arith, nat_tests) in
        let none : making T d ≡ None = making-beyond T d past in
        rw (second-past s T d none, second-beyond T d past, unmade-current T d none, and-false (consumes_history s T (page T d))) refl

pub active-by-stamps : (T : RepliedHistory) (d : ℕ) → has_history_activation T d ≡ is_history_active (stamp_of T d) (second_stamp_of T d)
unfolding has_history_activation
active-by-stamps T d = refl
