-- What the words of the command line ask for, one thing at most.
use Rattle.std.proofs.Common.{◌≡◌, ℕ, List, [], ◌∷◌, Option, Some, None, refl, sym, ap, ◌∙◌, subst}
use Rattle.std.proofs.lemmas.Option.{none-some}
use Rattle.pe_generator.specs.Generated.{generated}
use Rattle.pe_generator.specs.Words.{AsksForScript}
use Rattle.pe_output.specs.OutputText.{output_text}
use Rattle.pe_session.specs.declared.status.Status.{Status}
use Rattle.pe_session.specs.Outcome.{Summarises}
use Rattle.pe_session.specs.Words.{duration_asked}

-- where they ask for a script of their own, they ask for no run
pub script-is-no-run : (seed count : ℕ) (words : List (List ℕ)) → AsksForScript seed count words → duration_asked words ≡ None
unfolding duration_asked
script-is-no-run seed count [] asks = absurd asks
script-is-no-run seed count (verb ∷ []) asks = absurd asks
script-is-no-run seed count (verb ∷ first ∷ []) asks = absurd asks
script-is-no-run seed count (verb ∷ first ∷ second ∷ []) asks = refl
script-is-no-run seed count (verb ∷ first ∷ second ∷ other ∷ rest) asks = absurd asks

-- an answer is not something and nothing
pub not-both : {A : Type 0} (x : A) (o : Option A) → o ≡ Some x → o ≡ None → ⊥
not-both x o some none = none-some x (sym none ∙ some)

abbrev taken-seed : Option (ℕ × ℕ) → ℕ
taken-seed None = 0
taken-seed (Some asked) = asked.0

abbrev taken-count : Option (ℕ × ℕ) → ℕ
taken-count None = 0
taken-count (Some asked) = asked.1

-- they ask for one script
pub one-script : (seed count m n : ℕ) (o : Option (ℕ × ℕ)) → o ≡ Some (m, n) → o ≡ Some (seed, count) → (m ≡ seed) × (n ≡ count)
one-script seed count m n o is asked = let e = sym is ∙ asked in (ap taken-seed e, ap taken-count e)

-- so what is written is the summary of that one
pub one-summary : (seed count m n : ℕ) (status : Status) (old new : Option (List ℕ)) → (m ≡ seed) × (n ≡ count)
    → Summarises status n (output_text 5000 (generated m n)) old new → Summarises status count (output_text 5000 (generated seed count)) old new
one-summary seed count m n status old new same written =
    subst (λ k. Summarises status k (output_text 5000 (generated seed k)) old new) same.1
    (subst (λ k. Summarises status n (output_text 5000 (generated k n)) old new) same.0 written)
