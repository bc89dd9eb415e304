-- The table of bytes has each class.
use Rattle.std.proofs.Common.{◌≡◌, ℕ, zero, suc, ◌<◌, Bool, true, false, not, get_or, bit_and, refl, sym, subst, arith}
use Rattle.std.specs.Prelude.{◌==◌, ◌&&◌, if◌then◌else◌}
use Rattle.std.proofs.lemmas.Bool.{eqb-true}
use Rattle.std.proofs.lemmas.Bool.Decides.{nat_tests}
use Rattle.pe_fields.specs.declared.class.Class.{Class}
use Rattle.pe_fields.specs.declared.class.Class.TheVariants.{Space, White, Digit, Key, Token, Unescaped, Base64}
use Rattle.pe_fields.specs.declared.class.TheConstants.{CLASSES}
use Rattle.pe_fields.specs.Classes.{is_in, bit_of}

-- each number below this one passes the test
all_below : ℕ → (ℕ → Bool) → Bool
all_below zero p = true
all_below (suc n) p = p n && all_below n p

both : (a b : Bool) → (a && b) ≡ true → (a ≡ true) × (b ≡ true)
both true b h = (refl, h)
both false b h = cc

last_or_below : (n : ℕ) (p : ℕ → Bool) (b : ℕ) (t : Bool) → (b == n) ≡ t → p n ≡ true → (b < n → p b ≡ true) → b < suc n → p b ≡ true
last_or_below n p b true e last below lt = subst (λ k. p k ≡ true) (sym (eqb-true b n e)) last
last_or_below n p b false e last below lt = below (grind (arith, nat_tests))

each_below : (n : ℕ) (p : ℕ → Bool) → all_below n p ≡ true → (b : ℕ) → b < n → p b ≡ true
unfolding all_below
each_below zero p h b lt = absurd (omega (arith, lt))
each_below (suc n) p h b lt =
    let (last, below) = both (p n) (all_below n p) h in
    last_or_below n p b (b == n) refl last (each_below n p below b) lt

-- the table gives the byte this class
abbrev pub has_bit : Class → ℕ → Bool
has_bit class b = not (bit_and (get_or CLASSES b 0) (bit_of class) == 0)

same_truth : Bool → Bool → Bool
same_truth a b = if a then b else not b

truths_are_one : (a b : Bool) → same_truth a b ≡ true → a ≡ b
unfolding same_truth
truths_are_one true true h = refl
truths_are_one true false h = cc
truths_are_one false true h = cc
truths_are_one false false h = refl

all_bytes : (class : Class) → all_below 256 (λ b. same_truth (has_bit class b) (is_in class b)) ≡ true
unfolding all_below same_truth
all_bytes Space = refl
all_bytes White = refl
all_bytes Digit = refl
all_bytes Key = refl
all_bytes Token = refl
all_bytes Unescaped = refl
all_bytes Base64 = refl

pub class_of_table : (class : Class) (b : ℕ) → b < 256 → has_bit class b ≡ is_in class b
class_of_table class b within =
    truths_are_one (has_bit class b) (is_in class b) (each_below 256 (λ k. same_truth (has_bit class k) (is_in class k)) (all_bytes class) b within)
