-- Pieces of words that are put one behind the other.
use Rattle.std.proofs.Common.{◌≡◌, ℕ, List, ◌++◌, OnOk, Result, subst, append_assoc}

-- a number between words
pub one_piece : {T E : Type 0} (r : Result T E) (new old before n after : List ℕ) →
    OnOk r (new ≡ old ++ before ++ n ++ after) →
    OnOk r (new ≡ old ++ (before ++ n ++ after))
one_piece r new old before n after h =
    let e : old ++ before ++ n ++ after ≡ old ++ (before ++ n ++ after) = simp append_assoc in
    subst (λ (text : List ℕ). OnOk r (new ≡ text)) e h

-- and another number behind it
pub two_pieces : {T E : Type 0} (r : Result T E) (new first old before n middle m after : List ℕ) →
    first ≡ old ++ before ++ n ++ middle →
    OnOk r (new ≡ first ++ m ++ after) →
    OnOk r (new ≡ old ++ (before ++ n ++ middle ++ m ++ after))
two_pieces r new first old before n middle m after one h =
    let e : first ++ m ++ after ≡ old ++ (before ++ n ++ middle ++ m ++ after) = rw one (simp append_assoc) in
    subst (λ (text : List ℕ). OnOk r (new ≡ text)) e h

-- and two behind it
pub three_pieces : {T E : Type 0} (r : Result T E) (new second first old before n middle m after l last : List ℕ) →
    first ≡ old ++ before ++ n ++ middle →
    second ≡ first ++ m ++ after →
    OnOk r (new ≡ second ++ l ++ last) →
    OnOk r (new ≡ old ++ (before ++ n ++ middle ++ m ++ after ++ l ++ last))
three_pieces r new second first old before n middle m after l last one two h =
    let e : second ++ l ++ last ≡ old ++ (before ++ n ++ middle ++ m ++ after ++ l ++ last) = rw (two, one) (simp append_assoc) in
    subst (λ (text : List ℕ). OnOk r (new ≡ text)) e h

-- and words behind it, and a number behind these
pub named_pieces : {T E : Type 0} (r : Result T E) (new second first old before n middle m after l : List ℕ) →
    first ≡ old ++ before ++ n ++ middle →
    second ≡ first ++ m →
    OnOk r (new ≡ second ++ after ++ l) →
    OnOk r (new ≡ old ++ (before ++ n ++ middle ++ m ++ after ++ l))
named_pieces r new second first old before n middle m after l one two h =
    let e : second ++ after ++ l ≡ old ++ (before ++ n ++ middle ++ m ++ after ++ l) = rw (two, one) (simp append_assoc) in
    subst (λ (text : List ℕ). OnOk r (new ≡ text)) e h
