-- What a change of one key's number does to the numbers of pairs.
use Rattle.std.proofs.Common.{◌≡◌, ◌≢◌, ◌&&◌, ℕ, zero, suc, ◌<◌, Bool, true, false, cond, List, [], ◌∷◌, length, Option, None, get_or, set, length-set, refl, sym, ap, ◌∙◌, arith}
use Rattle.std.specs.Prelude.{◌==◌}
use Rattle.std.specs.Bool.{Decides}
use Rattle.std.specs.List.{AllByRecursion}
use Rattle.std.specs.Map.{lookup}
use Rattle.std.proofs.lemmas.Bool.Decides.{nat_tests}
use Rattle.std.proofs.lemmas.List.{get_or-set_same, get_or-set_other}
use Rattle.pe_features.specs.declared.feature.Feature.{Feature}
use Rattle.pe_features.specs.Features.{feature_number}
use Rattle.pe_store.specs.declared.key.Key.{Key}
use Rattle.pe_store.specs.Pairs.{Pair, is_same_key, is_same_pair}
use Rattle.pe_store.specs.Numbers.{KeyNumbers, number_in, number_at, number_of, HoldsNone, IsChangedIn, IsChangedAt, IsChangedFor}
use Rattle.pe_store.proofs.SameKey.{key_eq, eq-is-same, lookup-is}

pub number-is : (pairs : (p q : Pair) → Decides (is_same_pair p q) (p ≡ q)) (k : Key) (es : KeyNumbers) → lookup (key_eq k) es ≡ number_in es k
unfolding number_in
number-is pairs k es = lookup-is pairs k es

-- where no key has a number
pub number-none : (numbers self : KeyNumbers) (key : Key) → numbers ≡ self → length numbers ≡ 0 → None ≡ number_in self key
unfolding number_in
number-none [] self key same none = ap (λ (es : KeyNumbers). number_in es key) same
number-none (e ∷ es) self key same none = absurd cc

pub none-changed : (numbers self : KeyNumbers) (key : Key) → numbers ≡ self → length numbers ≡ 0 → IsChangedIn key None self self
unfolding IsChangedIn
none-changed numbers self key same none q = by_test (is_same_key key q) (number_in self q) (sym (number-none numbers self q same none))
  where
    by_test : (b : Bool) (o : Option ℕ) → o ≡ None → o ≡ cond b None o
    by_test true o h = h
    by_test false o h = refl

pub changed-in : (pairs : (p q : Pair) → Decides (is_same_pair p q) (p ≡ q)) (k : Key) (w : Option ℕ) (old new self : KeyNumbers) → old ≡ self
    → ((q : Key) → lookup (key_eq q) new ≡ cond (key_eq k q) w (lookup (key_eq q) old)) → IsChangedIn k w self new
unfolding IsChangedIn
changed-in pairs k w old new self same h q =
    sym (number-is pairs q new) ∙ h q ∙ ap (λ b. cond b w (lookup (key_eq q) old)) (eq-is-same pairs k q)
    ∙ ap (λ o. cond (is_same_key k q) w o) (number-is pairs q old ∙ ap (λ (es : KeyNumbers). number_in es q) same)

get_or-any : (xs : List KeyNumbers) (i : ℕ) (d e : KeyNumbers) → i < length xs → get_or xs i d ≡ get_or xs i e
get_or-any [] i d e lt = absurd (omega arith)
get_or-any (x ∷ xs) zero d e lt = refl
get_or-any (x ∷ xs) (suc i) d e lt = get_or-any xs i d e (omega arith)

pub number-at : (lists : List KeyNumbers) (i : ℕ) (g : KeyNumbers) (k : Key) → i < length lists → g ≡ get_or lists i g → number_in g k ≡ number_at lists i k
unfolding number_at
number-at lists i g k lt is = ap (λ (es : KeyNumbers). number_in es k) (is ∙ get_or-any lists i g [] lt)

after-here : (lists : List KeyNumbers) (i : ℕ) (new : KeyNumbers) (j : ℕ) (q : Key) → i < length lists → j ≡ i → number_at (set lists i new) j q ≡ number_in new q
unfolding number_at
after-here lists i new j q lt same =
    ap (λ (n : ℕ). number_in (get_or (set lists i new) n []) q) same ∙ ap (λ (es : KeyNumbers). number_in es q) (get_or-set_same lists i new [] lt)

after-apart : (lists : List KeyNumbers) (i : ℕ) (new : KeyNumbers) (j : ℕ) (q : Key) → j ≢ i → number_at (set lists i new) j q ≡ number_at lists j q
unfolding number_at
after-apart lists i new j q apart = ap (λ (es : KeyNumbers). number_in es q) (get_or-set_other lists i j new [] apart)

same-place : (i j : ℕ) → (i == j) ≡ true → j ≡ i
same-place i j h = grind (arith, nat_tests)

apart-place : (i j : ℕ) → (i == j) ≡ false → j ≢ i
apart-place i j h same = grind (arith, nat_tests)

pub changed-at : (lists : List KeyNumbers) (i : ℕ) (d new : KeyNumbers) (k : Key) (w : Option ℕ) → i < length lists → IsChangedIn k w (get_or lists i d) new → IsChangedAt i k w lists (set lists i new)
unfolding IsChangedIn IsChangedAt
changed-at lists i d new k w lt h = (length-set lists i new, λ j q. by_place j q (i == j) refl)
  where
    by_place : (j : ℕ) (q : Key) (b : Bool) → (i == j) ≡ b → number_at (set lists i new) j q ≡ cond (b && is_same_key k q) w (number_at lists j q)
    by_place j q true here =
        after-here lists i new j q lt (same-place i j here) ∙ h q
        ∙ ap (λ o. cond (is_same_key k q) w o) (number-at lists i (get_or lists i d) q lt (get_or-any lists i d (get_or lists i d) lt) ∙ ap (λ (n : ℕ). number_at lists n q) (sym (same-place i j here)))
    by_place j q false apart = after-apart lists i new j q (apart-place i j apart)

pub number-for : (f : Feature) (k : Key) (n : ℕ) (lists : List KeyNumbers) → n ≡ feature_number f → number_at lists n k ≡ number_of lists (f, k)
unfolding number_of
number-for f k n lists is = ap (λ (i : ℕ). number_at lists i k) is

pub changed-for : (f : Feature) (k : Key) (w : Option ℕ) (n : ℕ) (old new self : List KeyNumbers) → n ≡ feature_number f → old ≡ self → IsChangedAt n k w old new → IsChangedFor (f, k) w self new
unfolding IsChangedAt IsChangedFor number_of is_same_pair
changed-for f k w n old new self is same h q =
    h.1 (feature_number q.0) q.1
    ∙ ap (λ (i : ℕ). cond (i == feature_number q.0 && is_same_key k q.1) w (number_at old (feature_number q.0) q.1)) is
    ∙ ap (λ (lists : List KeyNumbers). cond (feature_number f == feature_number q.0 && is_same_key k q.1) w (number_at lists (feature_number q.0) q.1)) same

none-in : (xs : List KeyNumbers) (i : ℕ) → AllByRecursion (λ (x : KeyNumbers). x ≡ []) xs → get_or xs i [] ≡ []
none-in [] i h = refl
none-in (x ∷ xs) zero h = h.0
none-in (x ∷ xs) (suc i) h = none-in xs i h.1

pub holds-none : (lists : List KeyNumbers) → AllByRecursion (λ (x : KeyNumbers). x ≡ []) lists → HoldsNone lists
unfolding HoldsNone number_of number_at number_in
holds-none lists h pair = ap (λ (es : KeyNumbers). lookup (is_same_key pair.1) es) (none-in lists (feature_number pair.0) h)
