-- How often pairs were dismissed, after a change of one count.
use Rattle.std.proofs.Common.{◌≡◌, ℕ, ◌+◌, ◌<◌, Bool, true, false, ◌&&◌, cond, List, Option, Some, refl, ◌∙◌, ap, arith, nat_le}
use Rattle.std.specs.Bool.{Decides}
use Rattle.std.specs.Option.{unwrap_or}
use Rattle.std.proofs.lemmas.Bool.Decides.{nat_tests}
use Rattle.pe_base.specs.declared.limits.TheConstants.{EMBARGO_DISMISSALS}
use Rattle.pe_store.specs.Entries.{StoreValue, dismissals_of, AreBelowEmbargo}
use Rattle.pe_store.specs.Numbers.{KeyNumbers, number_of, HoldsNone, IsChangedFor}
use Rattle.pe_store.specs.Pairs.{Pair, is_same_pair}

pub below-none : (counts : List KeyNumbers) → HoldsNone counts → AreBelowEmbargo counts
unfolding AreBelowEmbargo HoldsNone
below-none counts none pair = rw (none pair) (omega arith)

pub below-changed : (q : Pair) (w : Option ℕ) (old new : List KeyNumbers) → unwrap_or w 0 < EMBARGO_DISMISSALS → IsChangedFor q w old new → AreBelowEmbargo old → AreBelowEmbargo new
unfolding AreBelowEmbargo IsChangedFor
below-changed q w old new low changed below pair = rw (changed pair) (by_test (is_same_pair q pair) (below pair))
  where
    by_test : (b : Bool) → unwrap_or (number_of old pair) 0 < EMBARGO_DISMISSALS → unwrap_or (cond b w (number_of old pair)) 0 < EMBARGO_DISMISSALS
    by_test true h = low
    by_test false h = h

-- the count of a pair that is one more, where the others stay
pub counted-more : (q : Pair) (old new : StoreValue) (n : ℕ) → n ≡ dismissals_of old q + 1 → IsChangedFor q (Some n) old.dismissals new.dismissals → (pair : Pair)
    → dismissals_of new pair ≡ cond (is_same_pair q pair) (dismissals_of old q + 1) (dismissals_of old pair)
unfolding dismissals_of IsChangedFor
counted-more q old new n more changed pair = rw (changed pair, more) (by_test (is_same_pair q pair) (number_of old.dismissals pair))
  where
    by_test : (b : Bool) (o : Option ℕ) → unwrap_or (cond b (Some (unwrap_or (number_of old.dismissals q) 0 + 1)) o) 0 ≡ cond b (unwrap_or (number_of old.dismissals q) 0 + 1) (unwrap_or o 0)
    by_test true o = refl
    by_test false o = refl

-- the same of the pair that is counted, where the tests are known
pub counted-as : (pairs : (p q : Pair) → Decides (is_same_pair p q) (p ≡ q)) (q : Pair) (old new : StoreValue) (c e : Bool) → c ≡ true → e ≡ false
    → ((pair : Pair) → dismissals_of new pair ≡ cond (is_same_pair q pair) (dismissals_of old q + 1) (dismissals_of old pair))
    → (pair : Pair) → dismissals_of new pair ≡ cond (c && is_same_pair q pair) (cond e 0 (dismissals_of old pair + 1)) (dismissals_of old pair)
counted-as pairs q old new c e is-counted no-embargo h pair = rw (is-counted, no-embargo) (by_test (is_same_pair q pair) refl (h pair))
  where
    by_test : (b : Bool) → is_same_pair q pair ≡ b → dismissals_of new pair ≡ cond b (dismissals_of old q + 1) (dismissals_of old pair) → dismissals_of new pair ≡ cond b (dismissals_of old pair + 1) (dismissals_of old pair)
    by_test true is h = h ∙ ap (λ (p : Pair). dismissals_of old p + 1) ((pairs q pair).0 is)
    by_test false is h = h

pub not-yet : (n : ℕ) (c : Bool) → n + 1 < EMBARGO_DISMISSALS → (c && nat_le EMBARGO_DISMISSALS (n + 1)) ≡ false
not-yet n true low = grind (arith, nat_tests)
not-yet n false low = refl
