-- What a change leaves of the numbers of pairs.
use Rattle.std.proofs.Common.{◌≡◌, ℕ, Bool, true, false, cond, List, Option, Some, None, sym, ap, ◌∙◌}
use Rattle.std.specs.BTreeMap.{BTreeMap}
use Rattle.pe_features.specs.declared.feature.Feature.{Feature}
use Rattle.pe_store.specs.declared.key.Key.{Key}
use Rattle.pe_store.specs.Pairs.{Pair, is_same_pair}
use Rattle.pe_status.specs.declared.place.Place.{Place}
use Rattle.pe_status.specs.declared.registered.Registered.{Registered}
use Rattle.pe_status.specs.Kept.{IsFreed}
use Rattle.pe_store.specs.Numbers.{KeyNumbers, number_of, IsChangedFor}
use Rattle.pe_status.specs.Places.{value_at}
use Rattle.pe_status.specs.Registry.{pair_of}

pub changed-to : (f : Feature) (j k : Key) (number : Option ℕ) (old new : List KeyNumbers) → IsChangedFor (f, j) number old new → j ≡ k
    → (x : Pair) → number_of new x ≡ cond (is_same_pair (f, k) x) number (number_of old x)
unfolding IsChangedFor
changed-to f j k number old new h is x = h x ∙ ap (λ (q : Key). cond (is_same_pair (f, q) x) number (number_of old x)) is

-- a number that no status stands under is taken away
pub freed : (r : Registered) (group : ℕ) (rows : BTreeMap Place Registered) (old new : List KeyNumbers) → ((n : ℕ) → value_at rows group n ≡ None)
    → ((x : Pair) → number_of new x ≡ cond (is_same_pair (pair_of r) x) None (number_of old x)) → IsFreed r group rows old new
freed r group rows old new none h = record {
  others = λ x f. h x ∙ ap (λ (b : Bool). cond b None (number_of old x)) f;
  own = λ n s e x. absurd (nothing s (sym (none n) ∙ e));
  kept = λ x g e. by_test (is_same_pair (pair_of r) x) g (number_of old x) (sym (h x) ∙ e);
}
  where
    nothing : (s : Registered) → None ≡ Some s → ⊥
    nothing s e = cc

    by_test : (b : Bool) (g : ℕ) (o : Option ℕ) → cond b None o ≡ Some g → o ≡ Some g
    by_test true g o e = absurd cc
    by_test false g o e = e
