-- The first failing test, and the value in the last document, say the same.
use Rattle.std.proofs.Common.{◌≡◌, ◌↔◌, ℕ, Bool, true, false, not, ◌&&◌, cond, IsTrue, List, [], ◌∷◌, Option, Some, None, is_none, refl, sym, ◌∙◌, ap}
use Rattle.std.specs.Option.{option_or, is_some}
use Rattle.pe_base.specs.declared.denial.LinkRule.{LinkRule}
use Rattle.pe_features.specs.declared.feature.Feature.{Feature}
use Rattle.pe_features.specs.declared.feature.DefaultList.{DefaultList}
use Rattle.pe_features.specs.declared.feature.DefaultList.TheVariants.{Any, OwnOrigin}
use Rattle.pe_features.specs.Features.{default_of}
use Rattle.pe_origin.specs.declared.origin.Origin.{Origin}
use Rattle.pe_origin.specs.Origins.{is_same_origin}
use Rattle.pe_allowlist.specs.declared.allowlist.Allowlist.{Allowlist}
use Rattle.pe_allowlist.specs.Allowlists.{matches}
use Rattle.pe_allowlist.specs.Lists.{is_policy_controlled}
use Rattle.pe_policy.specs.Links.{ChainDocument, end_of_chain, refuses, is_own_origin, denied_where, pair_test, own_test}
use Rattle.pe_policy.specs.Denials.{first_failing, denial}
use Rattle.pe_policy.specs.InheritedPolicy.{value_by_declared, value_in, value_by_default, value_by_container, child_value, inherited_below, value_for}

none-or : {A : Type 0} (a b : Option A) → is_none (option_or a b) ≡ (is_none a && is_none b)
none-or (Some x) b = refl
none-or None b = refl

not-not : (b : Bool) → not (not b) ≡ b
not-not true = refl
not-not false = refl

refuses-declared : (list : Option Allowlist) (other : Origin) → value_by_declared list other ≡ not (refuses list other)
refuses-declared None other = refl
refuses-declared (Some list) other = sym (not-not (matches list other))

-- where the two tests of the container policy do not fail, for a feature with a default allowlist
container-tests : (list : Option Allowlist) (default : Option DefaultList) (other : Origin) (same : Bool) → IsTrue (is_some default)
    → value_by_container list other (value_by_default default same) ≡ (not (refuses list other) && not (is_none list && is_own_origin default && not same))
container-tests (Some list) default other same h = by_match (matches list other)
  where
    by_match : (b : Bool) → b ≡ (not (not b) && true)
    by_match true = refl
    by_match false = refl
container-tests None (Some Any) other same h = refl
container-tests None (Some OwnOrigin) other true h = refl
container-tests None (Some OwnOrigin) other false h = refl
container-tests None None other same h = cc

-- the four tests of a pair in order, and the rules of the inherited value in order
pair-table : (i s e a d : Bool) (w x y z : LinkRule) (m n : ℕ)
    → cond (not (cond (not i) false (not s))) false (cond (not (cond (not i) false (not e))) false (not a && not d))
    ≡ (i && is_none (option_or (denied_where s w m) (option_or (denied_where e x m) (option_or (denied_where a y n) (denied_where d z n)))))
pair-table false s e a d w x y z m n = refl
pair-table true true e a d w x y z m n = refl
pair-table true false true a d w x y z m n = refl
pair-table true false false true d w x y z m n = refl
pair-table true false false false true w x y z m n = refl
pair-table true false false false false w x y z m n = refl

pair-value : (f : Feature) (i : Bool) (p c : ChainDocument) → IsTrue (is_policy_controlled f) → child_value f i p c ≡ (i && is_none (pair_test f p c))
unfolding child_value pair_test
pair-value f i p c h =
    rw (refuses-declared (p.declared f) p.origin, refuses-declared (p.declared f) c.origin, container-tests (c.container f) (default_of f) c.origin (is_same_origin c.origin p.origin) h)
    (pair-table i _ _ _ _ _ _ _ _ _ _)

own-table : (i o : Bool) (w : LinkRule) (n : ℕ) → cond (not i) false (not o) ≡ (i && is_none (denied_where o w n))
own-table false o w n = refl
own-table true true w n = refl
own-table true false w n = refl

own-value : (f : Feature) (i : Bool) (l : ChainDocument) → value_in f i l l.origin ≡ (i && is_none (own_test f l))
unfolding own_test
own-value f i l = rw (refuses-declared (l.declared f) l.origin) (own-table i _ _ _)

and-assoc : (a b c : Bool) → ((a && b) && c) ≡ (a && (b && c))
and-assoc true b c = refl
and-assoc false b c = refl

-- the value in the last document, for its own origin, below a document with this inherited value
values-below : (f : Feature) (i : Bool) (l : ChainDocument) (rest : List ChainDocument) → IsTrue (is_policy_controlled f)
    → value_in f (inherited_below f i l rest) (end_of_chain l rest) (end_of_chain l rest).origin ≡ (i && is_none (first_failing f (l ∷ rest)))
unfolding inherited_below first_failing
values-below f i l [] h = own-value f i l
values-below f i l (c ∷ rest) h =
    values-below f (child_value f i l c) c rest h
    ∙ rw (pair-value f i l c h, none-or (pair_test f l c) (first_failing f (c ∷ rest))) (and-assoc i (is_none (pair_test f l c)) _)

none-is : {A : Type 0} (o : Option A) → is_none o ≡ true → o ≡ None
none-is None h = refl
none-is (Some x) h = cc

none-both : {A : Type 0} (o : Option A) (v : Bool) → v ≡ is_none o → (o ≡ None) ↔ (v ≡ true)
none-both o v e = (λ h. e ∙ ap is_none h, λ h. none-is o (sym e ∙ h))

-- nothing denies the feature exactly where its value for the document's own origin is Enabled
pub denial-value : (f : Feature) (top : ChainDocument) (rest : List ChainDocument) → IsTrue (is_policy_controlled f)
    → (denial f (top ∷ rest) ≡ None) ↔ (value_for f (top ∷ rest) (end_of_chain top rest).origin ≡ true)
unfolding denial value_for
denial-value f top rest h = none-both _ _ (values-below f true top rest h ∙ rw h refl)
