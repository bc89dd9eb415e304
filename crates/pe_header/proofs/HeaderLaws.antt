-- The lists of members, and the declared policy of a field.
use Rattle.std.proofs.Common.{◌≡◌, ℕ, Bool, true, false, cond, List, Option, Some, None, Result, Ok, Err, IfOk, option_map, is_some, refl, sym, ◌∙◌}
use Rattle.std.specs.Option.{option_or}
use Rattle.pe_features.specs.declared.feature.Feature.{Feature}
use Rattle.pe_origin.specs.declared.origin.Origin.{Origin}
use Rattle.pe_fields.specs.declared.value.Bare.{Bare}
use Rattle.pe_fields.specs.declared.value.Member.{Member}
use Rattle.pe_fields.specs.declared.value.Value.{Value}
use Rattle.pe_fields.specs.declared.value.Value.TheVariants as value
use Rattle.pe_fields.specs.Reading.{dictionary}
use Rattle.pe_allowlist.specs.declared.allowlist.Allowlist.{Allowlist}
use Rattle.pe_allowlist.specs.declared.lists.DeclaredList.{DeclaredList}
use Rattle.pe_allowlist.specs.Allowlists.{empty_list}
use Rattle.pe_allowlist.specs.DeclaredLists.{allowlist_of}
use Rattle.pe_header.specs.DeclaredPolicy.{with_bare, list_of_value, list_of_members, declared_policy}

-- ---- members

-- a bare item that stands for nothing declares nothing
pub nothing-declared : (own : Origin) (found : Value) (bare : Bare) (list : Allowlist) (known : Bool) → found ≡ value.Item bare → list ≡ empty_list
    → known ≡ is_some (with_bare own list bare) → known ≡ false → None ≡ list_of_value own found
unfolding list_of_value
nothing-declared own found bare list known v e h k = rw v (none-is (with_bare own empty_list bare) (sym (h ∙ rw e refl) ∙ k))
  where
    none-is : (o : Option Allowlist) → is_some o ≡ false → None ≡ o
    none-is None t = refl
    none-is (Some list) t = cc

-- a feature with a declared list, and one without
pub list_put : (own : Origin) (list : DeclaredList) (b : Bool) (declares : Option Allowlist) (old new : Option DeclaredList) → Some (allowlist_of own list) ≡ declares
    → new ≡ cond b (Some list) old
    → option_map (allowlist_of own) new ≡ cond b (option_or declares (option_map (allowlist_of own) old)) (option_map (allowlist_of own) old)
list_put own list true declares old new h k = rw (k, ← h) refl
list_put own list false declares old new h k = rw k refl

pub list_left : (b : Bool) (declares old : Option Allowlist) → None ≡ declares → old ≡ cond b (option_or declares old) old
list_left true declares old h = rw (← h) refl
list_left false declares old h = refl

-- ---- fields

pub policy-missing : (own : Origin) (f : Feature) → declared_policy None own f ≡ None
unfolding declared_policy
policy-missing own f = refl

pub policy-no_dictionary : (bytes : List ℕ) (own : Origin) (f : Feature) → None ≡ dictionary bytes → declared_policy (Some bytes) own f ≡ None
unfolding declared_policy
policy-no_dictionary bytes own f h = rw (← h) refl

pub policy-of : (bytes : List ℕ) (members : List (List ℕ × Member)) (own : Origin) (f : Feature) → Some members ≡ dictionary bytes → declared_policy (Some bytes) own f ≡ list_of_members own f members
unfolding declared_policy
policy-of bytes members own f h = rw (← h) refl

pub if-ok : {A E : Type 0} (P Q : A → Type 0) (r : Result A E) → ((x : A) → P x → Q x) → IfOk r P → IfOk r Q
if-ok P Q (Ok x) h p = h x p
if-ok P Q (Err e) h p = p
