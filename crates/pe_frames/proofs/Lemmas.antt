-- Facts about truth values and options.
use Rattle.std.proofs.Common.{◌≡◌, suc, Bool, true, false, List, [], ◌∷◌, length, Option, None, Some, IsSome, is_some, refl, sym, ap, true≢false}
use Rattle.std.specs.Prelude.{IfSome, filter, not}
use Rattle.std.specs.Option.{option_map}
use Rattle.pe_frames.specs.declared.row.Row.{Row}
use Rattle.pe_frames.specs.Forest.{Entry, node_in}

pub some_same : {A : Type 0} {a b : A} → Some a ≡ Some b → a ≡ b
some_same q = cc

-- two truth values of which each follows from the other
pub agrees : (a b : Bool) → (a ≡ true → b ≡ true) → (b ≡ true → a ≡ true) → a ≡ b
agrees true true p q = refl
agrees true false p q = absurd (true≢false (sym (p refl)))
agrees false true p q = absurd (true≢false (sym (q refl)))
agrees false false p q = refl

pub not_not : (b : Bool) → not (not b) ≡ b
not_not true = refl
not_not false = refl

-- what is so of each value of an option
pub if_each : {A : Type 0} (P : A → Type 0) (o : Option A) → ((x : A) → o ≡ Some x → P x) → IfSome o P
if_each P None f = tt
if_each P (Some x) f = f x refl

pub no_value : {A : Type 0} (o : Option A) → is_some o ≡ false → o ≡ None
no_value None t = refl
no_value (Some x) t = absurd (true≢false t)

-- each of a list passes the test that all pass
pub all-pass : {A : Type 0} (xs : List A) → length (filter (λ x. true) xs) ≡ length xs
all-pass [] = refl
all-pass (x ∷ xs) = ap suc (all-pass xs)

module _ {D : Type 0} where
  -- what has a node is there
  pub some_row : (o : Option (Row D)) → IsSome (option_map (λ r. r.node) o) → IsSome o
  some_row None p = p
  some_row (Some r) p = refl

  pub node_some : (o : Option (Entry D)) → IsSome o → IsSome (option_map node_in o)
  node_some None p = p
  node_some (Some e) p = refl
