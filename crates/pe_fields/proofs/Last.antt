-- The last member of a key, entry by entry.
use Rattle.std.proofs.Common.{◌≡◌, ◌≢◌, ◌↔◌, ℕ, ◌+◌, ◌<◌, true, false, cond, List, [], ◌∷◌, ◌++◌, length, get_or, take, All, Option, Some, None, Bor, option_copied, refl, ap, sym, ◌∙◌}
use Rattle.std.specs.Prelude.{bytes_eq, IsNone}
use Rattle.std.specs.List.{AllByRecursion}
use Rattle.std.proofs.lemmas.Bool.{true≢false}
use Rattle.std.proofs.lemmas.List.Elements.{recursion_from_All, All-from_recursion}
use Rattle.std.proofs.lemmas.Option.{none-some}
use Rattle.std.proofs.lemmas.Slice.Eq.{bytes_eq-Decides}
use Rattle.std.specs.Option.{option_or}
use Rattle.std.proofs.lemmas.Grind.{take_at_read}
use Rattle.pe_fields.specs.declared.value.Member.{Member}
use Rattle.pe_fields.specs.Dictionary.{last_of, member_under}

or_assoc : {A : Type 0} (a b c : Option A) → option_or a (option_or b c) ≡ option_or (option_or a b) c
or_assoc None b c = refl
or_assoc (Some x) b c = refl

or_none : {A : Type 0} (a : Option A) → option_or a None ≡ a
or_none None = refl
or_none (Some x) = refl

-- one more entry behind the others
pub last_push : (entries : List (List ℕ × Member)) (entry : List ℕ × Member) (key : List ℕ) → last_of (entries ++ entry ∷ []) key ≡ option_or (member_under key entry) (last_of entries key)
unfolding last_of
last_push [] entry key = sym (or_none (member_under key entry))
last_push (first ∷ entries) entry key =
    ap (λ o. option_or o (member_under key first)) (last_push entries entry key) ∙ sym (or_assoc (member_under key entry) (last_of entries key) (member_under key first))

pub last_more : (entries : List (List ℕ × Member)) (i : ℕ) (key : List ℕ) (entry : List ℕ × Member) → i < length entries → entry ≡ get_or entries i entry → last_of (take (i + 1) entries) key ≡ option_or (member_under key entry) (last_of (take i entries) key)
last_more entries i key entry lt e =
    ap (λ (x : List (List ℕ × Member)). last_of x key) ((take_at_read entries i entry lt).1 ∙ ap (λ (x : List ℕ × Member). take i entries ++ x ∷ []) (sym e)) ∙ last_push (take i entries) entry key

pub last_none : (key : List ℕ) → last_of [] key ≡ None
unfolding last_of
last_none key = refl

under_none : (key : List ℕ) (entry : List ℕ × Member) → member_under key entry ≡ None → entry.0 ≢ key
under_none key entry e = λ q. none-some entry.1 (sym e ∙ rw ((bytes_eq-Decides entry.0 key).1 q) refl)

under_apart : (key : List ℕ) (entry : List ℕ × Member) → entry.0 ≢ key → member_under key entry ≡ None
under_apart key entry ne =
    (elim (bytes_eq entry.0 key) as (λ v. bytes_eq entry.0 key ≡ v → cond v (Some entry.1) None ≡ None) [
      | true ↦ λ e. absurd (ne ((bytes_eq-Decides entry.0 key).0 e))
      | false ↦ λ e. refl
    ]) refl

or_none_parts : {A : Type 0} (a b : Option A) → option_or a b ≡ None → (a ≡ None) × (b ≡ None)
or_none_parts None b e = (refl, e)
or_none_parts (Some x) b e = absurd (none-some x (sym e))

none_apart : (entries : List (List ℕ × Member)) (key : List ℕ) → last_of entries key ≡ None → AllByRecursion (λ (entry : List ℕ × Member). entry.0 ≢ key) entries
unfolding last_of
none_apart [] key e = tt
none_apart (entry ∷ entries) key e =
    let p = or_none_parts (last_of entries key) (member_under key entry) e in
    (under_none key entry p.1, none_apart entries key p.0)

apart_none : (entries : List (List ℕ × Member)) (key : List ℕ) → AllByRecursion (λ (entry : List ℕ × Member). entry.0 ≢ key) entries → last_of entries key ≡ None
unfolding last_of
apart_none [] key h = refl
apart_none (entry ∷ entries) key h = rw (apart_none entries key h.1) (under_apart key entry h.0)

-- nothing is found exactly where no entry has the key
pub found_none : (entries : List (List ℕ × Member)) (key : List ℕ) (found : Option (Bor Member)) → option_copied found ≡ last_of entries key → IsNone found ↔ All (λ (entry : List ℕ × Member). entry.0 ≢ key) entries
found_none entries key None e =
    (λ _. All-from_recursion (λ (entry : List ℕ × Member). entry.0 ≢ key) entries (none_apart entries key (sym e)), λ _. refl)
found_none entries key (Some m) e = (
  λ q. absurd (true≢false q),
  λ h. absurd (none-some m.now (sym (apart_none entries key (recursion_from_All (λ (entry : List ℕ × Member). entry.0 ≢ key) entries h)) ∙ sym e)),
)
