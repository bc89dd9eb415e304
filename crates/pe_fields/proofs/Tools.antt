-- What an option, a test and a run of bytes tell.
use Rattle.std.proofs.Common.{◌≡◌, ℕ, Bool, true, false, cond, eqb, ◌&&◌, ◌||◌, ◌⊎◌, inl, inr, append-nil, List, [], ◌∷◌, ◌++◌, Option, Some, None, option_map, option_and_then, refl, ap, sym, ◌∙◌, append_assoc, arith, ◌≤◌, ◌+◌, drop, length, suc}
use Rattle.std.proofs.lemmas.Bool.Decides.{nat_tests}
use Rattle.pe_fields.specs.Alphabet.{is_token_start}
use Rattle.std.specs.List.{prefix_len, take_while, list_all}
use Rattle.std.proofs.lemmas.List.Sums.{take_while-cons}
use Rattle.std.proofs.lemmas.Bool.{eqb-true}
use Rattle.std.proofs.lemmas.Option.{none-some, same_Some}
use Rattle.pe_fields.specs.Reading.{drop_while, behind, is_empty}

-- a step that gave something was passed something
pub bind_some : {A B : Type 0} (o : Option A) (f : A → Option B) (y : B) → option_and_then f o ≡ Some y → (x : A) × (o ≡ Some x) × (f x ≡ Some y)
bind_some None f y e = absurd (none-some y e)
bind_some (Some x) f y e = (x, refl, e)

-- the same of a map
pub map_some : {A B : Type 0} (o : Option A) (f : A → B) (y : B) → option_map f o ≡ Some y → (x : A) × (o ≡ Some x) × (f x ≡ y)
map_some None f y e = absurd (none-some y e)
map_some (Some x) f y e = (x, refl, same_Some _ _ e)

-- a guard that let something through
pub guard_some : {A : Type 0} (b : Bool) (o : Option A) (y : A) → cond b o None ≡ Some y → (b ≡ true) × (o ≡ Some y)
guard_some true o y e = (refl, e)
guard_some false o y e = absurd (none-some y e)

-- which way a test went
pub chosen : {A : Type 0} (b : Bool) (x y z : A) → cond b x y ≡ z → ((b ≡ true) × (x ≡ z)) ⊎ ((b ≡ false) × (y ≡ z))
chosen true x y z e = inl (refl, e)
chosen false x y z e = inr (refl, e)

pub or_cases : (a b : Bool) → (a || b) ≡ true → (a ≡ true) ⊎ (b ≡ true)
or_cases true b e = inl refl
or_cases false b e = inr e

pub and_parts : (a b : Bool) → (a && b) ≡ true → (a ≡ true) × (b ≡ true)
and_parts true b e = (refl, e)
and_parts false b e = cc

pub and_both : (a b : Bool) → a ≡ true → b ≡ true → (a && b) ≡ true
and_both true b d e = e
and_both false b d e = cc

-- two texts put together
pub glue : (text a s b r : List ℕ) → text ≡ a ++ s → s ≡ b ++ r → text ≡ (a ++ b) ++ r
glue text a s b r e f = e ∙ ap (λ x. a ++ x) f ∙ sym (append_assoc a b r)

-- the byte at the front
pub behind_some : (byte : ℕ) (text rest : List ℕ) → behind byte text ≡ Some rest → text ≡ byte ∷ rest
behind_some byte [] rest e = absurd (none-some rest e)
behind_some byte (b ∷ bs) rest e =
    let p = guard_some (eqb b byte) (Some bs) (rest) e in
    let h = eqb-true b byte p.0 in
    let k = same_Some bs rest p.1 in
    cc

-- a text is the bytes at its front that pass, and the others
pub run_split : (test : ℕ → Bool) (text : List ℕ) → text ≡ take_while test text ++ drop_while test text
run_split test [] = refl
run_split test (b ∷ bs) =
    rw (take_while-cons test b bs)
    (elim (test b) as (λ v. (b ∷ bs) ≡ cond v (b ∷ take_while test bs) [] ++ cond v (drop_while test bs) (b ∷ bs)) [ true ↦ ap (λ t. b ∷ t) (run_split test bs) | false ↦ refl ])

-- those bytes pass
pub run_all : (test : ℕ → Bool) (text : List ℕ) → list_all test (take_while test text) ≡ true
run_all test [] = refl
run_all test (b ∷ bs) =
    rw (take_while-cons test b bs)
    ((elim (test b) as (λ v. test b ≡ v → list_all test (cond v (b ∷ take_while test bs) []) ≡ true) [ true ↦ λ e. rw e (run_all test bs) | false ↦ λ e. refl ]) refl)

-- the text does not begin with a byte that passes
abbrev pub Stops : (ℕ → Bool) → List ℕ → Type 0
Stops test [] = Unit {0}
Stops test (b ∷ bs) = test b ≡ false

pub run_take : (test : ℕ → Bool) (front rest : List ℕ) → list_all test front ≡ true → Stops test rest → take_while test (front ++ rest) ≡ front
run_take test [] [] h s = refl
run_take test [] (b ∷ bs) h s = rw (take_while-cons test b bs, s) refl
run_take test (b ∷ bs) rest h s =
    let p = and_parts (test b) (list_all test bs) h in
    rw (take_while-cons test b (bs ++ rest), p.0) (ap (λ t. b ∷ t) (run_take test bs rest p.1 s))

pub run_drop : (test : ℕ → Bool) (front rest : List ℕ) → list_all test front ≡ true → Stops test rest → drop_while test (front ++ rest) ≡ rest
run_drop test [] [] h s = refl
run_drop test [] (b ∷ bs) h s = rw s refl
run_drop test (b ∷ bs) rest h s =
    let p = and_parts (test b) (list_all test bs) h in
    rw p.0 (run_drop test bs rest p.1 s)

pub nothing_left : (text : List ℕ) → is_empty text ≡ true → text ≡ []
nothing_left [] e = refl
nothing_left (b ∷ bs) e = cc

-- where nothing is left, each byte passed
pub all_passed : (test : ℕ → Bool) (text : List ℕ) → is_empty (drop_while test text) ≡ true → list_all test text ≡ true
all_passed test text e =
    let left : text ≡ take_while test text = run_split test text ∙ ap (λ t. take_while test text ++ t) (nothing_left (drop_while test text) e) ∙ append-nil (take_while test text) in
    ap (λ t. list_all test t) left ∙ run_all test text

pub neither : (a b : Bool) → (a || b) ≡ false → (a ≡ false) × (b ≡ false)
neither true b e = cc
neither false b e = (refl, e)

pub four_parts : (a b c d : List ℕ) → ((a ++ b) ++ c) ++ d ≡ a ++ (b ++ (c ++ d))
four_parts a b c d = simp append_assoc

pub decimal_text : (a b c d : List ℕ) → (((a ++ b) ++ (46 ∷ [])) ++ c) ++ d ≡ a ++ (b ++ 46 ∷ (c ++ d))
decimal_text a b c d = simp append_assoc

pub not_token : (b : ℕ) → 48 ≤ b → b ≤ 57 → is_token_start b ≡ false
not_token b low high = grind (arith, nat_tests)

-- the bytes behind a run are those from its length on
pub drop_while_is : (test : ℕ → Bool) (text : List ℕ) → (drop_while test text ≡ drop (prefix_len test text) text) × (prefix_len test text ≤ length text)
drop_while_is test [] = (refl, omega arith)
drop_while_is test (b ∷ bs) =
    let later = drop_while_is test bs in
    let one : suc (prefix_len test bs) ≡ 1 + prefix_len test bs = omega arith in
    (elim (test b) as (λ v. (cond v (drop_while test bs) (b ∷ bs) ≡ drop (cond v (1 + prefix_len test bs) 0) (b ∷ bs)) × (cond v (1 + prefix_len test bs) 0 ≤ length (b ∷ bs))) [
      | true ↦ (later.0 ∙ ap (λ n. drop n (b ∷ bs)) one, omega (arith, later.1))
      | false ↦ (refl, omega arith)
    ])
