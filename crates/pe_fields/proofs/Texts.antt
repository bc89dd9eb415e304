-- Reading a string byte by byte, as a loop does.
use Rattle.std.proofs.Common.{◌≡◌, ℕ, ◌<◌, true, false, cond, eqb, ◌||◌, List, [], ◌∷◌, ◌++◌, length, Option, Some, None, refl, ap, sym, ◌∙◌, append_assoc, append-nil, arith, inl, inr}
use Rattle.std.proofs.lemmas.Bool.{eqb-true}
use Rattle.std.proofs.lemmas.Bool.Decides.{nat_tests}
use Rattle.std.specs.List.{take_while}
use Rattle.std.proofs.lemmas.List.Sums.{take_while-cons}
use Rattle.std.proofs.lemmas.Option.{none-some, same_Some}
use Rattle.pe_fields.specs.Alphabet.{is_text_byte, is_unescaped}
use Rattle.pe_fields.specs.Reading.{Read, read_map, text_at, drop_while, behind}
use Rattle.pe_fields.specs.Steps.{escaped_step, text_step}
use Rattle.pe_fields.proofs.Tools.{chosen, guard_some, behind_some}
use Rattle.pe_fields.proofs.Complete.{text_quote, text_other, text_plain}

-- what a step leaves to read
abbrev pub text_goes : Option (Option ℕ × List ℕ) → Read (List ℕ)
text_goes None = None
text_goes (Some (None, rest)) = Some ([], rest)
text_goes (Some (Some b, rest)) = read_map (λ text. b ∷ text) (text_at rest)

escape_goes : (bs : List ℕ) → text_at (92 ∷ bs) ≡ text_goes (escaped_step bs)
unfolding text_at
escape_goes [] = refl
escape_goes (c ∷ bs) =
    elim (eqb c 34 || eqb c 92) as (λ v. cond v (read_map (λ text. c ∷ text) (text_at bs)) None ≡ text_goes (cond v (Some (Some c, bs)) None)) [ true ↦ refl | false ↦ refl ]

plain_goes : (b : ℕ) (bs : List ℕ) → cond (is_text_byte b) (read_map (λ text. b ∷ text) (text_at bs)) None ≡ text_goes (cond (is_text_byte b) (Some (Some b, bs)) None)
plain_goes b bs =
    elim (is_text_byte b) as (λ v. cond v (read_map (λ text. b ∷ text) (text_at bs)) None ≡ text_goes (cond v (Some (Some b, bs)) None)) [ true ↦ refl | false ↦ refl ]

empty_text : text_at [] ≡ None
unfolding text_at
empty_text = refl

pub text_turn : (text : List ℕ) → text_at text ≡ text_goes (text_step text)
text_turn [] = empty_text
text_turn (b ∷ bs) =
    let other : Option (Option ℕ × List ℕ) = cond (is_text_byte b) (Some (Some b, bs)) None in
    (elim (eqb b 34) as (λ v. eqb b 34 ≡ v → text_at (b ∷ bs) ≡ text_goes (cond v (Some (None, bs)) (cond (eqb b 92) (escaped_step bs) other))) [
      | true ↦ λ e. ap (λ n. text_at (n ∷ bs)) (eqb-true b 34 e) ∙ text_quote bs
      | false ↦ λ e.
          (elim (eqb b 92) as (λ v. eqb b 92 ≡ v → text_at (b ∷ bs) ≡ text_goes (cond v (escaped_step bs) other)) [
            | true ↦ λ f. ap (λ n. text_at (n ∷ bs)) (eqb-true b 92 f) ∙ escape_goes bs
            | false ↦ λ f. text_other b bs e f ∙ plain_goes b bs
          ]) refl
    ]) refl

shorter_escape : (bs : List ℕ) (r : Option ℕ × List ℕ) → escaped_step bs ≡ Some r → length r.1 < length bs
shorter_escape [] r e = absurd (none-some r e)
shorter_escape (c ∷ bs) r e =
    let p = guard_some (eqb c 34 || eqb c 92) (Some (Some c, bs)) r e in
    let q : length bs ≡ length r.1 = ap (λ (x : Option ℕ × List ℕ). length x.1) (same_Some _ _ p.1) in
    omega arith

-- each step takes a byte
pub text_shorter : (text : List ℕ) (r : Option ℕ × List ℕ) → text_step text ≡ Some r → length r.1 < length text
text_shorter [] r e = absurd (none-some r e)
text_shorter (b ∷ bs) r e = elim (chosen (eqb b 34) _ _ (Some r) e) [
  | inl p ↦ let q : length bs ≡ length r.1 = ap (λ (x : Option ℕ × List ℕ). length x.1) (same_Some _ _ p.1) in omega arith
  | inr p ↦ elim (chosen (eqb b 92) _ _ (Some r) p.1) [
    | inl p ↦ let q : length r.1 < length bs = shorter_escape bs r p.1 in omega arith
    | inr p ↦
        let g = guard_some (is_text_byte b) (Some (Some b, bs)) r p.1 in
        let q : length bs ≡ length r.1 = ap (λ (x : Option ℕ × List ℕ). length x.1) (same_Some _ _ g.1) in
        omega arith
  ]
]

-- what was read before, and what is still read
abbrev pub with_front : List ℕ → Read (List ℕ) → Read (List ℕ)
with_front front read = read_map (λ text. front ++ text) read

pub text_begins : (read : Read (List ℕ)) → with_front [] read ≡ read
text_begins None = refl
text_begins (Some r) = refl

regroup : (front : List ℕ) (b : ℕ) (read : Read (List ℕ)) → with_front front (read_map (λ text. b ∷ text) read) ≡ with_front (front ++ b ∷ []) read
regroup front b None = refl
regroup front b (Some r) = ap (λ (t : List ℕ). Some (t, r.1)) (sym (append_assoc front (b ∷ []) r.0))

pub text_goes_on : (front rest : List ℕ) (b : ℕ) (after : List ℕ) (total : Read (List ℕ)) → text_step rest ≡ Some (Some b, after) → with_front front (text_at rest) ≡ total → with_front (front ++ b ∷ []) (text_at after) ≡ total
text_goes_on front rest b after total e so_far =
    sym (ap (with_front front) (text_turn rest ∙ ap text_goes e) ∙ regroup front b (text_at after)) ∙ so_far

pub text_ends : (front rest after : List ℕ) (total : Read (List ℕ)) → text_step rest ≡ Some (None, after) → with_front front (text_at rest) ≡ total → total ≡ Some (front, after)
text_ends front rest after total e so_far =
    sym so_far ∙ ap (with_front front) (text_turn rest ∙ ap text_goes e) ∙ ap (λ (t : List ℕ). Some (t, after)) (append-nil front)

pub text_fails : (front rest : List ℕ) (total : Read (List ℕ)) → text_step rest ≡ None → with_front front (text_at rest) ≡ total → total ≡ None
text_fails front rest total e so_far = sym so_far ∙ ap (with_front front) (text_turn rest ∙ ap text_goes e)

no_quote : (b : ℕ) → is_unescaped b ≡ true → eqb b 34 ≡ false
no_quote b h = grind (arith, nat_tests)

no_backslash : (b : ℕ) → is_unescaped b ≡ true → eqb b 92 ≡ false
no_backslash b h = grind (arith, nat_tests)

of_text : (b : ℕ) → is_unescaped b ≡ true → is_text_byte b ≡ true
of_text b h = grind (arith, nat_tests)

one_in_front : (b : ℕ) (front : List ℕ) (read : Read (List ℕ)) → with_front (b ∷ front) read ≡ read_map (λ text. b ∷ text) (with_front front read)
one_in_front b front None = refl
one_in_front b front (Some r) = refl

-- the bytes at the front that stand for themselves are read at once
pub text_run : (text : List ℕ) → with_front (take_while is_unescaped text) (text_at (drop_while is_unescaped text)) ≡ text_at text
text_run [] = text_begins (text_at [])
text_run (b ∷ bs) =
    rw (take_while-cons is_unescaped b bs)
    ((elim (is_unescaped b) as (λ v. is_unescaped b ≡ v → with_front (cond v (b ∷ take_while is_unescaped bs) []) (text_at (cond v (drop_while is_unescaped bs) (b ∷ bs))) ≡ text_at (b ∷ bs)) [
      | true ↦ λ e.
          one_in_front b (take_while is_unescaped bs) (text_at (drop_while is_unescaped bs))
          ∙ ap (read_map (λ text. b ∷ text)) (text_run bs)
          ∙ sym (text_plain b bs (no_quote b e) (no_backslash b e) (of_text b e))
      | false ↦ λ e. text_begins (text_at (b ∷ bs))
    ]) refl)

-- a string without an escape is the bytes up to its closing quote
pub text_lent : (text rest : List ℕ) → behind 34 (drop_while is_unescaped text) ≡ Some rest → text_at text ≡ Some (take_while is_unescaped text, rest)
text_lent text rest e =
    sym (text_run text)
    ∙ ap (λ (t : List ℕ). with_front (take_while is_unescaped text) (text_at t)) (behind_some 34 (drop_while is_unescaped text) rest e)
    ∙ ap (with_front (take_while is_unescaped text)) (text_quote rest)
    ∙ ap (λ (t : List ℕ). Some (t, rest)) (append-nil (take_while is_unescaped text))
