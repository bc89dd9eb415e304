-- What the steps of the reader of words leave.
use Rattle.std.proofs.Common.{◌≡◌, ℕ, zero, suc, ◌+◌, ◌<◌, ◌≤◌, Bool, true, false, List, [], ◌∷◌, length, drop, get_or, Option, Some, None, sym, ap, ◌∙◌, refl, arith, ltb}
use Rattle.std.proofs.lemmas.Bool.{ltb-true, ltb-false}
use Rattle.std.specs.Prelude.{◌==◌, option_map}
use Rattle.std.proofs.lemmas.List.{drop_more}
use Rattle.pe_lines.specs.Words.{Word, is_blank, Stage, Between, Bare, Quoted, Ahead, longer, begun, ahead_at_byte, ahead_of, words_from}
use Rattle.pe_lines.specs.Steps.{IsWordAt, HasNoWords}
use Rattle.pe_lines.proofs.Ahead.{kind_by, with_word, option_map-comp, between_blank}
use Rattle.pe_lines.proofs.Agreement.{word_ahead}

-- a blank is passed over
pub blank_passed : (line : List ℕ) (at : ℕ) → at < length line → is_blank (get_or line at 0) ≡ true → words_from (at + 1) (drop (at + 1) line) ≡ words_from at (drop at line)
unfolding words_from
blank_passed line at within blank =
    ap (option_map (λ (a : Ahead). a.words))
    (sym (between_blank at (get_or line at 0) (drop (at + 1) line) blank) ∙ ap (ahead_of Between at) (sym (drop_more line at 0 within)))

nothing_behind : (at : ℕ) (line : List ℕ) → length line ≤ at → drop at line ≡ []
nothing_behind zero [] e = refl
nothing_behind (suc at) [] e = refl
nothing_behind zero (b ∷ line) e = absurd (omega arith)
nothing_behind (suc at) (b ∷ line) e = nothing_behind at line (omega arith)

-- at the end stands no word
pub none_at_end : (line : List ℕ) (at : ℕ) → length line ≤ at → words_from at (drop at line) ≡ Some []
unfolding words_from
none_at_end line at e = ap (λ l. option_map (λ (a : Ahead). a.words) (ahead_of Between at l)) (nothing_behind at line e)

-- the word is the first, and the others stand behind it
pub word_taken : (line : List ℕ) (at : ℕ) (word : Word) → IsWordAt line at word → words_from at (drop at line) ≡ option_map (λ words. word ∷ words) (words_from word.end (drop word.end line))
unfolding words_from
word_taken line at word is =
    ap (option_map (λ (a : Ahead). a.words)) (word_ahead at (drop at line) word [] (drop word.end line) is.first)
    ∙ option_map-comp (λ (a : Ahead). a.words) (with_word word.start word) (ahead_of Between word.end (drop word.end line))
    ∙ sym (option_map-comp (λ ws. word ∷ ws) (λ (a : Ahead). a.words) (ahead_of Between word.end (drop word.end line)))

pub none_taken : (line : List ℕ) (at : ℕ) → HasNoWords line at → words_from at (drop at line) ≡ None
unfolding words_from
none_taken line at none = ap (option_map (λ (a : Ahead). a.words)) none

-- where a byte stands that is no blank there are words, or none that are in the grammar
begins : (f : Ahead → Ahead) (o : Option Ahead) → ((a : Ahead) → (word : Word) × (words : List Word) × ((f a).words ≡ word ∷ words)) → option_map (λ (a : Ahead). a.words) (option_map f o) ≡ Some [] → ⊥
begins f None h e = cc
begins f (Some a) h e = let (word, words, is) = h a in cc

some_stands : (place b : ℕ) (behind : Stage → Option Ahead) (p q r : Bool) → p ≡ false → option_map (λ (a : Ahead). a.words) (ahead_at_byte Between (kind_by p q r) place b behind) ≡ Some [] → ⊥
some_stands place b behind true q r h e = cc
some_stands place b behind false true r h e = begins (begun true place) (behind Quoted) (λ a. (_, _, refl)) e
some_stands place b behind false false true h e = begins (λ (a : Ahead). begun false place (longer b a)) (behind Bare) (λ a. (_, _, refl)) e
some_stands place b behind false false false h e = begins (λ (a : Ahead). begun false place (longer b a)) (behind Bare) (λ a. (_, _, refl)) e

pub not_done : (line : List ℕ) (at : ℕ) → at < length line → is_blank (get_or line at 0) ≡ false → words_from at (drop at line) ≡ Some [] → ⊥
unfolding words_from
not_done line at within other e =
    let b = get_or line at 0 in
    some_stands at b (λ next. ahead_of next (at + 1) (drop (at + 1) line)) (is_blank b) (b == 34) (b == 92) other
    (ap (λ l. option_map (λ (a : Ahead). a.words) (ahead_of Between at l)) (sym (drop_more line at 0 within)) ∙ e)

pub done_at_end : (line : List ℕ) (at : ℕ) → at ≤ length line → (at < length line → is_blank (get_or line at 0) ≡ false) → words_from at (drop at line) ≡ Some [] → at ≡ length line
done_at_end line at within other e = by_place (ltb at (length line)) refl
  where
    by_place : (b : Bool) → ltb at (length line) ≡ b → at ≡ length line
    by_place true h = let inside = ltb-true at (length line) h in absurd (not_done line at inside (other inside) e)
    by_place false h = let past = ltb-false at (length line) h in omega (arith, within, past)
