-- The parts of a text between its line feeds, and how many of them pass a test.
use Rattle.std.proofs.Common.{◌≡◌, ℕ, suc, ◌+◌, ◌<◌, ◌≤◌, Bool, true, false, List, [], ◌∷◌, Some, None, take, drop, slice_index, get_or, get_or-take, refl, ap, ◌∙◌, arith, if◌then◌else◌}
use Rattle.std.proofs.Math.Seq.{split_at}
use Rattle.std.proofs.lemmas.Grind.{common_steps}
use Rattle.std.proofs.lemmas.List.Splits.{slice_split_none, slice_split_at}
use Rattle.std.proofs.lemmas.List.Sums.{sum_by-cons}
use Rattle.std.specs.Prelude.{◌==◌}
use Rattle.std.specs.List.{All, count_by}
use Rattle.memchr.specs.Find.{is_byte, IsFirstByte}
use Rattle.pe_generator.specs.Summary.{parts_of, count_lines}

is_false : (b : Bool) → (b ≡ true → ⊥) → b ≡ false
is_false true other = absurd (other refl)
is_false false _ = refl

-- the part up to the first line feed, and those behind it
pub parts-first : (text : List ℕ) (e : ℕ) → IsFirstByte (is_byte 10) text (Some e) → parts_of text ≡ take e text ∷ parts_of (drop (e + 1) text)
parts-first text e h =
    let split = split_at text e 0 h.0.high in
    let next : suc e ≡ e + 1 = omega arith in
    let front : All (λ b. (b == 10) ≡ false) (take e text) = λ k d l.
    let small : k < e = grind (arith, common_steps) in
    let there : (slice_index text k == 10) ≡ false = is_false _ (h.0.before k (omega arith) small) in
    let high = h.0.high in
    grind (arith, common_steps, get_or-take) in
    ap parts_of split ∙ slice_split_at (λ b. b == 10) (take e text) (get_or text e 0) (drop (suc e) text) front h.1 ∙ ap (λ n. take e text ∷ parts_of (drop n text)) next

-- without a line feed, the whole is one part
pub parts-whole : (text : List ℕ) → IsFirstByte (is_byte 10) text None → parts_of text ≡ text ∷ []
parts-whole text h =
    let front : All (λ b. (b == 10) ≡ false) text = λ k d l.
    let there : (slice_index text k == 10) ≡ false = is_false _ (h k (omega arith) l) in
    grind (arith, common_steps) in
    slice_split_none (λ b. b == 10) text front

-- a line is counted before the others
pub count-more : (test : List ℕ → Bool) (text rest line : List ℕ) → parts_of text ≡ line ∷ parts_of rest → count_lines test text ≡ (if test line then 1 else 0) + count_lines test rest
count-more test text rest line e = ap (count_by test) e ∙ sum_by-cons (λ part. if test part then 1 else 0) line (parts_of rest)

-- it rises by one at most
pub at-most-one : (b : Bool) → (if b then 1 else 0) ≤ 1
at-most-one true = omega arith
at-most-one false = omega arith
