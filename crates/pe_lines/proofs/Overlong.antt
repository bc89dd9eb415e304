-- A line of which only its length is known to be too great, and the lines that a cutter finds.
use Rattle.std.proofs.Common.{◌≡◌, ℕ, ◌+◌, ◌-◌, ◌<◌, ◌≤◌, Bool, true, false, List, [], ◌∷◌, ◌++◌, Option, Some, None, length, map, take, drop, sym, ap, ◌∙◌, refl, arith, append_assoc, length-append, subst}
use Rattle.std.specs.Prelude.{◌==◌, if◌then◌else◌, slice_index, nat_lt}
use Rattle.std.specs.List.{position}
use Rattle.std.specs.Str.Lines.{strip_carriage_return}
use Rattle.std.proofs.lemmas.List.{length-take, length-drop, length-replicate, take_at, drop-drop, drop_all, take_all}
use Rattle.std.proofs.lemmas.List.Elements.{All-replicate, All-append, All-nil}
use Rattle.std.proofs.lemmas.Bool.Decides.{nat_tests}
use Rattle.pe_lines.specs.Lines.{is_line_feed, HasNoLineFeed, within_limit, lines, ended_lines, lines_or_too_long, ended_lines_or_too_long}
use Rattle.pe_base.specs.declared.limits.TheConstants.{LINE_LIMIT}
use Rattle.pe_lines.specs.Rests.{Rest, filler, front_of}
use Rattle.pe_lines.specs.declared.cutter.Found.TheVariants.{Overlong, Line}
use Rattle.pe_lines.specs.Cutting.{SameLines, TakesLine, TakesLast, TakesNext, Finds, found_of}
use Rattle.pe_lines.proofs.Parts.{lines-first, lines-last, ended-first, ended-none, split_first, none_first, takes_first, takes_last}

pub length-filler : length filler ≡ 16386
unfolding filler
length-filler = length-replicate {A = ℕ} 16386 0

pub filler-none : HasNoLineFeed filler
unfolding filler
filler-none = All-replicate (λ b. is_line_feed b ≡ false) 16386 0 refl

strip-length : (line : List ℕ) → length line ≤ length (strip_carriage_return line) + 1
strip-length line = elim (slice_index line (length line - 1) == 13) as (λ b. length line ≤ length (if b then take (length line - 1) line else line) + 1)
    [ true ↦ omega (arith, length-take (length line - 1) line) | false ↦ omega arith ]

-- nothing is told of a long line
is_long : (line : List ℕ) → 16384 < length line → None ≡ within_limit line
is_long line h = grind (arith, nat_tests)

-- it is too long, also without a carriage return at its end
long_line : (part : List ℕ) → 16385 < length part → None ≡ within_limit (strip_carriage_return part)
long_line part h = is_long (strip_carriage_return part) (omega (arith, strip-length part))

-- what is too long before a line feed
long_first : (f : List ℕ → List (List ℕ)) (a part rest : List ℕ) → f ((a ++ part) ++ 10 ∷ rest) ≡ strip_carriage_return (a ++ part) ∷ f rest → 16385 < length a → map within_limit (f (a ++ (part ++ 10 ∷ rest))) ≡ None ∷ map within_limit (f rest)
long_first f a part rest e h =
    ap (λ l. map within_limit (f l)) (sym (append_assoc a part (10 ∷ rest))) ∙ ap (map within_limit) e ∙ ap (λ k. k ∷ map within_limit (f rest)) (sym (long_line (a ++ part) (omega (arith, length-append a part))))

same_at : (a b more : List ℕ) (o : Option ℕ) → position is_line_feed more ≡ o → HasNoLineFeed a → HasNoLineFeed b → 16385 < length a → 16385 < length b
    → (map within_limit (lines (a ++ more)) ≡ map within_limit (lines (b ++ more))) × (map within_limit (ended_lines (a ++ more)) ≡ map within_limit (ended_lines (b ++ more)))
same_at a b more None e na nb la lb =
    let none = none_first more e in
    let all_a : HasNoLineFeed (a ++ more) = All-append (λ c. is_line_feed c ≡ false) a more na none in
    let all_b : HasNoLineFeed (b ++ more) = All-append (λ c. is_line_feed c ≡ false) b more nb none in
    let long_a : 16385 < length (a ++ more) = omega (arith, length-append a more) in
    let long_b : 16385 < length (b ++ more) = omega (arith, length-append b more) in (
      ap (map within_limit) (lines-last (a ++ more) all_a (omega arith)) ∙ ap (λ k. k ∷ []) (sym (long_line (a ++ more) long_a))
          ∙ sym (ap (map within_limit) (lines-last (b ++ more) all_b (omega arith)) ∙ ap (λ k. k ∷ []) (sym (long_line (b ++ more) long_b))),
      ap (map within_limit) (ended-none (a ++ more) all_a) ∙ sym (ap (map within_limit) (ended-none (b ++ more) all_b)),
    )
same_at a b more (Some n) e na nb la lb =
    let (first, split) = split_first more n e in
    let part = take n more in
    let rest = drop (n + 1) more in
    let in_a : HasNoLineFeed (a ++ part) = All-append (λ c. is_line_feed c ≡ false) a part na first in
    let in_b : HasNoLineFeed (b ++ part) = All-append (λ c. is_line_feed c ≡ false) b part nb first in (
      ap (λ m. map within_limit (lines (a ++ m))) split ∙ long_first lines a part rest (lines-first (a ++ part) rest in_a) la
          ∙ sym (ap (λ m. map within_limit (lines (b ++ m))) split ∙ long_first lines b part rest (lines-first (b ++ part) rest in_b) lb),
      ap (λ m. map within_limit (ended_lines (a ++ m))) split ∙ long_first ended_lines a part rest (ended-first (a ++ part) rest in_a) la
          ∙ sym (ap (λ m. map within_limit (ended_lines (b ++ m))) split ∙ long_first ended_lines b part rest (ended-first (b ++ part) rest in_b) lb),
    )

-- two fronts of a line that is too long
same_long : (a b : List ℕ) → HasNoLineFeed a → HasNoLineFeed b → 16385 < length a → 16385 < length b → length b ≤ length a → SameLines a b
unfolding lines_or_too_long ended_lines_or_too_long
same_long a b na nb la lb le = record {
  all = λ more. (same_at a b more (position is_line_feed more) refl na nb la lb).0;
  ended = λ more. (same_at a b more (position is_line_feed more) refl na nb la lb).1;
  fewer = omega arith;
}

-- what is behind the filler stays too long
pub filler_behind : (rest : List ℕ) → HasNoLineFeed (filler ++ rest) → SameLines (filler ++ rest) filler
filler_behind rest none = same_long (filler ++ rest) filler none filler-none
    (omega (arith, length-append filler rest, length-filler)) (omega (arith, length-filler)) (omega (arith, length-append filler rest))

-- and so does what is held, where it is too long
pub filler_for : (rest : List ℕ) → HasNoLineFeed rest → 16385 < length rest → SameLines rest filler
filler_for rest none long = same_long rest filler none filler-none long (omega (arith, length-filler)) (omega (arith, length-filler))

-- what was cut is let go
pub turned : (held : List ℕ) (at rest : ℕ) → at ≤ length held → rest ≡ length held - at → take rest (drop at held ++ take at held) ≡ drop at held
turned held at rest within e = take_at (drop at held) (take at held) rest (omega (arith, length-drop at held))

front-none : (long : Bool) → HasNoLineFeed (front_of long)
front-none true = filler-none
front-none false = All-nil _

-- no line feed is left
pub no_feed_left : (held bytes : List ℕ) (at : ℕ) (long : Bool) → front_of long ++ drop at held ≡ bytes → position is_line_feed (drop at held) ≡ None → HasNoLineFeed bytes
no_feed_left held bytes at long view e = subst HasNoLineFeed view (All-append (λ b. is_line_feed b ≡ false) (front_of long) (drop at held) (front-none long) (none_first (drop at held) e))

-- the part up to the first line feed, with what was let go before it
takes_part : (held bytes new : List ℕ) (at n : ℕ) (long : Bool) (line : Option (List ℕ)) → front_of long ++ drop at held ≡ bytes → position is_line_feed (drop at held) ≡ Some n
    → new ≡ drop (at + n + 1) held → line ≡ within_limit (strip_carriage_return (front_of long ++ take n (drop at held))) → TakesLine bytes new line
takes_part held bytes new at n long line view e same is =
    let (first, split) = split_first (drop at held) n e in
    let place : at + (n + 1) ≡ at + n + 1 = omega arith in
    takes_first bytes new (front_of long ++ take n (drop at held)) line
    (sym view ∙ ap (λ l. front_of long ++ l) split ∙ sym (append_assoc (front_of long) (take n (drop at held)) (10 ∷ drop (n + 1) (drop at held)))
    ∙ ap (λ l. (front_of long ++ take n (drop at held)) ++ 10 ∷ l) (drop-drop (n + 1) at held ∙ ap (λ k. drop k held) place ∙ sym same))
    (All-append (λ b. is_line_feed b ≡ false) (front_of long) (take n (drop at held)) (front-none long) first)
    is

behind_filler : (part : List ℕ) → None ≡ within_limit (strip_carriage_return (filler ++ part))
behind_filler part = long_line (filler ++ part) (omega (arith, length-append filler part, length-filler))

-- the lines that a line feed may have ended
pub takes_long : (held bytes : List ℕ) (at n : ℕ) (long : Bool) → front_of long ++ drop at held ≡ bytes → position is_line_feed (drop at held) ≡ Some n → long ≡ true → TakesLine bytes (drop (at + n + 1) held) None
takes_long held bytes at n long view e is =
    takes_part held bytes (drop (at + n + 1) held) at n long None view e refl (behind_filler (take n (drop at held)) ∙ ap (λ b. within_limit (strip_carriage_return (front_of b ++ take n (drop at held)))) (sym is))

pub takes_held : (held bytes new text : List ℕ) (at n : ℕ) (long : Bool) (line : Option (List ℕ)) → front_of long ++ drop at held ≡ bytes → position is_line_feed (drop at held) ≡ Some n → long ≡ false
    → new ≡ front_of long ++ drop (at + n + 1) held → text ≡ strip_carriage_return (take (at + n - at) (drop at held)) → line ≡ within_limit text → TakesLine bytes new line
takes_held held bytes new text at n long line view e is same l k =
    let len : at + n - at ≡ n = omega arith in
    takes_part held bytes new at n long line view e (same ∙ ap (λ b. front_of b ++ drop (at + n + 1) held) is)
    (k ∙ ap within_limit (l ∙ ap (λ m. strip_carriage_return (take m (drop at held))) len) ∙ ap (λ b. within_limit (strip_carriage_return (front_of b ++ take n (drop at held)))) (sym is))

-- the last line
pub takes_last_long : (held bytes : List ℕ) (at end : ℕ) (long : Bool) → front_of long ++ drop at held ≡ bytes → HasNoLineFeed bytes → long ≡ true → length held ≤ end → TakesLast bytes (drop end held) None
takes_last_long held bytes at end long view none is all =
    let same : bytes ≡ filler ++ drop at held = sym view ∙ ap (λ b. front_of b ++ drop at held) is in
    takes_last bytes (drop end held) None none (omega (arith, ap length same, length-append filler (drop at held), length-filler))
    (behind_filler (drop at held) ∙ ap (λ l. within_limit (strip_carriage_return l)) (sym same))
    (drop_all end held all)

pub takes_last_held : (held bytes new text : List ℕ) (at end : ℕ) (long : Bool) (line : Option (List ℕ)) → front_of long ++ drop at held ≡ bytes → HasNoLineFeed bytes → long ≡ false → length held ≤ end → at < length held
    → new ≡ front_of long ++ drop end held → text ≡ strip_carriage_return (take (end - at) (drop at held)) → line ≡ within_limit text → TakesLast bytes new line
takes_last_held held bytes new text at end long line view none is all within same l k =
    let here : bytes ≡ drop at held = sym view ∙ ap (λ b. front_of b ++ drop at held) is in
    let whole : take (end - at) (drop at held) ≡ drop at held = take_all (end - at) (drop at held) (omega (arith, length-drop at held)) in
    takes_last bytes new line none (omega (arith, ap length here, length-drop at held))
    (k ∙ ap within_limit (l ∙ ap strip_carriage_return (whole ∙ sym here)))
    (same ∙ ap (λ b. front_of b ++ drop end held) is ∙ drop_all end held all)

-- nothing is left
pub nothing_left : (held bytes : List ℕ) (at : ℕ) (long : Bool) → front_of long ++ drop at held ≡ bytes → long ≡ false → length held ≤ at → bytes ≡ []
nothing_left held bytes at long view is past = sym view ∙ ap (λ b. front_of b ++ drop at held) is ∙ drop_all at held past

pub same_nothing : (old new : List ℕ) → old ≡ [] → new ≡ [] → SameLines old new
same_nothing old new a b = record {
  all = λ more. ap (λ l. lines_or_too_long (l ++ more)) (a ∙ sym b);
  ended = λ more. ap (λ l. ended_lines_or_too_long (l ++ more)) (a ∙ sym b);
  fewer = omega (arith, ap length a, ap length b);
}

-- a line that was taken off is found by its length
found_by : (old new : Rest) (long : Bool) → TakesNext old new (if long then None else Some new.line) → Finds old new (if long then Overlong else Line)
found_by old new true h = h
found_by old new false h = h

pub is_found : (old new : Rest) → TakesNext old new (within_limit new.line) → Finds old new (found_of new.line)
is_found old new h = found_by old new (nat_lt LINE_LIMIT (length new.line)) h
