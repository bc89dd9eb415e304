-- Where the first part of a list of bytes ends, and what that says of its lines.
use Rattle.std.proofs.Common.{◌≡◌, ℕ, ◌+◌, ◌-◌, ◌<◌, ◌≤◌, true, false, List, [], ◌∷◌, ◌++◌, Option, Some, None, length, map, take, drop, get_or, sym, ap, ◌∙◌, refl, arith, cond, append_assoc, length-append, zero-add}
use Rattle.std.specs.List.{position, position_or_len, onto_first}
use Rattle.std.specs.Str.Lines.{strip_carriage_return}
use Rattle.std.proofs.lemmas.List.{get_or-take, length-take, length-drop, drop-drop, map-append, take-append-drop}
use Rattle.std.proofs.lemmas.List.Elements.{All-head, All-tail}
use Rattle.std.proofs.lemmas.List.Sums.{fails_before_first, passes_at_first, split_at_first}
use Rattle.std.proofs.lemmas.List.Splits.{slice_split_at, slice_split_none, length-slice_split}
use Rattle.std.proofs.lemmas.Bool.Decides.{nat_tests}
use Rattle.std.proofs.lemmas.Bool.{eqb-true}
use Rattle.pe_lines.specs.Lines.{is_line_feed, HasNoLineFeed, within_limit, parts, but_last, counted, lines, ended_lines, lines_or_too_long, ended_lines_or_too_long}
use Rattle.pe_lines.specs.Cutting.{TakesLine, TakesLast}

-- ---- the first line feed

no_feed_before : (bytes : List ℕ) → HasNoLineFeed (take (position_or_len is_line_feed bytes) bytes)
no_feed_before bytes k d h =
    let n = position_or_len is_line_feed bytes in
    let small : k < n = omega (arith, length-take n bytes) in
    rw get_or-take (fails_before_first is_line_feed bytes k d small)

position_some : (bytes : List ℕ) (n : ℕ) → position is_line_feed bytes ≡ Some n → (position_or_len is_line_feed bytes ≡ n) × (position_or_len is_line_feed bytes < length bytes)
position_some bytes n e = grind (arith, nat_tests)

position_none : (bytes : List ℕ) → position is_line_feed bytes ≡ None → length bytes ≤ position_or_len is_line_feed bytes
position_none bytes e = grind (arith, nat_tests)

-- where the first line feed stands the bytes are a part, the line feed and a rest
pub split_first : (bytes : List ℕ) (n : ℕ) → position is_line_feed bytes ≡ Some n → HasNoLineFeed (take n bytes) × (bytes ≡ take n bytes ++ 10 ∷ drop (n + 1) bytes)
split_first bytes n e =
    let (at, within) = position_some bytes n e in
    let feed : get_or bytes (position_or_len is_line_feed bytes) 10 ≡ 10 = eqb-true _ _ (passes_at_first is_line_feed bytes 10 within) in
    rw (← at) (no_feed_before bytes, split_at_first is_line_feed bytes 10 within ∙ ap (λ b. take (position_or_len is_line_feed bytes) bytes ++ b ∷ drop (position_or_len is_line_feed bytes + 1) bytes) feed)

pub none_first : (bytes : List ℕ) → position is_line_feed bytes ≡ None → HasNoLineFeed bytes
none_first bytes e k d h = let past = position_none bytes e in fails_before_first is_line_feed bytes k d (omega arith)

-- the first line feed behind bytes that have none
first_behind : (xs ys : List ℕ) → HasNoLineFeed xs → position_or_len is_line_feed (xs ++ ys) ≡ length xs + position_or_len is_line_feed ys
first_behind [] ys none = sym (zero-add (position_or_len is_line_feed ys))
first_behind (x ∷ xs) ys none =
    let this : is_line_feed x ≡ false = All-head (λ b. is_line_feed b ≡ false) x xs none in
    let more = first_behind xs ys (All-tail (λ b. is_line_feed b ≡ false) x xs none) in
    rw this (omega (arith, more))

some_position : (bytes : List ℕ) (n : ℕ) → position_or_len is_line_feed bytes ≡ n → n < length bytes → Some n ≡ position is_line_feed bytes
some_position bytes n e h = grind (arith, nat_tests)

no_position : (bytes : List ℕ) → length bytes ≤ position_or_len is_line_feed bytes → None ≡ position is_line_feed bytes
no_position bytes h = grind (arith, nat_tests)

behind_parts : (held : List ℕ) (at scanned : ℕ) → at ≤ scanned → drop at held ≡ take (scanned - at) (drop at held) ++ drop scanned held
behind_parts held at scanned a =
    let place : at + (scanned - at) ≡ scanned = omega arith in
    sym (take-append-drop (scanned - at) (drop at held)) ∙ ap (λ l. take (scanned - at) (drop at held) ++ l) (drop-drop (scanned - at) at held ∙ ap (λ k. drop k held) place)

looked_length : (held : List ℕ) (at scanned : ℕ) → at ≤ scanned → scanned ≤ length held → length (take (scanned - at) (drop at held)) ≡ scanned - at
looked_length held at scanned a b = omega (arith, length-take (scanned - at) (drop at held), length-drop at held)

pub found_behind : (held : List ℕ) (at scanned n : ℕ) → at ≤ scanned → scanned ≤ length held → HasNoLineFeed (take (scanned - at) (drop at held)) → position is_line_feed (drop scanned held) ≡ Some n
    → Some (scanned - at + n) ≡ position is_line_feed (drop at held)
found_behind held at scanned n a b none e =
    let (here, within) = position_some (drop scanned held) n e in
    let looked = take (scanned - at) (drop at held) in
    let count : position_or_len is_line_feed (looked ++ drop scanned held) ≡ scanned - at + n = first_behind looked (drop scanned held) none ∙ omega (arith, looked_length held at scanned a b, here) in
    let whole : length (looked ++ drop scanned held) ≡ scanned - at + length (drop scanned held) = length-append looked (drop scanned held) ∙ omega (arith, looked_length held at scanned a b) in
    some_position (looked ++ drop scanned held) (scanned - at + n) count (omega arith) ∙ ap (position is_line_feed) (sym (behind_parts held at scanned a))

pub none_behind : (held : List ℕ) (at scanned : ℕ) → at ≤ scanned → scanned ≤ length held → HasNoLineFeed (take (scanned - at) (drop at held)) → position is_line_feed (drop scanned held) ≡ None
    → None ≡ position is_line_feed (drop at held)
none_behind held at scanned a b none e =
    let past = position_none (drop scanned held) e in
    let looked = take (scanned - at) (drop at held) in
    let count = first_behind looked (drop scanned held) none in
    no_position (looked ++ drop scanned held) (omega (arith, count, past, length-append looked (drop scanned held))) ∙ ap (position is_line_feed) (sym (behind_parts held at scanned a))

-- ---- lines by their parts

counted-cons : (part : List ℕ) (more : List (List ℕ)) → 0 < length more → counted (part ∷ more) ≡ part ∷ counted more
counted-cons part [] h = absurd (omega arith)
counted-cons part (next ∷ more) h = refl

but_last-cons : (part : List ℕ) (more : List (List ℕ)) → 0 < length more → but_last (part ∷ more) ≡ part ∷ but_last more
but_last-cons part [] h = absurd (omega arith)
but_last-cons part (next ∷ more) h = refl

some_part : (bytes : List ℕ) → 0 < length (parts bytes)
some_part bytes = omega (arith, length-slice_split is_line_feed bytes)

pub lines-first : (part rest : List ℕ) → HasNoLineFeed part → lines (part ++ 10 ∷ rest) ≡ strip_carriage_return part ∷ lines rest
unfolding lines
lines-first part rest h =
    ap (λ all. map strip_carriage_return (counted all)) (slice_split_at is_line_feed part 10 rest h refl)
    ∙ ap (λ all. map strip_carriage_return all) (counted-cons part (parts rest) (some_part rest))

pub ended-first : (part rest : List ℕ) → HasNoLineFeed part → ended_lines (part ++ 10 ∷ rest) ≡ strip_carriage_return part ∷ ended_lines rest
unfolding ended_lines
ended-first part rest h =
    ap (λ all. map strip_carriage_return (but_last all)) (slice_split_at is_line_feed part 10 rest h refl)
    ∙ ap (λ all. map strip_carriage_return all) (but_last-cons part (parts rest) (some_part rest))

pub ended-none : (part : List ℕ) → HasNoLineFeed part → ended_lines part ≡ []
unfolding ended_lines
ended-none part h = ap (λ all. map strip_carriage_return (but_last all)) (slice_split_none is_line_feed part h)

counted-one : (part : List ℕ) → 0 < length part → counted (part ∷ []) ≡ part ∷ []
counted-one part h = grind (arith, nat_tests)

pub lines-last : (part : List ℕ) → HasNoLineFeed part → 0 < length part → lines part ≡ strip_carriage_return part ∷ []
unfolding lines
lines-last part h some = ap (λ all. map strip_carriage_return (counted all)) (slice_split_none is_line_feed part h) ∙ ap (λ all. map strip_carriage_return all) (counted-one part some)

pub told-none : (part : List ℕ) → HasNoLineFeed part → ended_lines_or_too_long part ≡ []
unfolding ended_lines_or_too_long
told-none part h = ap (map within_limit) (ended-none part h)

-- a line that a line feed ended is taken off
pub takes_first : (old new part : List ℕ) (line : Option (List ℕ)) → old ≡ part ++ 10 ∷ new → HasNoLineFeed part → line ≡ within_limit (strip_carriage_return part) → TakesLine old new line
unfolding lines_or_too_long ended_lines_or_too_long
takes_first old new part line was first is = record {
  all = λ more. ap (λ l. map within_limit (lines (l ++ more))) was ∙ ap (λ l. map within_limit (lines l)) (append_assoc part (10 ∷ new) more)
      ∙ ap (map within_limit) (lines-first part (new ++ more) first) ∙ ap (λ l. l ∷ map within_limit (lines (new ++ more))) (sym is);
  ended = λ more. ap (λ l. map within_limit (ended_lines (l ++ more))) was ∙ ap (λ l. map within_limit (ended_lines l)) (append_assoc part (10 ∷ new) more)
      ∙ ap (map within_limit) (ended-first part (new ++ more) first) ∙ ap (λ l. l ∷ map within_limit (ended_lines (new ++ more))) (sym is);
  fewer = omega (arith, ap length was, length-append part (10 ∷ new));
}

-- the last line is taken off
pub takes_last : (old new : List ℕ) (line : Option (List ℕ)) → HasNoLineFeed old → 0 < length old → line ≡ within_limit (strip_carriage_return old) → new ≡ [] → TakesLast old new line
unfolding lines_or_too_long
takes_last old new line first some is nothing = record {
  all = ap (map within_limit) (lines-last old first some) ∙ ap (λ l. l ∷ []) (sym is);
  ended = told-none old first;
  nothing = nothing;
}

-- ---- what comes behind adds lines and takes none away

-- a byte more before the first part changes none of those behind it
but_last-onto : (b : ℕ) (ps : List (List ℕ)) (p : List ℕ) (more : List (List ℕ)) → but_last ps ≡ p ∷ more → but_last (onto_first b ps) ≡ (b ∷ p) ∷ more
but_last-onto b [] p more e = cc
but_last-onto b (q ∷ []) p more e = cc
but_last-onto b (q ∷ r ∷ ps) p more e = cc

but_last-grows-byte : (b : ℕ) (ps qs : List (List ℕ)) → ((rest : List (List ℕ)) × (but_last qs ≡ but_last ps ++ rest)) → (rest : List (List ℕ)) × (but_last (onto_first b qs) ≡ but_last (onto_first b ps) ++ rest)
but_last-grows-byte b [] qs (rest, e) = (but_last (onto_first b qs), refl)
but_last-grows-byte b (p ∷ []) qs (rest, e) = (but_last (onto_first b qs), refl)
but_last-grows-byte b (p ∷ q ∷ ps) qs (rest, e) = (rest, but_last-onto b qs p (but_last (q ∷ ps) ++ rest) e)

but_last-grows : (xs ys : List ℕ) → (rest : List (List ℕ)) × (but_last (parts (xs ++ ys)) ≡ but_last (parts xs) ++ rest)
but_last-grows [] ys = (but_last (parts ys), refl)
but_last-grows (x ∷ xs) ys =
    elim (is_line_feed x) as (λ v. (rest : List (List ℕ)) × (but_last (cond v ([] ∷ parts (xs ++ ys)) (onto_first x (parts (xs ++ ys)))) ≡ but_last (cond v ([] ∷ parts xs) (onto_first x (parts xs))) ++ rest)) [
      | true ↦ let (rest, e) = but_last-grows xs ys in (rest, but_last-cons [] (parts (xs ++ ys)) (some_part (xs ++ ys)) ∙ ap (λ ls. [] ∷ ls) e ∙ ap (λ ls. ls ++ rest) (sym (but_last-cons [] (parts xs) (some_part xs))))
      | false ↦ but_last-grows-byte x (parts xs) (parts (xs ++ ys)) (but_last-grows xs ys)
    ]

counted-grows : (ps : List (List ℕ)) → (rest : List (List ℕ)) × (counted ps ≡ but_last ps ++ rest)
counted-grows [] = ([], refl)
counted-grows (p ∷ []) = (counted (p ∷ []), refl)
counted-grows (p ∷ q ∷ ps) = let (rest, e) = counted-grows (q ∷ ps) in (rest, ap (λ ls. p ∷ ls) e)

-- the lines that are ended stay, whatever comes behind
pub ended-grows : (xs ys : List ℕ) → (rest : List (Option (List ℕ))) × (ended_lines_or_too_long (xs ++ ys) ≡ ended_lines_or_too_long xs ++ rest)
unfolding ended_lines ended_lines_or_too_long
ended-grows xs ys =
    let (rest, e) = but_last-grows xs ys in (
      map within_limit (map strip_carriage_return rest),
      ap (λ ls. map within_limit (map strip_carriage_return ls)) e ∙ ap (map within_limit) (map-append strip_carriage_return (but_last (parts xs)) rest)
          ∙ map-append within_limit (map strip_carriage_return (but_last (parts xs))) (map strip_carriage_return rest),
    )

pub lines-grows : (xs : List ℕ) → (rest : List (Option (List ℕ))) × (lines_or_too_long xs ≡ ended_lines_or_too_long xs ++ rest)
unfolding lines ended_lines lines_or_too_long ended_lines_or_too_long
lines-grows xs =
    let (rest, e) = counted-grows (parts xs) in (
      map within_limit (map strip_carriage_return rest),
      ap (λ ls. map within_limit (map strip_carriage_return ls)) e ∙ ap (map within_limit) (map-append strip_carriage_return (but_last (parts xs)) rest)
          ∙ map-append within_limit (map strip_carriage_return (but_last (parts xs))) (map strip_carriage_return rest),
    )

pub told-nothing : (bytes : List ℕ) → bytes ≡ [] → ended_lines_or_too_long bytes ≡ []
unfolding ended_lines ended_lines_or_too_long
told-nothing bytes e = ap (λ l. map within_limit (ended_lines l)) e
