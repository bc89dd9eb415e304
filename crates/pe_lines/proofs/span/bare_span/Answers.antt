use Rattle.std.proofs.Common.{◌≡◌, ◌+◌, ◌-◌, ◌≤◌, drop, take, length, sym, ◌∙◌, ap, true, false, arith}
use Rattle.std.specs.List.{position_or_len}
use Rattle.std.proofs.lemmas.List.{take_rest, length-take}
use Rattle.pe_lines.specs.Grammar.{ends_bare, ends_word}
use Rattle.pe_lines.proofs.Found.{bare_is_word, bare_is_none}
use Rattle.pe_lines.proofs.span.bare_span.Goals as goal

pub returns-then-not-ends_word-clause-none : goal.returns-then-not-ends_word-clause-none
returns-then-not-ends_word-clause-none c =
    let line = c.args.line.now in
    let start = c.args.start in
    let n = c.bare_len.result in
    let len : n ≡ position_or_len ends_bare (drop start line) = rw take_rest at c.bare_len.ensures.len in
    let apart : ends_word (drop (start + n) line) ≡ false = rw take_rest at (sym c.ends_word.ensures ∙ c.if-not-ends_word.true) in
    bare_is_none line start n c.requires.within c.requires.bare len apart

pub returns-clause-word : goal.returns-clause-word
returns-clause-word c =
    let line = c.args.line.now in
    let start = c.args.start in
    let n = c.bare_len.result in
    let len : n ≡ position_or_len ends_bare (drop start line) = rw take_rest at c.bare_len.ensures.len in
    let short : n ≤ length (drop start line) = rw take_rest at c.bare_len.ensures.within in
    let apart : ends_word (drop (start + n) line) ≡ true = rw take_rest at (sym c.ends_word.ensures ∙ c.if-not-ends_word.false) in
    let text : take (start + n - start) (drop start line) ≡ take n (drop start line) = ap (λ k. take k (drop start line)) (omega arith) in
    let from : start + n - length (take (start + n - start) (drop start line)) ≡ start = omega (arith, short, length-take n (drop start line), ap length text) in
    bare_is_word line start n _ _ c.requires.within c.requires.bare len short apart text from
