use Rattle.std.proofs.Common.{◌≡◌, ◌+◌, ◌-◌, drop, take, length, sym, ◌∙◌, ap, true, false, arith}
use Rattle.std.proofs.lemmas.List.{take_rest, length-take}
use Rattle.pe_lines.specs.Grammar.{ends_word}
use Rattle.pe_lines.specs.Steps.{ClosesAfter, without_escapes}
use Rattle.pe_lines.proofs.Found.{quoted_is_word, quoted_is_none}
use Rattle.pe_lines.proofs.span.quoted_span.Goals as goal

pub returns-then-not-ends_word-clause-none : goal.returns-then-not-ends_word-clause-none
returns-then-not-ends_word-clause-none c =
    let line = c.args.line.now in
    let start = c.args.start in
    let n = c.in_ok-len.len in
    let closes : ClosesAfter (drop (start + 1) line) n = rw take_rest at c.in_ok-len.ensures.closes in
    let apart : ends_word (drop (start + 1 + n + 1) line) ≡ false = rw take_rest at (sym c.ends_word.ensures ∙ c.if-not-ends_word.true) in
    quoted_is_none line start n c.requires.within c.requires.quote closes apart

pub returns-clause-word : goal.returns-clause-word
returns-clause-word c =
    let line = c.args.line.now in
    let start = c.args.start in
    let n = c.in_ok-len.len in
    let closes : ClosesAfter (drop (start + 1) line) n = rw take_rest at c.in_ok-len.ensures.closes in
    let apart : ends_word (drop (start + 1 + n + 1) line) ≡ true = rw take_rest at (sym c.ends_word.ensures ∙ c.if-not-ends_word.false) in
    let inside : take (start + 1 + n - (start + 1)) (drop (start + 1) line) ≡ take n (drop (start + 1) line) = ap (λ k. take k (drop (start + 1) line)) (omega arith) in
    let from : start + 1 + n + 1 - (length (take (start + 1 + n - (start + 1)) (drop (start + 1) line)) + 2) ≡ start = omega (arith, closes.within, length-take n (drop (start + 1) line), ap length inside) in
    quoted_is_word line start n _ _ c.requires.within c.requires.quote closes apart (ap without_escapes inside) from
