use Rattle.std.proofs.Common.{◌≡◌, ◌+◌, ◌≤◌, drop, length, sym, ◌∙◌, false, true, arith, refl, [], subst}
use Rattle.std.specs.List.{position_or_len}
use Rattle.std.proofs.lemmas.List.{take_rest}
use Rattle.pe_lines.specs.Grammar.{is_escaped}
use Rattle.pe_lines.specs.Steps.{IsEscapedFront, begins_escape, begins_plain, begins_quote}
use Rattle.pe_lines.proofs.Found.{plain_grows, escape_grows, stops_for_good, never_closes}
use Rattle.pe_lines.proofs.span.quoted_len.Goals as goal

pub loop-at-init : goal.loop-at-init
loop-at-init c =
    let bytes = c.args.bytes.now in
    let n = c.plain_len-at.result in
    let (within, front, stops) = plain_grows bytes 0 n (omega arith) ([], refl) c.plain_len-at.ensures.len c.plain_len-at.ensures.within in
    let same : 0 + n ≡ n = omega arith in
    record { within = c.plain_len-at.ensures.within; front = subst (IsEscapedFront bytes) same front; stops = subst (λ k. begins_plain (drop k bytes) ≡ false) same stops }

pub loop-at-preserved : goal.loop-at-preserved
loop-at-preserved c =
    let bytes = c.args.bytes.now in
    let at = c.loop-at.at in
    let escape : begins_escape (drop at bytes) ≡ true = rw take_rest at (sym c.begins_escape.ensures ∙ c.loop-at-test.true) in
    let (behind, more) = escape_grows bytes at c.loop-at.invariant.within c.loop-at.invariant.front escape in
    let n = c.plain_len-at-in-loop-at.result in
    let len : n ≡ position_or_len is_escaped (drop (at + 2) bytes) = rw take_rest at c.plain_len-at-in-loop-at.ensures.len in
    let short : n ≤ length (drop (at + 2) bytes) = rw take_rest at c.plain_len-at-in-loop-at.ensures.within in
    let (within, front, stops) = plain_grows bytes (at + 2) n behind more len short in
    record { within = within; front = front; stops = stops }

pub returns-clause-never : goal.returns-clause-never
returns-clause-never c =
    let bytes = c.args.bytes.now in
    let at = c.loop-at.at in
    let escape : begins_escape (drop at bytes) ≡ false = rw take_rest at (sym c.begins_escape.ensures ∙ c.loop-at-test.false) in
    let quote : begins_quote (drop at bytes) ≡ false = rw take_rest at (sym c.begins_quote.ensures ∙ c.if-begins_quote.false) in
    never_closes bytes at c.loop-at.invariant.front (stops_for_good (drop at bytes) c.loop-at.invariant.stops escape quote) quote
