use Rattle.std.proofs.Common.{◌≡◌, ◌+◌, ◌<◌, length, arith}
use Rattle.pe_lines.proofs.Found.{first_escape, last_slash, no_escape}
use Rattle.pe_lines.proofs.span.next_escape.Goals as goal

pub returns-in_err-place-clause-none : goal.returns-in_err-place-clause-none
returns-in_err-place-clause-none c = rw c.from_residual.ensures (no_escape c.args.bytes.now c.in_err-place.ensures)

pub returns-then-place-bytes-clause-none : goal.returns-then-place-bytes-clause-none
returns-then-place-bytes-clause-none c = last_slash c.args.bytes.now c.in_ok-place.place c.in_ok-place.ensures c.if-place-bytes.true

pub returns-clause-first : goal.returns-clause-first
returns-clause-first c =
    let (before, here) = c.in_ok-place.ensures in
    let within : c.in_ok-place.place + 1 < length c.args.bytes.now = omega (arith, before.high, c.if-place-bytes.false) in
    first_escape c.args.bytes.now c.in_ok-place.place c.in_ok-place.ensures within
