use Rattle.std.proofs.Common.{arith}
use Rattle.std.proofs.lemmas.Bool.Decides.{nat_tests}
use Rattle.pe_origin.proofs.UsualUrls.{named_by_label}
use Rattle.pe_origin.proofs.usual.is_named.Goals as goal

pub returns-in-len1-up : goal.returns-in-len1-up
returns-in-len1-up c h =
    named_by_label c.args.host.now c.last_label.result.now c.last_label.ensures (omega (arith, c.in-len1-up.len_at_least))
    (grind (arith, nat_tests, h, c.is_ascii_digit.ensures.value))
