use Rattle.std.proofs.Common.{◌≡◌, length}
use Rattle.pe_fields.specs.Reading.{param_at, params_at}
use Rattle.pe_fields.proofs.Loops.{with_front, all}
use Rattle.pe_fields.proofs.reading.params.Given as goal

abbrev pub invariant-params : goal.invariant-params
invariant-params l = with_front l.params.items (all param_at l.rest) ≡ params_at l.fn.bytes

abbrev pub decreases-params : goal.decreases-params
decreases-params l = length l.rest
