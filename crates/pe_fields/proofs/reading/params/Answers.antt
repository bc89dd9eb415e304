use Rattle.std.proofs.Common.{ap, Some, refl}
use Rattle.pe_fields.specs.Reading.{param_at, params_at}
use Rattle.pe_fields.proofs.Loops.{all_goes_on, all_ends}
use Rattle.pe_fields.proofs.Sound.{param_shrinks}
use Rattle.pe_fields.proofs.reading.params.Goals as goal

pub params-init : goal.params-init
unfolding params_at
params-init c = rw c.new-params.ensures.items refl

pub params-smaller : goal.params-smaller
params-smaller c = param_shrinks c.params.rest.now _ c.in-Ok.ensures

pub params-preserved : goal.params-preserved
params-preserved c =
    rw c.in_ok-push-in-Ok.ensures.items (all_goes_on param_at param_shrinks c.params.params.items c.params.rest.now c.in-Ok.param c.in-Ok.after.now (params_at c.args.bytes.now) c.in-Ok.ensures c.params.invariant)

pub returns-in-Err-Malformed : goal.returns-in-Err-Malformed
returns-in-Err-Malformed c =
    rw c.of.ensures (ap Some (all_ends param_at param_shrinks c.params.params.items c.params.rest.now (params_at c.args.bytes.now) (rw c.in-Err-Malformed.field-0-is at c.in-Err-Malformed.ensures) c.params.invariant))
