use Rattle.std.proofs.Common.{◌≡◌, Some, None, sym, refl}
use Rattle.pe_fields.specs.Steps.{text_step}
use Rattle.pe_fields.proofs.Texts.{text_fails, text_ends, text_goes_on}
use Rattle.pe_fields.proofs.text.escaped_text.Goals as goal

pub returns-in-None : goal.returns-in-None
returns-in-None c = text_fails c.bytes.text.items c.bytes.rest.now _ (sym c.in-None.ensures) c.bytes.invariant

pub returns-in-Some-None-default : goal.returns-in-Some-None-default
returns-in-Some-None-default c =
    let step : text_step c.bytes.rest.now ≡ Some (None, c.in-Some-None-default.after.now) = rw (← c.text_byte.ensures, c.in-Some-None-default.is, c.in-Some-None-default.field-0-0-is) refl in
    rw c.of.ensures (text_ends c.bytes.text.items c.bytes.rest.now _ _ step c.bytes.invariant)

pub bytes-preserved : goal.bytes-preserved
bytes-preserved c =
    let step : text_step c.bytes.rest.now ≡ Some (Some c.in-Some-Some-default.byte, c.in-Some-Some-default.after.now) = rw (← c.text_byte.ensures, c.in-Some-Some-default.is, c.in-Some-Some-default.field-0-0-is) refl in
    rw c.in_ok-push-in-Some-Some-default.ensures.items (text_goes_on c.bytes.text.items c.bytes.rest.now _ _ _ step c.bytes.invariant)
