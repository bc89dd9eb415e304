use Rattle.std.proofs.Common.{ℕ, None, Some, ap, option_map, option_and_then}
use Rattle.pe_events.specs.declared.event.Event.TheVariants as event
use Rattle.pe_script.specs.Names.{input_kinds, keyword_in}
use Rattle.pe_script.proofs.Takes.{by_none, by_some, frame_and_kind, kind_is, input_left}
use Rattle.pe_script.proofs.verbs.frames.read_input.Goals as goal

pub returns-in_default : goal.returns-in_default
returns-in_default c = by_none _ _ frame_and_kind (input_left _) c.in_default.ensures

pub returns-in_default-object : goal.returns-in_default-object
returns-in_default-object c =
    by_some _ None _ frame_and_kind (c.in-Some.frame, c.in-Some.kind) (input_left _) c.in-Some.ensures (ap (option_and_then (λ (f : ℕ). option_map (event.Input f) (keyword_in input_kinds c.in-Some.kind))) c.in_default-object.ensures)

pub returns-in_default-input_kind : goal.returns-in_default-input_kind
returns-in_default-input_kind c =
    by_some _ None _ frame_and_kind (c.in-Some.frame, c.in-Some.kind) (input_left _) c.in-Some.ensures (kind_is c.in-Some.frame c.in-Some.kind c.in-Some-object.frame None c.in-Some-object.ensures c.in_default-input_kind.ensures)

pub returns : goal.returns
returns c =
    by_some _ (Some (event.Input c.in-Some-object.frame c.in-Some-input_kind.kind)) _ frame_and_kind (c.in-Some.frame, c.in-Some.kind) (input_left _) c.in-Some.ensures
    (kind_is c.in-Some.frame c.in-Some.kind c.in-Some-object.frame (Some c.in-Some-input_kind.kind) c.in-Some-object.ensures c.in-Some-input_kind.ensures)
