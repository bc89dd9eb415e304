use Rattle.std.proofs.Common.{ap, ◌∙◌, option_map}
use Rattle.pe_script.proofs.Takes.{by_none, by_some, frame_alone, on_frame_left}
use Rattle.pe_script.proofs.verbs.frames.frame_alone.Goals as goal

pub returns-in_err-one : goal.returns-in_err-one
returns-in_err-one c = λ make. ap (option_map make) c.from_residual.ensures ∙ by_none _ _ (frame_alone make) (on_frame_left make _) c.in_err-one.ensures

pub returns : goal.returns
returns c = λ make. by_some _ (option_map make c.object.result) _ (frame_alone make) c.in_ok-one.field-0 (on_frame_left make _) c.in_ok-one.ensures (ap (option_map make) c.object.ensures)
