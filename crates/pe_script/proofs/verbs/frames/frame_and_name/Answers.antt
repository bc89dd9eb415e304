use Rattle.std.proofs.Common.{ℕ, List, None, Some, ap, ◌∙◌, option_map, option_and_then}
use Rattle.pe_script.specs.Numerals.{bare}
use Rattle.pe_script.proofs.Takes.{by_none, by_some, frame_and_name, named, with_name_left}
use Rattle.pe_script.proofs.verbs.frames.frame_and_name.Goals as goal

pub returns-in_err-frame : goal.returns-in_err-frame
returns-in_err-frame c = λ make. ap (option_map (λ (pair : ℕ × List ℕ). make pair.0 pair.1)) c.from_residual.ensures ∙ by_none _ _ (frame_and_name make) (with_name_left make _) c.in_err-frame.ensures

pub returns-in_err-frame-2 : goal.returns-in_err-frame-2
returns-in_err-frame-2 c = λ make.
    ap (option_map (λ (pair : ℕ × List ℕ). make pair.0 pair.1)) c.from_residual-in_err-frame-2.ensures
    ∙ by_some _ None _ (frame_and_name make) (c.in_ok-frame.frame, c.in_ok-frame.name) (with_name_left make _) c.in_ok-frame.ensures
    (ap (option_and_then (λ (f : ℕ). option_map (make f) (bare c.in_ok-frame.name))) c.in_err-frame-2.ensures)

pub returns-in_err-name : goal.returns-in_err-name
returns-in_err-name c = λ make.
    ap (option_map (λ (pair : ℕ × List ℕ). make pair.0 pair.1)) c.from_residual-in_err-name.ensures
    ∙ by_some _ None _ (frame_and_name make) (c.in_ok-frame.frame, c.in_ok-frame.name) (with_name_left make _) c.in_ok-frame.ensures
    (named make c.in_ok-frame.frame c.in_ok-frame.name c.in_ok-frame-2.frame None c.in_ok-frame-2.ensures c.in_err-name.ensures)

pub returns : goal.returns
returns c = λ make.
    by_some _ (Some (make c.in_ok-frame-2.frame c.in_ok-name.name)) _ (frame_and_name make) (c.in_ok-frame.frame, c.in_ok-frame.name) (with_name_left make _) c.in_ok-frame.ensures
    (named make c.in_ok-frame.frame c.in_ok-frame.name c.in_ok-frame-2.frame (Some c.in_ok-name.name) c.in_ok-frame-2.ensures c.in_ok-name.ensures)
