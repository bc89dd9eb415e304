use Rattle.std.proofs.Common.{◌≡◌, Some, None, option_map, ◌∙◌, sym, ap}
use Rattle.std.specs.Prelude.{option_and_then}
use Rattle.pe_lines.specs.Words.{words_of}
use Rattle.pe_script.specs.Reading.{timed_of}
use Rattle.pe_script.specs.Answering.{timed}
use Rattle.pe_script.proofs.LineReadings.{reading-of-bad-byte, reading-by-words, broken-answers, fits-by-words}
use Rattle.pe_script.proofs.reading.read_line.Goals as goal

pub returns-in_default : goal.returns-in_default
returns-in_default c = reading-of-bad-byte c.args.line.now c.requires c.in_default.ensures.bad_byte

pub returns-in_default-read_head : goal.returns-in_default-read_head
returns-in_default-read_head c =
    let none : option_and_then timed_of (words_of c.args.line.now) ≡ None = ap (option_and_then timed_of) (sym c.in-Some.ensures.words) ∙ c.in_default-read_head.ensures in
    reading-by-words c.args.line.now None c.requires c.in-Some.ensures.good none

pub returns-in_err-event : goal.returns-in_err-event
returns-in_err-event c =
    let head = ap (option_and_then timed_of) (sym c.in-Some.ensures.words) ∙ c.in-Some-read_head.ensures in
    broken-answers _ _ c.in-Some-read_head.time _ c.from_residual.result c.from_residual.ensures.1 (reading-by-words c.args.line.now _ c.requires c.in-Some.ensures.good head) c.in_err-event.ensures

pub invariant_of-result : goal.invariant_of-result
invariant_of-result c =
    let time = c.in-Some-read_head.time in
    let head = ap (option_and_then timed_of) (sym c.in-Some.ensures.words) ∙ c.in-Some-read_head.ensures in
    let said : option_and_then timed_of (words_of c.args.line.now) ≡ Some (timed time c.in_ok-event.event) = head ∙ ap (option_map (timed time)) (sym c.in_ok-event.ensures) in
    let fits = fits-by-words (words_of c.args.line.now) time c.in_ok-event.event c.in-Some.ensures.plain said in
    record { in_time = fits.time; fitting = fits.event }

pub returns : goal.returns
returns c =
    let time = c.in-Some-read_head.time in
    let head = ap (option_and_then timed_of) (sym c.in-Some.ensures.words) ∙ c.in-Some-read_head.ensures in
    reading-by-words c.args.line.now (Some (timed time c.in_ok-event.event)) c.requires c.in-Some.ensures.good (head ∙ ap (option_map (timed time)) (sym c.in_ok-event.ensures))
