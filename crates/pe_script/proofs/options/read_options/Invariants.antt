use Rattle.std.proofs.Common.{◌≡◌, Some, None}
use Rattle.std.specs.Prelude.{option_and_then}
use Rattle.pe_script.specs.OptionSteps.{options_left}
use Rattle.pe_script.specs.Verbs.{options}
use Rattle.pe_script.proofs.options.read_options.Given as goal

abbrev pub invariant-loop-name : goal.invariant-loop-name
invariant-loop-name l = record { so_far : options_left (Some l.given) l.words.words ≡ option_and_then options l.fn.words.words; waiting : l.given.waiting ≡ None }

abbrev pub decreases-loop-name : goal.decreases-loop-name
decreases-loop-name l = l.words.bytes
