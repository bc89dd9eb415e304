use Rattle.std.proofs.Common.{rules, tests}
use Rattle.std.proofs.lemmas.Iterator.Consumers.{map_from_collect}
use Rattle.std.proofs.lemmas.Iterator.Splits.{YieldsList-from_slice_split}
use Rattle.pe_allowlist.specs.ContainerPolicy.{is_semicolon}
use Rattle.pe_allowlist.proofs.WordLaws.{pieces-split}
use Rattle.pe_allowlist.proofs.words.pieces.Goals as goal

pub returns : goal.returns
returns c =
    rw (← pieces-split is_semicolon c.args.text.now)
    (map_from_collect _ c.collect.ensures.ran (YieldsList-from_slice_split _ is_semicolon c.args.text.now c.split.ensures.rest c.split.ensures.done c.split.ensures.closure (λ x b q k. search (rules, tests))))
