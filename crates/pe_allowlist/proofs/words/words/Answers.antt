use Rattle.std.proofs.Common.{rules, tests, ℕ, List, not, length, ◌==◌}
use Rattle.std.proofs.lemmas.Iterator.Consumers.{map_from_collect, YieldsList-from_filter, YieldsList-at}
use Rattle.std.proofs.lemmas.Iterator.Splits.{YieldsList-from_slice_split}
use Rattle.pe_allowlist.specs.AsciiWords.{is_ascii_whitespace, ascii_words}
use Rattle.pe_allowlist.proofs.WordLaws.{pieces-split}
use Rattle.pe_allowlist.proofs.words.words.Goals as goal

pub returns : goal.returns
unfolding ascii_words
returns c =
    rw (← pieces-split is_ascii_whitespace c.args.text.now)
    (map_from_collect _ c.collect.ensures.ran
    (YieldsList-from_filter _ (λ (word : List ℕ). not (length word == 0))
    (YieldsList-at c.filter.ensures.source (YieldsList-from_slice_split _ is_ascii_whitespace c.args.text.now c.split.ensures.rest c.split.ensures.done c.split.ensures.closure (λ x b q k. search (rules, tests))))
    c.filter.ensures.closure (λ x r q k. search (rules, tests))))
