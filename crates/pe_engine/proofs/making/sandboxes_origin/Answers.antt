use Rattle.std.proofs.Common.{rules, tests, ℕ, List, not, length, ◌==◌, ap, bytes_eq, codes}
use Rattle.std.proofs.lemmas.Iterator.Consumers.{YieldsList-from_filter, YieldsList-at}
use Rattle.std.proofs.lemmas.Iterator.Search.{any_from_yields_List}
use Rattle.std.proofs.lemmas.Iterator.Splits.{YieldsList-from_slice_split}
use Rattle.pe_allowlist.specs.AsciiWords.{is_ascii_whitespace, ascii_words, lowercase}
use Rattle.pe_rules.specs.Origins.{sandboxes_origin}
use Rattle.pe_engine.proofs.Words.{pieces-split}
use Rattle.pe_engine.proofs.making.sandboxes_origin.Goals as goal

pub returns : goal.returns
unfolding sandboxes_origin ascii_words
returns c =
    rw (← pieces-split is_ascii_whitespace c.args.value.now)
    (ap not (any_from_yields_List (λ (w : List ℕ). bytes_eq (lowercase w) (codes "allow-same-origin")) _ _ _ c.any.ensures.ran
    (YieldsList-from_filter _ (λ (word : List ℕ). not (length word == 0))
    (YieldsList-at c.filter.ensures.source (YieldsList-from_slice_split _ is_ascii_whitespace c.args.value.now c.split.ensures.rest c.split.ensures.done c.split.ensures.closure (λ x b q k. search (rules, tests))))
    c.filter.ensures.closure (λ x r q k. search (rules, tests)))
    (λ x b q k. search (rules, tests))))
