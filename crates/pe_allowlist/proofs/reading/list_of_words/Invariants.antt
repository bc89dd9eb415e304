use Rattle.std.proofs.Common.{◌≡◌, map, take}
use Rattle.std.specs.List.{fold}
use Rattle.pe_allowlist.specs.Allowlists.{empty_list}
use Rattle.pe_allowlist.specs.ContainerPolicy.{with_word}
use Rattle.pe_allowlist.proofs.reading.list_of_words.Given as goal

abbrev pub invariant-loop-word : goal.invariant-loop-word
invariant-loop-word l = l.list ≡ fold (with_word l.embedder l.declared) empty_list (take l.word-index (map (λ x. x.now) l.words))
