-- The words to open so that allowlists and container policies compute on literals.
use Rattle.std.specs.Prelude.{⊤}
use Rattle.pe_origin.proofs.OnLiterals.{origin_on_literals}
use Rattle.pe_allowlist.specs.AsciiWords.{pieces_at, ascii_words}
use Rattle.pe_allowlist.specs.Lists.{lists_of}
use Rattle.pe_allowlist.specs.Expressions.{tuple_at, separator_at, without_star, expression_at}
use Rattle.pe_allowlist.specs.Allowlists.{matches}
use Rattle.pe_allowlist.specs.ContainerPolicy.{with_word, list_by_pieces, container_policy}

-- what an answer unfolds to compute these definitions on a literal
unfoldable pub allowlists_on_literals : ⊤
unfolding origin_on_literals pieces_at ascii_words lists_of tuple_at separator_at without_star expression_at matches with_word list_by_pieces container_policy
allowlists_on_literals = tt
