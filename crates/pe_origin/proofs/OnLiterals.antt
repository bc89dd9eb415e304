-- What a computation of these definitions on literals unfolds.
use Rattle.std.specs.Prelude.{⊤}
use Rattle.std.specs.Str.{is_utf8}
use Rattle.url.proofs.OnLiterals.{url_on_literals}
use Rattle.pe_origin.specs.Schemes.{scheme_named}
use Rattle.pe_origin.specs.Places.{tuple_of, place_of, place_at}

-- the words that a proof lists behind `unfolding` to compute this crate's definitions on literals
unfoldable pub origin_on_literals : ⊤
unfolding url_on_literals is_utf8 scheme_named tuple_of place_of place_at
origin_on_literals = tt
