-- A name to unfold where the dictionary of literal bytes is to compute.
use Rattle.std.specs.Prelude.{⊤}
use Rattle.pe_fields.specs.Dictionary.{last_of}
use Rattle.pe_fields.specs.Reading.{each, key_at, number_at, text_at, binary_at, bare_at, given_at, param_at, params_at, item_at, next_item_at, items_at, inner_at, listed_at, value_at, member_at, next_member_at, members_of, dictionary}

-- what an answer unfolds to compute these definitions on a literal
unfoldable pub dictionary_on_literals : ⊤
unfolding each key_at number_at text_at binary_at bare_at given_at param_at params_at item_at next_item_at items_at inner_at listed_at value_at member_at next_member_at members_of dictionary last_of
dictionary_on_literals = tt
