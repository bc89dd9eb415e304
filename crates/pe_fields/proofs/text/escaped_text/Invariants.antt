use Rattle.std.proofs.Common.{◌≡◌, length}
use Rattle.pe_fields.specs.Reading.{text_at}
use Rattle.pe_fields.proofs.Texts.{with_front}
use Rattle.pe_fields.proofs.text.escaped_text.Given as goal

abbrev pub invariant-bytes : goal.invariant-bytes
invariant-bytes l = with_front l.text.items (text_at l.rest) ≡ text_at l.fn.bytes

abbrev pub decreases-bytes : goal.decreases-bytes
decreases-bytes l = length l.rest
