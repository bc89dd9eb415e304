use Rattle.std.proofs.Common.{◌≡◌, ◌∷◌, rules}
use Rattle.pe_fields.proofs.Runs.{token_some}
use Rattle.pe_fields.proofs.reading.bare.Goals as goal

pub returns-then-is_token_start : goal.returns-then-is_token_start
returns-then-is_token_start c =
    let e : c.args.bytes.now ≡ c.in-Some.first.now ∷ c.in-Some.rest.now = search rules in
    let t = token_some c.in-Some.first.now c.in-Some.rest.now c.args.bytes.now e (search rules) in
    rw (c.of.ensures, t) (search rules)
