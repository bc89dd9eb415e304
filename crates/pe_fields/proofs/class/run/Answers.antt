use Rattle.std.proofs.Common.{◌≡◌, take_while, rules}
use Rattle.pe_fields.specs.Classes.{is_in}
use Rattle.pe_fields.proofs.Tools.{drop_while_is, run_all}
use Rattle.pe_fields.proofs.class.run.Goals as goal

pub split_at-requires : goal.split_at-requires
split_at-requires c = rw c.run_length.ensures (drop_while_is (is_in c.args.class) c.args.bytes.now).1

pub returns-clause-rest : goal.returns-clause-rest
returns-clause-rest c = rw ((drop_while_is (is_in c.args.class) c.args.bytes.now).0, ← c.run_length.ensures) (search rules)

pub returns-clause-class : goal.returns-clause-class
returns-clause-class c =
    let front : c.split_at.result.0.now ≡ take_while (is_in c.args.class) c.args.bytes.now = rw (← c.run_length.ensures) (search rules) in
    rw front (run_all (is_in c.args.class) c.args.bytes.now)
