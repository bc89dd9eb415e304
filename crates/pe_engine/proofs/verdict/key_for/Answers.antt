use Rattle.std.proofs.Common.{Some, None, sym, ◌∙◌, ap}
use Rattle.pe_features.specs.declared.feature.KeyKind.TheVariants as kind
use Rattle.pe_engine.proofs.Deciding.{pair-kept}
use Rattle.pe_engine.proofs.verdict.key_for.Goals as goal

pub returns-in-Some-Single-clause-pair : goal.returns-in-Some-Single-clause-pair
returns-in-Some-Single-clause-pair c = λ T is. pair-kept T c.args.row.now c.args.feature (Some kind.Single) is (sym c.key_kind.ensures ∙ c.in-Some-Single.is ∙ ap Some c.in-Some-Single.field-0-is)

pub returns-in-Some-Pair-clause-pair : goal.returns-in-Some-Pair-clause-pair
returns-in-Some-Pair-clause-pair c = λ T is. pair-kept T c.args.row.now c.args.feature (Some kind.Pair) is (sym c.key_kind.ensures ∙ c.in-Some-Pair.is ∙ ap Some c.in-Some-Pair.field-0-is)

pub returns-in-None-clause-pair : goal.returns-in-None-clause-pair
returns-in-None-clause-pair c = λ T is. pair-kept T c.args.row.now c.args.feature None is (sym c.key_kind.ensures ∙ c.in-None.is)
