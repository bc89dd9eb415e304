use Rattle.std.proofs.Common.{ap, sym, ◌∙◌, arith}
use Rattle.pe_prompts.specs.Requests.{holds}
use Rattle.pe_prompts.proofs.Requests.{cleared-write, count-write, cleared-keep, count-keep, cleared-beyond, count-beyond}
use Rattle.pe_prompts.proofs.waiting.clear_place.Goals as goal

pub returns-then-place-len-clause-cleared : goal.returns-then-place-len-clause-cleared
returns-then-place-len-clause-cleared c = cleared-beyond c.args.doc c.args.requests.now.items c.args.place (omega (arith, c.args.requests.now.ok))

pub returns-then-place-len-clause-count : goal.returns-then-place-len-clause-count
returns-then-place-len-clause-count c = count-beyond c.args.doc c.args.requests.now.items c.args.place (omega (arith, c.args.requests.now.ok))

pub returns-then-not-holds-clause-cleared : goal.returns-then-not-holds-clause-cleared
returns-then-not-holds-clause-cleared c = cleared-keep c.args.doc c.args.requests.now.items c.args.place c.index.result.now (omega (arith, c.args.requests.now.ok))
    (ap (holds c.args.doc) (sym c.index.ensures) ∙ sym c.holds.ensures ∙ c.if-not-holds.true)

pub returns-then-not-holds-clause-count : goal.returns-then-not-holds-clause-count
returns-then-not-holds-clause-count c = count-keep c.args.doc c.args.requests.now.items c.args.place c.index.result.now (omega (arith, c.args.requests.now.ok))
    (ap (holds c.args.doc) (sym c.index.ensures) ∙ sym c.holds.ensures ∙ c.if-not-holds.true)

pub returns-clause-cleared : goal.returns-clause-cleared
returns-clause-cleared c = cleared-write c.args.doc c.args.requests.now.items c.args.place c.index.result.now (omega (arith, c.args.requests.now.ok))
    (ap (holds c.args.doc) (sym c.index.ensures) ∙ sym c.holds.ensures ∙ c.if-not-holds.false)

pub returns-clause-count : goal.returns-clause-count
returns-clause-count c = count-write c.args.doc c.args.requests.now.items c.args.place c.index.result.now (omega (arith, c.args.requests.now.ok))
    (ap (holds c.args.doc) (sym c.index.ensures) ∙ sym c.holds.ensures ∙ c.if-not-holds.false)
