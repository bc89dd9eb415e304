use Rattle.std.proofs.Common.{length, subst, sym, ap, ◌∙◌, arith}
use Rattle.pe_prompts.specs.Requests.{somes, without, AreNoted}
use Rattle.pe_prompts.proofs.Requests.{count-cleared, without-cleared, none-noted, AreNoted-cleared}
use Rattle.pe_prompts.proofs.waiting.clear_all.Goals as goal

pub overflow_sub-count : goal.overflow_sub-count
overflow_sub-count c = omega (arith, count-cleared c.args.doc c.loop-place.requests.items c.in-Some.place, c.clear_place.ensures.count, c.loop-place.invariant.0.counted)

pub loop-place-preserved : goal.loop-place-preserved
loop-place-preserved c = (
  record {
    counted = omega (arith, count-cleared c.args.doc c.loop-place.requests.items c.in-Some.place, c.clear_place.ensures.count, c.loop-place.invariant.0.counted, ap (λ l. length (somes l)) c.clear_place.ensures.cleared);
    noted = subst (λ xs. AreNoted xs c.take_first.new.places) (sym c.clear_place.ensures.cleared)
        (AreNoted-cleared c.args.doc c.loop-place.requests.items c.in-Some.place c.loop-place.places c.take_first.new.places c.loop-place.invariant.0.noted c.in-Some.ensures.rest);
  },
  ap (λ xs. without c.args.doc (somes xs)) c.clear_place.ensures.cleared
      ∙ without-cleared c.args.doc c.loop-place.requests.items c.in-Some.place ∙ c.loop-place.invariant.1,
)

pub returns-clause-cleared : goal.returns-clause-cleared
returns-clause-cleared c =
    sym (none-noted c.args.doc c.loop-place.requests.items c.loop-place.places c.loop-place.invariant.0.noted c.in_default.ensures.none) ∙ c.loop-place.invariant.1
