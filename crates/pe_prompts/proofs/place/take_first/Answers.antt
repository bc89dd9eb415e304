use Rattle.std.proofs.Common.{◌&&◌, cond, nat_eq, false, ap, ◌∙◌}
use Rattle.pe_prompts.specs.Places.{is_noted}
use Rattle.pe_prompts.proofs.Noted.{noted-without, noted-fewer}
use Rattle.pe_prompts.proofs.place.take_first.Goals as goal

pub returns-clause-rest : goal.returns-clause-rest
returns-clause-rest c = λ d i.
    noted-without (record { doc = c.from.result; at = c.in_ok-at.at }) c.args.places.now c.remove.new.self c.remove.ensures.updates.0 d i
    ∙ ap (λ n. cond (nat_eq n d && nat_eq c.in_ok-at.at i) false (is_noted c.args.places.now d i)) (c.from.ensures ∙ c.get.ensures.value)

pub returns-clause-fewer : goal.returns-clause-fewer
returns-clause-fewer c =
    noted-fewer c.args.places.now c.remove.new.self c.args.doc c.from.result c.in_ok-at.at c.remove.result (c.from.ensures ∙ c.get.ensures.value) c.in_ok-at.ensures c.remove.ensures.test c.remove.ensures.len
