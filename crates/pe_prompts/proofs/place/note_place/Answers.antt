use Rattle.std.proofs.Common.{◌&&◌, ◌||◌, nat_eq, ap, ◌∙◌}
use Rattle.pe_prompts.specs.Places.{is_noted}
use Rattle.pe_prompts.proofs.Noted.{noted-with}
use Rattle.pe_prompts.proofs.place.note_place.Goals as goal

pub returns-clause-ok : goal.returns-clause-ok
returns-clause-ok c = λ d i.
    noted-with (record { doc = c.from.result; at = c.args.at }) c.args.places.now c.insert.new.self c.in_ok-insert.ensures.updates.0 d i
    ∙ ap (λ n. (nat_eq n d && nat_eq c.args.at i) || is_noted c.args.places.now d i) (c.from.ensures ∙ c.get.ensures.value)
