use Rattle.std.proofs.Common.{◌≡◌, ◌-◌, ◌+◌, ◌∷◌, length, take, drop, take_all, length-drop, sym, ap, subst, ◌∙◌, arith}
use Rattle.memchr.specs.Find.{is_byte, IsFirstByte}
use Rattle.pe_generator.specs.Summary.{parts_of}
use Rattle.pe_generator.proofs.Parts.{parts-first, parts-whole}
use Rattle.pe_generator.proofs.summary.first_part.Goals as goal

pub returns-in-Some-clause-parts : goal.returns-in-Some-clause-parts
returns-in-Some-clause-parts c =
    let text = c.args.text.now in
    let n = c.in-Some.end + 1 in
    let first = subst (λ r. IsFirstByte (is_byte 10) text r) c.in-Some.is c.memchr.ensures in
    let left = length-drop n text in
    let all : take (length text - n) (drop n text) ≡ drop n text = take_all _ _ (omega arith) in
    parts-first text c.in-Some.end first ∙ ap (λ rest. take c.in-Some.end text ∷ parts_of rest) (sym all)

pub returns-in-None-clause-parts : goal.returns-in-None-clause-parts
returns-in-None-clause-parts c = parts-whole c.args.text.now (subst (λ r. IsFirstByte (is_byte 10) c.args.text.now r) c.in-None.is c.memchr.ensures)
