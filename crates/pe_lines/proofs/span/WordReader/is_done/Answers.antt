use Rattle.std.proofs.Common.{◌≡◌, length, sym, ap, ◌∙◌, arith}
use Rattle.std.proofs.lemmas.Bool.{eqb-true, eq-eqb}
use Rattle.pe_lines.specs.Words.{WordsLeft}
use Rattle.pe_lines.proofs.Reading.{none_at_end, done_at_end}
use Rattle.pe_lines.proofs.span.WordReader.is_done.Goals as goal

pub returns : goal.returns
returns c =
    let line = c.self.inside.line.now in
    let start = c.first_not_blank.result in
    let words = ap (λ (w : WordsLeft). w.words) (sym c.self.view_is) ∙ sym c.first_not_blank.ensures.same in (
      λ h. words ∙ none_at_end line start (let at : start ≡ length line = eqb-true start (length line) h in omega arith),
      λ h. eq-eqb start (length line) (done_at_end line start c.first_not_blank.ensures.within c.first_not_blank.ensures.here (sym words ∙ h)),
    )
