use Rattle.std.proofs.Common.{sym, ap, ◌∙◌, arith, inl, inr, drop, ◌∷◌}
use Rattle.std.specs.Prelude.{option_map}
use Rattle.pe_lines.specs.Words.{WordsLeft, words_from}
use Rattle.pe_lines.proofs.Reading.{none_at_end, none_taken, word_taken}
use Rattle.pe_lines.proofs.span.WordReader.next.Goals as goal

pub returns-then-start-self-clause-none : goal.returns-then-start-self-clause-none
returns-then-start-self-clause-none c =
    inr (ap (λ (w : WordsLeft). w.words) (sym c.self.view_is) ∙ sym c.first_not_blank-start.ensures.same ∙ none_at_end c.self.inside.line.now c.first_not_blank-start.result (omega (arith, c.if-start-self.true)))

pub returns-in_err-span-clause-none : goal.returns-in_err-span-clause-none
returns-in_err-span-clause-none c =
    rw c.from_residual.ensures (inl (ap (λ (w : WordsLeft). w.words) (sym c.self.view_is) ∙ sym c.first_not_blank-start.ensures.same ∙ none_taken c.self.inside.line.now c.first_not_blank-start.result c.in_err-span.ensures.none))

pub returns-clause-word : goal.returns-clause-word
returns-clause-word c =
    let line = c.self.inside.line.now in
    ap (λ (w : WordsLeft). w.words) (sym c.self.view_is) ∙ sym c.first_not_blank-start.ensures.same
    ∙ word_taken line c.first_not_blank-start.result c.in_ok-span.span c.in_ok-span.ensures.word
    ∙ ap (λ k. option_map (λ words. c.in_ok-span.span ∷ words) (words_from k (drop k line))) (sym c.end-self-inside.ensures)
