use Rattle.std.proofs.Common.{refl, sym, ap, ◌∙◌}
use Rattle.std.proofs.lemmas.Bool.{both_ways}
use Rattle.pe_lines.specs.Words.{WordsLeft}
use Rattle.pe_script.proofs.OptionWords.{left-begin, options-refused, options-faulty, options-all}
use Rattle.pe_script.proofs.options.read_options.Goals as goal

pub loop-name-init : goal.loop-name-init
loop-name-init c = record { so_far = rw c.none-given.ensures (left-begin c.args.words.words); waiting = rw c.none-given.ensures refl }

pub returns-then-not-taken : goal.returns-then-not-taken
returns-then-not-taken c =
    options-refused c.loop-name.given c.read_option.new.self c.in-Some.name c.next.new.self.words c.loop-name.words.words c.read_option.new.words.words c.in-Ok.taken _ c.loop-name.invariant.so_far c.in-Some.ensures.word c.in-Ok.ensures.taken c.if-not-taken.true

pub returns-then-not-is_done : goal.returns-then-not-is_done
returns-then-not-is_done c =
    options-faulty c.loop-name.given _ _ c.loop-name.invariant.so_far c.in_default.ensures.none
    (λ e. both_ways c.is_done.result c.if-not-is_done.true (c.is_done.ensures.1 (ap (λ (w : WordsLeft). w.words) c.in_default.ensures.same ∙ e)))

pub returns : goal.returns
returns c =
    options-all c.loop-name.given _ _ c.loop-name.invariant.waiting c.loop-name.invariant.so_far
    (ap (λ (w : WordsLeft). w.words) (sym c.in_default.ensures.same) ∙ c.is_done.ensures.0 c.if-not-is_done.false)
