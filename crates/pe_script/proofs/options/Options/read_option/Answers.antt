use Rattle.std.proofs.Common.{◌≡◌, None, refl, sym, ap, arith}
use Rattle.pe_lines.specs.Words.{WordsLeft}
use Rattle.pe_script.specs.Verbs.{Options}
use Rattle.pe_script.proofs.OptionWords.{fullscreen-taken, srcdoc-taken, name-unknown, text-missing, text-taken-ok}
use Rattle.pe_script.proofs.options.Options.read_option.Goals as goal

pub returns-then-is_keyword-clause-taken : goal.returns-then-is_keyword-clause-taken
returns-then-is_keyword-clause-taken c =
    fullscreen-taken _ c.args.self.now c.args.name.now c.args.words.now.words c.set_once.new.flag c.set_once.result c.self.view_is refl (sym c.if-is_keyword.ensures) c.set_once.ensures.once c.set_once.ensures.set

pub returns-then-is_keyword-2-clause-taken : goal.returns-then-is_keyword-2-clause-taken
returns-then-is_keyword-2-clause-taken c =
    srcdoc-taken _ c.args.self.now c.args.name.now c.args.words.now.words c.set_once-then-is_keyword-2.new.flag c.set_once-then-is_keyword-2.result c.self.view_is refl (sym c.if-is_keyword-2.ensures) c.set_once-then-is_keyword-2.ensures.once c.set_once-then-is_keyword-2.ensures.set

pub returns-in_default-clause-taken : goal.returns-in_default-clause-taken
returns-in_default-clause-taken c =
    let none : c.args.self.now.waiting ≡ None = sym (ap (λ (o : Options). o.waiting) c.self.view_is) in
    name-unknown c.args.self.now c.args.name.now c.args.words.now.words none (sym c.if-is_keyword.ensures) (sym c.if-is_keyword-2.ensures) c.in_default.ensures

pub returns-in_default-next-clause-taken : goal.returns-in_default-next-clause-taken
returns-in_default-next-clause-taken c =
    let none : c.args.self.now.waiting ≡ None = sym (ap (λ (o : Options). o.waiting) c.self.view_is) in
    text-missing c.args.self.now c.args.name.now c.args.words.now.words c.next.new.self.words _ none (sym c.if-is_keyword.ensures) (sym c.if-is_keyword-2.ensures) c.in-Some.ensures c.in_default-next.ensures.none

pub returns-clause-taken : goal.returns-clause-taken
returns-clause-taken c =
    let none : c.args.self.now.waiting ≡ None = sym (ap (λ (o : Options). o.waiting) c.self.view_is) in
    text-taken-ok c.args.self.now c.put.new.self c.args.name.now c.in-Some-next.text c.args.words.now.words c.next.new.self.words c.in-Some.option c.in_ok-text.text c.put.result none (sym c.if-is_keyword.ensures) (sym c.if-is_keyword-2.ensures) c.in-Some.ensures c.in-Some-next.ensures.word c.in_ok-text.ensures c.put.ensures

pub returns-in_default-next-clause-fewer : goal.returns-in_default-next-clause-fewer
returns-in_default-next-clause-fewer c = let same : c.next.new.self.bytes ≡ c.args.words.now.bytes = ap (λ (w : WordsLeft). w.bytes) c.in_default-next.ensures.same in omega arith
