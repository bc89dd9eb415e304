use Rattle.std.proofs.Common.{sym, ◌∙◌}
use Rattle.pe_header.proofs.HeaderLaws.{policy-missing, policy-no_dictionary, policy-of, if-ok}
use Rattle.pe_header.proofs.header.read_header.Goals as goal

pub returns-in_default : goal.returns-in_default
returns-in_default c = λ f. rw c.in_default.is (c.empty.ensures f ∙ sym (policy-missing c.args.own.now f))

pub returns-in-Some-2 : goal.returns-in-Some-2
returns-in-Some-2 c =
    rw c.in-Some.is
    (if-ok _ _ c.read_members.result
    (λ declared h f. h f ∙ sym (policy-of c.in-Some.field.now c.in-Some-2.members c.args.own.now f (sym c.in-Some-2.is ∙ c.in_ok-members.ensures.value)))
    c.read_members.ensures)

pub returns-in-None : goal.returns-in-None
returns-in-None c = λ f.
    rw c.in-Some.is
    (c.empty-in-None.ensures f ∙ sym (policy-no_dictionary c.in-Some.field.now c.args.own.now f (sym c.in-None.is ∙ c.in_ok-members.ensures.value)))
