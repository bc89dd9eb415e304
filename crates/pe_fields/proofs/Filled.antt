-- A parameter, a further item and a further member are not nothing.
use Rattle.std.proofs.Common.{◌≡◌, ℕ, ◌+◌, ◌≤◌, List, ◌∷◌, ◌++◌, length, ap, ◌∙◌, append_assoc, arith, length-append}
use Rattle.pe_fields.specs.declared.value.Param.{Param}
use Rattle.pe_fields.specs.declared.value.Item.{Item}
use Rattle.pe_fields.specs.declared.value.Member.{Member}
use Rattle.pe_fields.specs.Grammar.{IsParam, IsNextItem, IsNextMember}

pub param_filled : (text : List ℕ) (param : Param) → IsParam text param → 1 ≤ length text
param_filled text param h = rw h.spelled (omega arith)

pub next_item_filled : (text : List ℕ) (item : Item) → IsNextItem text item → 1 ≤ length text
next_item_filled text item h = rw h.spelled (omega arith)

pub next_member_filled : (text : List ℕ) (member : List ℕ × Member) → IsNextMember text member → 1 ≤ length text
next_member_filled text member h =
    let parts : text ≡ h.before ++ 44 ∷ (h.after ++ h.member_text) = h.spelled ∙ simp append_assoc in
    let all : length text ≡ length h.before + length (44 ∷ (h.after ++ h.member_text)) = ap length parts ∙ length-append h.before (44 ∷ (h.after ++ h.member_text)) in
    omega arith
