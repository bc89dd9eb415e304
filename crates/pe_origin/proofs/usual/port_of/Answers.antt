use Rattle.std.proofs.Common.{◌≡◌, ℕ, ◌+◌, ◌-◌, ◌*◌, ◌<◌, true, Ok, List, length, get_or, take, All, sym, ap, ◌∙◌, subst, arith, rules, take_all}
use Rattle.std.specs.Char.{is_ascii_digit, digit_value}
use Rattle.std.specs.Str.Parse.{digits_value}
use Rattle.std.proofs.lemmas.Bool.Decides.{nat_tests}
use Rattle.std.proofs.lemmas.Int.Digits.{digits_value_more}
use Rattle.std.proofs.lemmas.List.Elements.{All-more}
use Rattle.pe_origin.proofs.UsualUrls.{port_of_digits}
use Rattle.pe_origin.proofs.usual.port_of.Goals as goal

next_value : (ds : List ℕ) (i port : ℕ) → i < length ds → is_ascii_digit (get_or ds i 0) ≡ true → port ≡ digits_value 10 (take i ds) → digits_value 10 (take (i + 1) ds) ≡ port * 10 + (get_or ds i 0 - 48)
next_value ds i port inside digit value =
    let worth : digit_value (get_or ds i 0) ≡ get_or ds i 0 - 48 = grind (arith, nat_tests) in
    rw (digits_value_more 10 ds i inside, worth, value)

pub loop-digit-preserved : goal.loop-digit-preserved
loop-digit-preserved c =
    let digits = c.args.digits.now in
    let next = next_value digits _ _ c.loop-digit-test.true (search rules) c.loop-digit.invariant.1 in
    (All-more (λ b. is_ascii_digit b ≡ true) digits _ 0 c.loop-digit-test.true c.loop-digit.invariant.0 (search rules), grind arith, search rules)

pub returns-clause-read : goal.returns-clause-read
returns-clause-read c scheme =
    let digits = c.args.digits.now in
    let whole = take_all c.loop-digit.digit-index digits (omega arith) in
    let all = subst (All (λ b. is_ascii_digit b ≡ true)) whole c.loop-digit.invariant.0 in
    let value = c.loop-digit.invariant.1 ∙ ap (digits_value 10) whole in
    port_of_digits scheme digits (search rules) all (omega (arith, value, c.loop-digit.invariant.2)) ∙ ap Ok (sym value)
