use Rattle.std.proofs.Common.{◌≡◌, ℕ, ◌+◌, ◌-◌, true, false, length, take, None, Some, sym, ap, ◌∙◌, refl, arith}
use Rattle.std.specs.Option.{option_or}
use Rattle.std.specs.Prelude.{bytes_eq}
use Rattle.pe_fields.specs.Dictionary.{last_of, member_under}
use Rattle.pe_fields.proofs.Last.{last_more, last_none}
use Rattle.pe_fields.proofs.dictionary.last.Goals as goal

pub returns-then-eq : goal.returns-then-eq
returns-then-eq c =
    let entries = c.args.entries.now in
    let key = c.args.key.now in
    let entry = c.index-entries-entries.result in
    let place : ℕ = length entries - 1 - c.loop-i.i in
    let step : last_of (take (place + 1) entries) key ≡ option_or (member_under key entry) (last_of (take place entries) key) =
    last_more entries place key entry (omega (arith, c.loop-i-test.true)) c.index-entries-entries.is in
    let test : c.eq.result ≡ bytes_eq entry.0 key = rw (← c.as_slice.ensures) c.eq.ensures in
    let same : bytes_eq entry.0 key ≡ true = sym test ∙ c.if-eq.true in
    let here : option_or (member_under key entry) (last_of (take place entries) key) ≡ Some entry.1 = rw same refl in
    let count : place + 1 ≡ length entries - c.loop-i.i = omega (arith, c.loop-i-test.true) in
    sym here ∙ sym step ∙ ap (λ (k : ℕ). last_of (take k entries) key) count ∙ c.loop-i.invariant

pub loop-i-preserved : goal.loop-i-preserved
loop-i-preserved c =
    let entries = c.args.entries.now in
    let key = c.args.key.now in
    let entry = c.index-entries-entries.result in
    let place : ℕ = length entries - 1 - c.loop-i.i in
    let step : last_of (take (place + 1) entries) key ≡ option_or (member_under key entry) (last_of (take place entries) key) =
    last_more entries place key entry (omega (arith, c.loop-i-test.true)) c.index-entries-entries.is in
    let test : c.eq.result ≡ bytes_eq entry.0 key = rw (← c.as_slice.ensures) c.eq.ensures in
    let other : bytes_eq entry.0 key ≡ false = sym test ∙ c.if-eq.false in
    let apart : option_or (member_under key entry) (last_of (take place entries) key) ≡ last_of (take place entries) key = rw other refl in
    let count : place + 1 ≡ length entries - c.loop-i.i = omega (arith, c.loop-i-test.true) in
    let fewer : length entries - (c.loop-i.i + 1) ≡ place = omega arith in
    ap (λ (k : ℕ). last_of (take k entries) key) fewer ∙ sym apart ∙ sym step ∙ ap (λ (k : ℕ). last_of (take k entries) key) count ∙ c.loop-i.invariant

pub returns : goal.returns
returns c =
    let entries = c.args.entries.now in
    let key = c.args.key.now in
    let nothing : last_of (take 0 entries) key ≡ None = last_none key in
    let left : 0 ≡ length entries - c.loop-i.i = omega (arith, c.loop-i-test.false) in
    sym nothing ∙ ap (λ (k : ℕ). last_of (take k entries) key) left ∙ c.loop-i.invariant
