use Rattle.std.proofs.Common.{◌≡◌, ◌<◌, ◌≤◌, not, ◌&&◌, nat_le, true, false, length, is_some, sym, ◌∙◌, ap, subst, arith}
use Rattle.std.proofs.lemmas.Bool.Decides.{nat_tests}
use Rattle.pe_base.specs.declared.limits.TheConstants.{STORE_LIMIT}
use Rattle.pe_store.specs.Pairs.{Pair}
use Rattle.pe_store.specs.Entries.{entry_of, IsOnePerPair}
use Rattle.pe_rules.specs.Causes.{entries}
use Rattle.pe_rules.specs.Settings.{has_entry}
use Rattle.pe_rules.specs.Replies.{replied}
use Rattle.pe_engine.specs.StandsFor.{EngineValue}
use Rattle.pe_engine.proofs.Settings.{some-copied, none-by, and-true, and-false, entry-there, entries-counted}
use Rattle.pe_engine.proofs.Storing.{lapsed-few, lapsed-missing}
use Rattle.pe_engine.proofs.engine.Engine.exceeds_store.Goals as goal

pub returns-then-len-lt-STORE_LIMIT-clause-limit : goal.returns-then-len-lt-STORE_LIMIT-clause-limit
returns-then-len-lt-STORE_LIMIT-clause-limit g c = λ H s.
    let e = c.args.self.now in
    let T = replied e.duration H in
    let count : c.len.result ≡ length (entries T) =
    c.len.ensures.count ∙ ap (λ (v : EngineValue). length v.store.entries) c.self.view_is
    ∙ entries-counted c.engine_laws.ensures e H s (subst (λ (v : EngineValue). IsOnePerPair v.store.entries) c.self.view_is c.is_one_per_pair.ensures) in
    let few : c.len.result < 65536 = c.if-len-lt-STORE_LIMIT.true in
    let room : nat_le 65536 (length (entries T)) ≡ false = grind (arith, nat_tests) in
    sym (ap (λ b. not (has_entry T (c.args.feature, c.args.key.now)) && b) room ∙ and-false (not (has_entry T (c.args.feature, c.args.key.now))))

pub returns-then-len-lt-STORE_LIMIT-clause-room : goal.returns-then-len-lt-STORE_LIMIT-clause-room
returns-then-len-lt-STORE_LIMIT-clause-room g c = λ to later lapsed full. absurd (lapsed-few to c.args.self.now.store later lapsed full.0 (subst (λ n. n < STORE_LIMIT) (c.len.ensures.count ∙ ap (λ (v : EngineValue). length v.store.entries) c.self.view_is) c.if-len-lt-STORE_LIMIT.true))

pub returns-clause-limit : goal.returns-clause-limit
returns-clause-limit g c = λ H s.
    let e = c.args.self.now in
    let T = replied e.duration H in
    let pair : Pair = (c.args.feature, c.args.key.now) in
    let count : c.len.result ≡ length (entries T) =
    c.len.ensures.count ∙ ap (λ (v : EngineValue). length v.store.entries) c.self.view_is
    ∙ entries-counted c.engine_laws.ensures e H s (subst (λ (v : EngineValue). IsOnePerPair v.store.entries) c.self.view_is c.is_one_per_pair.ensures) in
    let many : 65536 ≤ c.len.result = c.if-len-lt-STORE_LIMIT.false in
    let full : nat_le 65536 (length (entries T)) ≡ true = grind (arith, nat_tests) in
    let there : is_some c.get.result ≡ has_entry T pair =
    sym (some-copied c.get.result) ∙ ap is_some c.get.ensures.value ∙ ap (λ (v : EngineValue). is_some (entry_of v.store.entries pair)) c.self.view_is ∙ entry-there c.engine_laws.ensures e H pair s in
    none-by c.get.result c.is_none.result c.is_none.ensures ∙ ap not there ∙ sym (ap (λ b. not (has_entry T pair) && b) full ∙ and-true (not (has_entry T pair)))

pub returns-clause-room : goal.returns-clause-room
returns-clause-room g c = λ to later lapsed full.
    let pair : Pair = (c.args.feature, c.args.key.now) in
    let most : length c.args.self.now.store.entries ≤ STORE_LIMIT = subst (λ n. n ≤ STORE_LIMIT) (c.len.ensures.count ∙ ap (λ (v : EngineValue). length v.store.entries) c.self.view_is) c.len.ensures.limit in
    let missing = lapsed-missing to c.args.self.now.store later pair lapsed full most in
    none-by c.get.result c.is_none.result c.is_none.ensures ∙ ap not (sym (some-copied c.get.result) ∙ ap is_some (c.get.ensures.value ∙ ap (λ (v : EngineValue). entry_of v.store.entries pair) c.self.view_is ∙ missing))
