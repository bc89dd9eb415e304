use Rattle.std.proofs.Common.{◌≡◌, true, All, sym, subst, rules, take_all}
use Rattle.url.proofs.InputLemmas.{All-take_from_reads}
use Rattle.pe_origin.specs.Usual.{is_host_byte}
use Rattle.pe_origin.proofs.usual.host_len.Goals as goal

pub returns-in-Some-clause-bytes : goal.returns-in-Some-clause-bytes
returns-in-Some-clause-bytes c = All-take_from_reads (λ b. is_host_byte b ≡ true) c.args.text.now c.in-Some.length (search rules) (search rules)

pub returns-in-None-clause-bytes : goal.returns-in-None-clause-bytes
returns-in-None-clause-bytes c = subst (All (λ b. is_host_byte b ≡ true)) (sym (take_all _ c.args.text.now (search rules))) (search rules)
