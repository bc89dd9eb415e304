use Rattle.std.proofs.Common.{refl, ◌∙◌, ap, Bor, List, ℕ}
use Rattle.std.specs.Option.{option_copied}
use Rattle.pe_allowlist.proofs.PieceLaws.{text-or-empty, policy-whole}
use Rattle.pe_allowlist.proofs.reading.read_allow.Goals as goal

pub returns : goal.returns
returns c = λ f.
    rw c.of.ensures
    (policy-whole (option_copied c.args.text) c.unwrap_or.result.now c.args.fullscreen c.args.embedder.now c.args.declared.now c.in_ok-rows.rows.items c.put_fullscreen.new.rows.items f
    (ap (λ (r : Bor (List ℕ)). r.now) c.unwrap_or.ensures ∙ text-or-empty c.args.text _ refl)
    (c.in_ok-rows.ensures.read f) (c.in_ok-put_fullscreen.ensures.put f))
