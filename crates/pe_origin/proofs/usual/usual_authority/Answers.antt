use Rattle.std.proofs.Common.{sym, ◌∙◌}
use Rattle.pe_origin.proofs.UsualUrls.{usual_found}
use Rattle.pe_origin.proofs.usual.usual_authority.Goals as goal

pub returns-then-is_tail : goal.returns-then-is_tail
returns-then-is_tail c =
    usual_found c.args.text.now c.in_ok-scheme.rest.now c.in_ok-host.rest.now c.in_ok-port.rest.now c.in_ok-scheme.scheme c.in_ok-host.host.now c.in_ok-port.port
    c.in_ok-scheme.ensures c.in_ok-host.ensures.0 c.in_ok-host.ensures.1 c.in_ok-port.ensures (sym c.is_tail.ensures ∙ c.if-is_tail.true)
