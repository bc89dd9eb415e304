use Rattle.pe_engine.proofs.Posting.{denied-reply}
use Rattle.pe_engine.proofs.engine.Engine.deny_post.Goals as goal

pub returns : goal.returns
returns g c = λ H sender target named name s late none says.
    denied-reply c.engine_laws.ensures c.args.self.now c.pass.new.self c.note.new.self H c.args.now sender target named name c.args.reason c.in_ok-before.before c.new.result s (c.in_ok-before.ensures.passed H s late)
    c.in_ok-before.ensures.rest c.in_ok-note.ensures.ok none says c.new.ensures.items
