use Rattle.std.proofs.Common.{sym}
use Rattle.pe_engine.proofs.VerbAnswers.{place-given}
use Rattle.pe_engine.proofs.attribute.place_given.Goals as goal

pub returns-in-Ok : goal.returns-in-Ok
returns-in-Ok c = place-given c.args.url.now c.in-Some.url.now c.in-Ok.place (sym c.in-Some.ensures) c.in-Ok.ensures
