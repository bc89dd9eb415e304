use Rattle.pe_engine.proofs.CausesParts.{first-time, then-named, then-other}
use Rattle.pe_engine.proofs.engine.Engine.next_in.Goals as goal

pub returns-in-Err-clause-cause : goal.returns-in-Err-clause-cause
returns-in-Err-clause-cause c = λ H e s named. first-time _ _ e _ (c.in-Err.ensures.cause H s)

pub returns-in-Ok-live-clause-rest : goal.returns-in-Ok-live-clause-rest
returns-in-Ok-live-clause-rest c = λ H e s named. then-other _ _ e (c.in-Ok.ensures.none H s) (c.in-Ok-live.ensures.none H e s named)

pub returns-in-Err-live-clause-cause : goal.returns-in-Err-live-clause-cause
returns-in-Err-live-clause-cause c = λ H e s named. then-named _ _ e _ (c.in-Ok.ensures.none H s) (c.in-Err-live.ensures.cause H e s named)
