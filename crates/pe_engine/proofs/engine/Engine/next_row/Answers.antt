use Rattle.std.specs.Option.{option_copied}
use Rattle.pe_engine.proofs.Navigated.{settled-below, settled-alone, ok-map}
use Rattle.pe_engine.proofs.engine.Engine.next_row.Goals as goal

pub returns-in-Some-clause-settled : goal.returns-in-Some-clause-settled
returns-in-Some-clause-settled g c = λ H now f url item s at is number.
    ok-map _ _ c.child_row.result (λ x row. settled-below c.engine_laws.ensures.history c.args.self.now H now f c.args.number url (option_copied c.args.header) item c.args.place c.in-Some.embedder.now c.row.result.now x s
    (c.in-Some.ensures H f s at c.requires.live) (c.row.ensures.shown H f s at) is number row) c.child_row.ensures

pub returns-in-None-clause-settled : goal.returns-in-None-clause-settled
returns-in-None-clause-settled g c = λ H now f url item s at is number.
    ok-map _ _ c.top_row.result (λ x row. settled-alone c.engine_laws.ensures.history c.args.self.now H now f c.args.number url (option_copied c.args.header) item c.args.place x s
    (c.in-None.ensures H f s at c.requires.live) is number row) c.top_row.ensures
