use Rattle.std.proofs.Common.{sym, ◌∙◌, ap, subst}
use Rattle.pe_store.specs.Entries.{entry_of}
use Rattle.pe_store.specs.Pages.{is_listed, AreApart}
use Rattle.pe_store.specs.Places.{has_life, is_page_of}
use Rattle.pe_engine.specs.StandsFor.{EngineValue}
use Rattle.pe_engine.proofs.engine.Engine.leave.Goals as goal

pub returns-clause-changes : goal.returns-clause-changes
returns-clause-changes g c = λ duration H s f regular ending shown store statuses governed.
    c.changes_of_end.ensures.changes duration H s f c.args.first c.args.self.now.store regular ending shown store statuses governed
    (subst AreApart (sym c.deref.ensures.value) c.in_ok-ended.ensures.apart)
    (λ pair. ap (is_listed pair) c.deref.ensures.value ∙ c.in_ok-ended.ensures.listed pair ∙ ap (λ (v : EngineValue). has_life is_page_of c.args.first (entry_of v.store.entries pair)) c.self.view_is)
