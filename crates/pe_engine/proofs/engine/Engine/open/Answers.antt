use Rattle.std.proofs.Common.{◌≡◌, ◌<◌, ◌≤◌, nat_le, true, false, length, refl, sym, ◌∙◌, ap, subst, arith}
use Rattle.std.proofs.lemmas.Bool.Decides.{nat_tests}
use Rattle.pe_frames.specs.Forest.{page_count}
use Rattle.pe_origin.specs.Places.{place_at}
use Rattle.pe_events.specs.declared.event.Event.TheVariants as event
use Rattle.pe_rules.specs.Causes.{live_pages}
use Rattle.pe_rules.specs.Replies.{replied}
use Rattle.pe_engine.specs.Making.{IsTopRow}
use Rattle.pe_engine.specs.StandsFor.{EngineValue}
use Rattle.pe_engine.specs.Replying.{timed}
use Rattle.pe_engine.proofs.Answering.{answer-for}
use Rattle.pe_engine.proofs.CausesParts.{first-time, then-other, no-object}
use Rattle.pe_engine.proofs.Opened.{accept-open}
use Rattle.pe_engine.proofs.VerbAnswers.{url-open, pages-open, other-open, pages-kept, place-refused}
use Rattle.pe_engine.proofs.engine.Engine.open.Goals as goal

pub returns-in_err-number : goal.returns-in_err-number
returns-in_err-number c = λ H s. answer-for _ H _ _ c.from_residual.result c.from_residual.ensures.1 (first-time _ _ _ _ (c.in_err-number.ensures.cause H s))

pub returns-in-Err : goal.returns-in-Err
returns-in-Err c = λ H s.
    let e = c.args.self.now in
    let T = replied e.duration H in
    place-refused e H (timed c.args.now (event.OpenPage c.args.url.now c.args.header.now)) c.as_slice.result.now c.in-Err.refusal c.in-Err.ensures
    (λ none. then-other T c.args.now (event.OpenPage c.args.url.now c.args.header.now) (c.in_ok-number.ensures.none H s) (no-object T (event.OpenPage c.args.url.now c.args.header.now) refl)
    ∙ url-open T c.args.now c.args.url.now c.args.header.now (sym (ap place_at c.as_slice.ensures) ∙ none))

pub returns-then-pages-ge-PAGE_LIMIT : goal.returns-then-pages-ge-PAGE_LIMIT
returns-then-pages-ge-PAGE_LIMIT c = λ H s.
    let e = c.args.self.now in
    let T = replied e.duration H in
    let count : page_count c.self.inside.frames.entries ≡ length (live_pages T) = ap (λ (v : EngineValue). page_count v.frames.entries) c.self.view_is ∙ pages-kept c.engine_laws.ensures.history e H s in
    let value : c.pages.result ≡ page_count c.self.inside.frames.entries = c.pages.ensures.value in
    let many : 64 ≤ c.pages.result = c.if-pages-ge-PAGE_LIMIT.true in
    let full : nat_le 64 (length (live_pages T)) ≡ true = grind (arith, nat_tests) in
    record {
      first = then-other T c.args.now (event.OpenPage c.args.url.now c.args.header.now) (c.in_ok-number.ensures.none H s) (no-object T (event.OpenPage c.args.url.now c.args.header.now) refl)
          ∙ pages-open T c.args.now c.args.url.now c.args.header.now c.in-Ok.place (sym (ap place_at c.as_slice.ensures) ∙ c.in-Ok.ensures) full;
      kept = refl;
    }

pub returns : goal.returns
returns c = λ H s.
    let e = c.args.self.now in
    let T = replied e.duration H in
    let count : page_count c.self.inside.frames.entries ≡ length (live_pages T) = ap (λ (v : EngineValue). page_count v.frames.entries) c.self.view_is ∙ pages-kept c.engine_laws.ensures.history e H s in
    let value : c.pages.result ≡ page_count c.self.inside.frames.entries = c.pages.ensures.value in
    let few : c.pages.result < 64 = c.if-pages-ge-PAGE_LIMIT.false in
    let room : nat_le 64 (length (live_pages T)) ≡ false = grind (arith, nat_tests) in
    let named = sym (ap place_at c.as_slice.ensures) ∙ c.in-Ok.ensures in
    rw (c.frame_made.ensures, c.in_ok-origin.ensures, c.get-2.ensures) (accept-open c.engine_laws.ensures e c.add_page.new.self H c.args.now c.in_ok-number.number c.args.url.now c.args.header.now c.in-Ok.place c.in-Ok-top_row.row s c.in_ok-number.ensures.number named
    (then-other T c.args.now (event.OpenPage c.args.url.now c.args.header.now) (c.in_ok-number.ensures.none H s) (no-object T (event.OpenPage c.args.url.now c.args.header.now) refl)
    ∙ other-open T c.args.now c.args.url.now c.args.header.now c.in-Ok.place named room)
    (subst (λ o. IsTopRow c.in_ok-number.number c.in-Ok.place o c.in-Ok-top_row.row) c.get.ensures c.in-Ok-top_row.ensures) c.in_ok-add_page.ensures)
