use Rattle.std.proofs.Common.{◌≡◌, refl, sym, subst}
use Rattle.pe_frames.specs.Forest.{entry_of}
use Rattle.pe_events.specs.declared.event.Event.TheVariants as event
use Rattle.pe_engine.specs.declared.row.Attributes.{Attributes}
use Rattle.pe_engine.specs.Making.{IsChildRow}
use Rattle.pe_engine.specs.declared.verbs.open.Embedding.{Embedding}
use Rattle.pe_engine.specs.Replying.{timed}
use Rattle.pe_engine.specs.Rows.{kept_attributes}
use Rattle.pe_engine.proofs.Answering.{answer-memory}
use Rattle.pe_engine.proofs.CommonCauses.{some-of}
use Rattle.pe_engine.proofs.Embedded.{accept-embed}
use Rattle.pe_engine.proofs.VerbAnswers.{checked-refused, doc-of}
use Rattle.pe_engine.proofs.engine.Engine.embed.Goals as goal

pub returns-in-Err : goal.returns-in-Err
returns-in-Err g c = λ H s.
    checked-refused Embedding c.args.self.now H (timed c.args.now (event.Embed c.args.parent c.args.src.now c.args.place.now c.args.allow.now c.args.sandbox.now c.args.fullscreen c.args.srcdoc c.args.header.now)) c.in-Err.refusal
    (c.in-Err.ensures.cause H c.args.allow.now c.args.sandbox.now c.args.header.now c.args.fullscreen c.args.srcdoc s)

pub returns-in_err-origin : goal.returns-in_err-origin
returns-in_err-origin g c = λ H s. answer-memory _ _ H _ c.from_residual-in_err-origin.result c.from_residual-in_err-origin.ensures.1

pub returns : goal.returns
returns g c = λ H s.
    let e = c.args.self.now in
    let x = c.in-Ok.found in
    let lookup = c.in-Ok.ensures.lookup in
    let none = c.in-Ok.ensures.cause H c.args.allow.now c.args.sandbox.now c.args.header.now c.args.fullscreen c.args.srcdoc s in
    let (y, found) = some-of (entry_of e.frames.entries x.at) lookup.found in
    let doc = doc-of (entry_of e.frames.entries x.at) c.row-row.result.now y c.row-row.ensures.entry found in
    let a : Attributes = record { src = x.src; srcdoc = c.args.srcdoc; allow = c.in_ok-value_given.field-0; sandbox = c.in_ok-value_given-2.field-0; fullscreen = c.args.fullscreen } in
    let given : a ≡ kept_attributes (record { src = c.args.src.now; srcdoc = c.args.srcdoc; allow = c.args.allow.now; sandbox = c.args.sandbox.now; fullscreen = c.args.fullscreen }) = rw (lookup.src_is, c.in_ok-value_given.ensures, c.in_ok-value_given-2.ensures) refl in
    let row = subst (λ r. IsChildRow r x.number x.place c.args.srcdoc c.args.header.now a c.in-Ok-child_row.row) (sym doc) (subst (λ o. IsChildRow c.row-row.result.now x.number x.place c.args.srcdoc o a c.in-Ok-child_row.row) c.get.ensures c.in-Ok-child_row.ensures) in
    rw (c.frame_made.ensures, c.in_ok-origin.ensures, c.get-2.ensures, c.set_attributes.ensures) (accept-embed c.engine_laws.ensures e c.add_child.new.self H c.args.now x.number c.args.parent c.args.src.now c.args.place.now c.args.allow.now c.args.sandbox.now c.args.fullscreen c.args.srcdoc c.args.header.now
    x.at y x.place a c.in-Ok-child_row.row s lookup.number lookup.handle found (sym lookup.place_is) given none row (rw c.set_attributes.ensures at c.in_ok-add_child.ensures))
