use Rattle.std.proofs.Common.{arith, ◌≡◌, ◌∷◌, map, refl, sym, ◌∙◌, ap, subst}
use Rattle.std.specs.Prelude.{IfSome}
use Rattle.pe_frames.specs.Forest.{Forest, entry_of, with_doc, with_document}
use Rattle.pe_frames.specs.Order.{navigated, docs_under}
use Rattle.pe_origin.specs.Places.{place_at}
use Rattle.pe_events.specs.declared.event.Event.TheVariants as event
use Rattle.pe_rules.specs.Current.{document_in}
use Rattle.pe_rules.specs.Replies.{replied}
use Rattle.pe_engine.specs.declared.engine.Made.TheVariants as made
use Rattle.pe_engine.specs.declared.row.Attributes.{Attributes}
use Rattle.pe_engine.specs.declared.row.Row.{Row}
use Rattle.pe_engine.specs.Leaving.{numbers_of}
use Rattle.pe_engine.specs.Replying.{timed}
use Rattle.pe_engine.specs.Rows.{no_kept_attributes, IsSettled}
use Rattle.pe_engine.specs.StandsFor.{EngineValue}
use Rattle.pe_engine.proofs.Accepted.{step_of}
use Rattle.pe_engine.proofs.Answering.{replied-for, replied-memory, replied-place}
use Rattle.pe_engine.proofs.CommonCauses.{some-of}
use Rattle.pe_engine.proofs.Ended.{has-ended, ended-reply}
use Rattle.pe_engine.proofs.Gone.{CountsInOrder, placed, placed-with, same-document, count-with, gone-under, shows-current}
use Rattle.pe_engine.proofs.Look.{node-at}
use Rattle.pe_engine.proofs.Navigated.{url-nav, other-nav, navigated-anyway, navigation}
use Rattle.pe_engine.proofs.engine.Engine.navigate.Goals as goal

pub returns-in_err-number : goal.returns-in_err-number
returns-in_err-number g c = λ H s. replied-for _ H _ _ c.from_residual.result c.from_residual.ensures.1 (c.in_err-number.ensures.cause H _ s refl)

pub returns-in-Err : goal.returns-in-Err
returns-in-Err g c = λ H s.
    let e = c.args.self.now in
    let T = replied e.duration H in
    replied-place e H (timed c.args.now (event.Navigate c.args.frame c.args.url.now c.args.header.now)) c.as_slice.result.now c.in-Err.refusal c.in-Err.ensures
    (λ none. c.in_ok-number.ensures.rest H _ s refl ∙ url-nav T c.args.now c.args.frame c.args.url.now c.args.header.now (sym (ap place_at c.as_slice.ensures) ∙ none))

pub returns-in_err-origin : goal.returns-in_err-origin
returns-in_err-origin g c = λ H s. replied-memory _ _ H _ c.from_residual-in_err-origin.result c.from_residual-in_err-origin.ensures.1

pub returns-in_err-before : goal.returns-in_err-before
returns-in_err-before g c = λ H s. replied-memory _ _ H _ c.from_residual-in_err-before.result c.from_residual-in_err-before.ensures.1

pub returns-in_err-after : goal.returns-in_err-after
returns-in_err-after g c = λ H s. replied-memory _ _ H _ c.from_residual-in_err-after.result c.from_residual-in_err-after.ensures.1

pub returns-in_err-note : goal.returns-in_err-note
returns-in_err-note g c = λ H s. replied-memory _ _ H _ c.from_residual-in_err-note.result c.from_residual-in_err-note.ensures.1

pub returns : goal.returns
returns g c = λ H s.
    let e = c.args.self.now in
    let T = replied e.duration H in
    let f = c.args.frame in
    let h = c.in_ok-number.h in
    let x = c.in-Ok-next_row.row in
    let v = timed c.args.now (event.Navigate f c.args.url.now c.args.header.now) in
    let laws = c.engine_laws.ensures in
    let p = c.pass.new.self in
    let N = c.navigate.new.self in
    let V = c.take_attributes.new.frames in
    let frames = ap (λ (w : EngineValue). w.frames) c.self-2.view_is ∙ ap (λ (w : EngineValue). w.frames) c.in_ok-before.ensures.rest in
    let (y, found) = some-of (entry_of e.frames.entries h) c.in_ok-number.ensures.found in
    let bare = record y.doc { attributes = no_kept_attributes } in
    let clause = subst (λ (w : Forest Row). IfSome (entry_of w.entries h) (λ z. (c.take_attributes.result ≡ z.doc.attributes) × (V ≡ with_doc w h (record z.doc { attributes = no_kept_attributes })))) frames c.take_attributes.ensures.taken in
    let taken = subst (λ o. IfSome o (λ z. (c.take_attributes.result ≡ z.doc.attributes) × (V ≡ with_doc e.frames h (record z.doc { attributes = no_kept_attributes })))) found clause in
    let named = sym (ap place_at c.as_slice.ensures) ∙ c.in-Ok.ensures in
    let entries = c.in-Ok-navigate.ensures.entries
    ∙ ap (λ (z : Row). navigated h z V.entries) c.set_attributes.ensures
    ∙ ap (λ (w : Forest Row). navigated h (record x { attributes = c.take_attributes.result }) w.entries) taken.1
    ∙ navigated-anyway h (record x { attributes = c.take_attributes.result }) bare e.frames.entries
    ∙ ap (λ (a : Attributes). navigated h (record x { attributes = a }) e.frames.entries) taken.0 in
    let shown = c.row-2.ensures.shown H f s c.in_ok-number.ensures.handle in
    let (says, tree) = navigation laws.history e H c.args.now c.in_ok-number.number f c.args.url.now c.args.header.now h y x N s c.in_ok-number.ensures.number c.in_ok-number.ensures.handle found c.in-Ok-next_row.ensures.new
    (λ item. subst (λ o. IsSettled (record { time = c.args.now; event = event.Navigate f c.args.url.now o; item = item } ∷ T) x) c.get.ensures (c.in-Ok-next_row.ensures.settled H c.args.now f c.args.url.now item s c.in_ok-number.ensures.handle named c.in_ok-number.ensures.number))
    entries (c.in-Ok-navigate.ensures.marks ∙ ap (λ (w : Forest Row). w.marks) taken.1) in
    let has = has-ended e p _ c.leave.new.self c.note.new.self c.args.now made.Doc N c.in_ok-before.ensures.rest (ap (λ (w : EngineValue). record w { frames = N }) c.self-2.view_is) c.in_ok-after.ensures.rest c.in_ok-note.ensures.ok in
    let of-frame = node-at T e.made e.frames f h y s.steps.tree c.in_ok-number.ensures.handle found in
    let same = same-document T e.made f h y bare e.frames.entries s.steps.tree.apart c.in_ok-number.ensures.handle (ap (λ n. document_in T n) (sym of-frame.0) ∙ of-frame.1.document) refl s.steps.tree.nodes in
    let written = ap (λ (w : Forest Row). w.entries) taken.1 in
    let gone_is = ap numbers_of (c.deref.ensures.value ∙ c.in-Ok-navigate.ensures.documents ∙ ap (λ (w : Forest Row). docs_under w.entries h) taken.1) in
    rw (c.of.ensures, c.in_ok-origin.ensures, c.get-2.ensures) (ended-reply laws e p _ c.leave.new.self c.note.new.self H v f c.row-2.result.now.doc made.Doc N c.deref.result.now _ c.in_ok-before.before c.in_ok-after.after s (c.in_ok-before.ensures.passed H s c.in_ok-number.ensures.late) has
    (record { ended = λ fs. refl; makes = λ i. refl; drops = λ i. refl; idle = refl; requests = λ i. refl; settles = λ i. refl }) (c.in_ok-number.ensures.rest H _ s refl ∙ other-nav T c.args.now f c.args.url.now c.args.header.now c.in-Ok.place named) says shown.document
    (λ item is. rw (has.noted.made, has.frames_are) (tree item))
    (λ item. gone-under laws.history (step_of v item) T e.made f h e.frames.entries (map (with_document h bare) e.frames.entries) c.deref.result.now s.steps.tree.apart c.in_ok-number.ensures.handle (λ fs. refl)
    (placed-with T e.made h bare e.frames.entries (placed T e.made e.frames.entries s.steps.tree.nodes) same) (count-with h bare e.frames.entries same)
    (subst CountsInOrder written c.is_counted_in_tree_order.ensures.counted) gone_is
    (shows-current laws.history e.duration H e.made e.frames s.regular s.steps.tree))
    c.in_ok-after.ensures.live c.in_ok-after.ensures.given c.in_ok-after.ensures.prompts c.in_ok-after.ensures.pending c.in_ok-after.ensures.store
    (λ t ending stored statuses governed. c.in_ok-after.ensures.changes e.duration H t f s.regular ending shown.document stored statuses governed)
    (ap (λ (w : EngineValue). w.frames) c.in_ok-after.ensures.rest ∙ sym has.frames_are))

pub invariant_of-self : goal.invariant_of-self
invariant_of-self g c = (c.self-2.invariant.0, omega (arith, c.navigate.ensures.made, c.take_attributes.ensures.made, c.self-2.invariant.1), c.self-2.invariant.2, c.self-2.invariant.3, c.self-2.invariant.4)
