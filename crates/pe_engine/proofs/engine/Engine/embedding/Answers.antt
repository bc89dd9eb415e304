use Rattle.std.proofs.Common.{Option, None, unwrap_or, option_map, ap, refl, sym, ◌∙◌}
use Rattle.pe_origin.specs.declared.place.Place.{Place}
use Rattle.pe_origin.specs.declared.place.PlaceKind.TheVariants.{Blank}
use Rattle.pe_rules.specs.Origins.{place_or_none}
use Rattle.pe_events.specs.declared.event.Event.TheVariants as event
use Rattle.pe_rules.specs.Causes.{is_no_url}
use Rattle.pe_rules.specs.Replies.{replied}
use Rattle.pe_engine.specs.declared.verbs.open.Embedding.{Embedding}
use Rattle.pe_engine.specs.Replying.{timed}
use Rattle.pe_engine.proofs.VerbAnswers.{url-embed, limit-embed, place-checked, second-bad}
use Rattle.pe_engine.proofs.Embedded.{document-place}
use Rattle.pe_engine.proofs.engine.Engine.embedding.Goals as goal

pub returns-in-Err-clause-cause : goal.returns-in-Err-clause-cause
returns-in-Err-clause-cause g c = λ H allow sandbox header fullscreen srcdoc s.
    let e = c.args.self.now in
    let T = replied e.duration H in
    place-checked Embedding e H (timed c.args.now (event.Embed c.args.parent c.args.src.now c.args.place.now allow sandbox fullscreen srcdoc header)) c.args.src.now c.in-Err.refusal c.in-Err.ensures
    (λ bad. c.in_ok-number.ensures.rest H _ s refl ∙ url-embed T c.args.now c.args.parent c.args.src.now c.args.place.now allow sandbox fullscreen srcdoc header (rw bad refl))

pub returns-in-Err-place_given-clause-cause : goal.returns-in-Err-place_given-clause-cause
returns-in-Err-place_given-clause-cause g c = λ H allow sandbox header fullscreen srcdoc s.
    let e = c.args.self.now in
    let T = replied e.duration H in
    place-checked Embedding e H (timed c.args.now (event.Embed c.args.parent c.args.src.now c.args.place.now allow sandbox fullscreen srcdoc header)) c.args.place.now c.in-Err-place_given.refusal c.in-Err-place_given.ensures
    (λ bad. c.in_ok-number.ensures.rest H _ s refl ∙ url-embed T c.args.now c.args.parent c.args.src.now c.args.place.now allow sandbox fullscreen srcdoc header (second-bad (is_no_url c.args.src.now) (is_no_url c.args.place.now) bad))

pub returns-in-Some-clause-cause : goal.returns-in-Some-clause-cause
returns-in-Some-clause-cause g c = λ H allow sandbox header fullscreen srcdoc s.
    let T = replied c.args.self.now.duration H in
    c.in_ok-number.ensures.rest H _ s refl ∙ limit-embed T c.args.now c.args.parent c.args.src.now c.args.place.now allow sandbox fullscreen srcdoc header c.in-Ok.ensures.0 c.in-Ok-place_given.ensures.0
    ∙ sym (c.limit_below.ensures H c.args.parent s c.in_ok-number.ensures.handle) ∙ c.in-Some.is

pub returns-clause-cause : goal.returns-clause-cause
returns-clause-cause g c = λ H allow sandbox header fullscreen srcdoc s.
    let T = replied c.args.self.now.duration H in
    c.in_ok-number.ensures.rest H _ s refl ∙ limit-embed T c.args.now c.args.parent c.args.src.now c.args.place.now allow sandbox fullscreen srcdoc header c.in-Ok.ensures.0 c.in-Ok-place_given.ensures.0
    ∙ sym (c.limit_below.ensures H c.args.parent s c.in_ok-number.ensures.handle) ∙ c.in_default.is

pub returns-clause-lookup : goal.returns-clause-lookup
returns-clause-lookup g c = record {
  number = c.in_ok-number.ensures.number;
  few = c.in_ok-number.ensures.few;
  handle = c.in_ok-number.ensures.handle;
  found = c.in_ok-number.ensures.found;
  src_is = c.in-Ok.ensures.1;
  place_is = c.in_ok-place.ensures
      ∙ ap (λ (o : Option Place). unwrap_or o (unwrap_or c.in-Ok.src (record { kind = Blank; tuple = None }))) c.in-Ok-place_given.ensures.1
      ∙ ap (λ (o : Option Place). unwrap_or (option_map place_or_none c.args.place.now) (unwrap_or o (record { kind = Blank; tuple = None }))) c.in-Ok.ensures.1
      ∙ document-place c.args.place.now c.args.src.now;
}
