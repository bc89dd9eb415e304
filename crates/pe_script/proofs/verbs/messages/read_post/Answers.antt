use Rattle.std.proofs.Common.{ℕ, List, Option, None, Some, ap, ◌∙◌, option_map, option_and_then, codes}
use Rattle.pe_events.specs.declared.event.Event.TheVariants as event
use Rattle.pe_script.specs.Numerals.{bare}
use Rattle.pe_script.specs.Verbs.{frame_word, text_unless}
use Rattle.pe_script.proofs.Takes.{by_none, by_some, post_of, post_is, no_target, post_left}
use Rattle.pe_script.proofs.verbs.messages.read_post.Goals as goal

pub returns-in_default : goal.returns-in_default
returns-in_default c = by_none _ _ post_of (post_left _) c.in_default.ensures

pub returns-in_default-object : goal.returns-in_default-object
returns-in_default-object c =
    let w = c.in-Some in
    by_some _ None _ post_of (w.sender, w.target, w.origin, w.capability) (post_left _) w.ensures
    (ap (option_and_then (λ (f : ℕ). option_and_then (λ (g : ℕ). option_map (event.Post f g (text_unless (codes "*") w.origin)) (bare w.capability)) (frame_word w.target))) c.in_default-object.ensures)

pub returns-in_default-object-2 : goal.returns-in_default-object-2
returns-in_default-object-2 c =
    let w = c.in-Some in
    by_some _ None _ post_of (w.sender, w.target, w.origin, w.capability) (post_left _) w.ensures
    (no_target w.sender w.target w.origin w.capability c.in-Some-object.sender c.in-Some-object.ensures c.in_default-object-2.ensures)

pub returns-in_default-bare_text : goal.returns-in_default-bare_text
returns-in_default-bare_text c =
    let w = c.in-Some in
    by_some _ None _ post_of (w.sender, w.target, w.origin, w.capability) (post_left _) w.ensures
    (post_is w.sender w.target w.origin w.capability c.in-Some-object.sender c.in-Some-object-2.target None c.in-Some-object.ensures c.in-Some-object-2.ensures c.in_default-bare_text.ensures)

pub returns : goal.returns
returns c =
    let w = c.in-Some in
    let sender = c.in-Some-object.sender in
    let target = c.in-Some-object-2.target in
    let text = c.in-Some-bare_text.capability in
    ap (λ (o : Option (List ℕ)). Some (event.Post sender target o text)) c.in-Ok.ensures
    ∙ by_some _ (Some (event.Post sender target (text_unless (codes "*") w.origin) text)) _ post_of (w.sender, w.target, w.origin, w.capability) (post_left _) w.ensures
    (post_is w.sender w.target w.origin w.capability sender target (Some text) c.in-Some-object.ensures c.in-Some-object-2.ensures c.in-Some-bare_text.ensures)
