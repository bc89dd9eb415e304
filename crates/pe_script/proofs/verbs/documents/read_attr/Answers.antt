use Rattle.std.proofs.Common.{ℕ, List, Option, None, Some, ap, ◌∙◌, option_map, option_and_then, codes}
use Rattle.pe_events.specs.declared.event.Event.TheVariants as event
use Rattle.pe_script.specs.Names.{attribute_names, keyword_in}
use Rattle.pe_script.specs.Verbs.{text_unless}
use Rattle.pe_script.proofs.Takes.{by_none, by_some, attr_of, attr_is, attr_left}
use Rattle.pe_script.proofs.verbs.documents.read_attr.Goals as goal

pub returns-in_default : goal.returns-in_default
returns-in_default c = by_none _ _ attr_of (attr_left _) c.in_default.ensures

pub returns-in_default-object : goal.returns-in_default-object
returns-in_default-object c =
    let w = c.in-Some in
    by_some _ None _ attr_of (w.frame, w.name, w.value) (attr_left _) w.ensures
    (ap (option_and_then (λ (f : ℕ). option_map (λ n. event.Attr f n (text_unless (codes "none") w.value)) (keyword_in attribute_names w.name))) c.in_default-object.ensures)

pub returns-in_default-attribute_name : goal.returns-in_default-attribute_name
returns-in_default-attribute_name c =
    let w = c.in-Some in
    by_some _ None _ attr_of (w.frame, w.name, w.value) (attr_left _) w.ensures
    (attr_is w.frame w.name w.value c.in-Some-object.frame None c.in-Some-object.ensures c.in_default-attribute_name.ensures)

pub returns : goal.returns
returns c =
    let w = c.in-Some in
    let frame = c.in-Some-object.frame in
    let name = c.in-Some-attribute_name.name in
    ap (λ (o : Option (List ℕ)). Some (event.Attr frame name o)) c.in-Ok.ensures
    ∙ by_some _ (Some (event.Attr frame name (text_unless (codes "none") w.value))) _ attr_of (w.frame, w.name, w.value) (attr_left _) w.ensures
    (attr_is w.frame w.name w.value frame (Some name) c.in-Some-object.ensures c.in-Some-attribute_name.ensures)
