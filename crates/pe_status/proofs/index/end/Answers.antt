use Rattle.std.proofs.Common.{◌≡◌, ◌∙◌, sym, ap, subst, Some, is_some, Option, true≢false, ◌<◌, ◌+◌, ◌^◌}
use Rattle.std.specs.Prelude.{IfSome}
use Rattle.pe_status.specs.declared.index.Index.{Index}
use Rattle.pe_status.specs.declared.registered.Registered.{Registered}
use Rattle.pe_status.specs.Kept.{IsWithout}
use Rattle.pe_status.specs.Places.{value_at}
use Rattle.pe_status.proofs.Ending.{ending}
use Rattle.pe_status.proofs.index.end.Goals as goal

pub free_pair-requires : goal.free_pair-requires
free_pair-requires c = subst (λ (o : Option Registered). IfSome o (λ r. c.args.place.group + 1 < 2 ^ 64)) (sym c.take_row.ensures.value ∙ c.in-Some.is) c.requires.group

pub returns : goal.returns
returns c =
    let value : value_at c.args.index.now.rows c.args.place.group c.args.place.no ≡ Some c.in-Some.row = sym c.take_row.ensures.value ∙ c.in-Some.is in
    let own : c.in-Some.row.no ≡ c.args.place.no = subst (λ (o : Option Registered). IfSome o (λ r. r.no ≡ c.args.place.no)) value c.requires.own in
    let new : Index = record { rows = c.take_row.new.rows; pairs = c.free_pair.new.pairs; owned = c.free_place.new.taken; pages = c.take.new.self } in
    record {
      found = ap is_some (sym value);
      without = subst (λ (o : Option Registered). IfSome o (λ r. IsWithout r c.args.place.group c.args.index.now new)) (sym value)
          (ending c.in-Some.row c.args.place.group c.args.place.no c.args.index.now c.take_row.new.rows c.free_pair.new.pairs c.free_place.new.taken c.take.new.self c.of_document.result own
          c.take_row.ensures.rest c.free_pair.ensures c.of_document.ensures c.free_place.ensures c.take.ensures);
      same = λ none. absurd (true≢false (ap is_some (sym value ∙ none)));
    }
