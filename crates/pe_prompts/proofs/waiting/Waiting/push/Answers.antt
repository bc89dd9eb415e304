use Rattle.std.proofs.Common.{◌≡◌, ◌++◌, ◌&&◌, ◌||◌, [], ◌∷◌, Some, nat_eq, length, length-append, ap, sym, subst, ◌∙◌, arith}
use Rattle.pe_prompts.specs.Places.{is_noted}
use Rattle.pe_prompts.specs.Requests.{somes, AreNoted}
use Rattle.pe_prompts.proofs.Requests.{somes-push, length-somes, AreNoted-push}
use Rattle.pe_prompts.proofs.waiting.Waiting.push.Goals as goal

pub overflow_add-self : goal.overflow_add-self
overflow_add-self c = omega (arith, length-somes c.self.inside.requests.items, c.self.invariant.counted, c.self.inside.requests.ok, c.self.inside.requests.small)

pub invariant_of-self-2 : goal.invariant_of-self-2
invariant_of-self-2 c =
    let items : c.push_reserved.new.self.items ≡ c.self.inside.requests.items ++ Some c.args.asker ∷ [] = c.push_reserved.ensures.items ∙ ap (λ l. l ++ Some c.args.asker ∷ []) c.in_ok-reserve.ensures.items in
    record {
      counted = omega (arith, ap length (ap somes items ∙ somes-push c.self.inside.requests.items c.args.asker), length-append (somes c.self.inside.requests.items) (c.args.asker ∷ []), c.self.invariant.counted);
      noted = subst (λ l. AreNoted l c.note_place.new.places) (sym items)
          (AreNoted-push c.self.inside.requests.items c.args.asker c.self.inside.places c.note_place.new.places c.self.invariant.noted
          (λ d i. c.in_ok-note_place.ensures.ok d i ∙ ap (λ n. (nat_eq c.args.asker.doc d && nat_eq n i) || is_noted c.self.inside.places d i) (c.len-place.ensures ∙ c.reserve.new.self.ok.0 ∙ ap length c.in_ok-reserve.ensures.items)));
    }

pub returns-clause-ok : goal.returns-clause-ok
returns-clause-ok c =
    let items : c.push_reserved.new.self.items ≡ c.self.inside.requests.items ++ Some c.args.asker ∷ [] = c.push_reserved.ensures.items ∙ ap (λ l. l ++ Some c.args.asker ∷ []) c.in_ok-reserve.ensures.items in
    ap somes items ∙ somes-push c.self.inside.requests.items c.args.asker ∙ ap (λ l. l ++ c.args.asker ∷ []) c.self.view_is
