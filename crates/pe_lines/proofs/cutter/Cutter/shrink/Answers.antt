use Rattle.std.proofs.Common.{◌≡◌, ◌<◌, ◌≤◌, ◌-◌, ◌++◌, drop, take, length, sym, ap, ◌∙◌, subst, arith}
use Rattle.std.proofs.lemmas.List.{length-drop, take_all}
use Rattle.pe_lines.specs.Lines.{HasNoLineFeed}
use Rattle.pe_lines.specs.Rests.{Rest, filler, front_of}
use Rattle.pe_lines.specs.Cutting.{SameLines}
use Rattle.pe_lines.proofs.Overlong.{filler-none, filler_behind, filler_for, turned}
use Rattle.pe_lines.proofs.cutter.Cutter.shrink.Goals as goal

pub returns-then-self-clause-same : goal.returns-then-self-clause-same
returns-then-self-clause-same c =
    let rest = drop c.self.inside.at c.self.inside.held.items in
    let bytes : filler ++ rest ≡ c.args.self.now.bytes = ap (λ b. front_of b ++ rest) (sym c.if-self.true) ∙ ap (λ (v : Rest). v.bytes) c.self.view_is in
    rw c.forget.ensures.bytes (subst (λ b. SameLines b filler) bytes (filler_behind rest (subst HasNoLineFeed (sym bytes) c.requires)))

pub returns-then-self-clause-none : goal.returns-then-self-clause-none
returns-then-self-clause-none c = rw c.forget.ensures.bytes filler-none

pub returns-then-rest-clause-same : goal.returns-then-rest-clause-same
returns-then-rest-clause-same c =
    let rest = drop c.self.inside.at c.self.inside.held.items in
    let bytes : rest ≡ c.args.self.now.bytes = ap (λ b. front_of b ++ rest) (sym c.if-self.false) ∙ ap (λ (v : Rest). v.bytes) c.self.view_is in
    let long : 16385 < length rest = omega (arith, length-drop c.self.inside.at c.self.inside.held.items, c.len.ensures, c.self.inside.held.ok.0, c.if-rest.true) in
    rw c.forget-then-rest.ensures.bytes (subst (λ b. SameLines b filler) bytes (filler_for rest (subst HasNoLineFeed (sym bytes) c.requires) long))

pub returns-then-rest-clause-none : goal.returns-then-rest-clause-none
returns-then-rest-clause-none c = rw c.forget-then-rest.ensures.bytes filler-none

pub invariant_of-self : goal.invariant_of-self
invariant_of-self c =
    let held = c.self.inside.held.items in
    let at = c.self.inside.at in
    let count = c.len.result - at in
    let rest = drop at held in
    let within : at ≤ length held = omega (arith, c.self.invariant.looked, c.self.invariant.looked_within) in
    let all : count ≡ length held - at = omega (arith, c.len.ensures, c.self.inside.held.ok.0) in
    let bytes : rest ≡ c.args.self.now.bytes = ap (λ b. front_of b ++ rest) (sym c.if-self.false) ∙ ap (λ (v : Rest). v.bytes) c.self.view_is in
    let now : c.truncate.new.self.items ≡ rest = c.truncate.ensures.items ∙ ap (take count) c.rotate_left.ensures.items ∙ turned held at count within all in
    let len : length c.truncate.new.self.items ≡ count = ap length now ∙ length-drop at held ∙ sym all in
    record {
      line = omega arith;
      line_within = omega arith;
      looked = omega arith;
      looked_within = omega (arith, len);
      none = subst HasNoLineFeed (sym (take_all (count - 0) c.truncate.new.self.items (omega (arith, len)) ∙ now ∙ bytes)) c.requires;
    }

pub returns-clause-none : goal.returns-clause-none
returns-clause-none c =
    let held = c.self.inside.held.items in
    let at = c.self.inside.at in
    let rest = drop at held in
    let within : at ≤ length held = omega (arith, c.self.invariant.looked, c.self.invariant.looked_within) in
    let all : c.len.result - at ≡ length held - at = omega (arith, c.len.ensures, c.self.inside.held.ok.0) in
    let bytes : rest ≡ c.args.self.now.bytes = ap (λ b. front_of b ++ rest) (sym c.if-self.false) ∙ ap (λ (v : Rest). v.bytes) c.self.view_is in
    let now : c.truncate.new.self.items ≡ rest = c.truncate.ensures.items ∙ ap (take (c.len.result - at)) c.rotate_left.ensures.items ∙ turned held at (c.len.result - at) within all in
    subst HasNoLineFeed (sym (ap (λ b. front_of b ++ c.truncate.new.self.items) c.if-self.false ∙ now ∙ bytes)) c.requires
