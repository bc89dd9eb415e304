use Rattle.std.proofs.Common.{◌≡◌, ◌<◌, ◌≤◌, ◌-◌, take, drop, length, ap, arith, inr, refl}
use Rattle.std.specs.Str.Lines.{strip_carriage_return}
use Rattle.pe_lines.specs.Lines.{within_limit}
use Rattle.pe_lines.specs.Rests.{Rest}
use Rattle.pe_lines.proofs.Parts.{told-nothing}
use Rattle.pe_lines.proofs.Overlong.{takes_last_long, takes_last_held, is_found, nothing_left, same_nothing}
use Rattle.pe_lines.proofs.cutter.Cutter.last.Goals as goal

pub returns-then-self : goal.returns-then-self
returns-then-self c =
    let held = c.self.inside.held.items in
    let view = ap (λ (v : Rest). v.bytes) c.self.view_is in
    let len : length held ≤ c.len-self-inside.result = omega (arith, c.len-self-inside.ensures, c.self.inside.held.ok.0) in
    record {
      finished = ap (λ (v : Rest). v.finished) c.self.view_is;
      taken = inr (c.requires.finished, takes_last_long held _ c.self.inside.at _ c.self.inside.long view c.requires.none c.if-self.true len);
    }

pub returns-then-self-len : goal.returns-then-self-len
returns-then-self-len c =
    let held = c.self.inside.held.items in
    let at = c.self.inside.at in
    let view = ap (λ (v : Rest). v.bytes) c.self.view_is in
    let past : length held ≤ at = omega (arith, c.len.ensures, c.if-self-len.true, c.self.inside.held.ok.0) in
    let nothing = nothing_left held _ at c.self.inside.long view c.if-self.false past in
    record {
      same = same_nothing _ _ nothing c.let_go.ensures.bytes;
      none = told-nothing _ c.let_go.ensures.bytes;
      at_end = λ h. nothing;
      finished = cc;
      few = omega (arith, c.let_go.ensures.kept);
    }

pub returns : goal.returns
returns c =
    let held = c.self.inside.held.items in
    let at = c.self.inside.at in
    let view = ap (λ (v : Rest). v.bytes) c.self.view_is in
    let end = c.line_end-self-inside.result in
    let most = c.len-self-inside-2.result in
    let line = take (end - at) (drop at held) in
    let e : line ≡ strip_carriage_return (take (most - at) (drop at held)) = rw c.deref.ensures.value at c.line_end-self-inside.ensures.line in
    let all : length held ≤ most = omega (arith, c.len-self-inside-2.ensures, c.self.inside.held.ok.0) in
    let within : at < length held = omega (arith, c.if-self-len.false, c.len.ensures, c.self.inside.held.ok.0, c.self.invariant.looked, c.self.invariant.looked_within) in
    rw c.found.ensures (is_found _ _ (record {
      finished = ap (λ (v : Rest). v.finished) c.self.view_is;
      taken = inr (c.requires.finished, takes_last_held held _ _ line at most c.self.inside.long (within_limit line) view c.requires.none c.if-self.false all within refl e refl);
    }))
