use Rattle.std.proofs.Common.{◌≡◌, ◌+◌, ◌-◌, Some, take, drop, sym, ap, refl, inl}
use Rattle.std.specs.List.{position}
use Rattle.std.specs.Str.Lines.{strip_carriage_return}
use Rattle.pe_lines.specs.Lines.{is_line_feed, within_limit}
use Rattle.pe_lines.specs.Rests.{Rest}
use Rattle.pe_lines.proofs.Parts.{told-none}
use Rattle.pe_lines.proofs.Overlong.{no_feed_left, takes_long, takes_held, is_found}
use Rattle.pe_lines.proofs.cutter.Cutter.advance.Goals as goal

pub returns-then-self : goal.returns-then-self
returns-then-self c =
    let held = c.self.inside.held.items in
    let at = c.self.inside.at in
    let view = ap (λ (v : Rest). v.bytes) c.self.view_is in
    let found : position is_line_feed (drop at held) ≡ Some c.in-Some.count = rw c.deref.ensures.value at (sym c.in-Some.ensures) in
    record {
      finished = ap (λ (v : Rest). v.finished) c.self.view_is;
      taken = inl (takes_long held _ at c.in-Some.count c.self.inside.long view found c.if-self.true);
    }

pub returns-else-self : goal.returns-else-self
returns-else-self c =
    let held = c.self.inside.held.items in
    let at = c.self.inside.at in
    let count = c.in-Some.count in
    let end = c.line_end-self-inside.result in
    let view = ap (λ (v : Rest). v.bytes) c.self.view_is in
    let line = take (end - at) (drop at held) in
    let first : position is_line_feed (drop at held) ≡ Some count = rw c.deref.ensures.value at (sym c.in-Some.ensures) in
    let e : line ≡ strip_carriage_return (take (at + count - at) (drop at held)) = rw c.deref-in-Some.ensures.value at c.line_end-self-inside.ensures.line in
    rw c.found.ensures (is_found _ _ (record {
      finished = ap (λ (v : Rest). v.finished) c.self.view_is;
      taken = inl (takes_held held _ _ line at count c.self.inside.long (within_limit line) view first c.if-self.false refl e refl);
    }))

pub last-requires-clause-none : goal.last-requires-clause-none
last-requires-clause-none c =
    no_feed_left c.self.inside.held.items _ c.self.inside.at c.self.inside.long (ap (λ (v : Rest). v.bytes) c.self.view_is) (rw c.deref.ensures.value at (sym c.in-None.ensures))

pub shrink-requires : goal.shrink-requires
shrink-requires c =
    no_feed_left c.self.inside.held.items _ c.self.inside.at c.self.inside.long (ap (λ (v : Rest). v.bytes) c.self.view_is) (rw c.deref.ensures.value at (sym c.in-None.ensures))

pub returns-else-self-2 : goal.returns-else-self-2
returns-else-self-2 c = record {
  same = c.shrink.ensures.same;
  none = told-none _ c.shrink.ensures.none;
  at_end = λ h. absurd (cc (h, c.if-self-2.false, ap (λ (v : Rest). v.finished) c.self.view_is));
  finished = c.shrink.ensures.finished;
  few = c.shrink.ensures.few;
}
