use Rattle.std.proofs.Common.{◌≡◌, ◌+◌, ◌-◌, ◌<◌, length, length-append, ap, refl, arith, append_assoc}
use Rattle.std.proofs.lemmas.Grind.{common_steps}
use Rattle.pe_generator.specs.Generated.{pause, drawn, choice, line_of, lines_from, generated}
use Rattle.pe_generator.proofs.Lengths.{line-short}
use Rattle.pe_generator.proofs.ToCome.{lines_from-more, lines_from-none}
use Rattle.pe_generator.proofs.generating.generate_script.Goals as goal

pub loop-before-init : goal.loop-before-init
unfolding generated
loop-before-init c = record {
  early = omega arith;
  short = rw c.new-script.ensures.items (omega arith);
  whole = let e : c.args.count - 0 ≡ c.args.count = omega arith in rw (c.new-script.ensures.items, e) refl;
}

pub loop-before-preserved : goal.loop-before-preserved
loop-before-preserved c = record {
  early = omega arith;
  short =
      let line = line_of c.loop-before.before (c.loop-before.time + pause (drawn c.next_state-state.result)) (choice (drawn c.next_state-state.result)) in
      let few = line-short c.loop-before.before (c.loop-before.time + pause (drawn c.next_state-state.result)) (choice (drawn c.next_state-state.result)) (omega arith) (omega arith) in
      let text = c.in_ok-put_line.ensures in
      omega (arith, ap length text, length-append c.loop-before.script.items line, c.loop-before.invariant.short);
  whole =
      let h : c.loop-before.before < c.args.count = omega arith in
      let more = lines_from-more c.args.count c.loop-before.before c.loop-before.state c.loop-before.time h in
      let line = line_of c.loop-before.before (c.loop-before.time + pause (drawn c.next_state-state.result)) (choice (drawn c.next_state-state.result)) in
      let rest = lines_from (c.args.count - (c.loop-before.before + 1)) (c.loop-before.before + 1) c.next_state-state.result (c.loop-before.time + pause (drawn c.next_state-state.result)) in
      let joined = append_assoc c.loop-before.script.items line rest in
      cc (c.in_ok-put_line.ensures);
}

pub returns-clause-script : goal.returns-clause-script
returns-clause-script c =
    let e : c.args.count - c.loop-before.before ≡ 0 = omega arith in
    let none = lines_from-none c.args.count c.loop-before.before c.loop-before.state c.loop-before.time e in
    grind (arith, common_steps, none, c.loop-before.invariant.whole)
