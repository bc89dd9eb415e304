use Rattle.std.proofs.Common.{◌≡◌, ◌-◌, ◌*◌, ◌≤◌, ◌++◌, length}
use Rattle.pe_generator.specs.Generated.{generated, lines_from}
use Rattle.pe_generator.proofs.generating.generate_script.Given as goal

-- what is written, and the lines that are still to come, are the whole
abbrev pub invariant-loop-before : goal.invariant-loop-before
invariant-loop-before l = record {
  early : l.time ≤ 39 * l.before;
  short : length l.script.items ≤ 512 * l.before;
  whole : l.script.items ++ lines_from (l.count - l.before) l.before l.state l.time ≡ generated l.seed l.count;
}
