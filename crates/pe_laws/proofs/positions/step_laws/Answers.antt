use Rattle.pe_laws.proofs.Continued.{told-continued, answers-continued}
use Rattle.pe_laws.proofs.Steps.{told-start, told-step, told-length, clock-start, clock-step, step-other, step-newest, step-position, since-newest, since-older, regular-step}
use Rattle.pe_laws.proofs.positions.step_laws.Goals as goal

pub returns : goal.returns
returns c = record {
  continued = told-continued;
  answered_on = answers-continued;
  told_start = told-start;
  told_step = told-step;
  told_length = told-length;
  clock_start = clock-start;
  clock_step = clock-step;
  step_at_older = step-other;
  step_at_newest = step-newest;
  step_at_position = step-position;
  since_newest = since-newest;
  since_older = since-older;
  regular_step = regular-step;
}
