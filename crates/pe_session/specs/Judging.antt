-- What is judged of a line.
-- This project's own.
-- The engine stands for the events accepted so far; with an accepted event it goes on, and a refusal leaves it as it is.
use Rattle.std.specs.Prelude.{◌≡◌, ℕ, Bool, true, false, List, ◌++◌}
use Rattle.pe_events.specs.declared.answer.Answer.{Answer}
use Rattle.pe_events.specs.declared.answer.Answer.TheVariants as answer
use Rattle.pe_events.specs.Texts.{answer_text}
use Rattle.pe_engine.specs.declared.replies.Replies.{Replies}
use Rattle.pe_engine.specs.StandsFor.{EngineValue, StandsFor}
use Rattle.pe_rules.specs.History.{History}
use Rattle.pe_script.specs.Reading.{Reading}
use Rattle.pe_output.specs.OutputText.{changes_text, line_text, history_after_line, is_refused}

-- the answer is a refusal
abbrev pub is_refusal : Answer → Bool
is_refusal (answer.Refused why) = true
is_refusal said = false

-- the text of a reply: the changes before, the answer and the changes after
abbrev pub replies_text : ℕ → Replies → List ℕ
replies_text number reply = changes_text reply.before.items ++ answer_text number reply.answer ++ changes_text reply.after.items

-- the engine stands for the history, and transient activation lasts for so long with it
pub record Stands (duration : ℕ) (engine : EngineValue) (H : History) : Type 0 where
  pub lasts : engine.duration ≡ duration
  pub engine_stands : StandsFor engine H

-- a line of this reading was judged after a history: the engine goes on, the text is put behind, and it is said whether the line is refused
pub record Judged (duration : ℕ) (engine : EngineValue) (number : ℕ) (H : History) (reading : Reading) (old new : List ℕ) (refused : Bool) : Type 0 where
  pub stands : Stands duration engine (history_after_line duration H reading)
  pub text : new ≡ old ++ line_text duration number H reading
  pub refused_is : refused ≡ is_refused duration H reading
