-- What a session stands for, and what it adds to the text.
-- This project's own.
-- A session has judged each line that is whole in the bytes taken, and holds what follows.
use Rattle.std.specs.Prelude.{◌≡◌, ℕ, ◌+◌, ◌||◌, Bool, false, List, [], ◌∷◌, ◌++◌, length, Option}
use Rattle.pe_lines.specs.Cutting.{Cuts}
use Rattle.pe_lines.specs.Lines.{ended_lines_or_too_long}
use Rattle.pe_rules.specs.History.{History}
use Rattle.pe_script.specs.Reading.{Reading}
use Rattle.pe_output.specs.OutputText.{output_text, ended_text, history_after_line, text_from, refuses_from, readings}
use Rattle.pe_engine.specs.StandsFor.{EngineValue}
use Rattle.pe_session.specs.declared.session.Session.{Session}
use Rattle.pe_session.specs.Judging.{Stands}

-- the history after these lines
abbrev pub history_after_lines : ℕ → History → List Reading → History
history_after_lines duration H [] = H
history_after_lines duration H (line ∷ lines) = history_after_lines duration (history_after_line duration H line) lines

-- these lines were judged, the first of which has this number
pub record HasJudged (duration : ℕ) (engine : EngineValue) (number : ℕ) (H : History) (old new : List ℕ) (was refused : Bool) (done : List (Option (List ℕ))) : Type 0 where
  pub stands : Stands duration engine (history_after_lines duration H (readings done))
  pub text : new ≡ old ++ text_from duration number H (readings done)
  pub refused_is : refused ≡ (was || refuses_from duration H (readings done))

-- the session has judged each line that is whole in the bytes taken, and its text is written
pub record HasTaken (duration : ℕ) (session : Session) (taken : List ℕ) : Type 0 where
  pub cuts : Cuts taken (ended_lines_or_too_long taken) session.cutter.bytes
  pub none : ended_lines_or_too_long session.cutter.bytes ≡ []
  pub open_still : session.cutter.finished ≡ false
  pub number : session.number ≡ 1 + length (ended_lines_or_too_long taken)
  pub stands : Stands duration session.engine (history_after_lines duration [] (readings (ended_lines_or_too_long taken)))
  pub refused_is : session.refused ≡ refuses_from duration [] (readings (ended_lines_or_too_long taken))
  pub empty : session.out.items ≡ []

-- the text of the lines that a piece ended
abbrev pub Adds : ℕ → List ℕ → List ℕ → List ℕ → Type 0
Adds duration taken piece text = ended_text duration (taken ++ piece) ≡ ended_text duration taken ++ text

-- the text of a last line that no line feed ended
abbrev pub AddsLast : ℕ → List ℕ → List ℕ → Type 0
AddsLast duration taken text = output_text duration taken ≡ ended_text duration taken ++ text
