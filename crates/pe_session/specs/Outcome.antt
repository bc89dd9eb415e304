-- What a run has written when it ends, by its status.
-- This project's own.
-- What is taken is what the source gave in this call; what it has left is known where the source tells its bytes.
use Rattle.std.specs.Prelude.{◌≡◌, ℕ, ◌-◌, ◌<◌, ◌≤◌, Bool, true, false, List, ◌++◌, length, take, Option, IfSome}
use Rattle.std.specs.Io.KnownBytes.{IsAtEnd, Appends}
use Rattle.pe_generator.specs.Summary.{count_lines, is_refusal, summary}
use Rattle.pe_output.specs.OutputText.{output_text, ended_text, refuses_some}
use Rattle.pe_session.specs.declared.status.Status.{Status}
use Rattle.pe_session.specs.declared.status.Status.TheVariants.{Clean, Refusals, Words, ReadFault, WriteFault, Memory, InputTooLong}

-- the bytes are a front of the others
abbrev pub IsPrefix : List ℕ → List ℕ → Type 0
IsPrefix front all = (rest : List ℕ) × (all ≡ front ++ rest)

-- a front of the whole text was written, with the text of each line that a line feed ended before the last 65,536 bytes taken
pub record IsCutShort (duration : ℕ) (taken : List ℕ) (left : Option (List ℕ)) (wrote : List ℕ) : Type 0 where
  pub front : IfSome left (λ more. IsPrefix wrote (output_text duration (taken ++ more)))
  pub enough : IsPrefix (ended_text duration (take (length taken - 65536) taken)) wrote

-- the input was taken to its end and is within the limit, and the whole text was written
pub record IsWhole (duration limit : ℕ) (taken : List ℕ) (left : Option (List ℕ)) (wrote : List ℕ) (refused : Bool) : Type 0 where
  pub ended : IsAtEnd left
  pub within : length taken ≤ limit
  pub text : wrote ≡ output_text duration taken
  pub refused_is : refuses_some duration taken ≡ refused

-- more bytes than the limit were taken, and the text of the lines that a line feed ended within it was written
pub record IsTooLong (duration limit : ℕ) (taken wrote : List ℕ) : Type 0 where
  pub over : limit < length taken
  pub text : wrote ≡ ended_text duration (take limit taken)

-- what a run took, left and wrote, by its status
abbrev pub Wrote : ℕ → Status → ℕ → List ℕ → Option (List ℕ) → List ℕ → Type 0
Wrote duration Clean limit taken left wrote = IsWhole duration limit taken left wrote false
Wrote duration Refusals limit taken left wrote = IsWhole duration limit taken left wrote true
Wrote duration Words limit taken left wrote = ⊥
Wrote duration ReadFault limit taken left wrote = wrote ≡ ended_text duration taken
Wrote duration WriteFault limit taken left wrote = IsCutShort duration taken left wrote
Wrote duration Memory limit taken left wrote = IsCutShort duration taken left wrote
Wrote duration InputTooLong limit taken left wrote = IsTooLong duration limit taken wrote

-- the text was written whole
abbrev pub IsWholeStatus : Status → Type 0
IsWholeStatus Clean = Unit {0}
IsWholeStatus Refusals = Unit {0}
IsWholeStatus status = ⊥

-- the text may have been cut anywhere
abbrev pub IsCutStatus : Status → Type 0
IsCutStatus WriteFault = Unit {0}
IsCutStatus Memory = Unit {0}
IsCutStatus status = ⊥

-- some line was refused
abbrev pub says_refused : Status → Bool
says_refused Refusals = true
says_refused status = false

-- a front of the text was written, maybe nothing of it
abbrev pub AppendsPrefix : Option (List ℕ) → Option (List ℕ) → List ℕ → Type 0
AppendsPrefix old new text = (front : List ℕ) × (rest : List ℕ) × (text ≡ front ++ rest) × Appends old new front

-- what was written of the summary of an output text, by the status: whole where it tells whether a line is refused, else a front of it
abbrev pub Summarises : Status → ℕ → List ℕ → Option (List ℕ) → Option (List ℕ) → Type 0
Summarises Clean count text old new = (count_lines is_refusal text ≡ 0) × Appends old new (summary count text)
Summarises Refusals count text old new = (0 < count_lines is_refusal text) × Appends old new (summary count text)
Summarises WriteFault count text old new = AppendsPrefix old new (summary count text)
Summarises Memory count text old new = new ≡ old
Summarises status count text old new = ⊥
