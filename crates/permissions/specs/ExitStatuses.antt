-- The exit statuses of the program, as the table of README.md has them.
use Rattle.std.specs.Prelude.{ℕ}
use Rattle.pe_session.specs.declared.status.Status.{Status}
use Rattle.pe_session.specs.declared.status.Status.TheVariants.{Clean, Refusals, Words, ReadFault, WriteFault, Memory, InputTooLong}

-- the exit status of each way in which a session ends
abbrev pub exit_status : Status → ℕ
exit_status Clean = 0
exit_status Refusals = 1
exit_status Words = 2
exit_status ReadFault = 3
exit_status WriteFault = 4
exit_status Memory = 5
exit_status InputTooLong = 6
