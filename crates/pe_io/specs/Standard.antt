-- What contracts see of a source and a sink over the runtime's readers and writers.
use Rattle.std.specs.Prelude.{ℕ, List}
use Rattle.std.specs.declared.option.Option.{Option}

-- a source: the bytes that its reader has left, where they are known, and the faults
pub record StdReading : Type 0 where
  pub left : Option (List ℕ)
  pub faults : ℕ

-- a sink: the bytes that its writer holds, where they are known, and the faults
pub record StdWriting : Type 0 where
  pub held : Option (List ℕ)
  pub faults : ℕ
