-- What contracts see of a source and a sink over memory.
use Rattle.std.specs.Prelude.{ℕ, max, min, List, slice_get, unwrap_or, option_map}

-- a source: the bytes left, the sizes and failing calls that it was made with, the next call's number, the faults
pub record Reading : Type 0 where
  pub rest : List ℕ
  pub sizes : List ℕ
  pub fails : List ℕ
  pub call : ℕ
  pub faults : ℕ

-- a sink: the bytes written, how many fit in all, the sizes and failing calls that it was made with, the next call's number, the faults
pub record Writing : Type 0 where
  pub bytes : List ℕ
  pub room : ℕ
  pub sizes : List ℕ
  pub fails : List ℕ
  pub call : ℕ
  pub faults : ℕ

-- how many of n bytes a call moves: all of them where it has no size, else no more than its size, where 0 counts as 1
abbrev pub sized : List ℕ → ℕ → ℕ → ℕ
sized sizes call n = min n (unwrap_or (option_map (λ size. max size 1) (slice_get sizes call)) n)

-- a sink that keeps what is written: the bytes, the faults
pub record Keeping : Type 0 where
  pub text : List ℕ
  pub faults : ℕ
