-- What a reader of the code gives, as the definition of the reading has it.
-- RFC 8941, section 4.2: a text that is not in the grammar is refused as a whole.
-- This project's own: want of memory, of which nothing is said.
use Rattle.std.specs.Prelude.{◌≡◌, Option, Some, None, Result, Ok, Err, ⊤}
use Rattle.pe_fields.specs.declared.fault.Fault.{Fault}
use Rattle.pe_fields.specs.declared.fault.Fault.TheVariants.{Memory, Malformed}

-- what the fault says of the reading
abbrev pub Fails : {Y : Type 0} → Fault → Option Y → Type 0
Fails Memory read = ⊤
Fails Malformed read = read ≡ None

-- what was given is what the reading finds, unless memory ran out
abbrev pub Gives : {X Y : Type 0} → (X → Y) → Result X Fault → Option Y → Type 0
Gives view (Ok x) read = read ≡ Some (view x)
Gives view (Err fault) read = Fails fault read
