-- Clauses on an outcome, where it is known which it is, or where they hold of any.
use Rattle.std.proofs.Common.{◌≡◌, false, Option, Some, None, Result, Ok, Err, OnOk, OnErr, IfNone, is_err}

pub on-err : {T E P : Type 0} (r : Result T E) → P → OnErr r P
on-err (Ok x) p = tt
on-err (Err e) p = p

pub when-ok : {T E P : Type 0} (r : Result T E) → is_err r ≡ false → OnOk r P → P
when-ok (Ok x) h p = p
when-ok (Err e) h p = absurd (cc h)

pub if-none : {T P : Type 0} (r : Option T) → P → IfNone r P
if-none None p = p
if-none (Some x) p = tt
