-- What a run has written, by the script that the source told.
use Rattle.std.proofs.Common.{◌≡◌, ◌≢◌, ℕ, ◌<◌, ◌≤◌, ◌⊎◌, Bool, List, ◌++◌, Option, Some, None, IfSome, length, ap, ◌∙◌, refl, append-nil, subst, inl, inr, arith, length-append}
use Rattle.std.specs.Io.KnownBytes.{Appends, Consumes, IsAtEnd}
use Rattle.pe_output.specs.OutputText.{output_text, refuses_some}
use Rattle.pe_session.specs.declared.status.Status.{Status}
use Rattle.pe_session.specs.declared.status.Status.TheVariants.{Clean, Refusals, Words, ReadFault, WriteFault, Memory, InputTooLong}
use Rattle.pe_session.specs.Outcome.{IsCutShort, IsWhole, Wrote, IsWholeStatus, IsCutStatus, says_refused, AppendsPrefix}

at-end : (script : List ℕ) (left : Option (List ℕ)) (taken : List ℕ) → Consumes (Some script) left taken → IsAtEnd left → script ≡ taken
at-end script None taken given e = absurd given
at-end script (Some rest) taken given e = given ∙ ap (λ l. taken ++ l) e ∙ append-nil taken

-- the whole text is that of the script
whole-script : (duration limit : ℕ) (script : List ℕ) (left old new : Option (List ℕ)) (taken wrote : List ℕ) (refused : Bool)
    → Consumes (Some script) left taken → Appends old new wrote → IsWhole duration limit taken left wrote refused
    → (length script ≤ limit) × Appends old new (output_text duration script) × (refuses_some duration script ≡ refused)
whole-script duration limit script left old new taken wrote refused given put w =
    rw (at-end script left taken given w.ended) (w.within, subst (Appends old new) w.text put, w.refused_is)

pub whole-clause : (duration : ℕ) (status : Status) (limit : ℕ) (had left old new : Option (List ℕ)) (taken wrote : List ℕ)
    → Consumes had left taken → Appends old new wrote → Wrote duration status limit taken left wrote → IsWholeStatus status
    → IfSome had (λ script. (length script ≤ limit) × Appends old new (output_text duration script) × (refuses_some duration script ≡ says_refused status))
whole-clause duration status limit None left old new taken wrote given put w is = tt
whole-clause duration Clean limit (Some script) left old new taken wrote given put w is = whole-script duration limit script left old new taken wrote _ given put w
whole-clause duration Refusals limit (Some script) left old new taken wrote given put w is = whole-script duration limit script left old new taken wrote _ given put w
whole-clause duration status limit (Some script) left old new taken wrote given put w is = absurd is

cut-script : (duration : ℕ) (script : List ℕ) (left old new : Option (List ℕ)) (taken wrote : List ℕ)
    → Consumes (Some script) left taken → Appends old new wrote → IsCutShort duration taken left wrote → AppendsPrefix old new (output_text duration script)
cut-script duration script None old new taken wrote given put w = absurd given
cut-script duration script (Some more) old new taken wrote given put w =
    let (rest, e) = w.front in (wrote, rest, ap (output_text duration) given ∙ e, put)

pub cut-clause : (duration : ℕ) (status : Status) (limit : ℕ) (had left old new : Option (List ℕ)) (taken wrote : List ℕ)
    → Consumes had left taken → Appends old new wrote → Wrote duration status limit taken left wrote → IsCutStatus status
    → IfSome had (λ script. AppendsPrefix old new (output_text duration script))
cut-clause duration status limit None left old new taken wrote given put w is = tt
cut-clause duration WriteFault limit (Some script) left old new taken wrote given put w is = cut-script duration script left old new taken wrote given put w
cut-clause duration Memory limit (Some script) left old new taken wrote given put w is = cut-script duration script left old new taken wrote given put w
cut-clause duration status limit (Some script) left old new taken wrote given put w is = absurd is

-- as many bytes as were taken
no-shorter : (script : List ℕ) (left : Option (List ℕ)) (taken : List ℕ) → Consumes (Some script) left taken → length taken ≤ length script
no-shorter script None taken given = absurd given
no-shorter script (Some rest) taken given = omega (arith, ap length given, length-append taken rest)

pub long-clause : (duration : ℕ) (status : Status) (limit : ℕ) (had left old new : Option (List ℕ)) (taken wrote : List ℕ)
    → Consumes had left taken → Appends old new wrote → Wrote duration status limit taken left wrote → status ≡ InputTooLong
    → IfSome had (λ script. limit < length script)
long-clause duration status limit None left old new taken wrote given put w is = tt
long-clause duration status limit (Some script) left old new taken wrote given put w is =
    let at = subst (λ s. Wrote duration s limit taken left wrote) is w in
    omega (arith, at.over, no-shorter script left taken given)

pub complete-clause : (duration : ℕ) (status : Status) (limit : ℕ) (had left old new : Option (List ℕ)) (taken wrote : List ℕ)
    → Consumes had left taken → Appends old new wrote → Wrote duration status limit taken left wrote → status ≢ ReadFault → status ≢ WriteFault
    → IfSome had (λ script. length script ≤ limit → IsWholeStatus status ⊎ (status ≡ Memory))
complete-clause duration status limit None left old new taken wrote given put w read write = tt
complete-clause duration Clean limit (Some script) left old new taken wrote given put w read write = λ within. inl tt
complete-clause duration Refusals limit (Some script) left old new taken wrote given put w read write = λ within. inl tt
complete-clause duration Words limit (Some script) left old new taken wrote given put w read write = absurd w
complete-clause duration ReadFault limit (Some script) left old new taken wrote given put w read write = absurd (read refl)
complete-clause duration WriteFault limit (Some script) left old new taken wrote given put w read write = absurd (write refl)
complete-clause duration Memory limit (Some script) left old new taken wrote given put w read write = λ within. inr refl
complete-clause duration InputTooLong limit (Some script) left old new taken wrote given put w read write = λ within.
    absurd (omega (arith, w.over, no-shorter script left taken given))

-- a run that was whole took no more than the limit
not-over : (duration limit : ℕ) (script : List ℕ) (left : Option (List ℕ)) (taken wrote : List ℕ) (refused : Bool) → Consumes (Some script) left taken
    → IsWhole duration limit taken left wrote refused → limit < length script → ⊥
not-over duration limit script left taken wrote refused given w over = omega (arith, w.within, ap length (at-end script left taken given w.ended))

pub complete-long-clause : (duration : ℕ) (status : Status) (limit : ℕ) (had left old new : Option (List ℕ)) (taken wrote : List ℕ)
    → Consumes had left taken → Appends old new wrote → Wrote duration status limit taken left wrote → status ≢ ReadFault → status ≢ WriteFault
    → IfSome had (λ script. limit < length script → (status ≡ InputTooLong) ⊎ (status ≡ Memory))
complete-long-clause duration status limit None left old new taken wrote given put w read write = tt
complete-long-clause duration Clean limit (Some script) left old new taken wrote given put w read write = λ over. absurd (not-over duration limit script left taken wrote _ given w over)
complete-long-clause duration Refusals limit (Some script) left old new taken wrote given put w read write = λ over. absurd (not-over duration limit script left taken wrote _ given w over)
complete-long-clause duration Words limit (Some script) left old new taken wrote given put w read write = absurd w
complete-long-clause duration ReadFault limit (Some script) left old new taken wrote given put w read write = absurd (read refl)
complete-long-clause duration WriteFault limit (Some script) left old new taken wrote given put w read write = absurd (write refl)
complete-long-clause duration Memory limit (Some script) left old new taken wrote given put w read write = λ over. inr refl
complete-long-clause duration InputTooLong limit (Some script) left old new taken wrote given put w read write = λ over. inl refl

pub no-words : (duration : ℕ) (status : Status) (limit : ℕ) (left : Option (List ℕ)) (taken wrote : List ℕ) → Wrote duration status limit taken left wrote → status ≢ Words
no-words duration status limit left taken wrote w is = subst (λ s. Wrote duration s limit taken left wrote) is w
