-- How the lines that were taken off an input go on.
use Rattle.std.proofs.Common.{◌≡◌, ℕ, List, [], ◌∷◌, ◌++◌, Option, sym, ap, ◌∙◌, refl, append_assoc, append-nil, arith, length-append, false, inl, inr}
use Rattle.pe_lines.specs.Lines.{lines, lines_or_too_long, ended_lines_or_too_long}
use Rattle.pe_lines.specs.Rests.{Rest}
use Rattle.pe_lines.specs.Cutting.{Cuts, TakesLine, TakesLast, TakesNext}

pub cuts_none : (bytes : List ℕ) → Cuts bytes [] bytes
cuts_none bytes = record { all = λ more. refl; ended = λ more. refl; fewer = omega arith }

pub cuts_feed : (bytes : List ℕ) (done : List (Option (List ℕ))) (rest piece : List ℕ) → Cuts bytes done rest → Cuts (bytes ++ piece) done (rest ++ piece)
cuts_feed bytes done rest piece h = record {
  all = λ more. rw (append_assoc bytes piece more, append_assoc rest piece more) (h.all (piece ++ more));
  ended = λ more. rw (append_assoc bytes piece more, append_assoc rest piece more) (h.ended (piece ++ more));
  fewer = omega (arith, h.fewer, length-append {A = ℕ});
}

pub cuts_join : (bytes : List ℕ) (done : List (Option (List ℕ))) (mid : List ℕ) (next : List (Option (List ℕ))) (rest : List ℕ) → Cuts bytes done mid → Cuts mid next rest → Cuts bytes (done ++ next) rest
cuts_join bytes done mid next rest h k = record {
  all = λ more. h.all more ∙ ap (λ ls. done ++ ls) (k.all more) ∙ sym (append_assoc done next (lines_or_too_long (rest ++ more)));
  ended = λ more. h.ended more ∙ ap (λ ls. done ++ ls) (k.ended more) ∙ sym (append_assoc done next (ended_lines_or_too_long (rest ++ more)));
  fewer = omega (arith, h.fewer, k.fewer, length-append done next);
}

pub cuts_ended : (bytes : List ℕ) (done : List (Option (List ℕ))) (rest : List ℕ) → Cuts bytes done rest → ended_lines_or_too_long rest ≡ [] → ended_lines_or_too_long bytes ≡ done
cuts_ended bytes done rest h none =
    ap ended_lines_or_too_long (sym (append-nil bytes)) ∙ h.ended [] ∙ ap (λ l. done ++ ended_lines_or_too_long l) (append-nil rest) ∙ ap (λ ls. done ++ ls) none ∙ append-nil done

pub cuts_last : (bytes : List ℕ) (done : List (Option (List ℕ))) (old new : List ℕ) (line : Option (List ℕ)) → Cuts bytes done old → TakesLast old new line → lines_or_too_long bytes ≡ done ++ line ∷ []
cuts_last bytes done old new line h t =
    ap lines_or_too_long (sym (append-nil bytes)) ∙ h.all [] ∙ ap (λ l. done ++ lines_or_too_long l) (append-nil old) ∙ ap (λ ls. done ++ ls) t.all

lines-nil : lines_or_too_long [] ≡ []
unfolding lines lines_or_too_long
lines-nil = refl

pub cuts_all : (bytes : List ℕ) (done : List (Option (List ℕ))) → Cuts bytes done [] → lines_or_too_long bytes ≡ done
cuts_all bytes done h = ap lines_or_too_long (sym (append-nil bytes)) ∙ h.all [] ∙ ap (λ ls. done ++ ls) lines-nil ∙ append-nil done

pub takes_open : (old new : Rest) (line : Option (List ℕ)) → old.finished ≡ false → TakesNext old new line → TakesLine old.bytes new.bytes line
takes_open old new line open_still next = elim next.taken [ inl t ↦ t | inr t ↦ absurd (cc (t.0, open_still)) ]

no_line_taken : (old new : List ℕ) (line : Option (List ℕ)) → ended_lines_or_too_long old ≡ [] → TakesLine old new line → ⊥
no_line_taken old new line none t = let both : line ∷ ended_lines_or_too_long (new ++ []) ≡ [] = sym (t.ended []) ∙ ap ended_lines_or_too_long (append-nil old) ∙ none in cc both

pub takes_final : (old new : Rest) (line : Option (List ℕ)) → ended_lines_or_too_long old.bytes ≡ [] → TakesNext old new line → TakesLast old.bytes new.bytes line
takes_final old new line none next = elim next.taken [ inl t ↦ absurd (no_line_taken old.bytes new.bytes line none t) | inr t ↦ t.1 ]
