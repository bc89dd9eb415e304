-- What a piece adds to the lines and the text of the bytes taken.
use Rattle.std.proofs.Common.{◌≡◌, ℕ, ◌+◌, Bool, false, List, [], ◌∷◌, ◌++◌, Option, Some, None, length, sym, ap, ◌∙◌, refl, append_assoc, append-nil, subst, inl, inr, arith, length-append}
use Rattle.std.proofs.lemmas.List.{map-append}
use Rattle.std.specs.Prelude.{◌||◌}
use Rattle.pe_lines.specs.declared.cutter.Cut.{Cut}
use Rattle.pe_lines.specs.Lines.{lines, lines_or_too_long, ended_lines_or_too_long}
use Rattle.pe_lines.specs.Rests.{Rest}
use Rattle.pe_lines.specs.Cutting.{Cuts, TakesLine, TakesLast, HasNoLine, IsNext, line_of_cut}
use Rattle.pe_output.specs.OutputText.{reading_or_too_long, output_text, ended_text, refuses_some, line_text, text_from, refuses_from, readings}
use Rattle.pe_engine.specs.StandsFor.{EngineValue}
use Rattle.pe_session.specs.Judging.{Stands, Judged}
use Rattle.pe_session.specs.Session.{history_after_lines, HasJudged, Adds, AddsLast}
use Rattle.pe_session.proofs.Texts.{text-append, history-append, refuses-append, text-one, refuses-one, length-readings}

-- ---- how `Cuts` goes on

pub Cuts-none : (bytes : List ℕ) → Cuts bytes [] bytes
Cuts-none bytes = record { all = λ more. refl; ended = λ more. refl; fewer = omega arith }

pub Cuts-feed : (bytes : List ℕ) (done : List (Option (List ℕ))) (rest piece : List ℕ) → Cuts bytes done rest → Cuts (bytes ++ piece) done (rest ++ piece)
Cuts-feed bytes done rest piece h = record {
  all = λ more. rw (append_assoc bytes piece more, append_assoc rest piece more) (h.all (piece ++ more));
  ended = λ more. rw (append_assoc bytes piece more, append_assoc rest piece more) (h.ended (piece ++ more));
  fewer = omega (arith, h.fewer, length-append {A = ℕ});
}

pub Cuts-join : (bytes : List ℕ) (done : List (Option (List ℕ))) (mid : List ℕ) (next : List (Option (List ℕ))) (rest : List ℕ) → Cuts bytes done mid → Cuts mid next rest → Cuts bytes (done ++ next) rest
Cuts-join bytes done mid next rest h k = record {
  all = λ more. h.all more ∙ ap (λ ls. done ++ ls) (k.all more) ∙ sym (append_assoc done next (lines_or_too_long (rest ++ more)));
  ended = λ more. h.ended more ∙ ap (λ ls. done ++ ls) (k.ended more) ∙ sym (append_assoc done next (ended_lines_or_too_long (rest ++ more)));
  fewer = omega (arith, h.fewer, k.fewer, length-append done next);
}

-- where no line is whole the lines so far are all that are ended
pub Cuts-ended : (bytes : List ℕ) (done : List (Option (List ℕ))) (rest : List ℕ) → Cuts bytes done rest → ended_lines_or_too_long rest ≡ [] → ended_lines_or_too_long bytes ≡ done
Cuts-ended bytes done rest h none =
    ap ended_lines_or_too_long (sym (append-nil bytes)) ∙ h.ended [] ∙ ap (λ l. done ++ ended_lines_or_too_long l) (append-nil rest) ∙ ap (λ ls. done ++ ls) none ∙ append-nil done

told-nil : lines_or_too_long [] ≡ []
unfolding lines_or_too_long lines
told-nil = refl

-- nothing is left
pub Cuts-all : (bytes : List ℕ) (done : List (Option (List ℕ))) → Cuts bytes done [] → lines_or_too_long bytes ≡ done
Cuts-all bytes done h = ap lines_or_too_long (sym (append-nil bytes)) ∙ h.all [] ∙ ap (λ ls. done ++ ls) told-nil ∙ append-nil done

-- the last line is left
pub Cuts-last : (bytes : List ℕ) (done : List (Option (List ℕ))) (old new : List ℕ) (line : Option (List ℕ)) → Cuts bytes done old → TakesLast old new line → lines_or_too_long bytes ≡ done ++ line ∷ []
Cuts-last bytes done old new line h t =
    ap lines_or_too_long (sym (append-nil bytes)) ∙ h.all [] ∙ ap (λ l. done ++ lines_or_too_long l) (append-nil old) ∙ ap (λ ls. done ++ ls) t.all

-- ---- what the cutter gives

-- before the input ends a line is one that a line feed ended
pub next-whole : (old new : Rest) (result : Option Cut) (cut : Cut) → old.finished ≡ false → result ≡ Some cut → IsNext old new result → (new.finished ≡ false) × TakesLine old.bytes new.bytes (line_of_cut cut)
next-whole old new result cut open_still is next =
    let t = subst (IsNext old new) is next in
    (t.finished ∙ open_still, elim t.taken [ inl l ↦ l | inr l ↦ cc (l.0, open_still) ])

-- there is none
pub next-none : (old new : Rest) (result : Option Cut) → result ≡ None → IsNext old new result → HasNoLine old new
next-none old new result is next = subst (IsNext old new) is next

-- where no line is whole the line that `next_line` gave at the end is the last one
pub last-taken : (old new : Rest) (result : Option Cut) (cut : Cut) → ended_lines_or_too_long old.bytes ≡ [] → result ≡ Some cut → IsNext old new result → TakesLast old.bytes new.bytes (line_of_cut cut)
last-taken old new result cut none is next = elim (subst (IsNext old new) is next).taken [ inl l ↦ absurd (no_line l) | inr l ↦ l.1 ]
  where
    no_line : TakesLine old.bytes new.bytes (line_of_cut cut) → ⊥
    no_line l =
        let here : ended_lines_or_too_long old.bytes ≡ line_of_cut cut ∷ ended_lines_or_too_long (new.bytes ++ []) = ap ended_lines_or_too_long (sym (append-nil old.bytes)) ∙ l.ended [] in
        cc (sym none ∙ here)

-- ---- a piece

-- the piece ended these lines
pub lines-more : (taken piece old fed new : List ℕ) (done : List (Option (List ℕ))) → Cuts taken (ended_lines_or_too_long taken) old → fed ≡ old ++ piece → Cuts fed done new → ended_lines_or_too_long new ≡ []
    → (ended_lines_or_too_long (taken ++ piece) ≡ ended_lines_or_too_long taken ++ done) × Cuts (taken ++ piece) (ended_lines_or_too_long (taken ++ piece)) new
lines-more taken piece old fed new done h e k none =
    let from = rw e at k in
    let all = Cuts-join (taken ++ piece) (ended_lines_or_too_long taken) (old ++ piece) done new (Cuts-feed taken (ended_lines_or_too_long taken) old piece h) from in
    let same = Cuts-ended (taken ++ piece) (ended_lines_or_too_long taken ++ done) new all none in
    (same, rw same all)

-- and this text, history and flag
pub piece-went : (duration n : ℕ) (engine : EngineValue) (taken piece old new : List ℕ) (was refused : Bool) (done : List (Option (List ℕ)))
    → ended_lines_or_too_long (taken ++ piece) ≡ ended_lines_or_too_long taken ++ done → n ≡ 1 + length (ended_lines_or_too_long taken)
    → HasJudged duration engine n (history_after_lines duration [] (readings (ended_lines_or_too_long taken))) old new was refused done
    → old ≡ [] → was ≡ refuses_from duration [] (readings (ended_lines_or_too_long taken))
    → Stands duration engine (history_after_lines duration [] (readings (ended_lines_or_too_long (taken ++ piece))))
    × Adds duration taken piece new × (refused ≡ refuses_from duration [] (readings (ended_lines_or_too_long (taken ++ piece))))
unfolding ended_text
piece-went duration n engine taken piece old new was refused done e at_line w empty flag =
    let before = ended_lines_or_too_long taken in
    let split : readings (ended_lines_or_too_long (taken ++ piece)) ≡ readings before ++ readings done = ap readings e ∙ map-append reading_or_too_long before done in
    let line : n ≡ 1 + length (readings before) = rw (length-readings before) at_line in
    let G = history_after_lines duration [] (readings before) in
    rw split (
      rw (history-append duration [] (readings before) (readings done)) w.stands,
      text-append duration 1 n [] (readings before) (readings done) line ∙ ap (λ t. text_from duration 1 [] (readings before) ++ t) (sym (w.text ∙ ap (λ t. t ++ text_from duration n G (readings done)) empty)),
      w.refused_is ∙ ap (λ r. r || refuses_from duration G (readings done)) flag ∙ sym (refuses-append duration [] (readings before) (readings done)),
    )

-- ---- the last line

pub last-some : (duration n : ℕ) (engine : EngineValue) (taken old new out text : List ℕ) (line : Option (List ℕ)) (was refused now : Bool)
    → Cuts taken (ended_lines_or_too_long taken) old → TakesLast old new line → n ≡ 1 + length (ended_lines_or_too_long taken)
    → Judged duration engine n (history_after_lines duration [] (readings (ended_lines_or_too_long taken))) (reading_or_too_long line) out text refused
    → out ≡ [] → was ≡ refuses_from duration [] (readings (ended_lines_or_too_long taken)) → now ≡ (was || refused)
    → AddsLast duration taken text × (now ≡ refuses_some duration taken)
unfolding output_text ended_text refuses_some
last-some duration n engine taken old new out text line was refused now h t at_line j empty flag is =
    let before = ended_lines_or_too_long taken in
    let r = reading_or_too_long line in
    let G = history_after_lines duration [] (readings before) in
    let split : readings (lines_or_too_long taken) ≡ readings before ++ r ∷ [] = ap readings (Cuts-last taken before old new line h t) ∙ map-append reading_or_too_long before (line ∷ []) in
    let later : n ≡ 1 + length (readings before) = rw (length-readings before) at_line in
    rw split (
      text-append duration 1 n [] (readings before) (r ∷ []) later
          ∙ ap (λ x. text_from duration 1 [] (readings before) ++ x) (text-one duration n G r ∙ sym (j.text ∙ ap (λ o. o ++ line_text duration n G r) empty)),
      is ∙ ap (λ b. b || refused) flag ∙ ap (λ b. refuses_from duration [] (readings before) || b) (j.refused_is ∙ sym (refuses-one duration G r))
          ∙ sym (refuses-append duration [] (readings before) (r ∷ [])),
    )

pub last-none : (duration : ℕ) (taken old out : List ℕ) (was : Bool) → Cuts taken (ended_lines_or_too_long taken) old → old ≡ [] → out ≡ [] → was ≡ refuses_from duration [] (readings (ended_lines_or_too_long taken))
    → AddsLast duration taken out × (was ≡ refuses_some duration taken)
unfolding output_text ended_text refuses_some
last-none duration taken old out was h e empty flag =
    let all : lines_or_too_long taken ≡ ended_lines_or_too_long taken = Cuts-all taken (ended_lines_or_too_long taken) (rw e at h) in
    rw (all, empty) (sym (append-nil _), flag)
