-- How texts, histories and refusals of lines go on.
use Rattle.std.proofs.Common.{◌≡◌, ℕ, suc, ◌+◌, Bool, true, false, List, [], ◌∷◌, ◌++◌, Option, length, sym, ap, ◌∙◌, refl, append_assoc, append-nil, arith}
use Rattle.std.proofs.lemmas.List.{map-append}
use Rattle.std.specs.Prelude.{◌||◌}
use Rattle.pe_rules.specs.History.{History}
use Rattle.pe_script.specs.Reading.{Reading}
use Rattle.pe_output.specs.OutputText.{reading_or_too_long, line_text, history_after_line, is_refused, text_from, refuses_from, readings}
use Rattle.pe_engine.specs.StandsFor.{EngineValue}
use Rattle.pe_session.specs.Judging.{Stands, Judged}
use Rattle.pe_session.specs.Session.{history_after_lines, HasJudged}

pub text-append : (duration n m : ℕ) (H : History) (ls more : List Reading) → m ≡ n + length ls
    → text_from duration n H (ls ++ more) ≡ text_from duration n H ls ++ text_from duration m (history_after_lines duration H ls) more
unfolding text_from
text-append duration n m H [] more e = let same : n ≡ m = omega arith in rw same refl
text-append duration n m H (l ∷ ls) more e =
    let later : m ≡ (n + 1) + length ls = omega arith in
    ap (λ t. line_text duration n H l ++ t) (text-append duration (n + 1) m (history_after_line duration H l) ls more later)
    ∙ sym (append_assoc (line_text duration n H l) (text_from duration (n + 1) (history_after_line duration H l) ls) (text_from duration m (history_after_lines duration (history_after_line duration H l) ls) more))

pub history-append : (duration : ℕ) (H : History) (ls more : List Reading) → history_after_lines duration H (ls ++ more) ≡ history_after_lines duration (history_after_lines duration H ls) more
history-append duration H [] more = refl
history-append duration H (l ∷ ls) more = history-append duration (history_after_line duration H l) ls more

or_assoc : (a b c : Bool) → (a || (b || c)) ≡ ((a || b) || c)
or_assoc true b c = refl
or_assoc false b c = refl

pub or-false : (a : Bool) → (a || false) ≡ a
or-false true = refl
or-false false = refl

pub refuses-append : (duration : ℕ) (H : History) (ls more : List Reading)
    → refuses_from duration H (ls ++ more) ≡ (refuses_from duration H ls || refuses_from duration (history_after_lines duration H ls) more)
unfolding refuses_from
refuses-append duration H [] more = refl
refuses-append duration H (l ∷ ls) more =
    ap (λ r. is_refused duration H l || r) (refuses-append duration (history_after_line duration H l) ls more)
    ∙ or_assoc (is_refused duration H l) (refuses_from duration (history_after_line duration H l) ls) (refuses_from duration (history_after_lines duration (history_after_line duration H l) ls) more)

-- of one line
pub text-one : (duration n : ℕ) (H : History) (l : Reading) → text_from duration n H (l ∷ []) ≡ line_text duration n H l
unfolding text_from
text-one duration n H l = append-nil (line_text duration n H l)

pub refuses-one : (duration : ℕ) (H : History) (l : Reading) → refuses_from duration H (l ∷ []) ≡ is_refused duration H l
unfolding refuses_from
refuses-one duration H l = or-false (is_refused duration H l)

-- of nothing
pub text-none : (duration n : ℕ) (H : History) → text_from duration n H [] ≡ []
unfolding text_from
text-none duration n H = refl

pub refuses-none : (duration : ℕ) (H : History) → refuses_from duration H [] ≡ false
unfolding refuses_from
refuses-none duration H = refl

pub length-readings : (lines : List (Option (List ℕ))) → length (readings lines) ≡ length lines
length-readings [] = refl
length-readings (l ∷ ls) = ap suc (length-readings ls)

pub Went-none : (duration n : ℕ) (engine : EngineValue) (H : History) (out : List ℕ) (refused : Bool) → Stands duration engine H → HasJudged duration engine n H out out refused refused []
Went-none duration n engine H out refused h = record {
  stands = h;
  text = sym (ap (λ t. out ++ t) (text-none duration n H) ∙ append-nil out);
  refused_is = sym (ap (λ r. refused || r) (refuses-none duration H) ∙ or-false refused);
}

-- one line on
pub Went-more : (duration n m : ℕ) (engine next : EngineValue) (H : History) (old mid new : List ℕ) (was mid_refused now refused : Bool) (done : List (Option (List ℕ))) (line : Option (List ℕ))
    → m ≡ n + length done → HasJudged duration engine n H old mid was mid_refused done
    → Judged duration next m (history_after_lines duration H (readings done)) (reading_or_too_long line) mid new refused
    → now ≡ (mid_refused || refused) → HasJudged duration next n H old new was now (done ++ line ∷ [])
Went-more duration n m engine next H old mid new was mid_refused now refused done line e w j is =
    let G = history_after_lines duration H (readings done) in
    let r = reading_or_too_long line in
    let split : readings (done ++ line ∷ []) ≡ readings done ++ r ∷ [] = map-append reading_or_too_long done (line ∷ []) in
    let later : m ≡ n + length (readings done) = rw (length-readings done) e in
    record {
      stands = rw (split, history-append duration H (readings done) (r ∷ [])) j.stands;
      text = rw split (j.text ∙ ap (λ t. t ++ line_text duration m G r) w.text ∙ append_assoc old (text_from duration n H (readings done)) (line_text duration m G r)
          ∙ ap (λ t. old ++ t) (sym (text-append duration n m H (readings done) (r ∷ []) later ∙ ap (λ t. text_from duration n H (readings done) ++ t) (text-one duration m G r))));
      refused_is = rw split (is ∙ ap (λ b. b || refused) w.refused_is ∙ ap (λ b. (was || refuses_from duration H (readings done)) || b) j.refused_is
          ∙ sym (or_assoc was (refuses_from duration H (readings done)) (is_refused duration G r))
          ∙ ap (λ b. was || b) (sym (refuses-append duration H (readings done) (r ∷ []) ∙ ap (λ b. refuses_from duration H (readings done) || b) (refuses-one duration G r))));
    }
