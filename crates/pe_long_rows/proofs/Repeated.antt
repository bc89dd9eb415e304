-- The text of lines that are written again and again, by induction on how often.
use Rattle.std.proofs.Common.{◌≡◌, ℕ, zero, suc, ◌+◌, ◌<◌, List, [], ◌∷◌, ◌++◌, length, map, refl, sym, ◌∙◌, ap, subst, arith, append-nil, append_assoc, add-one}
use Rattle.std.proofs.lemmas.List.{map-append}
use Rattle.pe_events.specs.Timed.{Timed}
use Rattle.pe_rules.specs.History.{History}
use Rattle.pe_script.specs.Reading.{Reading, Says}
use Rattle.pe_output.specs.OutputText.{event_text, history_after, line_text, history_after_line, text_from}

-- a block so many times, and what comes last
abbrev pub blocks : {A : Type 0} → ℕ → List A → List A → List A
blocks zero block last = last
blocks (suc n) block last = block ++ blocks n block last

-- the texts of so many blocks, each of this many lines, from this number on, and of what comes last
abbrev pub texts_from : (ℕ → List ℕ) → ℕ → List ℕ → ℕ → ℕ → List ℕ
texts_from text size last number zero = last
texts_from text size last number (suc n) = text number ++ texts_from text size last (number + size) n

-- the lines of a block are accepted after a history and have this text, and the history that they lead to has a property
pub record IsAccepted (duration size : ℕ) (Holds : History → Type 0) (block : List Reading) (text : ℕ → List ℕ) (H : History) : Type 0 where
  pub next : History
  pub goes_on : (more : List Reading) → text_from duration (length H + 1) H (block ++ more) ≡ text (length H + 1) ++ text_from duration (length next + 1) next more
  pub size_is : length next ≡ length H + size
  pub holds : Holds next

-- ---- blocks of one line, and of two

text-step : (duration number : ℕ) (H : History) (e : Timed) (more : List Reading)
    → text_from duration number H (Says e ∷ more) ≡ event_text duration number H e ++ text_from duration (number + 1) (history_after duration H e) more
unfolding text_from line_text history_after_line
text-step duration number H e more = refl

text-end : (duration number : ℕ) (H : History) → text_from duration number H [] ≡ []
unfolding text_from
text-end duration number H = refl

-- the text of a last line
pub text-last : (duration number : ℕ) (H : History) (e : Timed) → text_from duration number H (Says e ∷ []) ≡ event_text duration number H e
text-last duration number H e =
    text-step duration number H e []
    ∙ ap (λ t. event_text duration number H e ++ t) (text-end duration (number + 1) (history_after duration H e))
    ∙ append-nil (event_text duration number H e)

-- an event after a history has this text, and is accepted
pub record IsTaken (duration : ℕ) (e : Timed) (text : ℕ → List ℕ) (H : History) : Type 0 where
  pub text_is : event_text duration (length H + 1) H e ≡ text (length H + 1)
  pub after : history_after duration H e ≡ e ∷ H

-- the text goes on behind it
pub text-taken : (duration : ℕ) (e : Timed) (text : ℕ → List ℕ) (H : History) (more : List Reading) → IsTaken duration e text H
    → text_from duration (length H + 1) H (Says e ∷ more) ≡ text (length H + 1) ++ text_from duration (length (e ∷ H) + 1) (e ∷ H) more
text-taken duration e text H more w = text-step duration (length H + 1) H e more ∙ rw (w.text_is, w.after, add-one (length H)) refl

pub one-line : (duration : ℕ) (Holds : History → Type 0) (e : Timed) (text : ℕ → List ℕ) (H : History) → IsTaken duration e text H → Holds (e ∷ H)
    → IsAccepted duration 1 Holds (Says e ∷ []) text H
one-line duration Holds e text H w holds = record {
  next = e ∷ H;
  goes_on = λ more. text-taken duration e text H more w;
  size_is = sym (add-one (length H));
  holds = holds;
}

pub two-lines : (duration : ℕ) (Holds : History → Type 0) (e f : Timed) (text_e text_f : ℕ → List ℕ) (H : History) → IsTaken duration e text_e H → IsTaken duration f text_f (e ∷ H) → Holds (f ∷ e ∷ H)
    → IsAccepted duration 2 Holds (Says e ∷ Says f ∷ []) (λ n. text_e n ++ text_f (n + 1)) H
two-lines duration Holds e f text_e text_f H w v holds = record {
  next = f ∷ e ∷ H;
  goes_on = λ more.
      text-taken duration e text_e H (Says f ∷ more) w
      ∙ ap (λ t. text_e (length H + 1) ++ t) (text-taken duration f text_f (e ∷ H) more v)
      ∙ sym (append_assoc (text_e (length H + 1)) (text_f (length (e ∷ H) + 1)) (text_from duration (length (f ∷ e ∷ H) + 1) (f ∷ e ∷ H) more))
      ∙ ap (λ m. (text_e (length H + 1) ++ text_f (m + 1)) ++ text_from duration (length (f ∷ e ∷ H) + 1) (f ∷ e ∷ H) more) (sym (add-one (length H)));
  size_is = omega arith;
  holds = holds;
}

-- ---- so many blocks

-- a property that counts the blocks is kept by each, up to a limit, where what comes last has another text
pub repeated : (duration size : ℕ) (Holds : ℕ → History → Type 0) (block last : List Reading) (text : ℕ → List ℕ) (last_text : List ℕ) (limit : ℕ)
    → ((k : ℕ) (H : History) → Holds k H → k < limit → IsAccepted duration size (Holds (suc k)) block text H)
    → ((H : History) → Holds limit H → text_from duration (length H + 1) H last ≡ last_text)
    → (n k : ℕ) (H : History) → Holds k H → k + n ≡ limit
    → text_from duration (length H + 1) H (blocks n block last) ≡ texts_from text size last_text (length H + 1) n
repeated duration size Holds block last text last_text limit accepted ended zero k H holds count =
    let same : k ≡ limit = omega arith in
    ended H (subst (λ j. Holds j H) same holds)
repeated duration size Holds block last text last_text limit accepted ended (suc n) k H holds count =
    let below : k < limit = omega arith in
    let w = accepted k H holds below in
    let later : suc k + n ≡ limit = omega arith in
    let number : length w.next + 1 ≡ length H + 1 + size = omega (arith, w.size_is) in
    w.goes_on (blocks n block last)
    ∙ ap (λ t. text (length H + 1) ++ t) (repeated duration size Holds block last text last_text limit accepted ended n (suc k) w.next w.holds later ∙ ap (λ m. texts_from text size last_text m n) number)

-- the same question of the elements of blocks
pub map-blocks : {A B : Type 0} (f : A → B) (n : ℕ) (block last : List A) → map f (blocks n block last) ≡ blocks n (map f block) (map f last)
map-blocks f zero block last = refl
map-blocks f (suc n) block last =
    map-append f block (blocks n block last) ∙ ap (λ xs. map f block ++ xs) (map-blocks f n block last)
