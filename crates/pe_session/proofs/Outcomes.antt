-- What is written in all, at each end of a run.
use Rattle.std.proofs.Common.{◌≡◌, ℕ, ◌+◌, ◌-◌, ◌≤◌, List, [], ◌++◌, Option, Some, None, IfSome, length, take, drop, sym, ap, ◌∙◌, refl, append_assoc, append-nil, subst, arith, length-append, take-append-drop}
use Rattle.std.proofs.lemmas.List.{take-append-le, map-append, take-take}
use Rattle.std.proofs.Math.Seq.{take-append-add}
use Rattle.std.specs.Io.KnownBytes.{IsAtEnd}
use Rattle.pe_lines.specs.Lines.{lines_or_too_long, ended_lines_or_too_long, ended_lines}
use Rattle.pe_output.specs.OutputText.{reading_or_too_long, output_text, ended_text, text_from, readings}
use Rattle.pe_session.specs.declared.session.Session.{Session}
use Rattle.pe_session.specs.Session.{history_after_lines, HasTaken, Adds, AddsLast}
use Rattle.pe_session.specs.Outcome.{IsPrefix, IsCutShort}
use Rattle.pe_session.proofs.Texts.{text-append}

-- lines that a line feed ended stay, whatever comes behind them, and are the first of all lines
pub record LinesStay : Type 0 where
  pub ended : (bytes : List ℕ) → (more : List ℕ) → ((added : List (Option (List ℕ))) × (ended_lines_or_too_long (bytes ++ more) ≡ ended_lines_or_too_long bytes ++ added))
  pub all : (bytes : List ℕ) → ((added : List (Option (List ℕ))) × (lines_or_too_long bytes ≡ ended_lines_or_too_long bytes ++ added))

pub prefix-trans : (a b c : List ℕ) → IsPrefix a b → IsPrefix b c → IsPrefix a c
prefix-trans a b c (r, e) (s, f) = (r ++ s, f ∙ ap (λ l. l ++ s) e ∙ append_assoc a r s)

-- the text of some lines is a front of that of these lines and others
text-front : (duration : ℕ) (before added all : List (Option (List ℕ))) → all ≡ before ++ added → IsPrefix (text_from duration 1 [] (readings before)) (text_from duration 1 [] (readings all))
text-front duration before added all e = (
  text_from duration (1 + length (readings before)) (history_after_lines duration [] (readings before)) (readings added),
  ap (λ ls. text_from duration 1 [] (readings ls)) e ∙ ap (text_from duration 1 []) (map-append reading_or_too_long before added)
      ∙ text-append duration 1 (1 + length (readings before)) [] (readings before) (readings added) refl,
)

-- the text of the lines that ended is a front of the same of more bytes, and of all lines of more bytes
pub ended-grows : LinesStay → (duration : ℕ) (xs ys : List ℕ) → IsPrefix (ended_text duration xs) (ended_text duration (xs ++ ys))
unfolding ended_text
ended-grows stay duration xs ys = let (added, e) = stay.ended xs ys in text-front duration (ended_lines_or_too_long xs) added (ended_lines_or_too_long (xs ++ ys)) e

pub all-from-ended : LinesStay → (duration : ℕ) (xs : List ℕ) → IsPrefix (ended_text duration xs) (output_text duration xs)
unfolding ended_text output_text
all-from-ended stay duration xs = let (added, e) = stay.all xs in text-front duration (ended_lines_or_too_long xs) added (lines_or_too_long xs) e

pub all-grows : LinesStay → (duration : ℕ) (xs ys : List ℕ) → IsPrefix (ended_text duration xs) (output_text duration (xs ++ ys))
all-grows stay duration xs ys = prefix-trans _ _ _ (ended-grows stay duration xs ys) (all-from-ended stay duration (xs ++ ys))

-- what was written before a piece has the lines that ended before the last 65,536 bytes
enough-written : LinesStay → (duration : ℕ) (taken piece : List ℕ) → length piece ≤ 65536
    → IsPrefix (ended_text duration (take (length (taken ++ piece) - 65536) (taken ++ piece))) (ended_text duration taken)
enough-written stay duration taken piece few =
    let n = length (taken ++ piece) - 65536 in
    let small : n ≤ length taken = omega (arith, length-append taken piece) in
    rw (take-append-le n taken piece small)
    (subst (λ l. IsPrefix (ended_text duration (take n taken)) (ended_text duration l)) (take-append-drop n taken) (ended-grows stay duration (take n taken) (drop n taken)))

if-all : (o : Option (List ℕ)) (P : List ℕ → Type 0) → ((x : List ℕ) → P x) → IfSome o P
if-all None P h = tt
if-all (Some x) P h = h x

-- a piece of which a part was judged, and of whose text a front was written
cut-in-piece : LinesStay → (duration : ℕ) (taken part rest text unwritten : List ℕ) (left : Option (List ℕ)) → Adds duration taken part (text ++ unwritten) → length (part ++ rest) ≤ 65536
    → IsCutShort duration (taken ++ (part ++ rest)) left (ended_text duration taken ++ text)
cut-in-piece stay duration taken part rest text unwritten left adds few = record {
  front = if-all left (λ more. IsPrefix (ended_text duration taken ++ text) (output_text duration ((taken ++ (part ++ rest)) ++ more))) (λ more.
      let whole : IsPrefix (ended_text duration taken ++ text) (ended_text duration (taken ++ part)) = (unwritten, adds ∙ sym (append_assoc (ended_text duration taken) text unwritten)) in
      let bytes : (taken ++ part) ++ (rest ++ more) ≡ (taken ++ (part ++ rest)) ++ more = simp append_assoc in
      prefix-trans _ _ _ whole (subst (λ l. IsPrefix (ended_text duration (taken ++ part)) (output_text duration l)) bytes (all-grows stay duration (taken ++ part) (rest ++ more))));
  enough = prefix-trans _ _ _ (enough-written stay duration taken (part ++ rest) few) (text, refl);
}

-- a piece of which nothing was written
pub cut-before-piece : LinesStay → (duration : ℕ) (taken piece : List ℕ) (left : Option (List ℕ)) → length piece ≤ 65536 → IsCutShort duration (taken ++ piece) left (ended_text duration taken)
cut-before-piece stay duration taken piece left few = record {
  front = if-all left (λ more. IsPrefix (ended_text duration taken) (output_text duration ((taken ++ piece) ++ more))) (λ more.
      subst (λ l. IsPrefix (ended_text duration taken) (output_text duration l)) (sym (append_assoc taken piece more)) (all-grows stay duration taken (piece ++ more)));
  enough = enough-written stay duration taken piece few;
}

-- before the last line
pub cut-now : LinesStay → (duration : ℕ) (taken : List ℕ) (left : Option (List ℕ)) → IsCutShort duration taken left (ended_text duration taken)
cut-now stay duration taken left = record {
  front = if-all left (λ more. IsPrefix (ended_text duration taken) (output_text duration (taken ++ more))) (λ more. all-grows stay duration taken more);
  enough = subst (λ l. IsPrefix (ended_text duration (take (length taken - 65536) taken)) (ended_text duration l)) (take-append-drop (length taken - 65536) taken)
      (ended-grows stay duration (take (length taken - 65536) taken) (drop (length taken - 65536) taken));
}

if-at-end : (left : Option (List ℕ)) (P : List ℕ → Type 0) → IsAtEnd left → P [] → IfSome left P
if-at-end None P e h = tt
if-at-end (Some x) P e h = subst P (sym e) h

-- in the text of the last line
pub cut-in-last : LinesStay → (duration : ℕ) (taken text unwritten : List ℕ) (left : Option (List ℕ)) → IsAtEnd left → AddsLast duration taken (text ++ unwritten)
    → IsCutShort duration taken left (ended_text duration taken ++ text)
cut-in-last stay duration taken text unwritten left end adds = record {
  front = if-at-end left (λ more. IsPrefix (ended_text duration taken ++ text) (output_text duration (taken ++ more))) end
      (unwritten, ap (output_text duration) (append-nil taken) ∙ adds ∙ sym (append_assoc (ended_text duration taken) text unwritten));
  enough = prefix-trans _ _ _ ((cut-now stay duration taken left).enough) (text, refl);
}

-- the bytes up to the limit are those taken before and the part that was judged
pub up-to-limit : (limit count total : ℕ) (taken room : List ℕ) → total ≡ length taken → total ≤ limit → limit - total ≤ count → take limit (taken ++ take count room) ≡ taken ++ take (limit - total) room
up-to-limit limit count total taken room e within over =
    let n = limit - total in
    let sum : limit ≡ length taken + n = omega arith in
    ap (λ k. take k (taken ++ take count room)) sum ∙ take-append-add taken (take count room) n ∙ ap (λ l. taken ++ l) (take-take n count room over)

-- the same where a front of what was read was judged
pub cut-in-front : LinesStay → (duration spare count : ℕ) (taken room text unwritten : List ℕ) (left : Option (List ℕ)) → spare ≤ count → Adds duration taken (take spare room) (text ++ unwritten)
    → length (take count room) ≤ 65536 → IsCutShort duration (taken ++ take count room) left (ended_text duration taken ++ text)
cut-in-front stay duration spare count taken room text unwritten left small adds few =
    let split : take spare room ++ drop spare (take count room) ≡ take count room = ap (λ l. l ++ drop spare (take count room)) (sym (take-take spare count room small)) ∙ take-append-drop spare (take count room) in
    subst (λ l. IsCutShort duration (taken ++ l) left (ended_text duration taken ++ text)) split
    (cut-in-piece stay duration taken (take spare room) (drop spare (take count room)) text unwritten left adds (rw split few))

pub none-given : (taken room : List ℕ) (count : ℕ) → count ≡ 0 → taken ++ take count room ≡ taken
none-given taken room count e = rw e (append-nil taken)

-- the number of the next line is at most one more than the bytes of the lines before it
pub number-small : (duration : ℕ) (session : Session) (taken : List ℕ) → HasTaken duration session taken → session.number + length session.cutter.bytes ≤ 1 + length taken
number-small duration session taken h = omega (arith, h.number, h.cuts.fewer)

-- of nothing, nothing is written
pub nothing-yet : (duration : ℕ) → ended_text duration [] ≡ []
unfolding ended_text ended_lines_or_too_long ended_lines text_from
nothing-yet duration = refl
