-- The text of changes, one after another.
use Rattle.std.proofs.Common.{◌≡◌, ℕ, suc, ◌+◌, ◌<◌, ◌≤◌, List, ◌∷◌, ◌++◌, drop, drop-cons, length, get_or, refl, sym, ap, ◌∙◌, arith, append_assoc, append-nil, Result, Ok, Err, OnOk}
use Rattle.std.proofs.Math.ListN.{drop_of_length-le}
use Rattle.pe_events.specs.declared.answer.Change.{Change}
use Rattle.pe_events.specs.Texts.{answer_text, change_text}
use Rattle.pe_engine.specs.declared.replies.Replies.{Replies}
use Rattle.pe_session.specs.Judging.{replies_text}
use Rattle.pe_output.specs.OutputText.{changes_text}

changes-cons : (c : Change) (cs : List Change) → changes_text (c ∷ cs) ≡ change_text c ++ changes_text cs
changes-cons c cs = refl

-- the line of the next change goes behind the text
pub changes-more : (cs : List Change) (old new : List ℕ) (i : ℕ) (c : Change) → i < length cs → c ≡ get_or cs i c → new ≡ old ++ change_text c
    → new ++ changes_text (drop (i + 1) cs) ≡ old ++ changes_text (drop i cs)
changes-more cs old new i c lt is put =
    let next : suc i ≡ i + 1 = omega arith in
    ap (λ (t : List ℕ). t ++ changes_text (drop (i + 1) cs)) put
    ∙ ap (λ (x : Change). old ++ change_text x ++ changes_text (drop (i + 1) cs)) is ∙ ap (λ (n : ℕ). old ++ change_text (get_or cs i c) ++ changes_text (drop n cs)) (sym next)
    ∙ append_assoc old (change_text (get_or cs i c)) (changes_text (drop (suc i) cs))
    ∙ sym (ap (λ (ds : List Change). old ++ changes_text ds) (drop-cons cs i c lt) ∙ ap (λ (t : List ℕ). old ++ t) (changes-cons (get_or cs i c) (drop (suc i) cs)))

-- when none is left
pub changes-all : (cs : List Change) (text : List ℕ) (i : ℕ) → length cs ≤ i → text ++ changes_text (drop i cs) ≡ text
changes-all cs text i le = ap (λ (ds : List Change). text ++ changes_text ds) (drop_of_length-le cs le) ∙ append-nil text

-- the text of a reply, where its last part is put
pub replies-put : {A E : Type 0} (r : Result A E) (number : ℕ) (reply : Replies) (old before answered new : List ℕ) → before ≡ old ++ changes_text reply.before.items
    → answered ≡ before ++ answer_text number reply.answer → OnOk r (new ≡ answered ++ changes_text reply.after.items) → OnOk r (new ≡ old ++ replies_text number reply)
replies-put (Ok x) number reply old before answered new first second third =
    third ∙ ap (λ (t : List ℕ). t ++ changes_text reply.after.items) (second ∙ ap (λ (t : List ℕ). t ++ answer_text number reply.answer) first)
    ∙ ap (λ (t : List ℕ). t ++ changes_text reply.after.items) (append_assoc old (changes_text reply.before.items) (answer_text number reply.answer))
    ∙ append_assoc old (changes_text reply.before.items ++ answer_text number reply.answer) (changes_text reply.after.items)
replies-put (Err e) number reply old before answered new first second third = tt
