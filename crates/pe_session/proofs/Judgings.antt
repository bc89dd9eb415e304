-- How a line is judged.
use Rattle.std.proofs.Common.{◌≡◌, ℕ, Bool, true, false, List, [], ◌∷◌, ◌++◌, Option, Some, None, Result, Ok, Err, IfOk, OnOk, IfSome, IfNone, refl, sym, ◌∙◌, ap, subst, append-nil}
use Rattle.pe_lines.specs.declared.cutter.Cut.{Cut}
use Rattle.pe_lines.specs.declared.cutter.Cut.TheVariants as cut
use Rattle.pe_lines.specs.Cutting.{line_of_cut}
use Rattle.pe_events.specs.Texts.{answer_text}
use Rattle.pe_events.specs.declared.answer.Answer.TheVariants as answer
use Rattle.pe_events.specs.declared.cause.Cause.{Cause}
use Rattle.pe_events.specs.declared.cause.Cause.TheVariants as cause
use Rattle.pe_events.specs.Timed.{Timed}
use Rattle.pe_script.specs.Reading.{Reading, Silent, Refusal, Says, reading_of}
use Rattle.pe_rules.specs.History.{History}
use Rattle.pe_rules.specs.Causes.{cause_of}
use Rattle.pe_rules.specs.Changes.{changes_before, changes_after}
use Rattle.pe_rules.specs.Replies.{replied, accepts_in, reply_in, answer_of}
use Rattle.pe_engine.specs.declared.replies.Replies.{Replies}
use Rattle.pe_engine.specs.StandsFor.{EngineValue, StandsFor}
use Rattle.pe_engine.specs.Replying.{IsAcceptedReply}
use Rattle.pe_engine.specs.Stepping.{IsRefusedReply, IsReplyBy, IsReply}
use Rattle.pe_output.specs.OutputText.{reading_or_too_long, changes_text, event_text, line_text, history_after, history_after_line, is_refused}
use Rattle.pe_session.specs.Judging.{is_refusal, replies_text, Stands, Judged}
use Rattle.pe_session.proofs.Answered.{not-refused}

-- ---- what the definitions say of an event, by its cause

accepted-is : (duration : ℕ) (H : History) (e : Timed) → cause_of (replied duration H) e.time e.event ≡ None → accepts_in (replied duration H) e ≡ true
unfolding accepts_in
accepted-is duration H e c = rw c refl

refused-is : (duration : ℕ) (H : History) (e : Timed) (why : Cause) → cause_of (replied duration H) e.time e.event ≡ Some why → accepts_in (replied duration H) e ≡ false
unfolding accepts_in
refused-is duration H e why c = rw c refl

reply-accepted : (duration : ℕ) (H : History) (e : Timed) → cause_of (replied duration H) e.time e.event ≡ None → reply_in duration (replied duration H) e.time e.event ≡ answer_of duration (replied duration H) e.time e.event
unfolding reply_in
reply-accepted duration H e c = rw c refl

reply-refused : (duration : ℕ) (H : History) (e : Timed) (why : Cause) → cause_of (replied duration H) e.time e.event ≡ Some why → reply_in duration (replied duration H) e.time e.event ≡ answer.Refused why
unfolding reply_in
reply-refused duration H e why c = rw c refl

text-accepted : (duration number : ℕ) (H : History) (e : Timed) → cause_of (replied duration H) e.time e.event ≡ None
    → event_text duration number H e ≡ changes_text (changes_before (replied duration H) e.time) ++ answer_text number (answer_of duration (replied duration H) e.time e.event) ++ changes_text (changes_after (replied duration H) (replied duration (e ∷ H)) e.time)
unfolding event_text
text-accepted duration number H e c = rw (accepted-is duration H e c, reply-accepted duration H e c) refl

text-refused : (duration number : ℕ) (H : History) (e : Timed) (why : Cause) → cause_of (replied duration H) e.time e.event ≡ Some why → event_text duration number H e ≡ answer_text number (answer.Refused why)
unfolding event_text
text-refused duration number H e why c = rw (refused-is duration H e why c, reply-refused duration H e why c) refl

history-accepted : (duration : ℕ) (H : History) (e : Timed) → cause_of (replied duration H) e.time e.event ≡ None → history_after duration H e ≡ e ∷ H
unfolding history_after
history-accepted duration H e c = rw (accepted-is duration H e c) refl

history-refused : (duration : ℕ) (H : History) (e : Timed) (why : Cause) → cause_of (replied duration H) e.time e.event ≡ Some why → history_after duration H e ≡ H
unfolding history_after
history-refused duration H e why c = rw (refused-is duration H e why c) refl

-- ---- how a line reads

pub too-long-reading : (line : Cut) → line ≡ cut.TooLong → reading_or_too_long (line_of_cut line) ≡ Refusal cause.LineTooLong
too-long-reading line is = rw is refl

pub silent-reading : (line : Cut) (bytes : List ℕ) → line_of_cut line ≡ Some bytes → reading_of bytes ≡ Silent → reading_or_too_long (line_of_cut line) ≡ Silent
silent-reading line bytes is reading = rw (is, reading) refl

pub refusal-reading : (line : Cut) (bytes : List ℕ) (why : Cause) → line_of_cut line ≡ Some bytes → reading_of bytes ≡ Refusal why → reading_or_too_long (line_of_cut line) ≡ Refusal why
refusal-reading line bytes why is reading = rw (is, reading) refl

pub event-reading : (line : Cut) (bytes : List ℕ) (e : Timed) → line_of_cut line ≡ Some bytes → reading_of bytes ≡ Says e → reading_or_too_long (line_of_cut line) ≡ Says e
event-reading line bytes e is reading = rw (is, reading) refl

-- ---- lines that say no event

pub judged-silent : (duration : ℕ) (engine : EngineValue) (number : ℕ) (H : History) (reading : Reading) (out : List ℕ) → Stands duration engine H → reading ≡ Silent
    → Judged duration engine number H reading out out false
unfolding line_text history_after_line is_refused
judged-silent duration engine number H reading out h e = record {
  stands = rw e h;
  text = rw e (sym (append-nil out));
  refused_is = rw e refl;
}

pub judged-refusal : (duration : ℕ) (engine : EngineValue) (number : ℕ) (H : History) (reading : Reading) (out new : List ℕ) (refused : Bool) (why : Cause) → Stands duration engine H → reading ≡ Refusal why
    → new ≡ out ++ answer_text number (answer.Refused why) → refused ≡ true → Judged duration engine number H reading out new refused
unfolding line_text history_after_line is_refused
judged-refusal duration engine number H reading out new refused why h e text is = record {
  stands = rw e h;
  text = rw e text;
  refused_is = rw e is;
}

-- the same where the refusal may want memory
pub refused-line : {E : Type 0} (r : Result Bool E) (duration : ℕ) (engine : EngineValue) (number : ℕ) (H : History) (reading : Reading) (out new : List ℕ) (why : Cause) → Stands duration engine H → reading ≡ Refusal why
    → OnOk r (new ≡ out ++ answer_text number (answer.Refused why)) → IfOk r (λ refused. refused ≡ true) → IfOk r (λ refused. Judged duration engine number H reading out new refused)
refused-line (Ok refused) duration engine number H reading out new why h e text is = judged-refusal duration engine number H reading out new refused why h e text is
refused-line (Err x) duration engine number H reading out new why h e text is = tt

-- ---- events

judged-accepted : (engine next : EngineValue) (number : ℕ) (H : History) (e : Timed) (reply : Replies) (out new : List ℕ) → cause_of (replied engine.duration H) e.time e.event ≡ None
    → IsAcceptedReply engine next H e reply → new ≡ out ++ replies_text number reply → Judged engine.duration next number H (Says e) out new (is_refusal reply.answer)
unfolding line_text history_after_line is_refused
judged-accepted engine next number H e reply out new c is text = record {
  stands = rw (history-accepted engine.duration H e c) (record { lasts = is.duration; engine_stands = is.stands });
  text = rw (text-accepted engine.duration number H e c, sym is.before, sym is.says, sym is.after) text;
  refused_is = rw (accepted-is engine.duration H e c, is.says) (not-refused engine.duration (replied engine.duration H) e.time e.event);
}

-- the text of a reply without changes is its answer
alone : (number : ℕ) (reply : Replies) (out new : List ℕ) → reply.before.items ≡ [] → reply.after.items ≡ [] → new ≡ out ++ replies_text number reply → new ≡ out ++ answer_text number reply.answer
alone number reply out new before after text = text ∙ ap (λ t. out ++ t) (rw (before, after) (append-nil (answer_text number reply.answer)))

judged-refused : (engine next : EngineValue) (number : ℕ) (H : History) (e : Timed) (reply : Replies) (out new : List ℕ) (why : Cause) → cause_of (replied engine.duration H) e.time e.event ≡ Some why → StandsFor engine H
    → IsRefusedReply engine next reply why → new ≡ out ++ replies_text number reply → Judged engine.duration next number H (Says e) out new (is_refusal reply.answer)
unfolding line_text history_after_line is_refused
judged-refused engine next number H e reply out new why c stands is text = record {
  stands = rw (history-refused engine.duration H e why c, is.kept) (record { lasts = refl; engine_stands = stands });
  text = rw (text-refused engine.duration number H e why c) (alone number reply out new is.before is.after text ∙ ap (λ a. out ++ answer_text number a) is.says);
  refused_is = rw (refused-is engine.duration H e why c, is.says) refl;
}

judged-reply : (engine next : EngineValue) (number : ℕ) (H : History) (e : Timed) (reply : Replies) (out new : List ℕ) (c : Option Cause) → cause_of (replied engine.duration H) e.time e.event ≡ c → StandsFor engine H
    → IsReplyBy engine next H e reply c → new ≡ out ++ replies_text number reply → Judged engine.duration next number H (Says e) out new (is_refusal reply.answer)
judged-reply engine next number H e reply out new None c stands is text = judged-accepted engine next number H e reply out new c is text
judged-reply engine next number H e reply out new (Some why) c stands is text = judged-refused engine next number H e reply out new why c stands is text

pub if-none : {A : Type 0} (o : Option A) (P : Type 0) → o ≡ None → IfNone o P → P
if-none None P e h = h
if-none (Some x) P e h = cc

pub if-some : {A : Type 0} (o : Option A) (x : A) (P : A → Type 0) → o ≡ Some x → IfSome o P → P x
if-some o x P e h = subst (λ p. IfSome p P) e h

-- an event, by what the engine replied
pub judged-event : (duration : ℕ) (engine next : EngineValue) (number : ℕ) (H : History) (e : Timed) (reply : Replies) (out new : List ℕ) → Stands duration engine H → IsReply engine next H e reply
    → new ≡ out ++ replies_text number reply → Judged duration next number H (Says e) out new (is_refusal reply.answer)
judged-event duration engine next number H e reply out new h replied_is text =
    subst (λ d. Judged d next number H (Says e) out new (is_refusal reply.answer)) h.lasts (judged-reply engine next number H e reply out new _ refl h.engine_stands replied_is text)
