-- The stamp of a document step by step, and what it says.
use Rattle.std.proofs.Common.{◌≡◌, ℕ, suc, ◌+◌, ◌<◌, ◌≤◌, Bool, true, false, not, ◌&&◌, ◌||◌, ◌==◌, nat_le, nat_lt, [], ◌∷◌, length, Option, Some, None, is_some, unwrap_or, option_map, refl, sym, ◌∙◌, arith, cond}
use Rattle.std.specs.Option.{option_or}
use Rattle.std.proofs.lemmas.Bool.Decides.{nat_tests}
use Rattle.pe_base.specs.declared.input.Stamp.{Stamp}
use Rattle.pe_base.specs.declared.input.Stamp.TheVariants as stamp
use Rattle.pe_base.specs.Activation.{triggers, is_sticky, is_transient}
use Rattle.pe_origin.specs.Origins.{is_same_origin}
use Rattle.pe_events.specs.declared.event.Event.{Event}
use Rattle.pe_events.specs.declared.event.Event.TheVariants as event
use Rattle.pe_rules.specs.History.{Step, RepliedHistory, some_if, newest_answer}
use Rattle.pe_rules.specs.Making.{Making, making_by, making}
use Rattle.pe_rules.specs.Embedders.{chain, page}
use Rattle.pe_rules.specs.Current.{is_current, document_in}
use Rattle.pe_rules.specs.Origins.{origin_of}
use Rattle.pe_rules.specs.Activation.{is_one_of, reaches, activates, consumes, last_activation, is_consumed_since, has_sticky, has_transient, stamp_of}
use Rattle.pe_laws.specs.ActivationLaws.{consumed_stamp, stamp_after}
use Rattle.pe_laws.proofs.Numbers.{is_before, is_not_before}
use Rattle.pe_laws.proofs.Lists.{both}
use Rattle.pe_laws.proofs.Making.{making-beyond}
use Rattle.pe_laws.proofs.Embedders.{page-older}
use Rattle.pe_laws.proofs.Current.{unmade-current}

-- ---- what an event activates

reaches-current : (T : RepliedHistory) (c d : ℕ) → reaches T c d ≡ true → is_current T d ≡ true
unfolding reaches
reaches-current T c d h = (both (is_current T d) (is_one_of (chain T c) d || is_one_of (chain T d) c && is_same_origin (origin_of T c) (origin_of T d)) h).0

pub activates-current : (e : Event) (T : RepliedHistory) (d : ℕ) → activates e T d ≡ true → is_current T d ≡ true
unfolding activates
activates-current (event.Input frame kind) T d h =
    by_document (document_in T frame) (both (triggers kind) (unwrap_or (option_map (λ c. reaches T c d) (document_in T frame)) false) h).1
  where
    by_document : (o : Option ℕ) → unwrap_or (option_map (λ c. reaches T c d) o) false ≡ true → is_current T d ≡ true
    by_document None h = cc
    by_document (Some c) h = reaches-current T c d h
activates-current e T d h = cc

-- nothing activates a number that is not of a document
pub activates-unmade : (e : Event) (T : RepliedHistory) (d : ℕ) → making T d ≡ None → activates e T d ≡ false
activates-unmade e T d h = by_test (activates e T d) refl
  where
    by_test : (b : Bool) → activates e T d ≡ b → b ≡ false
    by_test false is = refl
    by_test true is = sym (activates-current e T d is) ∙ unmade-current T d h

pub activates-within : (e : Event) (T : RepliedHistory) (d : ℕ) → length T < d → activates e T d ≡ false
activates-within e T d h = activates-unmade e T d (making-beyond T d h)

-- a number that is not of a document was not of one before
pub unmade-before : (s : Step) (T : RepliedHistory) (d : ℕ) → making (s ∷ T) d ≡ None → making T d ≡ None
unfolding making newest_answer
unmade-before s T d h = by_here (cond (d == suc (length T)) (making_by s.event T) None) h
  where
    by_here : (o : Option Making) → option_or o (making T d) ≡ None → making T d ≡ None
    by_here None e = e
    by_here (Some m) e = cc

pub last-unmade : (T : RepliedHistory) (d : ℕ) → making T d ≡ None → last_activation T d ≡ None
unfolding last_activation newest_answer
last-unmade [] d h = refl
last-unmade (s ∷ T) d h = let before = unmade-before s T d h in rw (activates-unmade s.event T d before) (last-unmade T d before)

pub stamp-unmade : (T : RepliedHistory) (d : ℕ) → making T d ≡ None → stamp_of T d ≡ stamp.Never
unfolding stamp_of
stamp-unmade T d h = rw (last-unmade T d h) refl

pub stamp-beyond : (T : RepliedHistory) (d : ℕ) → length T < d → stamp_of T d ≡ stamp.Never
stamp-beyond T d h = stamp-unmade T d (making-beyond T d h)

pub stamp-start : (d : ℕ) → stamp_of [] d ≡ stamp.Never
unfolding stamp_of last_activation newest_answer
stamp-start d = refl

-- ---- consumed since a position

none-since : (T : RepliedHistory) (position top : ℕ) → length T ≤ position → is_consumed_since T position top ≡ false
unfolding is_consumed_since newest_answer
none-since [] position top h = refl
none-since (s ∷ T) position top h = rw (is_not_before position (suc (length T)) h) (none-since T position top (omega arith))

since-step : (s : Step) (T : RepliedHistory) (position top : ℕ) → position ≤ length T → is_consumed_since (s ∷ T) position top ≡ (consumes s T top || is_consumed_since T position top)
unfolding is_consumed_since newest_answer
since-step s T position top h = rw (is_before position (suc (length T)) (omega arith)) (by_test (consumes s T top))
  where
    by_test : (b : Bool)
        → is_some (option_or (some_if b position) (newest_answer (λ s B. some_if (nat_lt position (length (s ∷ B)) && consumes s B top) position) T))
        ≡ (b || is_some (newest_answer (λ s B. some_if (nat_lt position (length (s ∷ B)) && consumes s B top) position) T))
    by_test true = refl
    by_test false = refl

-- the last activation stands at a position of the history
last-within : (T : RepliedHistory) (d : ℕ) (a : ℕ × ℕ) → last_activation T d ≡ Some a → a.0 ≤ length T
unfolding last_activation newest_answer
last-within [] d a h = cc
last-within (s ∷ T) d a h = by_test (activates s.event T d) (last-within T d a) h
  where
    by_test : (b : Bool) → (last_activation T d ≡ Some a → a.0 ≤ length T) → option_or (some_if b (suc (length T), s.time)) (last_activation T d) ≡ Some a → a.0 ≤ suc (length T)
    by_test true older e = let is : (suc (length T), s.time) ≡ a = cc in rw (← is) (omega arith)
    by_test false older e = omega (arith, older e)

-- ---- the stamp, from the last activation

abbrev stamp_from : RepliedHistory → ℕ → Option (ℕ × ℕ) → Stamp
stamp_from T top o = unwrap_or (option_map (λ (last : ℕ × ℕ). cond (is_consumed_since T last.0 top) stamp.Consumed (stamp.At last.1)) o) stamp.Never

from-step : (s : Step) (T : RepliedHistory) (top : ℕ) (o : Option (ℕ × ℕ)) → ((a : ℕ × ℕ) → o ≡ Some a → a.0 ≤ length T)
    → stamp_from (s ∷ T) top o ≡ cond (consumes s T top) (consumed_stamp (stamp_from T top o)) (stamp_from T top o)
from-step s T top None within = by_test (consumes s T top)
  where
    by_test : (b : Bool) → stamp.Never ≡ cond b stamp.Never stamp.Never
    by_test true = refl
    by_test false = refl
from-step s T top (Some a) within = rw (since-step s T a.0 top (within a refl)) (by_tests (consumes s T top) (is_consumed_since T a.0 top))
  where
    by_tests : (b c : Bool) → cond (b || c) stamp.Consumed (stamp.At a.1) ≡ cond b (consumed_stamp (cond c stamp.Consumed (stamp.At a.1))) (cond c stamp.Consumed (stamp.At a.1))
    by_tests true true = refl
    by_tests true false = refl
    by_tests false c = refl

stamp-older : (s : Step) (T : RepliedHistory) (d : ℕ) → d ≤ length T → stamp_of (s ∷ T) d ≡ stamp_after s T d (stamp_of T d)
unfolding stamp_of last_activation newest_answer
stamp-older s T d h = rw (page-older s T d h) (by_test (activates s.event T d))
  where
    by_test : (b : Bool) → stamp_from (s ∷ T) (page T d) (option_or (some_if b (suc (length T), s.time)) (last_activation T d))
        ≡ cond b (stamp.At s.time) (cond (consumes s T (page T d)) (consumed_stamp (stamp_from T (page T d) (last_activation T d))) (stamp_from T (page T d) (last_activation T d)))
    by_test true = rw (none-since (s ∷ T) (suc (length T)) (page T d) (omega arith)) refl
    by_test false = from-step s T (page T d) (last_activation T d) (last-within T d)

-- nothing activates what the step makes
last-newest : (s : Step) (T : RepliedHistory) (d : ℕ) → length T < d → last_activation (s ∷ T) d ≡ None
unfolding last_activation newest_answer
last-newest s T d h = rw (activates-within s.event T d h) (last-unmade T d (making-beyond T d h))

stamp-past : (s : Step) (T : RepliedHistory) (d : ℕ) → length T < d → stamp_of (s ∷ T) d ≡ stamp.Never
unfolding stamp_of
stamp-past s T d h = rw (last-newest s T d h) refl

pub stamp-newest : (s : Step) (T : RepliedHistory) → stamp_of (s ∷ T) (suc (length T)) ≡ stamp.Never
stamp-newest s T = stamp-past s T (suc (length T)) (omega arith)

pub stamp-step : (s : Step) (T : RepliedHistory) (d : ℕ) → stamp_of (s ∷ T) d ≡ stamp_after s T d (stamp_of T d)
stamp-step s T d = by_place (nat_le d (length T)) refl
  where
    never : (b : Bool) → stamp.Never ≡ cond b (consumed_stamp stamp.Never) stamp.Never
    never true = refl
    never false = refl

    by_place : (b : Bool) → nat_le d (length T) ≡ b → stamp_of (s ∷ T) d ≡ stamp_after s T d (stamp_of T d)
    by_place true is = stamp-older s T d (grind (arith, nat_tests))
    by_place false is =
        let past : length T < d = grind (arith, nat_tests) in
        rw (stamp-past s T d past, stamp-beyond T d past, activates-within s.event T d past) (never (consumes s T (page T d)))

-- ---- what the stamp says

pub sticky-by-stamp : (T : RepliedHistory) (d : ℕ) → has_sticky T d ≡ is_sticky (stamp_of T d)
unfolding has_sticky stamp_of
sticky-by-stamp T d = by_last (last_activation T d)
  where
    by_test : (b : Bool) (a : ℕ × ℕ) → true ≡ is_sticky (cond b stamp.Consumed (stamp.At a.1))
    by_test true a = refl
    by_test false a = refl

    by_last : (o : Option (ℕ × ℕ)) → is_some o ≡ is_sticky (stamp_from T (page T d) o)
    by_last None = refl
    by_last (Some a) = by_test (is_consumed_since T a.0 (page T d)) a

pub transient-by-stamp : (duration : ℕ) (T : RepliedHistory) (now d : ℕ) → has_transient duration T now d ≡ is_transient duration now (stamp_of T d)
unfolding has_transient stamp_of
transient-by-stamp duration T now d = by_last (last_activation T d)
  where
    by_test : (b young : Bool) → (young && not b) ≡ cond b false young
    by_test true true = refl
    by_test true false = refl
    by_test false true = refl
    by_test false false = refl

    by_consumed : (b : Bool) (a : ℕ × ℕ) → (nat_lt now (a.1 + duration) && not b) ≡ is_transient duration now (cond b stamp.Consumed (stamp.At a.1))
    by_consumed true a = by_test true (nat_lt now (a.1 + duration))
    by_consumed false a = by_test false (nat_lt now (a.1 + duration))

    by_last : (o : Option (ℕ × ℕ)) → unwrap_or (option_map (λ (last : ℕ × ℕ). nat_lt now (last.1 + duration) && not (is_consumed_since T last.0 (page T d))) o) false
        ≡ is_transient duration now (stamp_from T (page T d) o)
    by_last None = refl
    by_last (Some a) = by_consumed (is_consumed_since T a.0 (page T d)) a
