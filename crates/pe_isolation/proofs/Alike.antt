-- Histories that are alike: step by step the same, but for steps that make nothing that every page sees.
use Rattle.std.proofs.Common.{◌≡◌, ℕ, suc, Bool, true, false, ◌==◌, List, [], ◌∷◌, ◌++◌, length, Option, None, option_to_list, option_and_then, refl, sym, ◌∙◌, ap}
use Rattle.std.specs.Option.{option_or}
use Rattle.pe_events.specs.declared.event.Event.{Event}
use Rattle.pe_events.specs.declared.event.Event.TheVariants as event
use Rattle.pe_rules.specs.History.{Step, RepliedHistory, some_if, clock, newest_answer, all_answers, answers_newest_first, step_at}
use Rattle.pe_rules.specs.Numbering.{makes_prompt}

-- the event makes nothing, ends nothing, gives no attribute, asks for no permission and sets none
abbrev pub is_quiet : Event → Bool
is_quiet (event.Input frame kind) = true
is_quiet (event.Ask frame) = true
is_quiet (event.History frame) = true
is_quiet (event.UseCall frame call) = true
is_quiet (event.Post sender target named capability) = true
is_quiet (event.Deliver message) = true
is_quiet event.Tick = true
is_quiet e = false

-- the step of such an event, which made no prompt
pub record IsQuiet (s : Step) : Type 0 where
  pub event : is_quiet s.event ≡ true
  pub item : makes_prompt s.item ≡ false

-- the two are the same step by step, but for quiet steps of one time
pub data Alike : RepliedHistory → RepliedHistory → Type 0 where
  start : Alike [] []
  same : (s : Step) {T U : RepliedHistory} → Alike T U → Alike (s ∷ T) (s ∷ U)
  quiet : (s u : Step) {T U : RepliedHistory} → s.time ≡ u.time → IsQuiet s → IsQuiet u → Alike T U → Alike (s ∷ T) (u ∷ U)

pub length-alike : {T U : RepliedHistory} → Alike T U → length T ≡ length U
length-alike start = refl
length-alike (same s r) = ap suc (length-alike r)
length-alike (quiet s u time p q r) = ap suc (length-alike r)

pub clock-alike : {T U : RepliedHistory} → Alike T U → clock T ≡ clock U
unfolding clock
clock-alike start = refl
clock-alike (same s r) = refl
clock-alike (quiet s u time p q r) = time

-- ---- questions that are put to each step and the steps before it

pub newest-alike : {A : Type 0} (ask : Step → RepliedHistory → Option A)
    → ((s : Step) (B C : RepliedHistory) → Alike B C → ask s B ≡ ask s C) → ((s : Step) (B : RepliedHistory) → IsQuiet s → ask s B ≡ None)
    → {T U : RepliedHistory} → Alike T U → newest_answer ask T ≡ newest_answer ask U
unfolding newest_answer
newest-alike ask one none start = refl
newest-alike ask one none (same s {T} {U} r) = λ i. option_or (one s T U r i) (newest-alike ask one none r i)
newest-alike ask one none (quiet s u {T} {U} time p q r) = rw (none s T p, none u U q) (newest-alike ask one none r)

pub all-alike : {A : Type 0} (ask : Step → RepliedHistory → List A)
    → ((s : Step) (B C : RepliedHistory) → Alike B C → ask s B ≡ ask s C) → ((s : Step) (B : RepliedHistory) → IsQuiet s → ask s B ≡ [])
    → {T U : RepliedHistory} → Alike T U → all_answers ask T ≡ all_answers ask U
unfolding all_answers
all-alike ask one none start = refl
all-alike ask one none (same s {T} {U} r) = λ i. all-alike ask one none r i ++ one s T U r i
all-alike ask one none (quiet s u {T} {U} time p q r) = rw (none s T p, none u U q) (ap (λ xs. xs ++ []) (all-alike ask one none r))

pub listed-alike : {A : Type 0} (ask : Step → RepliedHistory → Option A)
    → ((s : Step) (B C : RepliedHistory) → Alike B C → ask s B ≡ ask s C) → ((s : Step) (B : RepliedHistory) → IsQuiet s → ask s B ≡ None)
    → {T U : RepliedHistory} → Alike T U → answers_newest_first ask T ≡ answers_newest_first ask U
unfolding answers_newest_first
listed-alike ask one none start = refl
listed-alike ask one none (same s {T} {U} r) = λ i. option_to_list (one s T U r i) ++ listed-alike ask one none r i
listed-alike ask one none (quiet s u {T} {U} time p q r) = rw (none s T p, none u U q) (listed-alike ask one none r)

-- a question that is put to a step and those before it, where there is such a step
abbrev pub put : {A : Type 0} → (Step → RepliedHistory → Option A) → Option (Step × RepliedHistory) → Option A
put ask o = option_and_then (λ (a : Step × RepliedHistory). ask a.0 a.1) o

pub at-alike : {A : Type 0} (ask : Step → RepliedHistory → Option A)
    → ((s : Step) (B C : RepliedHistory) → Alike B C → ask s B ≡ ask s C) → ((s : Step) (B : RepliedHistory) → IsQuiet s → ask s B ≡ None)
    → {T U : RepliedHistory} (k : ℕ) → Alike T U → put ask (step_at T k) ≡ put ask (step_at U k)
unfolding step_at newest_answer
at-alike ask one none k start = refl
at-alike ask one none k (same s {T} {U} r) = rw (length-alike r) (by_test (k == suc (length U)) (at-alike ask one none k r))
  where
    by_test : (b : Bool) → put ask (step_at T k) ≡ put ask (step_at U k)
        → put ask (option_or (some_if b (s, T)) (step_at T k)) ≡ put ask (option_or (some_if b (s, U)) (step_at U k))
    by_test true later = one s T U r
    by_test false later = later
at-alike ask one none k (quiet s u {T} {U} time p q r) = rw (length-alike r) (by_test (k == suc (length U)) (at-alike ask one none k r))
  where
    by_test : (b : Bool) → put ask (step_at T k) ≡ put ask (step_at U k)
        → put ask (option_or (some_if b (s, T)) (step_at T k)) ≡ put ask (option_or (some_if b (u, U)) (step_at U k))
    by_test true later = none s T p ∙ sym (none u U q)
    by_test false later = later
