-- The last delivery of a capability, and whether it was spent.
use Rattle.std.proofs.Common.{◌≡◌, ℕ, suc, ◌+◌, ◌<◌, ◌≤◌, Bool, true, false, not, ◌&&◌, ◌==◌, nat_le, nat_lt, [], ◌∷◌, length, Option, Some, None, is_some, unwrap_or, option_map, option_and_then, if◌then◌else◌, refl, sym, ◌∙◌, ap, arith, cond}
use Rattle.std.specs.Option.{option_or}
use Rattle.std.proofs.lemmas.Bool.Decides.{nat_tests}
use Rattle.pe_features.specs.declared.capability.Capability.{Capability}
use Rattle.pe_events.specs.declared.event.Event.{Event}
use Rattle.pe_events.specs.declared.event.Event.TheVariants as event
use Rattle.pe_rules.specs.History.{StepAnswer, Step, RepliedHistory, some_if, newest_answer}
use Rattle.pe_rules.specs.Making.{frame_of}
use Rattle.pe_rules.specs.Delegation.{Message, message, is_same_capability, is_delivered, is_message_for, hands_over, spends, last_delivery, is_spent_since, has_delegated}
use Rattle.pe_laws.specs.Effects.{effects}
use Rattle.pe_laws.specs.EffectsLaws.{effects_of}
use Rattle.pe_laws.specs.DelegationLaws.{delegated_at}
use Rattle.pe_laws.proofs.Numbers.{same-numbers, is_before, is_not_before}
use Rattle.pe_laws.proofs.Lists.{both}
use Rattle.pe_laws.proofs.Older.{frame-older}
use Rattle.pe_laws.proofs.Messages.{message-made}

-- ---- the last delivery

last-step : (s : Step) (T : RepliedHistory) (d : ℕ) (c : Capability)
    → last_delivery (s ∷ T) d c ≡ option_or (some_if (hands_over s.event s.item T d c) (suc (length T), s.time)) (last_delivery T d c)
unfolding last_delivery newest_answer
last-step s T d c = refl

last-start : (d : ℕ) (c : Capability) → last_delivery [] d c ≡ None
unfolding last_delivery newest_answer
last-start d c = refl

-- its position is one of the history
last-within : (T : RepliedHistory) (d : ℕ) (c : Capability) (x : ℕ × ℕ) → last_delivery T d c ≡ Some x → x.0 ≤ length T
last-within [] d c x h = let none = last-start d c in cc
last-within (s ∷ T) d c x h = by_delivery (hands_over s.event s.item T d c) (last-within T d c x) (sym (last-step s T d c) ∙ h)
  where
    by_delivery : (b : Bool) → (last_delivery T d c ≡ Some x → x.0 ≤ length T) → option_or (some_if b (suc (length T), s.time)) (last_delivery T d c) ≡ Some x → x.0 ≤ suc (length T)
    by_delivery true older e =
        let same : ◌≡◌ {A = ℕ × ℕ} (suc (length T), s.time) x = cc in
        let at : suc (length T) ≡ x.0 = ap (λ (y : ℕ × ℕ). y.0) same in
        omega (arith, at)
    by_delivery false older e = omega (arith, older e)

-- a message is for a document that was made before it
for-older : (T : RepliedHistory) (m d : ℕ) (c : Capability) → is_message_for T m d c ≡ true → d < length T
for-older T m d c h = by_message (message T m) refl h
  where
    by_message : (o : Option Message) → message T m ≡ o → unwrap_or (option_map (λ x. x.target == d && is_same_capability x.capability c) o) false ≡ true → d < length T
    by_message None is e = cc
    by_message (Some x) is e =
        let target : x.target ≡ d = same-numbers x.target d (both (x.target == d) (is_same_capability x.capability c) e).0 in
        let w = message-made T m x is in
        omega (arith, w.1, w.3, target)

hands-older : (e : Event) (item : StepAnswer) (T : RepliedHistory) (d : ℕ) (c : Capability) → hands_over e item T d c ≡ true → d < length T
hands-older (event.Deliver m) item T d c h = for-older T m d c (both (is_delivered item) (is_message_for T m d c) h).1
hands-older e item T d c h = cc

hands-none : (e : Event) (item : StepAnswer) (T : RepliedHistory) (d : ℕ) (c : Capability) → length T ≤ d → hands_over e item T d c ≡ false
hands-none e item T d c le = by_hands (hands_over e item T d c) refl
  where
    by_hands : (b : Bool) → hands_over e item T d c ≡ b → b ≡ false
    by_hands false is = refl
    by_hands true is = let lt = hands-older e item T d c is in absurd (omega arith)

last-beyond : (T : RepliedHistory) (d : ℕ) (c : Capability) → length T ≤ d → last_delivery T d c ≡ None
last-beyond [] d c le = last-start d c
last-beyond (s ∷ T) d c le = last-step s T d c ∙ rw (hands-none s.event s.item T d c (omega arith), last-beyond T d c (omega arith)) refl

-- ---- what was spent

spent-step : (s : Step) (T : RepliedHistory) (position f : ℕ) (c : Capability) → position ≤ length T
    → is_spent_since (s ∷ T) position f c ≡ (if spends s.event s.item f c then true else is_spent_since T position f c)
unfolding is_spent_since newest_answer
spent-step s T position f c le = rw (is_before position (suc (length T)) (omega arith)) (by_spends (spends s.event s.item f c))
  where
    earlier : Option ℕ
    earlier = newest_answer (λ s B. some_if (nat_lt position (length (s ∷ B)) && spends s.event s.item f c) position) T

    by_spends : (b : Bool) → is_some (option_or (some_if (true && b) position) earlier) ≡ cond b true (is_some earlier)
    by_spends true = refl
    by_spends false = refl

spent-none : (T : RepliedHistory) (position f : ℕ) (c : Capability) → length T ≤ position → is_spent_since T position f c ≡ false
unfolding is_spent_since newest_answer
spent-none [] position f c le = refl
spent-none (s ∷ T) position f c le = rw (is_not_before position (suc (length T)) le) (spent-none T position f c (omega arith))

-- ---- the capability after a step

-- the time of a delivery that was not spent
abbrev unspent : RepliedHistory → ℕ → Capability → ℕ × ℕ → Option ℕ
unspent T f c last = some_if (not (is_spent_since T last.0 f c)) last.1

delegated-is : (T : RepliedHistory) (d : ℕ) (c : Capability) → delegated_at T d c ≡ option_and_then (unspent T (frame_of T d) c) (last_delivery T d c)
unfolding delegated_at
delegated-is T d c = refl

pub has-delegated-is : (duration : ℕ) (T : RepliedHistory) (now d : ℕ) (c : Capability)
    → has_delegated duration T now d c ≡ unwrap_or (option_map (λ time. nat_lt now (time + duration)) (delegated_at T d c)) false
unfolding has_delegated delegated_at
has-delegated-is duration T now d c = by_last (last_delivery T d c)
  where
    by_tests : (a : Bool) (b : Bool) (time : ℕ) → a ≡ nat_lt now (time + duration) → (a && not b) ≡ unwrap_or (option_map (λ time. nat_lt now (time + duration)) (some_if (not b) time)) false
    by_tests true true time is = refl
    by_tests true false time is = is
    by_tests false true time is = refl
    by_tests false false time is = is

    by_last : (o : Option (ℕ × ℕ)) → unwrap_or (option_map (λ last. nat_lt now (last.1 + duration) && not (is_spent_since T last.0 (frame_of T d) c)) o) false
        ≡ unwrap_or (option_map (λ time. nat_lt now (time + duration)) (option_and_then (unspent T (frame_of T d) c) o)) false
    by_last None = refl
    by_last (Some x) = by_tests (nat_lt now (x.1 + duration)) (is_spent_since T x.0 (frame_of T d) c) x.1 refl

pub delegated-step : (s : Step) (T : RepliedHistory) (d : ℕ) (c : Capability) → d ≤ length T
    → delegated_at (s ∷ T) d c ≡ (if hands_over s.event s.item T d c then Some s.time else (if spends s.event s.item (frame_of T d) c then None else delegated_at T d c))
delegated-step s T d c le =
    delegated-is (s ∷ T) d c
    ∙ ap (λ f. option_and_then (unspent (s ∷ T) f c) (last_delivery (s ∷ T) d c)) (frame-older s T d le)
    ∙ ap (option_and_then (unspent (s ∷ T) f c)) (last-step s T d c)
    ∙ by_delivery (hands_over s.event s.item T d c)
    ∙ ap (λ o. cond (hands_over s.event s.item T d c) (Some s.time) (cond (spends s.event s.item f c) None o)) (sym (delegated-is T d c))
  where
    f : ℕ
    f = frame_of T d

    by_spends : (b : Bool) (x : ℕ × ℕ) → some_if (not (cond b true (is_spent_since T x.0 f c))) x.1 ≡ cond b None (unspent T f c x)
    by_spends true x = refl
    by_spends false x = refl

    none : (b : Bool) → ◌≡◌ {A = Option ℕ} None (cond b None None)
    none true = refl
    none false = refl

    by_last : (o : Option (ℕ × ℕ)) → ((x : ℕ × ℕ) → o ≡ Some x → x.0 ≤ length T)
        → option_and_then (unspent (s ∷ T) f c) o ≡ cond (spends s.event s.item f c) None (option_and_then (unspent T f c) o)
    by_last None within = none (spends s.event s.item f c)
    by_last (Some x) within = rw (spent-step s T x.0 f c (within x refl)) (by_spends (spends s.event s.item f c) x)

    by_delivery : (b : Bool) → option_and_then (unspent (s ∷ T) f c) (option_or (some_if b (suc (length T), s.time)) (last_delivery T d c))
        ≡ cond b (Some s.time) (cond (spends s.event s.item f c) None (option_and_then (unspent T f c) (last_delivery T d c)))
    by_delivery true = rw (spent-none (s ∷ T) (suc (length T)) f c (omega arith)) refl
    by_delivery false = by_last (last_delivery T d c) (last-within T d c)

pub delegated-beyond : (T : RepliedHistory) (d : ℕ) (c : Capability) → length T ≤ d → delegated_at T d c ≡ None
delegated-beyond T d c le = delegated-is T d c ∙ rw (last-beyond T d c le) refl

pub delegated-newest : (s : Step) (T : RepliedHistory) (c : Capability) → delegated_at (s ∷ T) (suc (length T)) c ≡ None
delegated-newest s T c = delegated-beyond (s ∷ T) (suc (length T)) c (omega arith)

no-hand : (e : Event) (item : StepAnswer) (T : RepliedHistory) (d : ℕ) (c : Capability) → (effects e item).delivers ≡ false → hands_over e item T d c ≡ false
no-hand (event.Deliver m) item T d c h = rw h refl
no-hand e item T d c h = refl

no-spend : (e : Event) (item : StepAnswer) (f : ℕ) (c : Capability) → (effects e item).spends ≡ false → spends e item f c ≡ false
no-spend (event.UseCall frame call) item f c h = rw h refl
no-spend e item f c h = refl

pub delegated-stays : (s : Step) (T : RepliedHistory) (d : ℕ) (c : Capability) → (effects_of s).delivers ≡ false → (effects_of s).spends ≡ false → delegated_at (s ∷ T) d c ≡ delegated_at T d c
delegated-stays s T d c deliver spend = by_place (nat_le d (length T)) refl
  where
    by_place : (b : Bool) → nat_le d (length T) ≡ b → delegated_at (s ∷ T) d c ≡ delegated_at T d c
    by_place true is =
        delegated-step s T d c (grind (arith, nat_tests)) ∙ rw (no-hand s.event s.item T d c deliver, no-spend s.event s.item (frame_of T d) c spend) refl
    by_place false is =
        let past : length T < d = grind (arith, nat_tests) in
        delegated-beyond (s ∷ T) d c (omega arith) ∙ sym (delegated-beyond T d c (omega arith))

pub has-delegated-stays : (duration : ℕ) (s : Step) (T : RepliedHistory) (now d : ℕ) (c : Capability) → (effects_of s).delivers ≡ false → (effects_of s).spends ≡ false
    → has_delegated duration (s ∷ T) now d c ≡ has_delegated duration T now d c
has-delegated-stays duration s T now d c deliver spend =
    has-delegated-is duration (s ∷ T) now d c ∙ rw (delegated-stays s T d c deliver spend) (sym (has-delegated-is duration T now d c))
