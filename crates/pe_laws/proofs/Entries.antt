-- How many entries there are.
use Rattle.std.proofs.Common.{◌≡◌, ℕ, suc, ◌+◌, ◌<◌, ◌≤◌, Bool, true, false, not, ◌&&◌, ◌||◌, nat_lt, List, [], ◌∷◌, ◌++◌, length, filter, Option, Some, None, is_some, option_and_then, option_to_list, refl, sym, ◌∙◌, ap, arith, cond, subst, append_assoc, length-append}
use Rattle.std.specs.Bool.{Decides}
use Rattle.std.specs.Option.{option_or}
use Rattle.pe_store.specs.Pairs.{Pair, is_same_pair}
use Rattle.pe_rules.specs.History.{Step, RepliedHistory, some_if, newest_answer, all_answers, clock}
use Rattle.pe_rules.specs.Settings.{Setting, setting_by, standing_of, last_setting, holds, stored_by, stored_state, has_entry}
use Rattle.pe_rules.specs.Causes.{is_set_since, entries}
use Rattle.pe_laws.specs.SettingsLaws.{setting_of}
use Rattle.pe_laws.specs.EntriesLaws.{AreEntries}
use Rattle.pe_laws.proofs.Numbers.{is_before, is_not_before}
use Rattle.pe_laws.proofs.Settings.{last-setting-step}

-- ---- counts

-- how many elements pass
abbrev count : {A : Type 0} → (A → Bool) → List A → ℕ
count test [] = 0
count test (x ∷ xs) = cond (test x) 1 0 + count test xs

count-append : {A : Type 0} (test : A → Bool) (xs ys : List A) → count test (xs ++ ys) ≡ count test xs + count test ys
count-append test [] ys = omega arith
count-append test (x ∷ xs) ys = omega (arith, count-append test xs ys)

count-filter : {A : Type 0} (test : A → Bool) (xs : List A) → count test xs ≡ length (filter test xs)
count-filter test [] = refl
count-filter test (x ∷ xs) = by_test (test x) (count-filter test xs)
  where
    by_test : (b : Bool) → count test xs ≡ length (filter test xs) → cond b 1 0 + count test xs ≡ length (cond b (x ∷ filter test xs) (filter test xs))
    by_test true rest = omega (arith, rest)
    by_test false rest = omega (arith, rest)

-- ---- whether a pair was set again

-- the step sets the pair
abbrev sets : Step → RepliedHistory → Pair → Bool
sets s B p = is_some (setting_of s B p)

-- what is_set_since asks of a step
abbrev again : ℕ → Pair → Step → RepliedHistory → Option ℕ
again k p s B = option_and_then (λ (x : Setting). some_if (is_same_pair x.pair p && nat_lt k (length (s ∷ B))) k) (setting_by s.time s.event B)

again-late : (k : ℕ) (p : Pair) (s : Step) (B : RepliedHistory) → k < suc (length B) → is_some (again k p s B) ≡ sets s B p
again-late k p s B lt = by_made (setting_by s.time s.event B)
  where
    by_test : (b c : Bool) (x : Setting) → c ≡ true → is_some (some_if (b && c) k) ≡ is_some (some_if b x)
    by_test true c x e = rw e refl
    by_test false c x e = refl

    by_made : (o : Option Setting) → is_some (option_and_then (λ (x : Setting). some_if (is_same_pair x.pair p && nat_lt k (suc (length B))) k) o)
        ≡ is_some (option_and_then (λ (x : Setting). some_if (is_same_pair x.pair p) x) o)
    by_made None = refl
    by_made (Some x) = by_test (is_same_pair x.pair p) (nat_lt k (suc (length B))) x (is_before k (suc (length B)) lt)

again-early : (k : ℕ) (p : Pair) (s : Step) (B : RepliedHistory) → suc (length B) ≤ k → again k p s B ≡ None
again-early k p s B le = by_made (setting_by s.time s.event B)
  where
    by_test : (b c : Bool) → c ≡ false → some_if (b && c) k ≡ None
    by_test true c e = rw e refl
    by_test false c e = refl

    by_made : (o : Option Setting) → option_and_then (λ (x : Setting). some_if (is_same_pair x.pair p && nat_lt k (suc (length B))) k) o ≡ None
    by_made None = refl
    by_made (Some x) = by_test (is_same_pair x.pair p) (nat_lt k (suc (length B))) (is_not_before k (suc (length B)) le)

some-or : {A : Type 0} (a b : Option A) → is_some (option_or a b) ≡ (is_some a || is_some b)
some-or None b = refl
some-or (Some x) b = refl

since-none : (k : ℕ) (p : Pair) (U : RepliedHistory) → length U ≤ k → newest_answer (again k p) U ≡ None
unfolding newest_answer
since-none k p [] le = refl
since-none k p (s ∷ U) le = rw (again-early k p s U le, since-none k p U (omega arith)) refl

or-swap : (a b c : Bool) → (a || (b || c)) ≡ ((a || b) || c)
or-swap true b c = refl
or-swap false b c = refl

or-false : (b : Bool) → (b || false) ≡ b
or-false true = refl
or-false false = refl

-- what was set since a position: what was set since the next, and what is set there
since-split : (p : Pair) (newer : RepliedHistory) (s : Step) (U : RepliedHistory)
    → is_some (newest_answer (again (length U) p) (newer ++ s ∷ U)) ≡ (is_some (newest_answer (again (suc (length U)) p) (newer ++ s ∷ U)) || sets s U p)
unfolding newest_answer
since-split p [] s U =
    rw (since-none (length U) p U (omega arith), since-none (suc (length U)) p U (omega arith), again-early (suc (length U)) p s U (omega arith))
    (some-or (again (length U) p s U) None ∙ or-false (is_some (again (length U) p s U)) ∙ again-late (length U) p s U (omega arith))
since-split p (t ∷ newer) s U =
    let n : length (newer ++ s ∷ U) ≡ length newer + suc (length U) = length-append newer (s ∷ U) in
    some-or (again (length U) p t (newer ++ s ∷ U)) (newest_answer (again (length U) p) (newer ++ s ∷ U))
    ∙ rw (again-late (length U) p t (newer ++ s ∷ U) (omega arith), since-split p newer s U, ← again-late (suc (length U)) p t (newer ++ s ∷ U) (omega arith))
    (or-swap (is_some (again (suc (length U)) p t (newer ++ s ∷ U))) (is_some (newest_answer (again (suc (length U)) p) (newer ++ s ∷ U))) (sets s U p)
    ∙ ap (λ b. b || sets s U p) (sym (some-or (again (suc (length U)) p t (newer ++ s ∷ U)) (newest_answer (again (suc (length U)) p) (newer ++ s ∷ U)))))

split : (T : RepliedHistory) (p : Pair) (newer : RepliedHistory) (s : Step) (U : RepliedHistory) → T ≡ newer ++ s ∷ U → is_set_since T (length U) p ≡ (is_set_since T (suc (length U)) p || sets s U p)
split T p newer s U is =
    subst (λ (V : RepliedHistory). is_some (newest_answer (again (length U) p) V) ≡ (is_some (newest_answer (again (suc (length U)) p) V) || sets s U p)) (sym is) (since-split p newer s U)

never-again : (T : RepliedHistory) (p : Pair) → is_set_since T (length T) p ≡ false
never-again T p = ap (λ (o : Option ℕ). is_some o) (since-none (length T) p T (omega arith))

-- ---- each pair that has an entry is listed once

adds : (h since here last : Bool) → cond (h && (not (since || here) && last)) 1 0 + cond (here && (h && not since)) 1 0 ≡ cond (h && (not since && (here || last))) 1 0
adds true true true true = refl
adds true true true false = refl
adds true true false true = refl
adds true true false false = refl
adds true false true true = refl
adds true false true false = refl
adds true false false true = refl
adds true false false false = refl
adds false since true last = refl
adds false since false last = refl

none-set : (h b : Bool) → ◌≡◌ {A = ℕ} 0 (cond (h && (b && false)) 1 0)
none-set true true = refl
none-set true false = refl
none-set false b = refl

-- the pairs that entries has of one step
abbrev of_step : RepliedHistory → Step → RepliedHistory → List Pair
of_step T s B = option_to_list (option_and_then (λ (x : Setting). some_if (has_entry T x.pair && not (is_set_since T (length (s ∷ B)) x.pair)) x.pair) (setting_by s.time s.event B))

none-last : (p : Pair) → is_some (last_setting [] p) ≡ false
unfolding last_setting standing_of
none-last p = refl

entry-was-set : (T : RepliedHistory) (p : Pair) (b : Bool) → b ≡ false → ◌≡◌ {A = ℕ} (cond (has_entry T p && (not b && is_some (last_setting T p))) 1 0) (cond (has_entry T p) 1 0)
unfolding has_entry stored_state stored_by
entry-was-set T p b is = rw is (by_setting (last_setting T p))
  where
    by_test : (h : Bool) → ◌≡◌ {A = ℕ} (cond (h && (true && true)) 1 0) (cond h 1 0)
    by_test true = refl
    by_test false = refl

    by_setting : (o : Option Setting)
        → ◌≡◌ {A = ℕ} (cond (is_some (option_and_then (λ (x : Setting). some_if (holds T (clock T) x.life) x.state) o) && (true && is_some o)) 1 0)
        (cond (is_some (option_and_then (λ (x : Setting). some_if (holds T (clock T) x.life) x.state) o)) 1 0)
    by_setting None = refl
    by_setting (Some x) = by_test (is_some (some_if (holds T (clock T) x.life) x.state))

module _ (pairs : (p q : Pair) → Decides (is_same_pair p q) (p ≡ q)) where
  step-count : (T : RepliedHistory) (p : Pair) (s : Step) (U : RepliedHistory)
      → count (λ q. is_same_pair q p) (of_step T s U) ≡ cond (sets s U p && (has_entry T p && not (is_set_since T (suc (length U)) p))) 1 0
  step-count T p s U = by_made (setting_by s.time s.event U)
    where
      here : (b : Bool) → count (λ q. is_same_pair q p) (option_to_list (some_if b p)) ≡ cond b 1 0
      here true = let same : is_same_pair p p ≡ true = (pairs p p).1 refl in rw same refl
      here false = refl

      away : (q : Pair) (b : Bool) → is_same_pair q p ≡ false → count (λ q. is_same_pair q p) (option_to_list (some_if b q)) ≡ 0
      away q true h = rw h refl
      away q false h = refl

      by_same : (x : Setting) (b : Bool) → is_same_pair x.pair p ≡ b
          → count (λ q. is_same_pair q p) (option_to_list (some_if (has_entry T x.pair && not (is_set_since T (suc (length U)) x.pair)) x.pair))
          ≡ cond (is_some (some_if b x) && (has_entry T p && not (is_set_since T (suc (length U)) p))) 1 0
      by_same x true is =
          let q : x.pair ≡ p = (pairs x.pair p).0 is in
          ap (λ (q : Pair). count (λ z. is_same_pair z p) (option_to_list (some_if (has_entry T q && not (is_set_since T (suc (length U)) q)) q))) q
          ∙ here (has_entry T p && not (is_set_since T (suc (length U)) p))
      by_same x false is = away x.pair _ is

      by_made : (o : Option Setting)
          → count (λ q. is_same_pair q p) (option_to_list (option_and_then (λ (x : Setting). some_if (has_entry T x.pair && not (is_set_since T (suc (length U)) x.pair)) x.pair) o))
          ≡ cond (is_some (option_and_then (λ (x : Setting). some_if (is_same_pair x.pair p) x) o) && (has_entry T p && not (is_set_since T (suc (length U)) p))) 1 0
      by_made None = refl
      by_made (Some x) = by_same x (is_same_pair x.pair p) refl

  last-set : (s : Step) (U : RepliedHistory) (p : Pair) → is_some (last_setting (s ∷ U) p) ≡ (sets s U p || is_some (last_setting U p))
  last-set s U p = ap (λ (o : Option Setting). is_some o) (last-setting-step pairs s U p) ∙ some-or (setting_of s U p) (last_setting U p)

  counts-below : (T : RepliedHistory) (p : Pair) (newer U : RepliedHistory) → T ≡ newer ++ U
      → count (λ q. is_same_pair q p) (all_answers (of_step T) U) ≡ cond (has_entry T p && (not (is_set_since T (length U) p) && is_some (last_setting U p))) 1 0
  unfolding all_answers
  counts-below T p newer [] is = none-set (has_entry T p) (not (is_set_since T 0 p)) ∙ ap (λ b. cond (has_entry T p && (not (is_set_since T 0 p) && b)) 1 0) (sym (none-last p))
  counts-below T p newer (s ∷ U) is =
      let older = counts-below T p (newer ++ s ∷ []) U (is ∙ sym (append_assoc newer (s ∷ []) U)) in
      count-append (λ q. is_same_pair q p) (all_answers (of_step T) U) (of_step T s U)
      ∙ ap (λ n. n + count (λ q. is_same_pair q p) (of_step T s U)) older
      ∙ ap (λ n. cond (has_entry T p && (not (is_set_since T (length U) p) && is_some (last_setting U p))) 1 0 + n) (step-count T p s U)
      ∙ ap (λ b. cond (has_entry T p && (not b && is_some (last_setting U p))) 1 0 + cond (sets s U p && (has_entry T p && not (is_set_since T (suc (length U)) p))) 1 0) (split T p newer s U is)
      ∙ adds (has_entry T p) (is_set_since T (suc (length U)) p) (sets s U p) (is_some (last_setting U p))
      ∙ ap (λ b. cond (has_entry T p && (not (is_set_since T (suc (length U)) p) && b)) 1 0) (sym (last-set s U p))

  pub entries-count : (T : RepliedHistory) (p : Pair) → count (λ q. is_same_pair q p) (entries T) ≡ cond (has_entry T p) 1 0
  unfolding entries
  entries-count T p = counts-below T p [] T refl ∙ entry-was-set T p (is_set_since T (length T) p) (never-again T p)

  pub entries-once : (T : RepliedHistory) → AreEntries T (entries T)
  entries-once T = λ p. sym (count-filter (λ q. is_same_pair q p) (entries T)) ∙ entries-count T p

  -- ---- two lists that have each pair as often are as long

  own-count : (x : Pair) (xs : List Pair) → 0 < count (λ q. is_same_pair q x) (x ∷ xs)
  own-count x xs = let same : is_same_pair x x ≡ true = (pairs x x).1 refl in rw same (omega arith)

  -- a list without one of its pairs
  abbrev Without : Pair → List Pair → Type 0
  Without x ys = (zs : List Pair) × (length ys ≡ suc (length zs)) × ((p : Pair) → count (λ q. is_same_pair q p) ys ≡ cond (is_same_pair x p) 1 0 + count (λ q. is_same_pair q p) zs)

  take-out : (x : Pair) (ys : List Pair) → 0 < count (λ q. is_same_pair q x) ys → Without x ys
  take-out x [] lt = absurd (omega arith)
  take-out x (y ∷ ys) lt = by_same (is_same_pair y x) refl lt (take-out x ys)
    where
      by_same : (b : Bool) → is_same_pair y x ≡ b → 0 < cond b 1 0 + count (λ q. is_same_pair q x) ys → (0 < count (λ q. is_same_pair q x) ys → Without x ys) → Without x (y ∷ ys)
      by_same true is lt rest = let e : y ≡ x = (pairs y x).0 is in (ys, refl, λ p. ap (λ (z : Pair). cond (is_same_pair z p) 1 0 + count (λ q. is_same_pair q p) ys) e)
      by_same false is lt rest = let k = rest (omega arith) in (y ∷ k.0, ap suc k.1, λ p. let e = k.2 p in omega arith)

  same-length : (xs ys : List Pair) → ((p : Pair) → count (λ q. is_same_pair q p) xs ≡ count (λ q. is_same_pair q p) ys) → length xs ≡ length ys
  same-length [] [] same = refl
  same-length [] (y ∷ ys) same = let k = same y in let o = own-count y ys in absurd (omega arith)
  same-length (x ∷ xs) ys same =
      let k = same x in let o = own-count x xs in
      let out = take-out x ys (omega arith) in
      let rest = same-length xs out.0 (λ p. let e = same p in let f = out.2 p in omega arith) in
      omega (arith, rest, out.1)

  pub entries-as-many : (T : RepliedHistory) (listed : List Pair) → AreEntries T listed → length (entries T) ≡ length listed
  entries-as-many T listed are = same-length (entries T) listed (λ p. entries-count T p ∙ sym (are p) ∙ sym (count-filter (λ q. is_same_pair q p) listed))
