-- What a change at a place leaves at each place.
use Rattle.std.proofs.Common.{◌≡◌, ℕ, Bool, true, false, cond, ◌||◌, ◌&&◌, [], Option, None, refl, ap, ◌∙◌, arith}
use Rattle.std.specs.Prelude.{◌==◌}
use Rattle.std.specs.Ordering.{is_eq}
use Rattle.std.specs.List.{list_any}
use Rattle.std.specs.Map.{lookup}
use Rattle.std.specs.BTreeMap.{BTreeMap, get, is_at}
use Rattle.std.specs.BTreeSet.{BTreeSet, contains}
use Rattle.std.proofs.lemmas.Bool.Decides.{nat_tests}
use Rattle.pe_status.specs.declared.place.Place.{Place}
use Rattle.pe_status.specs.Places.{place_cmp, place, value_at, is_taken}

pub place-test : (p : Place) (g n : ℕ) → is_eq (place_cmp p (place g n)) ≡ (p.group == g && p.no == n)
place-test p g n = grind (arith, nat_tests)

or-cond : (b c : Bool) → cond b true c ≡ b || c
or-cond true c = refl
or-cond false c = refl

pub taken-with : (p : Place) (old new : BTreeSet Place) → ((q : Place) → contains place_cmp new q ≡ cond (is_eq (place_cmp p q)) true (contains place_cmp old q))
    → (g n : ℕ) → is_taken new g n ≡ (p.group == g && p.no == n) || is_taken old g n
unfolding is_taken
taken-with p old new h g n =
    h (place g n) ∙ ap (λ (b : Bool). cond b true (is_taken old g n)) (place-test p g n) ∙ or-cond (p.group == g && p.no == n) (is_taken old g n)

pub taken-without : (p : Place) (old new : BTreeSet Place) → ((q : Place) → contains place_cmp new q ≡ cond (is_eq (place_cmp p q)) false (contains place_cmp old q))
    → (g n : ℕ) → is_taken new g n ≡ cond (p.group == g && p.no == n) false (is_taken old g n)
unfolding is_taken
taken-without p old new h g n = h (place g n) ∙ ap (λ (b : Bool). cond b false (is_taken old g n)) (place-test p g n)

pub value-changed : {X : Type 0} (p : Place) (w : Option X) (old new : BTreeMap Place X) → ((q : Place) → get place_cmp new q ≡ cond (is_eq (place_cmp p q)) w (get place_cmp old q))
    → (g n : ℕ) → value_at new g n ≡ cond (p.group == g && p.no == n) w (value_at old g n)
unfolding value_at
value-changed p w old new h g n = h (place g n) ∙ ap (λ (b : Bool). cond b w (value_at old g n)) (place-test p g n)

pub value-unchanged : {X : Type 0} (old new : BTreeMap Place X) → new.entries ≡ old.entries → (g n : ℕ) → value_at new g n ≡ value_at old g n
unfolding value_at
value-unchanged old new h g n = ap (lookup (is_at (place_cmp (place g n)))) h

pub value-empty : {X : Type 0} (m : BTreeMap Place X) → m.entries ≡ [] → (g n : ℕ) → value_at m g n ≡ None
unfolding value_at
value-empty m h g n = ap (lookup (is_at (place_cmp (place g n)))) h

pub taken-empty : (s : BTreeSet Place) → s.keys ≡ [] → (g n : ℕ) → is_taken s g n ≡ false
unfolding is_taken
taken-empty s h g n = ap (list_any (is_at (place_cmp (place g n)))) h
