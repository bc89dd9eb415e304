-- In histories that are alike the same documents are current, and the same inputs activate the same documents.
use Rattle.std.proofs.Common.{◌≡◌, ℕ, suc, Bool, true, false, not, ◌&&◌, cond, nat_le, List, [], ◌∷◌, length, map, is_some, option_and_then, refl, ◌∙◌, ap}
use Rattle.std.specs.List.{list_all}
use Rattle.pe_rules.specs.History.{RepliedHistory, some_if, steps_since}
use Rattle.pe_rules.specs.Making.{making}
use Rattle.pe_rules.specs.Current.{ends, frames_above, is_current, document_in, is_live}
use Rattle.pe_isolation.proofs.Alike.{Alike, start, same, quiet, length-alike}
use Rattle.pe_isolation.proofs.Quiet.{no-end}
use Rattle.pe_isolation.proofs.Made.{last-document-alike, making-alike, frame-of-alike, chain-alike}

frames-above-alike : {T U : RepliedHistory} → Alike T U → (d : ℕ) → frames_above T d ≡ frames_above U d
unfolding frames_above
frames-above-alike r d = λ i. map (λ p. frame-of-alike r p i) (chain-alike r d i)

-- no step after the position ends one of the frames
abbrev are_left : List ℕ → RepliedHistory → Bool
are_left frames steps = list_all (λ s. not (ends frames s.event)) steps

left-alike : {T U : RepliedHistory} → Alike T U → (frames : List ℕ) (k : ℕ) → are_left frames (steps_since T k) ≡ are_left frames (steps_since U k)
unfolding steps_since
left-alike start frames k = refl
left-alike (same s {T} {U} r) frames k = rw (length-alike r) (by_test (nat_le (suc (length U)) k) (left-alike r frames k))
  where
    by_test : (b : Bool) → are_left frames (steps_since T k) ≡ are_left frames (steps_since U k) → are_left frames (cond b [] (s ∷ steps_since T k)) ≡ are_left frames (cond b [] (s ∷ steps_since U k))
    by_test true later = refl
    by_test false later = ap (λ b. not (ends frames s.event) && b) later
left-alike (quiet s u {T} {U} time p q r) frames k = rw (length-alike r) (by_test (nat_le (suc (length U)) k) (left-alike r frames k))
  where
    by_test : (b : Bool) → are_left frames (steps_since T k) ≡ are_left frames (steps_since U k) → are_left frames (cond b [] (s ∷ steps_since T k)) ≡ are_left frames (cond b [] (u ∷ steps_since U k))
    by_test true later = refl
    by_test false later = rw (no-end s.event frames p.event, no-end u.event frames q.event) later

pub current-alike : {T U : RepliedHistory} → Alike T U → (d : ℕ) → is_current T d ≡ is_current U d
unfolding is_current
current-alike {T} {U} r d = (λ i. is_some (making-alike r d i) && are_left (frames-above-alike r d i) (steps_since T d)) ∙ ap (λ b. is_some (making U d) && b) (left-alike r (frames_above U d) d)

pub document-in-alike : {T U : RepliedHistory} → Alike T U → (f : ℕ) → document_in T f ≡ document_in U f
unfolding document_in
document-in-alike r f = λ i. option_and_then (λ d. some_if (current-alike r d i) d) (last-document-alike r f i)

pub live-alike : {T U : RepliedHistory} → Alike T U → (f : ℕ) → is_live T f ≡ is_live U f
unfolding is_live
live-alike r f = ap is_some (document-in-alike r f)
