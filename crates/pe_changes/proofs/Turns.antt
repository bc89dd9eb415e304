-- What a walk over statuses puts behind what was gathered.
use Rattle.std.proofs.Common.{◌≡◌, ℕ, Bool, true, false, List, [], ◌∷◌, ◌++◌, flat_map, refl, sym, ◌∙◌, ap, append_assoc, append-nil}
use Rattle.pe_base.specs.declared.state.State.{State}
use Rattle.pe_events.specs.declared.answer.Change.{Change}
use Rattle.pe_status.specs.declared.registered.Registered.{Registered}
use Rattle.pe_rules.specs.Changes.{is_same_state}
use Rattle.pe_changes.specs.Gathered.{change_to, change_from}
use Rattle.pe_changes.proofs.Counts.{flat-none, flat-same, each-all}

pub to-silent : (silent : Registered → Bool) (time : ℕ) (after : State) (r : Registered) (done : List Change) → silent r ≡ true → done ≡ done ++ change_to silent time after r
to-silent silent time after r done h = rw h (sym (append-nil done))

pub to-heard : (silent : Registered → Bool) (time : ℕ) (after : State) (r : Registered) (done : List Change) → silent r ≡ false
    → done ++ record { time = time; status = r.no; state = after } ∷ [] ≡ done ++ change_to silent time after r
to-heard silent time after r done h = rw h refl

-- one more of the walk
pub turn-more : {C : Type 0} (f : Registered → List C) (r : Registered) (rest : List Registered) (done more all : List C) → more ≡ done ++ f r → done ++ flat_map f (r ∷ rest) ≡ all → more ++ flat_map f rest ≡ all
turn-more f r rest done more all one is = ap (λ xs. xs ++ flat_map f rest) one ∙ append_assoc done (f r) (flat_map f rest) ∙ is

pub from-same : (silent : Registered → Bool) (time : ℕ) (before after : State) (rs : List Registered) → is_same_state before after ≡ true → flat_map (change_from silent time before after) rs ≡ []
from-same silent time before after rs h = flat-none (change_from silent time before after) (λ r. rw h refl) rs

pub from-other : (silent : Registered → Bool) (time : ℕ) (before after : State) (rs : List Registered) → is_same_state before after ≡ false
    → flat_map (change_from silent time before after) rs ≡ flat_map (change_to silent time after) rs
from-other silent time before after rs h = flat-same (change_from silent time before after) (change_to silent time after) rs (each-all _ rs (λ r. rw h refl))
