-- That each number of a list is below one is a fact, as a ghost field wants: it has one proof.
use Rattle.std.proofs.Common.{ℕ, ◌<◌, List, [], ◌∷◌}
use Rattle.std.proofs.Props.{props}
use Rattle.pe_status.specs.Registry.{AreBelow}

pub AreBelow_prop : (number : ℕ) (ns : List ℕ) → IsProp (AreBelow number ns)
AreBelow_prop number [] x y = λ i. x
AreBelow_prop number (n ∷ ns) x y =
    let first : IsProp (n < number) = hlevel props in
    λ i. (first x.0 y.0 i, AreBelow_prop number ns x.1 y.1 i)
