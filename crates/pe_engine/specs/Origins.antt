-- That an origin is same origin with itself: a law that a row of a document hands on.
-- HTML Standard, "same origin".
use Rattle.std.proofs.Common.{◌≡◌, IsTrue, refl, true}
use Rattle.std.specs.Cmp.Lexicographic.{bytes_decides}
use Rattle.std.proofs.lemmas.Bool.Decides.{Decides-eqb}
use Rattle.pe_origin.specs.declared.scheme.Scheme.{Scheme}
use Rattle.pe_origin.specs.declared.scheme.Scheme.TheVariants.{Http, Https, Ws, Wss, Ftp}
use Rattle.pe_origin.specs.declared.scheme.HostForm.{HostForm}
use Rattle.pe_origin.specs.declared.scheme.HostForm.TheVariants.{Domain, V4, V6}
use Rattle.pe_origin.specs.declared.origin.Origin.{Origin}
use Rattle.pe_origin.specs.declared.origin.Origin.TheVariants as origin
use Rattle.pe_origin.specs.Origins.{is_same_scheme, is_same_form, is_same_origin}

scheme-itself : (s : Scheme) → is_same_scheme s s ≡ true
scheme-itself Http = refl
scheme-itself Https = refl
scheme-itself Ws = refl
scheme-itself Wss = refl
scheme-itself Ftp = refl

form-itself : (f : HostForm) → is_same_form f f ≡ true
form-itself Domain = refl
form-itself V4 = refl
form-itself V6 = refl

-- an origin is same origin with itself
pub same_as_itself : (o : Origin) → IsTrue (is_same_origin o o)
same_as_itself (origin.Tuple t) =
    rw (scheme-itself t.scheme, form-itself t.form, (bytes_decides t.host t.host).1 refl, (Decides-eqb t.port t.port).1 refl) refl
same_as_itself (origin.Opaque d) = (Decides-eqb d d).1 refl
