-- Being same origin decides equality of origins.
use Rattle.std.proofs.Common.{◌≡◌, ◌==◌, ℕ, List, ◌&&◌, refl, ap, true≢false, sym, bytes_eq}
use Rattle.std.specs.Bool.{Decides}
use Rattle.std.specs.Cmp.Lexicographic.{bytes_decides}
use Rattle.std.proofs.lemmas.Bool.Decides.{Decides-and, Decides-like, Decides-eqb}
use Rattle.pe_origin.specs.declared.scheme.Scheme.{Scheme}
use Rattle.pe_origin.specs.declared.scheme.Scheme.TheVariants.{Http, Https, Ws, Wss, Ftp}
use Rattle.pe_origin.specs.declared.scheme.HostForm.{HostForm}
use Rattle.pe_origin.specs.declared.scheme.HostForm.TheVariants.{Domain, V4, V6}
use Rattle.pe_origin.specs.declared.origin.Tuple.{Tuple}
use Rattle.pe_origin.specs.declared.origin.Origin.{Origin}
use Rattle.pe_origin.specs.declared.origin.Origin.TheVariants as origin
use Rattle.pe_origin.specs.Origins.{is_same_scheme, is_same_form, is_same_host, is_same_tuple, is_same_origin}

-- schemes have one name exactly where they are one
pub is_same_scheme_decides : (a b : Scheme) → Decides (is_same_scheme a b) (a ≡ b)
is_same_scheme_decides Http Http = (λ e. refl, λ e. refl)
is_same_scheme_decides Https Https = (λ e. refl, λ e. refl)
is_same_scheme_decides Ws Ws = (λ e. refl, λ e. refl)
is_same_scheme_decides Wss Wss = (λ e. refl, λ e. refl)
is_same_scheme_decides Ftp Ftp = (λ e. refl, λ e. refl)
is_same_scheme_decides _ _ = (λ e. absurd (true≢false (sym e)), λ e. absurd cc)

-- forms agree exactly where they are one
pub is_same_form_decides : (a b : HostForm) → Decides (is_same_form a b) (a ≡ b)
is_same_form_decides Domain Domain = (λ e. refl, λ e. refl)
is_same_form_decides V4 V4 = (λ e. refl, λ e. refl)
is_same_form_decides V6 V6 = (λ e. refl, λ e. refl)
is_same_form_decides _ _ = (λ e. absurd (true≢false (sym e)), λ e. absurd cc)

-- tuples with equal fields are one
from_fields : (s t : Scheme) (g h : List ℕ) (f k : HostForm) (p q : ℕ) → s ≡ t → g ≡ h → f ≡ k → p ≡ q
    → let a : Tuple = record { scheme = s; host = g; form = f; port = p } in
    let b : Tuple = record { scheme = t; host = h; form = k; port = q } in
    a ≡ b
from_fields s t g h f k p q hs hh hf hp = cc

-- tuples agree exactly where they are one
pub is_same_tuple_decides : (a b : Tuple) → Decides (is_same_tuple a b) (a ≡ b)
is_same_tuple_decides a b =
    Decides-like (is_same_tuple a b) (λ e. from_fields a.scheme b.scheme a.host b.host a.form b.form a.port b.port e.0.0 e.0.1.1 e.0.1.0 e.1)
    (λ e. ((ap (λ (t : Tuple). t.scheme) e, (ap (λ (t : Tuple). t.form) e, ap (λ (t : Tuple). t.host) e)), ap (λ (t : Tuple). t.port) e))
    (Decides-and (is_same_scheme a.scheme b.scheme && is_same_host a b) (a.port == b.port)
    (Decides-and (is_same_scheme a.scheme b.scheme) (is_same_host a b)
    (is_same_scheme_decides a.scheme b.scheme)
    (Decides-and (is_same_form a.form b.form) (bytes_eq a.host b.host)
    (is_same_form_decides a.form b.form)
    (bytes_decides a.host b.host)))
    (Decides-eqb a.port b.port))

-- two are same origin exactly where they are one
pub is_same_origin_decides : (a b : Origin) → Decides (is_same_origin a b) (a ≡ b)
is_same_origin_decides (origin.Tuple a) (origin.Tuple b) =
    Decides-like (is_same_tuple a b) (λ e. ap origin.Tuple e) (λ e. cc) (is_same_tuple_decides a b)
is_same_origin_decides (origin.Opaque d) (origin.Opaque e) =
    Decides-like (d == e) (λ h. ap origin.Opaque h) (λ h. cc) (Decides-eqb d e)
is_same_origin_decides (origin.Tuple a) (origin.Opaque e) = (λ h. absurd (true≢false (sym h)), λ h. absurd cc)
is_same_origin_decides (origin.Opaque d) (origin.Tuple b) = (λ h. absurd (true≢false (sym h)), λ h. absurd cc)
