-- When two origins are same origin, and the text of an origin.
-- HTML Standard, section 7.1.1 "Origins" ("same origin", "serialization of an origin"). The text of an
-- opaque origin is this project's own: it names the document.
use Rattle.std.specs.Prelude.{ℕ, Bool, true, false, ◌&&◌, ◌==◌, List, [], ◌++◌, codes, bytes_eq, decimal, if◌then◌else◌}
use Rattle.pe_origin.specs.declared.scheme.Scheme.{Scheme}
use Rattle.pe_origin.specs.declared.scheme.HostForm.{HostForm}
use Rattle.pe_origin.specs.declared.scheme.HostForm.TheVariants.{Domain, V4, V6}
use Rattle.pe_origin.specs.declared.origin.Tuple.{Tuple}
use Rattle.pe_origin.specs.declared.origin.Origin.{Origin}
use Rattle.pe_origin.specs.declared.origin.Origin.TheVariants as origin
use Rattle.pe_origin.specs.Schemes.{default_port, scheme_name}

-- the two schemes are one, as their names are
abbrev pub is_same_scheme : Scheme → Scheme → Bool
is_same_scheme a b = bytes_eq (scheme_name a) (scheme_name b)

-- both hosts are domains, or IPv4 addresses, or IPv6 addresses
abbrev pub is_same_form : HostForm → HostForm → Bool
is_same_form Domain Domain = true
is_same_form V4 V4 = true
is_same_form V6 V6 = true
is_same_form _ _ = false

-- the two hosts are one: of one form, and written alike; the standard compares hosts, and of a host that the parser wrote the text decides the form
abbrev pub is_same_host : Tuple → Tuple → Bool
is_same_host a b = is_same_form a.form b.form && bytes_eq a.host b.host

-- schemes, hosts and ports are identical
abbrev pub is_same_tuple : Tuple → Tuple → Bool
is_same_tuple a b = is_same_scheme a.scheme b.scheme && is_same_host a b && a.port == b.port

-- the two are same origin: one opaque origin, or tuples that agree
abbrev pub is_same_origin : Origin → Origin → Bool
is_same_origin (origin.Tuple a) (origin.Tuple b) = is_same_tuple a b
is_same_origin (origin.Opaque d) (origin.Opaque e) = d == e
is_same_origin _ _ = false

-- a colon and the port, where it is not the scheme's default
abbrev pub port_text : Scheme → ℕ → List ℕ
port_text scheme port = if port == default_port scheme then [] else codes ":" ++ decimal port

-- the serialization of a tuple origin: scheme, `://`, host, and the port
abbrev pub tuple_text : Tuple → List ℕ
tuple_text t = scheme_name t.scheme ++ codes "://" ++ t.host ++ port_text t.scheme t.port

-- the text of an origin; that of an opaque one names its document
abbrev pub origin_text : Origin → List ℕ
origin_text (origin.Tuple t) = tuple_text t
origin_text (origin.Opaque d) = codes "opaque:d" ++ decimal d
