-- Which URLs are potentially trustworthy.
-- W3C Secure Contexts, section 3.1 ("Is origin potentially trustworthy?") without the scheme `file`,
-- and section 3.2 ("Is url potentially trustworthy?") without about:srcdoc. That `localhost.` and names below it
-- are not trusted, and no `blob:` URL, whatever its inner origin, is this project's own.
use Rattle.std.specs.Prelude.{ℕ, Bool, true, false, ◌||◌, List, codes, bytes_eq, nat_eq, Option, Some, None}
use Rattle.std.specs.List.{starts_with, ends_with}
use Rattle.pe_origin.specs.declared.scheme.Scheme.{Scheme}
use Rattle.pe_origin.specs.declared.scheme.Scheme.TheVariants.{Https, Wss}
use Rattle.pe_origin.specs.declared.scheme.HostForm.{HostForm}
use Rattle.pe_origin.specs.declared.scheme.HostForm.TheVariants.{Domain, V4, V6}
use Rattle.pe_origin.specs.declared.origin.Tuple.{Tuple}
use Rattle.pe_origin.specs.declared.place.PlaceKind.{PlaceKind}
use Rattle.pe_origin.specs.declared.place.PlaceKind.TheVariants.{Net, Blank, Inline, Other}
use Rattle.pe_origin.specs.declared.place.Place.{Place}

-- the scheme authenticates the host
abbrev pub is_authenticated : Scheme → Bool
is_authenticated Https = true
is_authenticated Wss = true
is_authenticated _ = false

-- the host is `localhost` or a name below it, an address in 127.0.0.0/8, or ::1
abbrev pub is_local : HostForm → List ℕ → Bool
is_local Domain host = bytes_eq host (codes "localhost") || ends_with nat_eq host (codes ".localhost")
is_local V4 host = starts_with nat_eq host (codes "127.")
is_local V6 host = bytes_eq host (codes "[::1]")

-- the tuple origin is potentially trustworthy
abbrev pub is_trustworthy_tuple : Tuple → Bool
is_trustworthy_tuple t = is_authenticated t.scheme || is_local t.form t.host

-- a URL of this kind with this tuple origin is potentially trustworthy
abbrev pub is_trustworthy_by_kind : PlaceKind → Option Tuple → Bool
is_trustworthy_by_kind Net (Some t) = is_trustworthy_tuple t
is_trustworthy_by_kind Net None = false
is_trustworthy_by_kind Blank _ = true
is_trustworthy_by_kind Inline _ = true
is_trustworthy_by_kind Other _ = false

-- the URL is potentially trustworthy
abbrev pub is_trustworthy : Place → Bool
is_trustworthy place = is_trustworthy_by_kind place.kind place.tuple
