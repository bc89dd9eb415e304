-- What the engine knows of a URL: its kind, and its tuple origin.
-- URL Standard, sections 4.4 ("basic URL parser", without a base URL) and 4.7 ("origin"); HTML Standard, "matches
-- about:blank". That every other scheme, `blob` too, has an opaque origin is this project's own.
use Rattle.std.specs.Prelude.{ℕ, Bool, ◌&&◌, List, codes, bytes_eq, Option, Some, None, unwrap_or, Ok, Err, if◌then◌else◌}
use Rattle.std.specs.Str.{is_utf8}
use Rattle.url.specs.declared.host.Host.{Host}
use Rattle.url.specs.declared.host.Host.TheVariants as host
use Rattle.url.specs.Host.{host_text}
use Rattle.url.specs.Parts.{Parts, host_or_empty}
use Rattle.url.specs.Parser.{Parsed, parse_url}
use Rattle.pe_origin.specs.declared.scheme.Scheme.{Scheme}
use Rattle.pe_origin.specs.declared.scheme.HostForm.{HostForm}
use Rattle.pe_origin.specs.declared.scheme.HostForm.TheVariants.{Domain, V4, V6}
use Rattle.pe_origin.specs.declared.origin.Tuple.{Tuple}
use Rattle.pe_origin.specs.declared.place.PlaceKind.{PlaceKind}
use Rattle.pe_origin.specs.declared.place.PlaceKind.TheVariants.{Net, Blank, Inline, Other}
use Rattle.pe_origin.specs.declared.place.Place.{Place}
use Rattle.pe_origin.specs.Schemes.{default_port, scheme_named}

-- what the host is
abbrev pub form_of : Host (List ℕ) → HostForm
form_of (host.Domain domain) = Domain
form_of (host.Ipv4 address) = V4
form_of (host.Ipv6 address) = V6

-- the tuple origin: scheme, host as it is written, and the port, or the scheme's own where there is none
unfoldable pub tuple_of : Scheme → Parts → Tuple
tuple_of scheme url = record {
  scheme = scheme;
  host = host_text (host_or_empty url);
  form = form_of (host_or_empty url);
  port = unwrap_or url.port (default_port scheme);
}

-- the URL is about:blank, whatever its query and fragment are
abbrev pub is_blank : Parts → Bool
is_blank url = bytes_eq url.scheme (codes "about") && bytes_eq url.path (codes "blank")

-- the kind of a URL that has no tuple origin
abbrev pub kind_without_tuple : Parts → PlaceKind
kind_without_tuple url =
    if is_blank url then Blank
    else (if bytes_eq url.scheme (codes "data") then Inline else Other)

-- the place of a URL whose scheme is this one of the five, or none of them
abbrev pub place_by_scheme : Option Scheme → Parts → Place
place_by_scheme (Some scheme) url = record { kind = Net; tuple = Some (tuple_of scheme url) }
place_by_scheme None url = record { kind = kind_without_tuple url; tuple = None }

-- the place of a URL
unfoldable pub place_of : Parts → Place
place_of url = place_by_scheme (scheme_named url.scheme) url

-- the place of what the parser gave, or nothing where it failed
abbrev pub place_of_parsed : Parsed Parts → Option Place
place_of_parsed (Ok url) = Some (place_of url)
place_of_parsed (Err e) = None

-- the place of a text, or nothing where it is not UTF-8 or no URL
unfoldable pub place_at : List ℕ → Option Place
place_at text = if is_utf8 text then place_of_parsed (parse_url None text) else None
