-- The schemes whose URLs have a tuple origin: their names and their default ports.
-- URL Standard, section 4.2 ("special scheme", "default port") without the scheme `file`, and
-- section 4.7 ("origin").
use Rattle.std.specs.Prelude.{ℕ, List, codes, bytes_eq, Option, Some, None, if◌then◌else◌}
use Rattle.pe_origin.specs.declared.scheme.Scheme.{Scheme}
use Rattle.pe_origin.specs.declared.scheme.Scheme.TheVariants.{Http, Https, Ws, Wss, Ftp}

-- the name of the scheme
abbrev pub scheme_name : Scheme → List ℕ
scheme_name Http = codes "http"
scheme_name Https = codes "https"
scheme_name Ws = codes "ws"
scheme_name Wss = codes "wss"
scheme_name Ftp = codes "ftp"

-- the scheme with this name
unfoldable pub scheme_named : List ℕ → Option Scheme
scheme_named name =
    if bytes_eq name (codes "http") then Some Http
    else (if bytes_eq name (codes "https") then Some Https
    else (if bytes_eq name (codes "ws") then Some Ws
    else (if bytes_eq name (codes "wss") then Some Wss
    else (if bytes_eq name (codes "ftp") then Some Ftp
    else None))))

-- the scheme's default port
abbrev pub default_port : Scheme → ℕ
default_port Http = 80
default_port Https = 443
default_port Ws = 80
default_port Wss = 443
default_port Ftp = 21
