-- Worked rows: the definitions, computed on literals.
use Rattle.std.proofs.Common.{◌≡◌, true, false, codes, refl, Some, None, option_map}
use Rattle.pe_origin.proofs.OnLiterals.{origin_on_literals}
use Rattle.pe_origin.specs.declared.scheme.Scheme.TheVariants.{Https, Http, Ws}
use Rattle.pe_origin.specs.declared.scheme.HostForm.TheVariants.{Domain, V4, V6}
use Rattle.pe_origin.specs.declared.origin.Origin.TheVariants.{Tuple, Opaque}
use Rattle.pe_origin.specs.declared.place.PlaceKind.TheVariants.{Net, Blank, Inline, Other}
use Rattle.pe_origin.specs.Origins.{origin_text}
use Rattle.pe_origin.specs.Places.{place_at}
use Rattle.pe_origin.specs.Trust.{is_trustworthy}

pub row_https : place_at (codes "https://a.example/") ≡ Some (record { kind = Net; tuple = Some (record { scheme = Https; host = codes "a.example"; form = Domain; port = 443 }) })
unfolding origin_on_literals
row_https = refl

pub row_port : place_at (codes "http://A.example:8080") ≡ Some (record { kind = Net; tuple = Some (record { scheme = Http; host = codes "a.example"; form = Domain; port = 8080 }) })
unfolding origin_on_literals
row_port = refl

pub row_v6 : place_at (codes "ws://[0:0::1]:8080") ≡ Some (record { kind = Net; tuple = Some (record { scheme = Ws; host = codes "[::1]"; form = V6; port = 8080 }) })
unfolding origin_on_literals
row_v6 = refl

pub row_v4 : place_at (codes "http://0x7f.1/") ≡ Some (record { kind = Net; tuple = Some (record { scheme = Http; host = codes "127.0.0.1"; form = V4; port = 80 }) })
unfolding origin_on_literals
row_v4 = refl

pub row_blank : place_at (codes "about:blank?x#y") ≡ Some (record { kind = Blank; tuple = None })
unfolding origin_on_literals
row_blank = refl

pub row_data : place_at (codes "data:text/html,x") ≡ Some (record { kind = Inline; tuple = None })
unfolding origin_on_literals
row_data = refl

pub row_blob : place_at (codes "blob:https://a.example/x") ≡ Some (record { kind = Other; tuple = None })
unfolding origin_on_literals
row_blob = refl

pub row_nonsense : place_at (codes "nonsense") ≡ None
unfolding origin_on_literals
row_nonsense = refl

pub row_text : origin_text (Tuple (record { scheme = Http; host = codes "a.example"; form = Domain; port = 8080 })) ≡ codes "http://a.example:8080"
unfolding origin_on_literals
row_text = refl

pub row_opaque : origin_text (Opaque 3) ≡ codes "opaque:d3"
unfolding origin_on_literals
row_opaque = refl

pub row_trust : option_map is_trustworthy (place_at (codes "http://a.localhost/")) ≡ Some true
unfolding origin_on_literals
row_trust = refl

pub row_no_trust : option_map is_trustworthy (place_at (codes "http://localhost./")) ≡ Some false
unfolding origin_on_literals
row_no_trust = refl
