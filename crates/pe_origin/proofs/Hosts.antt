-- The text of a URL's host, as the crate `url` gives it.
use Rattle.std.proofs.Common.{◌≡◌, ℕ, false, List, [], ◌∷◌, Option, Some, None, unwrap_or, option_map, refl, ◌==◌, length, arith}
use Rattle.std.proofs.lemmas.Bool.Decides.{nat_tests}
use Rattle.url.specs.declared.host.Host.{Host}
use Rattle.url.specs.declared.host.Host.TheVariants.{Domain, Ipv4, Ipv6}
use Rattle.url.specs.Host.{host_text}
use Rattle.url.specs.Parts.{Parts, host_or_empty, nonempty_host}

nonempty : (b : ℕ) (bytes : List ℕ) → (length (b ∷ bytes) == 0) ≡ false
nonempty b bytes = grind (arith, nat_tests)

-- `host_shown`, by the cases of the host
shown : (host : Option (Host (List ℕ))) (port : Option ℕ) (path scheme username password : List ℕ) (query fragment : Option (List ℕ))
    → let url : Parts = record { scheme = scheme; username = username; password = password; host = host; port = port; path = path; query = query; fragment = fragment } in
    unwrap_or (option_map host_text (nonempty_host url)) [] ≡ host_text (host_or_empty url)
shown None port path scheme username password query fragment = refl
shown (Some (Domain [])) port path scheme username password query fragment = refl
shown (Some (Domain (b ∷ bytes))) port path scheme username password query fragment = rw (nonempty b bytes) refl
shown (Some (Ipv4 address)) port path scheme username password query fragment = refl
shown (Some (Ipv6 address)) port path scheme username password query fragment = refl

-- the text of the host where it is not empty, or else nothing, is the text of the host or of the empty one
pub host_shown : (url : Parts) → unwrap_or (option_map host_text (nonempty_host url)) [] ≡ host_text (host_or_empty url)
host_shown url = shown url.host url.port url.path url.scheme url.username url.password url.query url.fragment
