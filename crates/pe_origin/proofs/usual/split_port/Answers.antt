use Rattle.std.proofs.Common.{◌≡◌, ◌∷◌, true, Some, None, Ok, sym, ap, ◌∙◌, refl}
use Rattle.std.specs.Char.{is_ascii_digit}
use Rattle.std.proofs.lemmas.List.Elements.{All-nil}
use Rattle.pe_origin.proofs.UsualUrls.{split_is, port_of_none}
use Rattle.pe_origin.proofs.usual.split_port.Goals as goal

pub returns-in_default : goal.returns-in_default
returns-in_default c = record {
  digits = None;
  spelled = refl;
  plain = All-nil (λ b. is_ascii_digit b ≡ true);
  read = port_of_none c.args.scheme ∙ ap Ok (sym c.default_port.ensures);
}

pub returns : goal.returns
returns c = record {
  digits = Some c.split_at.result.0.now;
  spelled = c.in-Some.ensures ∙ ap (λ l. 58 ∷ l) (split_is _ c.in-Some.rest.now _ _ c.split_at.ensures.front c.split_at.ensures.back);
  plain = c.in_ok-port_of.ensures.digits;
  read = c.in_ok-port_of.ensures.read c.args.scheme;
}
