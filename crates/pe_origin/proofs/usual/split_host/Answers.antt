use Rattle.std.proofs.Common.{◌≡◌, true, All, sym, subst}
use Rattle.pe_origin.specs.Usual.{is_host_byte}
use Rattle.pe_origin.proofs.UsualUrls.{split_is}
use Rattle.pe_origin.proofs.usual.split_host.Goals as goal

pub returns-then-is_named : goal.returns-then-is_named
returns-then-is_named c =
    let named = c.is_named.ensures c.if-is_named.true in
    let front = c.split_at.ensures.front in (
      split_is _ c.args.text.now _ _ front c.split_at.ensures.back,
      record { bytes = subst (All (λ b. is_host_byte b ≡ true)) (sym front) c.host_len.ensures.bytes; nonempty = named.0; named = named.1 },
    )
