use Rattle.std.proofs.Common.{sym, refl, Ok, None}
use Rattle.pe_script.proofs.LineReadings.{reading-of-silent, means-none, means-some, means-bad-byte, means-syntax, silent-is, event-is, bad-byte-is, syntax-is}
use Rattle.pe_script.proofs.reading.read_event.Goals as goal

pub returns : goal.returns
returns c =
    let r = c.read_line.result in
    let h = c.read_line.ensures in
    record {
      none = means-none _ r h;
      some = means-some _ r h;
      bad_byte = means-bad-byte _ r h;
      syntax = means-syntax _ r h;
      of_silent = silent-is _ r h;
      of_event = event-is _ r h;
      of_bad_byte = bad-byte-is _ r h;
      of_syntax = syntax-is _ r h;
    }

pub returns-then-is_silent : goal.returns-then-is_silent
returns-then-is_silent c =
    let silent = reading-of-silent c.args.line.now (sym c.if-is_silent.ensures) in
    record {
      none = silent;
      some = tt;
      bad_byte = λ is. means-bad-byte _ (Ok None) silent is;
      syntax = λ is. means-syntax _ (Ok None) silent is;
      of_silent = λ is. refl;
      of_event = event-is _ (Ok None) silent;
      of_bad_byte = bad-byte-is _ (Ok None) silent;
      of_syntax = syntax-is _ (Ok None) silent;
    }
