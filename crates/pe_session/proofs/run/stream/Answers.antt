use Rattle.std.proofs.Common.{◌≡◌, ◌≤◌, ◌<◌, ◌-◌, ◌++◌, [], length, take, arith, refl, sym, ap, ◌∙◌, subst, rules}
use Rattle.std.proofs.lemmas.List.{length-take, length-append}
use Rattle.std.specs.Io.KnownBytes.{Consumes}
use Rattle.std.proofs.KnownBytes.{Consumes-trans, Appends-trans, Consumes-nil, Appends-nil}
use Rattle.pe_output.specs.OutputText.{ended_text}
use Rattle.pe_session.proofs.Outcomes.{number-small, nothing-yet, up-to-limit, cut-before-piece, cut-in-front, cut-now, cut-in-last, none-given}
use Rattle.pe_session.proofs.run.stream.Goals as goal

pub loop-count-init : goal.loop-count-init
loop-count-init g c = record {
  source_kept = refl;
  sink_kept = refl;
  within = omega arith;
  went = ([], Consumes-nil _, refl, rw (nothing-yet c.args.session.now.engine.duration) (Appends-nil _), c.requires.starts);
}

pub take-requires-clause-open : goal.take-requires-clause-open
take-requires-clause-open g c = let (taken, given, total, wrote, at) = c.loop-count.invariant.went in at.open_still

pub take-requires-clause-room : goal.take-requires-clause-room
take-requires-clause-room g c =
    let (taken, given, total, wrote, at) = c.loop-count.invariant.went in
    omega (arith, number-small c.args.session.now.engine.duration _ taken at, length-take (c.args.limit - c.loop-count.total) c.read.new.room, c.loop-count.invariant.within, c.requires.limit)

pub take-requires-in-loop-count-clause-open : goal.take-requires-in-loop-count-clause-open
take-requires-in-loop-count-clause-open g c = let (taken, given, total, wrote, at) = c.loop-count.invariant.went in at.open_still

pub take-requires-in-loop-count-clause-room : goal.take-requires-in-loop-count-clause-room
take-requires-in-loop-count-clause-room g c =
    let (taken, given, total, wrote, at) = c.loop-count.invariant.went in
    omega (arith, number-small c.args.session.now.engine.duration _ taken at, length-take c.in-Ok.count c.read.new.room, c.loop-count.invariant.within, c.requires.limit, c.if-count-spare.false)

pub end-requires-clause-open : goal.end-requires-clause-open
end-requires-clause-open g c = let (taken, given, total, wrote, at) = c.loop-count.invariant.went in at.open_still

pub loop-count-preserved : goal.loop-count-preserved
loop-count-preserved g c =
    let (taken, given, total, wrote, at) = c.loop-count.invariant.went in
    let room = c.read.new.room in
    let count = c.in-Ok.count in
    let got : length (take count room) ≡ count = omega (arith, length-take count room, c.in-Ok.ensures.bound.0) in
    record {
      source_kept = search rules;
      sink_kept = search rules;
      within = omega (arith, c.if-count-spare.false, c.loop-count.invariant.within);
      went = (
        taken ++ take count room,
        Consumes-trans _ _ _ taken _ given c.in-Ok.ensures.bytes.0,
        omega (arith, total, got, length-append taken (take count room)),
        let (after, more) = c.in-Ok-take-2.ensures.ok c.args.session.now.engine.duration taken at in let (text, adds, appended) = more in rw adds (Appends-trans _ _ _ _ _ wrote appended),
        (c.in-Ok-take-2.ensures.ok c.args.session.now.engine.duration taken at).0,
      );
    }

pub returns-in-Ok-take-clause-text : goal.returns-in-Ok-take-clause-text
returns-in-Ok-take-clause-text g c =
    let duration = c.args.session.now.engine.duration in
    let (taken, given, total, wrote, at) = c.loop-count.invariant.went in
    let (after, more) = c.in-Ok-take.ensures.ok duration taken at in
    let (text, adds, appended) = more in
    let room = c.read.new.room in
    let count = c.in-Ok.count in
    let got : length (take count room) ≡ count = omega (arith, length-take count room, c.in-Ok.ensures.bound.0) in
    let over : c.args.limit < length (taken ++ take count room) = omega (arith, total, got, length-append taken (take count room), c.if-count-spare.true, c.loop-count.invariant.within) in
    let past : c.args.limit - c.loop-count.total ≤ count = omega (arith, c.if-count-spare.true) in (
      taken ++ take count room,
      ended_text duration taken ++ text,
      Consumes-trans _ _ _ taken _ given c.in-Ok.ensures.bytes.0,
      Appends-trans _ _ _ _ _ wrote appended,
      record { over = over; text = sym (ap (ended_text duration) (up-to-limit c.args.limit count c.loop-count.total taken room total c.loop-count.invariant.within past) ∙ adds) },
    )

pub returns-in-Err-Memory-clause-text : goal.returns-in-Err-Memory-clause-text
returns-in-Err-Memory-clause-text g c =
    let duration = c.args.session.now.engine.duration in
    let (taken, given, total, wrote, at) = c.loop-count.invariant.went in
    let same = c.in-Err-Memory.ensures.memory (cc c.in-Err-Memory.field-0-is) in
    let few : length (take c.in-Ok.count c.read.new.room) ≤ 65536 = omega (arith, length-take c.in-Ok.count c.read.new.room, c.requires.few, c.read.auto.room, c.loop-count.auto.room) in (
      taken ++ take c.in-Ok.count c.read.new.room,
      ended_text duration taken,
      Consumes-trans _ _ _ taken _ given c.in-Ok.ensures.bytes.0,
      rw same wrote,
      cut-before-piece (record { ended = c.ended_lines_stay.ensures.ended; all = c.ended_lines_stay.ensures.all }) duration taken (take c.in-Ok.count c.read.new.room) _ few,
    )

pub returns-in-Err-Write-clause-text : goal.returns-in-Err-Write-clause-text
returns-in-Err-Write-clause-text g c =
    let duration = c.args.session.now.engine.duration in
    let (taken, given, total, wrote, at) = c.loop-count.invariant.went in
    let (rose, each) = c.in-Err-Write.ensures.write (cc c.in-Err-Write.field-0-is) in
    let (text, rest, adds, appended) = each duration taken at in
    let few : length (take c.in-Ok.count c.read.new.room) ≤ 65536 = omega (arith, length-take c.in-Ok.count c.read.new.room, c.requires.few, c.read.auto.room, c.loop-count.auto.room) in
    let past : c.args.limit - c.loop-count.total ≤ c.in-Ok.count = omega (arith, c.if-count-spare.true) in (
      taken ++ take c.in-Ok.count c.read.new.room,
      ended_text duration taken ++ text,
      Consumes-trans _ _ _ taken _ given c.in-Ok.ensures.bytes.0,
      Appends-trans _ _ _ _ _ wrote appended,
      cut-in-front (record { ended = c.ended_lines_stay.ensures.ended; all = c.ended_lines_stay.ensures.all }) duration _ _ taken c.read.new.room text rest _ past adds few,
    )

pub returns-in-Err-Memory-take-clause-text : goal.returns-in-Err-Memory-take-clause-text
returns-in-Err-Memory-take-clause-text g c =
    let duration = c.args.session.now.engine.duration in
    let (taken, given, total, wrote, at) = c.loop-count.invariant.went in
    let same = c.in-Err-Memory-take.ensures.memory (cc c.in-Err-Memory-take.field-0-is) in
    let few : length (take c.in-Ok.count c.read.new.room) ≤ 65536 = omega (arith, length-take c.in-Ok.count c.read.new.room, c.requires.few, c.read.auto.room, c.loop-count.auto.room) in (
      taken ++ take c.in-Ok.count c.read.new.room,
      ended_text duration taken,
      Consumes-trans _ _ _ taken _ given c.in-Ok.ensures.bytes.0,
      rw same wrote,
      cut-before-piece (record { ended = c.ended_lines_stay.ensures.ended; all = c.ended_lines_stay.ensures.all }) duration taken (take c.in-Ok.count c.read.new.room) _ few,
    )

pub returns-in-Err-Write-take-clause-text : goal.returns-in-Err-Write-take-clause-text
returns-in-Err-Write-take-clause-text g c =
    let duration = c.args.session.now.engine.duration in
    let (taken, given, total, wrote, at) = c.loop-count.invariant.went in
    let (rose, each) = c.in-Err-Write-take.ensures.write (cc c.in-Err-Write-take.field-0-is) in
    let (text, rest, adds, appended) = each duration taken at in
    let few : length (take c.in-Ok.count c.read.new.room) ≤ 65536 = omega (arith, length-take c.in-Ok.count c.read.new.room, c.requires.few, c.read.auto.room, c.loop-count.auto.room) in (
      taken ++ take c.in-Ok.count c.read.new.room,
      ended_text duration taken ++ text,
      Consumes-trans _ _ _ taken _ given c.in-Ok.ensures.bytes.0,
      Appends-trans _ _ _ _ _ wrote appended,
      cut-in-front (record { ended = c.ended_lines_stay.ensures.ended; all = c.ended_lines_stay.ensures.all }) duration c.in-Ok.count _ taken c.read.new.room text rest _ (omega arith) adds few,
    )

pub returns-in-Err-Memory-end-clause-text : goal.returns-in-Err-Memory-end-clause-text
returns-in-Err-Memory-end-clause-text g c =
    let duration = c.args.session.now.engine.duration in
    let (taken, given, total, wrote, at) = c.loop-count.invariant.went in
    let same = c.in-Err-Memory-end.ensures.memory (cc c.in-Err-Memory-end.field-0-is) in (
      taken,
      ended_text duration taken,
      subst (Consumes _ _) (none-given taken c.read.new.room c.in-Ok.count c.if-count-eq0.true) (Consumes-trans _ _ _ taken _ given c.in-Ok.ensures.bytes.0),
      rw same wrote,
      cut-now (record { ended = c.ended_lines_stay.ensures.ended; all = c.ended_lines_stay.ensures.all }) duration taken _,
    )

pub returns-in-Err-Write-end-clause-text : goal.returns-in-Err-Write-end-clause-text
returns-in-Err-Write-end-clause-text g c =
    let duration = c.args.session.now.engine.duration in
    let (taken, given, total, wrote, at) = c.loop-count.invariant.went in
    let (rose, each) = c.in-Err-Write-end.ensures.write (cc c.in-Err-Write-end.field-0-is) in
    let (text, rest, adds, appended) = each duration taken at in
    let ended = c.in-Ok.ensures.bytes.1 c.if-count-eq0.true (omega (arith, c.requires.some, c.read.auto.room, c.loop-count.auto.room)) in (
      taken,
      ended_text duration taken ++ text,
      subst (Consumes _ _) (none-given taken c.read.new.room c.in-Ok.count c.if-count-eq0.true) (Consumes-trans _ _ _ taken _ given c.in-Ok.ensures.bytes.0),
      Appends-trans _ _ _ _ _ wrote appended,
      cut-in-last (record { ended = c.ended_lines_stay.ensures.ended; all = c.ended_lines_stay.ensures.all }) duration taken text rest _ ended adds,
    )

pub returns-then-has_refused-clause-text : goal.returns-then-has_refused-clause-text
returns-then-has_refused-clause-text g c =
    let duration = c.args.session.now.engine.duration in
    let (taken, given, total, wrote, at) = c.loop-count.invariant.went in
    let (flag, more) = c.in-Ok-end.ensures.ok duration taken at in
    let (text, adds, appended) = more in
    let ended = c.in-Ok.ensures.bytes.1 c.if-count-eq0.true (omega (arith, c.requires.some, c.read.auto.room, c.loop-count.auto.room)) in (
      taken,
      ended_text duration taken ++ text,
      subst (Consumes _ _) (none-given taken c.read.new.room c.in-Ok.count c.if-count-eq0.true) (Consumes-trans _ _ _ taken _ given c.in-Ok.ensures.bytes.0),
      Appends-trans _ _ _ _ _ wrote appended,
      record { ended = ended; within = omega (arith, total, c.loop-count.invariant.within); text = sym adds; refused_is = sym flag ∙ sym (c.if-has_refused.ensures) },
    )

pub returns-else-has_refused-clause-text : goal.returns-else-has_refused-clause-text
returns-else-has_refused-clause-text g c =
    let duration = c.args.session.now.engine.duration in
    let (taken, given, total, wrote, at) = c.loop-count.invariant.went in
    let (flag, more) = c.in-Ok-end.ensures.ok duration taken at in
    let (text, adds, appended) = more in
    let ended = c.in-Ok.ensures.bytes.1 c.if-count-eq0.true (omega (arith, c.requires.some, c.read.auto.room, c.loop-count.auto.room)) in (
      taken,
      ended_text duration taken ++ text,
      subst (Consumes _ _) (none-given taken c.read.new.room c.in-Ok.count c.if-count-eq0.true) (Consumes-trans _ _ _ taken _ given c.in-Ok.ensures.bytes.0),
      Appends-trans _ _ _ _ _ wrote appended,
      record { ended = ended; within = omega (arith, total, c.loop-count.invariant.within); text = sym adds; refused_is = sym flag ∙ sym (c.if-has_refused.ensures) },
    )
