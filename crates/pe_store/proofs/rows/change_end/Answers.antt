use Rattle.std.proofs.Common.{◌∙◌, sym}
use Rattle.pe_store.specs.Places.{is_moment_of, is_page_of}
use Rattle.pe_store.proofs.Endings.{apart-moments, apart-pages, changes-alike, changes-apart}
use Rattle.pe_store.proofs.rows.change_end.Goals as goal

pub returns-then-not-ends_alike-clause-moments : goal.returns-then-not-ends_alike-clause-moments
returns-then-not-ends_alike-clause-moments c =
    changes-apart is_moment_of c.args.old.now c.args.new.now c.args.place c.args.endings.now.moments.keys c.put_end.new.endings.moments.keys c.drop_end.new.endings.moments.keys
    (apart-moments c.args.old.now c.args.new.now (sym c.ends_alike.ensures ∙ c.if-not-ends_alike.true)) c.in_ok-put_end.ensures.moments c.drop_end.ensures.moments

pub returns-then-not-ends_alike-clause-pages : goal.returns-then-not-ends_alike-clause-pages
returns-then-not-ends_alike-clause-pages c =
    changes-apart is_page_of c.args.old.now c.args.new.now c.args.place c.args.endings.now.pages.keys c.put_end.new.endings.pages.keys c.drop_end.new.endings.pages.keys
    (apart-pages c.args.old.now c.args.new.now (sym c.ends_alike.ensures ∙ c.if-not-ends_alike.true)) c.in_ok-put_end.ensures.pages c.drop_end.ensures.pages

pub returns-else-not-ends_alike-clause-moments : goal.returns-else-not-ends_alike-clause-moments
returns-else-not-ends_alike-clause-moments c =
    changes-alike is_moment_of c.args.old.now c.args.new.now c.args.place c.args.endings.now.moments.keys c.put_end.new.endings.moments.keys
    (sym c.ends_alike.ensures ∙ c.if-not-ends_alike.false) c.in_ok-put_end.ensures.moments

pub returns-else-not-ends_alike-clause-pages : goal.returns-else-not-ends_alike-clause-pages
returns-else-not-ends_alike-clause-pages c =
    changes-alike is_page_of c.args.old.now c.args.new.now c.args.place c.args.endings.now.pages.keys c.put_end.new.endings.pages.keys
    (sym c.ends_alike.ensures ∙ c.if-not-ends_alike.false) c.in_ok-put_end.ensures.pages
