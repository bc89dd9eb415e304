use Rattle.pe_store.specs.Places.{is_moment_of, is_page_of}
use Rattle.pe_store.proofs.Endings.{drops-none, drops-moment, drops-page, no-moment-forever, no-page-forever, no-moment-page, no-page-until}
use Rattle.pe_store.proofs.place.drop_end.Goals as goal

pub returns-in-Forever-clause-moments : goal.returns-in-Forever-clause-moments
returns-in-Forever-clause-moments c =
    drops-none is_moment_of c.args.life c.args.place c.args.endings.now.moments.keys (λ n. no-moment-forever c.args.life n c.in-Forever.is)

pub returns-in-Forever-clause-pages : goal.returns-in-Forever-clause-pages
returns-in-Forever-clause-pages c =
    drops-none is_page_of c.args.life c.args.place c.args.endings.now.pages.keys (λ n. no-page-forever c.args.life n c.in-Forever.is)

pub returns-in-Until-clause-moments : goal.returns-in-Until-clause-moments
returns-in-Until-clause-moments c =
    drops-moment c.args.life c.args.place c.in-Until.moment c.args.endings.now.moments.keys c.drop_one.new.endings.keys c.in-Until.is c.drop_one.ensures

pub returns-in-Until-clause-pages : goal.returns-in-Until-clause-pages
returns-in-Until-clause-pages c =
    drops-none is_page_of c.args.life c.args.place c.args.endings.now.pages.keys (λ n. no-page-until c.args.life n c.in-Until.moment c.in-Until.is)

pub returns-in-Page-clause-moments : goal.returns-in-Page-clause-moments
returns-in-Page-clause-moments c =
    drops-none is_moment_of c.args.life c.args.place c.args.endings.now.moments.keys (λ n. no-moment-page c.args.life n c.in-Page.page c.in-Page.is)

pub returns-in-Page-clause-pages : goal.returns-in-Page-clause-pages
returns-in-Page-clause-pages c =
    drops-page c.args.life c.args.place c.get.result c.in-Page.page c.args.endings.now.pages.keys c.drop_one-in-Page.new.endings.keys c.in-Page.is c.get.ensures.value c.drop_one-in-Page.ensures
