use Rattle.std.proofs.Common.{◌≡◌, ℕ, ◌+◌, ◌*◌, ◌/◌, ◌%◌, ◌++◌, OnOk, sym, subst}
use Rattle.std.specs.Prelude.{codes, decimal}
use Rattle.pe_generator.specs.Generated.{state_set, words_of}
use Rattle.pe_generator.proofs.Joined.{one_piece, two_pieces, three_pieces, named_pieces}
use Rattle.pe_generator.proofs.lines.put_words.Goals as goal

pub returns-in-1 : goal.returns-in-1
unfolding words_of
returns-in-1 c =
    let put = one_piece c.put_between.result c.put_between.new.out.items c.args.out.now.items
    (codes "open https://a") (decimal (c.args.v % 8)) (codes ".example/ header \"camera=(self), payment=*\"") c.put_between.ensures in
    subst (λ (place : ℕ). OnOk c.put_between.result (c.put_between.new.out.items ≡ c.args.out.now.items ++ words_of place c.args.block c.args.v)) (sym c.in-1.is) put

pub returns-in_ok-put_between-in-2 : goal.returns-in_ok-put_between-in-2
unfolding words_of
returns-in_ok-put_between-in-2 c =
    let put = two_pieces c.put_ended.result c.put_ended.new.out.items c.put_between-in-2.new.out.items c.args.out.now.items
    (codes "embed f") (decimal (16 * c.args.block + 1)) (codes " https://e") (decimal c.args.block) (codes ".example/ allow \"payment; geolocation\"")
    c.in_ok-put_between-in-2.ensures c.put_ended.ensures in
    subst (λ (place : ℕ). OnOk c.put_ended.result (c.put_ended.new.out.items ≡ c.args.out.now.items ++ words_of place c.args.block c.args.v)) (sym c.in-2.is) put

pub returns-in_ok-put_ended-in-7 : goal.returns-in_ok-put_ended-in-7
unfolding words_of
returns-in_ok-put_ended-in-7 c =
    let put = three_pieces c.put_ended-in-7-2.result c.put_ended-in-7-2.new.out.items c.put_ended-in-7.new.out.items c.put_between-in-7.new.out.items c.args.out.now.items
    (codes "post f") (decimal (16 * c.args.block + 1)) (codes " f") (decimal (16 * c.args.block + 2)) (codes " https://e") (decimal c.args.block) (codes ".example payment")
    c.in_ok-put_between-in-7.ensures c.in_ok-put_ended-in-7.ensures c.put_ended-in-7-2.ensures in
    subst (λ (place : ℕ). OnOk c.put_ended-in-7-2.result (c.put_ended-in-7-2.new.out.items ≡ c.args.out.now.items ++ words_of place c.args.block c.args.v)) (sym c.in-7.is) put

pub returns-in_ok-put_state-in-8 : goal.returns-in_ok-put_state-in-8
unfolding words_of
returns-in_ok-put_state-in-8 c =
    let put = named_pieces c.put_numbered.result c.put_numbered.new.out.items c.put_state.new.out.items c.put_between-in-8.new.out.items c.args.out.now.items
    (codes "set geolocation https://a") (decimal (c.args.v % 8)) (codes ".example ") (state_set c.args.v) (codes " for ") (decimal (1 + c.args.v / 24 % 2000))
    c.in_ok-put_between-in-8.ensures c.in_ok-put_state-in-8.ensures c.put_numbered.ensures in
    subst (λ (place : ℕ). OnOk c.put_numbered.result (c.put_numbered.new.out.items ≡ c.args.out.now.items ++ words_of place c.args.block c.args.v)) (sym c.in-8.is) put

pub returns-in_ok-put_between-in-13 : goal.returns-in_ok-put_between-in-13
unfolding words_of
returns-in_ok-put_between-in-13 c =
    let put = two_pieces c.put_ended-in-13.result c.put_ended-in-13.new.out.items c.put_between-in-13.new.out.items c.args.out.now.items
    (codes "nav f") (decimal (16 * c.args.block + 2)) (codes " https://a") (decimal (c.args.v % 8)) (codes ".example/")
    c.in_ok-put_between-in-13.ensures c.put_ended-in-13.ensures in
    subst (λ (place : ℕ). OnOk c.put_ended-in-13.result (c.put_ended-in-13.new.out.items ≡ c.args.out.now.items ++ words_of place c.args.block c.args.v)) (sym c.in-13.is) put
