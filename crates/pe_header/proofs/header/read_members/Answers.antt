use Rattle.std.proofs.Common.{◌≡◌, ℕ, ◌+◌, ◌-◌, List, ◌∷◌, length, drop, option_map, is_some, ◌||◌, bytes_eq, sym, ap, ◌∙◌, arith}
use Rattle.pe_features.specs.Features.{feature_name}
use Rattle.pe_fields.specs.declared.value.Member.{Member}
use Rattle.pe_fields.specs.Dictionary.{last_of}
use Rattle.pe_allowlist.specs.DeclaredLists.{allowlist_of, list_at}
use Rattle.pe_header.specs.DeclaredPolicy.{list_of_members}
use Rattle.pe_header.specs.Members.{seen_at, with_member}
use Rattle.pe_header.proofs.HeaderLaws.{if-ok}
use Rattle.pe_header.proofs.MemberLaws.{none-yet, seen-none, list-none, seen-more, list-more, none-taken, one-taken}
use Rattle.pe_header.proofs.header.read_members.Goals as goal

pub loop-i-init : goal.loop-i-init
loop-i-init c =
    let es = c.entries-entries.result.now in
    record {
      seen = λ f. none-yet f ∙ sym (seen-none f) ∙ ap (λ (rest : List (List ℕ × Member)). is_some (last_of rest (feature_name f))) (sym (none-taken es));
      lists = λ f. ap (option_map (allowlist_of c.args.own.now)) (c.empty-lists.ensures f) ∙ sym (list-none c.args.own.now f) ∙ ap (list_of_members c.args.own.now f) (sym (none-taken es));
    }

pub loop-i-preserved : goal.loop-i-preserved
loop-i-preserved c =
    let es = c.entries-entries.result.now in
    let i = c.loop-i.i in
    let rest = drop (length es - i) es in
    let entry = c.index-entries-entries.result in
    let taken : drop (length es - (i + 1)) es ≡ entry ∷ rest = one-taken es i entry c.loop-i-test.true c.index-entries-entries.is in
    record {
      seen = λ f. seen-more rest entry f _ _ (c.loop-i.invariant.seen f) (c.in_ok-put_member.ensures.seen f ∙ ap (λ k. seen_at c.loop-i.seen f || bytes_eq k (feature_name f)) c.as_slice.ensures) ∙ ap (λ (l : List (List ℕ × Member)). is_some (last_of l (feature_name f))) (sym taken);
      lists = λ f. list-more c.args.own.now rest entry f _ _ _ (c.loop-i.invariant.seen f) (c.loop-i.invariant.lists f)
          (c.in_ok-put_member.ensures.list c.args.own.now f ∙ ap (λ k. with_member c.args.own.now f (seen_at c.loop-i.seen f) k entry.1 (option_map (allowlist_of c.args.own.now) (list_at c.loop-i.lists f))) c.as_slice.ensures) ∙ ap (list_of_members c.args.own.now f) (sym taken);
    }

pub returns : goal.returns
returns c =
    let es = c.entries-entries.result.now in
    let none_left : length es - c.loop-i.i ≡ 0 = omega (arith, c.loop-i-test.false) in
    let all : drop (length es - c.loop-i.i) es ≡ c.args.members.now = ap (λ k. drop k es) none_left ∙ c.entries-entries.ensures in
    if-ok _ _ c.of.result (λ declared h f. h f ∙ c.loop-i.invariant.lists f ∙ ap (list_of_members c.args.own.now f) all) c.of.ensures
