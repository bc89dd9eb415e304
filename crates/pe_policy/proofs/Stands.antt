-- The row of a child, made from its embedder's, is what the tests along the links say.
use Rattle.std.proofs.Common.{◌≡◌, ◌↔◌, ℕ, Bool, true, false, cond, IsTrue, IsFalse, List, [], ◌∷◌, ◌++◌, Option, Some, None, refl, sym, ◌∙◌, ap, slice_index_or}
use Rattle.std.specs.Option.{option_or, option_map}
use Rattle.pe_base.specs.declared.denial.LinkRule.{LinkRule}
use Rattle.pe_base.specs.declared.denial.LinkRule.TheVariants.{EmbedderSelf, EmbedderHeader, Allow, Default, OwnHeader}
use Rattle.pe_base.specs.declared.denial.Denial.{Denial}
use Rattle.pe_features.specs.declared.feature.Feature.{Feature}
use Rattle.pe_features.specs.Features.{feature_number}
use Rattle.pe_origin.specs.declared.origin.Origin.{Origin}
use Rattle.pe_allowlist.specs.declared.allowlist.Allowlist.{Allowlist}
use Rattle.pe_allowlist.specs.Lists.{lists_of, is_policy_controlled}
use Rattle.pe_policy.specs.declared.row.Links.{Links}
use Rattle.pe_policy.specs.Links.{ChainDocument, end_of_chain, fails_embedder_self, fails_embedder_header, fails_allow, fails_default, fails_own_header, denied_where, pair_test, own_test}
use Rattle.pe_policy.specs.Denials.{first_failing, denial}
use Rattle.pe_policy.specs.InheritedPolicy.{value_for}
use Rattle.pe_policy.specs.PolicyValue.{Row, no_links, allowed_row, failing_at_top, failing_at_child, failing_at, denial_by, denial_below, top_row, child_row, PolicyValue, row_of, link_of, IsDocument, IsContained, IsPolicyOf, pair_rule, own_rule}
use Rattle.pe_policy.proofs.Values.{denial-value}

-- ---- the last link, and the tests along a longer list

last-append : (top : ChainDocument) (rest : List ChainDocument) (child : ChainDocument) → end_of_chain top (rest ++ child ∷ []) ≡ child
last-append top [] child = refl
last-append top (next ∷ rest) child = last-append next rest child

-- the tests below an embedder, without that of its own header
abbrev below : Feature → ChainDocument → ChainDocument → Option Denial
below f p c =
    option_or (denied_where (fails_embedder_header f p c) EmbedderHeader p.document)
    (option_or (denied_where (fails_allow f c) Allow c.document)
    (option_or (denied_where (fails_default f p c) Default c.document)
    (own_test f c)))

below-or : (a b : Option Denial) → denial_below (option_or a b) ≡ option_or (denial_below a) (denial_below b)
below-or None b = refl
below-or (Some x) b = refl

or-assoc : (a b c : Option Denial) → option_or (option_or a b) c ≡ option_or a (option_or b c)
or-assoc None b c = refl
or-assoc (Some x) b c = refl

pair-table : (s e a d : Bool) (m n : ℕ) (o : Option Denial)
    → option_or (option_or (denied_where s EmbedderSelf m) (option_or (denied_where e EmbedderHeader m) (option_or (denied_where a Allow n) (denied_where d Default n)))) o
    ≡ option_or (denial_below (denied_where s OwnHeader m)) (option_or (denied_where e EmbedderHeader m) (option_or (denied_where a Allow n) (option_or (denied_where d Default n) o)))
pair-table true e a d m n o = refl
pair-table false true a d m n o = refl
pair-table false false true d m n o = refl
pair-table false false false true m n o = refl
pair-table false false false false m n o = refl

same-table : (s e a d : Bool) (m n : ℕ)
    → denial_below (option_or (denied_where s EmbedderSelf m) (option_or (denied_where e EmbedderHeader m) (option_or (denied_where a Allow n) (denied_where d Default n))))
    ≡ option_or (denied_where s EmbedderSelf m) (option_or (denied_where e EmbedderHeader m) (option_or (denied_where a Allow n) (denied_where d Default n)))
same-table true e a d m n = refl
same-table false true a d m n = refl
same-table false false true d m n = refl
same-table false false false true m n = refl
same-table false false false false m n = refl

pair-kept : (f : Feature) (p c : ChainDocument) → denial_below (pair_test f p c) ≡ pair_test f p c
unfolding pair_test
pair-kept f p c = same-table _ _ _ _ _ _

first-append : (f : Feature) (l : ChainDocument) (rest : List ChainDocument) (c : ChainDocument)
    → first_failing f (l ∷ (rest ++ c ∷ [])) ≡ option_or (denial_below (first_failing f (l ∷ rest))) (below f (end_of_chain l rest) c)
unfolding first_failing pair_test own_test
first-append f l [] c = pair-table (fails_own_header f l) (fails_embedder_header f l c) (fails_allow f c) (fails_default f l c) l.document c.document (own_test f c)
first-append f l (d ∷ rest) c =
    rw (first-append f d rest c, below-or (pair_test f l d) (first_failing f (d ∷ rest)), pair-kept f l d, or-assoc (pair_test f l d) (denial_below (first_failing f (d ∷ rest))) (below f (end_of_chain d rest) c)) refl

failing-longer : (f : Feature) (l d : ChainDocument) (rest : List ChainDocument) (c : ChainDocument)
    → failing_at f (l ∷ d ∷ (rest ++ c ∷ [])) ≡ failing_at f (d ∷ (rest ++ c ∷ []))
unfolding failing_at
failing-longer f l d [] c = refl
failing-longer f l d (e ∷ rest) c = refl

failing-append : (f : Feature) (l : ChainDocument) (rest : List ChainDocument) (c : ChainDocument)
    → failing_at f (l ∷ (rest ++ c ∷ [])) ≡ failing_at_child f (end_of_chain l rest) c
unfolding failing_at
failing-append f l [] c = refl
failing-append f l (d ∷ rest) c = failing-longer f l d rest c ∙ failing-append f d rest c

-- ---- links that a policy's parts describe

top-same : (f : Feature) (link : ChainDocument) (d : ℕ) (o : Origin) (declared : List (Feature × Allowlist)) → IsDocument link d o declared
    → failing_at_top f (link_of 0 o declared []) ≡ failing_at_top f link
top-same f link d o declared h = rw (← h.declares f, ← h.of_origin) refl

child-same : (f : Feature) (p c : ChainDocument) (po o : Origin) (parent declared container : List (Feature × Allowlist)) (m n : ℕ)
    → IsDocument p m po parent → IsDocument c n o declared → IsContained c container
    → failing_at_child f (link_of 0 po parent []) (link_of 0 o declared container) ≡ failing_at_child f p c
child-same f p c po o parent declared container m n hp hc k =
    rw (← hp.declares f, ← hp.of_origin, ← hc.declares f, ← hc.of_origin, ← k f) refl

-- ---- a top document

top-denial : (f : Feature) (top : ChainDocument) → denied_where (failing_at_top f top).own_header OwnHeader top.document ≡ denial f (top ∷ [])
unfolding denial first_failing own_test
top-denial f top = by_control (is_policy_controlled f)
  where
    by_control : (b : Bool) → denied_where (cond b (record no_links { own_header = fails_own_header f top }) no_links).own_header OwnHeader top.document ≡ cond b (denied_where (fails_own_header f top) OwnHeader top.document) None
    by_control true = refl
    by_control false = refl

pub stands-top : (policy : PolicyValue) (doc : ℕ) (o : Origin) → policy.document ≡ doc
    → ((f : Feature) → row_of policy f ≡ top_row (failing_at_top f (link_of 0 o policy.declared [])) doc)
    → (top : ChainDocument) → IsDocument top doc o policy.declared → IsPolicyOf policy top []
unfolding failing_at
stands-top policy doc o hd hr top h = record {
  numbered = h.numbered ∙ sym hd;
  declares = h.declares;
  denies = λ f. ap (λ (r : Row). r.denial) (hr f) ∙ rw (top-same f top doc o policy.declared h, ← h.numbered) (top-denial f top);
  fails = λ f. ap (λ (r : Row). r.links) (hr f) ∙ top-same f top doc o policy.declared h;
}

-- ---- a child

child-denial : (f : Feature) (top : ChainDocument) (rest : List ChainDocument) (c : ChainDocument)
    → option_or (denial_below (denial f (top ∷ rest))) (denial_by (failing_at_child f (end_of_chain top rest) c) (end_of_chain top rest).document c.document)
    ≡ denial f (top ∷ (rest ++ c ∷ []))
unfolding denial own_test
child-denial f top rest c = rw (first-append f top rest c) (by_control (is_policy_controlled f))
  where
    p : ChainDocument
    p = end_of_chain top rest

    by_control : (b : Bool) → option_or (denial_below (cond b (first_failing f (top ∷ rest)) None)) (denial_by (cond b (record { embedder_header = fails_embedder_header f (end_of_chain top rest) c; allow = fails_allow f c; by_default = fails_default f (end_of_chain top rest) c; own_header = fails_own_header f c }) no_links) (end_of_chain top rest).document c.document)
        ≡ cond b (option_or (denial_below (first_failing f (top ∷ rest))) (below f (end_of_chain top rest) c)) None
    by_control true = unfold own_test in refl
    by_control false = refl

pub stands-child : (parent policy : PolicyValue) (doc : ℕ) (po o : Origin) (container : List (Feature × Allowlist)) → policy.document ≡ doc
    → ((f : Feature) → row_of policy f ≡ child_row (row_of parent f).denial (failing_at_child f (link_of 0 po parent.declared []) (link_of 0 o policy.declared container)) parent.document doc)
    → (top : ChainDocument) (rest : List ChainDocument) (child : ChainDocument) → IsPolicyOf parent top rest → (end_of_chain top rest).origin ≡ po
    → IsDocument child doc o policy.declared → IsContained child container → IsPolicyOf policy top (rest ++ child ∷ [])
stands-child parent policy doc po o container hd hr top rest child hp ho hc hk = record {
  numbered = rw (last-append top rest child) (hc.numbered ∙ sym hd);
  declares = rw (last-append top rest child) hc.declares;
  denies = λ f. ap (λ (r : Row). r.denial) (hr f) ∙ rw (hp.denies f, same f, ← hp.numbered, ← hc.numbered) (child-denial f top rest child);
  fails = λ f. ap (λ (r : Row). r.links) (hr f) ∙ same f ∙ sym (failing-append f top rest child);
}
  where
    embedder : IsDocument (end_of_chain top rest) parent.document po parent.declared
    embedder = record { numbered = hp.numbered; of_origin = ho; declares = hp.declares }

    same : (f : Feature) → failing_at_child f (link_of 0 po parent.declared []) (link_of 0 o policy.declared container) ≡ failing_at_child f (end_of_chain top rest) child
    same f = child-same f (end_of_chain top rest) child po o parent.declared policy.declared container parent.document doc embedder hc hk

pub child_row-same : (a b : Option Denial) (l k : Links) (m n d : ℕ) → a ≡ b → l ≡ k → m ≡ n → child_row a l m d ≡ child_row b k n d
child_row-same a b l k m n d ha hl hm = rw (ha, hl, hm) refl

pub row_of-same : (policy other : PolicyValue) (f : Feature) (row : Row) → slice_index_or policy.rows (feature_number f) allowed_row ≡ row → policy ≡ other → row_of other f ≡ row
unfolding row_of
row_of-same policy other f row h e = rw (← e) h

-- the row of a feature that is not policy-controlled
pub uncontrolled-child : (f : Feature) (above row : Row) (p c : ChainDocument) (m n : ℕ) → IsFalse (is_policy_controlled f)
    → above ≡ allowed_row → row ≡ child_row above.denial (failing_at_child f p c) m n → row ≡ allowed_row
uncontrolled-child f above row p c m n h k e = e ∙ rw (k, h) refl

-- ---- what is read from a policy

pub denial-first : (policy : PolicyValue) (f : Feature) (r : Option Denial) → r ≡ (row_of policy f).denial
    → (top : ChainDocument) (rest : List ChainDocument) → IsPolicyOf policy top rest → r ≡ denial f (top ∷ rest)
denial-first policy f r h top rest k = h ∙ k.denies f

pub denial-by-value : (policy : PolicyValue) (f : Feature) (r : Option Denial) → r ≡ (row_of policy f).denial
    → (top : ChainDocument) (rest : List ChainDocument) → IsPolicyOf policy top rest → IsTrue (is_policy_controlled f)
    → (r ≡ None) ↔ (value_for f (top ∷ rest) (end_of_chain top rest).origin ≡ true)
denial-by-value policy f r h top rest k controlled = rw (denial-first policy f r h top rest k) (denial-value f top rest controlled)

pub links-exact : (policy : PolicyValue) (f : Feature) (r : Links) → r ≡ (row_of policy f).links
    → (top : ChainDocument) (rest : List ChainDocument) → IsPolicyOf policy top rest → r ≡ failing_at f (top ∷ rest)
links-exact policy f r h top rest k = h ∙ k.fails f

-- ---- the rules of the tests

abbrev first_rule : Bool → Bool → Bool → Bool → Option LinkRule
first_rule s e a d = cond s (Some EmbedderSelf) (cond e (Some EmbedderHeader) (cond a (Some Allow) (cond d (Some Default) None)))

rule-table : (s e a d : Bool) (m n : ℕ)
    → option_map (λ (x : Denial). x.rule) (option_or (denied_where s EmbedderSelf m) (option_or (denied_where e EmbedderHeader m) (option_or (denied_where a Allow n) (denied_where d Default n))))
    ≡ first_rule s e a d
rule-table true e a d m n = refl
rule-table false true a d m n = refl
rule-table false false true d m n = refl
rule-table false false false true m n = refl
rule-table false false false false m n = refl

pair-rules : (f : Feature) (p c : ChainDocument) → option_map (λ (x : Denial). x.rule) (pair_test f p c) ≡ first_rule (fails_embedder_self f p) (fails_embedder_header f p c) (fails_allow f c) (fails_default f p c)
unfolding pair_test
pair-rules f p c = rule-table _ _ _ _ _ _

pub pair-rule-same : (f : Feature) (p c : ChainDocument) (po o : Origin) (parent container : List (Feature × Allowlist))
    → p.origin ≡ po → ((f : Feature) → p.declared f ≡ lists_of parent f) → c.origin ≡ o → ((f : Feature) → c.container f ≡ lists_of container f)
    → pair_rule f (link_of 0 po parent []) (link_of 0 o [] container) ≡ pair_rule f p c
pair-rule-same f p c po o parent container ho hd ko kd =
    rw (pair-rules f (link_of 0 po parent []) (link_of 0 o [] container), pair-rules f p c, ← hd f, ← ho, ← kd f, ← ko) refl

own-rules : (f : Feature) (l : ChainDocument) → option_map (λ (x : Denial). x.rule) (own_test f l) ≡ cond (fails_own_header f l) (Some OwnHeader) None
unfolding own_test
own-rules f l = by_test (fails_own_header f l)
  where
    by_test : (b : Bool) → option_map (λ (x : Denial). x.rule) (denied_where b OwnHeader l.document) ≡ cond b (Some OwnHeader) None
    by_test true = refl
    by_test false = refl

pub own-rule-same : (f : Feature) (l : ChainDocument) (o : Origin) (declared : List (Feature × Allowlist))
    → l.origin ≡ o → ((f : Feature) → l.declared f ≡ lists_of declared f)
    → own_rule f (link_of 0 o declared []) ≡ own_rule f l
own-rule-same f l o declared ho hd = rw (own-rules f (link_of 0 o declared []), own-rules f l, ← hd f, ← ho) refl
