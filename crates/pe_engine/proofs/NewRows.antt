-- The row of a new document says of it what the definitions say.
use Rattle.std.proofs.Common.{◌≡◌, ◌≢◌, ℕ, suc, ◌≤◌, Bool, true, false, ◌||◌, List, [], ◌∷◌, ◌++◌, length, map, Option, Some, None, unwrap_or, option_map, refl, sym, ◌∙◌, ap, subst, arith, if◌then◌else◌}
use Rattle.std.proofs.lemmas.List.{map-append}
use Rattle.pe_features.specs.declared.feature.Feature.{Feature}
use Rattle.pe_origin.specs.declared.origin.Origin.{Origin}
use Rattle.pe_origin.specs.declared.place.Place.{Place}
use Rattle.pe_origin.specs.Trust.{is_trustworthy}
use Rattle.pe_store.specs.declared.key.Key.TheVariants as key
use Rattle.pe_allowlist.specs.Lists.{lists_of}
use Rattle.pe_allowlist.specs.ContainerPolicy.{container_policy}
use Rattle.pe_allowlist.specs.declared.allowlist.Allowlist.{Allowlist}
use Rattle.pe_header.specs.DeclaredPolicy.{declared_policy}
use Rattle.pe_policy.specs.Links.{ChainDocument, end_of_chain}
use Rattle.pe_policy.specs.PolicyValue.{IsDocument}
use Rattle.pe_rules.specs.History.{Step, RepliedHistory}
use Rattle.pe_rules.specs.Attributes as rules
use Rattle.pe_rules.specs.Making.{Making, making_by}
use Rattle.pe_rules.specs.Embedders.{chain, top_document}
use Rattle.pe_rules.specs.Origins.{origin_of, is_secure, sandbox_flag, origin_of_place, place_or_none, is_blank_kind, declared_origin}
use Rattle.pe_rules.specs.Denials.{declared_policy_in, container_in, container_policy_in, chain_document, chain_documents}
use Rattle.pe_laws.specs.HistoryLaws.{HistoryLaws}
use Rattle.pe_engine.specs.declared.row.Attributes.{Attributes}
use Rattle.pe_engine.specs.declared.row.Row.{Row}
use Rattle.pe_engine.specs.Rows.{top_origin, IsSettled, kept_attributes}
use Rattle.pe_engine.specs.Making.{top_of, child_origin, kept_declared, IsLinkOf, IsContainedBy, IsTopRow, IsChildRow}
use Rattle.pe_engine.proofs.TopDocuments.{top-is, secure-top, top-origin-child, secure-child}

-- a link with this header has the declared policy that is read from it
pub is-document : (link : ChainDocument) (number document : ℕ) (o : Origin) (header : Option (List ℕ)) (declared : List (Feature × Allowlist)) → document ≡ number
    → ((f : Feature) → lists_of declared f ≡ declared_policy header o f) → IsLinkOf link number o header → IsDocument link document o declared
is-document link number document o header declared same read w = record {
  numbered = w.numbered ∙ sym same;
  of_origin = w.of_origin;
  declares = λ f. w.declares f ∙ sym (read f);
}

either-way : {A : Type 0} (b : Bool) (x : A) → (if b then x else x) ≡ x
either-way true x = refl
either-way false x = refl

last-append : (top : ChainDocument) (rest : List ChainDocument) (child : ChainDocument) → end_of_chain top (rest ++ child ∷ []) ≡ child
last-append top [] child = refl
last-append top (next ∷ rest) child = last-append next rest child

of-chain : (U : RepliedHistory) (k : ℕ) (ds : List ℕ) → chain U k ≡ ds ++ k ∷ [] → chain_documents U k ≡ map (chain_document U) ds ++ chain_document U k ∷ []
unfolding chain_documents
of-chain U k ds e = rw e (map-append (chain_document U) ds (k ∷ []))

of-older : (U : RepliedHistory) (k : ℕ) (ds : List ℕ) → chain U k ≡ ds → chain_documents U k ≡ map (chain_document U) ds
unfolding chain_documents
of-older U k ds e = rw e refl

-- what `src` gives is what its place gives
declared-kept : (a : rules.Attributes) (flag : Bool) (embedder : Origin) → kept_declared (kept_attributes a) flag embedder ≡ declared_origin a flag embedder
unfolding declared_origin
declared-kept a flag embedder = by_src a.src
  where
    by_src : (src : Option (List ℕ)) → kept_declared (kept_attributes (record a { src = src })) flag embedder ≡ declared_origin (record a { src = src }) flag embedder
    by_src None = refl
    by_src (Some url) = refl

module _ (laws : HistoryLaws) where
  -- the link of a document that was made last
  link-new : (s : Step) (T : RepliedHistory) (m : Making) (o : Origin) → making_by s.event T ≡ Some m → origin_of (s ∷ T) (suc (length T)) ≡ o
      → IsLinkOf (chain_document (s ∷ T) (suc (length T))) (suc (length T)) o m.header
  unfolding chain_document declared_policy_in
  link-new s T m o e is = record {
    numbered = refl;
    of_origin = is;
    declares = λ f. rw (laws.making.making_newest s T, e, is) refl;
  }

  container-new : (s : Step) (T : RepliedHistory) (m : Making) (p : ℕ) (f : Feature) → making_by s.event T ≡ Some m → m.embedder ≡ Some p → p ≤ length T
      → (chain_document (s ∷ T) (suc (length T))).container f ≡ container_policy m.attributes.allow m.attributes.fullscreen (origin_of T p) (declared_origin m.attributes (sandbox_flag T p) (origin_of T p)) f
  unfolding chain_document container_policy_in container_in
  container-new s T m p f e is le =
      let ne : p ≢ suc (length T) = omega arith in
      rw (laws.making.making_newest s T, e, is, laws.origins.origin_of_older s T p ne, laws.origins.sandbox_flag_older s T p ne) refl

  -- ---- a top document

  pub chain-top : (s : Step) (T : RepliedHistory) (m : Making) → making_by s.event T ≡ Some m → m.embedder ≡ None → chain (s ∷ T) (suc (length T)) ≡ suc (length T) ∷ []
  chain-top s T m e top = laws.embedders.chain_newest s T m e ∙ ap (λ o. unwrap_or (option_map (chain T) o) [] ++ suc (length T) ∷ []) top

  flag-top : (s : Step) (T : RepliedHistory) (m : Making) → making_by s.event T ≡ Some m → m.embedder ≡ None → sandbox_flag (s ∷ T) (suc (length T)) ≡ false
  flag-top s T m e top = laws.origins.sandbox_flag_newest s T m e ∙ rw top refl

  origin-top : (s : Step) (T : RepliedHistory) (m : Making) → making_by s.event T ≡ Some m → m.embedder ≡ None → origin_of (s ∷ T) (suc (length T)) ≡ origin_of_place (suc (length T)) (place_or_none m.url)
  origin-top s T m e top =
      laws.origins.origin_of_newest s T m e
      ∙ rw (flag-top s T m e top, top) (either-way (m.srcdoc || is_blank_kind (place_or_none m.url).kind) (origin_of_place (suc (length T)) (place_or_none m.url)))

  pub settled-top : (s : Step) (T : RepliedHistory) (m : Making) (number : ℕ) (place : Place) (x : Row) → making_by s.event T ≡ Some m → m.embedder ≡ None
      → number ≡ suc (length T) → place_or_none m.url ≡ place → IsTopRow number place m.header x → IsSettled (s ∷ T) x
  settled-top s T m number place x e top at named is =
      let k = suc (length T) in
      let doc : x.doc ≡ k = is.new.doc ∙ at in
      let tops : top_document (s ∷ T) k ≡ k = top-is (s ∷ T) k k [] (chain-top s T m e top) in
      let own : origin_of (s ∷ T) k ≡ x.origin = origin-top s T m e top ∙ ap (origin_of_place k) named ∙ ap (λ n. origin_of_place n place) (sym at) ∙ sym is.origin in
      record {
        origin = sym own ∙ ap (origin_of (s ∷ T)) (sym doc);
        sandboxed = is.sandboxed ∙ sym (flag-top s T m e top) ∙ ap (sandbox_flag (s ∷ T)) (sym doc);
        secure = is.secure ∙ ap is_trustworthy (sym named) ∙ sym (secure-top (s ∷ T) k m tops (laws.making.making_newest s T ∙ e)) ∙ ap (is_secure (s ∷ T)) (sym doc);
        single = is.single ∙ ap key.One (sym own ∙ ap (origin_of (s ∷ T)) (sym tops) ∙ ap (top_origin (s ∷ T)) (sym doc));
        pair = is.pair ∙ ap (λ o. key.Pair o x.origin) (sym own ∙ ap (origin_of (s ∷ T)) (sym tops) ∙ ap (top_origin (s ∷ T)) (sym doc)) ∙ ap (key.Pair (top_origin (s ∷ T) x.doc)) (sym own ∙ ap (origin_of (s ∷ T)) (sym doc));
        policy = record {
          top = chain_document (s ∷ T) k;
          rest = [];
          chained = ap (chain_documents (s ∷ T)) doc ∙ of-chain (s ∷ T) k [] (chain-top s T m e top);
          last = ap (chain_document (s ∷ T)) (sym doc);
          stands = is.policy (chain_document (s ∷ T) k) (subst (λ n. IsLinkOf (chain_document (s ∷ T) k) n x.origin m.header) (sym at) (link-new s T m x.origin e own));
        };
      }

  -- ---- an embedded document

  pub settled-child : (s : Step) (T : RepliedHistory) (m : Making) (number : ℕ) (place : Place) (a : Attributes) (up x : Row) → making_by s.event T ≡ Some m → m.embedder ≡ Some up.doc → up.doc ≤ length T → IsSettled T up
      → number ≡ suc (length T) → place_or_none m.url ≡ place → a ≡ kept_attributes m.attributes → IsChildRow up number place m.srcdoc m.header a x → IsSettled (s ∷ T) x
  unfolding chain_document
  settled-child s T m number place a up x e is_up le above at named given is =
      record {
        origin = sym own ∙ ap (origin_of (s ∷ T)) (sym doc);
        sandboxed = flag ∙ ap (sandbox_flag (s ∷ T)) (sym doc);
        secure = is.secure ∙ above.secure ∙ sym (secure-child laws s T m up.doc above.policy.top above.policy.rest le e is_up above.policy.chained) ∙ ap (is_secure (s ∷ T)) (sym doc);
        single = is.single ∙ above.single ∙ ap key.One tops;
        pair = is.pair ∙ ap (λ k. key.Pair (top_of k) x.origin) above.single ∙ ap (λ o. key.Pair o x.origin) tops ∙ ap (key.Pair (top_origin (s ∷ T) x.doc)) (sym own ∙ ap (origin_of (s ∷ T)) (sym doc));
        policy = record {
          top = above.policy.top;
          rest = above.policy.rest ++ link ∷ [];
          chained = ap (chain_documents (s ∷ T)) doc ∙ links;
          last = last-append above.policy.top above.policy.rest link ∙ ap (chain_document (s ∷ T)) (sym doc);
          stands = is.policy above.policy.top above.policy.rest link above.policy.stands (last_origin ∙ sym above.origin)
              (subst (λ n. IsLinkOf link n x.origin m.header) (sym at) (link-new s T m x.origin e own)) contained;
        };
      }
    where
      k : ℕ
      k = suc (length T)

      doc : x.doc ≡ k
      doc = is.new.doc ∙ at

      link : ChainDocument
      link = chain_document (s ∷ T) k

      flag : x.sandboxed ≡ sandbox_flag (s ∷ T) k
      flag = is.sandboxed ∙ sym (laws.origins.sandbox_flag_newest s T m e ∙ rw (is_up, given, above.sandboxed) refl)

      own : origin_of (s ∷ T) k ≡ x.origin
      own = laws.origins.origin_of_newest s T m e ∙ rw (is_up, named, sym flag, sym above.origin) (ap (λ n. child_origin x.sandboxed up.origin n place m.srcdoc) (sym at) ∙ sym is.origin)

      tops : top_origin T up.doc ≡ top_origin (s ∷ T) x.doc
      tops = sym (top-origin-child laws s T m up.doc above.policy.top above.policy.rest e is_up above.policy.chained) ∙ ap (top_origin (s ∷ T)) (sym doc)

      last_origin : (end_of_chain above.policy.top above.policy.rest).origin ≡ origin_of T up.doc
      last_origin = ap (λ (l : ChainDocument). l.origin) above.policy.last

      links : chain_documents (s ∷ T) k ≡ (above.policy.top ∷ above.policy.rest) ++ link ∷ []
      links =
          of-chain (s ∷ T) k (chain T up.doc) (laws.embedders.chain_newest s T m e ∙ ap (λ o. unwrap_or (option_map (chain T) o) [] ++ k ∷ []) is_up)
          ∙ ap (λ l. l ++ link ∷ []) (sym (of-older (s ∷ T) up.doc (chain T up.doc) (laws.embedders.chain_older s T up.doc (not_k up.doc le))) ∙ laws.denials.links_older s T up.doc le ∙ above.policy.chained)
        where
          not_k : (p : ℕ) → p ≤ length T → p ≢ suc (length T)
          not_k p le e = absurd (omega arith)

      contained : IsContainedBy link a up
      contained f = container-new s T m up.doc f e is_up le
          ∙ rw (given, above.origin, above.sandboxed) (ap (λ d. container_policy m.attributes.allow m.attributes.fullscreen (origin_of T up.doc) d f) (sym (declared-kept m.attributes (sandbox_flag T up.doc) (origin_of T up.doc))))
