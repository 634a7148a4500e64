-- The laws: `one_path`, `one_template`, `spells_tree`.
use Rattle.std.proofs.Common.{◌≡◌, ℕ, ◌≤◌, cond, ◌==◌, List, [], ◌∷◌, ◌++◌, drop, Option, Some, None, refl, sym, ap, ◌∙◌, subst, arith, append_assoc}
use Rattle.json_text.specs.Node.{Node, null_node, truth_node, number_node, text_node, list_node, object_node, Nodes, no_nodes, node, Fields, no_fields, field, value_of, first_repeat}
use Rattle.json_text.specs.Grammar.{IsText}
use Rattle.json_text.specs.Compact.{compact_text, tree_levels}
use Rattle.json_text.proofs.OneValue.{one_value}
use Rattle.json_text.proofs.SpelledBack.{compact_spelled}
use Rattle.input_transform.specs.declared.path.Step.{Step}
use Rattle.input_transform.specs.Path.{IsPath, steps_text}
use Rattle.input_transform.specs.Names.{Scene, Source, Paths, source_named}
use Rattle.input_transform.specs.Template.{Content, null_content, truth_content, number_content, text_content, name_content, list_content, object_content, Contents, no_contents, content, Entries, no_entries, entry, parts_after, IsTemplate}
use Rattle.input_transform.specs.Filled.{filled}
use Rattle.input_transform.specs.Stored.{IsScene}
use Rattle.input_transform.specs.Letters.{Token, plain, string, name, IsToken, given, letters, AreTokens, Lettered, LetteredAll, LetteredEntries}
use Rattle.input_transform.proofs.PathLemmas.{steps_only}
use Rattle.input_transform.proofs.RewriteLemmas.{token_plain, string_only, name_only, mark_of, known_letters}
use Rattle.input_transform.proofs.GrammarLemmas.{text_there}
use Rattle.input_transform.proofs.FilledLemmas.{filled_sound}

pub one_path : (bytes : List ℕ) (a b : List Step) → IsPath bytes a → IsPath bytes b → a ≡ b
one_path bytes a b h k = steps_only (steps_text a) a b h.1 k.1 refl (let e = sym h.0 ∙ k.0 in cc)

module _ (paths : Paths) where
  -- bytes are one list of tokens
  nothing_given : (t : Token) (ts : List Token) → [] ≡ given (t ∷ ts) → ⊥
  nothing_given (plain b) ts e = cc
  nothing_given (string inside) ts e = cc
  nothing_given (name n) ts e = cc

  first_same : (t u : Token) (ts us : List Token) → IsToken paths t (given ts) → IsToken paths u (given us) → given (t ∷ ts) ≡ given (u ∷ us)
      → (t ≡ u) × (given ts ≡ given us)
  first_same (plain b) u ts us h k e =
      let p = token_plain paths b (given ts) u (given us) h.0 h.1 (e, k) in (sym p.0, p.1)
  first_same (string inside) u ts us h k e =
      let p = string_only paths (inside ++ 34 ∷ given ts) inside (given ts) u (given us) refl h
      (ap (λ x. 34 ∷ x) (sym (append_assoc inside (34 ∷ []) (given ts))) ∙ e, k) in (sym p.1, p.0)
  first_same (name n) u ts us h k e =
      let p = name_only paths (n ++ 62 ∷ given ts) n (given ts) u (given us) (mark_of n (given ts) (known_letters paths n h.0 h.1)) refl
      (ap (λ x. 60 ∷ x) (sym (append_assoc n (62 ∷ []) (given ts))) ∙ e, k) in (sym p.1, p.0)

  tokens_once : (ts us : List Token) → AreTokens paths ts → AreTokens paths us → given ts ≡ given us → ts ≡ us
  tokens_once [] [] h k e = refl
  tokens_once [] (u ∷ us) h k e = absurd (nothing_given u us e)
  tokens_once (t ∷ ts) [] h k e = absurd (nothing_given t ts (sym e))
  tokens_once (t ∷ ts) (u ∷ us) h k e =
      let p = first_same t u ts us h.0 k.0 e in let q = tokens_once ts us h.1 k.1 p.1 in let first = p.0 in cc

  -- what a node of the rewritten text gives
  abbrev name_or_null : Option Source → Content
  name_or_null None = null_content
  name_or_null (Some source) = name_content source

  abbrev text_of : List ℕ → Content
  text_of [] = null_content
  text_of (b ∷ t) = cond (b == 78) (name_or_null (source_named paths t)) (text_content (parts_after paths 0 t))

  abbrev mutual
    content_of : Node → Content
    content_of null_node = null_content
    content_of (truth_node b) = truth_content b
    content_of (number_node s) = number_content s
    content_of (text_node t) = text_of t
    content_of (list_node ns) = list_content (contents_of ns)
    content_of (object_node fs) = object_content (entries_of fs)

    contents_of : Nodes → Contents
    contents_of no_nodes = no_contents
    contents_of (node n ns) = content (content_of n) (contents_of ns)

    entries_of : Fields → Entries
    entries_of no_fields = no_entries
    entries_of (field place key n fs) = entry (drop 1 key) (content_of n) (entries_of fs)

  mutual
    lettered_of : (c : Content) (n : Node) → Lettered paths n c → content_of n ≡ c
    lettered_of null_content n e = ap content_of e
    lettered_of (truth_content b) n e = ap content_of e
    lettered_of (number_content s) n e = ap content_of e
    lettered_of (text_content parts) n (t, e, p) = ap content_of e ∙ ap text_content (sym p)
    lettered_of (name_content source) n (m, e, p) = ap content_of e ∙ ap name_or_null p
    lettered_of (list_content cs) n (ns, e, l) = ap content_of e ∙ ap list_content (lettered_all cs ns l)
    lettered_of (object_content es) n (fs, e, l) = ap content_of e ∙ ap object_content (lettered_entries es fs l)

    lettered_all : (cs : Contents) (ns : Nodes) → LetteredAll paths ns cs → contents_of ns ≡ cs
    lettered_all no_contents ns e = ap contents_of e
    lettered_all (content c cs) ns (m, ms, e, l, k) =
        ap contents_of e ∙ ap (λ x. content x (contents_of ms)) (lettered_of c m l) ∙ ap (content c) (lettered_all cs ms k)

    lettered_entries : (es : Entries) (fs : Fields) → LetteredEntries paths fs es → entries_of fs ≡ es
    lettered_entries no_entries fs e = ap entries_of e
    lettered_entries (entry key c es) fs (place, n, gs, e, l, k) =
        ap entries_of e ∙ ap (λ x. entry key x (entries_of gs)) (lettered_of c n l) ∙ ap (entry key c) (lettered_entries es gs k)

  pub one_template : (bytes : List ℕ) (a b : Content) → IsTemplate paths bytes a → IsTemplate paths bytes b → a ≡ b
  one_template bytes a b h k =
      let p = text_there paths bytes a h in let q = text_there paths bytes b k in
      let same : p.0 ≡ q.0 = tokens_once p.0 q.0 p.1 q.1 (sym p.2 ∙ q.2) in
      let value : p.3 ≡ q.3 = one_value 100 100 (letters p.0) p.3 q.3 p.4 (subst (λ ts. IsText 100 (letters ts) q.3) (sym same) q.4) in
      sym (lettered_of a p.3 p.5) ∙ ap content_of value ∙ lettered_of b q.3 q.5

pub spells_tree : (paths : Paths) (bytes : List ℕ) (c : Content) (scene : Scene) → IsTemplate paths bytes c → IsScene scene → tree_levels scene.event ≤ 100
    → (n : Node) × IsText 200 (compact_text (filled scene c)) n × (value_of n ≡ filled scene c) × (first_repeat n ≡ None)
spells_tree paths bytes c scene h s l =
    let v = filled_sound paths scene s bytes c h in
    let k = compact_spelled (filled scene c) v.0 in
    (k.0, record { spelled = k.1.spelled; within = (let m = k.1.within in let n = v.1 in omega (arith, m, n, l)) }, k.2, k.3)
