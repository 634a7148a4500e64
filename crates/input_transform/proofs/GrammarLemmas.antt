-- A template's text and its rewritten text, in both directions: `text_there` and `text_back`.
use Rattle.std.proofs.Common.{◌≡◌, ◌≢◌, ℕ, suc, ◌+◌, ◌≤◌, max, true, false, List, [], ◌∷◌, ◌++◌, length, Some, codes, refl, sym, ap, ◌∙◌, subst, inl, inr, ◌⊎◌, arith, append_assoc, append-nil}
use Rattle.std.proofs.lemmas.Bool.{false≢true}
use Rattle.json_text.specs.Characters.{SpellsString}
use Rattle.json_text.specs.Node.{Node, null_node, truth_node, number_node, text_node, list_node, object_node, Nodes, no_nodes, node, Fields, no_fields, field, levels_of, levels_of_nodes, levels_of_fields}
use Rattle.json_text.specs.Grammar.{IsSpace, Padded, SpellsField, SpellsValue, SpellsItems, SpellsMoreItems, SpellsMembers, SpellsMoreMembers, IsText}
use Rattle.input_transform.specs.Names.{Source, Paths, source_named}
use Rattle.input_transform.specs.Template.{Content, null_content, truth_content, number_content, text_content, name_content, list_content, object_content, Contents, no_contents, content, Entries, no_entries, entry, Around, Keyed, SpellsContent, SpellsContents, SpellsMoreContents, SpellsEntries, SpellsMoreEntries, parts_after, content_levels, contents_levels, entries_levels, IsTemplate}
use Rattle.input_transform.specs.Letters.{Token, plain, string, name, colon_next, given, letters, AreTokens, Lettered, LetteredAll, LetteredEntries}
use Rattle.input_transform.proofs.RewriteLemmas.{inside_cut, known_letters}
use Rattle.input_transform.proofs.StringLemmas.{spelled_inside, letter_before, letter_first, plain_itself, name_no_escape, name_spells, name_inside}
use Rattle.input_transform.proofs.PlainLemmas.{IsPlainByte, ArePlain, space_plain, number_plain, plain_append, colon_space}

three_joined : (a b c d : List ℕ) → a ++ (b ++ (c ++ d)) ≡ (a ++ (b ++ c)) ++ d
three_joined a b c d = sym (append_assoc a (b ++ c) d ∙ ap (λ x. a ++ x) (append_assoc b c d))

four_joined : (a b c d e : List ℕ) → a ++ (b ++ ((c ++ 58 ∷ []) ++ (d ++ e))) ≡ (a ++ (b ++ (c ++ 58 ∷ d))) ++ e
four_joined a b c d e = ap (λ x. a ++ (b ++ x)) (append_assoc c (58 ∷ []) (d ++ e) ∙ sym (append_assoc c (58 ∷ d) e)) ∙ three_joined a b (c ++ 58 ∷ d) e

colon_plain : (gap : List ℕ) → ArePlain gap → ArePlain (gap ++ 58 ∷ [])
colon_plain gap h = plain_append gap (58 ∷ []) h (((λ k. omega arith), (λ k. omega arith)), tt)

bracket_plain : (b : ℕ) → b ≢ 34 → b ≢ 60 → ArePlain (b ∷ [])
bracket_plain b h k = ((h, k), tt)

word_null : ArePlain (codes "null")
word_null = (((λ k. omega arith), (λ k. omega arith)), (((λ k. omega arith), (λ k. omega arith)), (((λ k. omega arith), (λ k. omega arith)), (((λ k. omega arith), (λ k. omega arith)), tt))))

word_true : ArePlain (codes "true")
word_true = (((λ k. omega arith), (λ k. omega arith)), (((λ k. omega arith), (λ k. omega arith)), (((λ k. omega arith), (λ k. omega arith)), (((λ k. omega arith), (λ k. omega arith)), tt))))

word_false : ArePlain (codes "false")
word_false = (((λ k. omega arith), (λ k. omega arith)), (((λ k. omega arith), (λ k. omega arith)), (((λ k. omega arith), (λ k. omega arith)), (((λ k. omega arith), (λ k. omega arith)), (((λ k. omega arith), (λ k. omega arith)), tt)))))

module _ (paths : Paths) where
  -- tokens before others that give these bytes, rewritten to bytes for which P holds
  pub record There (P : ℕ → List ℕ → Type 0) (bytes : List ℕ) (us : List Token) : Type 0 where
    pub tokens : List Token
    pub written : List ℕ
    pub is : given tokens ≡ bytes ++ given us
    pub are : AreTokens paths tokens
    pub becomes : letters tokens ≡ written ++ letters us
    pub spelled : (at : ℕ) → P at written

  -- the first tokens give bytes for which P holds, and the others are rewritten to the rest
  pub record Front (P : List ℕ → Type 0) (ts : List Token) (rest : List ℕ) : Type 0 where
    pub left : List Token
    pub front : List ℕ
    pub is : given ts ≡ front ++ given left
    pub are : AreTokens paths left
    pub becomes : rest ≡ letters left
    pub holds : P front

  -- bytes that are copied
  plain_there : (bs : List ℕ) → ArePlain bs → (us : List Token) → AreTokens paths us → There (λ at written. written ≡ bs) bs us
  plain_there [] h us are = record { tokens = us; written = []; is = refl; are = are; becomes = refl; spelled = λ at. refl }
  plain_there (b ∷ bs) h us are = let t = plain_there bs h.1 us are in record {
    tokens = plain b ∷ t.tokens;
    written = b ∷ t.written;
    is = ap (λ x. b ∷ x) t.is;
    are = (h.0, t.are);
    becomes = ap (λ x. b ∷ x) t.becomes;
    spelled = λ at. ap (λ x. b ∷ x) (t.spelled at);
  }

  plain_back : (bs : List ℕ) → ArePlain bs → (ts : List Token) (rest : List ℕ) → AreTokens paths ts → letters ts ≡ bs ++ rest → Front (λ f. f ≡ bs) ts rest
  plain_back [] h ts rest are e = record { left = ts; front = []; is = refl; are = are; becomes = sym e; holds = refl }
  plain_back (b ∷ bs) h [] rest are e = cc
  plain_back (b ∷ bs) h (plain c ∷ ts) rest are e =
      let head : c ≡ b = cc in let tail : letters ts ≡ bs ++ rest = cc in let f = plain_back bs h.1 ts rest are.1 tail in record {
        left = f.left;
        front = c ∷ f.front;
        is = ap (λ x. c ∷ x) f.is;
        are = f.are;
        becomes = f.becomes;
        holds = ap (λ x. x ∷ f.front) head ∙ ap (λ x. b ∷ x) f.holds;
      }
  plain_back (b ∷ bs) h (string inside ∷ ts) rest are e = let head : b ≡ 34 = cc in absurd (h.0.0 head)
  plain_back (b ∷ bs) h (name n ∷ ts) rest are e = let head : b ≡ 34 = cc in absurd (h.0.0 head)

  -- one after another
  then_there : {P Q S : ℕ → List ℕ → Type 0} (a b : List ℕ) (us : List Token) (second : There Q b us) → There P a second.tokens
      → ((at : ℕ) (x y : List ℕ) → P at x → ((there : ℕ) → Q there y) → S at (x ++ y)) → There S (a ++ b) us
  then_there a b us second first join = record {
    tokens = first.tokens;
    written = first.written ++ second.written;
    is = first.is ∙ ap (λ x. a ++ x) second.is ∙ sym (append_assoc a b (given us));
    are = first.are;
    becomes = first.becomes ∙ ap (λ x. first.written ++ x) second.becomes ∙ sym (append_assoc first.written second.written (letters us));
    spelled = λ at. join at first.written second.written (first.spelled at) second.spelled;
  }

  then_front : {P Q S : List ℕ → Type 0} (ts : List Token) (rest : List ℕ) (middle : List ℕ) (first : Front P ts middle) → Front Q first.left rest
      → ((x y : List ℕ) → P x → Q y → S (x ++ y)) → Front S ts rest
  then_front ts rest middle first second join = record {
    left = second.left;
    front = first.front ++ second.front;
    is = first.is ∙ ap (λ x. first.front ++ x) second.is ∙ sym (append_assoc first.front second.front (given second.left));
    are = second.are;
    becomes = second.becomes;
    holds = join first.front second.front first.holds second.holds;
  }

  weaker : {P Q : List ℕ → Type 0} {ts : List Token} {rest : List ℕ} → Front P ts rest → ((x : List ℕ) → P x → Q x) → Front Q ts rest
  weaker f w = record { left = f.left; front = f.front; is = f.is; are = f.are; becomes = f.becomes; holds = w f.front f.holds }

  moved : {P : ℕ → List ℕ → Type 0} (a b : List ℕ) (us : List Token) → b ≡ a → There P a us → There P b us
  moved a b us e t = record {
    tokens = t.tokens;
    written = t.written;
    is = t.is ∙ ap (λ x. x ++ given us) (sym e);
    are = t.are;
    becomes = t.becomes;
    spelled = t.spelled;
  }

  -- a string's tokens
  quoted_there : (bytes t : List ℕ) → SpellsString bytes t → (us : List Token) → AreTokens paths us → There (λ at written. SpellsString written (83 ∷ t)) bytes us
  quoted_there bytes t (inside, e, s) us are = record {
    tokens = string inside ∷ us;
    written = 34 ∷ ((83 ∷ inside) ++ 34 ∷ []);
    is = ap (λ x. x ++ given us) (sym e);
    are = (spelled_inside s, are);
    becomes = refl;
    spelled = λ at. (83 ∷ inside, refl, letter_before 83 (omega arith) (omega arith) (λ k. omega arith) (λ k. omega arith) s);
  }

  named_there : (n : List ℕ) (source : Source) → source_named paths n ≡ Some source → (us : List Token) → AreTokens paths us → colon_next (given us) ≡ false
      → There (λ at written. SpellsString written (78 ∷ n)) (60 ∷ (n ++ 62 ∷ [])) us
  named_there n source k us are calm = record {
    tokens = name n ∷ us;
    written = 34 ∷ ((78 ∷ n) ++ 34 ∷ []);
    is = refl;
    are = ((source, k, calm), are);
    becomes = refl;
    spelled = λ at. (78 ∷ n, refl, letter_before 78 (omega arith) (omega arith) (λ e. omega arith) (λ e. omega arith) (name_spells n (known_letters paths n source k)));
  }

  -- a string of the rewritten text is a string or a name
  abbrev WasString : List ℕ → List ℕ → Type 0
  WasString t f = (u : List ℕ) × (t ≡ 83 ∷ u) × SpellsString f u

  abbrev WasName : List ℕ → List ℕ → Type 0
  WasName t f = (n : List ℕ) × (source : Source) × (t ≡ 78 ∷ n) × (f ≡ 60 ∷ (n ++ 62 ∷ [])) × (source_named paths n ≡ Some source)

  after_quote : (x y z w : List ℕ) → 34 ∷ ((x ++ 34 ∷ []) ++ z) ≡ 34 ∷ ((y ++ 34 ∷ []) ++ w) → x ++ 34 ∷ z ≡ y ++ 34 ∷ w
  after_quote x y z w e = sym (append_assoc x (34 ∷ []) z) ∙ (let tail : (x ++ 34 ∷ []) ++ z ≡ (y ++ 34 ∷ []) ++ w = cc in tail) ∙ append_assoc y (34 ∷ []) w

  string_back : (r t : List ℕ) → SpellsString r t → (ts : List Token) (rest : List ℕ) → AreTokens paths ts → letters ts ≡ r ++ rest
      → Front (WasString t) ts rest ⊎ ((f : Front (WasName t) ts rest) × (colon_next (given f.left) ≡ false))
  string_back r t (inside, e, s) [] rest are w = let f = w ∙ ap (λ x. x ++ rest) e in cc
  string_back r t (inside, e, s) (plain b ∷ ts) rest are w = let f = w ∙ ap (λ x. x ++ rest) e in absurd (are.0.0 (let head : b ≡ 34 = cc in head))
  string_back r t (inside, e, s) (string body ∷ ts) rest are w =
      let c = inside_cut false (83 ∷ body) inside (letters ts) rest are.0 (spelled_inside s)
      (after_quote (83 ∷ body) inside (letters ts) rest (w ∙ ap (λ x. x ++ rest) e)) in
      let f = letter_first 83 inside body t (omega arith) refl s (sym c.0) in
      inl (record {
        left = ts;
        front = 34 ∷ (body ++ 34 ∷ []);
        is = refl;
        are = are.1;
        becomes = sym c.1;
        holds = (f.0, f.1, (body, refl, f.2));
      })
  string_back r t (inside, e, s) (name n ∷ ts) rest are w =
      let known = known_letters paths n are.0.0 are.0.1 in
      let c = inside_cut false (78 ∷ n) inside (letters ts) rest (name_inside n known) (spelled_inside s)
      (after_quote (78 ∷ n) inside (letters ts) rest (w ∙ ap (λ x. x ++ rest) e)) in
      let f = letter_first 78 inside n t (omega arith) refl s (sym c.0) in
      inr (
        record {
          left = ts;
          front = 60 ∷ (n ++ 62 ∷ []);
          is = refl;
          are = are.1;
          becomes = sym c.1;
          holds = (n, are.0.0, f.1 ∙ ap (λ x. 78 ∷ x) (plain_itself n f.0 f.2 (name_no_escape n known)), refl, are.0.1);
        },
        are.0.2,
      )

  -- white space around
  abbrev ValueOf : Content → ℕ → List ℕ → Type 0
  ValueOf c at written = (n : Node) × SpellsValue at written n × Lettered paths n c

  abbrev PaddedOf : Content → ℕ → List ℕ → Type 0
  PaddedOf c at written = (n : Node) × Padded (λ place inside. SpellsValue place inside n) at written × Lettered paths n c

  calm_after : (a : List ℕ) (us ts : List Token) → IsSpace a → given ts ≡ a ++ given us → colon_next (given us) ≡ false → colon_next (given ts) ≡ false
  calm_after a us ts s e calm = ap colon_next e ∙ colon_space a (given us) s ∙ calm

  around_there : (c : Content) → ((bytes : List ℕ) → SpellsContent paths bytes c → (us : List Token) → AreTokens paths us → colon_next (given us) ≡ false
      → There (ValueOf c) bytes us) → (bytes : List ℕ) → Around (λ inside. SpellsContent paths inside c) bytes
      → (us : List Token) → AreTokens paths us → colon_next (given us) ≡ false → There (PaddedOf c) bytes us
  around_there c inner bytes (before, inside, after, e, s, h, t) us are calm =
      let third = plain_there after (space_plain after t) us are in
      let second = inner inside h third.tokens third.are (calm_after after us third.tokens t third.is calm) in
      let first = plain_there before (space_plain before s) second.tokens second.are in
      moved (before ++ (inside ++ after)) bytes us e (record {
        tokens = first.tokens;
        written = first.written ++ (second.written ++ third.written);
        is = first.is ∙ ap (λ x. before ++ x) (second.is ∙ ap (λ x. inside ++ x) third.is) ∙ three_joined before inside after (given us);
        are = first.are;
        becomes = first.becomes ∙ ap (λ x. first.written ++ x) (second.becomes ∙ ap (λ x. second.written ++ x) third.becomes)
            ∙ three_joined first.written second.written third.written (letters us);
        spelled = λ at.
            let k = second.spelled (at + length first.written) in
            (k.0, (first.written, second.written, third.written, refl, subst IsSpace (sym (first.spelled 0)) s, k.1, subst IsSpace (sym (third.spelled 0)) t), k.2);
      })

  -- a member's key with its colon
  abbrev FieldOf : List ℕ → Content → ℕ → List ℕ → Type 0
  FieldOf key c at written = (place : ℕ) × (n : Node) × SpellsField (Padded (λ there inside. SpellsValue there inside n)) at written place (83 ∷ key) × Lettered paths n c

  keyed_there : (key : List ℕ) (c : Content) → ((bytes : List ℕ) → SpellsContent paths bytes c → (us : List Token) → AreTokens paths us
      → colon_next (given us) ≡ false → There (ValueOf c) bytes us) → (bytes : List ℕ) → Keyed (Around (λ inside. SpellsContent paths inside c)) bytes key
      → (us : List Token) → AreTokens paths us → colon_next (given us) ≡ false → There (FieldOf key c) bytes us
  keyed_there key c inner bytes (before, quoted, gap, rest, e, s, q, t, h) us are calm =
      let fourth = around_there c inner rest h us are calm in
      let third = plain_there (gap ++ 58 ∷ []) (colon_plain gap (space_plain gap t)) fourth.tokens fourth.are in
      let second = quoted_there quoted key q third.tokens third.are in
      let first = plain_there before (space_plain before s) second.tokens second.are in
      moved (before ++ (quoted ++ (gap ++ 58 ∷ rest))) bytes us e (record {
        tokens = first.tokens;
        written = first.written ++ (second.written ++ (gap ++ 58 ∷ fourth.written));
        is = first.is ∙ ap (λ x. before ++ x) (second.is ∙ ap (λ x. quoted ++ x) (third.is ∙ ap (λ x. (gap ++ 58 ∷ []) ++ x) fourth.is))
            ∙ four_joined before quoted gap rest (given us);
        are = first.are;
        becomes = first.becomes ∙ ap (λ x. first.written ++ x) (second.becomes ∙ ap (λ x. second.written ++ x) (third.becomes
            ∙ ap (λ x. x ++ letters fourth.tokens) (third.spelled 0) ∙ ap (λ x. (gap ++ 58 ∷ []) ++ x) fourth.becomes))
            ∙ four_joined first.written second.written gap fourth.written (letters us);
        spelled = λ at.
            let k = fourth.spelled (at + length first.written + length second.written + length gap + 1) in
            (at + length first.written, k.0, (first.written, second.written, gap, fourth.written, refl, subst IsSpace (sym (first.spelled 0)) s, refl, second.spelled 0, t, k.1), k.2);
      })

  more_calm : (bytes : List ℕ) (cs : Contents) (us ts : List Token) → SpellsMoreContents paths bytes cs → given ts ≡ bytes ++ given us
      → colon_next (given us) ≡ false → colon_next (given ts) ≡ false
  more_calm bytes no_contents us ts h e calm = ap colon_next (e ∙ ap (λ x. x ++ given us) h) ∙ calm
  more_calm bytes (content c cs) us ts h e calm = ap colon_next (e ∙ ap (λ x. x ++ given us) h.2)

  more_entries_calm : (bytes : List ℕ) (es : Entries) (us ts : List Token) → SpellsMoreEntries paths bytes es → given ts ≡ bytes ++ given us
      → colon_next (given us) ≡ false → colon_next (given ts) ≡ false
  more_entries_calm bytes no_entries us ts h e calm = ap colon_next (e ∙ ap (λ x. x ++ given us) h) ∙ calm
  more_entries_calm bytes (entry key c es) us ts h e calm = ap colon_next (e ∙ ap (λ x. x ++ given us) h.2)

  abbrev ItemsOf : Contents → ℕ → List ℕ → Type 0
  ItemsOf cs at written = (ns : Nodes) × SpellsItems at written ns × LetteredAll paths ns cs

  abbrev MoreOf : Contents → ℕ → List ℕ → Type 0
  MoreOf cs at written = (ns : Nodes) × SpellsMoreItems at written ns × LetteredAll paths ns cs

  abbrev FieldsOf : Entries → ℕ → List ℕ → Type 0
  FieldsOf es at written = (fs : Fields) × SpellsMembers at written fs × LetteredEntries paths fs es

  abbrev MoreFieldsOf : Entries → ℕ → List ℕ → Type 0
  MoreFieldsOf es at written = (fs : Fields) × SpellsMoreMembers at written fs × LetteredEntries paths fs es

  -- brackets around
  bracketed : {P Q : ℕ → List ℕ → Type 0} (o c : ℕ) (inside : List ℕ) (us : List Token) → IsPlainByte o → IsPlainByte c → There P inside (plain c ∷ us)
      → ((at : ℕ) (x : List ℕ) → P (at + 1) x → Q at (o ∷ (x ++ c ∷ []))) → There Q (o ∷ (inside ++ c ∷ [])) us
  bracketed o c inside us h k t join = record {
    tokens = plain o ∷ t.tokens;
    written = o ∷ (t.written ++ c ∷ []);
    is = ap (λ x. o ∷ x) (t.is ∙ sym (append_assoc inside (c ∷ []) (given us)));
    are = (h, t.are);
    becomes = ap (λ x. o ∷ x) (t.becomes ∙ sym (append_assoc t.written (c ∷ []) (letters us)));
    spelled = λ at. join at t.written (t.spelled (at + 1));
  }

  -- a comma, one after another
  comma_there : (P Q : ℕ → List ℕ → Type 0) {S : ℕ → List ℕ → Type 0} (a b : List ℕ) (us : List Token) (second : There Q b us) → There P a second.tokens
      → ((at : ℕ) (x y : List ℕ) → ((there : ℕ) → P there x) → ((there : ℕ) → Q there y) → S at (44 ∷ (x ++ y))) → There S (44 ∷ (a ++ b)) us
  comma_there P Q a b us second first join = record {
    tokens = plain 44 ∷ first.tokens;
    written = 44 ∷ (first.written ++ second.written);
    is = ap (λ x. 44 ∷ x) (first.is ∙ ap (λ x. a ++ x) second.is ∙ sym (append_assoc a b (given us)));
    are = (((λ k. omega arith), (λ k. omega arith)), first.are);
    becomes = ap (λ x. 44 ∷ x) (first.becomes ∙ ap (λ x. first.written ++ x) second.becomes ∙ sym (append_assoc first.written second.written (letters us)));
    spelled = λ at. join at first.written second.written first.spelled second.spelled;
  }

  plain_value : (c : Content) (n : Node) (bytes : List ℕ) → ArePlain bytes → ((at : ℕ) → SpellsValue at bytes n) → Lettered paths n c → (us : List Token)
      → AreTokens paths us → There (ValueOf c) bytes us
  plain_value c n bytes h s l us are = let t = plain_there bytes h us are in record {
    tokens = t.tokens;
    written = t.written;
    is = t.is;
    are = t.are;
    becomes = t.becomes;
    spelled = λ at. (n, subst (λ x. SpellsValue at x n) (sym (t.spelled at)) (s at), l);
  }

  mutual
    content_there : (c : Content) (bytes : List ℕ) → SpellsContent paths bytes c → (us : List Token) → AreTokens paths us → colon_next (given us) ≡ false
        → There (ValueOf c) bytes us
    content_there null_content bytes e us are calm =
        plain_value null_content null_node bytes (subst ArePlain (sym e) word_null) (λ at. e) refl us are
    content_there (truth_content true) bytes e us are calm =
        plain_value (truth_content true) (truth_node true) bytes (subst ArePlain (sym e) word_true) (λ at. e) refl us are
    content_there (truth_content false) bytes e us are calm =
        plain_value (truth_content false) (truth_node false) bytes (subst ArePlain (sym e) word_false) (λ at. e) refl us are
    content_there (number_content spelling) bytes (e, number) us are calm =
        plain_value (number_content spelling) (number_node spelling) bytes (subst ArePlain (sym e) (number_plain spelling number)) (λ at. (e, number)) refl us are
    content_there (text_content parts) bytes (t, s, e) us are calm = let q = quoted_there bytes t s us are in record {
      tokens = q.tokens;
      written = q.written;
      is = q.is;
      are = q.are;
      becomes = q.becomes;
      spelled = λ at. (text_node (83 ∷ t), q.spelled at, (t, refl, e));
    }
    content_there (name_content source) bytes (n, e, k) us are calm = let q = named_there n source k us are calm in record {
      tokens = q.tokens;
      written = q.written;
      is = q.is ∙ ap (λ x. x ++ given us) (sym e);
      are = q.are;
      becomes = q.becomes;
      spelled = λ at. (text_node (78 ∷ n), q.spelled at, (n, refl, k));
    }
    content_there (list_content cs) bytes (inside, e, h) us are calm =
        moved (91 ∷ (inside ++ 93 ∷ [])) bytes us e (bracketed {P = ItemsOf cs} 91 93 inside us ((λ k. omega arith), (λ k. omega arith))
        ((λ k. omega arith), (λ k. omega arith)) (contents_there cs inside h (plain 93 ∷ us) (((λ k. omega arith), (λ k. omega arith)), are) refl)
        (λ at x p. (list_node p.0, (x, refl, p.1), (p.0, refl, p.2))))
    content_there (object_content es) bytes (inside, e, h) us are calm =
        moved (123 ∷ (inside ++ 125 ∷ [])) bytes us e (bracketed {P = FieldsOf es} 123 125 inside us ((λ k. omega arith), (λ k. omega arith))
        ((λ k. omega arith), (λ k. omega arith)) (entries_there es inside h (plain 125 ∷ us) (((λ k. omega arith), (λ k. omega arith)), are) refl)
        (λ at x p. (object_node p.0, (x, refl, p.1), (p.0, refl, p.2))))

    contents_there : (cs : Contents) (bytes : List ℕ) → SpellsContents paths bytes cs → (us : List Token) → AreTokens paths us → colon_next (given us) ≡ false
        → There (ItemsOf cs) bytes us
    contents_there no_contents bytes s us are calm = let t = plain_there bytes (space_plain bytes s) us are in record {
      tokens = t.tokens;
      written = t.written;
      is = t.is;
      are = t.are;
      becomes = t.becomes;
      spelled = λ at. (no_nodes, subst IsSpace (sym (t.spelled at)) s, refl);
    }
    contents_there (content c cs) bytes (first, rest, e, a, m) us are calm =
        let others = more_there cs rest m us are calm in
        let one = around_there c (content_there c) first a others.tokens others.are (more_calm rest cs us others.tokens m others.is calm) in
        moved (first ++ rest) bytes us e (then_there first rest us others one (λ at x y p q. let k = q (at + length x) in
        (node p.0 k.0, (x, y, refl, p.1, k.1), (p.0, k.0, refl, p.2, k.2))))

    more_there : (cs : Contents) (bytes : List ℕ) → SpellsMoreContents paths bytes cs → (us : List Token) → AreTokens paths us → colon_next (given us) ≡ false
        → There (MoreOf cs) bytes us
    more_there no_contents bytes e us are calm = record {
      tokens = us;
      written = [];
      is = ap (λ x. x ++ given us) (sym e);
      are = are;
      becomes = refl;
      spelled = λ at. (no_nodes, refl, refl);
    }
    more_there (content c cs) bytes (first, rest, e, a, m) us are calm =
        let others = more_there cs rest m us are calm in
        let one = around_there c (content_there c) first a others.tokens others.are (more_calm rest cs us others.tokens m others.is calm) in
        moved (44 ∷ (first ++ rest)) bytes us e (comma_there (PaddedOf c) (MoreOf cs) first rest us others one (λ at x y p q. let k = q (at + 1 + length x) in let o = p (at + 1) in
        (node o.0 k.0, (x, y, refl, o.1, k.1), (o.0, k.0, refl, o.2, k.2))))

    entries_there : (es : Entries) (bytes : List ℕ) → SpellsEntries paths bytes es → (us : List Token) → AreTokens paths us → colon_next (given us) ≡ false
        → There (FieldsOf es) bytes us
    entries_there no_entries bytes s us are calm = let t = plain_there bytes (space_plain bytes s) us are in record {
      tokens = t.tokens;
      written = t.written;
      is = t.is;
      are = t.are;
      becomes = t.becomes;
      spelled = λ at. (no_fields, subst IsSpace (sym (t.spelled at)) s, refl);
    }
    entries_there (entry key c es) bytes (first, rest, e, a, m) us are calm =
        let others = more_entries_there es rest m us are calm in
        let one = keyed_there key c (content_there c) first a others.tokens others.are (more_entries_calm rest es us others.tokens m others.is calm) in
        moved (first ++ rest) bytes us e (then_there first rest us others one (λ at x y p q. let k = q (at + length x) in
        (field p.0 (83 ∷ key) p.1 k.0, (x, y, refl, p.2, k.1), (p.0, p.1, k.0, refl, p.3, k.2))))

    more_entries_there : (es : Entries) (bytes : List ℕ) → SpellsMoreEntries paths bytes es → (us : List Token) → AreTokens paths us
        → colon_next (given us) ≡ false → There (MoreFieldsOf es) bytes us
    more_entries_there no_entries bytes e us are calm = record {
      tokens = us;
      written = [];
      is = ap (λ x. x ++ given us) (sym e);
      are = are;
      becomes = refl;
      spelled = λ at. (no_fields, refl, refl);
    }
    more_entries_there (entry key c es) bytes (first, rest, e, a, m) us are calm =
        let others = more_entries_there es rest m us are calm in
        let one = keyed_there key c (content_there c) first a others.tokens others.are (more_entries_calm rest es us others.tokens m others.is calm) in
        moved (44 ∷ (first ++ rest)) bytes us e (comma_there (FieldOf key c) (MoreFieldsOf es) first rest us others one (λ at x y p q. let k = q (at + 1 + length x) in let o = p (at + 1) in
        (field o.0 (83 ∷ key) o.1 k.0, (x, y, refl, o.2, k.1), (o.0, o.1, k.0, refl, o.3, k.2))))

  -- back: what a node of the rewritten text was
  record Was (n : Node) (ts : List Token) (rest : List ℕ) : Type 0 where
    gives : Content
    same : Lettered paths n gives
    at_front : Front (λ f. SpellsContent paths f gives) ts rest

  record WasAround (n : Node) (ts : List Token) (rest : List ℕ) : Type 0 where
    gives : Content
    same : Lettered paths n gives
    at_front : Front (λ f. Around (λ inside. SpellsContent paths inside gives) f) ts rest

  record WereItems (V : List ℕ → Contents → Type 0) (ns : Nodes) (ts : List Token) (rest : List ℕ) : Type 0 where
    gives : Contents
    same : LetteredAll paths ns gives
    at_front : Front (λ f. V f gives) ts rest

  record WereFields (V : List ℕ → Entries → Type 0) (fs : Fields) (ts : List Token) (rest : List ℕ) : Type 0 where
    gives : Entries
    same : LetteredEntries paths fs gives
    at_front : Front (λ f. V f gives) ts rest

  record WasField (key : List ℕ) (n : Node) (ts : List Token) (rest : List ℕ) : Type 0 where
    name_of : List ℕ
    is_key : key ≡ 83 ∷ name_of
    gives : Content
    same : Lettered paths n gives
    at_front : Front (λ f. Keyed (Around (λ inside. SpellsContent paths inside gives)) f name_of) ts rest

  around_back : (n : Node) → ((at : ℕ) (r : List ℕ) → SpellsValue at r n → (ts : List Token) (rest : List ℕ) → AreTokens paths ts → letters ts ≡ r ++ rest
      → Was n ts rest) → (at : ℕ) (r : List ℕ) → Padded (λ place inside. SpellsValue place inside n) at r → (ts : List Token) (rest : List ℕ)
      → AreTokens paths ts → letters ts ≡ r ++ rest → WasAround n ts rest
  around_back n inner at r (before, inside, after, e, s, h, t) ts rest are w =
      let first = plain_back before (space_plain before s) ts (inside ++ (after ++ rest)) are (w ∙ ap (λ x. x ++ rest) e ∙ sym (three_joined before inside after rest)) in
      let second = inner (at + length before) inside h first.left (after ++ rest) first.are (sym first.becomes) in
      let m = second.at_front in
      let third = plain_back after (space_plain after t) m.left rest m.are (sym m.becomes) in record {
        gives = second.gives;
        same = second.same;
        at_front = record {
          left = third.left;
          front = first.front ++ (m.front ++ third.front);
          is = first.is ∙ ap (λ x. first.front ++ x) (m.is ∙ ap (λ x. m.front ++ x) third.is) ∙ three_joined first.front m.front third.front (given third.left);
          are = third.are;
          becomes = third.becomes;
          holds = (first.front, m.front, third.front, refl, subst IsSpace (sym first.holds) s, m.holds, subst IsSpace (sym third.holds) t);
        };
      }

  -- a name is no key
  no_name_key : (gap rest : List ℕ) → IsSpace gap → (us : List Token) → AreTokens paths us → (gap ++ 58 ∷ []) ++ rest ≡ letters us
      → colon_next (given us) ≡ false → ⊥
  no_name_key gap rest t us are w calm =
      let f = plain_back (gap ++ 58 ∷ []) (colon_plain gap (space_plain gap t)) us rest are (sym w) in
      let all : given us ≡ gap ++ 58 ∷ given f.left = f.is ∙ ap (λ x. x ++ given f.left) f.holds ∙ append_assoc gap (58 ∷ []) (given f.left) in
      false≢true (sym calm ∙ ap colon_next all ∙ colon_space gap (58 ∷ given f.left) t)

  key_cases : (key gap rest : List ℕ) → IsSpace gap → (ts : List Token)
      → Front (WasString key) ts ((gap ++ 58 ∷ []) ++ rest) ⊎ ((f : Front (WasName key) ts ((gap ++ 58 ∷ []) ++ rest)) × (colon_next (given f.left) ≡ false))
      → Front (WasString key) ts ((gap ++ 58 ∷ []) ++ rest)
  key_cases key gap rest t ts (inl h) = h
  key_cases key gap rest t ts (inr h) = absurd (no_name_key gap rest t h.0.left h.0.are h.0.becomes h.1)

  field_back : (key : List ℕ) (n : Node) → ((at : ℕ) (r : List ℕ) → SpellsValue at r n → (ts : List Token) (rest : List ℕ) → AreTokens paths ts
      → letters ts ≡ r ++ rest → Was n ts rest) → (at : ℕ) (r : List ℕ) (place : ℕ)
      → SpellsField (Padded (λ there inside. SpellsValue there inside n)) at r place key → (ts : List Token) (rest : List ℕ)
      → AreTokens paths ts → letters ts ≡ r ++ rest → WasField key n ts rest
  field_back key n inner at r place (before, quoted, gap, value, e, s, p, q, t, h) ts rest are w =
      let first = plain_back before (space_plain before s) ts (quoted ++ ((gap ++ 58 ∷ []) ++ (value ++ rest))) are
      (w ∙ ap (λ x. x ++ rest) e ∙ sym (four_joined before quoted gap value rest)) in
      let second = key_cases key gap (value ++ rest) t first.left (string_back quoted key q first.left ((gap ++ 58 ∷ []) ++ (value ++ rest)) first.are (sym first.becomes)) in
      let third = plain_back (gap ++ 58 ∷ []) (colon_plain gap (space_plain gap t)) second.left (value ++ rest) second.are (sym second.becomes) in
      let fourth = around_back n inner (at + length before + length quoted + length gap + 1) value h third.left rest third.are (sym third.becomes) in
      let m = fourth.at_front in record {
        name_of = second.holds.0;
        is_key = second.holds.1;
        gives = fourth.gives;
        same = fourth.same;
        at_front = record {
          left = m.left;
          front = first.front ++ (second.front ++ (gap ++ 58 ∷ m.front));
          is = first.is ∙ ap (λ x. first.front ++ x) (second.is ∙ ap (λ x. second.front ++ x) (third.is ∙ ap (λ x. x ++ given third.left) third.holds
              ∙ ap (λ x. (gap ++ 58 ∷ []) ++ x) m.is)) ∙ four_joined first.front second.front gap m.front (given m.left);
          are = m.are;
          becomes = m.becomes;
          holds = (first.front, second.front, gap, m.front, refl, subst IsSpace (sym first.holds) s, second.holds.2, t, m.holds);
        };
      }

  plain_was : (n : Node) (c : Content) (r : List ℕ) → ArePlain r → Lettered paths n c → SpellsContent paths r c → (ts : List Token) (rest : List ℕ)
      → AreTokens paths ts → letters ts ≡ r ++ rest → Was n ts rest
  plain_was n c r h same k ts rest are w = record {
    gives = c;
    same = same;
    at_front = weaker (plain_back r h ts rest are w) (λ x e. subst (λ y. SpellsContent paths y c) (sym e) k);
  }

  text_was : (t : List ℕ) (ts : List Token) (rest : List ℕ)
      → Front (WasString t) ts rest ⊎ ((f : Front (WasName t) ts rest) × (colon_next (given f.left) ≡ false)) → Was (text_node t) ts rest
  text_was t ts rest (inl f) = record {
    gives = text_content (parts_after paths 0 f.holds.0);
    same = (f.holds.0, ap text_node f.holds.1, refl);
    at_front = record { left = f.left; front = f.front; is = f.is; are = f.are; becomes = f.becomes; holds = (f.holds.0, f.holds.2, refl) };
  }
  text_was t ts rest (inr (f, calm)) = record {
    gives = name_content f.holds.1;
    same = (f.holds.0, ap text_node f.holds.2, f.holds.4);
    at_front = record { left = f.left; front = f.front; is = f.is; are = f.are; becomes = f.becomes; holds = (f.holds.0, f.holds.3, f.holds.4) };
  }

  -- brackets around what was read inside
  opened : (o c : ℕ) (inside r : List ℕ) → IsPlainByte o → r ≡ o ∷ (inside ++ c ∷ []) → (ts : List Token) (rest : List ℕ)
      → AreTokens paths ts → letters ts ≡ r ++ rest → Front (λ f. f ≡ o ∷ []) ts (inside ++ (c ∷ rest))
  opened o c inside r h e ts rest are w =
      plain_back (o ∷ []) (h, tt) ts (inside ++ (c ∷ rest)) are (w ∙ ap (λ x. x ++ rest) e ∙ ap (λ x. o ∷ x) (append_assoc inside (c ∷ []) rest))

  closed : {P Q : List ℕ → Type 0} (o c : ℕ) (middle rest : List ℕ) (ts : List Token) → IsPlainByte c → (first : Front (λ f. f ≡ o ∷ []) ts middle)
      → Front P first.left (c ∷ rest) → ((x : List ℕ) → P x → Q (o ∷ (x ++ c ∷ []))) → Front Q ts rest
  closed o c middle rest ts k first second join =
      let third = plain_back (c ∷ []) (k, tt) second.left rest second.are (sym second.becomes) in record {
        left = third.left;
        front = o ∷ (second.front ++ c ∷ []);
        is = first.is ∙ ap (λ x. x ++ given first.left) first.holds ∙ ap (λ x. o ∷ x) (second.is ∙ ap (λ x. second.front ++ x) (third.is
            ∙ ap (λ x. x ++ given third.left) third.holds) ∙ sym (append_assoc second.front (c ∷ []) (given third.left)));
        are = third.are;
        becomes = third.becomes;
        holds = join second.front second.holds;
      }

  -- one after another, with or without a comma before
  joined : {P Q S : List ℕ → Type 0} (ts : List Token) (middle rest : List ℕ) (first : Front P ts middle) → Front Q first.left rest
      → ((x y : List ℕ) → P x → Q y → S (x ++ y)) → Front S ts rest
  joined ts middle rest first second join = then_front ts rest middle first second join

  comma_joined : {P Q S : List ℕ → Type 0} (ts : List Token) (middle more rest : List ℕ) (comma : Front (λ f. f ≡ 44 ∷ []) ts more) (first : Front P comma.left middle)
      → Front Q first.left rest → ((x y : List ℕ) → P x → Q y → S (44 ∷ (x ++ y))) → Front S ts rest
  comma_joined ts middle more rest comma first second join = record {
    left = second.left;
    front = 44 ∷ (first.front ++ second.front);
    is = comma.is ∙ ap (λ x. x ++ given comma.left) comma.holds
        ∙ ap (λ x. 44 ∷ x) (first.is ∙ ap (λ x. first.front ++ x) second.is ∙ sym (append_assoc first.front second.front (given second.left)));
    are = second.are;
    becomes = second.becomes;
    holds = join first.front second.front first.holds second.holds;
  }

  comma_back : (first more r : List ℕ) → r ≡ 44 ∷ (first ++ more) → (ts : List Token) (rest : List ℕ) → AreTokens paths ts → letters ts ≡ r ++ rest
      → Front (λ f. f ≡ 44 ∷ []) ts (first ++ (more ++ rest))
  comma_back first more r e ts rest are w =
      plain_back (44 ∷ []) (((λ k. omega arith), (λ k. omega arith)), tt) ts (first ++ (more ++ rest)) are
      (w ∙ ap (λ x. x ++ rest) e ∙ ap (λ x. 44 ∷ x) (append_assoc first more rest))

  abbrev Contained : List ℕ → Contents → Type 0
  Contained f cs = SpellsContents paths f cs

  abbrev MoreContained : List ℕ → Contents → Type 0
  MoreContained f cs = SpellsMoreContents paths f cs

  abbrev Entered : List ℕ → Entries → Type 0
  Entered f es = SpellsEntries paths f es

  abbrev MoreEntered : List ℕ → Entries → Type 0
  MoreEntered f es = SpellsMoreEntries paths f es

  mutual
    value_back : (n : Node) (at : ℕ) (r : List ℕ) → SpellsValue at r n → (ts : List Token) (rest : List ℕ) → AreTokens paths ts → letters ts ≡ r ++ rest
        → Was n ts rest
    value_back null_node at r e ts rest are w = plain_was null_node null_content r (subst ArePlain (sym e) word_null) refl e ts rest are w
    value_back (truth_node true) at r e ts rest are w = plain_was (truth_node true) (truth_content true) r (subst ArePlain (sym e) word_true) refl e ts rest are w
    value_back (truth_node false) at r e ts rest are w = plain_was (truth_node false) (truth_content false) r (subst ArePlain (sym e) word_false) refl e ts rest are w
    value_back (number_node spelling) at r (e, number) ts rest are w =
        plain_was (number_node spelling) (number_content spelling) r (subst ArePlain (sym e) (number_plain spelling number)) refl (e, number) ts rest are w
    value_back (text_node t) at r s ts rest are w = text_was t ts rest (string_back r t s ts rest are w)
    value_back (list_node ns) at r (inside, e, h) ts rest are w =
        let first = opened 91 93 inside r ((λ k. omega arith), (λ k. omega arith)) e ts rest are w in
        let inner = items_back ns (at + 1) inside h first.left (93 ∷ rest) first.are (sym first.becomes) in record {
          gives = list_content inner.gives;
          same = (ns, refl, inner.same);
          at_front = closed {P = λ f. SpellsContents paths f inner.gives} 91 93 (inside ++ (93 ∷ rest)) rest ts ((λ k. omega arith), (λ k. omega arith)) first inner.at_front
              (λ x p. (x, refl, p));
        }
    value_back (object_node fs) at r (inside, e, h) ts rest are w =
        let first = opened 123 125 inside r ((λ k. omega arith), (λ k. omega arith)) e ts rest are w in
        let inner = fields_back fs (at + 1) inside h first.left (125 ∷ rest) first.are (sym first.becomes) in record {
          gives = object_content inner.gives;
          same = (fs, refl, inner.same);
          at_front = closed {P = λ f. SpellsEntries paths f inner.gives} 123 125 (inside ++ (125 ∷ rest)) rest ts ((λ k. omega arith), (λ k. omega arith)) first inner.at_front
              (λ x p. (x, refl, p));
        }

    items_back : (ns : Nodes) (at : ℕ) (r : List ℕ) → SpellsItems at r ns → (ts : List Token) (rest : List ℕ) → AreTokens paths ts → letters ts ≡ r ++ rest
        → WereItems Contained ns ts rest
    items_back no_nodes at r s ts rest are w = record {
      gives = no_contents;
      same = refl;
      at_front = weaker (plain_back r (space_plain r s) ts rest are w) (λ x e. subst IsSpace (sym e) s);
    }
    items_back (node n ns) at r (first, others, e, p, m) ts rest are w =
        let one = around_back n (value_back n) at first p ts (others ++ rest) are (w ∙ ap (λ x. x ++ rest) e ∙ append_assoc first others rest) in
        let f = one.at_front in
        let left = more_items_back ns (at + length first) others m f.left rest f.are (sym f.becomes) in record {
          gives = content one.gives left.gives;
          same = (n, ns, refl, one.same, left.same);
          at_front = then_front {Q = λ x. SpellsMoreContents paths x left.gives} ts rest (others ++ rest) f left.at_front (λ x y a b. (x, y, refl, a, b));
        }

    more_items_back : (ns : Nodes) (at : ℕ) (r : List ℕ) → SpellsMoreItems at r ns → (ts : List Token) (rest : List ℕ) → AreTokens paths ts
        → letters ts ≡ r ++ rest → WereItems MoreContained ns ts rest
    more_items_back no_nodes at r e ts rest are w = record {
      gives = no_contents;
      same = refl;
      at_front = record { left = ts; front = []; is = refl; are = are; becomes = sym (w ∙ ap (λ x. x ++ rest) e); holds = refl };
    }
    more_items_back (node n ns) at r (first, others, e, p, m) ts rest are w =
        let comma = comma_back first others r e ts rest are w in
        let one = around_back n (value_back n) (at + 1) first p comma.left (others ++ rest) comma.are (sym comma.becomes) in
        let f = one.at_front in
        let left = more_items_back ns (at + 1 + length first) others m f.left rest f.are (sym f.becomes) in record {
          gives = content one.gives left.gives;
          same = (n, ns, refl, one.same, left.same);
          at_front = comma_joined {Q = λ x. SpellsMoreContents paths x left.gives} ts (others ++ rest) (first ++ (others ++ rest)) rest comma f left.at_front
              (λ x y a b. (x, y, refl, a, b));
        }

    fields_back : (fs : Fields) (at : ℕ) (r : List ℕ) → SpellsMembers at r fs → (ts : List Token) (rest : List ℕ) → AreTokens paths ts → letters ts ≡ r ++ rest
        → WereFields Entered fs ts rest
    fields_back no_fields at r s ts rest are w = record {
      gives = no_entries;
      same = refl;
      at_front = weaker (plain_back r (space_plain r s) ts rest are w) (λ x e. subst IsSpace (sym e) s);
    }
    fields_back (field place key n fs) at r (first, others, e, p, m) ts rest are w =
        let one = field_back key n (value_back n) at first place p ts (others ++ rest) are (w ∙ ap (λ x. x ++ rest) e ∙ append_assoc first others rest) in
        let f = one.at_front in
        let left = more_fields_back fs (at + length first) others m f.left rest f.are (sym f.becomes) in record {
          gives = entry one.name_of one.gives left.gives;
          same = (place, n, fs, ap (λ k. field place k n fs) one.is_key, one.same, left.same);
          at_front = then_front {Q = λ x. SpellsMoreEntries paths x left.gives} ts rest (others ++ rest) f left.at_front (λ x y a b. (x, y, refl, a, b));
        }

    more_fields_back : (fs : Fields) (at : ℕ) (r : List ℕ) → SpellsMoreMembers at r fs → (ts : List Token) (rest : List ℕ) → AreTokens paths ts
        → letters ts ≡ r ++ rest → WereFields MoreEntered fs ts rest
    more_fields_back no_fields at r e ts rest are w = record {
      gives = no_entries;
      same = refl;
      at_front = record { left = ts; front = []; is = refl; are = are; becomes = sym (w ∙ ap (λ x. x ++ rest) e); holds = refl };
    }
    more_fields_back (field place key n fs) at r (first, others, e, p, m) ts rest are w =
        let comma = comma_back first others r e ts rest are w in
        let one = field_back key n (value_back n) (at + 1) first place p comma.left (others ++ rest) comma.are (sym comma.becomes) in
        let f = one.at_front in
        let left = more_fields_back fs (at + 1 + length first) others m f.left rest f.are (sym f.becomes) in record {
          gives = entry one.name_of one.gives left.gives;
          same = (place, n, fs, ap (λ k. field place k n fs) one.is_key, one.same, left.same);
          at_front = comma_joined {Q = λ x. SpellsMoreEntries paths x left.gives} ts (others ++ rest) (first ++ (others ++ rest)) rest comma f left.at_front
              (λ x y a b. (x, y, refl, a, b));
        }

  -- as many levels
  mutual
    same_levels : (c : Content) (n : Node) → Lettered paths n c → levels_of n ≡ content_levels c
    same_levels null_content n e = ap levels_of e
    same_levels (truth_content b) n e = ap levels_of e
    same_levels (number_content spelling) n e = ap levels_of e
    same_levels (text_content parts) n (t, e, p) = ap levels_of e
    same_levels (name_content source) n (m, e, p) = ap levels_of e
    same_levels (list_content cs) n (ns, e, l) = ap levels_of e ∙ ap suc (same_levels_all cs ns l)
    same_levels (object_content es) n (fs, e, l) = ap levels_of e ∙ ap suc (same_levels_entries es fs l)

    same_levels_all : (cs : Contents) (ns : Nodes) → LetteredAll paths ns cs → levels_of_nodes ns ≡ contents_levels cs
    same_levels_all no_contents ns e = ap levels_of_nodes e
    same_levels_all (content c cs) ns (m, ms, e, l, k) =
        ap levels_of_nodes e ∙ ap (λ x. max x (levels_of_nodes ms)) (same_levels c m l) ∙ ap (max (content_levels c)) (same_levels_all cs ms k)

    same_levels_entries : (es : Entries) (fs : Fields) → LetteredEntries paths fs es → levels_of_fields fs ≡ entries_levels es
    same_levels_entries no_entries fs e = ap levels_of_fields e
    same_levels_entries (entry key c es) fs (place, n, gs, e, l, k) =
        ap levels_of_fields e ∙ ap (λ x. max x (levels_of_fields gs)) (same_levels c n l) ∙ ap (max (content_levels c)) (same_levels_entries es gs k)

  -- A template's tokens are rewritten to a JSON text of the same tree.
  pub text_there : (text : List ℕ) (c : Content) → IsTemplate paths text c
      → (ts : List Token) × AreTokens paths ts × (text ≡ given ts) × (n : Node) × IsText 100 (letters ts) n × Lettered paths n c
  text_there text c h =
      let t = around_there c (content_there c) text h.spelled [] tt refl in
      let k = t.spelled 0 in
      let w : letters t.tokens ≡ t.written = t.becomes ∙ append-nil t.written in (
        t.tokens,
        t.are,
        sym (t.is ∙ append-nil text),
        k.0,
        record {
          spelled = subst (λ x. Padded (λ place inside. SpellsValue place inside k.0) 0 x) (sym w) k.1;
          within = subst (λ m. m ≤ 100) (sym (same_levels c k.0 k.2)) h.within;
        },
        k.2,
      )

  -- Tokens that are rewritten to a JSON text give a template of the same tree.
  nothing_left : (us : List Token) → [] ≡ letters us → given us ≡ []
  nothing_left [] e = refl
  nothing_left (plain b ∷ us) e = cc
  nothing_left (string inside ∷ us) e = cc
  nothing_left (name n ∷ us) e = cc

  pub text_back : (ts : List Token) (n : Node) → AreTokens paths ts → IsText 100 (letters ts) n → (c : Content) × IsTemplate paths (given ts) c × Lettered paths n c
  text_back ts n are h =
      let b = around_back n (value_back n) 0 (letters ts) h.spelled ts [] are (sym (append-nil (letters ts))) in
      let f = b.at_front in
      let all : given ts ≡ f.front = f.is ∙ ap (λ x. f.front ++ x) (nothing_left f.left f.becomes) ∙ append-nil f.front in (
        b.gives,
        record {
          spelled = subst (λ x. Around (λ inside. SpellsContent paths inside b.gives) x) (sym all) f.holds;
          within = subst (λ m. m ≤ 100) (same_levels b.gives n b.same) h.within;
        },
        b.same,
      )
