-- Tables that have the same pattern for each name that a text reaches give the text the same answer.
use Rattle.std.proofs.Common.{◌≡◌, ◌≢◌, ℕ, zero, suc, ◌+◌, ◌≤◌, Bool, true, false, cond, List, [], ◌∷◌, ◌++◌, length, fold, find, Option, Some, None, Ok, refl, sym, ap, ◌∙◌, subst, arith}
use Rattle.std.specs.Prelude.{not, is_some, unwrap_or, codes}
use Rattle.std.specs.Map.{lookup}
use Rattle.std.specs.Str.{bytes_eq}
use Rattle.std.specs.BTreeMap.{insert_entry}
use Rattle.std.specs.Ordering.{nat_cmp, match_ordering, is_eq}
use Rattle.std.specs.declared.cmp.Ordering.{Ordering}
use Rattle.std.specs.declared.cmp.Ordering.TheVariants.{Less, Equal, Greater}
use Rattle.std.specs.Cmp.Lexicographic.{slice_cmp}
use Rattle.std.proofs.lemmas.Bool.{false_from_ne_true, not-false}
use Rattle.std.proofs.lemmas.Map.Text.{is_eq-slice_cmp}
use Rattle.gl_grok.specs.declared.expansion.Expanded.{Expanded}
use Rattle.gl_grok.specs.Answers.{answer, unless_unknown, unless_circular, within}
use Rattle.gl_grok.specs.Expansion.{begun, with_piece, with_text, written, expansion}
use Rattle.gl_grok.specs.Names.{contains, met, names_met, reaches_itself, Reaches, refers, through}
use Rattle.gl_grok.specs.Pieces.{Piece, byte, reference, pieces, names_of, names_in}
use Rattle.gl_grok.specs.Tables.{Table, pattern_in, pattern_of, is_known, with_pattern}
use Rattle.gl_grok.proofs.Expandable.{expandable, none-passes}
use Rattle.gl_grok.proofs.Meeting.{names-deeper, met_is_reached, reached_is_met}
use Rattle.gl_grok.proofs.Rooms.{Names, same_name, has-left, has-right, is-one}
use Rattle.gl_grok.proofs.Spelling.{text-deeper}

find-alike : (p r : List ℕ → Bool) (xs : Names) → ((q : List ℕ) → contains xs q ≡ true → p q ≡ r q) → find p xs ≡ find r xs
find-alike p r [] each = refl
find-alike p r (x ∷ xs) each =
    ap (λ b. cond b (Some x) (find p xs)) (each x (has-left (x ∷ []) xs x (is-one x)))
    ∙ ap (λ o. cond (r x) (Some x) o) (find-alike p r xs (λ q h. each q (has-right (x ∷ []) xs q h)))

module _ (table other : Table) (text : List ℕ) (agree : (name : List ℕ) → Reaches table text name → pattern_in other name ≡ pattern_in table name) where
  abbrev AreReached : Names → Type 0
  AreReached names = (q : List ℕ) → contains names q ≡ true → Reaches table text q

  same_pattern : (name : List ℕ) → Reaches table text name → pattern_of other name ≡ pattern_of table name
  same_pattern name r = ap (λ o. unwrap_or o []) (agree name r)

  inside : (name : List ℕ) → Reaches table text name → AreReached (names_in (pattern_of table name))
  inside name r q h = through r h

  first : (x : List ℕ) (xs : Names) → AreReached (x ∷ xs) → Reaches table text x
  first x xs all = all x (has-left (x ∷ []) xs x (is-one x))

  others : (x : List ℕ) (xs : Names) → AreReached (x ∷ xs) → AreReached xs
  others x xs all q h = all q (has-right (x ∷ []) xs q h)

  fold-alike : (f g : Names → List ℕ → Names) → ((names : Names) (name : List ℕ) → Reaches table text name → f names name ≡ g names name) → (names xs : Names) → AreReached xs → fold f names xs ≡ fold g names xs
  fold-alike f g each names [] all = refl
  fold-alike f g each names (x ∷ xs) all = ap (λ m. fold f m xs) (each names x (first x xs all)) ∙ fold-alike f g each (g names x) xs (others x xs all)

  met-alike : (d : ℕ) (names : Names) (name : List ℕ) → Reaches table text name → met other d names name ≡ met table d names name
  met-alike zero names name r = refl
  met-alike (suc d) names name r =
      ap (λ t. cond (contains names name) names t)
      (ap (λ p. fold (met other d) (names ++ name ∷ []) (names_in p)) (same_pattern name r)
      ∙ fold-alike (met other d) (met table d) (λ m n q. met-alike d m n q) (names ++ name ∷ []) (names_in (pattern_of table name)) (inside name r))

  names-alike : length table ≤ length other → (xs : Names) → AreReached xs → fold (met other (length other + 1)) [] xs ≡ fold (met table (length table + 1)) [] xs
  names-alike more xs all =
      fold-alike (met other (length other + 1)) (met table (length other + 1)) (met-alike (length other + 1)) [] xs all
      ∙ names-deeper table (length other + 1) xs (omega arith)

  piece-alike : (f g : Expanded → List ℕ → Expanded) → ((now : Expanded) (name : List ℕ) → Reaches table text name → f now name ≡ g now name) → (now : Expanded) (ps : List Piece) → AreReached (names_of ps) → fold (with_piece f) now ps ≡ fold (with_piece g) now ps
  piece-alike f g each now [] all = refl
  piece-alike f g each now (byte b ∷ ps) all = piece-alike f g each (with_text now (b ∷ [])) ps all
  piece-alike f g each now (reference name field ∷ ps) all =
      ap (λ e. fold (with_piece f) (with_text e (codes ")")) ps) (each (begun now field) name (first name (names_of ps) all))
      ∙ piece-alike f g each (with_text (g (begun now field) name) (codes ")")) ps (others name (names_of ps) all)

  written-alike : (d : ℕ) (now : Expanded) (part : List ℕ) → AreReached (names_in part) → written other d now part ≡ written table d now part
  written-alike zero now part all = refl
  written-alike (suc d) now part all =
      piece-alike (λ (e : Expanded) (n : List ℕ). written other d e (pattern_of other n)) (λ (e : Expanded) (n : List ℕ). written table d e (pattern_of table n))
      (λ e n r. ap (written other d e) (same_pattern n r) ∙ written-alike d e (pattern_of table n) (inside n r)) now (pieces part) all

  module _ (more : length table ≤ length other) where
    pub met-same : names_met other text ≡ names_met table text
    met-same = names-alike more (names_in text) (λ q h. refers h)

    circle-alike : (name : List ℕ) → Reaches table text name → reaches_itself other name ≡ reaches_itself table name
    circle-alike name r =
        ap (λ p. contains (names_met other p) name) (same_pattern name r)
        ∙ ap (λ m. contains m name) (names-alike more (names_in (pattern_of table name)) (inside name r))

    unknown-same : find (λ name. not (is_known other name)) (names_met other text) ≡ find (λ name. not (is_known table name)) (names_met table text)
    unknown-same =
        ap (find (λ name. not (is_known other name))) met-same
        ∙ find-alike (λ name. not (is_known other name)) (λ name. not (is_known table name)) (names_met table text)
        (λ q h. ap (λ o. not (is_some o)) (agree q (met_is_reached table text q h)))

    circle-same : find (reaches_itself other) (names_met other text) ≡ find (reaches_itself table) (names_met table text)
    circle-same =
        ap (find (reaches_itself other)) met-same
        ∙ find-alike (reaches_itself other) (reaches_itself table) (names_met table text) (λ q h. circle-alike q (met_is_reached table text q h))

    text-same : find (λ name. not (is_known table name)) (names_met table text) ≡ None → find (reaches_itself table) (names_met table text) ≡ None → expansion other text ≡ expansion table text
    text-same known ends =
        written-alike (length other + 1) (record { text = []; fields = [] }) text (λ q h. refers h)
        ∙ text-deeper table (length other + 1) text (expandable table text known ends) (omega arith) (record { text = []; fields = [] })

    by_circle : find (λ name. not (is_known table name)) (names_met table text) ≡ None → (o : Option (List ℕ)) → find (reaches_itself table) (names_met table text) ≡ o → unless_circular other text o ≡ unless_circular table text o
    by_circle known None ends = ap within (text-same known ends)
    by_circle known (Some name) ends = refl

    by_unknown : (o : Option (List ℕ)) → find (λ name. not (is_known table name)) (names_met table text) ≡ o → unless_unknown other text o ≡ unless_unknown table text o
    by_unknown None known = ap (unless_circular other text) circle-same ∙ by_circle known (find (reaches_itself table) (names_met table text)) refl
    by_unknown (Some name) known = refl

    pub answer-same : answer other text ≡ answer table text
    answer-same = ap (unless_unknown other text) unknown-same ∙ by_unknown (find (λ name. not (is_known table name)) (names_met table text)) refl

-- a table with one name more, or another pattern for it

found_at : (n : List ℕ) (k pattern : List ℕ) (table : Table) → n ≢ k → lookup (λ key. bytes_eq n key) ((k, pattern) ∷ table) ≡ lookup (λ key. bytes_eq n key) table
found_at n k pattern table apart = ap (λ b. cond b (Some pattern) (lookup (λ key. bytes_eq n key) table)) (false_from_ne_true (bytes_eq n k) (λ e. apart (same_name n k e)))

put-other : (table : Table) (name pattern n : List ℕ) → n ≢ name → pattern_in (with_pattern table name pattern) n ≡ pattern_in table n
put-other [] name pattern n apart = found_at n name pattern [] apart
put-other (x ∷ xs) name pattern n apart = by (slice_cmp nat_cmp name x.0) refl (put-other xs name pattern n apart)
  where
    by : (o : Ordering) → slice_cmp nat_cmp name x.0 ≡ o → pattern_in (with_pattern xs name pattern) n ≡ pattern_in xs n
        → lookup (λ key. bytes_eq n key) (match_ordering o ((name, pattern) ∷ x ∷ xs) ((x.0, pattern) ∷ xs) (x ∷ insert_entry (slice_cmp nat_cmp) xs name pattern)) ≡ lookup (λ key. bytes_eq n key) (x ∷ xs)
    by Less e rest = found_at n name pattern (x ∷ xs) apart
    by Equal e rest =
        let same : name ≡ x.0 = same_name name x.0 (sym (is_eq-slice_cmp name x.0) ∙ ap is_eq e) in
        found_at n x.0 pattern xs (λ h. apart (h ∙ sym same)) ∙ sym (found_at n x.0 x.1 xs (λ h. apart (h ∙ sym same)))
    by Greater e rest = ap (λ o. cond (bytes_eq n x.0) (Some x.1) o) rest

put-len : (table : Table) (name pattern : List ℕ) → length table ≤ length (with_pattern table name pattern)
put-len [] name pattern = omega arith
put-len (x ∷ xs) name pattern = by (slice_cmp nat_cmp name x.0) (put-len xs name pattern)
  where
    by : (o : Ordering) → length xs ≤ length (with_pattern xs name pattern) → length (x ∷ xs) ≤ length (match_ordering o ((name, pattern) ∷ x ∷ xs) ((x.0, pattern) ∷ xs) (x ∷ insert_entry (slice_cmp nat_cmp) xs name pattern))
    by Less rest = omega arith
    by Equal rest = omega arith
    by Greater rest = omega (arith, rest)

module _ (table : Table) (text name pattern : List ℕ) (free : contains (names_met table text) name ≡ false) where
  agrees : (n : List ℕ) → Reaches table text n → pattern_in (with_pattern table name pattern) n ≡ pattern_in table n
  agrees n r = put-other table name pattern n (λ same. let reached : contains (names_met table text) name ≡ true = subst (λ m. contains (names_met table text) m ≡ true) same (reached_is_met table text r) in absurd (let clash : true ≡ false = sym reached ∙ free in cc))

  pub put-met : names_met (with_pattern table name pattern) text ≡ names_met table text
  put-met = met-same table (with_pattern table name pattern) text agrees (put-len table name pattern)

  pub put-answer : answer (with_pattern table name pattern) text ≡ answer table text
  put-answer = answer-same table (with_pattern table name pattern) text agrees (put-len table name pattern)

-- what expands reaches just names of the table
pub known_of-ok : (table : Table) (text name : List ℕ) (expanded : Expanded) → answer table text ≡ Ok expanded → contains (names_met table text) name ≡ true → is_known table name ≡ true
known_of-ok table text name expanded ok h = by (find (λ n. not (is_known table n)) (names_met table text)) refl
  where
    by : (o : Option (List ℕ)) → find (λ n. not (is_known table n)) (names_met table text) ≡ o → is_known table name ≡ true
    by None e = not-false (is_known table name) (none-passes (λ n. not (is_known table n)) (names_met table text) e name h)
    by (Some q) e = absurd (let clash : unless_unknown table text (Some q) ≡ Ok expanded = ap (unless_unknown table text) (sym e) ∙ ok in cc)
