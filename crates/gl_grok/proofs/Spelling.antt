-- What texts become, piece by piece.
use Rattle.std.proofs.Common.{◌≡◌, ⊎_elim, ℕ, zero, suc, ◌+◌, ◌<◌, ◌≤◌, true, false, List, [], ◌∷◌, ◌++◌, map, length, fold, Option, Some, None, Ok, Err, refl, sym, ap, subst, ◌∙◌, arith, append_assoc, length-append}
use Rattle.std.proofs.lemmas.List.{append-nil}
use Rattle.std.specs.Fmt.{decimal}
use Rattle.std.specs.Prelude.{is_some, codes, nat_lt}
use Rattle.std.proofs.lemmas.Bool.{cases_lt, or_left, or_right, false_from_ne_true, both_ways, cond-true, lt-ltb}
use Rattle.std.specs.Str.{bytes_eq}
use Rattle.gl_grok.specs.declared.expansion.Expanded.{Expanded}
use Rattle.gl_grok.specs.Expansion.{with_text, begun, with_piece, written}
use Rattle.gl_grok.specs.Names.{contains, Reaches, refers, through, reaches_itself}
use Rattle.gl_grok.specs.Pieces.{Piece, byte, reference, pieces, names_of, names_in}
use Rattle.gl_grok.specs.Tables.{Table, pattern_in, pattern_of}
use Rattle.gl_grok.specs.Unwinding.{IsExpandable, whole, grouped, finished}
use Rattle.gl_grok.proofs.Rooms.{Names, itself, has-either, has-one, room, one, room-new, room-all}
use Rattle.gl_grok.specs.declared.refusal.GrokRefusal.TheVariants as refusals
use Rattle.gl_grok.specs.Answers.{within}
use Rattle.gl_grok.proofs.Meeting.{reached_is_met}
use Rattle.gl_grok.proofs.Walking.{names-cut}

fold-same : (f g : Expanded → List ℕ → Expanded) (ps : List Piece) → ((name : List ℕ) (now : Expanded) → contains (names_of ps) name ≡ true → f now name ≡ g now name)
    → (now : Expanded) → fold (with_piece f) now ps ≡ fold (with_piece g) now ps
fold-same f g [] h now = refl
fold-same f g (byte b ∷ ps) h now = fold-same f g ps h (with_text now (b ∷ []))
fold-same f g (reference name field ∷ ps) h now =
    ap (λ (e : Expanded). fold (with_piece f) (with_text e (codes ")")) ps) (h name (begun now field) (or_left (bytes_eq name name) (contains (names_of ps) name) (itself name)))
    ∙ fold-same f g ps (λ n now e. h n now (or_right (bytes_eq n name) (contains (names_of ps) n) e)) (with_text (g (begun now field) name) (codes ")"))

abbrev pub with_fields : List (List ℕ) → List ℕ → Expanded
with_fields fields text = record { text = text; fields = fields }

with_none : (now : Expanded) → with_text now [] ≡ now
with_none now = ap (with_fields now.fields) (append-nil now.text)

pub with_both : (now : Expanded) (a b : List ℕ) → with_text (with_text now a) b ≡ with_text now (a ++ b)
with_both now a b = ap (with_fields now.fields) (append_assoc now.text a b)

fold-bytes : (f : Expanded → List ℕ → Expanded) (text : List ℕ) (ps : List Piece) (now : Expanded) → fold (with_piece f) now (map (λ b. byte b) text ++ ps) ≡ fold (with_piece f) (with_text now text) ps
fold-bytes f [] ps now = ap (λ (e : Expanded). fold (with_piece f) e ps) (sym (with_none now))
fold-bytes f (b ∷ text) ps now = fold-bytes f text ps (with_text now (b ∷ [])) ∙ ap (λ (e : Expanded). fold (with_piece f) e ps) (with_both now (b ∷ []) text)

module _ (table : Table) where
  pub further : {name q : List ℕ} (text : List ℕ) → Reaches table text name → Reaches table (pattern_of table name) q → Reaches table text q
  further text r (refers h) = through r h
  further text r (through s h) = through (further text r s) h

  pub expandable-inside : (text name : List ℕ) → IsExpandable table text → contains (names_in text) name ≡ true → IsExpandable table (pattern_of table name)
  expandable-inside text name good e q s = good q (further text (refers e) s)

  pub expandable-part : (text part : List ℕ) → IsExpandable table text → ((q : List ℕ) → contains (names_in part) q ≡ true → contains (names_in text) q ≡ true) → IsExpandable table part
  expandable-part text part good h q s = good q (up s)
    where
      up : {n : List ℕ} → Reaches table part n → Reaches table text n
      up (refers e) = refers (h _ e)
      up (through r e) = through (up r) e

  deep : (d : ℕ) (path : Names) (text : List ℕ) → ((q : List ℕ) → Reaches table text q → contains path q ≡ false) → IsExpandable table text → room one table path < d
      → (now : Expanded) → written table d now text ≡ written table (suc d) now text
  deep zero path text free good lt now = absurd (omega arith)
  deep (suc d) path text free good lt now =
      fold-same (λ e n. written table d e (pattern_of table n)) (λ e n. written table (suc d) e (pattern_of table n)) (pieces text)
      (λ name e h.
      let r = refers h in
      deep d (path ++ name ∷ []) (pattern_of table name)
      (λ q s. not_on name h q s)
      (expandable-inside text name good h)
      (by name (free name r) (pattern_in table name) refl (good name r).0) e)
      now
    where
      not_on : (name : List ℕ) → contains (names_in text) name ≡ true → (q : List ℕ) → Reaches table (pattern_of table name) q → contains (path ++ name ∷ []) q ≡ false
      not_on name h q s = false_from_ne_true (contains (path ++ name ∷ []) q) (λ e. ⊎_elim
          (λ l. both_ways (contains path q) (free q (further text (refers h) s)) l)
          (λ l. both_ways (reaches_itself table name) (good name (refers h)).1
          (reached_is_met table (pattern_of table name) (subst (λ (n : List ℕ). Reaches table (pattern_of table name) n) (has-one name q l) s)))
          (has-either path (name ∷ []) q e))

      by : (name : List ℕ) → contains path name ≡ false → (o : Option (List ℕ)) → pattern_in table name ≡ o → is_some o ≡ true → room one table (path ++ name ∷ []) < d
      by name new None e some = absurd cc
      by name new (Some pattern) e some = let less = room-new one table path name pattern new e in omega arith

  -- any depth that is enough gives the same text
  pub text-deeper : (d : ℕ) (text : List ℕ) → IsExpandable table text → length table < d → (now : Expanded) → written table d now text ≡ whole table now text
  text-deeper zero text good lt now = absurd (omega arith)
  text-deeper (suc d) text good lt now = ⊎_elim
      (λ more. let all = room-all table [] in sym (deep d [] text (λ q r. refl) good (omega arith) now) ∙ text-deeper d text good more now)
      (λ least. let e : suc d ≡ length table + 1 = omega arith in ap (λ (n : ℕ). written table n now text) e)
      (cases_lt (length table) d)

  pub whole-turn : (now : Expanded) (text : List ℕ) → IsExpandable table text → whole table now text ≡ fold (with_piece (λ e n. whole table e (pattern_of table n))) now (pieces text)
  whole-turn now text good = let all = room-all table [] in deep (length table + 1) [] text (λ q r. refl) good (omega arith) now

  pub whole-plain : (now : Expanded) (rest : List ℕ) → IsExpandable table rest → pieces rest ≡ map (λ b. byte b) rest → whole table now rest ≡ with_text now rest
  whole-plain now rest good e =
      whole-turn now rest good ∙ ap (fold (with_piece (λ e n. whole table e (pattern_of table n))) now) (e ∙ sym (append-nil (map (λ b. byte b) rest)))
      ∙ fold-bytes (λ e n. whole table e (pattern_of table n)) rest [] now

  pub whole-cut : (now : Expanded) (rest before after : List ℕ) (piece : Piece) → IsExpandable table rest → IsExpandable table after → pieces rest ≡ map (λ b. byte b) before ++ piece ∷ pieces after
      → whole table now rest ≡ whole table (with_piece (λ e n. whole table e (pattern_of table n)) (with_text now before) piece) after
  whole-cut now rest before after piece good rest_good e =
      whole-turn now rest good ∙ ap (fold (with_piece (λ e n. whole table e (pattern_of table n))) now) e
      ∙ fold-bytes (λ e n. whole table e (pattern_of table n)) before (piece ∷ pieces after) now
      ∙ sym (whole-turn (with_piece (λ e n. whole table e (pattern_of table n)) (with_text now before) piece) after rest_good)

  -- rests of texts that stand in one another

  grouped-push : (rests : Names) (rest : List ℕ) (now : Expanded) → grouped table (rests ++ rest ∷ []) now ≡ grouped table rests (with_text (whole table now rest) (codes ")"))
  grouped-push [] rest now = refl
  grouped-push (r ∷ rests) rest now = ap (λ (e : Expanded). with_text (whole table e r) (codes ")")) (grouped-push rests rest now)

  pub finished-inner : (rests : Names) (rest inner : List ℕ) (now : Expanded) → finished table ((rests ++ rest ∷ []) ++ inner ∷ []) now ≡ finished table (rests ++ rest ∷ []) (with_text (whole table now inner) (codes ")"))
  finished-inner [] rest inner now = refl
  finished-inner (r ∷ rests) rest inner now = ap (λ (e : Expanded). whole table e r) (grouped-push (rests ++ rest ∷ []) inner now)

  pub finished-end : (rests : Names) (rest : List ℕ) (now : Expanded) → 0 < length rests → finished table (rests ++ rest ∷ []) now ≡ finished table rests (with_text (whole table now rest) (codes ")"))
  finished-end [] rest now some = absurd (omega arith)
  finished-end (r ∷ rests) rest now some = ap (λ (e : Expanded). whole table e r) (grouped-push rests rest now)

  pub finished-last : (rests : Names) (rest after : List ℕ) (now next : Expanded) → whole table now rest ≡ whole table next after → finished table (rests ++ rest ∷ []) now ≡ finished table (rests ++ after ∷ []) next
  finished-last [] rest after now next e = e
  finished-last (r ∷ rests) rest after now next e =
      ap (λ (x : Expanded). whole table x r) (grouped-push rests rest now ∙ ap (λ (x : Expanded). grouped table rests (with_text x (codes ")"))) e ∙ sym (grouped-push rests after next))

  -- what is written grows

  with-grows : (now : Expanded) (text : List ℕ) → length now.text ≤ length (with_text now text).text
  with-grows now text = omega (arith, length-append now.text text)

  begun-grows : (now : Expanded) (field : Option (List ℕ)) → length now.text ≤ length (begun now field).text
  begun-grows now None = with-grows now (codes "(?:")
  begun-grows now (Some field) =
      let n = decimal (length now.fields) in
      omega (arith, length-append (now.text ++ codes "(?P<g" ++ n) (codes ">"), length-append (now.text ++ codes "(?P<g") n, length-append now.text (codes "(?P<g"))

  fold-grows : (f : Expanded → List ℕ → Expanded) → ((now : Expanded) (name : List ℕ) → length now.text ≤ length (f now name).text) → (ps : List Piece) (now : Expanded) → length now.text ≤ length (fold (with_piece f) now ps).text
  fold-grows f h [] now = omega arith
  fold-grows f h (byte b ∷ ps) now = let more = fold-grows f h ps (with_text now (b ∷ [])) in omega (arith, with-grows now (b ∷ []))
  fold-grows f h (reference name field ∷ ps) now =
      let more = fold-grows f h ps (with_text (f (begun now field) name) (codes ")")) in
      omega (arith, begun-grows now field, h (begun now field) name, with-grows (f (begun now field) name) (codes ")"))

  written-grows : (d : ℕ) (now : Expanded) (text : List ℕ) → length now.text ≤ length (written table d now text).text
  written-grows zero now text = omega arith
  written-grows (suc d) now text = fold-grows (λ e n. written table d e (pattern_of table n)) (λ e n. written-grows d e (pattern_of table n)) (pieces text) now

  grouped-grows : (rests : Names) (now : Expanded) → length now.text ≤ length (grouped table rests now).text
  grouped-grows [] now = omega arith
  grouped-grows (r ∷ rests) now =
      let inner = grouped-grows rests now in
      omega (arith, written-grows (length table + 1) (grouped table rests now) r, with-grows (whole table (grouped table rests now) r) (codes ")"))

  pub finished-grows : (rests : Names) (now : Expanded) → length now.text ≤ length (finished table rests now).text
  finished-grows [] now = omega arith
  finished-grows (r ∷ rests) now =
      let inner = grouped-grows rests now in
      omega (arith, written-grows (length table + 1) (grouped table rests now) r)

-- one rest at a time

module _ (table : Table) (rests : Names) (rest : List ℕ) (now : Expanded) (good : IsExpandable table rest) where
  pub step-end : pieces rest ≡ map (λ b. byte b) rest → 0 < length rests → finished table (rests ++ rest ∷ []) now ≡ finished table rests (with_text (with_text now rest) (codes ")"))
  step-end e some = finished-end table rests rest now some ∙ ap (λ (x : Expanded). finished table rests (with_text x (codes ")"))) (whole-plain table now rest good e)

  pub step-last : pieces rest ≡ map (λ b. byte b) rest → length rests ≤ 0 → finished table (rests ++ rest ∷ []) now ≡ finished table rests (with_text now rest)
  step-last e none = by rests none
    where
      by : (rs : Names) → length rs ≤ 0 → finished table (rs ++ rest ∷ []) now ≡ finished table rs (with_text now rest)
      by [] none = whole-plain table now rest good e
      by (r ∷ rs) none = absurd (omega arith)

  module _ (before after : List ℕ) where
    pub percent-good : pieces rest ≡ map (λ b. byte b) before ++ byte 37 ∷ pieces after → IsExpandable table after
    percent-good e = expandable-part table rest after good (λ q h. subst (λ (ns : Names). contains ns q ≡ true) (sym (names-cut rest before after (byte 37) e)) h)

    pub step-percent : pieces rest ≡ map (λ b. byte b) before ++ byte 37 ∷ pieces after → finished table (rests ++ rest ∷ []) now ≡ finished table (rests ++ after ∷ []) (with_text (with_text now before) (37 ∷ []))
    step-percent e = finished-last table rests rest after now (with_text (with_text now before) (37 ∷ [])) (whole-cut table now rest before after (byte 37) good (percent-good e) e)

    module _ (name : List ℕ) (field : Option (List ℕ)) (e : pieces rest ≡ map (λ b. byte b) before ++ reference name field ∷ pieces after) where
      names : names_in rest ≡ name ∷ names_in after
      names = names-cut rest before after (reference name field) e

      pub after-good : IsExpandable table after
      after-good = expandable-part table rest after good (λ q h. subst (λ (ns : Names). contains ns q ≡ true) (sym names) (or_right (bytes_eq q name) (contains (names_in after) q) h))

      pub inside-good : IsExpandable table (pattern_of table name)
      inside-good = expandable-inside table rest name good (subst (λ (ns : Names). contains ns name ≡ true) (sym names) (or_left (bytes_eq name name) (contains (names_in after) name) (itself name)))

      pub step-reference : finished table (rests ++ rest ∷ []) now ≡ finished table ((rests ++ after ∷ []) ++ pattern_of table name ∷ []) (begun (with_text now before) field)
      step-reference =
          finished-last table rests rest after now (with_text (whole table (begun (with_text now before) field) (pattern_of table name)) (codes ")"))
          (whole-cut table now rest before after (reference name field) good after-good e)
          ∙ sym (finished-inner table rests after (pattern_of table name) (begun (with_text now before) field))

-- what is longer than an expansion may be is no expansion
pub too_long : (table : Table) (rests : Names) (now whole : Expanded) → finished table rests now ≡ whole → 8192 < length now.text → within whole ≡ Err refusals.TooLong
too_long table rests now whole e h =
    let more = finished-grows table rests now in
    let long : length (finished table rests now).text ≡ length whole.text = ap (λ (x : Expanded). length x.text) e in
    cond-true (nat_lt 8192 (length whole.text)) (Err refusals.TooLong) (Ok whole) (lt-ltb 8192 (length whole.text) (omega arith))
