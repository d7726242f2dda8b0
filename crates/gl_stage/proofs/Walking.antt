-- One more pipeline, rule or number of a walk.
use Rattle.std.proofs.Common.{◌≡◌, ℕ, ◌+◌, ◌<◌, ◌≤◌, Bool, true, false, ◌&&◌, ◌||◌, cond, List, [], ◌∷◌, ◌++◌, length, take, get_or, set, filter, Option, Some, None, refl, sym, ap, ◌∙◌, subst, append_assoc}
use Rattle.std.specs.Prelude.{filter_map, slice_get, position, option_map}
use Rattle.std.specs.List.{All, list_any, list_all}
use Rattle.std.specs.Str.{bytes_eq}
use Rattle.std.proofs.lemmas.List.{append-nil, take_more, set-get_or}
use Rattle.std.proofs.lemmas.List.Sums.{fold-append}
use Rattle.std.proofs.lemmas.Option.{slice_get-map, slice_get-get_or, slice_get_past}
use Rattle.std.proofs.lemmas.List.Elements.{filter-append, filter_map-append}
use Rattle.std.proofs.lemmas.List.Folds.{list_any-append, list_all-append}
use Rattle.gl_base.proofs.Counting.{find-map, find_at_none, find_at_some}
use Rattle.gl_rulelang.specs.Tree.{RuleTree}
use Rattle.gl_functions.specs.Worlds.{Known}
use Rattle.gl_eval.specs.declared.staged.Staged.{Staged}
use Rattle.gl_eval.specs.Actions.{acted}
use Rattle.gl_stage.specs.Stages.{rule_named, acted_all}
use Rattle.gl_stage.specs.Books.{Book, Fits, rules_in, rules_at}

and_true_right : (b : Bool) → (b && true) ≡ b
and_true_right true = refl
and_true_right false = refl

and_false_right : (b : Bool) → (b && false) ≡ false
and_false_right true = refl
and_false_right false = refl

or_true_right : (b : Bool) → (b || true) ≡ true
or_true_right true = refl
or_true_right false = refl

or_false_right : (b : Bool) → (b || false) ≡ b
or_false_right true = refl
or_false_right false = refl

-- A list with one more at its end.

module _ {X : Type 0} where
  pub filter_in : (p : X → Bool) (xs : List X) (x : X) → p x ≡ true → filter p (xs ++ x ∷ []) ≡ filter p xs ++ x ∷ []
  filter_in p xs x e = filter-append p xs (x ∷ []) ∙ ap (λ b. filter p xs ++ cond b (x ∷ []) []) e

  pub filter_out : (p : X → Bool) (xs : List X) (x : X) → p x ≡ false → filter p (xs ++ x ∷ []) ≡ filter p xs
  filter_out p xs x e = filter-append p xs (x ∷ []) ∙ ap (λ b. filter p xs ++ cond b (x ∷ []) []) e ∙ append-nil (filter p xs)

  pub all_one : (p : X → Bool) (xs : List X) (x : X) → list_all p (xs ++ x ∷ []) ≡ (list_all p xs && p x)
  all_one p xs x = list_all-append p xs (x ∷ []) ∙ ap (λ b. list_all p xs && b) (and_true_right (p x))

  pub any_one : (p : X → Bool) (xs : List X) (x : X) → list_any p (xs ++ x ∷ []) ≡ (list_any p xs || p x)
  any_one p xs x = list_any-append p xs (x ∷ []) ∙ ap (λ b. list_any p xs || b) (or_false_right (p x))

module _ {X Y : Type 0} where
  pub mapped_in : (h : X → Option Y) (xs : List X) (x : X) (y : Y) → h x ≡ Some y → filter_map h (xs ++ x ∷ []) ≡ filter_map h xs ++ y ∷ []
  mapped_in h xs x y e = filter_map-append h xs (x ∷ []) ∙ ap (λ l. filter_map h xs ++ l) (one (h x) e)
    where
      one : (o : Option Y) → o ≡ Some y → filter_map (λ (z : X). o) (x ∷ []) ≡ y ∷ []
      one o e = ap (λ (r : Option Y). filter_map (λ (z : X). r) (x ∷ [])) e

  pub mapped_out : (h : X → Option Y) (xs : List X) (x : X) → h x ≡ None → filter_map h (xs ++ x ∷ []) ≡ filter_map h xs
  mapped_out h xs x e = filter_map-append h xs (x ∷ []) ∙ ap (λ l. filter_map h xs ++ l) (one (h x) e) ∙ append-nil (filter_map h xs)
    where
      one : (o : Option Y) → o ≡ None → filter_map (λ (z : X). o) (x ∷ []) ≡ []
      one o e = ap (λ (r : Option Y). filter_map (λ (z : X). r) (x ∷ [])) e

-- The rules of a book.

abbrev is_called : List ℕ → RuleTree × List (List ℕ) → Bool
is_called name kept = bytes_eq name kept.0.name

pub not_there : (book : Book) (name : List ℕ) → position (is_called name) book ≡ None → rule_named (rules_in book) name ≡ None
not_there book name e =
    find-map (λ (rule : RuleTree). bytes_eq name rule.name) (λ (kept : RuleTree × List (List ℕ)). kept.0) book
    ∙ ap (option_map (λ (kept : RuleTree × List (List ℕ)). kept.0)) (find_at_none (is_called name) book e)

pub is_there : (book : Book) (name : List ℕ) (i : ℕ) (kept : RuleTree × List (List ℕ)) → position (is_called name) book ≡ Some i → kept ≡ get_or book i kept
    → rule_named (rules_in book) name ≡ Some kept.0
is_there book name i kept e at =
    find-map (λ (rule : RuleTree). bytes_eq name rule.name) (λ (k : RuleTree × List (List ℕ)). k.0) book
    ∙ ap (option_map (λ (k : RuleTree × List (List ℕ)). k.0)) ((find_at_some (is_called name) book i kept e).2 ∙ ap Some (sym at))

pub within_book : (book : Book) (name : List ℕ) (i : ℕ) (d : RuleTree × List (List ℕ)) → position (is_called name) book ≡ Some i → i < length book
within_book book name i d e = (find_at_some (is_called name) book i d e).0

pub rule_at : (book : Book) (i : ℕ) (kept : RuleTree × List (List ℕ)) → i < length book → kept ≡ get_or book i kept → slice_get (rules_in book) i ≡ Some kept.0
rule_at book i kept within at =
    slice_get-map (λ (k : RuleTree × List (List ℕ)). k.0) book i
    ∙ ap (option_map (λ (k : RuleTree × List (List ℕ)). k.0)) (slice_get-get_or book i kept within ∙ ap Some (sym at))

pub no_rule_at : (book : Book) (i : ℕ) → length book ≤ i → slice_get (rules_in book) i ≡ None
no_rule_at book i past =
    slice_get-map (λ (k : RuleTree × List (List ℕ)). k.0) book i ∙ ap (option_map (λ (k : RuleTree × List (List ℕ)). k.0)) (slice_get_past book i past)

-- One more of the names of a stage.

module _ (book : Book) (holds : RuleTree → Bool) where
  abbrev found : List (List ℕ) → List RuleTree
  found names = filter_map (rule_named (rules_in book)) names

  -- what is known behind these names: the places of those that hold, whether each did, and whether one did
  pub record LooksAt (names : List (List ℕ)) (before places : List ℕ) (all some : Bool) : Type 0 where
    pub held : rules_at book places ≡ rules_at book before ++ filter holds (filter_map (rule_named (rules_in book)) names)
    pub each : all ≡ list_all holds (filter_map (rule_named (rules_in book)) names)
    pub one : some ≡ list_any holds (filter_map (rule_named (rules_in book)) names)

  pub looks_at_none : (before : List ℕ) → LooksAt [] before before true false
  looks_at_none before = record { held = sym (append-nil (rules_at book before)); each = refl; one = refl }

  looks_along : (names others : List (List ℕ)) (before places : List ℕ) (all some : Bool) → found others ≡ found names
      → LooksAt names before places all some → LooksAt others before places all some
  looks_along names others before places all some e looks = record {
    held = looks.held ∙ ap (λ (l : List RuleTree). rules_at book before ++ filter holds l) (sym e);
    each = looks.each ∙ ap (list_all holds) (sym e);
    one = looks.one ∙ ap (list_any holds) (sym e);
  }

  pub looks_as : {names : List (List ℕ)} {before places : List ℕ} {all some : Bool} (others : List ℕ) (every one : Bool) → others ≡ places → every ≡ all → one ≡ some
      → LooksAt names before places all some → LooksAt names before others every one
  looks_as others every one e f g looks = record {
    held = ap (rules_at book) e ∙ looks.held;
    each = f ∙ looks.each;
    one = g ∙ looks.one;
  }

  pub looks_past : (names : List (List ℕ)) (i : ℕ) (name : List ℕ) (before places : List ℕ) (all some : Bool) → i < length names → name ≡ get_or names i name
      → rule_named (rules_in book) name ≡ None → LooksAt (take i names) before places all some → LooksAt (take (i + 1) names) before places all some
  looks_past names i name before places all some within at e looks =
      looks_along (take i names) (take (i + 1) names) before places all some
      (ap found (take_more names i name within ∙ ap (λ n. take i names ++ n ∷ []) (sym at)) ∙ mapped_out (rule_named (rules_in book)) (take i names) name e)
      looks

  more_found : (names : List (List ℕ)) (i : ℕ) (name : List ℕ) (rule : RuleTree) → i < length names → name ≡ get_or names i name
      → rule_named (rules_in book) name ≡ Some rule → found (take (i + 1) names) ≡ found (take i names) ++ rule ∷ []
  more_found names i name rule within at e =
      ap found (take_more names i name within ∙ ap (λ n. take i names ++ n ∷ []) (sym at)) ∙ mapped_in (rule_named (rules_in book)) (take i names) name rule e

  pub looks_held : (names : List (List ℕ)) (i : ℕ) (name : List ℕ) (rule : RuleTree) (place : ℕ) (before places : List ℕ) (all some : Bool)
      → i < length names → name ≡ get_or names i name → rule_named (rules_in book) name ≡ Some rule → slice_get (rules_in book) place ≡ Some rule → holds rule ≡ true
      → LooksAt (take i names) before places all some → LooksAt (take (i + 1) names) before (places ++ place ∷ []) all true
  looks_held names i name rule place before places all some within at e placed passes looks =
      let more : found (take (i + 1) names) ≡ found (take i names) ++ rule ∷ [] = more_found names i name rule within at e in record {
        held =
            mapped_in (slice_get (rules_in book)) places place rule placed
            ∙ ap (λ (l : List RuleTree). l ++ rule ∷ []) looks.held
            ∙ append_assoc (rules_at book before) (filter holds (found (take i names))) (rule ∷ [])
            ∙ ap (λ (l : List RuleTree). rules_at book before ++ l) (sym (ap (filter holds) more ∙ filter_in holds (found (take i names)) rule passes));
        each =
            looks.each
            ∙ sym (ap (list_all holds) more ∙ all_one holds (found (take i names)) rule ∙ ap (λ b. list_all holds (found (take i names)) && b) passes ∙ and_true_right (list_all holds (found (take i names))));
        one =
            sym (ap (list_any holds) more ∙ any_one holds (found (take i names)) rule ∙ ap (λ b. list_any holds (found (take i names)) || b) passes ∙ or_true_right (list_any holds (found (take i names))));
      }

  pub looks_unheld : (names : List (List ℕ)) (i : ℕ) (name : List ℕ) (rule : RuleTree) (before places : List ℕ) (all some : Bool)
      → i < length names → name ≡ get_or names i name → rule_named (rules_in book) name ≡ Some rule → holds rule ≡ false
      → LooksAt (take i names) before places all some → LooksAt (take (i + 1) names) before places false some
  looks_unheld names i name rule before places all some within at e fails looks =
      let more : found (take (i + 1) names) ≡ found (take i names) ++ rule ∷ [] = more_found names i name rule within at e in record {
        held = looks.held ∙ ap (λ (l : List RuleTree). rules_at book before ++ l) (sym (ap (filter holds) more ∙ filter_out holds (found (take i names)) rule fails));
        each = sym (ap (list_all holds) more ∙ all_one holds (found (take i names)) rule ∙ ap (λ b. list_all holds (found (take i names)) && b) fails ∙ and_false_right (list_all holds (found (take i names))));
        one =
            looks.one
            ∙ sym (ap (list_any holds) more ∙ any_one holds (found (take i names)) rule ∙ ap (λ b. list_any holds (found (take i names)) || b) fails ∙ or_false_right (list_any holds (found (take i names))));
      }

-- The actions of one more rule.

pub fits_at : (book rules : Book) (i : ℕ) (kept : RuleTree × List (List ℕ)) → rules ≡ book → All Fits book → i < length rules → kept ≡ get_or rules i kept → Fits kept
fits_at book rules i kept same fits within at = subst Fits (sym at) (subst (All Fits) (sym same) fits i kept within)

pub put_back : (book rules : Book) (i : ℕ) (kept new : RuleTree × List (List ℕ)) → rules ≡ book → kept ≡ get_or rules i kept → new ≡ kept → set rules i new ≡ book
put_back book rules i kept new same at e = ap (set rules i) (e ∙ at) ∙ set-get_or rules i kept ∙ same

module _ (world : Known) (book : Book) (before : Staged) where
  more_acted : (places : List ℕ) (i : ℕ) (rules : List RuleTree) → i < length places → rules_at book (take (i + 1) places) ≡ rules_at book (take i places) ++ rules
      → acted_all world (rules_at book (take (i + 1) places)) before ≡ acted_all world rules (acted_all world (rules_at book (take i places)) before)
  more_acted places i rules within e =
      ap (λ (l : List RuleTree). acted_all world l before) e ∙ fold-append (λ m rule. acted world rule m) before (rules_at book (take i places)) rules

  pub acted_more : (places : List ℕ) (i : ℕ) (kept : RuleTree × List (List ℕ)) (message : Staged) → i < length places → get_or places i 0 < length book → kept ≡ get_or book (get_or places i 0) kept
      → message ≡ acted_all world (rules_at book (take i places)) before → acted world kept.0 message ≡ acted_all world (rules_at book (take (i + 1) places)) before
  acted_more places i kept message within there at e =
      ap (acted world kept.0) e
      ∙ sym (more_acted places i (kept.0 ∷ []) within
      (ap (rules_at book) (take_more places i 0 within) ∙ mapped_in (slice_get (rules_in book)) (take i places) (get_or places i 0) kept.0 (rule_at book (get_or places i 0) kept there at)))

  pub acted_past : (places : List ℕ) (i : ℕ) (message : Staged) → i < length places → length book ≤ get_or places i 0
      → message ≡ acted_all world (rules_at book (take i places)) before → message ≡ acted_all world (rules_at book (take (i + 1) places)) before
  acted_past places i message within past e =
      e
      ∙ sym (ap (λ (l : List RuleTree). acted_all world l before)
      (ap (rules_at book) (take_more places i 0 within) ∙ mapped_out (slice_get (rules_in book)) (take i places) (get_or places i 0) (no_rule_at book (get_or places i 0) past)))
