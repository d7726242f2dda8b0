-- Rows that come into index sets, one after another, and their words.
use Rattle.std.proofs.Common.{◌≡◌, ◌⊎◌, inl, inr, ℕ, zero, suc, ◌+◌, ◌-◌, ◌^◌, ◌<◌, ◌≤◌, ◌==◌, Bool, true, false, not, ◌&&◌, ◌||◌, cond, List, [], ◌∷◌, ◌++◌, length, get_or, filter, take, drop, reverse, Option, Some, Result, Ok, Err, refl, sym, ◌∙◌, ap, subst, arith, append_assoc}
use Rattle.std.specs.List.{All, AllPairs, Contains, list_any}
use Rattle.std.specs.Result.{OnErr}
use Rattle.std.specs.Str.{bytes_eq}
use Rattle.std.proofs.lemmas.Bool.Decides.{nat_tests}
use Rattle.std.specs.List.{slice_get}
use Rattle.std.proofs.lemmas.List.{reverse-append, take-append-drop, take_more, get_or-drop, length-drop}
use Rattle.std.proofs.lemmas.Option.{get_or_from_slice_get}
use Rattle.std.proofs.lemmas.List.Elements.{All-head, All-tail, Contains-append_left, Contains-append_right, filter-append}
use Rattle.std.proofs.lemmas.List.Kept.{AllPairs-filter}
use Rattle.gl_fields.specs.declared.set_rule.SetRule.{SetRule}
use Rattle.gl_fields.specs.Fields.{comes_before}
use Rattle.gl_indexset.specs.declared.row.Row.{Row}
use Rattle.gl_indexset.specs.Kept.{AreFalling, AreKnown, Kept, is_known, rules_of, spare_of}
use Rattle.gl_indexset.specs.Kept as kept_sets
use Rattle.gl_indexset.specs.Leaving.{IsGoneOn, IsStepOfLeaving, is_filed, left_below, staying, without}
use Rattle.gl_indexset.specs.Retention.{is_in, is_live_in, live_among, live_rows, with_rule}
use Rattle.gl_indexset.specs.Rising.{AreBelow, AreRising}
use Rattle.gl_postings.specs.declared.postings.Postings.{Postings}
use Rattle.gl_postings.specs.Postings as kept_words
use Rattle.gl_postings.specs.Indexed.{IsReady, MayCome, SetsStand, filed, stored}
use Rattle.gl_postings.proofs.Leaving.{Before, each_joined, pairs_joined, rising_front, without_front, without_middle}
use Rattle.gl_postings.proofs.Ordering.{Each, Pairs, all_pairs, each_at, each_from, pairs_from}

-- Fronts of the rows that come.

pub filed_joined : (xs ys : List Row) → filed (xs ++ ys) ≡ filed xs ++ filed ys
filed_joined xs ys = filter-append (λ (row : Row). not (length row.sets == 0)) xs ys

-- the words of a front, behind others
pub rising_so_far : (rows more : List Row) (k : ℕ) → AreRising (rows ++ filed more) → AreRising (rows ++ filed (take k more))
rising_so_far rows more k rising =
    rising_front (rows ++ filed (take k more)) (filed (drop k more))
    (subst AreRising (ap (λ xs. rows ++ filed xs) (sym (take-append-drop k more)) ∙ ap (λ xs. rows ++ xs) (filed_joined (take k more) (drop k more)) ∙ sym (append_assoc rows (filed (take k more)) (filed (drop k more)))) rising)

-- Rows that are live are of those that were stored, and so stand below the next position.

below_all : (rules : List SetRule) (all before : List Row) (next : ℕ) → AreFalling next before → Each (λ (row : Row). row.position < next) (live_among rules all before)
below_all rules all [] next falling = tt
below_all rules all (row ∷ before) next falling =
    each_joined (λ (other : Row). other.position < next) (live_among rules all before) (cond (list_any (is_live_in all before row) rules) (row ∷ []) [])
    (raised (live_among rules all before) (below_all rules all before row.position falling.1))
    (over (list_any (is_live_in all before row) rules))
  where
    raised : (xs : List Row) → Each (λ (other : Row). other.position < row.position) xs → Each (λ (other : Row). other.position < next) xs
    raised [] e = tt
    raised (x ∷ xs) e = (omega (arith, e.0, falling.0), raised xs e.1)

    over : (b : Bool) → Each (λ (other : Row). other.position < next) (cond b (row ∷ []) [])
    over true = (falling.0, tt)
    over false = tt

-- live rows, and behind them those that may come
pub rising_behind : (sets : Kept) (rules : List SetRule) (all more : List Row) → SetsStand sets rules all → MayCome sets more → AreRising (live_rows rules all) → AreRising (live_rows rules all ++ filed more)
rising_behind sets rules all more stands come rising =
    all_pairs Before (live_rows rules all ++ filed more)
    (pairs_joined Before (live_rows rules all) (filed more)
    (pairs_from Before (live_rows rules all) rising)
    (pairs_from Before (filed more) (AllPairs-filter Before (λ (row : Row). not (length row.sets == 0)) more come.rising))
    (across (live_rows rules all) (below_all rules all all sets.next stands.rows.falling)))
  where
    above : (xs : List Row) → Each (λ (row : Row). sets.next ≤ row.position) xs → Each (λ (row : Row). sets.next ≤ row.position) (filed xs)
    above [] e = tt
    above (x ∷ xs) e = over (not (length x.sets == 0)) (above xs e.1)
      where
        over : (b : Bool) → Each (λ (row : Row). sets.next ≤ row.position) (filed xs) → Each (λ (row : Row). sets.next ≤ row.position) (cond b (x ∷ filed xs) (filed xs))
        over true rest = (e.0, rest)
        over false rest = rest

    each_above : Each (λ (row : Row). sets.next ≤ row.position) (filed more)
    each_above = above more (each_from (λ (row : Row). sets.next ≤ row.position) more come.above)

    behind : (x : Row) → x.position < sets.next → (ys : List Row) → Each (λ (row : Row). sets.next ≤ row.position) ys → Each (Before x) ys
    behind x lt [] e = tt
    behind x lt (y ∷ ys) e = (omega (arith, lt, e.0), behind x lt ys e.1)

    across : (xs : List Row) → Each (λ (row : Row). row.position < sets.next) xs → Each (λ x. Each (Before x) (filed more)) xs
    across [] e = tt
    across (x ∷ xs) e = (behind x e.0 (filed more) each_above, across xs e.1)

-- A row that names a set goes into one that keeps an index, since each does.

none_in : (rules : List SetRule) (row : Row) → row.sets ≡ [] → is_filed rules row ≡ false
none_in [] row none = refl
none_in (rule ∷ rules) row none = both (is_in rule row) (not (rule.keep == 0)) (is_filed rules row) (ap (λ names. list_any (λ name. bytes_eq name rule.name) names) none) (none_in rules row none)
  where
    both : (a b c : Bool) → a ≡ false → c ≡ false → (a && b || c) ≡ false
    both true b c e f = cc e
    both false b c e f = f

some_in : (rules : List SetRule) (row : Row) (name : List ℕ) (names : List (List ℕ)) → row.sets ≡ name ∷ names → is_known rules name ≡ true → All (λ (rule : SetRule). 0 < rule.keep) rules → is_filed rules row ≡ true
some_in [] row name names some known keep = cc known
some_in (rule ∷ rules) row name names some known keep =
    over (bytes_eq name rule.name) (is_known rules name) (is_in rule row) (not (rule.keep == 0)) (is_filed rules row) known
    (λ first. named first) (keeps rule.keep (All-head (λ (r : SetRule). 0 < r.keep) rule rules keep))
    (λ later. some_in rules row name names some later (All-tail (λ (r : SetRule). 0 < r.keep) rule rules keep))
  where
    keeps : (n : ℕ) → 0 < n → not (n == 0) ≡ true
    keeps n lt = grind (arith, nat_tests)

    one : (a b : Bool) → a ≡ true → (a || b) ≡ true
    one true b e = refl
    one false b e = cc e

    named : bytes_eq name rule.name ≡ true → is_in rule row ≡ true
    named first = ap (λ ns. list_any (λ n. bytes_eq n rule.name) ns) some ∙ one (bytes_eq name rule.name) (list_any (λ n. bytes_eq n rule.name) names) first

    over : (a b c d e : Bool) → (a || b) ≡ true → (a ≡ true → c ≡ true) → d ≡ true → (b ≡ true → e ≡ true) → (c && d || e) ≡ true
    over true b c d e h i j k = cc (i refl, j)
    over false b c d e h i j k = last (c && d) e (k h)
      where
        last : (x y : Bool) → y ≡ true → (x || y) ≡ true
        last true y f = refl
        last false y f = f

some_there : (n : ℕ) → 0 < n → not (n == 0) ≡ true
some_there n lt = grind (arith, nat_tests)

pub filed_where_named : (rules : List SetRule) (row : Row) → AreKnown rules row.sets → All (λ (rule : SetRule). 0 < rule.keep) rules → is_filed rules row ≡ not (length row.sets == 0)
filed_where_named rules row known keep = over row.sets refl known
  where
    over : (names : List (List ℕ)) → row.sets ≡ names → AreKnown rules names → is_filed rules row ≡ not (length names == 0)
    over [] is k = none_in rules row is
    over (name ∷ names) is k = some_in rules row name names is (All-head (λ (n : List ℕ). is_known rules n ≡ true) name names k) keep ∙ sym (some_there (suc (length names)) (omega arith))

-- The rows that stay and the one that came, and the words of those behind.

filed_next : (rules : List SetRule) (row : Row) (kept more : List Row) (b : Bool) → is_filed rules row ≡ b → b ≡ not (length row.sets == 0)
    → kept ++ filed (row ∷ more) ≡ (kept ++ cond (is_filed rules row) (row ∷ []) []) ++ filed more
filed_next rules row kept more b is same =
    ap (λ t. kept ++ cond t (row ∷ filed more) (filed more)) (sym same) ∙ over b ∙ ap (λ t. (kept ++ cond t (row ∷ []) []) ++ filed more) (sym is)
  where
    over : (t : Bool) → kept ++ cond t (row ∷ filed more) (filed more) ≡ (kept ++ cond t (row ∷ []) []) ++ filed more
    over true = sym (append_assoc kept (row ∷ []) (filed more))
    over false = sym (append_assoc kept [] (filed more))

pub words_next : (rules : List SetRule) (row : Row) (before after kept more : List Row) → AreKnown rules row.sets → All (λ (rule : SetRule). 0 < rule.keep) rules
    → IsGoneOn rules row before after → kept ≡ staying after before → kept ++ filed (row ∷ more) ≡ after ++ filed more
words_next rules row before after kept more known keep gone is =
    filed_next rules row kept more (is_filed rules row) refl (filed_where_named rules row known keep)
    ∙ ap (λ xs. (xs ++ cond (is_filed rules row) (row ∷ []) []) ++ filed more) is ∙ ap (λ xs. xs ++ filed more) (sym gone)

-- what comes once the first has come
pub come_next : (old new : Kept) (row : Row) (more : List Row) → MayCome old (row ∷ more) → rules_of new ≡ rules_of old → new.next ≡ row.position + 1 → MayCome new more
come_next old new row more come rules next = record {
  rising = λ i j d less lt. come.rising (suc i) (suc j) d (omega arith) (omega arith);
  above = λ k d lt. let less : row.position < (get_or more k d).position = come.rising zero (suc k) d (omega arith) (omega arith) in omega (arith, less, next);
  counted = All-tail (λ (r : Row). r.position < 2 ^ 64 - 1) row more come.counted;
  known = subst (λ rules. All (λ (r : Row). AreKnown rules r.sets) more) (sym rules) (All-tail (λ (r : Row). AreKnown (rules_of old) r.sets) row more come.known);
}

pub stored_next : (row : Row) (more all : List Row) → stored (row ∷ more) all ≡ stored more (row ∷ all)
stored_next row more all = ap (λ xs. xs ++ all) (reverse-append (row ∷ []) more) ∙ append_assoc (reverse more) (row ∷ []) all

-- Sets with one more rule.

pub keep_one_more : (rule : SetRule) (rules : List SetRule) → 0 < rule.keep → All (λ (r : SetRule). 0 < r.keep) rules → All (λ (r : SetRule). 0 < r.keep) (with_rule rule rules)
keep_one_more rule rules lt keep = each_at (λ (r : SetRule). 0 < r.keep) (with_rule rule rules) (into rules (each_from (λ (r : SetRule). 0 < r.keep) rules keep))
  where
    into : (rs : List SetRule) → Each (λ (r : SetRule). 0 < r.keep) rs → Each (λ (r : SetRule). 0 < r.keep) (with_rule rule rs)
    into [] e = (lt, tt)
    into (r ∷ rs) e = over (comes_before rule.name r.name) (into rs e.1)
      where
        over : (b : Bool) → Each (λ (x : SetRule). 0 < x.keep) (with_rule rule rs) → Each (λ (x : SetRule). 0 < x.keep) (cond b (rule ∷ (r ∷ rs)) (r ∷ with_rule rule rs))
        over true rest = (lt, e)
        over false rest = (e.0, rest)

pub keep_the_others : (rule : SetRule) (rules : List SetRule) → All (λ (r : SetRule). 0 < r.keep) (with_rule rule rules) → All (λ (r : SetRule). 0 < r.keep) rules
keep_the_others rule rules keep = each_at (λ (r : SetRule). 0 < r.keep) rules (out rules (each_from (λ (r : SetRule). 0 < r.keep) (with_rule rule rules) keep))
  where
    out : (rs : List SetRule) → Each (λ (r : SetRule). 0 < r.keep) (with_rule rule rs) → Each (λ (r : SetRule). 0 < r.keep) rs
    out [] e = tt
    out (r ∷ rs) e = over (comes_before rule.name r.name) e (out rs)
      where
        over : (b : Bool) → Each (λ (x : SetRule). 0 < x.keep) (cond b (rule ∷ (r ∷ rs)) (r ∷ with_rule rule rs)) → (Each (λ (x : SetRule). 0 < x.keep) (with_rule rule rs) → Each (λ (x : SetRule). 0 < x.keep) rs)
            → Each (λ (x : SetRule). 0 < x.keep) (r ∷ rs)
        over true f next = f.1
        over false f next = (f.0, next f.1)

-- Sets that changed so that the same rows are live: the words are still those of the live rows.
pub still_live : (old new : Kept) (rules later : List SetRule) (all : List Row) → kept_sets.StandsFor old all → kept_sets.StandsFor new all → rules_of old ≡ rules → rules_of new ≡ later → new.rows ≡ old.rows
    → live_rows later all ≡ live_rows rules all
still_live old new rules later all before after were are same =
    ap (λ rs. live_rows rs all) (sym are) ∙ sym after.live ∙ same ∙ before.live ∙ ap (λ rs. live_rows rs all) were

-- The live rows are those that the sets have.
pub live_are : (sets : Kept) (rules : List SetRule) (all : List Row) → SetsStand sets rules all → sets.rows ≡ live_rows rules all
live_are sets rules all stands = stands.rows.live ∙ ap (λ rs. live_rows rs all) stands.rules_are

pub words_before : (sets : Kept) (words : Postings) (rules : List SetRule) (all more : List Row) → IsReady sets words rules all more → kept_words.StandsFor words (sets.rows ++ filed more)
words_before sets words rules all more ready = subst (λ rows. kept_words.StandsFor words (rows ++ filed more)) (sym (live_are sets rules all ready.sets)) ready.words

-- The first of the rows that were made ready came.
pub settled_row : (old new : Kept) (before words : Postings) (rules : List SetRule) (all more : List Row) (row : Row) → IsReady old before rules all (row ∷ more)
    → kept_words.StandsFor words (staying (live_rows (rules_of old) (row ∷ all)) old.rows ++ filed (row ∷ more))
    → rules_of new ≡ rules_of old → new.next ≡ row.position + 1 → spare_of old ≤ spare_of new + 1 → kept_sets.StandsFor new (row ∷ all) → IsGoneOn (rules_of old) row old.rows new.rows
    → IsReady new words rules (row ∷ all) more
settled_row old new before words rules all more row ready stand same next spare stands gone =
    let are : rules_of new ≡ rules = same ∙ ready.sets.rules_are in
    let kept : staying (live_rows (rules_of old) (row ∷ all)) old.rows ≡ staying new.rows old.rows
    = ap (λ xs. staying xs old.rows) (sym (stands.live ∙ ap (λ rs. live_rows rs (row ∷ all)) same)) in
    let rows : staying (live_rows (rules_of old) (row ∷ all)) old.rows ++ filed (row ∷ more) ≡ new.rows ++ filed more
    = words_next (rules_of old) row old.rows new.rows (staying (live_rows (rules_of old) (row ∷ all)) old.rows) more
    (All-head (λ (r : Row). AreKnown (rules_of old) r.sets) row more ready.come.known)
    (subst (λ rs. All (λ (rule : SetRule). 0 < rule.keep) rs) (sym ready.sets.rules_are) ready.sets.keep) gone kept in
    record {
      sets = record { rules_are = are; keep = ready.sets.keep; rows = stands };
      words = subst (λ xs. kept_words.StandsFor words xs) (rows ∙ ap (λ xs. xs ++ filed more) (stands.live ∙ ap (λ rs. live_rows rs (row ∷ all)) are)) stand;
      room = omega (arith, ready.room, spare);
      come = come_next old new row more ready.come same next;
    }

-- Room was made, and the words of the rows that come are in.
pub prepared : (old new : Kept) (words : Postings) (rules : List SetRule) (all more : List Row) → SetsStand old rules all → MayCome old more
    → kept_sets.StandsFor new all → rules_of new ≡ rules_of old → new.next ≡ old.next → length more ≤ spare_of new → kept_words.StandsFor words (live_rows rules all ++ filed more)
    → IsReady new words rules all more
prepared old new words rules all more sets come stands same next room stand = record {
  sets = record { rules_are = same ∙ sets.rules_are; keep = sets.keep; rows = stands };
  words = stand;
  room = room;
  come = record {
    rising = come.rising;
    above = subst (λ n. All (λ (row : Row). n ≤ row.position) more) (sym next) come.above;
    counted = come.counted;
    known = subst (λ rs. All (λ (row : Row). AreKnown rs row.sets) more) (sym same) come.known;
  };
}

pub sets_stay : (old new : Kept) (rules : List SetRule) (all : List Row) → SetsStand old rules all → kept_sets.StandsFor new all → rules_of new ≡ rules_of old → SetsStand new rules all
sets_stay old new rules all sets stands same = record { rules_are = same ∙ sets.rules_are; keep = sets.keep; rows = stands }

pub at_err : {T E P : Type 0} (r : Result T E) → P → OnErr r P
at_err (Ok x) p = tt
at_err (Err e) p = p

-- The next row that leaves is among those that are still held, and its words go.
pub forgotten : (after rows rest : List Row) (from n : ℕ) (row : Row) (words new : Postings) → from ≤ n → n < length rows → slice_get rows n ≡ Some row → IsStepOfLeaving after rows from (Some n)
    → kept_words.StandsFor words (left_below after rows from ++ rest)
    → ((held : List Row) → kept_words.StandsFor words held → Contains held row → kept_words.StandsFor new (without row.position held))
    → kept_words.StandsFor new (left_below after rows (n + 1) ++ rest)
forgotten after rows rest from n row words new le lt is step stand forgets =
    let here : get_or rows n row ≡ row = get_or_from_slice_get rows n row row is in
    let behind : get_or (drop from rows) (n - from) row ≡ row
    = get_or-drop from rows (n - from) row ∙ ap (λ k. get_or rows k row) (omega arith) ∙ here in
    let less : n - from < length (drop from rows) = omega (arith, length-drop from rows) in
    let among : Contains (left_below after rows from) row
    = Contains-append_right (staying after (take from rows)) (drop from rows) row (n - from, less, behind) in
    let gone : kept_words.StandsFor new (without row.position (left_below after rows from ++ rest))
    = forgets (left_below after rows from ++ rest) stand (Contains-append_left (left_below after rows from) rest row among) in
    subst (λ xs. kept_words.StandsFor new xs)
    (without_front (left_below after rows from) rest row stand.rising among
    ∙ ap (λ xs. xs ++ rest) (ap (λ (r : Row). without r.position (left_below after rows from)) (sym here) ∙ sym (step row))) gone

pub none_left : (rows : List Row) → length rows ≡ 0 → rows ≡ []
none_left [] is = refl
none_left (row ∷ rows) is = absurd (omega arith)

-- The words of one row.

pub filed_first : (row : Row) (more : List Row) (b : Bool) → b ≡ not (length row.sets == 0) → b ≡ true → filed (row ∷ more) ≡ row ∷ filed more
filed_first row more b is true_is = ap (λ t. cond t (row ∷ filed more) (filed more)) (sym is ∙ true_is)

pub filed_past : (row : Row) (more : List Row) (b : Bool) → b ≡ not (length row.sets == 0) → b ≡ false → filed (row ∷ more) ≡ filed more
filed_past row more b is false_is = ap (λ t. cond t (row ∷ filed more) (filed more)) (sym is ∙ false_is)

pub rows_next : (rows more : List Row) (n : ℕ) (row : Row) → n < length more → get_or more n row ≡ row → (rows ++ filed (take n more)) ++ filed (row ∷ []) ≡ rows ++ filed (take (n + 1) more)
rows_next rows more n row lt is =
    append_assoc rows (filed (take n more)) (filed (row ∷ []))
    ∙ ap (λ xs. rows ++ xs) (sym (filed_joined (take n more) (row ∷ [])) ∙ ap filed (ap (λ (r : Row). take n more ++ r ∷ []) (sym is) ∙ sym (take_more more n row lt)))

pub held_in_middle : (rows more : List Row) (row : Row) → Contains (rows ++ row ∷ more) row
held_in_middle rows more row = Contains-append_right rows (row ∷ more) row (zero, omega arith, refl)

-- A row that goes into a set is taken out before those that come.
pub row_forgotten : (words new : Postings) (rows more : List Row) (row : Row) → filed (row ∷ more) ≡ row ∷ filed more → kept_words.StandsFor words (rows ++ filed (row ∷ more))
    → ((held : List Row) → kept_words.StandsFor words held → Contains held row → kept_words.StandsFor new (without row.position held))
    → kept_words.StandsFor new (rows ++ filed more)
row_forgotten words new rows more row is stand forgets =
    let held : kept_words.StandsFor words (rows ++ row ∷ filed more) = subst (λ xs. kept_words.StandsFor words (rows ++ xs)) is stand in
    subst (λ xs. kept_words.StandsFor new xs) (without_middle rows (filed more) row held.rising)
    (forgets (rows ++ row ∷ filed more) held (held_in_middle rows (filed more) row))

cut_at : (more : List Row) (k : ℕ) (row : Row) → k < length more → get_or more k row ≡ row → drop k more ≡ row ∷ drop (suc k) more
cut_at [] k row lt is = absurd (omega arith)
cut_at (r ∷ rs) zero row lt is = ap (λ (x : Row). x ∷ rs) is
cut_at (r ∷ rs) (suc k) row lt is = cut_at rs k row (omega arith) is

pub drop_next : (more : List Row) (k : ℕ) (row : Row) → k < length more → get_or more k row ≡ row → drop k more ≡ row ∷ drop (k + 1) more
drop_next more k row lt is =
    let next : suc k ≡ k + 1 = omega arith in
    cut_at more k row lt is ∙ ap (λ n. row ∷ drop n more) next
