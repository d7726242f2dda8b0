-- What is committed is the longest chain of finished ranges that fits.
use Rattle.std.proofs.Common.{◌≡◌, ◌⊎◌, inl, inr, ⊎_elim, ℕ, zero, suc, ◌+◌, ◌<◌, ◌≤◌, ◌==◌, Bool, true, false, not, cond, nat_le, List, [], ◌∷◌, ◌++◌, length, get_or, filter, sum_by, Option, Some, None, refl, sym, ◌∙◌, ap, subst, arith}
use Rattle.std.specs.List.{Contains, position, remove}
use Rattle.std.proofs.lemmas.Bool.Decides.{nat_tests}
use Rattle.std.proofs.lemmas.List.{get_or_default}
use Rattle.std.proofs.lemmas.List.Edits.{length-remove}
use Rattle.std.proofs.lemmas.List.Elements.{All-contains, All-contains_itself}
use Rattle.std.proofs.lemmas.List.Sums.{sum_by-cons, sum_by_push}
use Rattle.std.proofs.lemmas.Option.{same_Some}
use Rattle.gl_base.proofs.Counting.{find_at_none, find_at_some, All-remove}
use Rattle.gl_node.specs.declared.mark.Mark.{Mark}
use Rattle.gl_node.specs.State.{State, Committed, happened, commit_count, except}
use Rattle.gl_node.specs.Claims.{next_ready, fits, index_size, range_batch}
use Rattle.gl_node.specs.Chains.{IsChain, IsFittingChain, CommitsLongest}
use Rattle.gl_node.specs.Node.{AreTiled}
use Rattle.gl_node.proofs.Ready.{no_commits, ready_is, commits_none, commits_more}
use Rattle.gl_node.proofs.Tiling.{except_is, tiled_committed, count_committed}

-- what is kept by a test
kept_cons : {X : Type 0} (p : X → Bool) (b : Bool) (x y : X) (ys : List X) → Contains ys x → Contains (cond b (y ∷ ys) ys) x
kept_cons p true x y ys there = (suc there.0, omega (arith, there.1), there.2)
kept_cons p false x y ys there = there

kept_head : {X : Type 0} (b : Bool) (x y : X) (ys : List X) → y ≡ x → b ≡ true → Contains (cond b (y ∷ ys) ys) x
kept_head true x y ys same passes = (0, omega arith, same)
kept_head false x y ys same passes = cc passes

kept : {X : Type 0} (p : X → Bool) (xs : List X) (x : X) → p x ≡ true → (k : ℕ) → k < length xs → get_or xs k x ≡ x → Contains (filter p xs) x
kept p [] x passes k lt is = absurd (omega arith)
kept p (y ∷ ys) x passes zero lt is = kept_head (p y) x y (filter p ys) is (ap p is ∙ passes)
kept p (y ∷ ys) x passes (suc k) lt is = kept_cons p (p y) x y (filter p ys) (kept p ys x passes k (omega arith) is)

-- a chain of fewer finished ranges is one of more
more_finished : (few more : List Mark) → ((m : Mark) → Contains few m → Contains more m) → (from : ℕ) (marks : List Mark) → IsChain few from marks → IsChain more from marks
more_finished few more wider from [] chain = tt
more_finished few more wider from (mark ∷ marks) chain = (chain.0, wider mark chain.1, more_finished few more wider (mark.first + mark.count) marks chain.2)

-- a chain from behind a range on doesn't have it
without_it : (mark : Mark) (finished : List Mark) (from : ℕ) (marks : List Mark) → mark.first < from → IsChain finished from marks → IsChain (except mark finished) from marks
without_it mark finished from [] behind chain = tt
without_it mark finished from (m ∷ marks) behind chain = (
  chain.0,
  kept (λ (other : Mark). not (other.first == mark.first)) finished m (differs m.first mark.first (omega (arith, chain.0))) chain.1.0 chain.1.1 chain.1.2,
  without_it mark finished (m.first + m.count) marks (omega (arith, chain.0)) chain.2,
)
  where
    differs : (a b : ℕ) → b < a → not (a == b) ≡ true
    differs a b lt = grind (arith, nat_tests)

nowhere : Mark
nowhere = record { first = 0; count = 0 }

fits_is : (a b limit : ℕ) → nat_le (a + b) limit ≡ true → a + b ≤ limit
fits_is a b limit fit = grind (arith, nat_tests)

fits_not : (a b c limit : ℕ) → nat_le (a + b) limit ≡ false → a + (b + c) ≤ limit → ⊥
fits_not a b c limit unfit le = grind (arith, nat_tests)

module _ (s : State) (next : ℕ) (tiled : AreTiled s next) where
  -- the range with which a chain begins is the one that is next
  heads : (m : Mark) → m.first ≡ commit_count s → Contains s.waiting m → next_ready s ≡ Some m
  heads m first there =
      ready_is s next tiled there.0 m there.1 (ap (λ (x : Mark). x.first) there.2 ∙ first) ∙ ap (λ (x : Mark). Some x) there.2

  none_ready : next_ready s ≡ None → CommitsLongest s
  none_ready none = record {
    marks = [];
    events = no_commits s none;
    is_longest = record { fitting = record { chain = tt; fits = inl refl }; longest = only };
  }
    where
      only : (other : List Mark) → IsFittingChain s other → (rest : List Mark) × ([] ≡ other ++ rest)
      only [] f = ([], refl)
      only (m ∷ others) f = let h = heads m f.chain.0 f.chain.1 in cc (h, none)

  module _ (i : ℕ) (lt : i < length s.waiting) (first : (get_or s.waiting i nowhere).first ≡ commit_count s) where
    abbrev mark : Mark
    mark = get_or s.waiting i nowhere

    abbrev after : State
    after = happened s (Committed mark)

    its_head : (m : Mark) → m.first ≡ commit_count s → Contains s.waiting m → m ≡ mark
    its_head m m_first there = same_Some m mark (sym (heads m m_first there) ∙ ready_is s next tiled i nowhere lt first)

    too_long : fits s mark ≡ false → CommitsLongest s
    too_long unfit = record {
      marks = [];
      events = commits_none s next tiled i nowhere lt first unfit;
      is_longest = record { fitting = record { chain = tt; fits = inl refl }; longest = only };
    }
      where
        only : (other : List Mark) → IsFittingChain s other → (rest : List Mark) × ([] ≡ other ++ rest)
        only [] f = ([], refl)
        only (m ∷ others) f = absurd (⊎_elim
            (λ (none : m ∷ others ≡ []). cc none)
            (λ (le : index_size s + sum_by (range_batch s) (m ∷ others) ≤ s.base.index_limit).
            fits_not (index_size s) (range_batch s mark) (sum_by (range_batch s) others) s.base.index_limit unfit
            (subst (λ (x : Mark). index_size s + (range_batch s x + sum_by (range_batch s) others) ≤ s.base.index_limit) (its_head m f.chain.0 f.chain.1)
            (subst (λ n. index_size s + n ≤ s.base.index_limit) (sum_by-cons (range_batch s) m others) le)))
            f.fits)

    size_after : index_size after ≡ index_size s + range_batch s mark
    size_after = omega (arith, sum_by_push (range_batch s) s.committed mark)

    fewer : (m : Mark) → Contains (except mark s.waiting) m → Contains s.waiting m
    fewer m there = All-contains (Contains s.waiting) (remove s.waiting i) m (All-remove (Contains s.waiting) s.waiting i (All-contains_itself s.waiting))
        (subst (λ (ms : List Mark). Contains ms m) (except_is s next tiled i nowhere lt) there)

    one_more : fits s mark ≡ true → CommitsLongest after → CommitsLongest s
    one_more fitting later = record {
      marks = mark ∷ later.marks;
      events = commits_more s next tiled i nowhere lt first fitting ∙ ap (λ es. Committed mark ∷ es) later.events;
      is_longest = record {
        fitting = record {
          chain = (
            first,
            (i, lt, get_or_same),
            more_finished (except mark s.waiting) s.waiting fewer (mark.first + mark.count) later.marks
                (subst (λ n. IsChain (except mark s.waiting) n later.marks) (count_after ∙ ap (λ n. n + mark.count) (sym first)) later.is_longest.fitting.chain),
          );
          fits = inr (subst (λ n. index_size s + n ≤ s.base.index_limit) (sym (sum_by-cons (range_batch s) mark later.marks))
              (all_fit later.marks later.is_longest.fitting.fits));
        };
        longest = longest_of;
      };
    }
      where
        count_after : commit_count after ≡ commit_count s + mark.count
        count_after = count_committed s next tiled mark

        get_or_same : get_or s.waiting i mark ≡ mark
        get_or_same = get_or_default s.waiting i mark nowhere lt

        all_fit : (marks : List Mark) → (marks ≡ []) ⊎ (index_size after + sum_by (range_batch s) marks ≤ s.base.index_limit)
            → index_size s + (range_batch s mark + sum_by (range_batch s) marks) ≤ s.base.index_limit
        all_fit marks fit = ⊎_elim
            (λ (none : marks ≡ []). omega (arith, fits_is (index_size s) (range_batch s mark) s.base.index_limit fitting, ap (λ ms. sum_by (range_batch s) ms) none))
            (λ (le : index_size after + sum_by (range_batch s) marks ≤ s.base.index_limit). omega (arith, size_after, le))
            fit

        longest_of : (other : List Mark) → IsFittingChain s other → (rest : List Mark) × (mark ∷ later.marks ≡ other ++ rest)
        longest_of [] f = (mark ∷ later.marks, refl)
        longest_of (m ∷ others) f =
            let same = its_head m f.chain.0 f.chain.1 in
            let begins = later.is_longest.longest others (record {
              chain = subst (λ n. IsChain (except mark s.waiting) n others) (ap (λ (x : Mark). x.first + x.count) same ∙ ap (λ n. n + mark.count) first ∙ sym count_after)
                  (without_it mark s.waiting (m.first + m.count) others (omega (arith, ap (λ (x : Mark). x.first) same, ap (λ (x : Mark). x.count) same, (tiled.waiting_sized i nowhere lt).0)) f.chain.2);
              fits = ⊎_elim
                  (λ (none : m ∷ others ≡ []). cc none)
                  (λ (le : index_size s + sum_by (range_batch s) (m ∷ others) ≤ s.base.index_limit). inr (omega (
                    arith,
                    le,
                    sum_by-cons (range_batch s) m others,
                    ap (λ (x : Mark). range_batch s x) same,
                    size_after,
                  )))
                  f.fits;
            }) in
            (begins.0, ap (λ (ms : List Mark). mark ∷ ms) begins.1 ∙ ap (λ (x : Mark). x ∷ (others ++ begins.0)) (sym same))

abbrev begins_next : State → Mark → Bool
begins_next s m = m.first == commit_count s

equal_from : (a b : ℕ) → (a == b) ≡ true → a ≡ b
equal_from a b same = grind (arith, nat_tests)

-- where fewer ranges wait
abbrev Earlier : ℕ → Type 0
Earlier n = (t : State) (next : ℕ) → AreTiled t next → length t.waiting ≤ n → CommitsLongest t

none_wait : (s : State) (next : ℕ) → AreTiled s next → length s.waiting ≤ 0 → (place : Option ℕ) → position (begins_next s) s.waiting ≡ place → CommitsLongest s
none_wait s next tiled few None is = none_ready s next tiled (find_at_none (begins_next s) s.waiting is)
none_wait s next tiled few (Some i) is = absurd (omega (arith, few, (find_at_some (begins_next s) s.waiting i nowhere is).0))

module _ (n : ℕ) (earlier : Earlier n) (s : State) (next : ℕ) (tiled : AreTiled s next) (few : length s.waiting ≤ suc n) where
  by_fit : (i : ℕ) (lt : i < length s.waiting) (first : (get_or s.waiting i nowhere).first ≡ commit_count s) (b : Bool) → fits s (get_or s.waiting i nowhere) ≡ b → CommitsLongest s
  by_fit i lt first false unfit = too_long s next tiled i lt first unfit
  by_fit i lt first true fitting =
      one_more s next tiled i lt first fitting
      (earlier (happened s (Committed (get_or s.waiting i nowhere))) next (tiled_committed s next tiled i nowhere lt first)
      (omega (arith, few, length-remove s.waiting i lt, ap (λ (ms : List Mark). length ms) (except_is s next tiled i nowhere lt))))

  some_wait : (place : Option ℕ) → position (begins_next s) s.waiting ≡ place → CommitsLongest s
  some_wait None is = none_ready s next tiled (find_at_none (begins_next s) s.waiting is)
  some_wait (Some i) is =
      let found = find_at_some (begins_next s) s.waiting i nowhere is in
      by_fit i found.0 (equal_from (get_or s.waiting i nowhere).first (commit_count s) found.1)
      (fits s (get_or s.waiting i nowhere)) refl

commits_longest : (n : ℕ) → Earlier n
commits_longest zero s next tiled few = none_wait s next tiled few (position (begins_next s) s.waiting) refl
commits_longest (suc n) s next tiled few = some_wait n (commits_longest n) s next tiled few (position (begins_next s) s.waiting) refl

pub chain_law : (s : State) (next : ℕ) → AreTiled s next → CommitsLongest s
chain_law s next tiled = commits_longest (length s.waiting) s next tiled (omega arith)
