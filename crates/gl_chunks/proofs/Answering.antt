-- The answers of the fold over datagrams are those that the datagrams tell.
use Rattle.std.proofs.Common.{◌≡◌, ◌≤◌, ◌<◌, ℕ, ◌+◌, Bool, true, false, not, cond, ◌&&◌, ◌||◌, ◌==◌, List, [], ◌∷◌, ◌++◌, map, length, drop, is_some, max, min, Option, Some, None, refl, sym, ap, ap₂, subst, ◌∙◌, arith, append-nil, append_assoc}
use Rattle.std.specs.Prelude.{nat_le, nat_lt, slice_index_or}
use Rattle.std.specs.List.{list_any, filter, AllByRecursion}
use Rattle.std.specs.Option.{unwrap_or}
use Rattle.std.specs.Ordering.{nat_cmp}
use Rattle.std.specs.Cmp.{nat_cmp_total, unsigned_tied}
use Rattle.std.specs.FinMap as finite
use Rattle.std.proofs.lemmas.Bool.{and_parts, eqb-true, eq-eqb}
use Rattle.std.proofs.lemmas.Bool.Decides.{nat_tests}
use Rattle.gl_chunks.specs.declared.chunk_set.ChunkSet.{ChunkSet}
use Rattle.gl_chunks.specs.declared.chunks.Chunked.{Chunked}
use Rattle.gl_chunks.specs.declared.chunks.Chunked.TheVariants as answers
use Rattle.gl_chunks.specs.Chunks.{chunk_head, chunk_number, chunk_count, begins_as_chunk, while_live, opened, at_itself, Standing, live_set, has_ended as ended_of_late, live_sets, opened_set, with_part, message, beside, refusal, with_set, with_end, told, joined, unless, chunk_turn, turn_by, at_moment, turn, standing_behind, standing_of, chunk_answer}
use Rattle.gl_chunks.specs.Answers.{Datagram, is_of, is_kept, ends, is_held, is_end, is_live, behind, opener_of, members_of, live_ids, has_ended, size_of, part_of, parts_of, whole_or_held, grown, in_set, opening, by_set, of_chunk, answer_of, greatest, taken_at, AreAnswers, nothing, one_more}
use Rattle.gl_chunks.proofs.Keeping.{refusal_ended, refusal_live, behind_more}
use Rattle.gl_chunks.proofs.Standing.{Head, head_is, Run, made, made_none, made_more, set_of, seen, index_parts, length_parts, has_part, quiet_seen, quiet_ended, not_held, not_ended, own_id, other_id, live_count}

-- what a fold keeps at a moment is what these datagrams tell
pub record At (m : ℕ) (s : Standing) (es : List Datagram) : Type 0 where
  pub now : s.now ≡ m
  pub old : AllByRecursion (λ (d : Datagram). d.moment ≤ m) es
  pub sets : (q k : ℕ) → m ≤ k → while_live opened k (finite.get s.sets q) ≡ seen q k (opener_of q es)
  pub ended : (q k : ℕ) → m ≤ k → is_some (while_live at_itself k (finite.get s.ended q)) ≡ has_ended q k es

-- ---- a turn, by its outcome

-- the set that stands behind a datagram that is held
pub record Next (id m : ℕ) (es : List Datagram) (bytes : List ℕ) (set : ChunkSet) : Type 0 where
  pub run : Run
  pub opener : opener_of id ((record { moment = m; bytes = bytes; answer = answers.Held }) ∷ es) ≡ Some run
  pub is : set ≡ set_of id run
  pub going : list_any (is_end id) run.1 ≡ false

pub data Outcome (m : ℕ) (s : Standing) (es : List Datagram) (id : ℕ) (bytes : List ℕ) : Chunked → Standing → Type 0 where
  as_before : (answer : Chunked) → is_kept answer ≡ false → ends answer ≡ false → Outcome m s es id bytes answer s
  one_held : (set : ChunkSet) → Next id m es bytes set → Outcome m s es id bytes answers.Held (with_set s id set)
  all_over : (answer : Chunked) → is_kept answer ≡ false → ends answer ≡ true → Outcome m s es id bytes answer (with_end s id)

pub record Turned (m : ℕ) (s : Standing) (es : List Datagram) (id : ℕ) (bytes : List ℕ) (wanted : Chunked) (t : Chunked × Standing) : Type 0 where
  pub answer : t.0 ≡ wanted
  pub outcome : Outcome m s es id bytes t.0 t.1

module _ (m : ℕ) (s : Standing) (es : List Datagram) (id : ℕ) (bytes : List ℕ) where
  stays : (answer : Chunked) → is_kept answer ≡ false → ends answer ≡ false → Turned m s es id bytes answer (answer, s)
  stays answer kept ended = record { answer = refl; outcome = as_before answer kept ended }

  joins_by : (set : ChunkSet) → Next id m es bytes set → (t : Bool) (o : Option (List ℕ))
      → Turned m s es id bytes (cond t answers.TooLong (whole_or_held o)) (cond t (answers.TooLong, with_end s id) (told s id set o))
  joins_by set next true o = record { answer = refl; outcome = all_over answers.TooLong refl refl }
  joins_by set next false None = record { answer = refl; outcome = one_held set next }
  joins_by set next false (Some whole) = record { answer = refl; outcome = all_over (answers.Whole whole) refl refl }

  joins : (at count : ℕ) (ts : List (List ℕ)) → Next id m es bytes (made at count ts) → Turned m s es id bytes (grown count ts) (joined s id (made at count ts))
  joins at count ts next = joins_by (made at count ts) next (nat_lt 1048576 (size_of ts)) (message (parts_of count ts))

-- ---- a chunk that is held

and_false : (b : Bool) → (b && false) ≡ false
and_false true = refl
and_false false = refl

not_true : (b : Bool) → not b ≡ true → b ≡ false
not_true true h = absurd cc
not_true false h = refl

held_now : (id m : ℕ) (bytes : List ℕ) → is_of id (chunk_head bytes) ≡ true → is_held id (record { moment = m; bytes = bytes; answer = answers.Held }) ≡ true
held_now id m bytes own = ap (λ (b : Bool). b && true) own

abbrev held_by : ℕ → ℕ → List ℕ → List Datagram → Bool → Bool → Option Run → Option Run
held_by id m bytes es held live o = cond (held && not live) (Some ((record { moment = m; bytes = bytes; answer = answers.Held }), [])) (behind (record { moment = m; bytes = bytes; answer = answers.Held }) o)

-- one member more of a set that is live
next_more : (id m : ℕ) (es : List Datagram) (bytes : List ℕ) (run : Run) → is_of id (chunk_head bytes) ≡ true → opener_of id es ≡ Some run → is_live id m (Some run) ≡ true
    → Next id m es bytes (made run.0.moment (chunk_count run.0.bytes) (bytes ∷ members_of id run))
unfolding opener_of
next_more id m es bytes run own opener live =
    let held = held_now id m bytes own in
    let going = not_true (list_any (is_end id) run.1) (and_parts (nat_le m (run.0.moment + 5000)) (not (list_any (is_end id) run.1)) live).1 in
    record {
      run = (run.0, (record { moment = m; bytes = bytes; answer = answers.Held }) ∷ run.1);
      opener = ap (λ (o : Option Run). held_by id m bytes es (is_held id (record { moment = m; bytes = bytes; answer = answers.Held })) (is_live id m o) o) opener
          ∙ ap₂ (λ (h l : Bool). held_by id m bytes es h l (Some run)) held live;
      is = ap (λ (h : Bool). made run.0.moment (chunk_count run.0.bytes)
          (map (λ (d : Datagram). d.bytes) (cond h ((record { moment = m; bytes = bytes; answer = answers.Held }) ∷ filter (is_held id) run.1) (filter (is_held id) run.1)) ++ run.0.bytes ∷ [])) (sym held);
      going = ap (λ (b : Bool). b || list_any (is_end id) run.1) (and_false (is_of id (chunk_head bytes))) ∙ going;
    }

-- the first member of a set
next_open : (id m : ℕ) (es : List Datagram) (bytes : List ℕ) (o : Option Run) → is_of id (chunk_head bytes) ≡ true → opener_of id es ≡ o → is_live id m o ≡ false
    → Next id m es bytes (made m (chunk_count bytes) (bytes ∷ []))
unfolding opener_of
next_open id m es bytes o own opener live = record {
  run = ((record { moment = m; bytes = bytes; answer = answers.Held }), []);
  opener = ap (λ (p : Option Run). held_by id m bytes es (is_held id (record { moment = m; bytes = bytes; answer = answers.Held })) (is_live id m p) p) opener
      ∙ ap₂ (λ (h l : Bool). held_by id m bytes es h l o) (held_now id m bytes own) live;
  is = refl;
  going = refl;
}

-- ---- the turn of a chunk

refused_turn : (s : Standing) (id number count : ℕ) (part : List ℕ) (answer : Chunked) → refusal s id number count ≡ Some answer → chunk_turn s id number count part ≡ (answer, s)
unfolding chunk_turn
refused_turn s id number count part answer e =
    ap (λ (r : Option Chunked). unless s r (joined s id (with_part (unwrap_or (live_set s id) (opened_set s.now count)) number part))) e

joined_turn : (s : Standing) (id number count : ℕ) (part : List ℕ) (l : Option ChunkSet) → refusal s id number count ≡ None → live_set s id ≡ l
    → chunk_turn s id number count part ≡ joined s id (with_part (unwrap_or l (opened_set s.now count)) number part)
unfolding chunk_turn
joined_turn s id number count part l none live =
    ap (λ (r : Option Chunked). unless s r (joined s id (with_part (unwrap_or (live_set s id) (opened_set s.now count)) number part))) none
    ∙ ap (λ (o : Option ChunkSet). joined s id (with_part (unwrap_or o (opened_set s.now count)) number part)) live

module _ (m live : ℕ) (s : Standing) (es : List Datagram) (head : ℕ × ℕ × ℕ) (bytes : List ℕ) (some : chunk_head bytes ≡ Some head) (now : s.now ≡ m)
    (full : nat_le 1024 (finite.len (live_sets s.now s.sets)) ≡ nat_le 1024 live) where
  abbrev Goal : Chunked → Type 0
  Goal wanted = Turned m s es head.0 bytes wanted (chunk_turn s head.0 head.1 head.2 (drop 12 bytes))

  as_turn : (wanted : Chunked) (t : Chunked × Standing) → chunk_turn s head.0 head.1 head.2 (drop 12 bytes) ≡ t → Turned m s es head.0 bytes wanted t → Goal wanted
  as_turn wanted t e turned = subst (λ (u : Chunked × Standing). Turned m s es head.0 bytes wanted u) (sym e) turned

  refused : (answer : Chunked) → is_kept answer ≡ false → ends answer ≡ false → refusal s head.0 head.1 head.2 ≡ Some answer → Goal answer
  refused answer kept ended e =
      as_turn answer (answer, s) (refused_turn s head.0 head.1 head.2 (drop 12 bytes) answer e) (stays m s es head.0 bytes answer kept ended)

  -- a set of no live members is opened
  opens_by : (o : Option Run) (t : Bool) → nat_le 1024 live ≡ t → ended_of_late s head.0 ≡ false → live_set s head.0 ≡ None → opener_of head.0 es ≡ o → is_live head.0 m o ≡ false
      → Goal (cond t answers.ChunkTableFull (grown (chunk_count bytes) (bytes ∷ [])))
  opens_by o true many past none opener dead =
      refused answers.ChunkTableFull refl refl
      (refusal_live s head.0 head.1 head.2 None past none ∙ ap (λ (b : Bool). cond b (Some answers.ChunkTableFull) None) (full ∙ many))
  opens_by o false few past none opener dead =
      let h = head_is bytes head some in
      let free : refusal s head.0 head.1 head.2 ≡ None = refusal_live s head.0 head.1 head.2 None past none ∙ ap (λ (b : Bool). cond b (Some answers.ChunkTableFull) None) (full ∙ few) in
      let set : with_part (opened_set s.now head.2) head.1 (drop 12 bytes) ≡ made m (chunk_count bytes) (bytes ∷ []) =
      ap₂ (λ (at count : ℕ). with_part (opened_set at count) head.1 (drop 12 bytes)) now (sym h.count)
      ∙ ap (λ (set : ChunkSet). with_part set head.1 (drop 12 bytes)) (sym (made_none m (chunk_count bytes)))
      ∙ sym (made_more m (chunk_count bytes) head.1 bytes (drop 12 bytes) [] h.number refl (omega (arith, h.below, h.count))) in
      as_turn (grown (chunk_count bytes) (bytes ∷ [])) (joined s head.0 (made m (chunk_count bytes) (bytes ∷ [])))
      (joined_turn s head.0 head.1 head.2 (drop 12 bytes) None free none ∙ ap (joined s head.0) set)
      (joins m s es head.0 bytes m (chunk_count bytes) (bytes ∷ []) (next_open head.0 m es bytes o (own_id bytes head some) opener dead))

  opens : (o : Option Run) → ended_of_late s head.0 ≡ false → live_set s head.0 ≡ None → opener_of head.0 es ≡ o → is_live head.0 m o ≡ false → Goal (opening bytes live)
  opens o past none opener dead = opens_by o (nat_le 1024 live) refl past none opener dead

  -- a live set is joined
  has_by : (run : Run) (t : Bool) → list_any (λ member. chunk_number member == chunk_number bytes) (members_of head.0 run) ≡ t → ended_of_late s head.0 ≡ false → live_set s head.0 ≡ Some (set_of head.0 run)
      → opener_of head.0 es ≡ Some run → is_live head.0 m (Some run) ≡ true → chunk_count run.0.bytes ≡ chunk_count bytes
      → Goal (cond t answers.Repeat (grown (chunk_count run.0.bytes) (bytes ∷ members_of head.0 run)))
  has_by run t there past set opener alive alike =
      let h = head_is bytes head some in
      let c : ℕ = chunk_count run.0.bytes in
      let as_many : length (parts_of (chunk_count run.0.bytes) (members_of head.0 run)) == head.2 ≡ true =
      eq-eqb (length (parts_of (chunk_count run.0.bytes) (members_of head.0 run))) head.2 (length_parts (part_of (members_of head.0 run)) (chunk_count run.0.bytes) 0 ∙ alike ∙ h.count) in
      let below : head.1 < chunk_count run.0.bytes = omega (arith, h.below, h.count, alike) in
      let is_there : is_some (slice_index_or (parts_of (chunk_count run.0.bytes) (members_of head.0 run)) head.1 None) ≡ t =
      ap is_some (index_parts (part_of (members_of head.0 run)) (chunk_count run.0.bytes) 0 head.1 below) ∙ has_part (members_of head.0 run) (0 + head.1)
      ∙ ap (λ (n : ℕ). list_any (λ member. chunk_number member == n) (members_of head.0 run)) (number_from h) ∙ there in
      let told_beside : beside (set_of head.0 run) head.1 head.2 ≡ cond t (Some answers.Repeat) None =
      ap₂ (λ (a b : Bool). cond (not a) (Some (answers.CountMismatch (length (parts_of (chunk_count run.0.bytes) (members_of head.0 run))) head.2)) (cond b (Some answers.Repeat) None)) as_many is_there in
      by t (refusal_live s head.0 head.1 head.2 (Some (set_of head.0 run)) past set ∙ told_beside)
    where
      number_from : Head bytes head → 0 + head.1 ≡ chunk_number bytes
      number_from h = omega (arith, h.number)

      by : (u : Bool) → refusal s head.0 head.1 head.2 ≡ cond u (Some answers.Repeat) None → Goal (cond u answers.Repeat (grown (chunk_count run.0.bytes) (bytes ∷ members_of head.0 run)))
      by true e = refused answers.Repeat refl refl e
      by false e =
          let h = head_is bytes head some in
          as_turn (grown (chunk_count run.0.bytes) (bytes ∷ members_of head.0 run)) (joined s head.0 (made run.0.moment (chunk_count run.0.bytes) (bytes ∷ members_of head.0 run)))
          (joined_turn s head.0 head.1 head.2 (drop 12 bytes) (Some (set_of head.0 run)) e set
          ∙ ap (joined s head.0) (sym (made_more run.0.moment (chunk_count run.0.bytes) head.1 bytes (drop 12 bytes) (members_of head.0 run) h.number refl (omega (arith, h.below, h.count, alike)))))
          (joins m s es head.0 bytes run.0.moment (chunk_count run.0.bytes) (bytes ∷ members_of head.0 run) (next_more head.0 m es bytes run (own_id bytes head some) opener alive))

  count_by_test : (run : Run) (t : Bool) → (chunk_count run.0.bytes == chunk_count bytes) ≡ t → ended_of_late s head.0 ≡ false → live_set s head.0 ≡ Some (set_of head.0 run)
      → opener_of head.0 es ≡ Some run → is_live head.0 m (Some run) ≡ true
      → Goal (cond (not t) (answers.CountMismatch (chunk_count run.0.bytes) (chunk_count bytes))
      (cond (list_any (λ member. chunk_number member == chunk_number bytes) (members_of head.0 run)) answers.Repeat (grown (chunk_count run.0.bytes) (bytes ∷ members_of head.0 run))))
  count_by_test run true alike past set opener alive =
      has_by run (list_any (λ member. chunk_number member == chunk_number bytes) (members_of head.0 run)) refl past set opener alive (eqb-true (chunk_count run.0.bytes) (chunk_count bytes) alike)
  count_by_test run false apart past set opener alive =
      let h = head_is bytes head some in
      let len : length (parts_of (chunk_count run.0.bytes) (members_of head.0 run)) ≡ chunk_count run.0.bytes = length_parts (part_of (members_of head.0 run)) (chunk_count run.0.bytes) 0 in
      let differs : (length (parts_of (chunk_count run.0.bytes) (members_of head.0 run)) == head.2) ≡ false =
      ap₂ (λ (a b : ℕ). a == b) len (sym h.count) ∙ apart in
      refused (answers.CountMismatch (chunk_count run.0.bytes) (chunk_count bytes)) refl refl
      (refusal_live s head.0 head.1 head.2 (Some (set_of head.0 run)) past set
      ∙ ap (λ (b : Bool). cond (not b) (Some (answers.CountMismatch (length (parts_of (chunk_count run.0.bytes) (members_of head.0 run))) head.2))
      (cond (is_some (slice_index_or (parts_of (chunk_count run.0.bytes) (members_of head.0 run)) head.1 None)) (Some answers.Repeat) None)) differs
      ∙ ap₂ (λ (a b : ℕ). Some (answers.CountMismatch a b)) len (sym h.count))

  set_by : (run : Run) (t : Bool) → is_live head.0 m (Some run) ≡ t → ended_of_late s head.0 ≡ false → live_set s head.0 ≡ cond t (Some (set_of head.0 run)) None → opener_of head.0 es ≡ Some run
      → Goal (cond t (in_set bytes (chunk_count run.0.bytes) (members_of head.0 run)) (opening bytes live))
  set_by run true alive past set opener = count_by_test run (chunk_count run.0.bytes == chunk_count bytes) refl past set opener alive
  set_by run false alive past set opener = opens (Some run) past set opener alive

  set_turn : (o : Option Run) → ended_of_late s head.0 ≡ false → live_set s head.0 ≡ seen head.0 m o → opener_of head.0 es ≡ o → Goal (by_set head.0 m bytes live o)
  set_turn None past set opener = opens None past set opener refl
  set_turn (Some run) past set opener = set_by run (is_live head.0 m (Some run)) refl past set opener

  chunk_by : (t : Bool) → ended_of_late s head.0 ≡ t → live_set s head.0 ≡ seen head.0 m (opener_of head.0 es) → Goal (cond t answers.Repeat (by_set head.0 m bytes live (opener_of head.0 es)))
  chunk_by true past set = refused answers.Repeat refl refl (refusal_ended s head.0 head.1 head.2 past)
  chunk_by false past set = set_turn (opener_of head.0 es) past set refl

-- ---- what stands behind a turn

at_same : (m : ℕ) (s : Standing) (es : List Datagram) (bytes : List ℕ) (answer : Chunked) → ((q : ℕ) → is_held q (record { moment = m; bytes = bytes; answer = answer }) ≡ false)
    → ((q : ℕ) → is_end q (record { moment = m; bytes = bytes; answer = answer }) ≡ false) → At m s es → At m s (record { moment = m; bytes = bytes; answer = answer } ∷ es)
at_same m s es bytes answer kept ended a = record {
  now = a.now;
  old = (omega arith, a.old);
  sets = λ q k le. a.sets q k le ∙ sym (quiet_seen q k (record { moment = m; bytes = bytes; answer = answer }) es (kept q) (ended q));
  ended = λ q k le. a.ended q k le ∙ sym (quiet_ended q k (record { moment = m; bytes = bytes; answer = answer }) es (ended q));
}

module _ (m : ℕ) (s : Standing) (es : List Datagram) (head : ℕ × ℕ × ℕ) (bytes : List ℕ) (some : chunk_head bytes ≡ Some head) (a : At m s es) where
  quiet_held : (q : ℕ) (answer : Chunked) → (q == head.0) ≡ false → is_held q (record { moment = m; bytes = bytes; answer = answer }) ≡ false
  quiet_held q answer apart = ap (λ (b : Bool). b && is_kept answer) (other_id q bytes head some apart)

  quiet_end : (q : ℕ) (answer : Chunked) → (q == head.0) ≡ false → is_end q (record { moment = m; bytes = bytes; answer = answer }) ≡ false
  quiet_end q answer apart = ap (λ (b : Bool). b && ends answer) (other_id q bytes head some apart)

  -- a set is kept
  next_seen : (set : ChunkSet) (k : ℕ) (next : Next head.0 m es bytes set)
      → while_live opened k (Some set) ≡ seen head.0 k (opener_of head.0 (record { moment = m; bytes = bytes; answer = answers.Held } ∷ es))
  next_seen set k next =
      ap (λ (x : ChunkSet). while_live opened k (Some x)) next.is
      ∙ ap (λ (b : Bool). cond b (Some (set_of head.0 next.run)) None) (still (nat_le k (next.run.0.moment + 5000)) (list_any (is_end head.0) next.run.1) next.going)
      ∙ ap (seen head.0 k) (sym next.opener)
    where
      still : (x y : Bool) → y ≡ false → x ≡ (x && not y)
      still true y e = ap not (sym e)
      still false y e = refl

  held_sets : (set : ChunkSet) → Next head.0 m es bytes set → (q k : ℕ) (t : Bool) → (q == head.0) ≡ t → m ≤ k
      → while_live opened k (cond t (Some set) (finite.get s.sets q)) ≡ seen q k (opener_of q (record { moment = m; bytes = bytes; answer = answers.Held } ∷ es))
  held_sets set next q k true own le =
      next_seen set k next
      ∙ ap (λ (p : ℕ). seen p k (opener_of p (record { moment = m; bytes = bytes; answer = answers.Held } ∷ es))) (sym (eqb-true q head.0 own))
  held_sets set next q k false other le =
      a.sets q k le ∙ sym (quiet_seen q k (record { moment = m; bytes = bytes; answer = answers.Held }) es (quiet_held q answers.Held other) (quiet_end q answers.Held other))

  at_held : (set : ChunkSet) → Next head.0 m es bytes set → At m (with_set s head.0 set) (record { moment = m; bytes = bytes; answer = answers.Held } ∷ es)
  at_held set next = record {
    now = a.now;
    old = (omega arith, a.old);
    sets = λ q k le. ap (while_live opened k) (finite.get-insert nat_cmp_total s.sets head.0 set q ∙ ap (λ (b : Bool). cond b (Some set) (finite.get s.sets q)) (unsigned_tied q head.0))
        ∙ held_sets set next q k (q == head.0) refl le;
    ended = λ q k le. a.ended q k le ∙ sym (quiet_ended q k (record { moment = m; bytes = bytes; answer = answers.Held }) es (not_ended q (record { moment = m; bytes = bytes; answer = answers.Held }) refl));
  }

  -- a message has ended
  own_end : (answer : Chunked) → ends answer ≡ true → is_end head.0 (record { moment = m; bytes = bytes; answer = answer }) ≡ true
  own_end answer ended = ap₂ (λ (x y : Bool). x && y) (own_id bytes head some) ended

  none_by : (k : ℕ) (answer : Chunked) (o : Option Run) → ends answer ≡ true → None ≡ seen head.0 k (behind (record { moment = m; bytes = bytes; answer = answer }) o)
  none_by k answer None ended = refl
  none_by k answer (Some run) ended =
      sym (ap (λ (b : Bool). cond b (Some (set_of head.0 (run.0, record { moment = m; bytes = bytes; answer = answer } ∷ run.1))) None)
      (ap (λ (e : Bool). nat_le k (run.0.moment + 5000) && not (e || list_any (is_end head.0) run.1)) (own_end answer ended) ∙ and_false (nat_le k (run.0.moment + 5000))))

  over_own : (k : ℕ) (answer : Chunked) → is_kept answer ≡ false → ends answer ≡ true → None ≡ seen head.0 k (opener_of head.0 (record { moment = m; bytes = bytes; answer = answer } ∷ es))
  unfolding opener_of
  over_own k answer kept ended =
      none_by k answer (opener_of head.0 es) ended
      ∙ sym (ap (λ (h : Bool). seen head.0 k (cond (h && not (is_live head.0 m (opener_of head.0 es))) (Some (record { moment = m; bytes = bytes; answer = answer }, [])) (behind (record { moment = m; bytes = bytes; answer = answer }) (opener_of head.0 es))))
      (not_held head.0 (record { moment = m; bytes = bytes; answer = answer }) kept))

  over_sets : (answer : Chunked) → is_kept answer ≡ false → ends answer ≡ true → (q k : ℕ) (t : Bool) → (q == head.0) ≡ t → m ≤ k
      → while_live opened k (cond t None (finite.get s.sets q)) ≡ seen q k (opener_of q (record { moment = m; bytes = bytes; answer = answer } ∷ es))
  over_sets answer kept ended q k true own le =
      over_own k answer kept ended ∙ ap (λ (p : ℕ). seen p k (opener_of p (record { moment = m; bytes = bytes; answer = answer } ∷ es))) (sym (eqb-true q head.0 own))
  over_sets answer kept ended q k false other le =
      a.sets q k le ∙ sym (quiet_seen q k (record { moment = m; bytes = bytes; answer = answer }) es (quiet_held q answer other) (quiet_end q answer other))

  or_more : (x y : Bool) → (y ≡ true → x ≡ true) → x ≡ (x || y)
  or_more true y h = refl
  or_more false true h = h refl
  or_more false false h = refl

  both_true : (x y : Bool) → (x && y) ≡ true → y ≡ true
  both_true true y h = h
  both_true false y h = absurd cc

  past : (x y z : ℕ) → x ≤ y → nat_le z (x + 5000) ≡ true → nat_le z (y + 5000) ≡ true
  past x y z le e = grind (arith, nat_tests)

  later_by : (q k : ℕ) (d : Datagram) (ds : List Datagram) (t : Bool) → (is_end q d && nat_le k (d.moment + 5000)) ≡ t → d.moment ≤ m → (t || has_ended q k ds) ≡ true
      → (has_ended q k ds ≡ true → nat_le k (m + 5000) ≡ true) → nat_le k (m + 5000) ≡ true
  later_by q k d ds true e le h more = past d.moment m k le (both_true (is_end q d) (nat_le k (d.moment + 5000)) e)
  later_by q k d ds false e le h more = more h

  later_live : (q k : ℕ) (ds : List Datagram) → AllByRecursion (λ (d : Datagram). d.moment ≤ m) ds → has_ended q k ds ≡ true → nat_le k (m + 5000) ≡ true
  later_live q k [] old h = absurd cc
  later_live q k (d ∷ ds) old h = later_by q k d ds (is_end q d && nat_le k (d.moment + 5000)) refl old.0 h (later_live q k ds old.1)

  over_ended : (answer : Chunked) → ends answer ≡ true → (q k : ℕ) (t : Bool) → (q == head.0) ≡ t → m ≤ k
      → is_some (while_live at_itself k (cond t (Some s.now) (finite.get s.ended q))) ≡ has_ended q k (record { moment = m; bytes = bytes; answer = answer } ∷ es)
  over_ended answer ended q k true own le =
      let is_q : q ≡ head.0 = eqb-true q head.0 own in
      ap (λ (n : ℕ). is_some (while_live at_itself k (Some n))) a.now ∙ some_live (nat_le k (m + 5000))
      ∙ or_more (nat_le k (m + 5000)) (has_ended q k es) (later_live q k es a.old)
      ∙ ap (λ (e : Bool). (e && nat_le k (m + 5000)) || has_ended q k es) (sym (ap (λ (p : ℕ). is_end p (record { moment = m; bytes = bytes; answer = answer })) is_q ∙ own_end answer ended))
    where
      some_live : (t : Bool) → is_some (cond t (Some m) None) ≡ t
      some_live true = refl
      some_live false = refl
  over_ended answer ended q k false other le =
      a.ended q k le ∙ sym (quiet_ended q k (record { moment = m; bytes = bytes; answer = answer }) es (quiet_end q answer other))

  at_over : (answer : Chunked) → is_kept answer ≡ false → ends answer ≡ true → At m (with_end s head.0) (record { moment = m; bytes = bytes; answer = answer } ∷ es)
  at_over answer kept ended = record {
    now = a.now;
    old = (omega arith, a.old);
    sets = λ q k le. ap (while_live opened k) (finite.get-remove nat_cmp_total s.sets head.0 q ∙ ap (λ (b : Bool). cond b None (finite.get s.sets q)) (unsigned_tied q head.0))
        ∙ over_sets answer kept ended q k (q == head.0) refl le;
    ended = λ q k le. ap (λ (o : Option ℕ). is_some (while_live at_itself k o)) (finite.get-insert nat_cmp_total s.ended head.0 s.now q ∙ ap (λ (b : Bool). cond b (Some s.now) (finite.get s.ended q)) (unsigned_tied q head.0))
        ∙ over_ended answer ended q k (q == head.0) refl le;
  }

  at_outcome : (answer : Chunked) (t : Standing) → Outcome m s es head.0 bytes answer t → At m t (record { moment = m; bytes = bytes; answer = answer } ∷ es)
  at_outcome answer t (as_before other kept ended) = at_same m s es bytes other (λ q. not_held q (record { moment = m; bytes = bytes; answer = other }) kept) (λ q. not_ended q (record { moment = m; bytes = bytes; answer = other }) ended) a
  at_outcome answer t (one_held set next) = at_held set next
  at_outcome answer t (all_over other kept ended) = at_over other kept ended

-- ---- one datagram more

plain_kept : (b : Bool) → is_kept (cond b answers.BadChunk answers.Plain) ≡ false
plain_kept true = refl
plain_kept false = refl

plain_ends : (b : Bool) → ends (cond b answers.BadChunk answers.Plain) ≡ false
plain_ends true = refl
plain_ends false = refl

step_by : (m : ℕ) (s : Standing) (es : List Datagram) (bytes : List ℕ) (o : Option (ℕ × ℕ × ℕ)) → chunk_head bytes ≡ o → At m s es
    → (let t = turn_by s bytes o in (t.0 ≡ of_chunk es m bytes o) × At m t.1 (record { moment = m; bytes = bytes; answer = of_chunk es m bytes o } ∷ es))
step_by m s es bytes None none a = (
  refl,
  at_same m s es bytes (cond (begins_as_chunk bytes) answers.BadChunk answers.Plain)
      (λ q. not_held q (record { moment = m; bytes = bytes; answer = cond (begins_as_chunk bytes) answers.BadChunk answers.Plain }) (plain_kept (begins_as_chunk bytes)))
      (λ q. not_ended q (record { moment = m; bytes = bytes; answer = cond (begins_as_chunk bytes) answers.BadChunk answers.Plain }) (plain_ends (begins_as_chunk bytes))) a,
)
step_by m s es bytes (Some head) some a =
    let le : m ≤ m = omega arith in
    let live : live_set s head.0 ≡ seen head.0 m (opener_of head.0 es) = ap (λ (n : ℕ). while_live opened n (finite.get s.sets head.0)) a.now ∙ a.sets head.0 m le in
    let past : ended_of_late s head.0 ≡ has_ended head.0 m es = ap (λ (n : ℕ). is_some (while_live at_itself n (finite.get s.ended head.0))) a.now ∙ a.ended head.0 m le in
    let count : nat_le 1024 (finite.len (live_sets s.now s.sets)) ≡ nat_le 1024 (length (live_ids m es)) =
    ap (λ (n : ℕ). nat_le 1024 (finite.len (live_sets n s.sets))) a.now ∙ ap (nat_le 1024) (live_count m s.sets es (λ q. a.sets q m le)) in
    let turned = chunk_by m (length (live_ids m es)) s es head bytes some a.now count (has_ended head.0 m es) past live in (
      turned.answer,
      subst (λ (x : Chunked). At m (chunk_turn s head.0 head.1 head.2 (drop 12 bytes)).1 (record { moment = m; bytes = bytes; answer = x } ∷ es)) turned.answer
          (at_outcome m s es head bytes some a (chunk_turn s head.0 head.1 head.2 (drop 12 bytes)).0 (chunk_turn s head.0 head.1 head.2 (drop 12 bytes)).1 turned.outcome),
    )

-- at a later moment
older : (n m : ℕ) (ds : List Datagram) → n ≤ m → AllByRecursion (λ (d : Datagram). d.moment ≤ n) ds → AllByRecursion (λ (d : Datagram). d.moment ≤ m) ds
older n m [] le old = tt
older n m (d ∷ ds) le old = (omega (arith, le, old.0), older n m ds le old.1)

at_later : (n : ℕ) (s : Standing) (es : List Datagram) (moment : ℕ) → At n s es → At (max n (min moment 253402300799999)) (at_moment s moment) es
at_later n s es moment a =
    let le : n ≤ max n (min moment 253402300799999) = omega arith in
    record {
      now = ap (λ (k : ℕ). max k (min moment 253402300799999)) a.now;
      old = older n (max n (min moment 253402300799999)) es le a.old;
      sets = λ q k at. a.sets q k (omega (arith, le, at));
      ended = λ q k at. a.ended q k (omega (arith, le, at));
    }

at_nothing : At 0 (standing_of []) []
unfolding standing_behind opener_of
at_nothing = record {
  now = refl;
  old = tt;
  sets = λ q k le. ap (while_live opened k) (finite.get-empty {X = ChunkSet} nat_cmp q);
  ended = λ q k le. ap (λ (o : Option ℕ). is_some (while_live at_itself k o)) (finite.get-empty {X = ℕ} nat_cmp q);
}

step_of : (given : List (ℕ × List ℕ)) (earlier : List Datagram) (moment : ℕ) (bytes : List ℕ) → At (greatest earlier) (standing_of given) earlier
    → (let t = turn (standing_of given) (moment, bytes) in (t.0 ≡ answer_of earlier (taken_at earlier moment) bytes)
    × At (taken_at earlier moment) t.1 (record { moment = taken_at earlier moment; bytes = bytes; answer = answer_of earlier (taken_at earlier moment) bytes } ∷ earlier))
unfolding turn
step_of given earlier moment bytes a =
    step_by (taken_at earlier moment) (at_moment (standing_of given) moment) earlier bytes (chunk_head bytes) refl (at_later (greatest earlier) (standing_of given) earlier moment a)

follows : (given : List (ℕ × List ℕ)) (earlier : List Datagram) → AreAnswers given earlier → At (greatest earlier) (standing_of given) earlier
follows given earlier nothing = at_nothing
follows given earlier (one_more before told moment bytes are) =
    subst (λ (s : Standing). At (taken_at told moment) s (record { moment = taken_at told moment; bytes = bytes; answer = answer_of told (taken_at told moment) bytes } ∷ told))
    (sym (behind_more (record { now = 0; sets = finite.empty; ended = finite.empty }) before (moment, bytes)))
    (step_of before told moment bytes (follows before told are)).1

pub answers_are : (given : List (ℕ × List ℕ)) (earlier : List Datagram) → AreAnswers given earlier → (moment : ℕ) (bytes : List ℕ) → chunk_answer given moment bytes ≡ answer_of earlier (taken_at earlier moment) bytes
answers_are given earlier are moment bytes = (step_of given earlier moment bytes (follows given earlier are)).0

-- all lists of datagrams have answers
goes_on : (rest before : List (ℕ × List ℕ)) (told : List Datagram) → AreAnswers before told → (earlier : List Datagram) × AreAnswers (before ++ rest) earlier
goes_on [] before told are = (told, subst (λ (l : List (ℕ × List ℕ)). AreAnswers l told) (sym (append-nil before)) are)
goes_on (d ∷ rest) before told are =
    let next = goes_on rest (before ++ (d.0, d.1) ∷ []) (record { moment = taken_at told d.0; bytes = d.1; answer = answer_of told (taken_at told d.0) d.1 } ∷ told) (one_more before told d.0 d.1 are) in
    (next.0, subst (λ (l : List (ℕ × List ℕ)). AreAnswers l next.0) (append_assoc before ((d.0, d.1) ∷ []) rest) next.1)

pub some_answers : (given : List (ℕ × List ℕ)) → (earlier : List Datagram) × AreAnswers given earlier
some_answers given = goes_on given [] [] nothing
