-- The batch of a position, and which of its records the position has.
use Rattle.std.proofs.Common.{◌≡◌, ⊎_elim, ◌⊎◌, ℕ, ◌+◌, ◌-◌, ◌≤◌, ◌<◌, List, [], ◌∷◌, ◌++◌, length, take, drop, get_or, replicate, refl, sym, ◌∙◌, ap, subst, arith, length-append}
use Rattle.std.proofs.lemmas.List.{get_or_append_left, get_or-append_right, get_or-replicate, length-replicate, drop_more, take_rest}
use Rattle.gl_outside.specs.Disk.{Image, DiskState}
use Rattle.gl_gatelog.specs.declared.kind.Log.{Log}
use Rattle.gl_gatelog.specs.Batch.{Batch, BatchAt, body}
use Rattle.gl_gatelog.specs.Log.{area_of, Place, begin, next, places_from, records_of, Holds}
use Rattle.gl_gatelog.specs.View.{GateView}
use Rattle.gl_gatelog.specs.Stand.{StandsOn}
use Rattle.gl_gatelog.specs.Position.{IsRun}
use Rattle.gl_gatelog.proofs.Chain.{Later, next_cases}

lt_or_le : (m n : ℕ) → (m < n) ⊎ (n ≤ m)
lt_or_le m n = grind arith

module _ (log : Log) (s : ℕ) where
  later_on : (a : Place) (c : Batch) (q : Place) → Later log s (next log s a c) q → Later log s a q
  later_on a c q on = ⊎_elim
      (λ stays. record {
        segment = omega (arith, on.segment, ap (λ (p : Place). p.0) stays);
        byte = λ same. omega (arith, on.byte (ap (λ (p : Place). p.0) stays ∙ same), ap (λ (p : Place). p.1) stays);
      })
      (λ goes. record {
        segment = omega (arith, on.segment, ap (λ (p : Place). p.0) goes);
        byte = λ same. absurd (omega (arith, same, on.segment, ap (λ (p : Place). p.0) goes));
      })
      (next_cases log s a c)

  not_again : (a : Place) (c : Batch) (q : Place) → Later log s (next log s a c) q → q ≡ a → ⊥
  not_again a c q on same = ⊎_elim
      (λ stays. omega (arith, on.byte (ap (λ (p : Place). p.0) stays ∙ sym (ap (λ (p : Place). p.0) same)), ap (λ (p : Place). p.1) stays, ap (λ (p : Place). p.1) same))
      (λ goes. omega (arith, on.segment, ap (λ (p : Place). p.0) goes, ap (λ (p : Place). p.0) same))
      (next_cases log s a c)

  places_later : (place : Place) (b : List Batch) (k : ℕ) → k < length (places_from log s place b) → Later log s place (get_or (places_from log s place b) k (0, 0))
  places_later place [] k lt = absurd (omega (arith, lt))
  places_later place (c ∷ b) k lt = ⊎_elim
      (λ here. subst (λ (q : Place). Later log s place q)
      (sym (get_or_append_left (replicate (length c) place) (places_from log s (next log s place c) b) (0, 0) k (omega (arith, here, length-replicate (length c) place)) ∙ get_or-replicate (length c) k place (0, 0) here))
      (record { segment = omega arith; byte = λ same. omega arith }))
      (λ behind. subst (λ (q : Place). Later log s place q)
      (sym (get_or-append_right (replicate (length c) place) (places_from log s (next log s place c) b) (length c) k (0, 0) (length-replicate (length c) place) behind))
      (later_on place c (get_or (places_from log s (next log s place c) b) (k - length c) (0, 0))
      (places_later (next log s place c) b (k - length c) (omega (arith, lt, behind, length-append (replicate (length c) place) (places_from log s (next log s place c) b), length-replicate (length c) place)))))
      (lt_or_le k (length c))

  -- a batch at a place, and one of its records
  pub record Located (image : Image) (place : Place) (index : ℕ) (bytes : List ℕ) : Type 0 where
    pub batch : Batch
    pub stands : BatchAt (image (area_of log place.0)) place.1 batch
    pub within : index < length batch
    pub same : bytes ≡ get_or batch index []

  pub located : (image : Image) (place : Place) (b : List Batch) (position count : ℕ) → Holds log s image place b → position < length (places_from log s place b) → IsRun (places_from log s place b) position count
      → Located image (get_or (places_from log s place b) position (0, 0)) count (get_or (records_of b) position [])
  located image place [] position count holds lt run = absurd (omega (arith, lt))
  located image place (c ∷ b) position count holds lt run = ⊎_elim at_first
      (λ behind. further behind (λ more. located image (next log s place c) b (position - length c) count holds.1 (behind_first behind) more))
      (lt_or_le position (length c))
    where
      front : (k : ℕ) → k < length c → get_or (replicate (length c) place ++ places_from log s (next log s place c) b) k (0, 0) ≡ place
      front k here = get_or_append_left (replicate (length c) place) (places_from log s (next log s place c) b) (0, 0) k (omega (arith, here, length-replicate (length c) place)) ∙ get_or-replicate (length c) k place (0, 0) here

      back : (k : ℕ) → length c ≤ k → get_or (replicate (length c) place ++ places_from log s (next log s place c) b) k (0, 0) ≡ get_or (places_from log s (next log s place c) b) (k - length c) (0, 0)
      back k behind = get_or-append_right (replicate (length c) place) (places_from log s (next log s place c) b) (length c) k (0, 0) (length-replicate (length c) place) behind

      at_first : position < length c → Located image (get_or (replicate (length c) place ++ places_from log s (next log s place c) b) position (0, 0)) count (get_or (c ++ records_of b) position [])
      at_first here =
          let whole : count ≡ position = ⊎_elim
          (λ less. absurd (run.first (position - count - 1) (omega (arith, less)) (front (position - count - 1) (omega (arith, here, less)) ∙ sym (front position here))))
          (λ all. omega (arith, all, run.within))
          (lt_or_le count position) in
          subst (λ (q : Place). Located image q count (get_or (c ++ records_of b) position [])) (sym (front position here))
          (record {
            batch = c;
            stands = holds.0;
            within = omega (arith, whole, here);
            same = get_or_append_left c (records_of b) [] position here ∙ ap (λ (k : ℕ). get_or c k []) (sym whole);
          })

      behind_first : length c ≤ position → position - length c < length (places_from log s (next log s place c) b)
      behind_first behind = omega (arith, lt, behind, length-append (replicate (length c) place) (places_from log s (next log s place c) b), length-replicate (length c) place)

      not_place : length c ≤ position → get_or (replicate (length c) place ++ places_from log s (next log s place c) b) position (0, 0) ≡ place → ⊥
      not_place behind same =
          not_again place c (get_or (places_from log s (next log s place c) b) (position - length c) (0, 0)) (places_later (next log s place c) b (position - length c) (behind_first behind)) (sym (back position behind) ∙ same)

      stays_behind : length c ≤ position → count + length c ≤ position
      stays_behind behind = ⊎_elim
          (λ crosses. absurd (not_place behind (sym (run.same (length c - 1) (omega (arith, crosses, behind, run.within)) (omega (arith, behind))) ∙ front (length c - 1) (omega (arith, crosses, behind, run.within)))))
          (λ fits. fits)
          (lt_or_le position (count + length c))

      further : length c ≤ position
          → (IsRun (places_from log s (next log s place c) b) (position - length c) count → Located image (get_or (places_from log s (next log s place c) b) (position - length c) (0, 0)) count (get_or (records_of b) (position - length c) []))
          → Located image (get_or (replicate (length c) place ++ places_from log s (next log s place c) b) position (0, 0)) count (get_or (c ++ records_of b) position [])
      further behind rest =
          let fits = stays_behind behind in
          subst (λ (q : Place). Located image q count (get_or (c ++ records_of b) position [])) (sym (back position behind))
          (subst (λ (l : List ℕ). Located image (get_or (places_from log s (next log s place c) b) (position - length c) (0, 0)) count l) (sym (get_or-append_right c (records_of b) (length c) position [] refl behind))
          (rest (record {
            within = omega (arith, fits);
            same = λ k from to.
                let moved : k + length c - length c ≡ k = omega arith in
                ap (λ (n : ℕ). get_or (places_from log s (next log s place c) b) n (0, 0)) (sym moved) ∙ sym (back (k + length c) (omega arith)) ∙ run.same (k + length c) (omega (arith, from, fits, behind)) (omega (arith, to, behind)) ∙ back position behind;
            first = λ k is same.
                let moved : k + length c - length c ≡ k = omega arith in
                run.first (k + length c) (omega (arith, is, fits, behind)) (back (k + length c) (omega arith) ∙ ap (λ (n : ℕ). get_or (places_from log s (next log s place c) b) n (0, 0)) moved ∙ same ∙ sym (back position behind));
          })))

-- the record that begins where the others end
pub at_record : (bytes : List ℕ) (start i j : ℕ) (rs : Batch) → i < length rs → i ≡ j → drop start bytes ≡ body (drop i rs) → body (get_or rs j [] ∷ drop (j + 1) rs) ≡ take (length bytes - start) (drop start bytes)
at_record bytes start i j rs lt same is =
    ap (λ (b : Batch). body b) (sym (drop_more rs j [] (omega (arith, lt, same))))
    ∙ ap (λ (k : ℕ). body (drop k rs)) (sym same)
    ∙ sym is
    ∙ sym (take_rest bytes start)

-- the record of a position
pub read_at : (v : GateView) (b : List Batch) (d : DiskState) (position count : ℕ) → StandsOn v b d → position < length v.places → IsRun v.places position count
    → Located v.log v.segment_size d.reads (get_or v.places position (0, 0)) count (get_or (records_of b) position [])
read_at v b d position count stands lt run =
    subst (λ (l : List Place). Located v.log v.segment_size d.reads (get_or l position (0, 0)) count (get_or (records_of b) position [])) (sym stands.places)
    (located v.log v.segment_size d.reads (next v.log v.segment_size (0, 0) (begin v.log v.segment_size)) b position count (stands.images d.reads d.is_image).log_is.holds.1
    (omega (arith, lt, ap (λ (l : List Place). length l) stands.places))
    (subst (λ (l : List Place). IsRun l position count) stands.places run))

-- where it stands
pub stood : (v : GateView) (d : DiskState) (position count : ℕ) (bytes : List ℕ) (found : Located v.log v.segment_size d.reads (get_or v.places position (0, 0)) count bytes) (area : ℕ) (q : Place)
    → area ≡ area_of v.log q.0 → q ≡ get_or v.places position (0, 0) → BatchAt (d.reads area) q.1 found.batch
stood v d position count bytes found area q same_area same =
    subst (λ (n : ℕ). BatchAt (d.reads n) q.1 found.batch) (sym same_area) (subst (λ (p : Place). BatchAt (d.reads (area_of v.log p.0)) p.1 found.batch) (sym same) found.stands)
