-- Each image reads as something: whether a batch stands at a place can be told.
use Rattle.std.proofs.Common.{◌≡◌, inl, inr, ◌⊎◌, ℕ, zero, suc, ◌+◌, ◌^◌, ◌≤◌, ◌<◌, List, [], ◌∷◌, ◌++◌, length, take, drop, get_or, refl, sym, ◌∙◌, ap, subst, arith, length-append, Bool, true, false, if◌then◌else◌}
use Rattle.std.specs.Int.{to_be_bytes, from_be_bytes, w32, w64}
use Rattle.std.proofs.lemmas.Bool.{cases_eq}
use Rattle.std.proofs.lemmas.Nat.{from_be_bytes-to_be_bytes_4, from_be_bytes-to_be_bytes_8}
use Rattle.std.proofs.lemmas.List.{length-take, length-drop, take-append-drop, drop-drop, drop_at, get_or-take, get_or-drop}
use Rattle.std.proofs.lemmas.List.Elements.{All-nil, All-cons, All-tail}
use Rattle.gl_outside.specs.Disk.{Image}
use Rattle.gl_gatelog.specs.declared.kind.Log.{Log}
use Rattle.gl_gatelog.specs.Batch.{Batch, BatchAt, body, opened, size}
use Rattle.gl_gatelog.specs.Gate.{IsClosed}
use Rattle.gl_gatelog.specs.Log.{area_of, Place, begin, next, next_segment, behind_batch, same_segment, end_of, log_end, last_segment, Holds, IsSegmentSize}
use Rattle.gl_gatelog.specs.Reading.{Reading, Fresh, Whole, Broken, ReadsAs, IsBroken}
use Rattle.gl_gatelog.proofs.Unique.{lawful_body, not_closed, one_batch}
use Rattle.gl_gatelog.proofs.Parse.{fields, stands}
use Rattle.gl_gatelog.proofs.Peel.{Short}
use Rattle.gl_gatelog.proofs.Chain.{goes_within}
use Rattle.gl_gatelog.proofs.Beginning.{lawful_begin, size_bytes}

-- either it holds, or it doesn't
abbrev pub Told : Type 0 → Type 0
Told P = P ⊎ (P → ⊥)

lt_or_not : (m n : ℕ) → (m < n) ⊎ (m < n → ⊥)
lt_or_not m n = grind arith

le_or_not : (m n : ℕ) → (m ≤ n) ⊎ (m ≤ n → ⊥)
le_or_not m n = grind arith

same_or_not : (xs ys : List ℕ) → (xs ≡ ys) ⊎ (xs ≡ ys → ⊥)
same_or_not [] [] = inl refl
same_or_not [] (y ∷ ys) = inr (λ e. cc e)
same_or_not (x ∷ xs) [] = inr (λ e. cc e)
same_or_not (x ∷ xs) (y ∷ ys) = elim (cases_eq x y) [
  | inl same ↦ elim (same_or_not xs ys) [
    | inl rest ↦ inl (λ i. same i ∷ rest i)
    | inr not ↦ inr (λ e. not (ap (λ (l : List ℕ). drop 1 l) e))
  ]
  | inr not ↦ inr (λ e. not (ap (λ (l : List ℕ). get_or l 0 0) e))
]

-- records that fill bytes
pub record Filled (bytes : List ℕ) (n : ℕ) : Type 0 where
  pub batch : Batch
  pub whole : body batch ≡ bytes
  pub count : length batch ≡ n
  pub short : Short batch

filled_none : (bytes : List ℕ) (x : ℕ) (rs : Batch) → body rs ≡ x ∷ bytes → length rs ≡ 0 → ⊥
filled_none bytes x [] whole count = cc whole
filled_none bytes x (r ∷ rs) whole count = omega (arith, count)

-- the number at the front is the length of the first record
first_length : (bytes : List ℕ) (n : ℕ) (rs : Batch) → body rs ≡ bytes → length rs ≡ n + 1 → Short rs → (r : List ℕ) × (rest : Batch) × (rs ≡ r ∷ rest) × (from_be_bytes w32 (take 4 bytes) ≡ length r) × (to_be_bytes w32 (length r) ≡ take 4 bytes) × (length r ≤ 2 ^ 22) × (4 + length r ≤ length bytes) × (body rest ≡ drop (4 + length r) bytes) × (length rest ≡ n) × Short rest
first_length bytes n [] whole count short = absurd (omega (arith, count))
first_length bytes n (r ∷ rest) whole count short =
    let at_front : to_be_bytes w32 (length r) ≡ take 4 bytes = ap (λ (l : List ℕ). take 4 l) whole in
    let fits : length r ≤ 2 ^ 22 = short 0 [] (omega arith) in (
      r,
      rest,
      refl,
      ap (λ (l : List ℕ). from_be_bytes w32 l) (sym at_front) ∙ from_be_bytes-to_be_bytes_4 (length r) (omega (arith, fits)),
      at_front,
      fits,
      omega (arith, ap (λ (l : List ℕ). length l) whole, length-append r (body rest)),
      sym (drop_at r (body rest) (length r) refl) ∙ ap (λ (l : List ℕ). drop (length r) (drop 4 l)) whole ∙ drop-drop (length r) 4 bytes,
      omega (arith, count),
      All-tail (λ (x : List ℕ). length x ≤ 2 ^ 22) r rest short,
    )

filled : (n : ℕ) (bytes : List ℕ) → Filled bytes n ⊎ ((rs : Batch) → body rs ≡ bytes → length rs ≡ n → Short rs → ⊥)
filled zero [] = inl (record { batch = []; whole = refl; count = refl; short = All-nil (λ (x : List ℕ). length x ≤ 2 ^ 22) })
filled zero (x ∷ bytes) = inr (λ rs whole count short. filled_none bytes x rs whole count)
filled (suc n) bytes =
    let m = from_be_bytes w32 (take 4 bytes) in
    elim (le_or_not m (2 ^ 22)) [
      | inl short ↦ elim (same_or_not (to_be_bytes w32 m) (take 4 bytes)) [
        | inl is ↦ elim (le_or_not (4 + m) (length bytes)) [
          | inl fits ↦ elim (filled n (drop (4 + m) bytes)) [
            | inl rest ↦ inl (more m short is fits rest)
            | inr none ↦ inr (λ rs whole count all.
                let f = first_length bytes n rs whole (omega (arith, count)) all in
                none f.1 (f.7 ∙ ap (λ (k : ℕ). drop (4 + k) bytes) (sym f.3)) f.8 f.9)
          ]
          | inr not ↦ inr (λ rs whole count all. let f = first_length bytes n rs whole (omega (arith, count)) all in not (omega (arith, f.3, f.6)))
        ]
        | inr not ↦ inr (λ rs whole count all. let f = first_length bytes n rs whole (omega (arith, count)) all in not (ap (λ (k : ℕ). to_be_bytes w32 k) f.3 ∙ f.4))
      ]
      | inr not ↦ inr (λ rs whole count all. let f = first_length bytes n rs whole (omega (arith, count)) all in not (omega (arith, f.3, f.5)))
    ]
  where
    more : (m : ℕ) → m ≤ 2 ^ 22 → to_be_bytes w32 m ≡ take 4 bytes → 4 + m ≤ length bytes → Filled (drop (4 + m) bytes) n → Filled bytes (suc n)
    more m short is fits rest =
        let r = take m (drop 4 bytes) in
        let len : length r ≡ m = omega (arith, length-take m (drop 4 bytes), length-drop 4 bytes, fits) in
        record {
          batch = r ∷ rest.batch;
          whole =
              ap (λ (k : ℕ). to_be_bytes w32 k ++ (r ++ body rest.batch)) len
              ∙ ap (λ (l : List ℕ). to_be_bytes w32 m ++ (r ++ l)) rest.whole
              ∙ ap (λ (l : List ℕ). l ++ (r ++ drop (4 + m) bytes)) is
              ∙ ap (λ (l : List ℕ). take 4 bytes ++ (r ++ l)) (sym (drop-drop m 4 bytes))
              ∙ ap (λ (l : List ℕ). take 4 bytes ++ l) (take-append-drop m (drop 4 bytes))
              ∙ take-append-drop 4 bytes;
          count = omega (arith, rest.count);
          short = All-cons (λ (x : List ℕ). length x ≤ 2 ^ 22) r rest.batch (omega (arith, len, short)) rest.short;
        }

gate_of : (area : List ℕ) (at : ℕ) (rs : Batch) → BatchAt area at rs → get_or area at 0 ≡ 1
gate_of area at rs is =
    ap (λ (n : ℕ). get_or area n 0) (omega arith) ∙ sym (get_or-drop at area 0 0) ∙ sym (get_or-take (size rs) (drop at area) 0 0 (omega arith)) ∙ ap (λ (l : List ℕ). get_or l 0 0) is.bytes

-- what the fields of a batch are
record Read (area : List ℕ) (at : ℕ) (rs : Batch) : Type 0 where
  count : from_be_bytes w32 (take 4 (drop (at + 1) area)) ≡ length rs
  count_bytes : to_be_bytes w32 (length rs) ≡ take 4 (drop (at + 1) area)
  len : from_be_bytes w32 (take 4 (drop (at + 5) area)) ≡ length (body rs)
  len_bytes : to_be_bytes w32 (length (body rs)) ≡ take 4 (drop (at + 5) area)

read : (area : List ℕ) (at : ℕ) (rs : Batch) → BatchAt area at rs → Read area at rs
read area at rs is =
    let f = fields area at rs is in
    record {
      count = ap (λ (l : List ℕ). from_be_bytes w32 l) f.count ∙ from_be_bytes-to_be_bytes_4 (length rs) (omega (arith, is.lawful.few));
      count_bytes = sym f.count;
      len = ap (λ (l : List ℕ). from_be_bytes w32 l) f.len ∙ from_be_bytes-to_be_bytes_4 (length (body rs)) (lawful_body rs is.lawful);
      len_bytes = sym f.len;
    }

pub batch_or_not : (area : List ℕ) (at : ℕ) → ((rs : Batch) × BatchAt area at rs) ⊎ ((rs : Batch) → BatchAt area at rs → ⊥)
batch_or_not area at =
    let count = from_be_bytes w32 (take 4 (drop (at + 1) area)) in
    let len = from_be_bytes w32 (take 4 (drop (at + 5) area)) in
    elim (cases_eq (get_or area at 0) 1) [
      | inl gate ↦ elim (le_or_not (at + 10 + len) (length area)) [
        | inl room ↦ elim (same_or_not (to_be_bytes w32 count) (take 4 (drop (at + 1) area))) [
          | inl is_count ↦ elim (same_or_not (to_be_bytes w32 len) (take 4 (drop (at + 5) area))) [
            | inl is_len ↦ elim (lt_or_not 0 count) [
              | inl some ↦ elim (le_or_not count 256) [
                | inl few ↦ elim (filled count (take len (drop (at + 9) area))) [
                  | inl found ↦ inl (found.batch, (stands area at count len found.batch gate room is_count is_len found.whole found.count some few found.short).0)
                  | inr none ↦ inr (λ rs is. let r = read area at rs is in
                      none rs (sym (fields area at rs is).bytes ∙ ap (λ (n : ℕ). take n (drop (at + 9) area)) (sym r.len)) (sym r.count) is.lawful.short)
                ]
                | inr not ↦ inr (λ rs is. not (omega (arith, (read area at rs is).count, is.lawful.few)))
              ]
              | inr not ↦ inr (λ rs is. not (omega (arith, (read area at rs is).count, is.lawful.some)))
            ]
            | inr not ↦ inr (λ rs is. let r = read area at rs is in not (ap (λ (n : ℕ). to_be_bytes w32 n) r.len ∙ r.len_bytes))
          ]
          | inr not ↦ inr (λ rs is. let r = read area at rs is in not (ap (λ (n : ℕ). to_be_bytes w32 n) r.count ∙ r.count_bytes))
        ]
        | inr not ↦ inr (λ rs is. not (omega (arith, (read area at rs is).len, (fields area at rs is).room)))
      ]
      | inr not ↦ inr (λ rs is. not (gate_of area at rs is))
    ]

begin_or_not : (area : List ℕ) (log : Log) → ((s : ℕ) × IsSegmentSize s × BatchAt area 0 (begin log s)) ⊎ ((s : ℕ) → IsSegmentSize s → BatchAt area 0 (begin log s) → ⊥)
begin_or_not area log =
    let s = from_be_bytes w64 (take 8 (drop 17 area)) in
    elim (le_or_not 4096 s) [
      | inl least ↦ elim (le_or_not s (2 ^ 30)) [
        | inl most ↦ elim (lt_or_not 25 (length area)) [
          | inl long ↦ elim (same_or_not (take 25 (drop 0 area)) (opened (begin log s))) [
            | inl same ↦ inl (s, record { least = least; most = most }, record { lawful = lawful_begin log s; bytes = same; followed = long })
            | inr not ↦ inr (λ t sized is. not (is.bytes ∙ ap (λ (n : ℕ). opened (begin log n)) (sym (size_is area log t sized is))))
          ]
          | inr not ↦ inr (λ t sized is. not is.followed)
        ]
        | inr not ↦ inr (λ t sized is. not (omega (arith, size_is area log t sized is, sized.most)))
      ]
      | inr not ↦ inr (λ t sized is. not (omega (arith, size_is area log t sized is, sized.least)))
    ]
  where
    size_is : (area : List ℕ) (log : Log) (t : ℕ) → IsSegmentSize t → BatchAt area 0 (begin log t) → from_be_bytes w64 (take 8 (drop 17 area)) ≡ t
    size_is area log t sized is = ap (λ (l : List ℕ). from_be_bytes w64 l) (size_bytes area log t is) ∙ from_be_bytes-to_be_bytes_8 t (omega (arith, sized.most))

module _ (log : Log) (s : ℕ) (image : Image) where
  abbrev At : ℕ → List ℕ
  At k = image (area_of log k)

  -- the batches from a place on, to where no more of them stand
  record Walked (place : Place) : Type 0 where
    batches : List Batch
    holds : Holds log s image place batches
    ends : IsClosed (end_of log s place batches).1 (image (area_of log (end_of log s place batches).0)) ⊎ IsBroken (image (area_of log (end_of log s place batches).0)) (end_of log s place batches).1

  ended : (k at : ℕ) → (0 < at → at < length (At k)) → ((rs : Batch) → BatchAt (At k) at rs → ⊥) → IsClosed at (At k) ⊎ IsBroken (At k) at
  ended k at inside none = elim (cases_eq (get_or (At k) at 0) 1) [
    | inl one ↦ elim (lt_or_not 1 (length (At k))) [
      | inl more ↦ inr (record { more = more; open_gate = one; unlawful = none })
      | inr not ↦ elim (lt_or_not 0 at) [
        | inl some ↦ absurd (not (omega (arith, inside some, some)))
        | inr zero_at ↦ inl (inl (omega (arith, zero_at), omega (arith, not)))
      ]
    ]
    | inr other ↦ elim (lt_or_not at (length (At k))) [
      | inl there ↦ inl (inr (record { there = there; shut = other }))
      | inr past ↦ elim (lt_or_not 0 at) [
        | inl some ↦ absurd (past (inside some))
        | inr zero_at ↦ inl (inl (omega (arith, zero_at), omega (arith, past, zero_at)))
      ]
    ]
  ]

  step : (k at : ℕ) → (0 < at → at < length (At k)) → ((b : Batch) → BatchAt (At k) at b → Walked (next log s (k, at) b)) → Walked (k, at)
  step k at inside go = elim (batch_or_not (At k) at) [
    | inl found ↦ let rest = go found.0 found.1 in record { batches = found.0 ∷ rest.batches; holds = (found.1, rest.holds); ends = rest.ends }
    | inr none ↦ record { batches = []; holds = tt; ends = ended k at inside none }
  ]

  goes_on : (k at : ℕ) (b : Batch) → k ≤ last_segment log → (k < last_segment log → Walked (k + 1, 0)) → Walked (k, at + size b) → Walked (next log s (k, at) b)
  goes_on k at b le over here = by (same_segment log s (behind_batch (k, at) b)) refl
    where
      by : (x : Bool) → same_segment log s (behind_batch (k, at) b) ≡ x → Walked (if x then behind_batch (k, at) b else next_segment (k, at))
      by true same = here
      by false goes = over (omega (arith, goes_within log s (k, at) b le goes))

  in_segment : (k : ℕ) → k ≤ last_segment log → (k < last_segment log → Walked (k + 1, 0)) → (m at : ℕ) → length (At k) ≤ at + m → (0 < at → at < length (At k)) → Walked (k, at)
  in_segment k le over zero at left inside = step k at inside (λ b is. absurd (omega (arith, is.followed, left)))
  in_segment k le over (suc m) at left inside =
      step k at inside (λ b is. goes_on k at b le over (in_segment k le over m (at + size b) (omega (arith, left)) (λ some. is.followed)))

  segments : (n k : ℕ) → k + n ≡ last_segment log → Walked (k, 0)
  segments zero k is = in_segment k (omega (arith, is)) (λ lt. absurd (omega (arith, is, lt))) (length (At k)) 0 (omega arith) (λ some. absurd (omega (arith, some)))
  segments (suc n) k is = in_segment k (omega (arith, is)) (λ lt. segments n (k + 1) (omega (arith, is))) (length (At k)) 0 (omega arith) (λ some. absurd (omega (arith, some)))

  with_begin : IsSegmentSize s → BatchAt (At 0) 0 (begin log s) → (r : Reading) × ReadsAs log image r
  with_begin sized is = at (segments (last_segment log) 0 (omega arith)).batches (segments (last_segment log) 0 (omega arith)).holds (segments (last_segment log) 0 (omega arith)).ends
    where
      at : (b : List Batch) → Holds log s image (0, 0) b → IsClosed (end_of log s (0, 0) b).1 (image (area_of log (end_of log s (0, 0) b).0)) ⊎ IsBroken (image (area_of log (end_of log s (0, 0) b).0)) (end_of log s (0, 0) b).1
          → (r : Reading) × ReadsAs log image r
      at [] holds (inl closed) = absurd (not_closed (At 0) 0 (begin log s) is closed)
      at [] holds (inr broken) = absurd (broken.unlawful (begin log s) is)
      at (x ∷ b) holds (inl closed) =
          let same : x ≡ begin log s = one_batch (At 0) 0 x (begin log s) holds.0 is in (
            Whole s b,
            record {
              sized = sized;
              holds = subst (λ (y : Batch). Holds log s image (0, 0) (y ∷ b)) same holds;
              ends = subst (λ (y : Batch). IsClosed (end_of log s (0, 0) (y ∷ b)).1 (image (area_of log (end_of log s (0, 0) (y ∷ b)).0))) same closed;
            },
          )
      at (x ∷ b) holds (inr broken) =
          let same : x ≡ begin log s = one_batch (At 0) 0 x (begin log s) holds.0 is in (
            Broken (log_end log s b).0 (log_end log s b).1,
            inl (
              s,
              b,
              record {
                sized = sized;
                holds = subst (λ (y : Batch). Holds log s image (0, 0) (y ∷ b)) same holds;
                place = refl;
                broken = subst (λ (y : Batch). IsBroken (image (area_of log (end_of log s (0, 0) (y ∷ b)).0)) (end_of log s (0, 0) (y ∷ b)).1) same broken;
              },
            ),
          )

-- each image reads as something
pub a_reading : (log : Log) (image : Image) → (r : Reading) × ReadsAs log image r
a_reading log image =
    let area = image (area_of log 0) in
    elim (lt_or_not 1 (length area)) [
      | inl more ↦ elim (cases_eq (get_or area 0 0) 1) [
        | inl one ↦ elim (begin_or_not area log) [
          | inl found ↦ with_begin log found.0 image found.1 found.2
          | inr none ↦ (Broken 0 0, inr (refl, refl, record { more = more; open_gate = one; no_begin = none }))
        ]
        | inr other ↦ (Fresh, inr (record { there = omega (arith, more); shut = other }))
      ]
      | inr short ↦ (Fresh, inl (refl, omega (arith, short)))
    ]
