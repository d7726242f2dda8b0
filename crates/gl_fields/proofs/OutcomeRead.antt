-- What is read as an outcome has just its bytes, and the bytes of an outcome are read as it.
use Rattle.std.proofs.Common.{◌≡◌, ℕ, zero, suc, ◌^◌, ◌<◌, ◌≤◌, ◌-◌, Bool, true, false, cond, eqb, ltb, List, [], ◌∷◌, ◌++◌, length, Result, Ok, Err, refl, sym, ap, subst, ◌∙◌, append_assoc, arith, lit≤}
use Rattle.std.specs.Prelude.{IfOk}
use Rattle.std.specs.List.{All, list_all, flat_map}
use Rattle.std.specs.Int.{w16, w32, w64, to_be_bytes}
use Rattle.std.proofs.lemmas.Bool.{eqb-true, eqb-false, ltb-true, lt-ltb}
use Rattle.std.proofs.lemmas.List.{append-nil}
use Rattle.std.proofs.lemmas.List.Elements.{All-push, All-nil, All-weaker, All-head, All-tail}
use Rattle.std.proofs.lemmas.List.Sums.{AllPass-from_list_all, list_all-from_AllPass}
use Rattle.gl_fields.specs.declared.decode.EntryRefusal.{EntryRefusal}
use Rattle.gl_fields.specs.declared.entry.Cause.{Cause}
use Rattle.gl_fields.specs.declared.entry.Cause.TheVariants.{NotJson, TooDeep, Compressed, NoShortMessage, TooManyFields, TooLarge}
use Rattle.gl_fields.specs.declared.entry.Outcome.{Outcome}
use Rattle.gl_fields.specs.declared.entry.Outcome.TheVariants.{Applied, Stored, Dropped, Undecodable}
use Rattle.gl_fields.specs.declared.field.Field.{Field}
use Rattle.gl_fields.specs.Fields.{Rises, IsField, IsFieldMap}
use Rattle.gl_fields.specs.Outcomes.{field_bytes, cause_bytes, outcome_bytes}
use Rattle.gl_fields.specs.Bounds.{IsStored, IsCause, IsOutcome}
use Rattle.gl_fields.specs.Units.{◌>>=◌, byte_at, number_at, many_at, Answers}
use Rattle.gl_fields.specs.EntryReading.{id_at, field_at, stored_at, plain_cause, not_json_at, cause_at, undecodable_at, outcome_at, outcome_of}
use Rattle.gl_fields.proofs.Taking.{bind_ok, guard_ok, ok_is, IsBytes, Takes, Takes-then, IsWithin, IsNumber, wide16, wide32, wide64, byte_takes, byte_again, number_takes, number_again}
use Rattle.gl_fields.proofs.Growing.{Rises-push, Rises-before}
use Rattle.gl_fields.proofs.Many.{Grew, many_take, many_again}
use Rattle.gl_fields.proofs.FieldRead.{AreFields, field_takes, field_again, chosen}
use Rattle.gl_fields.proofs.EntryRead.{whole_is}

-- ids

abbrev pub Below : ℕ → ℕ → Type 0
Below a b = a < b

abbrev id_bytes : ℕ → List ℕ
id_bytes id = to_be_bytes w64 id

record AreIds (ids : List ℕ) : Type 0 where
  each : All (λ (id : ℕ). id < 2 ^ 64) ids
  rises : Rises Below ids

above : (ids : List ℕ) (id : ℕ) → list_all (λ (other : ℕ). ltb other id) ids ≡ true → All (λ (other : ℕ). other < id) ids
above ids id e = All-weaker (λ (other : ℕ). ltb other id ≡ true) (λ (other : ℕ). other < id) (λ other t. ltb-true other id t) ids (AllPass-from_list_all (λ (other : ℕ). ltb other id) ids e)

read_id : (ids bytes : List ℕ) (id : ℕ) (rest : List ℕ) → id_at ids bytes ≡ Ok (id, rest) → (number_at w64 0 (2 ^ 64 - 1) bytes ≡ Ok (id, rest)) × (list_all (λ (other : ℕ). ltb other id) ids ≡ true)
unfolding id_at
read_id ids bytes id rest e =
    let test : ℕ → Bool = λ n. list_all (λ (other : ℕ). ltb other n) ids in
    let a = bind_ok (number_at w64 0 (2 ^ 64 - 1) bytes) (λ n. cond (test n.0) (Ok n) (Err (length bytes))) (id, rest) e in
    let g = guard_ok (test a.0.0) (length bytes) a.0 (id, rest) a.2 in
    subst (λ (p : ℕ × List ℕ). (number_at w64 0 (2 ^ 64 - 1) bytes ≡ Ok p) × (list_all (λ (other : ℕ). ltb other p.0) ids ≡ true)) g.1 (a.1, g.0)

-- the ids still rise with one that was read
pub id_rises : (ids bytes : List ℕ) (id : ℕ) (rest : List ℕ) → Rises Below ids → id_at ids bytes ≡ Ok (id, rest) → Rises Below (ids ++ id ∷ [])
id_rises ids bytes id rest rises e = Rises-push Below ids id rises (above ids id (read_id ids bytes id rest e).1)

id_takes : (ids bytes : List ℕ) (id : ℕ) (rest : List ℕ) → IsBytes bytes → AreIds ids → id_at ids bytes ≡ Ok (id, rest) → Takes bytes (id_bytes id) rest × AreIds (ids ++ id ∷ [])
id_takes ids bytes id rest all are e =
    let number = number_takes w64 (2 ^ 64) wide64 0 (2 ^ 64 - 1) bytes id rest all (read_id ids bytes id rest e).0 in
    (number.0, record { each = All-push (λ (n : ℕ). n < 2 ^ 64) ids id are.each number.1.below; rises = id_rises ids bytes id rest are.rises e })

id_again : (ids : List ℕ) (id : ℕ) (later rest : List ℕ) → AreIds (ids ++ id ∷ later) → id_at ids (id_bytes id ++ rest) ≡ Ok (id, rest)
unfolding id_at
id_again ids id later rest are =
    let below : id < 2 ^ 64 = middle ids are.each in
    let last : list_all (λ (other : ℕ). ltb other id) ids ≡ true =
    list_all-from_AllPass (λ (other : ℕ). ltb other id) ids (All-weaker (λ (other : ℕ). other < id) (λ (other : ℕ). ltb other id ≡ true) (λ other lt. lt-ltb other id lt) ids (Rises-before Below ids id later are.rises)) in
    rw (number_again w64 (2 ^ 64) wide64 0 (2 ^ 64 - 1) id rest (record { within = record { low = omega arith; high = omega (arith, below) }; below = below }), last) refl
  where
    middle : (front : List ℕ) → All (λ (n : ℕ). n < 2 ^ 64) (front ++ id ∷ later) → id < 2 ^ 64
    middle [] all = All-head (λ (n : ℕ). n < 2 ^ 64) id later all
    middle (g ∷ front) all = middle front (All-tail (λ (n : ℕ). n < 2 ^ 64) g (front ++ id ∷ later) all)

no_ids : AreIds []
no_ids = record { each = All-nil (λ (id : ℕ). id < 2 ^ 64); rises = tt }

no_fields : AreFields []
no_fields = record { each = All-nil IsField; rises = tt; short = omega arith }

pub fields_start : (fields : List Field) → fields ≡ [] → AreFields fields
fields_start fields e = subst AreFields (sym e) no_fields

-- so many fields, not too many, are a map
pub fields_map : (count : ℕ) (bytes : List ℕ) (fields : List Field) (rest : List ℕ) → IsBytes bytes → count ≤ 256 → many_at field_at count [] bytes ≡ Ok (fields, rest) → IsFieldMap fields
fields_map count bytes fields rest all few e =
    let read = many_take field_at field_bytes AreFields field_takes count [] bytes (fields, rest) all no_fields e in
    let len : length fields ≡ count = ap length read.0.all ∙ read.0.length in
    record { each = read.1.each; rises = read.1.rises; few = omega (arith, len); short = read.1.short }

-- stored messages, behind their sign

abbrev stored_bytes : List ℕ → List Field → List ℕ
stored_bytes streams fields = to_be_bytes w16 (length streams) ++ (flat_map id_bytes streams ++ (to_be_bytes w16 (length fields) ++ flat_map field_bytes fields))

stored_takes : (bytes : List ℕ) (x : Outcome × List ℕ) → IsBytes bytes → stored_at bytes ≡ Ok x → Takes (17 ∷ bytes) (outcome_bytes x.0) x.1 × IsOutcome x.0
unfolding stored_at
stored_takes bytes x all e =
    let a = bind_ok (number_at w16 1 65535 bytes) (λ count. many_at id_at count.0 [] count.1 >>= λ streams. number_at w16 0 256 streams.1 >>= λ many. many_at field_at many.0 [] many.1 >>= λ fields. Ok (Stored streams.0 fields.0, fields.1)) x e in
    let b = bind_ok (many_at id_at a.0.0 [] a.0.1) (λ streams. number_at w16 0 256 streams.1 >>= λ many. many_at field_at many.0 [] many.1 >>= λ fields. Ok (Stored streams.0 fields.0, fields.1)) x a.2 in
    let d = bind_ok (number_at w16 0 256 b.0.1) (λ many. many_at field_at many.0 [] many.1 >>= λ fields. Ok (Stored b.0.0 fields.0, fields.1)) x b.2 in
    let f = bind_ok (many_at field_at d.0.0 [] d.0.1) (λ fields. Ok (Stored b.0.0 fields.0, fields.1)) x d.2 in
    let count = number_takes w16 (2 ^ 16) wide16 1 65535 bytes a.0.0 a.0.1 all a.1 in
    let streams = many_take id_at id_bytes AreIds id_takes a.0.0 [] a.0.1 b.0 count.0.rest_fits no_ids b.1 in
    let many = number_takes w16 (2 ^ 16) wide16 0 256 b.0.1 d.0.0 d.0.1 streams.0.takes.rest_fits d.1 in
    let fields = many_take field_at field_bytes AreFields field_takes d.0.0 [] d.0.1 f.0 many.0.rest_fits no_fields f.1 in
    stored_read bytes a.0.0 a.0.1 b.0.0 b.0.1 d.0.0 d.0.1 f.0.0 f.0.1 x count streams.0 streams.1 many fields.0 fields.1 f.2
  where
    stored_read : (bytes : List ℕ) (n : ℕ) (after_n streams after_streams : List ℕ) (m : ℕ) (after_m : List ℕ) (fields : List Field) (rest : List ℕ) (x : Outcome × List ℕ)
        → Takes bytes (to_be_bytes w16 n) after_n × IsNumber (2 ^ 16) 1 65535 n → Grew id_at id_bytes n [] after_n (streams, after_streams) → AreIds streams
        → Takes after_streams (to_be_bytes w16 m) after_m × IsNumber (2 ^ 16) 0 256 m → Grew field_at field_bytes m [] after_m (fields, rest) → AreFields fields
        → (let r : Result (Outcome × List ℕ) ℕ = Ok (Stored streams fields, rest) in r) ≡ Ok x → Takes (17 ∷ bytes) (outcome_bytes x.0) x.1 × IsOutcome x.0
    stored_read bytes n after_n streams after_streams m after_m fields rest x count ids ids_are many named named_are e =
        let len_ids : length streams ≡ n = ap length ids.all ∙ ids.length in
        let len_fields : length fields ≡ m = ap length named.all ∙ named.length in
        let take_ids : Takes after_n (flat_map id_bytes streams) after_streams = subst (λ (l : List ℕ). Takes after_n (flat_map id_bytes l) after_streams) (sym ids.all) ids.takes in
        let take_fields : Takes after_m (flat_map field_bytes fields) rest = subst (λ (l : List Field). Takes after_m (flat_map field_bytes l) rest) (sym named.all) named.takes in
        let three = Takes-then after_streams (to_be_bytes w16 m) after_m (flat_map field_bytes fields) rest many.0 take_fields in
        let two = Takes-then after_n (flat_map id_bytes streams) after_streams (to_be_bytes w16 m ++ flat_map field_bytes fields) rest take_ids three in
        let one = Takes-then bytes (to_be_bytes w16 n) after_n (flat_map id_bytes streams ++ (to_be_bytes w16 m ++ flat_map field_bytes fields)) rest count.0 two in
        let same : (to_be_bytes w16 n ++ (flat_map id_bytes streams ++ (to_be_bytes w16 m ++ flat_map field_bytes fields))) ≡ stored_bytes streams fields =
        λ i. to_be_bytes w16 (sym len_ids i) ++ (flat_map id_bytes streams ++ (to_be_bytes w16 (sym len_fields i) ++ flat_map field_bytes fields)) in
        let regrouped : outcome_bytes (Stored streams fields) ≡ 17 ∷ stored_bytes streams fields = four_parts (17 ∷ to_be_bytes w16 (length streams)) (flat_map id_bytes streams) (to_be_bytes w16 (length fields)) (flat_map field_bytes fields) in
        let made : Outcome × List ℕ = (Stored streams fields, rest) in
        subst (λ (y : Outcome × List ℕ). Takes (17 ∷ bytes) (outcome_bytes y.0) y.1 × IsOutcome y.0) (ok_is made x e) (
          record { parts = ap (λ (l : List ℕ). 17 ∷ l) one.parts ∙ ap (λ (l : List ℕ). 17 ∷ (l ++ rest)) same ∙ ap (λ (l : List ℕ). l ++ rest) (sym regrouped); rest_fits = one.rest_fits },
          record {
            some = omega (arith, len_ids, count.1.within.low);
            few = omega (arith, len_ids, count.1.below);
            ids = ids_are.each;
            rises = ids_are.rises;
            map = record { each = named_are.each; rises = named_are.rises; few = omega (arith, len_fields, many.1.within.high); short = named_are.short };
          },
        )
      where
        four_parts : (a b c d : List ℕ) → ((a ++ b) ++ c) ++ d ≡ a ++ (b ++ (c ++ d))
        four_parts a b c d = simp append_assoc

stored_again : (streams : List ℕ) (fields : List Field) (rest : List ℕ) → IsStored streams fields → stored_at (stored_bytes streams fields ++ rest) ≡ Ok (Stored streams fields, rest)
unfolding stored_at
stored_again streams fields rest is =
    let after_many : List ℕ = flat_map field_bytes fields ++ rest in
    let after_ids : List ℕ = to_be_bytes w16 (length fields) ++ after_many in
    let after_count : List ℕ = flat_map id_bytes streams ++ after_ids in
    let regrouped : stored_bytes streams fields ++ rest ≡ to_be_bytes w16 (length streams) ++ after_count =
    three_parts (to_be_bytes w16 (length streams)) (flat_map id_bytes streams) (to_be_bytes w16 (length fields)) (flat_map field_bytes fields) rest in
    ap stored_at regrouped
    ∙ rw (
      number_again w16 (2 ^ 16) wide16 1 65535 (length streams) after_count (record { within = record { low = omega (arith, is.some); high = omega (arith, is.few) }; below = is.few }),
      many_again id_at id_bytes AreIds id_again streams [] after_ids (record { each = is.ids; rises = is.rises }),
      number_again w16 (2 ^ 16) wide16 0 256 (length fields) after_many (record { within = record { low = omega arith; high = is.map.few }; below = omega (arith, is.map.few) }),
      many_again field_at field_bytes AreFields field_again fields [] rest (record { each = is.map.each; rises = is.map.rises; short = is.map.short }),
    ) refl
  where
    three_parts : (a b c d e : List ℕ) → (a ++ (b ++ (c ++ d))) ++ e ≡ a ++ (b ++ (c ++ (d ++ e)))
    three_parts a b c d e = simp append_assoc

-- causes

not_json_takes : (bytes : List ℕ) (x : Cause × List ℕ) → IsBytes bytes → not_json_at bytes ≡ Ok x → Takes (1 ∷ bytes) (cause_bytes x.0) x.1 × IsCause x.0
unfolding not_json_at
not_json_takes bytes x all e =
    let a = bind_ok (number_at w32 0 (2 ^ 32 - 1) bytes) (λ at. Ok (NotJson at.0, at.1)) x e in
    let at = number_takes w32 (2 ^ 32) wide32 0 (2 ^ 32 - 1) bytes a.0.0 a.0.1 all a.1 in
    let read : Cause × List ℕ = (NotJson a.0.0, a.0.1) in
    subst (λ (y : Cause × List ℕ). Takes (1 ∷ bytes) (cause_bytes y.0) y.1 × IsCause y.0) (ok_is read x a.2)
    (record { parts = ap (λ (l : List ℕ). 1 ∷ l) at.0.parts; rest_fits = at.0.rest_fits }, at.1.below)

-- the sign of a cause that has no place
record IsPlain (sign : ℕ) : Type 0 where
  bytes : cause_bytes (plain_cause sign) ≡ sign ∷ []
  lawful : IsCause (plain_cause sign)

plain : (n : ℕ) → IsWithin 1 6 n → eqb n 1 ≡ false → IsPlain n
plain zero w e = absurd (omega (arith, w.low))
plain (suc zero) w e = absurd (eqb-false 1 1 e refl)
plain (suc (suc zero)) w e = record { bytes = refl; lawful = tt }
plain (suc (suc (suc zero))) w e = record { bytes = refl; lawful = tt }
plain (suc (suc (suc (suc zero)))) w e = record { bytes = refl; lawful = tt }
plain (suc (suc (suc (suc (suc zero))))) w e = record { bytes = refl; lawful = tt }
plain (suc (suc (suc (suc (suc (suc zero)))))) w e = record { bytes = refl; lawful = tt }
plain (suc (suc (suc (suc (suc (suc (suc n))))))) w e = absurd (omega (arith, w.high))

cause_takes : (bytes : List ℕ) (x : Cause × List ℕ) → IsBytes bytes → cause_at bytes ≡ Ok x → Takes bytes (cause_bytes x.0) x.1 × IsCause x.0
unfolding cause_at
cause_takes bytes x all e =
    let a = bind_ok (byte_at 1 6 bytes) (λ sign. cond (eqb sign.0 1) (not_json_at sign.1) (Ok (plain_cause sign.0, sign.1))) x e in
    let sign = byte_takes 1 6 bytes a.0.0 a.0.1 all a.1 in
    chosen (eqb a.0.0 1) (not_json_at a.0.1) (Ok (plain_cause a.0.0, a.0.1)) x a.2 (Takes bytes (cause_bytes x.0) x.1 × IsCause x.0)
    (λ is read. let b : bytes ≡ 1 ∷ a.0.1 = sign.0.parts ∙ ap (λ (k : ℕ). k ∷ a.0.1) (eqb-true a.0.0 1 is) in
    rw b (not_json_takes a.0.1 x sign.0.rest_fits read))
    (λ not read. let p = plain a.0.0 sign.1 not in
    let made : Cause × List ℕ = (plain_cause a.0.0, a.0.1) in
    subst (λ (y : Cause × List ℕ). Takes bytes (cause_bytes y.0) y.1 × IsCause y.0) (ok_is made x read)
    (record { parts = sign.0.parts ∙ ap (λ (l : List ℕ). l ++ a.0.1) (sym p.bytes); rest_fits = sign.0.rest_fits }, p.lawful))

cause_again : (cause : Cause) (rest : List ℕ) → IsCause cause → cause_at (cause_bytes cause ++ rest) ≡ Ok (cause, rest)
unfolding cause_at not_json_at
cause_again (NotJson at) rest lt =
    rw (
      byte_again 1 6 1 (to_be_bytes w32 at ++ rest) (record { low = lit≤ tt; high = lit≤ tt }),
      number_again w32 (2 ^ 32) wide32 0 (2 ^ 32 - 1) at rest (record { within = record { low = omega arith; high = omega (arith, lt) }; below = lt }),
    ) refl
cause_again TooDeep rest is = rw (byte_again 1 6 2 rest (record { low = lit≤ tt; high = lit≤ tt })) refl
cause_again Compressed rest is = rw (byte_again 1 6 3 rest (record { low = lit≤ tt; high = lit≤ tt })) refl
cause_again NoShortMessage rest is = rw (byte_again 1 6 4 rest (record { low = lit≤ tt; high = lit≤ tt })) refl
cause_again TooManyFields rest is = rw (byte_again 1 6 5 rest (record { low = lit≤ tt; high = lit≤ tt })) refl
cause_again TooLarge rest is = rw (byte_again 1 6 6 rest (record { low = lit≤ tt; high = lit≤ tt })) refl

-- outcomes

undecodable_takes : (bytes : List ℕ) (x : Outcome × List ℕ) → IsBytes bytes → undecodable_at bytes ≡ Ok x → Takes (19 ∷ bytes) (outcome_bytes x.0) x.1 × IsOutcome x.0
unfolding undecodable_at
undecodable_takes bytes x all e =
    let a = bind_ok (cause_at bytes) (λ cause. Ok (Undecodable cause.0, cause.1)) x e in
    let cause = cause_takes bytes a.0 all a.1 in
    let read : Outcome × List ℕ = (Undecodable a.0.0, a.0.1) in
    subst (λ (y : Outcome × List ℕ). Takes (19 ∷ bytes) (outcome_bytes y.0) y.1 × IsOutcome y.0) (ok_is read x a.2)
    (record { parts = ap (λ (l : List ℕ). 19 ∷ l) cause.0.parts; rest_fits = cause.0.rest_fits }, cause.1)

outcome_takes : (bytes : List ℕ) (x : Outcome × List ℕ) → IsBytes bytes → outcome_at bytes ≡ Ok x → Takes bytes (outcome_bytes x.0) x.1 × IsOutcome x.0
unfolding outcome_at
outcome_takes bytes x all e =
    let a = bind_ok (byte_at 16 19 bytes) (λ sign. cond (eqb sign.0 16) (Ok (Applied, sign.1)) (cond (eqb sign.0 17) (stored_at sign.1) (cond (eqb sign.0 18) (Ok (Dropped, sign.1)) (undecodable_at sign.1)))) x e in
    let sign = byte_takes 16 19 bytes a.0.0 a.0.1 all a.1 in
    let P : Type 0 = Takes bytes (outcome_bytes x.0) x.1 × IsOutcome x.0 in
    let begins : (k : ℕ) → a.0.0 ≡ k → bytes ≡ k ∷ a.0.1 = λ k n. sign.0.parts ∙ ap (λ (k : ℕ). k ∷ a.0.1) n in
    let alone : (outcome : Outcome) (k : ℕ) → outcome_bytes outcome ≡ k ∷ [] → IsOutcome outcome → a.0.0 ≡ k → (let r : Result (Outcome × List ℕ) ℕ = Ok (outcome, a.0.1) in r) ≡ Ok x → P =
    λ outcome k is lawful n read. let made : Outcome × List ℕ = (outcome, a.0.1) in
    subst (λ (y : Outcome × List ℕ). Takes bytes (outcome_bytes y.0) y.1 × IsOutcome y.0) (ok_is made x read)
    (record { parts = begins k n ∙ ap (λ (l : List ℕ). l ++ a.0.1) (sym is); rest_fits = sign.0.rest_fits }, lawful) in
    chosen (eqb a.0.0 16) (Ok (Applied, a.0.1)) (cond (eqb a.0.0 17) (stored_at a.0.1) (cond (eqb a.0.0 18) (Ok (Dropped, a.0.1)) (undecodable_at a.0.1))) x a.2 P
    (λ is read. alone Applied 16 refl tt (eqb-true a.0.0 16 is) read)
    (λ n16 more. chosen (eqb a.0.0 17) (stored_at a.0.1) (cond (eqb a.0.0 18) (Ok (Dropped, a.0.1)) (undecodable_at a.0.1)) x more P
    (λ is read. rw (begins 17 (eqb-true a.0.0 17 is)) (stored_takes a.0.1 x sign.0.rest_fits read))
    (λ n17 most. chosen (eqb a.0.0 18) (Ok (Dropped, a.0.1)) (undecodable_at a.0.1) x most P
    (λ is read. alone Dropped 18 refl tt (eqb-true a.0.0 18 is) read)
    (λ n18 read. rw (begins 19 (last a.0.0 sign.1 n16 n17 n18)) (undecodable_takes a.0.1 x sign.0.rest_fits read))))
  where
    last : (n : ℕ) → IsWithin 16 19 n → eqb n 16 ≡ false → eqb n 17 ≡ false → eqb n 18 ≡ false → n ≡ 19
    last n w a b d = omega (arith, w.low, w.high, eqb-false n 16 a, eqb-false n 17 b, eqb-false n 18 d)

outcome_again : (outcome : Outcome) (rest : List ℕ) → IsOutcome outcome → outcome_at (outcome_bytes outcome ++ rest) ≡ Ok (outcome, rest)
unfolding outcome_at undecodable_at
outcome_again Applied rest is = rw (byte_again 16 19 16 rest (record { low = lit≤ tt; high = lit≤ tt })) refl
outcome_again (Stored streams fields) rest is =
    let regrouped : outcome_bytes (Stored streams fields) ++ rest ≡ 17 ∷ (stored_bytes streams fields ++ rest) =
    four_parts (17 ∷ to_be_bytes w16 (length streams)) (flat_map id_bytes streams) (to_be_bytes w16 (length fields)) (flat_map field_bytes fields) rest in
    ap outcome_at regrouped
    ∙ rw (byte_again 16 19 17 (stored_bytes streams fields ++ rest) (record { low = lit≤ tt; high = lit≤ tt }), stored_again streams fields rest is) refl
  where
    four_parts : (a b c d e : List ℕ) → (((a ++ b) ++ c) ++ d) ++ e ≡ (a ++ (b ++ (c ++ d))) ++ e
    four_parts a b c d e = simp append_assoc
outcome_again Dropped rest is = rw (byte_again 16 19 18 rest (record { low = lit≤ tt; high = lit≤ tt })) refl
outcome_again (Undecodable cause) rest is =
    rw (byte_again 16 19 19 (cause_bytes cause ++ rest) (record { low = lit≤ tt; high = lit≤ tt }), cause_again cause rest is) refl

-- the whole bytes

outcome_found : (bytes : List ℕ) (outcome : Outcome) → IsBytes bytes → outcome_of bytes ≡ Ok outcome → IsOutcome outcome × (bytes ≡ outcome_bytes outcome)
unfolding outcome_of
outcome_found bytes outcome all e =
    let read = outcome_takes bytes (outcome, []) all (whole_is bytes (outcome_at bytes) outcome e) in
    (read.1, read.0.parts ∙ append-nil (outcome_bytes outcome))

pub outcome_only : (bytes : List ℕ) (outcome : Outcome) → IsOutcome outcome → bytes ≡ outcome_bytes outcome → outcome_of bytes ≡ Ok outcome
unfolding outcome_of
outcome_only bytes outcome is e =
    let read : outcome_at bytes ≡ Ok (outcome, []) = ap outcome_at (e ∙ sym (append-nil (outcome_bytes outcome))) ∙ outcome_again outcome [] is in
    rw read refl

pub found_by : (bytes : List ℕ) (r : Result Outcome EntryRefusal) → IsBytes bytes → Answers r (outcome_of bytes) → IfOk r (λ o. IsOutcome o × (bytes ≡ outcome_bytes o))
found_by bytes (Ok outcome) all e = outcome_found bytes outcome all e
found_by bytes (Err cause) all e = tt

pub only_by : (bytes : List ℕ) (r : Result Outcome EntryRefusal) (outcome : Outcome) → IsOutcome outcome → bytes ≡ outcome_bytes outcome → Answers r (outcome_of bytes) → Answers r (Ok outcome)
only_by bytes r outcome is e answers = subst (λ (read : Result Outcome ℕ). Answers r read) (outcome_only bytes outcome is e) answers
