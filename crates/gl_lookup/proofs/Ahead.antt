-- What a reader of records has left, read by read.
use Rattle.std.proofs.Common.{◌≡◌, ℕ, zero, suc, ◌+◌, ◌<◌, ◌≤◌, ◌==◌, List, [], ◌∷◌, length, Bool, true, false, cond, Option, Some, None, refl, sym, ap, ◌∙◌, arith, add-one, inl}
use Rattle.std.specs.Prelude.{⊤, IsSome, unwrap_or}
use Rattle.std.specs.Bool.{MatchBool}
use Rattle.csv.specs.Machine.{Read, step, in_field, start_field, start_record, ends_with, after_end, is_end, ends_at_end, next_record}
use Rattle.csv.specs.Reading.{default_config, records_next, records_from, source_of, Reached, ReadRecord, took_first}
use Rattle.csv.specs.declared.parser.State.{State}
use Rattle.csv.specs.declared.parser.State.TheVariants as st
use Rattle.csv.specs.declared.parser.Action.{Action}
use Rattle.csv.specs.declared.parser.Action.TheVariants as act
use Rattle.csv.specs.declared.reader.Reader.{Reader}
use Rattle.csv.proofs.ReadFacts.{rows-end, rows-more}
use Rattle.gl_lookup.specs.Rows.{rows_ahead, left_of, IsReading}

-- behind a record's end the text may end

abbrev MayEnd : State × Action → Type 0
MayEnd p = is_end p.1 ≡ true → ends_at_end p.0 ≡ false

either : (b : Bool) (x y : State × Action) → MayEnd x → MayEnd y → MayEnd (cond b x y)
either true x y g h = g
either false x y g h = h

after_line : (b : Bool) → ends_at_end (cond b st.AfterCr st.StartRecord) ≡ false
after_line true = refl
after_line false = refl

in_field-may_end : (c : ℕ) → MayEnd (in_field default_config c)
in_field-may_end c =
    either (c == 44) (st.StartField, act.EndField) _ (λ e. cc)
    (either (ends_with default_config.terminator c) (after_end default_config.terminator c, act.EndRecord) (st.InField, act.Copy) (λ e. after_line (c == 13)) (λ e. cc))

start_field-may_end : (c : ℕ) → MayEnd (start_field default_config c)
start_field-may_end c = either (c == 34) (st.InQuoted, act.Skip) _ (λ e. cc) (in_field-may_end c)

start_record-may_end : (c : ℕ) → MayEnd (start_record default_config c)
start_record-may_end c = either (ends_with default_config.terminator c) (st.StartRecord, act.Skip) _ (λ e. cc) (start_field-may_end c)

step-may_end : (s : State) (c : ℕ) → MayEnd (step default_config s c)
step-may_end st.StartRecord c = start_record-may_end c
step-may_end st.StartField c = start_field-may_end c
step-may_end st.InField c = in_field-may_end c
step-may_end st.InQuoted c = either (c == 34) (st.AfterQuote, act.Skip) (st.InQuoted, act.Copy) (λ e. cc) (λ e. cc)
step-may_end st.InEscape c = λ e. cc
step-may_end st.AfterQuote c = either (c == 34) (st.InQuoted, act.Copy) _ (λ e. cc) (in_field-may_end c)
step-may_end st.InComment c = either (c == 10) (st.StartRecord, act.Skip) (st.InComment, act.Skip) (λ e. cc) (λ e. cc)
step-may_end st.AfterCr c = either (c == 10) (st.StartRecord, act.Skip) _ (λ e. cc) (start_record-may_end c)

-- what a read leaves: less text, and a place where the text may end

abbrev Leaves : ℕ → Option Read → Type 0
Leaves n None = ⊤
Leaves n (Some p) = (length p.2 < n) × (ends_at_end p.1 ≡ false)

leaves-either : (b : Bool) (n : ℕ) (x y : Option Read) → (b ≡ true → Leaves n x) → (b ≡ false → Leaves n y) → Leaves n (cond b x y)
leaves-either true n x y g h = g refl
leaves-either false n x y g h = h refl

leaves-more : (m n : ℕ) (o : Option Read) → m ≤ n → Leaves m o → Leaves n o
leaves-more m n None h l = tt
leaves-more m n (Some p) h l = (omega (arith, l.0), l.1)

leaves : (s : State) (fields : List (List ℕ)) (field xs : List ℕ) → Leaves (length xs + 1) (next_record default_config s fields field xs)
unfolding next_record
leaves s fields field [] = leaves-either (ends_at_end s) 1 _ None (λ e. (omega arith, refl)) (λ e. tt)
leaves s fields field (c ∷ rest) =
    leaves-either (is_end (step default_config s c).1) _ _ _
    (λ e. (omega arith, step-may_end s c e))
    (λ e. leaves-more (length rest + 1) _ _ (omega arith) (leaves (step default_config s c).0 _ _ rest))

pub leaves-less : (s : State) (xs : List ℕ) → ends_at_end s ≡ false → Leaves (length xs) (next_record default_config s [] [] xs)
unfolding next_record
leaves-less s [] h = rw h tt
leaves-less s (c ∷ rest) h =
    leaves-either (is_end (step default_config s c).1) _ _ _
    (λ e. (omega arith, step-may_end s c e))
    (λ e. leaves-more (length rest + 1) _ _ (omega arith) (leaves (step default_config s c).0 _ _ rest))

-- as many turns as there are bytes are enough
turns : (n m : ℕ) (s : State) (xs : List ℕ) → ends_at_end s ≡ false → length xs < n → length xs < m → records_from default_config n s xs ≡ records_from default_config m s xs
unfolding records_from
turns zero m s xs h a b = absurd (omega arith)
turns (suc n) zero s xs h a b = absurd (omega arith)
turns (suc n) (suc m) s xs h a b =
    by (next_record default_config s [] [] xs) (leaves-less s xs h) (λ p less end. turns n m p.1 p.2 end (omega arith) (omega arith))
  where
    by : (o : Option Read) → Leaves (length xs) o
        → ((p : Read) → length p.2 < length xs → ends_at_end p.1 ≡ false → records_from default_config n p.1 p.2 ≡ records_from default_config m p.1 p.2)
        → records_next (records_from default_config n) o ≡ records_next (records_from default_config m) o
    by None l more = refl
    by (Some p) l more = ap (λ (rows : List (List (List ℕ))). p.0 ∷ rows) (more p l.0 l.1)

pub ahead_more : (s : State) (xs : List ℕ) (p : Read) → ends_at_end s ≡ false → next_record default_config s [] [] xs ≡ Some p
    → (rows_ahead s xs ≡ p.0 ∷ rows_ahead p.1 p.2) × (ends_at_end p.1 ≡ false)
unfolding records_from
ahead_more s xs p h e =
    let l : Leaves (length xs) (Some p) = rw e at (leaves-less s xs h) in (
      ap (λ (n : ℕ). records_from default_config n s xs) (add-one (length xs))
          ∙ ap (records_next (records_from default_config (length xs))) e
          ∙ ap (λ (rows : List (List (List ℕ))). p.0 ∷ rows) (turns (length xs) (length p.2 + 1) p.1 p.2 l.1 l.0 (omega arith)),
      l.1,
    )

pub ahead_none : (s : State) (xs : List ℕ) → next_record default_config s [] [] xs ≡ None → rows_ahead s xs ≡ []
unfolding records_from
ahead_none s xs e =
    ap (λ (n : ℕ). records_from default_config n s xs) (add-one (length xs)) ∙ ap (records_next (records_from default_config (length xs))) e

-- a read of a reader

module _ {R : Type 0} (remaining : R → Option (List ℕ)) (a b : Reader R) (fields : List (List ℕ)) (is : IsReading remaining a) where
  some_text : (o : Option (List ℕ)) → IsSome o → o ≡ Some (unwrap_or o [])
  some_text None h = absurd cc
  some_text (Some y) h = refl

  text : source_of remaining a ≡ Some (unwrap_or (source_of remaining a) [])
  text = some_text (source_of remaining a) is.known

  pub read_none : ReadRecord remaining a b false fields → left_of remaining a ≡ []
  read_none r =
      let y : List ℕ = unwrap_or (source_of remaining a) [] in
      ahead_none a.state y (rows-end remaining a b fields default_config y is.config text r)

  pub record Goes : Type 0 where
    pub left : left_of remaining a ≡ fields ∷ left_of remaining b
    pub still : IsReading remaining b

  pub read_more : ReadRecord remaining a b true fields → took_first b ≡ true → Goes
  unfolding Reached
  read_more r first =
      let y : List ℕ = unwrap_or (source_of remaining a) [] in
      let m = rows-more remaining a b fields default_config a.state y y [] is.config text (refl, refl) r in
      let (z, source, reached) = m in
      let (p, e, same, ends) = reached in
      let ahead = ahead_more a.state y p is.between e in
      let after : rows_ahead p.1 p.2 ≡ left_of remaining b =
      (λ i. rows_ahead (ends.0 i) (ends.1 i)) ∙ ap (λ (o : Option (List ℕ)). rows_ahead b.state (unwrap_or o [])) (sym source) in
      record {
        left = ahead.0 ∙ (λ i. sym same i ∷ after i);
        still = record {
          whole = r.3 ∙ is.whole;
          ready = inl first;
          config = r.2 ∙ is.config;
          known = rw source refl;
          between = rw (← ends.0) ahead.1;
        };
      }

  pub read_either : (found : Bool) → ReadRecord remaining a b found fields → took_first b ≡ true → MatchBool found (IsReading remaining b) (left_of remaining a ≡ [])
  read_either true r first = (read_more r first).still
  read_either false r first = read_none r

  pub read_row : (found : Bool) → ReadRecord remaining a b found fields → took_first b ≡ true → found ≡ true → left_of remaining a ≡ fields ∷ left_of remaining b
  read_row true r first e = (read_more r first).left
  read_row false r first e = absurd cc
