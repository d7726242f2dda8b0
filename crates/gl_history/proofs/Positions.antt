-- The positions of a journal's commands.
use Rattle.std.proofs.Common.{◌≡◌, ℕ, zero, suc, ◌+◌, ◌-◌, ◌<◌, ◌≤◌, Bool, true, false, cond, List, [], ◌∷◌, ◌++◌, length, take, get_or, map, refl, sym, ap, ◌∙◌, arith}
use Rattle.std.specs.Prelude.{nat_lt}
use Rattle.std.specs.List.{filter, prefix_len, enumerate_from}
use Rattle.std.proofs.lemmas.Bool.{ltb-true, ltb-false, lt-ltb, le-ltb}
use Rattle.std.proofs.lemmas.List.Sums.{sum_by-cons, prefix_len_is}
use Rattle.gl_fields.specs.declared.entry.Entry.{Entry}
use Rattle.gl_fields.specs.declared.entry.Entry.TheVariants.{Admin, Message}
use Rattle.gl_fields.specs.declared.entry.Message.{Message as Payload}
use Rattle.gl_fields.specs.Entries.{is_admin, version_after}

-- those of the entries that stand from a position on
abbrev pub positions : ℕ → List Entry → List ℕ
positions k js = map (λ (entry : ℕ × Entry). entry.0) (filter (λ (entry : ℕ × Entry). is_admin entry.1) (enumerate_from k js))

pub positions_message : (k : ℕ) (js : List Entry) (m : Payload) → positions k (js ++ Message m ∷ []) ≡ positions k js
positions_message k [] m = refl
positions_message k (Admin text ∷ js) m = ap (λ (ps : List ℕ). k ∷ ps) (positions_message (k + 1) js m)
positions_message k (Message other ∷ js) m = positions_message (k + 1) js m

pub positions_command : (k : ℕ) (js : List Entry) (text : List ℕ) (p : ℕ) → p ≡ k + length js → positions k (js ++ Admin text ∷ []) ≡ positions k js ++ p ∷ []
positions_command k [] text p e =
    let same : k ≡ p = omega (arith, e) in
    ap (λ (n : ℕ). n ∷ []) same
positions_command k (Admin other ∷ js) text p e = ap (λ (ps : List ℕ). k ∷ ps) (positions_command (k + 1) js text p (omega (arith, e)))
positions_command k (Message m ∷ js) text p e = positions_command (k + 1) js text p (omega (arith, e))

version_cons : (e : Entry) (js : List Entry) → version_after (e ∷ js) ≡ cond (is_admin e) 1 0 + version_after js
version_cons e js = sum_by-cons (λ (entry : Entry). cond (is_admin entry) 1 0) e js

none_taken : (n : ℕ) → version_after (take n []) ≡ 0
none_taken zero = refl
none_taken (suc n) = refl

before_test : ℕ → ℕ → Bool
before_test p c = nat_lt c p

-- how many commands stand before a position
pub commands_before : (k p : ℕ) (js : List Entry) → prefix_len (λ c. nat_lt c p) (positions k js) ≡ version_after (take (p - k) js)
commands_before k p [] = sym (none_taken (p - k))
commands_before k p (Admin text ∷ js) = by (nat_lt k p) refl (commands_before (k + 1) p js)
  where
    by : (b : Bool) → nat_lt k p ≡ b → prefix_len (λ c. nat_lt c p) (positions (k + 1) js) ≡ version_after (take (p - (k + 1)) js)
        → cond b (1 + prefix_len (λ c. nat_lt c p) (positions (k + 1) js)) 0 ≡ version_after (take (p - k) (Admin text ∷ js))
    by true e rest =
        let lt : k < p = omega (arith, ltb-true k p e) in
        let one : p - k ≡ suc (p - (k + 1)) = omega arith in
        ap (λ n. 1 + n) rest
        ∙ sym (version_cons (Admin text) (take (p - (k + 1)) js))
        ∙ ap (λ n. version_after (take n (Admin text ∷ js))) (sym one)
    by false e rest =
        let zero_left : p - k ≡ 0 = omega (arith, ltb-false k p e) in
        ap (λ n. version_after (take n (Admin text ∷ js))) (sym zero_left)
commands_before k p (Message m ∷ js) = commands_before (k + 1) p js ∙ by (nat_lt k p) refl
  where
    by : (b : Bool) → nat_lt k p ≡ b → version_after (take (p - (k + 1)) js) ≡ version_after (take (p - k) (Message m ∷ js))
    by true e =
        let lt : k < p = omega (arith, ltb-true k p e) in
        let one : p - k ≡ suc (p - (k + 1)) = omega arith in
        let none : version_after (Message m ∷ take (p - (k + 1)) js) ≡ version_after (take (p - (k + 1)) js) = omega (arith, version_cons (Message m) (take (p - (k + 1)) js)) in
        sym none
        ∙ ap (λ n. version_after (take n (Message m ∷ js))) (sym one)
    by false e =
        let none_left : p - k ≡ 0 = omega (arith, ltb-false k p e) in
        let none_behind : p - (k + 1) ≡ 0 = omega (arith, none_left) in
        ap (λ n. version_after (take n js)) none_behind
        ∙ ap (λ n. version_after (take n (Message m ∷ js))) (sym none_left)

-- as many positions stand before this one as a walk passed
pub so_many : (commands : List ℕ) (position n : ℕ) → n ≤ length commands → ((k : ℕ) → k < n → get_or commands k 0 < position)
    → (n < length commands → position ≤ get_or commands n 0) → n ≡ prefix_len (λ (c : ℕ). nat_lt c position) commands
so_many commands position n le passes stops =
    sym (prefix_len_is (λ (c : ℕ). nat_lt c position) commands n 0 le (λ k l. lt-ltb (get_or commands k 0) position (passes k l))
    (λ l. le-ltb (get_or commands n 0) position (stops l)))
