-- The fields of a head, and the head whole: what is read of some bytes stands there, and what stands there is read.
use Rattle.std.proofs.Common.{◌≡◌, ℕ, zero, suc, ◌≤◌, inl, inr, true, false, eqb, List, [], ◌∷◌, ◌++◌, length, Option, Some, None, refl, sym, ap, subst, ◌∙◌, arith, append_assoc}
use Rattle.std.specs.Prelude.{option_map, option_and_then, All, ◌⊎◌}
use Rattle.std.specs.List.{flat_map}
use Rattle.std.specs.Option.{option_or}
use Rattle.std.proofs.lemmas.Bool.{ne_eqb, false≢true}
use Rattle.std.proofs.lemmas.List.Elements.{All-head, All-tail, All-cons, All-nil}
use Rattle.std.proofs.lemmas.Option.{option_and_then_some, same_Some}
use Rattle.httparse.specs.Grammar.{IsToken, LineEnd, crlf, lf, print_end, print_blank, print_version, Field, print_field, IsField, print_section, RequestHead, print_request, IsRequestHead, ReadsRequest, is_token_byte, is_value_byte}
use Rattle.httparse.specs.Pieces.{Stops}
use Rattle.httparse.proofs.GrammarLemmas.{print_request-append, cons-append}
use Rattle.httparse.proofs.PieceLemmas.{Stops_token}
use Rattle.gl_http.specs.Front.{BeginsWith}
use Rattle.gl_http.specs.Heads.{Read, byte_at, run_at, some_at, end_at, blank_at, target_at, version_at, field_at, no_fields_at, fields_at, head_at, head_in}
use Rattle.gl_http.proofs.HeadParts.{mapped, run_found, run_reads, some_found, some_reads, byte_found, byte_reads, end_found, end_reads, blank_found, blank_reads, target_found, target_reads, version_found, version_reads}

-- a field line

colon_stops : (r : List ℕ) → Stops is_token_byte (58 ∷ r)
unfolding is_token_byte
colon_stops r = refl

end_stops : (e : LineEnd) (r : List ℕ) → Stops is_value_byte (print_end e ++ r)
end_stops crlf r = refl
end_stops lf r = refl

line_of : (f : Field) (r : List ℕ) → print_field f ++ r ≡ f.name ++ 58 ∷ (f.raw ++ (print_end f.end ++ r))
line_of f r = regroup f.name f.raw (print_end f.end) r
  where
    regroup : (a b c r : List ℕ) → (a ++ 58 ∷ b ++ c) ++ r ≡ a ++ 58 ∷ (b ++ (c ++ r))
    regroup a b c r = simp (append_assoc, cons-append)

abbrev behind_raw : List ℕ → List ℕ × List ℕ → Read Field
behind_raw name raw = option_and_then (λ (end : LineEnd × List ℕ). Some (record { name = name; raw = raw.0; end = end.0 }, end.1)) (end_at raw.1)

abbrev behind_colon : List ℕ → ℕ × List ℕ → Read Field
behind_colon name sign = option_and_then (behind_raw name) (run_at is_value_byte sign.1)

abbrev behind_name : List ℕ × List ℕ → Read Field
behind_name name = option_and_then (behind_colon name.0) (byte_at 58 name.1)

pub field_found : (f : Field) (r : List ℕ) → IsField f → field_at (print_field f ++ r) ≡ Some (f, r)
field_found f r is =
    ap field_at (line_of f r)
    ∙ ap (option_and_then behind_name) (some_found is_token_byte f.name (58 ∷ (f.raw ++ (print_end f.end ++ r))) is.name.0 is.name.1 (colon_stops (f.raw ++ (print_end f.end ++ r))))
    ∙ ap (option_and_then (behind_colon f.name)) (byte_found 58 (f.raw ++ (print_end f.end ++ r)))
    ∙ ap (option_and_then (behind_raw f.name)) (run_found is_value_byte f.raw (print_end f.end ++ r) is.raw (end_stops f.end r))
    ∙ ap (option_and_then (λ (end : LineEnd × List ℕ). Some (record { name = f.name; raw = f.raw; end = end.0 }, end.1))) (end_found f.end r)

pub field_reads : (bytes : List ℕ) (x : Field × List ℕ) → field_at bytes ≡ Some x → (bytes ≡ print_field x.0 ++ x.1) × IsField x.0
field_reads bytes x h =
    option_and_then_some behind_name (some_at is_token_byte bytes) x h (λ name read k.
    option_and_then_some (behind_colon name.0) (byte_at 58 name.1) x k (λ sign signed k2.
    option_and_then_some (behind_raw name.0) (run_at is_value_byte sign.1) x k2 (λ raw ran k3.
    option_and_then_some (λ (end : LineEnd × List ℕ). Some (record { name = name.0; raw = raw.0; end = end.0 }, end.1)) (end_at raw.1) x k3 (λ end ended same.
    let n = some_reads is_token_byte bytes name read in
    let s = byte_reads 58 name.1 sign signed in
    let r = run_reads is_value_byte sign.1 raw ran in
    let e = end_reads raw.1 end ended in
    let f : Field = record { name = name.0; raw = raw.0; end = end.0 } in
    subst (λ (y : Field × List ℕ). (bytes ≡ print_field y.0 ++ y.1) × IsField y.0) (same_Some (f, end.1) x same) (
      n.0 ∙ ap (λ (w : List ℕ). name.0 ++ w) (s ∙ ap (λ (w : List ℕ). 58 ∷ w) (r.0 ∙ ap (λ (w : List ℕ). raw.0 ++ w) e)) ∙ sym (line_of f end.1),
      record { name = (n.1, n.2); raw = r.1 },
    )))))

-- field lines up to the empty line

token_no_end : (b : ℕ) (r : List ℕ) → is_token_byte b ≡ true → end_at (b ∷ r) ≡ None
unfolding is_token_byte
token_no_end b r is = no_end b r (ne_eqb b 10 (λ e. false≢true (sym (ap is_token_byte e) ∙ is))) (ne_eqb b 13 (λ e. false≢true (sym (ap is_token_byte e) ∙ is)))
  where
    no_end : (b : ℕ) (r : List ℕ) → eqb b 10 ≡ false → eqb b 13 ≡ false → end_at (b ∷ r) ≡ None
    no_end b [] ten thirteen = rw ten refl
    no_end b (c ∷ r) ten thirteen = rw (ten, thirteen) refl

name_no_end : (name r : List ℕ) → IsToken name → no_fields_at (name ++ r) ≡ None
name_no_end [] r is = absurd (omega (arith, is.0))
name_no_end (b ∷ name) r is =
    ap (option_map {U = (List Field × LineEnd) × List ℕ} (λ end. (([], end.0), end.1))) (token_no_end b (name ++ r) (All-head (λ v. is_token_byte v ≡ true) b name is.1))

abbrev with_others : Field × List ℕ → (List Field × LineEnd) × List ℕ → Read (List Field × LineEnd)
with_others field others = Some ((field.0 ∷ others.0.0, others.0.1), others.1)

abbrev behind_field : ℕ → Field × List ℕ → Read (List Field × LineEnd)
behind_field most field = option_and_then (with_others field) (fields_at most field.1)

section_more : (f : Field) (fs : List Field) (last : LineEnd) (r : List ℕ) → print_section (f ∷ fs) last ++ r ≡ print_field f ++ (print_section fs last ++ r)
section_more f fs last r = regroup (print_field f) (flat_map print_field fs) (print_end last) r
  where
    regroup : (a b c r : List ℕ) → ((a ++ b) ++ c) ++ r ≡ a ++ ((b ++ c) ++ r)
    regroup a b c r = simp append_assoc

pub fields_found : (most : ℕ) (fs : List Field) (last : LineEnd) (r : List ℕ) → All IsField fs → length fs ≤ most
    → fields_at most (print_section fs last ++ r) ≡ Some ((fs, last), r)
fields_found zero [] last r all le = ap (option_map {U = (List Field × LineEnd) × List ℕ} (λ end. (([], end.0), end.1))) (end_found last r)
fields_found (suc most) [] last r all le =
    ap (λ (o : Read (List Field × LineEnd)). option_or o (option_and_then (behind_field most) (field_at (print_end last ++ r))))
    (ap (option_map {U = (List Field × LineEnd) × List ℕ} (λ end. (([], end.0), end.1))) (end_found last r))
fields_found zero (f ∷ fs) last r all le = absurd (omega arith)
fields_found (suc most) (f ∷ fs) last r all le =
    let is = All-head IsField f fs all in
    let after = print_section fs last ++ r in
    ap (fields_at (suc most)) (section_more f fs last r)
    ∙ ap (λ (o : Read (List Field × LineEnd)). option_or o (option_and_then (behind_field most) (field_at (print_field f ++ after))))
    (ap no_fields_at (line_of f after) ∙ name_no_end f.name (58 ∷ (f.raw ++ (print_end f.end ++ after))) is.name)
    ∙ ap (option_and_then (behind_field most)) (field_found f after is)
    ∙ ap (option_and_then (with_others (f, after))) (fields_found most fs last r (All-tail IsField f fs all) (omega arith))

either_of : {A : Type 0} (o p : Option A) (x : A) → option_or o p ≡ Some x → (o ≡ Some x) ⊎ (p ≡ Some x)
either_of None p x h = inr h
either_of (Some y) p x h = inl h

-- what was read are lawful fields, and they stand there
abbrev AreRead : ℕ → List ℕ → (List Field × LineEnd) × List ℕ → Type 0
AreRead most bytes x = (bytes ≡ print_section x.0.0 x.0.1 ++ x.1) × All IsField x.0.0 × (length x.0.0 ≤ most)

none_read : (most : ℕ) (bytes : List ℕ) (x : (List Field × LineEnd) × List ℕ) → no_fields_at bytes ≡ Some x → AreRead most bytes x
none_read most bytes x h =
    let m = mapped {B = (List Field × LineEnd) × List ℕ} (λ end. (([], end.0), end.1)) (end_at bytes) x h in
    subst (AreRead most bytes) m.2 (end_reads bytes m.0 m.1, All-nil IsField, omega arith)

pub fields_read : (most : ℕ) (bytes : List ℕ) (x : (List Field × LineEnd) × List ℕ) → fields_at most bytes ≡ Some x → AreRead most bytes x
fields_read zero bytes x h = none_read zero bytes x h
fields_read (suc most) bytes x h = elim (either_of (no_fields_at bytes) (option_and_then (behind_field most) (field_at bytes)) x h) [
  | inl none ↦ none_read (suc most) bytes x none
  | inr some ↦
      option_and_then_some (behind_field most) (field_at bytes) x some (λ field read k.
      option_and_then_some (with_others field) (fields_at most field.1) x k (λ others rest same.
      let f = field_reads bytes field read in
      let o = fields_read most field.1 others rest in
      subst (AreRead (suc most) bytes) (same_Some ((field.0 ∷ others.0.0, others.0.1), others.1) x same) (
        f.0 ∙ ap (λ (w : List ℕ). print_field field.0 ++ w) o.0 ∙ sym (section_more field.0 others.0.0 others.0.1 others.1),
        All-cons IsField field.0 others.0.0 f.1 o.1,
        omega (arith, o.2),
      )))
]

-- the whole head

abbrev with_fields : RequestHead → (List Field × LineEnd) × List ℕ → Read RequestHead
with_fields h fields = Some (record h { fields = fields.0.0; last = fields.0.1 }, fields.1)

abbrev bare : List LineEnd → List ℕ → List ℕ → ℕ → LineEnd → RequestHead
bare blank method target minor line_end = record { blank = blank; method = method; target = target; minor = minor; line_end = line_end; fields = []; last = lf }

abbrev behind_line : List LineEnd → List ℕ → List ℕ → ℕ → LineEnd × List ℕ → Read RequestHead
behind_line blank method target minor line_end = option_and_then (with_fields (bare blank method target minor line_end.0)) (fields_at 64 line_end.1)

abbrev behind_version : List LineEnd → List ℕ → List ℕ → ℕ × List ℕ → Read RequestHead
behind_version blank method target minor = option_and_then (behind_line blank method target minor.0) (end_at minor.1)

abbrev behind_target : List LineEnd → List ℕ → List ℕ × List ℕ → Read RequestHead
behind_target blank method target =
    option_and_then (λ (sp : ℕ × List ℕ). option_and_then (behind_version blank method target.0) (version_at sp.1)) (byte_at 32 target.1)

abbrev behind_method : List LineEnd → List ℕ × List ℕ → Read RequestHead
behind_method blank method =
    option_and_then (λ (sp : ℕ × List ℕ). option_and_then (behind_target blank method.0) (target_at sp.1)) (byte_at 32 method.1)

abbrev behind_blank : List LineEnd × List ℕ → Read RequestHead
behind_blank blank = option_and_then (behind_method blank.0) (some_at is_token_byte blank.1)

space_stops : (r : List ℕ) → Stops is_token_byte (32 ∷ r)
unfolding is_token_byte
space_stops r = refl

head_found : (h : RequestHead) (r : List ℕ) → IsRequestHead h → length h.fields ≤ 64 → head_at (print_request h ++ r) ≡ Some (h, r)
head_found h r is few =
    let section = print_section h.fields h.last ++ r in
    let line = print_end h.line_end ++ section in
    let version = print_version h.minor ++ line in
    let target = h.target ++ 32 ∷ version in
    let method = h.method ++ 32 ∷ target in
    ap head_at (print_request-append h r)
    ∙ ap (option_and_then behind_blank) (blank_found h.blank method (Stops_token h.method (32 ∷ target) is.method.0 is.method.1))
    ∙ ap (option_and_then (behind_method h.blank)) (some_found is_token_byte h.method (32 ∷ target) is.method.0 is.method.1 (space_stops target))
    ∙ ap (option_and_then (λ (sp : ℕ × List ℕ). option_and_then (behind_target h.blank h.method) (target_at sp.1))) (byte_found 32 target)
    ∙ ap (option_and_then (behind_target h.blank h.method)) (target_found h.target (32 ∷ version) is.target.0 is.target.1 is.target_text refl)
    ∙ ap (option_and_then (λ (sp : ℕ × List ℕ). option_and_then (behind_version h.blank h.method h.target) (version_at sp.1))) (byte_found 32 version)
    ∙ ap (option_and_then (behind_version h.blank h.method h.target)) (version_found h.minor line is.minor)
    ∙ ap (option_and_then (behind_line h.blank h.method h.target h.minor)) (end_found h.line_end section)
    ∙ ap (option_and_then (with_fields (bare h.blank h.method h.target h.minor h.line_end))) (fields_found 64 h.fields h.last r is.fields few)

-- what was read is a lawful head of at most 64 fields, and it stands there
abbrev IsRead : List ℕ → RequestHead × List ℕ → Type 0
IsRead bytes x = ReadsRequest bytes x.0 x.1 × (length x.0.fields ≤ 64)

head_reads : (bytes : List ℕ) (x : RequestHead × List ℕ) → head_at bytes ≡ Some x → IsRead bytes x
head_reads bytes x h =
    option_and_then_some behind_blank (blank_at bytes) x h (λ blank h1 k1.
    option_and_then_some (behind_method blank.0) (some_at is_token_byte blank.1) x k1 (λ method h2 k2.
    option_and_then_some (λ (sp : ℕ × List ℕ). option_and_then (behind_target blank.0 method.0) (target_at sp.1)) (byte_at 32 method.1) x k2 (λ sp1 h3 k3.
    option_and_then_some (behind_target blank.0 method.0) (target_at sp1.1) x k3 (λ target h4 k4.
    option_and_then_some (λ (sp : ℕ × List ℕ). option_and_then (behind_version blank.0 method.0 target.0) (version_at sp.1)) (byte_at 32 target.1) x k4 (λ sp2 h5 k5.
    option_and_then_some (behind_version blank.0 method.0 target.0) (version_at sp2.1) x k5 (λ minor h6 k6.
    option_and_then_some (behind_line blank.0 method.0 target.0 minor.0) (end_at minor.1) x k6 (λ line h7 k7.
    option_and_then_some (with_fields (bare blank.0 method.0 target.0 minor.0 line.0)) (fields_at 64 line.1) x k7 (λ fields h8 same.
    let m = some_reads is_token_byte blank.1 method h2 in
    let t = target_reads sp1.1 target h4 in
    let v = version_reads sp2.1 minor h6 in
    let f = fields_read 64 line.1 fields h8 in
    let head : RequestHead = record { blank = blank.0; method = method.0; target = target.0; minor = minor.0; line_end = line.0; fields = fields.0.0; last = fields.0.1 } in
    let whole : bytes ≡ print_request head ++ fields.1 =
    blank_reads bytes blank h1
    ∙ ap (λ (w : List ℕ). print_blank blank.0 ++ w) (m.0
    ∙ ap (λ (w : List ℕ). method.0 ++ w) (byte_reads 32 method.1 sp1 h3
    ∙ ap (λ (w : List ℕ). 32 ∷ w) (t.0
    ∙ ap (λ (w : List ℕ). target.0 ++ w) (byte_reads 32 target.1 sp2 h5
    ∙ ap (λ (w : List ℕ). 32 ∷ w) (v.0
    ∙ ap (λ (w : List ℕ). print_version minor.0 ++ w) (end_reads minor.1 line h7
    ∙ ap (λ (w : List ℕ). print_end line.0 ++ w) f.0))))))
    ∙ sym (print_request-append head fields.1)
    in
    subst (IsRead bytes) (same_Some (head, fields.1) x same) (
      (
        record { method = (m.1, m.2); target = t.1; target_text = t.2; minor = v.1; fields = f.1 },
        whole,
      ),
      f.2,
    )))))))))

pub found_is : (bytes : List ℕ) (h : RequestHead) → BeginsWith bytes h → head_in bytes ≡ Some h
unfolding head_in
found_is bytes h begins = ap (λ (b : List ℕ). option_map (λ read. read.0) (head_at b)) begins.1.1 ∙ ap (option_map (λ (read : RequestHead × List ℕ). read.0)) (head_found h begins.0 begins.1.0 begins.2)

pub is_found : (bytes : List ℕ) (h : RequestHead) → head_in bytes ≡ Some h → BeginsWith bytes h
unfolding head_in
is_found bytes h e =
    let m = mapped (λ (read : RequestHead × List ℕ). read.0) (head_at bytes) h e in
    let r = head_reads bytes m.0 m.1 in
    subst (BeginsWith bytes) m.2 (m.0.1, r.0, r.1)
