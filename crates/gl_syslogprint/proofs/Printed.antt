-- What is printed of lawful parts is a message with these parts, and what some message has is lawful.
use Rattle.std.proofs.Common.{◌≡◌, ℕ, suc, Bool, true, false, not, ◌&&◌, cond, eqb, nat_lt, nat_le, List, [], ◌∷◌, ◌++◌, length, drop, codes, refl, ap, subst, ◌∙◌, arith}
use Rattle.std.specs.Prelude.{Option, Some, None, option_map}
use Rattle.std.specs.List.{list_all}
use Rattle.std.specs.Str.{bytes_eq}
use Rattle.std.proofs.lemmas.List.{append_assoc}
use Rattle.gl_syslogtext.specs.declared.parts.Element.{Element}
use Rattle.std.specs.Char.{is_ascii_graphic}
use Rattle.gl_syslogtext.specs.Sections.{name_of}
use Rattle.gl_syslogtext.specs.Data.{is_special, value_len, unescaped, has_bom, without_bom, message_of}
use Rattle.gl_syslogtext.specs.Rfc5424.{has_none, IsSection, AreMany, is_sd_name, IsSpelled, IsParam, IsElement, IsData, up_to}
use Rattle.gl_syslogprint.specs.Printing.{name_text, is_name, escaped, param_text, params_text, element_text, elements_text, data_text, is_param, is_element, message_text, is_message}
use Rattle.std.proofs.lemmas.Bool.{and_parts as and_both, and_from as and_holds}
use Rattle.gl_syslogtext.proofs.Peel.{some_is}
use Rattle.gl_syslogtext.proofs.Spelled.{other_byte}

-- one piece behind the other is the text in which they stand
pub joined : (s pri stamp host app proc_id msg_id elements msg : List ℕ)
    → ((((((((((s ++ 60 ∷ []) ++ pri) ++ 62 ∷ 49 ∷ 32 ∷ []) ++ stamp) ++ 32 ∷ []) ++ (host ++ 32 ∷ [])) ++ (app ++ 32 ∷ [])) ++ (proc_id ++ 32 ∷ [])) ++ (msg_id ++ 32 ∷ [])) ++ elements) ++ msg
    ≡ s ++ up_to (60 ∷ pri) 62 (up_to (codes "1") 32 (up_to stamp 32 (up_to host 32 (up_to app 32 (up_to proc_id 32 (up_to msg_id 32 (elements ++ msg)))))))
joined s pri stamp host app proc_id msg_id elements msg = simp append_assoc

-- an escaped value is spelled so
ends_step : (t : Bool) (b : ℕ) (vs : List ℕ) → is_special b ≡ t → value_len false (escaped vs ++ 34 ∷ []) ≡ Some (length (escaped vs)) → value_len false (escaped (b ∷ vs) ++ 34 ∷ []) ≡ Some (length (escaped (b ∷ vs)))
ends_step true b vs e ih =
    let first : escaped (b ∷ vs) ≡ 92 ∷ b ∷ escaped vs = rw e refl in
    rw first (rw e (ap (λ (o : Option ℕ). option_map suc (option_map suc o)) ih))
ends_step false b vs e ih =
    let first : escaped (b ∷ vs) ≡ b ∷ escaped vs = rw e refl in
    let quote : eqb b 34 ≡ false = grind arith in
    let slash : eqb b 92 ≡ false = grind arith in
    let close : eqb b 93 ≡ false = grind arith in
    rw first (other_byte b (escaped vs ++ 34 ∷ []) quote close ∙ rw slash (ap (option_map suc) ih))

ends_so : (v : List ℕ) → value_len false (escaped v ++ 34 ∷ []) ≡ Some (length (escaped v))
ends_so [] = refl
ends_so (b ∷ vs) = ends_step (is_special b) b vs refl (ends_so vs)

spells_step : (t : Bool) (b : ℕ) (vs : List ℕ) → is_special b ≡ t → unescaped false (escaped vs) ≡ vs → unescaped false (escaped (b ∷ vs)) ≡ b ∷ vs
spells_step true b vs e ih =
    let first : escaped (b ∷ vs) ≡ 92 ∷ b ∷ escaped vs = rw e refl in
    rw first (rw e (ap (λ (x : List ℕ). b ∷ x) ih))
spells_step false b vs e ih =
    let first : escaped (b ∷ vs) ≡ b ∷ escaped vs = rw e refl in
    let slash : eqb b 92 ≡ false = grind arith in
    rw first (rw slash (ap (λ (x : List ℕ). b ∷ x) ih))

spells_so : (v : List ℕ) → unescaped false (escaped v) ≡ v
spells_so [] = refl
spells_so (b ∷ vs) = spells_step (is_special b) b vs refl (spells_so vs)

spelled_so : (v : List ℕ) → IsSpelled (escaped v) v
spelled_so v = record { ends = ends_so v; spells = spells_so v }

param_so : (p : List ℕ × List ℕ) → is_param p ≡ true → IsParam (param_text p) p
param_so (name, value) is = (escaped value, refl, is, spelled_so value)

params_so : (ps : List (List ℕ × List ℕ)) → list_all is_param ps ≡ true → AreMany IsParam (params_text ps) ps
params_so [] all = refl
params_so (p ∷ ps) all =
    let both = and_both (is_param p) (list_all is_param ps) all in
    (param_text p, params_text ps, refl, param_so p both.0, params_so ps both.1)

element_so : (e : Element) → is_element e ≡ true → IsElement (element_text e) e
unfolding element_text
element_so e is =
    let both = and_both (is_sd_name e.id) (list_all is_param e.params) is in
    record { params = params_text e.params; whole = refl; id = both.0; each = params_so e.params both.1 }

elements_so : (es : List Element) → list_all is_element es ≡ true → AreMany IsElement (elements_text es) es
elements_so [] all = refl
elements_so (e ∷ es) all =
    let both = and_both (is_element e) (list_all is_element es) all in
    (element_text e, elements_text es, refl, element_so e both.0, elements_so es both.1)

pub data_so : (es : List Element) → list_all is_element es ≡ true → IsData (data_text es) es
data_so [] all = refl
data_so (e ∷ es) all = elements_so (e ∷ es) all

params_lawful : (text : List ℕ) (ps : List (List ℕ × List ℕ)) → AreMany IsParam text ps → list_all is_param ps ≡ true
params_lawful text [] are = refl
params_lawful text ((name, value) ∷ ps) are = and_holds (is_sd_name name) (list_all is_param ps) are.3.2 (params_lawful are.1 ps are.4)

element_lawful : (text : List ℕ) (e : Element) → IsElement text e → is_element e ≡ true
element_lawful text e h = and_holds (is_sd_name e.id) (list_all is_param e.params) h.id (params_lawful h.params e.params h.each)

elements_lawful : (text : List ℕ) (es : List Element) → AreMany IsElement text es → list_all is_element es ≡ true
elements_lawful text [] are = refl
elements_lawful text (e ∷ es) are = and_holds (is_element e) (list_all is_element es) (element_lawful are.0 e are.3) (elements_lawful are.1 es are.4)

pub data_lawful : (text : List ℕ) (es : List Element) → IsData text es → list_all is_element es ≡ true
data_lawful text [] is = refl
data_lawful text (e ∷ es) is = elements_lawful text (e ∷ es) is

pub none_cons : (c b : ℕ) (bs : List ℕ) → eqb b c ≡ false → has_none c bs ≡ true → has_none c (b ∷ bs) ≡ true
none_cons c b bs e h = and_holds (not (eqb b c)) (has_none c bs) (ap not e) h

printable_none : (t : List ℕ) → list_all is_ascii_graphic t ≡ true → has_none 32 t ≡ true
printable_none [] all = refl
printable_none (b ∷ bs) all =
    let both = and_both (is_ascii_graphic b) (list_all is_ascii_graphic bs) all in
    let one = both.0 in
    let other : eqb b 32 ≡ false = grind arith in
    none_cons 32 b bs other (printable_none bs both.1)

not_so : (b : Bool) → not b ≡ true → b ≡ false
not_so true h = absurd cc
not_so false h = refl

pub name_so : (most : ℕ) (n : Option (List ℕ)) → is_name most n ≡ true → IsSection 32 (name_of most) (name_text n) n
unfolding name_of
name_so most None is = record { none = refl; is = refl }
name_so most (Some t) is =
    let size = nat_lt 0 (length t) && nat_le (length t) most in
    let both = and_both (not (bytes_eq t (codes "-"))) (size && list_all is_ascii_graphic t) is in
    let other : bytes_eq t (codes "-") ≡ false = not_so (bytes_eq t (codes "-")) both.0 in
    let name = and_both size (list_all is_ascii_graphic t) both.1 in
    record { none = printable_none t name.1; is = rw (other, both.1) refl }

name_step : (s t : Bool) (most : ℕ) (text : List ℕ) (n : Option (List ℕ)) → bytes_eq text (codes "-") ≡ s → (nat_lt 0 (length text) && nat_le (length text) most && list_all is_ascii_graphic text) ≡ t
    → cond s (Some None) (cond t (Some (Some text)) None) ≡ Some n → is_name most n ≡ true
name_step true t most text n e k h = subst (λ (m : Option (List ℕ)). is_name most m ≡ true) (some_is None n h) refl
name_step false true most text n e k h =
    subst (λ (m : Option (List ℕ)). is_name most m ≡ true) (some_is (Some text) n h)
    (and_holds (not (bytes_eq text (codes "-"))) (nat_lt 0 (length text) && nat_le (length text) most && list_all is_ascii_graphic text) (ap not e) k)
name_step false false most text n e k h = absurd cc

pub name_lawful : (most : ℕ) (text : List ℕ) (n : Option (List ℕ)) → name_of most text ≡ Some n → is_name most n ≡ true
unfolding name_of
name_lawful most text n h = name_step (bytes_eq text (codes "-")) (nat_lt 0 (length text) && nat_le (length text) most && list_all is_ascii_graphic text) most text n refl refl h

pub message_so : (bom : Bool) (msg : Option (List ℕ)) → is_message bom msg ≡ true → message_of (message_text bom msg) ≡ Some (bom, msg)
unfolding message_of
message_so true None is = absurd cc
message_so false None is = refl
message_so true (Some m) is = refl
message_so false (Some m) is =
    let other : has_bom m ≡ false = not_so (has_bom m) is in
    rw other refl

bom_step : (t : Bool) (m : List ℕ) → has_bom m ≡ t → is_message t (Some (cond t (drop 3 m) m)) ≡ true
bom_step true m e = refl
bom_step false m e = ap not e

message_step : (s : Bool) (m : List ℕ) (bom : Bool) (msg : Option (List ℕ)) → cond {A = Option (Bool × Option (List ℕ))} s (Some (has_bom m, Some (without_bom m))) None ≡ Some (bom, msg) → is_message bom msg ≡ true
message_step true m bom msg h =
    subst (λ (x : Bool × Option (List ℕ)). is_message x.0 x.1 ≡ true) (some_is (has_bom m, Some (without_bom m)) (bom, msg) h) (bom_step (has_bom m) m refl)
message_step false m bom msg h = absurd cc

pub message_lawful : (text : List ℕ) (bom : Bool) (msg : Option (List ℕ)) → message_of text ≡ Some (bom, msg) → is_message bom msg ≡ true
unfolding message_of
message_lawful [] bom msg h = subst (λ (x : Bool × Option (List ℕ)). is_message x.0 x.1 ≡ true) (some_is (false, None) (bom, msg) h) refl
message_lawful (b ∷ m) bom msg h = message_step (eqb b 32) m bom msg h
