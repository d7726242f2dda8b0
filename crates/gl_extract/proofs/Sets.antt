-- Fields that are set one after the other.
use Rattle.std.proofs.Common.{◌≡◌, ◌∙◌, ℕ, suc, ◌+◌, ◌<◌, ◌≤◌, Option, Some, Result, Ok, Err, get_or, add-one, drop-cons, List, [], ◌∷◌, ◌++◌, length, take, drop, map, append_assoc, refl, sym, ap, subst}
use Rattle.std.proofs.lemmas.List.{map-append, map-id, append-nil, take-append-drop, drop_all}
use Rattle.std.specs.Prelude.{String, OnErr}
use Rattle.std.specs.String.{string_bytes}
use Rattle.std.specs.declared.alloc.Global.{Global}
use Rattle.gl_fields.specs.declared.field.Field.{Field}
use Rattle.gl_fields.specs.declared.value.Value.{Value}
use Rattle.gl_patterns.specs.Patterns.{named_in}
use Rattle.gl_extract.specs.declared.built.Built.{Built}
use Rattle.gl_extract.specs.declared.parts.ExtractorParts.{ExtractorParts}
use Rattle.gl_extract.specs.Extraction.{set_or_left, set_all, group_name, group_field, group_fields, source_text, given, given_of, HaveBegun, AreBegun, IsBegun}
use Rattle.gl_extract.specs.Views.{field_of_pair}

set_more : (given : List Field) (field : Field) (fields : List Field) → set_all (given ++ field ∷ []) fields ≡ set_or_left field (set_all given fields)
set_more [] field fields = refl
set_more (x ∷ given) field fields = set_more given field (set_or_left x fields)

-- one pair more
pub pair_set : (pairs : List (String Global × Value)) (p : String Global × Value) (name : List ℕ) (old now new : List Field) → name ≡ string_bytes p.0
    → now ≡ set_all (map field_of_pair pairs) old → new ≡ set_or_left (record { name = name; value = p.1 }) now → new ≡ set_all (map field_of_pair (pairs ++ p ∷ [])) old
pair_set pairs p name old now new named before set =
    set ∙ ap (λ (n : List ℕ). set_or_left (record { name = n; value = p.1 }) now) named ∙ ap (set_or_left (field_of_pair p)) before
    ∙ sym (set_more (map field_of_pair pairs) (field_of_pair p) old) ∙ ap (λ (l : List Field). set_all l old) (sym (map-append field_of_pair pairs (p ∷ [])))

-- what stands where memory is wanting

pub begun_none : (given old new : List Field) → new ≡ old → AreBegun given old new
begun_none given old new same = (given, record { done = []; all = refl; set = same })

pub begun_one : (field : Field) (old new : List Field) → new ≡ set_or_left field old → AreBegun (field ∷ []) old new
begun_one field old new set = ([], record { done = field ∷ []; all = refl; set = set })

pub begun_all : (given old new : List Field) → HaveBegun given [] old new → new ≡ set_all given old
begun_all given old new h = h.set ∙ ap (λ (l : List Field). set_all l old) (sym (append-nil h.done) ∙ sym h.all)

set_append : (done next old : List Field) → set_all (done ++ next) old ≡ set_all next (set_all done old)
set_append [] next old = refl
set_append (field ∷ done) next old = set_append done next (set_or_left field old)

pub begun_more : (given next left old now new : List Field) → HaveBegun given (next ++ left) old now → new ≡ set_all next now → HaveBegun given left old new
begun_more given next left old now new h set = record {
  done = h.done ++ next;
  all = h.all ∙ sym (append_assoc h.done next left);
  set = set ∙ ap (set_all next) h.set ∙ sym (set_append h.done next old);
}

pub begun_still : (given left old now new : List Field) → HaveBegun given left old now → new ≡ now → AreBegun given old new
begun_still given left old now new h same = (left, record { done = h.done; all = h.all; set = same ∙ h.set })

pub at_err : {T E P : Type 0} (r : Result T E) → P → OnErr r P
at_err (Ok x) h = tt
at_err (Err e) h = h

-- What was begun of a name's field and those behind it.

fields_ahead : (pattern text : List ℕ) (i : ℕ) (names : List (List ℕ)) (name : List ℕ) → i < length names → name ≡ get_or names i name
    → group_fields pattern text i (drop i names) ≡ group_field name text (named_in pattern text (group_name i)) ++ group_fields pattern text (i + 1) (drop (i + 1) names)
unfolding group_fields
fields_ahead pattern text i names name within is =
    let ahead : drop i names ≡ name ∷ drop (i + 1) names =
    rw (add-one i) (drop-cons names i name within ∙ ap (λ (n : List ℕ). n ∷ drop (suc i) names) (sym is)) in
    ap (group_fields pattern text i) ahead

pub group_begun : (pattern other text : List ℕ) (given : List Field) (i : ℕ) (names : List (List ℕ)) (name name' : List ℕ) (old now new : List Field) → i < length names → name ≡ get_or names i name
    → HaveBegun given (group_fields pattern text i (drop i names)) old now → other ≡ pattern → name' ≡ name
    → new ≡ set_all (group_field name' text (named_in other text (group_name i))) now
    → HaveBegun given (group_fields pattern text (i + 1) (drop (i + 1) names)) old new
group_begun pattern other text given i names name name' old now new within is h same named set =
    begun_more given (group_field name text (named_in pattern text (group_name i))) (group_fields pattern text (i + 1) (drop (i + 1) names)) old now new
    (subst (λ (l : List Field). HaveBegun given l old now) (fields_ahead pattern text i names name within is) h)
    (set ∙ ap (λ (p : List ℕ). set_all (group_field name' text (named_in p text (group_name i))) now) same
    ∙ ap (λ (n : List ℕ). set_all (group_field n text (named_in pattern text (group_name i))) now) named)

pub groups_ended : (pattern text : List ℕ) (i : ℕ) (names : List (List ℕ)) (given old new : List Field) → length names ≤ i → HaveBegun given (group_fields pattern text i (drop i names)) old new → new ≡ set_all given old
unfolding group_fields
groups_ended pattern text i names given old new past h =
    begun_all given old new (subst (λ (l : List (List ℕ)). HaveBegun given (group_fields pattern text i l) old new) (drop_all i names past) h)

-- the pairs that a loop has seen

pub pairs_begun : (pairs seen : List (String Global × Value)) (given old now new : List Field) → map (λ (p : String Global × Value). p) seen ≡ take (length seen) pairs
    → map field_of_pair pairs ≡ given → now ≡ set_all (map field_of_pair seen) old → new ≡ now → AreBegun given old new
pairs_begun pairs seen given old now new front are before same =
    let all : given ≡ map field_of_pair seen ++ map field_of_pair (drop (length seen) pairs) =
    sym are ∙ ap (map field_of_pair) (sym (take-append-drop (length seen) pairs) ∙ ap (λ (l : List (String Global × Value)). l ++ drop (length seen) pairs) (sym front ∙ map-id seen))
    ∙ map-append field_of_pair seen (drop (length seen) pairs) in
    (map field_of_pair (drop (length seen) pairs), record { done = map field_of_pair seen; all = all; set = same ∙ before })

-- the whole

pub begun_of : (parts parts' : ExtractorParts) (built built' : Built) (source text text' : List ℕ) (read : Option (List ℕ)) (old new : List Field) → parts' ≡ parts → built' ≡ built → source ≡ parts'.source
    → text' ≡ text → read ≡ source_text source old → read ≡ Some text → AreBegun (given parts'.kind parts' built' text') old new → IsBegun parts built old new
unfolding IsBegun
begun_of parts parts' built built' source text text' read old new same same_built named texts from found h =
    let there : source_text parts.source old ≡ Some text =
    ap (λ (n : List ℕ). source_text n old) (sym (named ∙ ap (λ (p : ExtractorParts). p.source) same)) ∙ sym from ∙ found in
    subst (λ (o : Option (List ℕ)). AreBegun (given_of o parts built) old new) (sym there)
    (subst (λ (t : List ℕ). AreBegun (given parts.kind parts built t) old new) texts
    (subst (λ (b : Built). AreBegun (given parts.kind parts b text') old new) same_built
    (subst (λ (p : ExtractorParts). AreBegun (given p.kind p built' text') old new) same h)))

pub none_begun : (parts : ExtractorParts) (built : Built) (old : List Field) → IsBegun parts built old old
unfolding IsBegun
none_begun parts built old = begun_none (given_of (source_text parts.source old) parts built) old old refl
