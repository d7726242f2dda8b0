-- Fields that are put into a map, one after another.
use Rattle.std.proofs.Common.{◌≡◌, ℕ, ◌+◌, ◌/◌, ◌%◌, pos, ◌<◌, List, [], ◌∷◌, ◌++◌, length, get_or, drop, drop-cons, add-one, map, refl, sym, ap, subst, ◌∙◌}
use Rattle.std.specs.Prelude.{Result, Ok, Err, codes}
use Rattle.std.specs.List.{fold, flat_map}
use Rattle.std.specs.Str.Lossy.{utf8_lossy}
use Rattle.std.proofs.lemmas.List.Sums.{fold-append}
use Rattle.gl_fields.specs.declared.field.Field.{Field}
use Rattle.gl_fields.specs.declared.entry.Cause.{Cause}
use Rattle.gl_fields.specs.declared.fault.DecodeFault.{DecodeFault}
use Rattle.gl_fields.specs.declared.fault.DecodeFault.TheVariants.{Undecodable, OutOfMemory}
use Rattle.gl_text.specs.SyslogNames.{facility_name}
use Rattle.gl_syslogtext.specs.declared.parts.Element.{Element}
use Rattle.gl_syslog.specs.declared.content.Content.{Content}
use Rattle.gl_fields.specs.Putting.{text_field, whole_field, then_put, map_with, Fails}
use Rattle.gl_syslog.specs.Decoding.{field_if, parameter_field, element_fields, content_of, fields_of, decoded_syslog}
use Rattle.gl_syslog.specs.Putting.{◌>>=◌, put_in, put_common, put_in_order}

pub stays : (cause : Cause) (fs : List Field) → fold then_put (Err cause) fs ≡ Err cause
stays cause [] = refl
stays cause (f ∷ fs) = stays cause fs

-- what isn't put is the answer, whatever else was to be put
fails_on : (e : DecodeFault) (first : Result (List Field) Cause) (more : List Field) → Fails first e → Fails (fold then_put first more) e
fails_on (Undecodable cause) first more h = ap (λ r. fold then_put r more) h ∙ stays cause more
fails_on OutOfMemory first more h = tt

front : {X : Type 0} (xs : List X) (i : ℕ) (x : X) → i < length xs → x ≡ get_or xs i x → drop i xs ≡ x ∷ drop (i + 1) xs
front xs i x lt at = rw add-one (drop-cons xs i x lt) ∙ ap (λ y. y ∷ drop (i + 1) xs) (sym at)

pub parameter_fails : (e : DecodeFault) (whole : Result (List Field) Cause) (m : List Field) (id : List ℕ) (ps : List (List ℕ × List ℕ)) (i : ℕ) (p : List ℕ × List ℕ)
    → whole ≡ fold then_put (Ok m) (map (parameter_field id) (drop i ps)) → i < length ps → p ≡ get_or ps i p → Fails (then_put (Ok m) (parameter_field id p)) e → Fails whole e
parameter_fails e whole m id ps i p is lt at h =
    let all : whole ≡ fold then_put (then_put (Ok m) (parameter_field id p)) (map (parameter_field id) (drop (i + 1) ps)) = is ∙ ap (λ l. fold then_put (Ok m) (map (parameter_field id) l)) (front ps i p lt at) in
    subst (λ r. Fails r e) (sym all) (fails_on e (then_put (Ok m) (parameter_field id p)) (map (parameter_field id) (drop (i + 1) ps)) h)

pub element_fails : (e : DecodeFault) (whole : Result (List Field) Cause) (m : List Field) (es : List Element) (i : ℕ) (x : Element)
    → whole ≡ fold then_put (Ok m) (flat_map element_fields (drop i es)) → i < length es → x ≡ get_or es i x → Fails (fold then_put (Ok m) (element_fields x)) e → Fails whole e
element_fails e whole m es i x is lt at h =
    let more = flat_map element_fields (drop (i + 1) es) in
    let all : whole ≡ fold then_put (fold then_put (Ok m) (element_fields x)) more = is ∙ ap (λ l. fold then_put (Ok m) (flat_map element_fields l)) (front es i x lt at) ∙ fold-append then_put (Ok m) (element_fields x) more in
    subst (λ r. Fails r e) (sym all) (fails_on e (fold then_put (Ok m) (element_fields x)) more h)

-- step by step, or all in one list
bind_fold : (r : Result (List Field) Cause) (fs : List Field) → fold then_put r fs ≡ (r >>= λ m. fold then_put (Ok m) fs)
bind_fold (Ok m) fs = refl
bind_fold (Err cause) fs = stays cause fs

bind_list : (m : List Field) (fs more : List Field) → fold then_put (Ok m) (fs ++ more) ≡ (fold then_put (Ok m) fs >>= λ n. fold then_put (Ok n) more)
bind_list m fs more = fold-append then_put (Ok m) fs more ∙ bind_fold (fold then_put (Ok m) fs) more

bind_same : (r q : Result (List Field) Cause) (f g : List Field → Result (List Field) Cause) → r ≡ q → ((m : List Field) → f m ≡ g m) → (r >>= f) ≡ (q >>= g)
bind_same r q f g e h = ap (λ x. x >>= f) e ∙ inside q f g h
  where
    inside : (q : Result (List Field) Cause) (f g : List Field → Result (List Field) Cause) → ((m : List Field) → f m ≡ g m) → (q >>= f) ≡ (q >>= g)
    inside (Ok m) f g h = h m
    inside (Err cause) f g h = refl

bind_next : (m : List Field) (f : Field) (fs : List Field) (g : List Field → Result (List Field) Cause) → ((n : List Field) → fold then_put (Ok n) fs ≡ g n) → fold then_put (Ok m) (f ∷ fs) ≡ (put_in m f >>= g)
unfolding put_in
bind_next m f fs g h = bind_fold (then_put (Ok m) f) fs ∙ bind_same (then_put (Ok m) f) (then_put (Ok m) f) (λ n. fold then_put (Ok n) fs) g refl h

bind_some : (m : List Field) (fs more : List Field) (r : Result (List Field) Cause) (g : List Field → Result (List Field) Cause) → fold then_put (Ok m) fs ≡ r → ((n : List Field) → fold then_put (Ok n) more ≡ g n) → fold then_put (Ok m) (fs ++ more) ≡ (r >>= g)
bind_some m fs more r g e h = bind_list m fs more ∙ bind_same (fold then_put (Ok m) fs) r (λ n. fold then_put (Ok n) more) g e h

put_last : (m : List Field) (f : Field) → fold then_put (Ok m) (f ∷ []) ≡ put_in m f
unfolding put_in
put_last m f = refl

five : (m : List Field) (a b c d e : Field) → fold then_put (Ok m) (a ∷ b ∷ c ∷ d ∷ e ∷ []) ≡ (put_in m a >>= λ n. put_in n b >>= λ o. put_in o c >>= λ p. put_in p d >>= λ q. put_in q e)
five m a b c d e = bind_next m a (b ∷ c ∷ d ∷ e ∷ []) _ (λ n. bind_next n b (c ∷ d ∷ e ∷ []) _ (λ o. bind_next o c (d ∷ e ∷ []) _ (λ p. bind_next p d (e ∷ []) _ (λ q. put_last q e))))

common : Content → List Field
common c = text_field (codes "message") c.message ∷ text_field (codes "source") c.source ∷ whole_field (codes "timestamp") c.timestamp ∷ whole_field (codes "level") (pos (c.pri % 8)) ∷ text_field (codes "facility") (facility_name (c.pri / 8)) ∷ []

common_is : (c : Content) → fold then_put (Ok []) (common c) ≡ put_common [] c.message c.source c.timestamp c.pri
unfolding common put_common
common_is c = five [] (text_field (codes "message") c.message) (text_field (codes "source") c.source) (whole_field (codes "timestamp") c.timestamp) (whole_field (codes "level") (pos (c.pri % 8))) (text_field (codes "facility") (facility_name (c.pri / 8)))

pub in_order : (c : Content) → map_with (fields_of c) ≡ put_in_order c
unfolding fields_of common put_in_order
in_order c =
    let elements = flat_map element_fields c.elements in
    let ids = field_if (codes "message_id") c.message_id in
    let processes = field_if (codes "process_id") c.process_id in
    let names = field_if (codes "application_name") c.application_name in
    bind_some [] (common c) (names ++ (processes ++ (ids ++ elements))) (put_common [] c.message c.source c.timestamp c.pri) _ (common_is c) (λ m.
    bind_some m names (processes ++ (ids ++ elements)) (fold then_put (Ok m) names) _ refl (λ n.
    bind_some n processes (ids ++ elements) (fold then_put (Ok n) processes) _ refl (λ o.
    bind_some o ids elements (fold then_put (Ok o) ids) _ refl (λ p. refl))))

pub decoded_is : (moment : ℕ) (peer bytes text : List ℕ) (content : Content) → text ≡ utf8_lossy bytes → content ≡ content_of moment peer text → decoded_syslog moment peer bytes ≡ put_in_order content
unfolding decoded_syslog
decoded_is moment peer bytes text content e f = ap (λ t. map_with (fields_of (content_of moment peer t))) (sym e) ∙ ap (λ c. map_with (fields_of c)) (sym f) ∙ in_order content
