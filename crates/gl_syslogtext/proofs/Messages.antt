-- Whole messages: what is read is in the grammar, and what is in the grammar is read.
use Rattle.std.proofs.Common.{◌≡◌, ℕ, Bool, true, false, cond, eqb, List, [], ◌∷◌, ◌++◌, get_or, codes, refl, sym, ap, ap₂, subst, ◌∙◌, arith}
use Rattle.std.specs.Prelude.{Option, Some, None}
use Rattle.std.specs.Str.{bytes_eq}
use Rattle.std.proofs.lemmas.Slice.Eq.{bytes_eq-Decides}
use Rattle.gl_syslogtext.specs.declared.parts.Element.{Element}
use Rattle.gl_syslogtext.specs.declared.parts.Stamp.{Stamp}
use Rattle.gl_syslogtext.specs.declared.parts.Parts.{Parts}
use Rattle.gl_syslogtext.specs.Sections.{split, pri_in, pri_at, stamp_of, stamp_at, name_of, name_at}
use Rattle.gl_syslogtext.specs.Data.{data_at, has_bom, without_bom, message_of}
use Rattle.gl_syslogtext.specs.MessageReading.{are_distinct, ids_of, elements_of, version_at, parts_of}
use Rattle.gl_syslogtext.specs.Rfc5424.{IsData, up_to, Reads5424}
use Rattle.gl_syslogtext.proofs.Peel.{bind_ok, bind_then, some_is, guard_ok, split_again, split_sound, section_at, section_again, section_sound}
use Rattle.gl_syslogtext.proofs.Elements.{data_sound, data_again}

pri_is : (text : List ℕ) → pri_at text ≡ section_at 62 pri_in text
unfolding pri_at section_at
pri_is text = refl

stamp_is : (text : List ℕ) → stamp_at text ≡ section_at 32 stamp_of text
unfolding stamp_at section_at
stamp_is text = refl

name_is : (most : ℕ) (text : List ℕ) → name_at most text ≡ section_at 32 (name_of most) text
unfolding name_at section_at
name_is most text = refl

version_sound : (text rest : List ℕ) → version_at text ≡ Some rest → text ≡ up_to (codes "1") 32 rest
unfolding version_at
version_sound text rest h =
    let f = bind_ok (split 32 text) (λ (v : List ℕ × List ℕ). cond (bytes_eq v.0 (codes "1")) (Some v.1) None) rest h in
    let g = guard_ok (bytes_eq f.0.0 (codes "1")) f.0.1 rest f.2 in
    let one : f.0.0 ≡ codes "1" = (bytes_eq-Decides f.0.0 (codes "1")).0 g.0 in
    (split_sound 32 text f.0 f.1).0 ∙ ap₂ (λ (a b : List ℕ). up_to a 32 b) one g.1

version_again : (rest : List ℕ) → version_at (up_to (codes "1") 32 rest) ≡ Some rest
unfolding version_at
version_again rest = rw (split_again 32 (codes "1") rest refl) refl

space_first : (t : Bool) (b : ℕ) (y x : Bool × Option (List ℕ)) → eqb b 32 ≡ t → cond t (Some y) None ≡ Some x → eqb b 91 ≡ false
space_first true b y x e h = grind arith
space_first false b y x e h = absurd cc

message_first : (text : List ℕ) (x : Bool × Option (List ℕ)) → message_of text ≡ Some x → eqb (get_or text 0 0) 91 ≡ false
unfolding message_of
message_first [] x h = refl
message_first (b ∷ msg) x h = space_first (eqb b 32) b (has_bom msg, Some (without_bom msg)) x refl h

elements_sound : (text : List ℕ) (x : List Element × List ℕ) → elements_of text ≡ Some x → (front : List ℕ) × (text ≡ front ++ x.1) × IsData front x.0 × (are_distinct (ids_of x.0) ≡ true)
unfolding elements_of
elements_sound text x h =
    let f = bind_ok (data_at text) (λ (d : List Element × List ℕ). cond (are_distinct (ids_of d.0)) (Some d) None) x h in
    let g = guard_ok (are_distinct (ids_of f.0.0)) f.0 x f.2 in
    let d = data_sound text f.0 f.1 in
    subst (λ (y : List Element × List ℕ). (front : List ℕ) × (text ≡ front ++ y.1) × IsData front y.0 × (are_distinct (ids_of y.0) ≡ true)) g.1 (d.0, d.1, d.2, g.0)

elements_again : (front : List ℕ) (es : List Element) (rest : List ℕ) → IsData front es → are_distinct (ids_of es) ≡ true → eqb (get_or rest 0 0) 91 ≡ false → elements_of (front ++ rest) ≡ Some (es, rest)
unfolding elements_of
elements_again front es rest is once other = rw (data_again front es rest is other, once) refl

pub parts_again : (text : List ℕ) (parts : Parts) → Reads5424 text parts → parts_of text ≡ Some parts
unfolding parts_of
parts_again text parts r =
    let data_ = r.elements ++ r.message in
    let msg_id = up_to r.msg_id 32 data_ in
    let proc_id = up_to r.proc_id 32 msg_id in
    let app = up_to r.app 32 proc_id in
    let host = up_to r.host 32 app in
    let stamp = up_to r.stamp 32 host in
    let e1 : pri_at (up_to r.priority 62 (up_to (codes "1") 32 stamp)) ≡ Some (parts.pri, up_to (codes "1") 32 stamp) = pri_is _ ∙ section_again 62 pri_in r.priority parts.pri (up_to (codes "1") 32 stamp) r.is_priority in
    let e2 : version_at (up_to (codes "1") 32 stamp) ≡ Some stamp = version_again stamp in
    let e3 : stamp_at stamp ≡ Some (parts.stamp, host) = stamp_is _ ∙ section_again 32 stamp_of r.stamp parts.stamp host r.is_stamp in
    let e4 : name_at 255 host ≡ Some (parts.host, app) = name_is 255 _ ∙ section_again 32 (name_of 255) r.host parts.host app r.is_host in
    let e5 : name_at 48 app ≡ Some (parts.app, proc_id) = name_is 48 _ ∙ section_again 32 (name_of 48) r.app parts.app proc_id r.is_app in
    let e6 : name_at 128 proc_id ≡ Some (parts.proc_id, msg_id) = name_is 128 _ ∙ section_again 32 (name_of 128) r.proc_id parts.proc_id msg_id r.is_proc_id in
    let e7 : name_at 32 msg_id ≡ Some (parts.msg_id, data_) = name_is 32 _ ∙ section_again 32 (name_of 32) r.msg_id parts.msg_id data_ r.is_msg_id in
    let e8 : elements_of data_ ≡ Some (parts.elements, r.message) = elements_again r.elements parts.elements r.message r.is_data r.once (message_first r.message (parts.bom, parts.msg) r.is_message) in
    rw (r.whole, e1, e2, e3, e4, e5, e6, e7, e8, r.is_message) refl

built : (text : List ℕ) (pri : ℕ × List ℕ) (header : List ℕ) (stamp : Option Stamp × List ℕ) (host app proc_id msg_id : Option (List ℕ) × List ℕ) (elements : List Element × List ℕ) (message : Bool × Option (List ℕ))
    → pri_at text ≡ Some pri → version_at pri.1 ≡ Some header → stamp_at header ≡ Some stamp → name_at 255 stamp.1 ≡ Some host → name_at 48 host.1 ≡ Some app → name_at 128 app.1 ≡ Some proc_id
    → name_at 32 proc_id.1 ≡ Some msg_id → elements_of msg_id.1 ≡ Some elements → message_of elements.1 ≡ Some message
    → Reads5424 text (record { pri = pri.0; stamp = stamp.0; host = host.0; app = app.0; proc_id = proc_id.0; msg_id = msg_id.0; elements = elements.0; bom = message.0; msg = message.1 })
built text pri header stamp host app proc_id msg_id elements message h1 h2 h3 h4 h5 h6 h7 h8 h9 =
    let s1 = section_sound 62 pri_in text pri (sym (pri_is text) ∙ h1) in
    let s2 = version_sound pri.1 header h2 in
    let s3 = section_sound 32 stamp_of header stamp (sym (stamp_is header) ∙ h3) in
    let s4 = section_sound 32 (name_of 255) stamp.1 host (sym (name_is 255 stamp.1) ∙ h4) in
    let s5 = section_sound 32 (name_of 48) host.1 app (sym (name_is 48 host.1) ∙ h5) in
    let s6 = section_sound 32 (name_of 128) app.1 proc_id (sym (name_is 128 app.1) ∙ h6) in
    let s7 = section_sound 32 (name_of 32) proc_id.1 msg_id (sym (name_is 32 proc_id.1) ∙ h7) in
    let s8 = elements_sound msg_id.1 elements h8 in
    record {
      priority = s1.section;
      stamp = s3.section;
      host = s4.section;
      app = s5.section;
      proc_id = s6.section;
      msg_id = s7.section;
      elements = s8.0;
      message = elements.1;
      whole = s1.whole ∙ ap (up_to s1.section 62) (s2 ∙ ap (up_to (codes "1") 32) (s3.whole ∙ ap (up_to s3.section 32) (s4.whole ∙ ap (up_to s4.section 32) (s5.whole ∙ ap (up_to s5.section 32)
          (s6.whole ∙ ap (up_to s6.section 32) (s7.whole ∙ ap (up_to s7.section 32) s8.1))))));
      is_priority = s1.is;
      is_stamp = s3.is;
      is_host = s4.is;
      is_app = s5.is;
      is_proc_id = s6.is;
      is_msg_id = s7.is;
      is_data = s8.2;
      once = s8.3;
      is_message = h9;
    }

pub parts_sound : (text : List ℕ) (parts : Parts) → parts_of text ≡ Some parts → Reads5424 text parts
unfolding parts_of
parts_sound text parts h =
    bind_then (pri_at text) _ parts h (λ pri h1 k1.
    bind_then (version_at pri.1) _ parts k1 (λ header h2 k2.
    bind_then (stamp_at header) _ parts k2 (λ stamp h3 k3.
    bind_then (name_at 255 stamp.1) _ parts k3 (λ host h4 k4.
    bind_then (name_at 48 host.1) _ parts k4 (λ app h5 k5.
    bind_then (name_at 128 app.1) _ parts k5 (λ proc_id h6 k6.
    bind_then (name_at 32 proc_id.1) _ parts k6 (λ msg_id h7 k7.
    bind_then (elements_of msg_id.1) _ parts k7 (λ elements h8 k8.
    bind_then (message_of elements.1) _ parts k8 (λ message h9 k9.
    subst (Reads5424 text) (some_is _ parts k9) (built text pri header stamp host app proc_id msg_id elements message h1 h2 h3 h4 h5 h6 h7 h8 h9))))))))))
