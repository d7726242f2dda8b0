-- The tokens of an object, member by member.
use Rattle.std.proofs.Common.{◌≡◌, ℕ, List, [], ◌∷◌, ◌++◌, refl, sym, ◌∙◌, ap}
use Rattle.std.specs.Prelude.{ℤ, pos, negsuc, Result, Ok, Err, OnOk}
use Rattle.std.specs.Fmt.{signed_decimal}
use Rattle.std.proofs.lemmas.List.{append_assoc, append-nil}
use Rattle.json.specs.Token.{Token, key, begin_object, end_object}
use Rattle.json.specs.Tree.{json_tokens, members_tokens}
use Rattle.json.specs.Print.{print}
use Rattle.json.specs.Written.{Written, Writes}
use Rattle.serde_json.specs.Written.{compact_text, outline, members_outline, number_text}
use Rattle.serde_json.proofs.Texts.{print-outline}
use Rattle.gl_http.specs.declared.reply.Reply.{Reply}
use Rattle.gl_bodies.specs.Json.{Member, members_in, object_of, whole}
use Rattle.gl_bodies.specs.Writing.{Adds, Has, tokens_of}

abbrev member_tokens : Member → List Token
member_tokens m = key m.0 ∷ json_tokens (outline m.1)

tokens_more : (ms : List Member) (m : Member) → tokens_of (ms ++ m ∷ []) ≡ tokens_of ms ++ member_tokens m
tokens_more [] m = ap (λ (ts : List Token). key m.0 ∷ ts) (append-nil (json_tokens (outline m.1)))
tokens_more (n ∷ ms) m =
    ap (λ (ts : List Token). key n.0 ∷ (json_tokens (outline n.1) ++ ts)) (tokens_more ms m)
    ∙ ap (λ (ts : List Token). key n.0 ∷ ts) (sym (append_assoc (json_tokens (outline n.1)) (tokens_of ms) (member_tokens m)))

-- behind some tokens come others, and then more
pub adds_both : (old mid new : Written) (ts us : List Token) → Adds old mid ts → Adds mid new us → Adds old new (ts ++ us)
adds_both old mid new ts us a b = (b.0 ∙ a.0, b.1 ∙ ap (λ xs. xs ++ us) a.1 ∙ append_assoc old.tokens ts us)

pub has_more : (old new : Written) (m : Member) → Adds old new (member_tokens m) → (members : List Member) → Has old members → Has new (members ++ m ∷ [])
has_more old new m adds members has =
    (adds.0 ∙ has.0, adds.1 ∙ ap (λ ts. ts ++ member_tokens m) has.1 ∙ ap (λ (ts : List Token). begin_object ∷ ts) (sym (tokens_more members m)))

tokens_end : (ms : List Member) → tokens_of ms ++ end_object ∷ [] ≡ members_tokens (members_outline (members_in ms))
tokens_end [] = refl
tokens_end (m ∷ ms) =
    ap (λ (ts : List Token). key m.0 ∷ ts)
    (append_assoc (json_tokens (outline m.1)) (tokens_of ms) (end_object ∷ []) ∙ ap (λ ts. json_tokens (outline m.1) ++ ts) (tokens_end ms))

-- the text of an object that is ended
pub text_is : (old new : Written) → Adds old new (end_object ∷ []) → (members : List Member) → Has old members
    → new.before ++ print new.tokens ≡ compact_text (object_of members)
text_is old new adds members has =
    ap (λ bytes. bytes ++ print new.tokens) (adds.0 ∙ has.0)
    ∙ ap print (adds.1 ∙ ap (λ ts. ts ++ end_object ∷ []) has.1 ∙ ap (λ (ts : List Token). begin_object ∷ ts) (tokens_end members))
    ∙ print-outline (object_of members)

abbrev pub reply_with : ℕ → List ℕ → Reply
reply_with status body = record { status = status; body = body }

-- an object of two members
pub object_of_two : (start a b c d e new : Written) (first second : List ℕ) (ts us : List Token) → Adds start a (begin_object ∷ []) → Adds a b (key first ∷ []) → Adds b c ts → Adds c d (key second ∷ [])
    → Adds d e us → Adds e new (end_object ∷ []) → Adds start new (begin_object ∷ (key first ∷ (ts ++ (key second ∷ (us ++ end_object ∷ [])))))
object_of_two start a b c d e new first second ts us p q r s t u =
    adds_both start a new (begin_object ∷ []) (key first ∷ (ts ++ (key second ∷ (us ++ end_object ∷ [])))) p
    (adds_both a b new (key first ∷ []) (ts ++ (key second ∷ (us ++ end_object ∷ []))) q
    (adds_both b c new ts (key second ∷ (us ++ end_object ∷ [])) r
    (adds_both c d new (key second ∷ []) (us ++ end_object ∷ []) s
    (adds_both d e new us (end_object ∷ []) t u))))

-- what one token adds
pub adds_one : {E : Type 0} (r : Result (Unit {0}) E) (old new : Written) (t : Token) → Writes r old new t → OnOk r (Adds old new (t ∷ []))
adds_one (Ok x) old new t w = (w.room.0, w.ok)
adds_one (Err e) old new t w = tt

pub whole_text : (z : ℤ) → number_text (whole z) ≡ signed_decimal z
whole_text (pos n) = refl
whole_text (negsuc n) = refl
