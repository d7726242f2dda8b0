-- What is left to be gone into, and the names that a text's pieces and lists of names have.
use Rattle.std.proofs.Common.{◌≡◌, ℕ, ◌+◌, ◌*◌, Bool, true, false, List, [], ◌∷◌, ◌++◌, map, length, Option, Some, None, refl, sym, ap, ◌∙◌, Bor, cond, ◌||◌, ⊎_elim}
use Rattle.std.specs.List.{list_any}
use Rattle.std.specs.Ordering.{nat_cmp, is_eq}
use Rattle.std.specs.Cmp.Lexicographic.{slice_cmp}
use Rattle.std.specs.Str.{bytes_eq}
use Rattle.std.proofs.lemmas.Bool.{cases_Bool, both_ways, false_from_ne_true}
use Rattle.std.proofs.lemmas.List.Folds.{list_any-append}
use Rattle.std.proofs.lemmas.Map.Text.{is_eq-slice_cmp}
use Rattle.std.proofs.lemmas.Slice.Eq.{bytes_eq-Decides}
use Rattle.std.specs.Prelude.{sum_by}
use Rattle.std.proofs.lemmas.List.Sums.{fold-append}
use Rattle.std.proofs.lemmas.List.{map-append}
use Rattle.gl_grok.specs.Names.{contains}
use Rattle.gl_grok.specs.Pieces.{Piece, byte, pieces, names_of, names_in}
use Rattle.gl_grok.specs.Tables.{Table}
use Rattle.gl_grok.specs.declared.pieces.Reference.{Reference}
use Rattle.gl_grok.specs.Fronts.{piece_of, at_percent}
use Rattle.gl_grok.proofs.Rooms.{Names, room, same_name}

names-bytes : (text : List ℕ) (ps : List Piece) → names_of (map (λ b. byte b) text ++ ps) ≡ names_of ps
names-bytes [] ps = refl
names-bytes (b ∷ text) ps = names-bytes text ps

all_bytes : (text : List ℕ) → names_of (map (λ b. byte b) text) ≡ []
all_bytes [] = refl
all_bytes (b ∷ text) = all_bytes text

pub names-plain : (rest : List ℕ) → pieces rest ≡ map (λ b. byte b) rest → names_in rest ≡ []
names-plain rest e = ap names_of e ∙ all_bytes rest

pub names-cut : (rest before after : List ℕ) (piece : Piece) → pieces rest ≡ map (λ b. byte b) before ++ piece ∷ pieces after → names_in rest ≡ names_of (piece ∷ pieces after)
names-cut rest before after piece e = ap names_of e ∙ names-bytes before (piece ∷ pieces after)

abbrev pub weight : List ℕ → ℕ
weight rest = 2 * length rest + 1

pub weigh-push : (rests : Names) (rest : List ℕ) → sum_by weight (rests ++ rest ∷ []) ≡ sum_by weight rests + weight rest
weigh-push rests rest = fold-append (λ (a : ℕ) (x : List ℕ). a + weight x) 0 rests (rest ∷ [])

module _ (table : Table) where
  abbrev pub left : Names → Names → ℕ
  left names rests = room weight table names + sum_by weight rests

-- references, and lists of them

abbrev pub nows : List (Bor (List ℕ)) → Names
nows texts = map (λ s. s.now) texts

pub now-push : (xs ys : List (Bor (List ℕ))) (x : Bor (List ℕ)) → xs ≡ ys ++ x ∷ [] → nows xs ≡ nows ys ++ x.now ∷ []
now-push xs ys x e = ap nows e ∙ map-append (λ (s : Bor (List ℕ)). s.now) ys (x ∷ [])

pub percent-piece : (rest before after : List ℕ) (o : Option Reference) → pieces rest ≡ map (λ b. byte b) before ++ at_percent o ∷ pieces after → o ≡ None → pieces rest ≡ map (λ b. byte b) before ++ byte 37 ∷ pieces after
percent-piece rest before after o e none = e ∙ ap (λ (r : Option Reference). map (λ b. byte b) before ++ at_percent r ∷ pieces after) none

pub reference-piece : (rest before after : List ℕ) (o : Option Reference) (r : Reference) → pieces rest ≡ map (λ b. byte b) before ++ at_percent o ∷ pieces after → o ≡ Some r
    → pieces rest ≡ map (λ b. byte b) before ++ piece_of r ∷ pieces after
reference-piece rest before after o r e some = e ∙ ap (λ (p : Option Reference). map (λ b. byte b) before ++ at_percent p ∷ pieces after) some

pub percent-names : (rest before after : List ℕ) (o : Option Reference) → pieces rest ≡ map (λ b. byte b) before ++ at_percent o ∷ pieces after → o ≡ None → names_in rest ≡ names_in after
percent-names rest before after o e none = names-cut rest before after (at_percent o) e ∙ ap (λ (r : Option Reference). names_of (at_percent r ∷ pieces after)) none

pub reference-names : (rest before after : List ℕ) (o : Option Reference) (r : Reference) → pieces rest ≡ map (λ b. byte b) before ++ at_percent o ∷ pieces after → o ≡ Some r → names_in rest ≡ r.name.now ∷ names_in after
reference-names rest before after o r e some = names-cut rest before after (at_percent o) e ∙ ap (λ (p : Option Reference). names_of (at_percent p ∷ pieces after)) some

abbrev Seen : List (Bor (List ℕ)) → Names → Type 0
Seen keys names = (q : List ℕ) → list_any (λ k. is_eq (slice_cmp nat_cmp q k.now)) keys ≡ contains names q

joined : (b c : Bool) (d : Bool) → c ≡ d → cond b true c ≡ (d || (b || false))
joined true true d e = rw (← e) refl
joined true false d e = rw (← e) refl
joined false true d e = rw (← e) refl
joined false false d e = rw (← e) refl

turned : (name q : List ℕ) → is_eq (slice_cmp nat_cmp name q) ≡ bytes_eq q name
turned name q = is_eq-slice_cmp name q ∙ ⊎_elim
    (λ e. e ∙ sym ((bytes_eq-Decides q name).1 (sym (same_name name q e))))
    (λ e. e ∙ sym (false_from_ne_true (bytes_eq q name) (λ t. both_ways (bytes_eq name q) e ((bytes_eq-Decides name q).1 (sym (same_name q name t))))))
    (cases_Bool (bytes_eq name q))

pub seen-new : (keys after : List (Bor (List ℕ))) (names : Names) (name : List ℕ)
    → ((q : Bor (List ℕ)) → list_any (λ k. is_eq (slice_cmp nat_cmp q.now k.now)) after ≡ cond (is_eq (slice_cmp nat_cmp name q.now)) true (list_any (λ k. is_eq (slice_cmp nat_cmp q.now k.now)) keys))
    → Seen keys names → Seen after (names ++ name ∷ [])
seen-new keys after names name updates seen q =
    updates (record { ref_ptr = (0, 0); now = q })
    ∙ joined (is_eq (slice_cmp nat_cmp name q)) (list_any (λ k. is_eq (slice_cmp nat_cmp q k.now)) keys) (contains names q) (seen q)
    ∙ ap (λ (b : Bool). contains names q || (b || false)) (turned name q)
    ∙ sym (list_any-append (λ other. bytes_eq q other) names (name ∷ []))

pub has-now : (texts : List (Bor (List ℕ))) (name : List ℕ) → list_any (λ other. bytes_eq name other.now) texts ≡ contains (nows texts) name
has-now [] name = refl
has-now (s ∷ texts) name = ap (λ (b : Bool). bytes_eq name s.now || b) (has-now texts name)
