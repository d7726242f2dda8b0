-- How the frames of a connection go on with its bytes.
use Rattle.std.proofs.Common.{◌≡◌, ℕ, inl, inr, ◌+◌, ◌<◌, ◌≤◌, Bool, true, false, List, [], ◌∷◌, ◌++◌, length, refl, zero-add, sym, ap, ap₂, subst, ◌∙◌, take, drop, get_or, arith}
use Rattle.std.specs.Prelude.{Option, Some, None}
use Rattle.std.specs.List.{concat, AllByRecursion}
use Rattle.std.proofs.lemmas.List.{append-nil, append_assoc, length-append, take_more, take-append-drop, take_all}
use Rattle.std.proofs.lemmas.List.Folds.{concat-append}
use Rattle.gl_base.specs.declared.fed.Fed.{Fed}
use Rattle.gl_base.specs.declared.fed.Fed.TheVariants.{Nothing, Whole, TooLong, Closed}
use Rattle.gl_lines.specs.LineFraming.{most, has_count, is_counted, is_open, part, IsUnit, frame_of, shown, frames_in, last_frame, Framed}
use Rattle.gl_lines.specs.Reader.{told}
use Rattle.gl_lines.proofs.Bools.{and_right}
use Rattle.gl_lines.proofs.Counts.{digits_alone}
use Rattle.gl_lines.specs.declared.front.State.{State}
use Rattle.gl_lines.specs.declared.front.State.TheVariants as states
use Rattle.gl_lines.specs.Fronts.{Becomes, Moves, IsTaking, IsBegun, IsLineFront, rest_in}

all_push : (P : List ℕ → Type 0) (us : List (List ℕ)) (u : List ℕ) → AllByRecursion P us → P u → AllByRecursion P (us ++ u ∷ [])
all_push P [] u each h = (h, tt)
all_push P (v ∷ us) u each h = (each.0, all_push P us u each.1 h)

frames_push : (counts : Bool) (at : ℕ) (us : List (List ℕ)) (u : List ℕ) → frames_in counts at (us ++ u ∷ []) ≡ frames_in counts at us ++ shown (at + length (concat us ++ u)) (frame_of counts u)
frames_push counts at [] u = append-nil (shown (at + length u) (frame_of counts u))
frames_push counts at (v ∷ us) u =
    let place : at + length v + length (concat us ++ u) ≡ at + length (v ++ concat us ++ u) = omega (arith, length-append v (concat us), length-append (v ++ concat us) u, length-append (concat us) u) in
    ap (λ (fs : List (ℕ × List ℕ)). shown (at + length v) (frame_of counts v) ++ fs)
    (frames_push counts (at + length v) us u ∙ ap (λ (n : ℕ). frames_in counts (at + length v) us ++ shown n (frame_of counts u)) place)
    ∙ sym (append_assoc (shown (at + length v) (frame_of counts v)) (frames_in counts (at + length v) us) (shown (at + length (v ++ concat us ++ u)) (frame_of counts u)))

-- a rest that is still open
open_moves : (counts : Bool) (r added : List ℕ) (bytes : List ℕ) (frames : List (ℕ × List ℕ)) → is_open counts (r ++ added) ≡ true → length (part counts (r ++ added)) ≤ most
    → Framed counts bytes frames (Some r) → Framed counts (bytes ++ added) (frames ++ []) (Some (r ++ added))
open_moves counts r added bytes frames is few f = record {
  units = f.units;
  tail = r ++ added;
  whole = ap (λ (bs : List ℕ). bs ++ added) f.whole ∙ append_assoc (concat f.units) f.tail added ∙ ap (λ (bs : List ℕ). concat f.units ++ (bs ++ added)) f.ends.0;
  each = f.each;
  frames_are = append-nil frames ∙ f.frames_are;
  ends = (refl, is, few);
}

no_count : (counts : Bool) → is_counted counts [] ≡ false
no_count counts = and_right counts (has_count []) (digits_alone [] refl)

pub empty_open : (counts : Bool) → is_open counts [] ≡ true
empty_open counts = rw (no_count counts) refl

pub empty_part : (counts : Bool) → length (part counts []) ≤ most
empty_part counts = rw (no_count counts) (omega arith)

-- nothing has come
pub nothing_framed : (counts : Bool) → Framed counts [] [] (Some [])
nothing_framed counts = record { units = []; tail = []; whole = refl; each = tt; frames_are = refl; ends = (refl, empty_open counts, empty_part counts) }

-- a rest that is a whole frame now
unit_moves : (counts : Bool) (r added : List ℕ) (bytes : List ℕ) (frames : List (ℕ × List ℕ)) → IsUnit counts (r ++ added)
    → Framed counts bytes frames (Some r) → Framed counts (bytes ++ added) (frames ++ shown (length bytes + length added) (frame_of counts (r ++ added))) (Some [])
unit_moves counts r added bytes frames unit f =
    let all : bytes ++ added ≡ concat f.units ++ (r ++ added) = ap (λ (bs : List ℕ). bs ++ added) f.whole ∙ append_assoc (concat f.units) f.tail added ∙ ap (λ (bs : List ℕ). concat f.units ++ (bs ++ added)) f.ends.0 in
    let one : concat ((r ++ added) ∷ []) ≡ r ++ added = append-nil (r ++ added) in
    let place : length bytes + length added ≡ length (concat f.units ++ (r ++ added)) = sym (length-append bytes added) ∙ ap length all in
    record {
      units = f.units ++ (r ++ added) ∷ [];
      tail = [];
      whole = all ∙ sym (append-nil (concat (f.units ++ (r ++ added) ∷ [])) ∙ concat-append f.units ((r ++ added) ∷ []) ∙ ap (λ (bs : List ℕ). concat f.units ++ bs) one);
      each = all_push (IsUnit counts) f.units (r ++ added) f.each unit;
      frames_are = ap₂ (λ (fs : List (ℕ × List ℕ)) (n : ℕ). fs ++ shown n (frame_of counts (r ++ added))) f.frames_are (place ∙ sym (zero-add (length (concat f.units ++ (r ++ added))))) ∙ sym (frames_push counts 0 f.units (r ++ added));
      ends = (refl, empty_open counts, empty_part counts);
    }

shown_some : (place : ℕ) (frame : List ℕ) → 0 < length frame → shown place frame ≡ (place, frame) ∷ []
shown_some place [] some = absurd (omega arith)
shown_some place (b ∷ bs) some = refl

-- what goes on with the text is what the answer tells
pub becomes_moves : (counts : Bool) (r added : List ℕ) (answer : Fed) (rest : Option (List ℕ)) (lent : List ℕ) → Becomes counts (r ++ added) answer rest lent → Moves counts (Some r) rest added answer lent
becomes_moves counts r added Nothing rest lent (inl h) bytes frames f =
    subst (λ (o : Option (List ℕ)). Framed counts (bytes ++ added) (frames ++ []) o) (sym h.0) (open_moves counts r added bytes frames h.1 h.2 f)
becomes_moves counts r added Nothing rest lent (inr h) bytes frames f =
    let none : shown (length bytes + length added) (frame_of counts (r ++ added)) ≡ [] = ap (shown (length bytes + length added)) h.2 in
    subst (λ (o : Option (List ℕ)). Framed counts (bytes ++ added) (frames ++ []) o) (sym h.0)
    (subst (λ (fs : List (ℕ × List ℕ)). Framed counts (bytes ++ added) (frames ++ fs) (Some [])) none (unit_moves counts r added bytes frames h.1 f))
becomes_moves counts r added Whole rest lent h bytes frames f =
    let some : shown (length bytes + length added) (frame_of counts (r ++ added)) ≡ (length bytes + length added, lent) ∷ [] = ap (shown (length bytes + length added)) h.2 ∙ shown_some (length bytes + length added) lent h.3 in
    subst (λ (o : Option (List ℕ)). Framed counts (bytes ++ added) (frames ++ (length bytes + length added, lent) ∷ []) o) (sym h.0)
    (subst (λ (fs : List (ℕ × List ℕ)). Framed counts (bytes ++ added) (frames ++ fs) (Some [])) some (unit_moves counts r added bytes frames h.1 f))
becomes_moves counts r added TooLong rest lent h bytes frames f =
    subst (λ (o : Option (List ℕ)). Framed counts (bytes ++ added) (frames ++ []) o) (sym h.0) (record {
      units = f.units;
      tail = r ++ added;
      whole = ap (λ (bs : List ℕ). bs ++ added) f.whole ∙ append_assoc (concat f.units) f.tail added ∙ ap (λ (bs : List ℕ). concat f.units ++ (bs ++ added)) f.ends.0;
      each = f.each;
      frames_are = append-nil frames ∙ f.frames_are;
      ends = (r ++ added, [], sym (append-nil (r ++ added)), h.1, h.2);
    })
becomes_moves counts r added Closed rest lent h bytes frames f = absurd h

-- behind a frame that was too long anything may stand
closed_more : (counts : Bool) (added : List ℕ) (bytes : List ℕ) (frames : List (ℕ × List ℕ)) → Framed counts bytes frames None → Framed counts (bytes ++ added) (frames ++ []) None
closed_more counts added bytes frames f =
    let front = f.ends.0 in
    let more = f.ends.1 in
    record {
      units = f.units;
      tail = f.tail ++ added;
      whole = ap (λ (bs : List ℕ). bs ++ added) f.whole ∙ append_assoc (concat f.units) f.tail added;
      each = f.each;
      frames_are = append-nil frames ∙ f.frames_are;
      ends = (front, more ++ added, ap (λ (bs : List ℕ). bs ++ added) f.ends.2 ∙ append_assoc front more added, f.ends.3, f.ends.4);
    }

pub closed_moves : (counts : Bool) (added : List ℕ) (lent : List ℕ) → Moves counts None None added Closed lent
closed_moves counts added lent bytes frames f = closed_more counts added bytes frames f

pub too_long_moves : (counts : Bool) (a : Option (List ℕ)) (xs ys : List ℕ) (between lent : List ℕ) → Moves counts a None xs TooLong between → Moves counts a None (xs ++ ys) TooLong lent
too_long_moves counts a xs ys between lent first bytes frames f =
    let g = closed_more counts ys (bytes ++ xs) (frames ++ []) (first bytes frames f) in
    subst (λ (bs : List ℕ). Framed counts bs (frames ++ []) None) (append_assoc bytes xs ys)
    (subst (λ (fs : List (ℕ × List ℕ)). Framed counts ((bytes ++ xs) ++ ys) fs None) (append-nil (frames ++ [])) g)

pub taking_rest : (bytes : List ℕ) (state : State) → IsTaking state → rest_in bytes state ≡ Some bytes
taking_rest bytes (states.Begun n) h = refl
taking_rest bytes states.Line h = refl
taking_rest bytes (states.Counted head n) h = refl
taking_rest bytes (states.Whole from to) h = absurd h
taking_rest bytes states.Closed h = absurd h

pub moves_nothing : (counts : Bool) (rest : Option (List ℕ)) (lent : List ℕ) → Moves counts rest rest [] Nothing lent
moves_nothing counts rest lent bytes frames f =
    subst (λ (bs : List ℕ). Framed counts bs (frames ++ []) rest) (sym (append-nil bytes)) (subst (λ (fs : List (ℕ × List ℕ)). Framed counts bytes fs rest) (sym (append-nil frames)) f)

-- one after the other
pub moves_then : (counts : Bool) (a b d : Option (List ℕ)) (xs ys : List ℕ) (answer : Fed) (between lent : List ℕ) → Moves counts a b xs Nothing between → Moves counts b d ys answer lent
    → Moves counts a d (xs ++ ys) answer lent
moves_then counts a b d xs ys answer between lent first second bytes frames f =
    let g = second (bytes ++ xs) (frames ++ []) (first bytes frames f) in
    let place : length (bytes ++ xs) + length ys ≡ length bytes + length (xs ++ ys) = omega (arith, length-append bytes xs, length-append xs ys) in
    subst (λ (bs : List ℕ). Framed counts bs (frames ++ told answer (length bytes + length (xs ++ ys)) lent) d) (append_assoc bytes xs ys)
    (subst (λ (n : ℕ). Framed counts ((bytes ++ xs) ++ ys) (frames ++ told answer n lent) d) place
    (subst (λ (fs : List (ℕ × List ℕ)). Framed counts ((bytes ++ xs) ++ ys) (fs ++ told answer (length (bytes ++ xs) + length ys) lent) d) (append-nil frames) g))

-- a byte behind the first bytes of a piece
pub step_moves : (counts : Bool) (a : Option (List ℕ)) (bytes : List ℕ) (state : State) (piece : List ℕ) (i : ℕ) (answer : Fed) (rest : Option (List ℕ)) (lent : List ℕ) → i < length piece → IsTaking state
    → Moves counts a (rest_in bytes state) (take i piece) Nothing [] → Becomes counts (bytes ++ get_or piece i 0 ∷ []) answer rest lent → Moves counts a rest (take (i + 1) piece) answer lent
step_moves counts a bytes state piece i answer rest lent lt taking first becomes =
    let open_now : Moves counts a (Some bytes) (take i piece) Nothing [] = subst (λ (o : Option (List ℕ)). Moves counts a o (take i piece) Nothing []) (taking_rest bytes state taking) first in
    subst (λ (bs : List ℕ). Moves counts a rest bs answer lent) (sym (take_more piece i 0 lt))
    (moves_then counts a (Some bytes) rest (take i piece) (get_or piece i 0 ∷ []) answer [] lent open_now (becomes_moves counts bytes (get_or piece i 0 ∷ []) answer rest lent becomes))

pub all_too_long : (counts : Bool) (a : Option (List ℕ)) (piece : List ℕ) (i : ℕ) (rest : Option (List ℕ)) (between lent : List ℕ) → rest ≡ None → Moves counts a rest (take i piece) TooLong between
    → Moves counts a rest (take (length piece) piece) TooLong lent
all_too_long counts a piece i rest between lent none first =
    let all : take i piece ++ drop i piece ≡ take (length piece) piece = take-append-drop i piece ∙ sym (take_all (length piece) piece (omega arith)) in
    subst (λ (o : Option (List ℕ)). Moves counts a o (take (length piece) piece) TooLong lent) (sym none)
    (subst (λ (bs : List ℕ). Moves counts a None bs TooLong lent) all
    (too_long_moves counts a (take i piece) (drop i piece) between lent (subst (λ (o : Option (List ℕ)). Moves counts a o (take i piece) TooLong between) none first)))

pub begun_last : (counts : Bool) (bytes : List ℕ) (n : ℕ) → IsBegun counts bytes n → last_frame counts bytes ≡ bytes
begun_last counts bytes n f =
    let is : is_counted counts bytes ≡ false = and_right counts (has_count bytes) (digits_alone bytes f.digits) in
    rw is refl

pub line_last : (counts : Bool) (bytes : List ℕ) → IsLineFront counts bytes → last_frame counts bytes ≡ bytes
line_last counts bytes f =
    let is : is_counted counts bytes ≡ false = ap (is_counted counts) (sym (append-nil bytes)) ∙ f.never [] in
    rw is refl
