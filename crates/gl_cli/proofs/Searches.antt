-- A search for a line feed that goes on from where another ended.
use Rattle.std.specs.Prelude.{◌≡◌, ◌≢◌, ℕ, ◌+◌, ◌-◌, ◌<◌, ◌≤◌, min, List, ◌++◌, length, take, drop}
use Rattle.std.proofs.Common.{◌∙◌, ap, sym, subst, arith, length-take, length-drop, take-add, get_or}
use Rattle.std.proofs.lemmas.Grind.{common_steps}
use Rattle.std.proofs.lemmas.List.{get_or-take, get_or-drop, take_min}
use Rattle.std.proofs.lemmas.List.Elements.{All-append}
use Rattle.gl_cli.specs.LineReading.{NoNewline, IsNewlineAt, IsSearched}

pub drop_on : (start searched : ℕ) (bytes : List ℕ) → start ≤ searched → drop (searched - start) (drop start bytes) ≡ drop searched bytes
drop_on start searched bytes h = grind (arith, common_steps)

pub searched_on : (start searched count : ℕ) (bytes : List ℕ) → IsSearched start searched bytes → searched + count ≤ length bytes
    → NoNewline (take count (drop searched bytes)) → IsSearched start (searched + count) bytes
searched_on start searched count bytes s fits h =
    let e : searched + count - start ≡ (searched - start) + count = omega (arith, s.begun) in
    let parts : take ((searched - start) + count) (drop start bytes) ≡ take (searched - start) (drop start bytes) ++ take count (drop searched bytes)
    = take-add (searched - start) count (drop start bytes) ∙ ap (λ t. take (searched - start) (drop start bytes) ++ take count t) (drop_on start searched bytes s.begun) in
    record {
      begun = omega (arith, s.begun);
      within = fits;
      clear = subst NoNewline (sym (ap (λ n. take n (drop start bytes)) e ∙ parts)) (All-append (λ b. b ≢ 10) _ _ s.clear h);
    }

pub take_front : (count steps : ℕ) (bytes : List ℕ) → steps ≤ count → take steps (take count bytes) ≡ take steps bytes
take_front count steps bytes h = grind (arith, common_steps)

-- the first line feed of the part behind
pub searched_to : (start searched end steps n : ℕ) (bytes : List ℕ) → IsSearched start searched bytes → end ≤ length bytes
    → IsNewlineAt (take (end - searched) (drop searched bytes)) n steps → IsSearched start (searched + steps) bytes
searched_to start searched end steps n bytes s fits h =
    let within : steps < end - searched = omega (arith, h.inside, length-take (end - searched) (drop searched bytes)) in
    searched_on start searched steps bytes s (omega (arith, within, fits))
    (subst NoNewline (take_front (end - searched) steps (drop searched bytes) (omega (arith, within))) h.first)

pub found_in : (start searched end steps n budget : ℕ) (bytes : List ℕ) → IsSearched start searched bytes → end ≤ length bytes → end ≤ start + budget
    → IsNewlineAt (take (end - searched) (drop searched bytes)) n steps → IsNewlineAt (drop start bytes) budget (searched + steps - start)
found_in start searched end steps n budget bytes s fits allowed h =
    let within : steps < end - searched = omega (arith, h.inside, length-take (end - searched) (drop searched bytes)) in
    let begun : start ≤ searched = s.begun in
    let at : start + (searched + steps - start) ≡ searched + steps = omega (arith, begun) in
    record {
      inside = omega (arith, within, begun, fits, length-drop start bytes);
      allowed = omega (arith, within, begun, allowed);
      is =
          get_or-drop start bytes (searched + steps - start) 0
          ∙ ap (λ i. get_or bytes i 0) at
          ∙ sym (get_or-drop searched bytes steps 0)
          ∙ sym (get_or-take (end - searched) (drop searched bytes) steps 0 within)
          ∙ h.is;
      first = (searched_to start searched end steps n bytes s fits h).clear;
    }

-- nothing was found among so many bytes
pub none_in : (start searched count budget : ℕ) (bytes : List ℕ) → IsSearched start searched bytes → searched ≤ start + count
    → count ≡ min budget (length bytes - start) → NoNewline (take (start + count - searched) (drop searched bytes))
    → IsSearched start (start + count) bytes × NoNewline (take budget (drop start bytes))
none_in start searched count budget bytes s on e h =
    let begun : start ≤ length bytes = omega (arith, s.begun, s.within) in
    let at : searched + (start + count - searched) ≡ start + count = omega (arith, on) in
    let n : start + count - start ≡ min budget (length (drop start bytes)) = omega (arith, e, length-drop start bytes) in
    let all : IsSearched start (start + count) bytes
    = subst (λ (m : ℕ). IsSearched start m bytes) at (searched_on start searched (start + count - searched) bytes s (omega (arith, at, e, begun)) h) in
    (all, subst NoNewline (ap (λ m. take m (drop start bytes)) n ∙ take_min budget (drop start bytes)) all.clear)
