-- The outcomes of a range of the journal.
use Rattle.std.proofs.Common.{◌≡◌, ℕ, zero, suc, ◌+◌, List, [], ◌∷◌, ◌++◌, length, take, drop, map, refl, sym, ap, ◌∙◌, arith, zero-add}
use Rattle.std.specs.List.{All}
use Rattle.std.proofs.lemmas.List.{map-append}
use Rattle.std.proofs.lemmas.List.Elements.{All-head, All-tail}
use Rattle.gl_fields.specs.declared.entry.Entry.{Entry}
use Rattle.gl_fields.specs.declared.entry.Entry.TheVariants.{Admin, Message}
use Rattle.gl_fields.specs.declared.entry.Outcome.{Outcome}
use Rattle.gl_history.specs.Versions.{config_at}
use Rattle.gl_outcome.specs.Outcomes.{message_under, outcome_under}
use Rattle.gl_process.specs.Journal.{outcome_of, outcomes_to, IsRecorded}

take_nothing : {X : Type 0} (n : ℕ) → take {A = X} n [] ≡ []
take_nothing zero = refl
take_nothing (suc n) = refl

-- the first ones, and then those behind them
take_both : {X : Type 0} (xs : List X) (a b : ℕ) → take (a + b) xs ≡ take a xs ++ take b (drop a xs)
take_both xs zero b = ap (λ n. take n xs) (zero-add b)
take_both [] (suc a) b = take_nothing (suc a + b) ∙ sym (take_nothing b)
take_both (x ∷ xs) (suc a) b =
    let more : suc a + b ≡ suc (a + b) = omega arith in
    ap (λ n. take n (x ∷ xs)) more ∙ ap (λ l. x ∷ l) (take_both xs a b)

-- an entry becomes the same under the configuration of its version and in its journal
same_outcome : (journal : List Entry) (version : ℕ) (e : Entry) → IsRecorded version e → outcome_under (config_at journal version) e ≡ outcome_of journal e
same_outcome journal version (Admin command) recorded = refl
same_outcome journal version (Message m) recorded = ap (λ v. message_under (config_at journal v) m) (sym recorded)

same_outcomes : (journal : List Entry) (version : ℕ) (range : List Entry) → All (IsRecorded version) range
    → map (outcome_under (config_at journal version)) range ≡ map (outcome_of journal) range
same_outcomes journal version [] recorded = refl
same_outcomes journal version (e ∷ range) recorded =
    ap (λ (o : Outcome). o ∷ map (outcome_under (config_at journal version)) range) (same_outcome journal version e (All-head (IsRecorded version) e range recorded))
    ∙ ap (λ (others : List Outcome). outcome_of journal e ∷ others) (same_outcomes journal version range (All-tail (IsRecorded version) e range recorded))

pub ranges_follow : (journal range : List Entry) (first version : ℕ) → range ≡ take (length range) (drop first journal) → All (IsRecorded version) range
    → outcomes_to journal first ++ map (outcome_under (config_at journal version)) range ≡ outcomes_to journal (first + length range)
ranges_follow journal range first version is recorded =
    ap (λ (others : List Outcome). outcomes_to journal first ++ others)
    (same_outcomes journal version range recorded ∙ ap (map (outcome_of journal)) is)
    ∙ sym (map-append (outcome_of journal) (take first journal) (take (length range) (drop first journal)))
    ∙ ap (map (outcome_of journal)) (sym (take_both journal first (length range)))
