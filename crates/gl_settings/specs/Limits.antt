-- What a configuration has at most (this project).
use Rattle.std.specs.Prelude.{◌≡◌, ⊤, ℕ, max, List, [], ◌∷◌, length, map, nat_lt, Option, Some, None, option_map, if◌then◌else◌}
use Rattle.std.specs.List.{fold, find}
use Rattle.std.specs.Option.{option_or}
use Rattle.gl_settings.specs.declared.refusal.Bound.{Bound}
use Rattle.gl_settings.specs.declared.refusal.Bound.TheVariants.{Inputs, IndexSets, Streams, StreamRules, Rules, Pipelines, Lookups, Groks, Users, Extractors, Patterns, Connected}
use Rattle.gl_settings.specs.declared.refusal.ConfigRefusal.{ConfigRefusal}
use Rattle.gl_settings.specs.declared.refusal.ConfigRefusal.TheVariants.{Limit, Budget, OutOfMemory}
use Rattle.gl_settings.specs.Settings.{Settings}
use Rattle.gl_settings.specs.Patterns.{patterns_of, pattern_bytes}

-- the greatest of these numbers
abbrev pub most : List ℕ → ℕ
most numbers = fold max 0 numbers

-- Of each bound, how many there may be and how many there are, in the order in which they are looked at.
abbrev pub counted : Settings → List (Bound × ℕ × ℕ)
counted c =
    (Inputs, 32, length c.inputs)
    ∷ (IndexSets, 16, length c.sets)
    ∷ (Streams, 128, length c.streams)
    ∷ (StreamRules, 32, most (map (λ stream. length stream.rules) c.streams))
    ∷ (Rules, 256, length c.rules)
    ∷ (Pipelines, 64, length c.pipelines)
    ∷ (Lookups, 16, length c.lookups)
    ∷ (Groks, 128, length c.groks)
    ∷ (Users, 256, length c.users)
    ∷ (Extractors, 32, most (map (λ input. length input.extractors) c.inputs))
    ∷ []

-- those that are looked at behind these
abbrev pub counted_last : Settings → List (Bound × ℕ × ℕ)
counted_last c =
    (Patterns, 64, length (patterns_of c))
    ∷ (Connected, 64, most (map (λ connection. length connection.1) c.connections))
    ∷ []

-- the first of these bounds that is passed
abbrev pub first_passed : List (Bound × ℕ × ℕ) → Option ConfigRefusal
first_passed bounds = option_map (λ bound. Limit bound.0 bound.1) (find (λ bound. nat_lt bound.1 bound.2) bounds)

-- the bytes of all patterns are more than 65,536
abbrev pub budget_refusal : ℕ → Option ConfigRefusal
budget_refusal sum = if nat_lt 65536 sum then Some (Budget sum 65536) else None

-- why a configuration may not be: the first bound that it passes, and else the budget
abbrev pub limit_of : Settings → Option ConfigRefusal
limit_of c = option_or (first_passed (counted c)) (option_or (first_passed (counted_last c)) (budget_refusal (pattern_bytes c)))

-- a call is refused for this cause, or memory ran out
abbrev pub Refuses : Option ConfigRefusal → ConfigRefusal → Type 0
Refuses cause OutOfMemory = ⊤
Refuses cause refusal = cause ≡ Some refusal
