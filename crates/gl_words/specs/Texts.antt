-- Which tokens stand in which fields.
use Rattle.std.specs.Prelude.{ℕ, Bool, ◌&&◌, nat_lt, length, List, [], ◌∷◌, if◌then◌else◌}
use Rattle.std.specs.List.{list_any}
use Rattle.std.specs.Str.{bytes_eq}
use Rattle.gl_fields.specs.declared.field.Field.{Field}
use Rattle.gl_query.specs.Required.{has_token, lower_tokens}

-- a text in a field of this name has the token
abbrev pub text_has : List ℕ → List ℕ → List ℕ → List ℕ → Bool
text_has name text field token = bytes_eq name field && list_any (bytes_eq token) (lower_tokens text)

-- a field has this name and the token
abbrev pub field_has : Field → List ℕ → List ℕ → Bool
field_has own field token = bytes_eq own.name field && has_token token own.value

-- one of these fields has this name and the token
abbrev pub some_has : List Field → List ℕ → List ℕ → Bool
some_has fields field token = list_any (λ own. field_has own field token) fields

-- of two lists the one that is shorter, and the first where both are as long
abbrev pub shorter : List ℕ → List ℕ → List ℕ
shorter one other = if nat_lt (length other) (length one) then other else one
