-- What a refusal tells.
use Rattle.std.specs.Prelude.{◌≡◌, ℕ, min, Option, Some}
use Rattle.gl_query.specs.declared.query.QueryRefusal.{QueryRefusal}
use Rattle.gl_query.specs.declared.query.QueryRefusal.TheVariants.{BadQuery}

-- the tokens are refused at a place, which is told, but never one behind 4,096
abbrev pub IsRefusedAt : QueryRefusal → Option ℕ → Type 0
IsRefusedAt e refused = (at : ℕ) × (refused ≡ Some at) × (e ≡ BadQuery (min at 4096))

-- the text is refused at the place that is told
abbrev pub TellsRefusal : QueryRefusal → Option ℕ → Type 0
TellsRefusal e refused = (at : ℕ) × (refused ≡ Some at) × (e ≡ BadQuery at)
