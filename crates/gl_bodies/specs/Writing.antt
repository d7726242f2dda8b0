-- What stands in a body that is being written.
use Rattle.std.specs.Prelude.{◌≡◌, List, [], ◌∷◌, ◌++◌, Result, OnOk}
use Rattle.json.specs.Token.{Token, key, begin_object}
use Rattle.json.specs.Tree.{json_tokens}
use Rattle.json.specs.Written.{Written}
use Rattle.serde_json.specs.Written.{outline}
use Rattle.serde_json.specs.Data.{Data}
use Rattle.gl_bodies.specs.Json.{Member}

abbrev pub tokens_of : List Member → List Token
tokens_of [] = []
tokens_of (m ∷ ms) = key m.0 ∷ (json_tokens (outline m.1) ++ tokens_of ms)

-- the first members of an object, and nothing before it
abbrev pub Has : Written → List Member → Type 0
Has written members = (written.before ≡ []) × (written.tokens ≡ begin_object ∷ tokens_of members)

-- these tokens stand behind what stood there
abbrev pub Adds : Written → Written → List Token → Type 0
Adds old new tokens = (new.before ≡ old.before) × (new.tokens ≡ old.tokens ++ tokens)

abbrev pub AddsData : {T E : Type 0} → Result T E → Written → Written → Data → Type 0
AddsData r old new d = OnOk r (Adds old new (json_tokens (outline d)))

-- a member more
abbrev pub AddsMember : {T E : Type 0} → Result T E → Written → Written → Member → Type 0
AddsMember r old new m = (members : List Member) → Has old members → OnOk r (Has new (members ++ m ∷ []))
