-- The table that stands before any other pattern is named.
use Rattle.std.specs.Prelude.{[], ◌∷◌, codes}
use Rattle.gl_grok.specs.Tables.{Table}

abbrev pub initial : Table
initial =
    (codes "DATA", codes ".*?")
    ∷ (codes "GREEDYDATA", codes ".*")
    ∷ (codes "INT", codes "[+-]?[0-9]+")
    ∷ (codes "IPV4", codes "(?:[0-9]{1,3}[.]){3}[0-9]{1,3}")
    ∷ (codes "NOTSPACE", codes "[^ ]+")
    ∷ (codes "NUMBER", codes "[+-]?[0-9]+(?:[.][0-9]+)?")
    ∷ (codes "SPACE", codes "[ ]*")
    ∷ (codes "USER", codes "[a-zA-Z0-9._-]+")
    ∷ (codes "WORD", codes "[A-Za-z0-9_]+")
    ∷ []
