-- What the code reads of a text at a time.
use Rattle.std.specs.Prelude.{Option, Some, None, option_map}
use Rattle.gl_grok.specs.declared.pieces.Reference.{Reference}
use Rattle.gl_grok.specs.Pieces.{Piece, byte, reference}

abbrev pub piece_of : Reference → Piece
piece_of r = reference r.name.now (option_map (λ s. s.now) r.field)

-- the reference that a `%` begins, or the `%` itself
abbrev pub at_percent : Option Reference → Piece
at_percent None = byte 37
at_percent (Some r) = piece_of r
