-- What contracts see of the fields of a reader.
use Rattle.gl_lines.specs.declared.line_frames.LineFrames.TheInside.{Inside}
use Rattle.gl_lines.specs.Reader.{ReaderView}
use Rattle.gl_lines.specs.Fronts.{IsFront, view_of}

abbrev pub reader_of : Inside → ReaderView
reader_of r = view_of r.counts r.front

abbrev pub IsReader : Inside → Type 0
IsReader r = IsFront r.counts r.front
