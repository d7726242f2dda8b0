use Rattle.std.proofs.Common.{◌≡◌, map, drop}
use Rattle.httparse.specs.Spans.{header_bytes}
use Rattle.gl_http.specs.Fields.{first_value}
use Rattle.gl_http.proofs.fields.first_value.Given as goal

abbrev pub invariant-loop-header : goal.invariant-loop-header
invariant-loop-header l = first_value l.name (map (header_bytes l.buf) l.headers) ≡ first_value l.name (map (header_bytes l.buf) (drop l.header-index l.headers))
