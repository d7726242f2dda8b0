use Rattle.std.proofs.Common.{◌≡◌, map, drop}
use Rattle.std.specs.List.{list_all}
use Rattle.httparse.specs.Spans.{header_bytes}
use Rattle.gl_http.specs.Fields.{is_alike}
use Rattle.gl_http.proofs.fields.are_alike.Given as goal

abbrev pub invariant-loop-header : goal.invariant-loop-header
invariant-loop-header l = list_all (is_alike l.name l.text) (map (header_bytes l.buf) l.headers) ≡ list_all (is_alike l.name l.text) (map (header_bytes l.buf) (drop l.header-index l.headers))
