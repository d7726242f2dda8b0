use Rattle.std.proofs.Common.{◌≡◌, drop}
use Rattle.gl_extract.specs.Converting.{converted_by}
use Rattle.gl_extract.proofs.convert.converted_by.Given as goal

abbrev pub invariant-loop-converter : goal.invariant-loop-converter
invariant-loop-converter l = converted_by (drop l.converter-index l.converters) l.value ≡ converted_by l.converters l.fn.value
