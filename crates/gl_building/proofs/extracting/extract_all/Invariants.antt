use Rattle.std.proofs.Common.{◌≡◌, take}
use Rattle.gl_grok.specs.Tables.{Table}
use Rattle.gl_building.specs.Places.{built_all}
use Rattle.gl_building.specs.Places.{extracted_all}
use Rattle.gl_building.proofs.extracting.extract_all.Given as goal

abbrev pub invariant-loop-i : goal.invariant-loop-i
invariant-loop-i l = record {
  fields : (groks : Table) → l.fn.built ≡ built_all groks l.extractors → l.fields ≡ extracted_all groks (take l.i l.extractors) l.fn.fields;
  same : l.built ≡ l.fn.built;
}
