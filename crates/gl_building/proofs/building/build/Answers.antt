use Rattle.std.specs.Prelude.{Err}
use Rattle.std.proofs.Common.{◌∙◌, ap}
use Rattle.gl_outside.specs.declared.fault.Outside.{Outside}
use Rattle.gl_building.proofs.Causes.{one_built, one_refused, one_unbuilt}
use Rattle.gl_building.proofs.building.build.Goals as goal

pub returns-in-Ok-clause-builds : goal.returns-in-Ok-clause-builds
returns-in-Ok-clause-builds g c =
    one_built c.args.text.now c.as_str.result.now _ _ _ _ c.build.result c.as_str.ensures c.build.ensures.cause c.build.ensures.refused _ _ c.in-Ok.is c.build.ensures.read

pub returns-in-Err-Failed-clause-builds : goal.returns-in-Err-Failed-clause-builds
returns-in-Err-Failed-clause-builds g c =
    one_refused c.args.text.now c.as_str.result.now _ _ _ _ c.build.result c.as_str.ensures c.build.ensures.cause c.build.ensures.refused (c.in-Err-Failed.is ∙ ap (λ (f : Outside). Err f) c.in-Err-Failed.field-0-is)

pub returns-in-Err-OutOfMemory-clause-builds : goal.returns-in-Err-OutOfMemory-clause-builds
returns-in-Err-OutOfMemory-clause-builds g c =
    one_unbuilt c.args.text.now c.as_str.result.now _ _ _ _ c.build.result c.as_str.ensures c.build.ensures.cause c.build.ensures.refused (c.in-Err-OutOfMemory.is ∙ ap (λ (f : Outside). Err f) c.in-Err-OutOfMemory.field-0-is)
