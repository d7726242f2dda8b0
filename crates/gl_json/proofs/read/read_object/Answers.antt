use Rattle.std.proofs.Common.{map}
use Rattle.gl_json.specs.Views.{pair_view}
use Rattle.gl_json.proofs.Formed.{formed_by}
use Rattle.gl_json.proofs.Whole.{found_by, only_by}
use Rattle.gl_json.proofs.read.read_object.Goals as goal

pub returns-clause-found : goal.returns-clause-found
returns-clause-found c = found_by (λ v. map pair_view v.items) c.args.text.now c.object_of.result c.object_of.ensures

pub returns-clause-only : goal.returns-clause-only
returns-clause-only c = λ ms is. only_by (λ v. map pair_view v.items) c.args.text.now c.object_of.result ms is c.object_of.ensures

pub returns-clause-formed : goal.returns-clause-formed
returns-clause-formed c = formed_by (λ v. v.items) c.args.text.now c.object_of.result c.object_of.ensures
