use Rattle.std.proofs.Common.{ap}
use Rattle.gl_sight.specs.Sight.{Sight}
use Rattle.gl_api.specs.Search.{search_reply}
use Rattle.gl_api.proofs.Isolation.{isolated}
use Rattle.gl_api.proofs.laws.law_searches_are_isolated.Goals as goal

pub returns : goal.returns
returns c = record {
  sights = λ here there text same. ap (λ (seen : Sight). search_reply seen text) same;
  servers = λ here there live others text agree. isolated here there live others text agree;
}
