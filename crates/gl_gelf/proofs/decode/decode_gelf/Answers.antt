use Rattle.std.proofs.Common.{Vec, Global, map, sym, subst}
use Rattle.gl_gelf.proofs.Setting.{refusal_is}
use Rattle.gl_gelf.proofs.decode.decode_gelf.Goals as goal
use Rattle.std.specs.List.{All}
use Rattle.gl_json.specs.declared.value.Member.{Member}
use Rattle.gl_json.specs.Flattening.{IsFormedPair}
use Rattle.gl_json.specs.Views.{pair_view}

pub of_members-requires-clause-formed : goal.of_members-requires-clause-formed
of_members-requires-clause-formed c =
    subst (All (λ m. IsFormedPair 63 (pair_view m))) (sym c.as_slice.ensures.value) c.in-Ok.ensures.formed

pub refused-requires-clause-refused : goal.refused-requires-clause-refused
refused-requires-clause-refused c = refusal_is (λ (v : Vec Member Global). map pair_view v.items) c.args.bytes.now c.in-Err.refusal c.in-Err.ensures.place
