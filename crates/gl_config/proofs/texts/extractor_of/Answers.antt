use Rattle.gl_grok.specs.Tables.{table_of}
use Rattle.gl_config.proofs.Refusing.{exit}
use Rattle.gl_config.proofs.Extracting.{extractor_refused, kind_refused, extractor_made}
use Rattle.gl_config.proofs.texts.extractor_of.Goals as goal

pub returns-in-Err-clause-err : goal.returns-in-Err-clause-err
returns-in-Err-clause-err c = extractor_refused (table_of c.args.groks.now) c.args.parts.now _ c.in-Err.refusal c.in_ok-copy.ensures c.in-Err.ensures

pub returns-in_err-check_kind-clause-err : goal.returns-in_err-check_kind-clause-err
returns-in_err-check_kind-clause-err c =
    exit c.from_residual-in_err-check_kind.result c.in_err-check_kind.field-0.0 _ c.from_residual-in_err-check_kind.ensures.1
    (kind_refused (table_of c.args.groks.now) c.args.parts.now _ c.in-Ok.made c.in_err-check_kind.field-0.0 c.in_ok-copy.ensures c.in-Ok.ensures c.in_err-check_kind.ensures.err)

pub returns-clause-ok : goal.returns-clause-ok
returns-clause-ok c = extractor_made (table_of c.args.groks.now) c.args.parts.now _ c.in-Ok.made c.in_ok-copy.ensures c.in-Ok.ensures c.in_ok-check_kind.ensures.ok
