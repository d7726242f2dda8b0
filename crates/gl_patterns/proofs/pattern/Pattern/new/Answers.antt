use Rattle.std.proofs.Common.{◌≡◌, ◌-◌, ◌*◌, ◌<◌, ◌^◌, true, vec_len, map, length, option_map, string_bytes, sym, subst, arith, rules}
use Rattle.std.proofs.lemmas.List.{length-map}
use Rattle.regex_meta.specs.declared.program.Program.{Program}
use Rattle.regex_syntax.specs.WellFormed.{IsWellFormed}
use Rattle.regex_syntax.specs.declared.Config.{Config}
use Rattle.regex.specs.Patterns.{Reads, default_config}
use Rattle.gl_patterns.specs.Built.{IsBuilt}
use Rattle.gl_patterns.proofs.Keeping.{made}
use Rattle.gl_patterns.proofs.Patterns.{pattern_is}
use Rattle.gl_patterns.proofs.pattern.Pattern.new.Goals as goal

pub returns-in-Err-clause-kind : goal.returns-in-Err-clause-kind
returns-in-Err-clause-kind c = c.refusal_of.ensures.kind _ _

pub invariant_of-result : goal.invariant_of-result
invariant_of-result c =
    let parsed = c.in-Ok.parsed in
    let names = map (option_map string_bytes) parsed.names.items in
    let program = c.in_ok-program.program in
    let hir_is = c.in_ok-program.ensures.pattern in
    let size : length names ≡ vec_len parsed.names = omega (arith, parsed.names.ok.0, length-map parsed.names.items (option_map string_bytes)) in
    let counted : c.in-Ok-try_from.groups ≡ vec_len parsed.names = search rules in
    let slots : program.dfa.nfa.slot_count ≡ 2 * length names = omega (arith, c.in_ok-program.ensures.slots, counted, size) in
    let width : length c.in_ok-cells.cells.items ≡ 2 * (length names - 1) = omega (arith, c.in_ok-cells.ensures.len, c.in_ok-cells.cells.ok.0, size) in
    let some : 0 < length names = omega (arith, c.in-Ok.ensures.group_zero.0, size) in
    let few : length names < 2 ^ 32 = omega (arith, counted, size) in
    let reads = subst (λ (config : Config). Reads config c.args.text.now parsed.hir names) c.default.ensures c.in-Ok.ensures.ok in
    let formed = subst (λ (config : Config). IsWellFormed config.utf8 parsed.hir) c.default.ensures c.in-Ok.ensures.formed in
    let built = made c.args.text.now names program (length c.in_ok-cells.cells.items) (subst (λ h. Reads default_config c.args.text.now h names) (sym hir_is) reads)
    (subst (IsWellFormed true) (sym hir_is) formed) slots width some few in
    subst (λ source. IsBuilt source names c.in_ok-engine.engine.program (length c.in_ok-cells.cells.items)) (sym c.in_ok-source.ensures.ok)
    (subst (λ (q : Program). IsBuilt c.args.text.now names q (length c.in_ok-cells.cells.items)) (sym c.in_ok-engine.ensures) built)

pub returns-clause-read : goal.returns-clause-read
returns-clause-read c = λ _.
    let parsed = c.in-Ok.parsed in
    let names = map (option_map string_bytes) parsed.names.items in
    pattern_is c.args.text.now parsed.hir names (subst (λ (config : Config). Reads config c.args.text.now parsed.hir names) c.default.ensures c.in-Ok.ensures.ok)
