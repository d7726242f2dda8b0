use Rattle.std.proofs.Common.{◌≡◌, ◌<◌, ◌++◌, ◌∷◌, List, ℕ, length, not, sym, ap, ◌∙◌, rules, arith}
use Rattle.std.specs.List.{prefix_len}
use Rattle.std.specs.String.{string_bytes}
use Rattle.gl_syslogtext.specs.Data.{is_special}
use Rattle.gl_syslogprint.specs.Printing.{escaped}
use Rattle.gl_syslogprint.proofs.Escapes.{escape_cut, escape_none, written}
use Rattle.gl_syslogprint.proofs.print_data.push_escaped.Goals as goal

pub rest-preserved : goal.rest-preserved
rest-preserved c =
    let rest = c.rest.rest.now in
    let same : length c.as_bytes.result.now ≡ length rest = ap length c.as_bytes.ensures.value in
    let len : c.plain_len-len.result ≡ prefix_len (λ b. not (is_special b)) rest = c.plain_len-len.ensures.len ∙ ap (prefix_len (λ (b : ℕ). not (is_special b))) c.as_bytes.ensures.value in
    let within : c.plain_len-len.result < length rest = grind arith in
    let cut : escaped rest ≡ c.split_plain.result.0.now ++ 92 ∷ (c.cut.result.0.now ++ escaped c.cut.result.1.now) =
    rw (c.cut.ensures.before, c.cut.ensures.behind, c.split_plain.ensures.behind, c.split_plain.ensures.plain) (escape_cut rest c.plain_len-len.result len within) in
    record {
      written = rw (c.in_ok-push_str-3.ensures.bytes, c.in_ok-push_str-2.ensures.bytes, c.in_ok-push_str.ensures.bytes)
          (written (string_bytes c.args.out.now ++ escaped c.args.value.now) (string_bytes c.rest.out) c.split_plain.result.0.now c.cut.result.0.now (escaped c.cut.result.1.now) rest c.rest.invariant.written cut);
      utf8 = search rules;
    }

pub returns : goal.returns
returns c =
    let rest = c.rest.rest.now in
    let same : length c.as_bytes.result.now ≡ length rest = ap length c.as_bytes.ensures.value in
    let len : c.plain_len-len.result ≡ prefix_len (λ b. not (is_special b)) rest = c.plain_len-len.ensures.len ∙ ap (prefix_len (λ (b : ℕ). not (is_special b))) c.as_bytes.ensures.value in
    let all : c.plain_len-len.result ≡ length rest = grind arith in
    rw c.in_ok-push_str-4.ensures.bytes (ap (λ (x : List ℕ). string_bytes c.rest.out ++ x) (sym (escape_none rest c.plain_len-len.result len all)) ∙ c.rest.invariant.written)
