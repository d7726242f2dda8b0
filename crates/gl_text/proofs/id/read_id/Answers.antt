use Rattle.std.proofs.Common.{◌≡◌, ◌∙◌, rules, true, length}
use Rattle.std.specs.List.{list_all}
use Rattle.gl_text.specs.Ids.{is_hex_digit}
use Rattle.gl_text.proofs.Ids.{read_id-parsed}
use Rattle.gl_text.proofs.id.read_id.Goals as goal

pub returns : goal.returns
returns c =
    let long : length c.args.text.now ≡ 24 = search rules in
    let spelled : list_all is_hex_digit c.args.text.now ≡ true = search rules in
    c.ok.ensures.value ∙ read_id-parsed c.args.text.now c.from_str_radix.result long spelled c.from_str_radix.ensures.value
