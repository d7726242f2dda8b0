use Rattle.std.proofs.Common.{◌-◌, ℕ, List, length, take, drop, ap, ◌∙◌, map, arith}
use Rattle.std.specs.List.{list_any}
use Rattle.std.specs.Cow.{cow_str_bytes}
use Rattle.std.specs.Str.{bytes_eq}
use Rattle.gl_gelf.specs.Members.{are_last}
use Rattle.gl_gelf.specs.Parts.{named_view}
use Rattle.gl_gelf.proofs.Naming.{last_also, last_ends}
use Rattle.gl_gelf.proofs.members.few_are_last.Goals as goal

pub loop-rest-preserved : goal.loop-rest-preserved
loop-rest-preserved c =
    last_also c.loop-rest.rest.now c.member-item.result c.loop-rest.last.items c.push.new.self.items (are_last (map named_view c.args.members.now)) c.is_any_named.result (omega arith) c.member-item.is c.loop-rest.invariant
    (c.is_any_named.ensures ∙ ap (λ (l : List ℕ). list_any (λ n. bytes_eq (cow_str_bytes n.name) l) (take (length c.loop-rest.rest.now - 1) (drop 1 c.loop-rest.rest.now))) c.as_str.ensures.value)
    c.in_ok-push.ensures.items

pub returns : goal.returns
returns c = last_ends c.loop-rest.rest.now c.loop-rest.last.items (are_last (map named_view c.args.members.now)) (omega arith) c.loop-rest.invariant
