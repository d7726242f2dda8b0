use Rattle.std.proofs.Common.{rules, if◌then◌else◌, ◌≡◌, ◌+◌, false, List, [], ◌++◌, map, drop, length, get_or, refl, sym, ap, ◌∙◌, arith}
use Rattle.std.specs.List.{flat_map}
use Rattle.gl_fields.specs.declared.field.Field.{Field}
use Rattle.std.proofs.lemmas.Result.{err_from_is_err_and}
use Rattle.gl_gelf.specs.Parts.{named_view}
use Rattle.gl_gelf.specs.Members.{counted}
use Rattle.gl_gelf.specs.Parts.{put_all}
use Rattle.gl_gelf.specs.Decoding.{additional}
use Rattle.gl_gelf.proofs.Setting.{sets_err, set_ok, same_length, done_all, length_last, additional_step}
use Rattle.gl_gelf.proofs.decode.put_all_additional.Goals as goal

pub bounds-last-i : goal.bounds-last-i
bounds-last-i c = omega (arith, ap length c.requires.last, length_last (map named_view c.args.members.now), same_length c.args.members.now)

pub loop-i-preserved : goal.loop-i-preserved
loop-i-preserved c =
    sym (set_ok (if get_or c.args.last.now c.loop-i.i false then additional (named_view c.index-members-i.result) else []) (flat_map additional (counted (map named_view (drop (c.loop-i.i + 1) c.args.members.now)))) c.loop-i.fields c.put_counted.new.fields c.in_ok-put_counted.ensures)
    ∙ ap (λ (l : List Field). put_all l c.loop-i.fields) (sym (additional_step c.args.members.now c.loop-i.i c.index-members-i.result (get_or c.args.last.now c.loop-i.i false) c.args.last.now (search rules) c.index-members-i.is c.requires.last refl)) ∙ c.loop-i.invariant

pub returns-in_err-put_counted : goal.returns-in_err-put_counted
returns-in_err-put_counted c =
    let p = err_from_is_err_and c.from_residual.result c.from_residual.ensures.1 in
    let e : put_all ((if get_or c.args.last.now c.loop-i.i false then additional (named_view c.index-members-i.result) else []) ++ (flat_map additional (counted (map named_view (drop (c.loop-i.i + 1) c.args.members.now))))) c.loop-i.fields ≡ put_all (flat_map additional (counted (map named_view c.args.members.now))) c.args.fields.now =
    ap (λ (l : List Field). put_all l c.loop-i.fields) (sym (additional_step c.args.members.now c.loop-i.i c.index-members-i.result (get_or c.args.last.now c.loop-i.i false) c.args.last.now (search rules) c.index-members-i.is c.requires.last refl)) ∙ c.loop-i.invariant in
    rw (p.1, p.2) (rw (← e) (sets_err (if get_or c.args.last.now c.loop-i.i false then additional (named_view c.index-members-i.result) else []) (flat_map additional (counted (map named_view (drop (c.loop-i.i + 1) c.args.members.now)))) c.loop-i.fields c.put_counted.new.fields c.put_counted.new.fields c.in_err-put_counted.field-0.0 c.in_err-put_counted.ensures))

pub returns : goal.returns
returns c = sym c.loop-i.invariant ∙ done_all c.args.members.now c.loop-i.i c.loop-i.fields (omega arith)
