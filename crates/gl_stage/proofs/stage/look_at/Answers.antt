use Rattle.std.proofs.Common.{◌≡◌, Some, None, sym, ap, ◌∙◌}
use Rattle.std.specs.Prelude.{slice_get}
use Rattle.gl_functions.specs.Worlds.{known_of}
use Rattle.gl_stage.specs.Stages.{holds_of, rule_named}
use Rattle.gl_stage.specs.Books.{Book, rules_in, scene_of}
use Rattle.gl_stage.proofs.Walking.{not_there, is_there, within_book, rule_at, put_back, looks_past, looks_held, looks_unheld, looks_as}
use Rattle.gl_stage.proofs.stage.look_at.Goals as goal
use Rattle.gl_stage.proofs.stage.look_at.Goals.{then-branch+in_ok-push, else-branch}

pub loop-name-preserved-in_default : goal.loop-name-preserved-in_default
loop-name-preserved-in_default c =
    let l = c.loop-name in
    let book = c.args.rules.now in
    let name = c.name-item.result in
    let missing : rule_named (rules_in book) name ≡ None = ap (λ (b : Book). rule_named (rules_in b) name) (sym l.invariant.same) ∙ not_there l.rules name (sym c.in_default.ensures) in
    record {
      looks =
          looks_past book (holds_of (scene_of (known_of c.args.world.now) book) c.args.message.now) c.as_slice-name-items.result.now l.name-index name c.args.held.now.items l.held.items l.each l.one
          c.loop-name-test.true c.name-item.is missing l.invariant.looks;
      same = l.invariant.same;
    }

pub loop-name-preserved : goal.loop-name-preserved
loop-name-preserved c =
    let l = c.loop-name in
    let book = c.args.rules.now in
    let names = c.as_slice-name-items.result.now in
    let name = c.name-item.result in
    let kept = c.index-rules-place.result in
    let holds = holds_of (scene_of (known_of c.args.world.now) book) c.args.message.now in
    let there : rule_named (rules_in book) name ≡ Some kept.0 =
    ap (λ (b : Book). rule_named (rules_in b) name) (sym l.invariant.same) ∙ is_there l.rules name c.in-Some.place kept (sym c.in-Some.ensures) c.index-rules-place.is in
    let placed : slice_get (rules_in book) c.in-Some.place ≡ Some kept.0 =
    ap (λ (b : Book). slice_get (rules_in b) c.in-Some.place) (sym l.invariant.same)
    ∙ rule_at l.rules c.in-Some.place kept (within_book l.rules name c.in-Some.place kept (sym c.in-Some.ensures)) c.index-rules-place.is in
    let same = put_back book l.rules c.in-Some.place kept c.rule_holds.new.kept l.invariant.same c.index-rules-place.is (c.in_ok-rule_holds.ensures.same ∙ sym c.index-rules-place.is) in
    let value : holds kept.0 ≡ c.in_ok-rule_holds.field-0 = ap (λ k. holds k.0) c.index-rules-place.is ∙ sym c.in_ok-rule_holds.ensures.value in
    elim c.if-branch.branch [
      | then-branch+in_ok-push w ↦ record {
        looks =
            looks_as book holds c.if-branch.held.items c.if-branch.each c.if-branch.one (ap (λ v. v.items) w.held-is ∙ w.in_ok-push.ensures.items) w.each-is w.one-is
            (looks_held book holds names l.name-index name kept.0 c.in-Some.place c.args.held.now.items l.held.items l.each l.one
            c.loop-name-test.true c.name-item.is there placed (value ∙ w.if-branch.true) l.invariant.looks);
        same = same;
      }
      | else-branch w ↦ record {
        looks =
            looks_as book holds c.if-branch.held.items c.if-branch.each c.if-branch.one (ap (λ v. v.items) w.held-is) w.each-is w.one-is
            (looks_unheld book holds names l.name-index name kept.0 c.args.held.now.items l.held.items l.each l.one
            c.loop-name-test.true c.name-item.is there (value ∙ w.if-branch.false) l.invariant.looks);
        same = same;
      }
    ]
