use Rattle.std.proofs.Common.{◌≡◌, ◌<◌, ℕ, true, false, List, [], ◌∷◌, ◌++◌, length, map, Ok, sym, ap, subst, ◌∙◌, arith}
use Rattle.std.proofs.lemmas.Result.{err_from_is_err_and}
use Rattle.gl_base.specs.Bytes.{next_is, behind_first}
use Rattle.gl_json.specs.Grammar.{Pair, IsMember, IsValue}
use Rattle.gl_json.specs.JsonReading.{Read, trimmed, elements_at, member_at, value_at}
use Rattle.gl_json.specs.Views.{pair_view}
use Rattle.gl_json.proofs.ElementRead.{Collecting, collect_starts, collect_none, collect_stop, collect_parted, collect_ends, collect_goes, left_shorter}
use Rattle.gl_json.proofs.ValueRead.{member_sound, value_sound}
use Rattle.gl_json.proofs.Whole.{map_more}
use Rattle.gl_json.proofs.read.members_at.Goals as goal

pub returns-then-next_is : goal.returns-then-next_is
returns-then-next_is c =
    let same = c.trimmed-rest.ensures in
    let here : next_is 125 (trimmed c.args.bytes.now) ≡ true = ap (next_is 125) (sym same) ∙ sym c.next_is.ensures ∙ c.if-next_is.true in
    collect_none (member_at (value_at c.args.levels)) 125 c.args.bytes.now here
    ∙ ap (λ (l : List ℕ). (let r : Read (List Pair) = Ok ([], l) in r)) (ap behind_first (sym same) ∙ sym c.behind_first.ensures)
    ∙ ap (λ (ms : List Pair). (let r : Read (List Pair) = Ok (ms, c.behind_first.result.now) in r)) (sym (ap (map pair_view) c.new.ensures.items))

pub loop-members-init : goal.loop-members-init
loop-members-init c =
    let same = c.trimmed-rest.ensures in
    let none : next_is 125 (trimmed c.args.bytes.now) ≡ false = ap (next_is 125) (sym same) ∙ sym c.next_is.ensures ∙ c.if-next_is.false in
    subst (λ (ms : List Pair). Collecting (member_at (value_at c.args.levels)) 125 (elements_at (member_at (value_at c.args.levels)) 125 c.args.bytes.now) ms c.trimmed-rest.result.now) (sym (ap (map pair_view) c.in_ok-members.ensures.items))
    (subst (Collecting (member_at (value_at c.args.levels)) 125 (elements_at (member_at (value_at c.args.levels)) 125 c.args.bytes.now) []) (sym same) (collect_starts (member_at (value_at c.args.levels)) 125 c.args.bytes.now none))

pub returns-in_err-member : goal.returns-in_err-member
returns-in_err-member c =
    let p = err_from_is_err_and c.from_residual-in_err-member.result c.from_residual-in_err-member.ensures.1 in
    rw (p.1, p.2) (collect_stop (member_at (value_at c.args.levels)) 125 (elements_at (member_at (value_at c.args.levels)) 125 c.args.bytes.now) (map pair_view c.loop-members.members.items) c.loop-members.rest.now c.in_err-member.field-0.0 c.loop-members.invariant c.in_err-member.ensures)

pub returns-in_err-more : goal.returns-in_err-more
returns-in_err-more c =
    let p = err_from_is_err_and c.from_residual-in_err-more.result c.from_residual-in_err-more.ensures.1 in
    rw (p.1, p.2) (collect_parted (member_at (value_at c.args.levels)) 125 (elements_at (member_at (value_at c.args.levels)) 125 c.args.bytes.now) (map pair_view c.loop-members.members.items) c.loop-members.rest.now (pair_view c.in_ok-member.member, c.in_ok-member.behind.now) c.in_err-more.field-0.0 c.loop-members.invariant c.in_ok-member.ensures c.in_err-more.ensures)

pub returns-then-not-more : goal.returns-then-not-more
returns-then-not-more c =
    let pushed : map pair_view c.push.new.self.items ≡ map pair_view c.loop-members.members.items ++ pair_view c.in_ok-member.member ∷ [] =
    ap (map pair_view) c.in_ok-push.ensures.items ∙ map_more c.loop-members.members.items c.in_ok-member.member in
    collect_ends (member_at (value_at c.args.levels)) 125 (elements_at (member_at (value_at c.args.levels)) 125 c.args.bytes.now) (map pair_view c.loop-members.members.items) c.loop-members.rest.now (pair_view c.in_ok-member.member, c.in_ok-member.behind.now) (c.in_ok-more.more, c.in_ok-more.behind.now) c.loop-members.invariant c.in_ok-member.ensures c.in_ok-more.ensures (grind arith)
    ∙ ap (λ (ms : List Pair). (let r : Read (List Pair) = Ok (ms, c.in_ok-more.behind.now) in r)) (sym pushed)

pub loop-members-smaller : goal.loop-members-smaller
loop-members-smaller c =
    subst (λ (l : List ℕ). length l < length c.loop-members.rest.now) (sym c.trimmed-rest-in-loop-members.ensures)
    (left_shorter (member_at (value_at c.args.levels)) (IsMember (IsValue c.args.levels)) 125 c.loop-members.rest.now (pair_view c.in_ok-member.member, c.in_ok-member.behind.now) (c.in_ok-more.more, c.in_ok-more.behind.now) (member_sound (value_at c.args.levels) (IsValue c.args.levels) (value_sound c.args.levels)) c.in_ok-member.ensures c.in_ok-more.ensures)

pub loop-members-preserved : goal.loop-members-preserved
loop-members-preserved c =
    let pushed : map pair_view c.push.new.self.items ≡ map pair_view c.loop-members.members.items ++ pair_view c.in_ok-member.member ∷ [] =
    ap (map pair_view) c.in_ok-push.ensures.items ∙ map_more c.loop-members.members.items c.in_ok-member.member in
    subst (λ (ms : List Pair). Collecting (member_at (value_at c.args.levels)) 125 (elements_at (member_at (value_at c.args.levels)) 125 c.args.bytes.now) ms c.trimmed-rest-in-loop-members.result.now) (sym pushed)
    (subst (Collecting (member_at (value_at c.args.levels)) 125 (elements_at (member_at (value_at c.args.levels)) 125 c.args.bytes.now) (map pair_view c.loop-members.members.items ++ pair_view c.in_ok-member.member ∷ [])) (sym c.trimmed-rest-in-loop-members.ensures)
    (collect_goes (member_at (value_at c.args.levels)) (IsMember (IsValue c.args.levels)) 125 (elements_at (member_at (value_at c.args.levels)) 125 c.args.bytes.now) (map pair_view c.loop-members.members.items) c.loop-members.rest.now (pair_view c.in_ok-member.member, c.in_ok-member.behind.now) (c.in_ok-more.more, c.in_ok-more.behind.now) (member_sound (value_at c.args.levels) (IsValue c.args.levels) (value_sound c.args.levels)) c.loop-members.invariant c.in_ok-member.ensures c.in_ok-more.ensures (grind arith)))
