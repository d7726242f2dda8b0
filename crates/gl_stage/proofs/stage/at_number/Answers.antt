use Rattle.std.proofs.Common.{ℕ, List, Bor, ap, ◌∙◌}
use Rattle.std.proofs.lemmas.List.{map-append}
use Rattle.gl_functions.specs.Worlds.{known_of}
use Rattle.gl_stage.specs.Stages.{acted_all}
use Rattle.gl_stage.specs.Books.{rules_at}
use Rattle.gl_stage.specs.Lent.{names_now, pipelines_now, moving_of}
use Rattle.gl_stage.proofs.Looking.{number_done}
use Rattle.gl_stage.proofs.stage.at_number.Goals as goal

pub returns-clause-done : goal.returns-clause-done
returns-clause-done c =
    let world = known_of c.args.world.now in
    let m = moving_of c.args.moving.now in
    let looked = c.in_ok-looked.looked in
    number_done world c.args.rules.now c.look.new.rules (pipelines_now c.args.round.now) c.args.n m looked.held.items c.act_all.new.message (names_now c.append.new.self.items) (names_now looked.stops.items)
    c.in_ok-looked.ensures.same c.in_ok-looked.ensures.held c.in_ok-looked.ensures.stops
    (c.in_ok-act_all.ensures.done ∙ ap (λ (places : List ℕ). acted_all world (rules_at c.look.new.rules places) m.message) c.as_slice.ensures.value)
    (ap names_now c.in_ok-append.ensures.items ∙ map-append (λ (x : Bor (List ℕ)). x.now) c.args.moving.now.stopped.items looked.stops.items)
