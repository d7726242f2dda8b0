use Rattle.std.proofs.Common.{◌≡◌, ℕ, ◌<◌, List, length, sym, ap, ◌∙◌, subst}
use Rattle.std.specs.List.{All}
use Rattle.std.proofs.lemmas.Result.{IfOk-weaker}
use Rattle.gl_fields.specs.declared.entry.Outcome.{Outcome}
use Rattle.gl_fields.specs.Bounds.{IsOutcome}
use Rattle.gl_fields.specs.Fields.{Rises}
use Rattle.gl_streams.specs.declared.stream.Stream.{Stream}
use Rattle.gl_streams.specs.Ids.{streams_of}
use Rattle.gl_functions.specs.Worlds.{known_of}
use Rattle.gl_stage.specs.Books.{Book, Fits}
use Rattle.gl_stage.specs.Rounds.{end_of, IsEnd}
use Rattle.gl_outcome.specs.Bounded.{HasMap}
use Rattle.gl_outcome.proofs.Meeting.{book_fits, end_under, both_hold}
use Rattle.gl_outcome.proofs.Few.{end_is_bounded}
use Rattle.gl_outcome.proofs.staging.route.Goals as goal

pub run_pipelines-requires : goal.run_pipelines-requires
run_pipelines-requires c = subst (λ (book : Book). All Fits book) (sym c.requires.rules) (book_fits c.args.built.now.parts.rules)

pub returns-clause-value : goal.returns-clause-value
returns-clause-value c =
    let parts = c.args.built.now.parts in
    let ids : c.from_vec.result ≡ streams_of parts.streams c.args.fields =
    c.from_vec.ensures ∙ c.in_ok-streams.ensures.value ∙ ap (λ (streams : List Stream). streams_of streams c.args.fields) c.streams.ensures in
    IfOk-weaker c.ended.result _ _
    (λ o h. end_under parts c.args.fields (known_of c.world_of.result) c.args.built.now.rules c.from_vec.result c.pipelines.result.now c.connections.result.now o
    c.world_of.ensures c.requires.rules ids c.pipelines.ensures c.connections.ensures (h ∙ c.in_ok-last.ensures.value)) c.ended.ensures.value

pub returns-clause-bounded : goal.returns-clause-bounded
returns-clause-bounded c =
    let parts = c.args.built.now.parts in
    let ids : c.from_vec.result ≡ streams_of parts.streams c.args.fields =
    c.from_vec.ensures ∙ c.in_ok-streams.ensures.value ∙ ap (λ (streams : List Stream). streams_of streams c.args.fields) c.streams.ensures in
    let some : 0 < length c.from_vec.result = subst (λ (l : List ℕ). 0 < length l) (sym ids) (c.law_streams_rise.ensures.some parts.streams c.args.fields) in
    let rising : Rises (λ (a b : ℕ). a < b) c.from_vec.result =
    subst (λ (l : List ℕ). Rises (λ (a b : ℕ). a < b) l) (sym ids) (c.law_streams_rise.ensures.rises parts.streams c.args.fields) in
    both_hold c.ended.result (λ (o : Outcome). o ≡ end_of c.in_ok-last.last) HasMap IsOutcome
    (λ o h map. end_is_bounded parts c.args.fields o c.requires.compilable
    (end_under parts c.args.fields (known_of c.world_of.result) c.args.built.now.rules c.from_vec.result c.pipelines.result.now c.connections.result.now o
    c.world_of.ensures c.requires.rules ids c.pipelines.ensures c.connections.ensures (h ∙ c.in_ok-last.ensures.value))
    (subst IsEnd (sym h) (c.in_ok-last.ensures.in_one some rising)) map) c.ended.ensures.value c.ended.ensures.map
