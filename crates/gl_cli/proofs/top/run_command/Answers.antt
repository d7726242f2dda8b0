use Rattle.std.proofs.Common.{sym, subst, ◌∙◌, inl, inr, ⊎_elim}
use Rattle.gl_outside.specs.Disk.{Image, LeavesOnly}
use Rattle.gl_node.specs.Moments.{LeftSince}
use Rattle.gl_node.specs.Standing.{HasLimits, StandsFor, base_of}
use Rattle.gl_node.specs.State.{opened, state_after}
use Rattle.gl_cli.specs.declared.status.Command.{Command}
use Rattle.gl_cli.specs.declared.status.Status.TheVariants.{OutOfMemory, Usage}
use Rattle.gl_cli.specs.Crashes.{ExitShows}
use Rattle.gl_cli.specs.Ends.{CommandEnd, OfEvents}
use Rattle.gl_cli.specs.Words.{command_for, options_of}
use Rattle.gl_cli.proofs.Openings.{check_no_session}
use Rattle.gl_cli.proofs.Starts.{any_base, any_limits, early_exit, early_moments, ends_early}
use Rattle.gl_cli.proofs.top.run_command.Goals as goal

pub returns-in-Err-clause-output : goal.returns-in-Err-clause-output
returns-in-Err-clause-output g c = (
  any_base (options_of (command_for c.args.words.now)),
  any_limits (options_of (command_for c.args.words.now)),
  ends_early (command_for c.args.words.now) (any_base (options_of (command_for c.args.words.now))) (g.S.Source.left c.args.source.now) (g.K.Sink.contents c.args.sink.now) OutOfMemory tt,
)

pub returns-in-Err-clause-opened : goal.returns-in-Err-clause-opened
returns-in-Err-clause-opened g c = λ tells journal found shown. ends_early (command_for c.args.words.now) (base_of (options_of (command_for c.args.words.now)) (g.D.Disk.state c.args.disk.now).reads journal found shown) (g.S.Source.left c.args.source.now) (g.K.Sink.contents c.args.sink.now) OutOfMemory tt

pub returns-in-Err-clause-at_exit : goal.returns-in-Err-clause-at_exit
returns-in-Err-clause-at_exit g c = λ tells journal found store. early_exit (command_for c.args.words.now) (base_of (options_of (command_for c.args.words.now)) (g.D.Disk.state c.args.disk.now).reads journal found store.shows) (g.S.Source.left c.args.source.now) (g.K.Sink.contents c.args.sink.now) (g.D.Disk.state c.args.disk.now)

pub returns-in-Err-clause-any_moment : goal.returns-in-Err-clause-any_moment
returns-in-Err-clause-any_moment g c = λ tells journal found store. early_moments (command_for c.args.words.now) (base_of (options_of (command_for c.args.words.now)) (g.D.Disk.state c.args.disk.now).reads journal found store.shows) (g.S.Source.left c.args.source.now) (g.D.Disk.state c.args.disk.now)

pub returns-in-Ok-Usage-clause-output : goal.returns-in-Ok-Usage-clause-output
returns-in-Ok-Usage-clause-output g c = (
  any_base (options_of (command_for c.args.words.now)),
  any_limits (options_of (command_for c.args.words.now)),
  ends_early (command_for c.args.words.now) (any_base (options_of (command_for c.args.words.now))) (g.S.Source.left c.args.source.now) (g.K.Sink.contents c.args.sink.now) Usage tt,
)

pub returns-in-Ok-Usage-clause-opened : goal.returns-in-Ok-Usage-clause-opened
returns-in-Ok-Usage-clause-opened g c = λ tells journal found shown. ends_early (command_for c.args.words.now) (base_of (options_of (command_for c.args.words.now)) (g.D.Disk.state c.args.disk.now).reads journal found shown) (g.S.Source.left c.args.source.now) (g.K.Sink.contents c.args.sink.now) Usage tt

pub returns-in-Ok-Usage-clause-at_exit : goal.returns-in-Ok-Usage-clause-at_exit
returns-in-Ok-Usage-clause-at_exit g c = λ tells journal found store. early_exit (command_for c.args.words.now) (base_of (options_of (command_for c.args.words.now)) (g.D.Disk.state c.args.disk.now).reads journal found store.shows) (g.S.Source.left c.args.source.now) (g.K.Sink.contents c.args.sink.now) (g.D.Disk.state c.args.disk.now)

pub returns-in-Ok-Usage-clause-any_moment : goal.returns-in-Ok-Usage-clause-any_moment
returns-in-Ok-Usage-clause-any_moment g c = λ tells journal found store. early_moments (command_for c.args.words.now) (base_of (options_of (command_for c.args.words.now)) (g.D.Disk.state c.args.disk.now).reads journal found store.shows) (g.S.Source.left c.args.source.now) (g.D.Disk.state c.args.disk.now)

pub returns-in-Ok-Session-clause-output : goal.returns-in-Ok-Session-clause-output
returns-in-Ok-Session-clause-output g c = (
  c.run_session.ensures.output.0,
  subst (λ (command : Command). HasLimits (options_of command) c.run_session.ensures.output.0) (sym c.in-Ok-Session.field-0-is ∙ c.in-Ok-Session.ensures.command) c.run_session.ensures.output.1,
  subst (λ (command : Command). CommandEnd command c.run_session.ensures.output.0 (g.S.Source.left c.args.source.now) c.run_session.result (g.K.Sink.contents c.args.sink.now) (g.K.Sink.contents c.run_session.new.sink)) (sym c.in-Ok-Session.field-0-is ∙ c.in-Ok-Session.ensures.command) c.run_session.ensures.output.2,
)

pub returns-in-Ok-Session-clause-opened : goal.returns-in-Ok-Session-clause-opened
returns-in-Ok-Session-clause-opened g c = λ tells journal found shown.
    subst (λ (command : Command). CommandEnd command (base_of (options_of command) (g.D.Disk.state c.args.disk.now).reads journal found shown) (g.S.Source.left c.args.source.now) c.run_session.result (g.K.Sink.contents c.args.sink.now) (g.K.Sink.contents c.run_session.new.sink)) (sym c.in-Ok-Session.field-0-is ∙ c.in-Ok-Session.ensures.command)
    (c.run_session.ensures.opened tells journal found shown)

pub returns-in-Ok-Session-clause-shows : goal.returns-in-Ok-Session-clause-shows
returns-in-Ok-Session-clause-shows g c = λ tells journal found store all.
    subst (λ (command : Command). OfEvents command (base_of (options_of command) (g.D.Disk.state c.args.disk.now).reads journal found store.shows) (g.S.Source.left c.args.source.now)
    (λ events. (image : Image) → (g.D.Disk.state c.run_session.new.disk).may_leave image → StandsFor image (state_after (opened (base_of (options_of command) (g.D.Disk.state c.args.disk.now).reads journal found store.shows)) events))) (sym c.in-Ok-Session.field-0-is ∙ c.in-Ok-Session.ensures.command)
    (c.run_session.ensures.shows tells journal found store all)

pub returns-in-Ok-Session-clause-at_exit : goal.returns-in-Ok-Session-clause-at_exit
returns-in-Ok-Session-clause-at_exit g c = λ tells journal found store.
    subst (λ (command : Command). ExitShows command (base_of (options_of command) (g.D.Disk.state c.args.disk.now).reads journal found store.shows) (g.S.Source.left c.args.source.now) (g.K.Sink.contents c.args.sink.now) (g.K.Sink.contents c.run_session.new.sink) (g.D.Disk.state c.args.disk.now) (g.D.Disk.state c.run_session.new.disk)) (sym c.in-Ok-Session.field-0-is ∙ c.in-Ok-Session.ensures.command)
    (c.run_session.ensures.at_exit tells journal found store)

pub returns-in-Ok-Session-clause-any_moment : goal.returns-in-Ok-Session-clause-any_moment
returns-in-Ok-Session-clause-any_moment g c = λ tells journal found store.
    subst (λ (command : Command). OfEvents command (base_of (options_of command) (g.D.Disk.state c.args.disk.now).reads journal found store.shows) (g.S.Source.left c.args.source.now)
    (λ events. LeavesOnly (g.D.Disk.state c.args.disk.now) (g.D.Disk.state c.run_session.new.disk) (LeftSince (opened (base_of (options_of command) (g.D.Disk.state c.args.disk.now).reads journal found store.shows)) events (g.D.Disk.state c.args.disk.now)))) (sym c.in-Ok-Session.field-0-is ∙ c.in-Ok-Session.ensures.command)
    (c.run_session.ensures.any_moment tells journal found store)

pub returns-clause-output : goal.returns-clause-output
returns-clause-output g c = (
  c.run_check.ensures.output.0,
  subst (λ (command : Command). HasLimits (options_of command) c.run_check.ensures.output.0) (sym c.in-Ok-Check.field-0-is ∙ c.in-Ok-Check.ensures.command) c.run_check.ensures.output.1,
  subst (λ (command : Command). CommandEnd command c.run_check.ensures.output.0 (g.S.Source.left c.args.source.now) c.run_check.result (g.K.Sink.contents c.args.sink.now) (g.K.Sink.contents c.run_check.new.sink)) (sym c.in-Ok-Check.field-0-is ∙ c.in-Ok-Check.ensures.command) c.run_check.ensures.output.2,
)

pub returns-clause-opened : goal.returns-clause-opened
returns-clause-opened g c = λ tells journal found shown.
    subst (λ (command : Command). CommandEnd command (base_of (options_of command) (g.D.Disk.state c.args.disk.now).reads journal found shown) (g.S.Source.left c.args.source.now) c.run_check.result (g.K.Sink.contents c.args.sink.now) (g.K.Sink.contents c.run_check.new.sink)) (sym c.in-Ok-Check.field-0-is ∙ c.in-Ok-Check.ensures.command)
    (c.run_check.ensures.opened tells journal found shown)

pub returns-clause-shows : goal.returns-clause-shows
returns-clause-shows g c = λ tells journal found store all.
    subst (λ (command : Command). OfEvents command (base_of (options_of command) (g.D.Disk.state c.args.disk.now).reads journal found store.shows) (g.S.Source.left c.args.source.now)
    (λ events. (image : Image) → (g.D.Disk.state c.run_check.new.disk).may_leave image → StandsFor image (state_after (opened (base_of (options_of command) (g.D.Disk.state c.args.disk.now).reads journal found store.shows)) events))) (sym c.in-Ok-Check.field-0-is ∙ c.in-Ok-Check.ensures.command)
    (λ image now. ⊎_elim (λ none. absurd (none.1 all)) (λ stands. stands image now) (c.run_check.ensures.at_exit tells journal found store))

pub returns-clause-at_exit : goal.returns-clause-at_exit
returns-clause-at_exit g c = λ tells journal found store.
    subst (λ (command : Command). ExitShows command (base_of (options_of command) (g.D.Disk.state c.args.disk.now).reads journal found store.shows) (g.S.Source.left c.args.source.now) (g.K.Sink.contents c.args.sink.now) (g.K.Sink.contents c.run_check.new.sink) (g.D.Disk.state c.args.disk.now) (g.D.Disk.state c.run_check.new.disk)) (sym c.in-Ok-Check.field-0-is ∙ c.in-Ok-Check.ensures.command)
    (⊎_elim (λ none. inl none.0) (λ stands. inr stands) (c.run_check.ensures.at_exit tells journal found store))

pub returns-clause-any_moment : goal.returns-clause-any_moment
returns-clause-any_moment g c = λ tells journal found store.
    subst (λ (command : Command). OfEvents command (base_of (options_of command) (g.D.Disk.state c.args.disk.now).reads journal found store.shows) (g.S.Source.left c.args.source.now)
    (λ events. LeavesOnly (g.D.Disk.state c.args.disk.now) (g.D.Disk.state c.run_check.new.disk) (LeftSince (opened (base_of (options_of command) (g.D.Disk.state c.args.disk.now).reads journal found store.shows)) events (g.D.Disk.state c.args.disk.now)))) (sym c.in-Ok-Check.field-0-is ∙ c.in-Ok-Check.ensures.command)
    (c.run_check.ensures.any_moment tells journal found store)

pub returns-clause-script : goal.returns-clause-script
returns-clause-script g c = λ store options is.
    absurd (check_no_session _ store c.in-Ok-Check.options options (command_for c.args.words.now) (sym c.in-Ok-Check.field-0-is ∙ c.in-Ok-Check.ensures.command) is)
