-- What a command leaves from its opening on.
use Rattle.std.specs.Prelude.{◌≡◌, ◌⊎◌, ℕ, List, [], take, Option, IfSome, ⊤}
use Rattle.std.specs.Io.KnownBytes.{Appends}
use Rattle.std.proofs.Common.{zero, suc, refl, ◌∙◌, sym, subst, arith, inl, inr, ⊎_elim}
use Rattle.gl_outside.specs.Disk.{Image, DiskState, IsUnchanged, LeavesOnly}
use Rattle.gl_outside.proofs.Moments.{at_end, started, then as joined, weaker}
use Rattle.gl_gatelog.specs.declared.kind.Log.{Log}
use Rattle.gl_node.specs.declared.node.Options.{Options}
use Rattle.gl_node.specs.Moments.{LeftBy, LeftSince}
use Rattle.gl_node.specs.Standing.{HasLimits, StandsFor}
use Rattle.gl_node.specs.State.{Base, Event, State, opened, state_after}
use Rattle.gl_cli.specs.declared.status.Command.{Command}
use Rattle.gl_cli.specs.declared.status.Command.TheVariants as asked
use Rattle.gl_cli.specs.declared.status.Status.{Status}
use Rattle.gl_cli.specs.declared.status.Status.TheVariants.{Done, Usage, SinkFault, DiskFault, Damaged, OutOfMemory, SourceFault, BadScript, PatternFault, ScriptTooLong}
use Rattle.gl_cli.specs.Crashes.{ExitShows, IsUntouched, ShownAt, next_turn}
use Rattle.gl_cli.specs.Ends.{AnsweredAll, IsCheckStatus, CheckEnd, CommandEnd, OfEvents, WroteLine, check_text}
use Rattle.gl_cli.specs.Runs.{all_events, script_turns}
use Rattle.gl_cli.specs.Statuses.{IsSinkStatus}
use Rattle.gl_cli.specs.Writing.{AppendsSome, BeginsWith}
use Rattle.gl_cli.proofs.Exits.{unanswered, IsOther}
use Rattle.gl_cli.proofs.Moments.{told_none}
use Rattle.gl_cli.proofs.Openings.{IfSome-any, ends_unread}
use Rattle.gl_cli.proofs.Sinks.{Appends-nothing}

-- any opening with these limits
pub any_base : Options → Base
any_base options = record {
  journal = [];
  found = [];
  journal_bytes = 0;
  index_bytes = 0;
  journal_limit = options.journal_limit;
  index_limit = options.index_limit;
  journal_segment = 0;
  index_segment = 0;
}

pub any_limits : (options : Options) → HasLimits options (any_base options)
unfolding any_base
any_limits options = record { journal = refl; index = refl }

take_none : {X : Type 0} (n : ℕ) → take {A = X} n [] ≡ []
take_none zero = refl
take_none (suc n) = refl

-- no event has happened
pub stands_first : (s : State) (d : DiskState) (c : Image) → LeftBy s [] d c → StandsFor c s
stands_first s d c after = subst (λ (events : List Event). StandsFor c (state_after s events)) (take_none after.steps.count) after.steps.stands

pub since_more : (s : State) (events : List Event) (d : DiskState) (c : Image) → LeftSince s [] d c → LeftSince s events d c
since_more s events d c (inl was) = inl was
since_more s events d c (inr after) = inr (record {
  from = after.from;
  image = after.image;
  steps = record { elsewhere = after.steps.elsewhere; count = 0; few = omega arith; stands = stands_first s d c after };
})

pub shown_first : (base : Base) (script : List ℕ) (sink : Option (List ℕ)) (c : Image) → StandsFor c (opened base) → ShownAt base script sink sink c
shown_first base script sink c stands = record {
  answered = [];
  ahead = script_turns base [] script;
  all = refl;
  written = [];
  gained = Appends-nothing sink;
  begins = (_, refl);
  count = 0;
  few = omega arith;
  told = told_none (next_turn (script_turns base [] script));
  stands = stands;
}

-- a store that wasn't opened: what it left, and what there is at the exit
module _ (base : Base) (d0 d1 : DiskState) (run : LeavesOnly d0 d1 (LeftSince (opened base) [] d0)) where
  pub unopened_moments : (left : Option (List ℕ)) → IfSome left (λ script. LeavesOnly d0 d1 (LeftSince (opened base) (all_events (script_turns base [] script)) d0))
  unopened_moments left = IfSome-any left (λ script.
      weaker d0 d1 (LeftSince (opened base) [] d0) (LeftSince (opened base) (all_events (script_turns base [] script)) d0) run (λ c. since_more (opened base) (all_events (script_turns base [] script)) d0 c))

  -- and a session behind the opening
  since_then : (events : List Event) (d2 : DiskState) (c : Image) → LeftBy (opened base) events d1 c → LeftSince (opened base) events d0 c
  since_then events d2 c after = ⊎_elim
      (λ (was : d0.may_leave after.from). inr (record { from = after.from; image = was; steps = after.steps }))
      (λ (before : LeftBy (opened base) [] d0 after.from). inr (record {
        from = before.from;
        image = before.image;
        steps = record {
          elsewhere = λ b journal index. after.steps.elsewhere b journal index ∙ before.steps.elsewhere b journal index;
          count = after.steps.count;
          few = after.steps.few;
          stands = after.steps.stands;
        };
      }))
      (at_end d0 d1 (LeftSince (opened base) [] d0) run after.from after.image)

  pub then_moments : (events : List Event) (d2 : DiskState) → LeavesOnly d1 d2 (LeftBy (opened base) events d1) → LeavesOnly d0 d2 (LeftSince (opened base) events d0)
  then_moments events d2 second = joined d0 d1 d2 (LeftSince (opened base) [] d0) (LeftBy (opened base) events d1) (LeftSince (opened base) events d0) run second
      (λ c. since_more (opened base) events d0 c) (λ c. since_then events d2 c)

-- ---- `check`

pub check_unread : (base : Base) (sink : Option (List ℕ)) (status : Status) → IsOther status → CheckEnd base status sink sink
check_unread base sink status other = record { written = []; gained = Appends-nothing sink; wrote = wrote_other base status [] other (check_text (opened base), refl) }
  where
    wrote_other : (base : Base) (status : Status) (written : List ℕ) → IsOther status → BeginsWith (check_text (opened base)) written → WroteLine (opened base) status written
    wrote_other base Done written other begins = absurd other
    wrote_other base Usage written other begins = begins
    wrote_other base SourceFault written other begins = begins
    wrote_other base SinkFault written other begins = begins
    wrote_other base DiskFault written other begins = begins
    wrote_other base (BadScript line) written other begins = begins
    wrote_other base (Damaged log area at) written other begins = begins
    wrote_other base OutOfMemory written other begins = begins
    wrote_other base PatternFault written other begins = begins
    wrote_other base ScriptTooLong written other begins = begins

pub check_cut : (base : Base) (before after : Option (List ℕ)) (status : Status) → IsSinkStatus status → AppendsSome before after (check_text (opened base)) → CheckEnd base status before after
check_cut base before after status (inl e) some = record { written = some.0; gained = some.2; wrote = subst (λ (x : Status). WroteLine (opened base) x some.0) (sym e) some.1 }
check_cut base before after status (inr e) some = record { written = some.0; gained = some.2; wrote = subst (λ (x : Status). WroteLine (opened base) x some.0) (sym e) some.1 }

pub check_done : (base : Base) (before after : Option (List ℕ)) → Appends before after (check_text (opened base)) → CheckEnd base Done before after
check_done base before after gained = record { written = check_text (opened base); gained = gained; wrote = refl }

-- ---- a command that ended before it opened its store

pub ends_early : (command : Command) (base : Base) (left sink : Option (List ℕ)) (status : Status) → IsOther status → CommandEnd command base left status sink sink
ends_early asked.Usage base left sink status other = tt
ends_early (asked.Session store options) base left sink status other = IfSome-any left (λ script. ends_unread base script sink status other)
ends_early (asked.Check store options) base left sink status other = check_unread base sink status other

pub early_moments : (command : Command) (base : Base) (left : Option (List ℕ)) (d : DiskState) → OfEvents command base left (λ events. LeavesOnly d d (LeftSince (opened base) events d))
early_moments asked.Usage base left d = tt
early_moments (asked.Session store options) base left d = IfSome-any left (λ script. started d (LeftSince (opened base) (all_events (script_turns base [] script)) d) (λ c now. inl now))
early_moments (asked.Check store options) base left d = started d (LeftSince (opened base) [] d) (λ c now. inl now)

unchanged : (d : DiskState) → IsUnchanged d d
unchanged d = record { reads = refl; images = λ c now. now }

pub early_exit : (command : Command) (base : Base) (left sink : Option (List ℕ)) (d : DiskState) → ExitShows command base left sink sink d d
early_exit asked.Usage base left sink d = (unchanged d, Appends-nothing sink)
early_exit (asked.Session store options) base left sink d = IfSome-any left (λ script. inl (unchanged d, Appends-nothing sink))
early_exit (asked.Check store options) base left sink d = inl (unchanged d, Appends-nothing sink)

-- a store that wasn't opened, at the exit
pub unopened_exit : (base : Base) (d0 d1 : DiskState) (left sink : Option (List ℕ)) → IsUnchanged d0 d1 ⊎ ((c : Image) → d1.may_leave c → StandsFor c (opened base))
    → IfSome left (λ script. IsUntouched d0 d1 sink sink ⊎ ((c : Image) → d1.may_leave c → ShownAt base script sink sink c))
unopened_exit base d0 d1 left sink (inl same) = IfSome-any left (λ script. inl (same, Appends-nothing sink))
unopened_exit base d0 d1 left sink (inr stands) = IfSome-any left (λ script. inr (λ c now. shown_first base script sink c (stands c now)))

pub unchecked_exit : (base : Base) (d0 d1 : DiskState) (sink : Option (List ℕ)) (status : Status) → IsOther status → IsUnchanged d0 d1 ⊎ ((c : Image) → d1.may_leave c → StandsFor c (opened base))
    → (IsUntouched d0 d1 sink sink × (AnsweredAll status → ⊥)) ⊎ ((c : Image) → d1.may_leave c → StandsFor c (opened base))
unchecked_exit base d0 d1 sink status other (inl same) = inl ((same, Appends-nothing sink), unanswered status other)
unchecked_exit base d0 d1 sink status other (inr stands) = inr stands

-- the line of `check` wasn't written
abbrev AsSink : Status → Type 0
AsSink SinkFault = ⊤
AsSink OutOfMemory = ⊤
AsSink other = ⊥

pub sink_checks : (status : Status) → IsSinkStatus status → IsCheckStatus status
sink_checks status (inl e) = subst IsCheckStatus (sym e) tt
sink_checks status (inr e) = subst IsCheckStatus (sym e) tt

pub sink_undamaged : (status : Status) (log : Log) (area at : ℕ) → IsSinkStatus status → status ≡ Damaged log area at → ⊥
sink_undamaged status log area at (inl e) is = subst AsSink (sym e ∙ is) tt
sink_undamaged status log area at (inr e) is = subst AsSink (sym e ∙ is) tt
