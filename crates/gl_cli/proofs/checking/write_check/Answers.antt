use Rattle.std.specs.Prelude.{ℕ, List, [], ◌∷◌, length, codes}
use Rattle.std.specs.Fmt.{decimal}
use Rattle.std.proofs.Common.{◌≡◌, ◌∙◌, ap, subst}
use Rattle.std.specs.Io.KnownBytes.{Appends}
use Rattle.gl_fields.specs.Entries.{version_after}
use Rattle.gl_node.specs.State.{State, commit_count}
use Rattle.gl_cli.specs.Answers.{words_text}
use Rattle.gl_cli.specs.Ends.{check_text}
use Rattle.gl_cli.specs.Writing.{AppendsSome}
use Rattle.gl_cli.proofs.Sinks.{OnErr-from}
use Rattle.gl_cli.proofs.checking.write_check.Goals as goal

-- the line says what the node has
line_is : (s : State) (journalled committed version : ℕ) → journalled ≡ length s.journal → committed ≡ commit_count s → version ≡ version_after s.journal
    → words_text (codes "check" ∷ codes "journal" ∷ decimal journalled ∷ codes "committed" ∷ decimal committed ∷ codes "version" ∷ decimal version ∷ []) ≡ check_text s
line_is s journalled committed version j c v =
    ap (λ n. words_text (codes "check" ∷ codes "journal" ∷ decimal n ∷ codes "committed" ∷ decimal committed ∷ codes "version" ∷ decimal version ∷ [])) j
    ∙ ap (λ n. words_text (codes "check" ∷ codes "journal" ∷ decimal (length s.journal) ∷ codes "committed" ∷ decimal n ∷ codes "version" ∷ decimal version ∷ [])) c
    ∙ ap (λ n. words_text (codes "check" ∷ codes "journal" ∷ decimal (length s.journal) ∷ codes "committed" ∷ decimal (commit_count s) ∷ codes "version" ∷ decimal n ∷ [])) v

pub returns-clause-ok : goal.returns-clause-ok
returns-clause-ok g c = λ s keeps.
    subst (λ (t : List ℕ). Appends (g.K.Sink.contents c.args.sink.now) (g.K.Sink.contents c.send.new.sink) t)
    (c.as_bytes.ensures.value ∙ c.in_ok-text.ensures
    ∙ line_is s c.journalled.result c.committed.result c.version.result (c.journalled.ensures s keeps) (c.committed.ensures s keeps).0 (c.version.ensures s keeps))
    c.in_ok-send.ensures.ok

pub returns-in_err-send-clause-err : goal.returns-in_err-send-clause-err
returns-in_err-send-clause-err g c = OnErr-from c.from_residual-in_err-send.result (λ s keeps.
    subst (λ (t : List ℕ). AppendsSome (g.K.Sink.contents c.args.sink.now) (g.K.Sink.contents c.send.new.sink) t)
    (c.as_bytes.ensures.value ∙ c.in_ok-text.ensures
    ∙ line_is s c.journalled.result c.committed.result c.version.result (c.journalled.ensures s keeps) (c.committed.ensures s keeps).0 (c.version.ensures s keeps))
    c.in_err-send.ensures.err)
