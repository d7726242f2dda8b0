-- What the actions of a rule make of a message (this project).
use Rattle.std.specs.Prelude.{ℕ, Bool, true, List, [], ◌∷◌, fold, find, Option, Some, None, Result, Ok, Err, if◌then◌else◌}
use Rattle.gl_fields.specs.declared.field.Field.{Field}
use Rattle.gl_fields.specs.declared.field.FieldRefusal.{FieldRefusal}
use Rattle.gl_fields.specs.declared.value.Value.{Value as Held}
use Rattle.gl_fields.specs.Fields.{with_field, refusal_of, without, removal, renamed, settled}
use Rattle.gl_streams.specs.declared.stream.Stream.{Stream}
use Rattle.gl_streams.specs.Ids.{with_id, without_id}
use Rattle.gl_rulelang.specs.Tree.{Step, assign, perform, RuleTree}
use Rattle.gl_check.specs.declared.function.Function.{Function}
use Rattle.gl_check.specs.declared.function.Function.TheVariants as fns
use Rattle.gl_check.specs.Values.{Value}
use Rattle.gl_check.specs.Functions.{row_of, function_named}
use Rattle.gl_check.specs.Arguments.{Names, names_in}
use Rattle.gl_functions.specs.Contents.{to_hold}
use Rattle.gl_functions.specs.Worlds.{Known, stream_named}
use Rattle.gl_functions.specs.Calls.{value_at, text_at, truth_at, one_misses}
use Rattle.gl_eval.specs.declared.staged.Staged.{Staged}
use Rattle.gl_eval.specs.Meaning.{Scope, values_for, meaning, meanings}

-- Fields: where the map refuses, they stay as they were.

abbrev pub unless_refused : Option FieldRefusal → List Field → List Field → List Field
unless_refused None old new = new
unless_refused (Some refusal) old new = old

abbrev pub put : List ℕ → Option Held → List Field → List Field
put name None fields = fields
put name (Some value) fields =
    unless_refused (refusal_of (record { name = name; value = value }) fields) fields (with_field (record { name = name; value = value }) fields)

-- the same of a change that answers whether the field was there
abbrev pub unless_err : Result Bool FieldRefusal → List Field → List Field → List Field
unless_err (Ok there) old new = new
unless_err (Err refusal) old new = old

abbrev pub taken_away : List ℕ → List Field → List Field
taken_away name fields = unless_err (removal name fields) fields (without name fields)

-- of a change whose answer is settled beforehand, or isn't
abbrev pub unless_settled_err : Option (Result Bool FieldRefusal) → List Field → List Field → List Field
unless_settled_err None old new = new
unless_settled_err (Some answer) old new = unless_err answer old new

abbrev pub given_name : List ℕ → List ℕ → List Field → List Field
given_name from to fields = unless_settled_err (settled from to fields) fields (renamed from to fields)

-- Streams.

-- a message is in one stream at least: without its last one it is in the default stream, which is 1
abbrev pub or_default : List ℕ → List ℕ
or_default [] = 1 ∷ []
or_default (id ∷ ids) = id ∷ ids

abbrev pub left : ℕ → List ℕ → List ℕ
left id ids = or_default (without_id ids id)

abbrev pub then_left : Bool → List ℕ → List ℕ
then_left away ids = if away then left 1 ids else ids

-- into a stream that is there and not paused, and then away from the default stream, if that is asked
abbrev pub routed : Option Stream → Bool → List ℕ → List ℕ
routed None away ids = ids
routed (Some stream) away ids = if stream.paused then ids else then_left away (with_id ids stream.id)

abbrev pub removed : Option Stream → List ℕ → List ℕ
removed None ids = ids
removed (Some stream) ids = left stream.id ids

-- what each action does with its arguments (a function does nothing)
abbrev pub done_by : Known → Function → List Value → Staged → Staged
done_by world fns.SetField a m = record m { fields = put (text_at 0 a) (to_hold (value_at 1 a)) m.fields }
done_by world fns.RemoveField a m = record m { fields = taken_away (text_at 0 a) m.fields }
done_by world fns.RenameField a m = record m { fields = given_name (text_at 0 a) (text_at 1 a) m.fields }
done_by world fns.RouteToStream a m = record m { streams = routed (stream_named world (text_at 0 a) (text_at 1 a)) (truth_at 2 a) m.streams }
done_by world fns.RemoveFromStream a m = record m { streams = removed (stream_named world (text_at 0 a) (text_at 1 a)) m.streams }
done_by world fns.DropMessage a m = record m { dropped = true }
done_by world _ a m = m

-- an action with a missing argument does nothing
abbrev pub done_with : Known → Function → List Value → Staged → Staged
done_with world f values m = if one_misses (row_of f).parameters values then m else done_by world f values m

abbrev pub done : Known → Option Function → Names → List Value → Staged → Staged
done world None names given m = m
done world (Some f) names given m = done_with world f (values_for (row_of f).parameters names given) m

-- The actions of a rule, in order.

-- the message, and the variables that were given so far, the last one first
pub record Course : Type 0 where
  pub message : Staged
  pub variables : List (List ℕ × Value)

abbrev pub scope_of : Known → Course → Scope
scope_of world c = record { sight = record { world = world; fields = c.message.fields; streams = c.message.streams }; variables = c.variables }

abbrev pub stepped : Known → Course → Step → Course
stepped world c (assign x e) = record c { variables = (x, meaning (scope_of world c) e) ∷ c.variables }
stepped world c (perform f given) = record c { message = done world (function_named f) (names_in given) (meanings (scope_of world c) given) c.message }

-- a message that was dropped stays as it is
abbrev pub stepped_or_dropped : Known → Course → Step → Course
stepped_or_dropped world c step = if c.message.dropped then c else stepped world c step

-- the course of a message behind these actions
abbrev pub course_behind : Known → List Step → Staged → Course
course_behind world steps m = fold (stepped_or_dropped world) (record { message = m; variables = [] }) steps

-- the message behind the actions of a rule
unfoldable pub acted : Known → RuleTree → Staged → Staged
acted world rule m = (course_behind world rule.steps m).message
