-- What a token does behind those before it: the cases of the grammar, one for each thing that may be wanted (this project).
use Rattle.std.specs.Prelude.{ℕ, List, ℤ, Option, Some, None, false}
use Rattle.gl_query.specs.declared.token.Comparison.{Comparison}
use Rattle.gl_query.specs.declared.token.Edge.{Edge}
use Rattle.gl_query.specs.declared.token.Token.{Token}
use Rattle.gl_query.specs.declared.token.Token.TheVariants.{Word, Field, Phrase, Open, Close, And, Or, Not, To, Compare, Begin}
use Rattle.gl_query.specs.declared.token.Token.TheVariants as token
use Rattle.gl_query.specs.declared.term.Limit.{Limit}
use Rattle.gl_query.specs.declared.term.Term.TheVariants.{Text, Within}
use Rattle.gl_query.specs.declared.term.Term.TheVariants as term
use Rattle.gl_query.specs.declared.step.Want.{Want}
use Rattle.gl_query.specs.declared.step.Want.TheVariants.{Start, Operand, Operator, Content, Name, Number, Low, Range, High, End}
use Rattle.gl_query.specs.declared.step.Step.{Step}
use Rattle.gl_query.specs.declared.step.Step.TheVariants.{Refused, Takes, Completes, Negates, Opens, Closes, Joins, Splits}
use Rattle.gl_query.specs.Words.{plain, word_term, number_of, bound_of, limit_of, comparison_term}

abbrev pub operand_step : Token → Step
operand_step (Word word) = Completes (word_term None word)
operand_step (Phrase phrase) = Completes (Text None (plain false phrase))
operand_step (Field name) = Takes (Content (plain false name))
operand_step token.Exists = Takes Name
operand_step Not = Negates
operand_step Open = Opens
operand_step _ = Refused

abbrev pub operator_step : Token → Step
operator_step And = Joins
operator_step Or = Splits
operator_step Close = Closes
operator_step (Word word) = operand_step (Word word)
operator_step (Phrase phrase) = operand_step (Phrase phrase)
operator_step (Field name) = operand_step (Field name)
operator_step token.Exists = operand_step token.Exists
operator_step Not = operand_step Not
operator_step Open = operand_step Open
operator_step _ = Refused

abbrev pub content_step : List ℕ → Token → Step
content_step name (Word word) = Completes (word_term (Some name) word)
content_step name (Phrase phrase) = Completes (Text (Some name) (plain false phrase))
content_step name (Compare comparison) = Takes (Number name comparison)
content_step name (Begin edge) = Takes (Low name edge)
content_step name _ = Refused

abbrev pub name_step : Token → Step
name_step (Word word) = Completes (term.Exists (plain false word))
name_step _ = Refused

abbrev pub compared : List ℕ → Comparison → Option ℤ → Step
compared name comparison None = Refused
compared name comparison (Some n) = Completes (comparison_term name comparison n)

abbrev pub number_step : List ℕ → Comparison → Token → Step
number_step name comparison (Word word) = compared name comparison (number_of word)
number_step name comparison _ = Refused

abbrev pub begun : List ℕ → Edge → Option (Option ℤ) → Step
begun name edge None = Refused
begun name edge (Some bound) = Takes (Range name (limit_of edge bound))

abbrev pub low_step : List ℕ → Edge → Token → Step
low_step name edge (Word word) = begun name edge (bound_of word)
low_step name edge _ = Refused

abbrev pub range_step : List ℕ → Limit → Token → Step
range_step name low To = Takes (High name low)
range_step name low _ = Refused

abbrev pub bounded : List ℕ → Limit → Option (Option ℤ) → Step
bounded name low None = Refused
bounded name low (Some bound) = Takes (End name low bound)

abbrev pub high_step : List ℕ → Limit → Token → Step
high_step name low (Word word) = bounded name low (bound_of word)
high_step name low _ = Refused

abbrev pub end_step : List ℕ → Limit → Option ℤ → Token → Step
end_step name low high (token.End edge) = Completes (Within name low (limit_of edge high))
end_step name low high _ = Refused

abbrev pub step_of : Want → Token → Step
step_of Start t = operand_step t
step_of Operand t = operand_step t
step_of Operator t = operator_step t
step_of (Content name) t = content_step name t
step_of Name t = name_step t
step_of (Number name comparison) t = number_step name comparison t
step_of (Low name edge) t = low_step name edge t
step_of (Range name low) t = range_step name low t
step_of (High name low) t = high_step name low t
step_of (End name low high) t = end_step name low high t
