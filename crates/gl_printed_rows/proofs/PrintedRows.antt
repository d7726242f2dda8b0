-- Worked rows of answer lines that no script reaches yet: each definition computes the text that stands here.
use Rattle.std.specs.Prelude.{◌≡◌, List, [], ◌∷◌, ◌++◌, codes, negsuc}
use Rattle.std.proofs.Common.{refl}
use Rattle.std.specs.Fmt.{decimal, digits}
use Rattle.percent_encoding.specs.Percent.{percent_encode_byte}
use Rattle.gl_fields.specs.declared.entry.Cause.TheVariants.{NotJson, TooLarge}
use Rattle.gl_fields.specs.declared.entry.Outcome.TheVariants.{Applied, Stored, Dropped, Undecodable}
use Rattle.gl_fields.specs.declared.value.Value.TheVariants.{Text, Whole}
use Rattle.gl_node.specs.Claims.{Busy, Kept}
use Rattle.gl_cli.specs.Answers.{words_text, claim_words, finish_words, outcome_words}

pub none_committed : words_text (finish_words (Kept 0)) ≡ codes "kept 0\n"
unfolding digits percent_encode_byte
none_committed = refl

pub greatest_position : words_text (claim_words 0 (Busy (record { first = 18446744073709551615; count = 1 }))) ≡ codes "busy 18446744073709551615 18446744073709551616\n"
unfolding digits percent_encode_byte
greatest_position = refl

pub a_command : words_text (decimal 3 ∷ outcome_words Applied) ≡ codes "3 applied\n"
unfolding digits percent_encode_byte
a_command = refl

pub a_dropped_message : words_text (decimal 3 ∷ outcome_words Dropped) ≡ codes "3 dropped\n"
unfolding digits percent_encode_byte
a_dropped_message = refl

pub no_object : words_text (decimal 3 ∷ outcome_words (Undecodable (NotJson 12))) ≡ codes "3 undecodable not-json 12\n"
unfolding digits percent_encode_byte
no_object = refl

pub too_large : words_text (decimal 3 ∷ outcome_words (Undecodable TooLarge)) ≡ codes "3 undecodable too-large\n"
unfolding digits percent_encode_byte
too_large = refl

-- a text with each kind of byte, and a moment before 1970, in two streams of which one has the greatest id
pub a_stored_message :
    words_text (decimal 18 ∷ outcome_words (Stored (1 ∷ 18446744073709551615 ∷ []) (
    record { name = codes "message"; value = Text (codes "a b%&=~" ++ 195 ∷ 188 ∷ 10 ∷ []) }
    ∷ record { name = codes "timestamp"; value = Whole (negsuc 999) } ∷ [])))
    ≡ codes "18 stored 000000000000000000000001,00000000ffffffffffffffff message=a%20b%25%26=~%C3%BC%0A&timestamp:-1000\n"
unfolding digits percent_encode_byte
a_stored_message = refl
