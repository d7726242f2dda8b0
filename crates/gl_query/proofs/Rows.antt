-- Worked rows: the definitions compute these required terms.
use Rattle.std.specs.Prelude.{◌≡◌, ℕ, List, [], ◌∷◌, Option, Some, codes, option_map}
use Rattle.std.proofs.Common.{refl}
use Rattle.gl_query.specs.QueryReading.{read_tree, units, built_from}
use Rattle.gl_query.specs.Required.{required}
use Rattle.gl_query.specs.Texts.{runs_of, text_tokens}
use Rattle.gl_query.specs.Tokens.{tokens_of, tokens_from, token_at, sign_token, word_end, phrase_end}
use Rattle.gl_query.specs.Words.{plain, pieces}
use Rattle.gl_base.specs.Digits.{digits_within}

-- those of a query's text
abbrev pub required_of : List ℕ → Option (List (List ℕ × List ℕ))
required_of text = option_map required (read_tree (units (tokens_of text)))

pub words_and_phrases : required_of (codes "level:>=3 AND source:Web AND message:\"Disk full\"")
    ≡ Some ((codes "source", codes "web") ∷ (codes "message", codes "disk") ∷ (codes "message", codes "full") ∷ [])
unfolding plain pieces digits_within built_from tokens_from token_at sign_token word_end phrase_end runs_of text_tokens
words_and_phrases = refl

pub members_of_members : required_of (codes "a:b AND (c:d AND (e:f g:h) AND ((i:j)))")
    ≡ Some ((codes "a", codes "b") ∷ (codes "c", codes "d") ∷ (codes "i", codes "j") ∷ [])
unfolding plain pieces digits_within built_from tokens_from token_at sign_token word_end phrase_end runs_of text_tokens
members_of_members = refl

pub one_word : required_of (codes "host:node-7a") ≡ Some ((codes "host", codes "node") ∷ (codes "host", codes "7a") ∷ [])
unfolding plain pieces digits_within built_from tokens_from token_at sign_token word_end phrase_end runs_of text_tokens
one_word = refl

-- an OR, a NOT, a number, a wildcard, a word without a field, a field that is there
pub none_required : required_of (codes "(a:b OR c:d) AND NOT e:f AND level:-3 AND host:\"node 7\" AND x:y* AND z AND _exists_:w") ≡ Some []
unfolding plain pieces digits_within built_from tokens_from token_at sign_token word_end phrase_end runs_of text_tokens
none_required = refl

pub all_messages : required_of [] ≡ Some []
unfolding built_from tokens_from
all_messages = refl
