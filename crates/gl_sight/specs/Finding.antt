-- What a search finds among messages, and the page that it gets.
use Rattle.std.specs.Prelude.{ℕ, Bool, List, length, map}
use Rattle.std.specs.List.{list_all}
use Rattle.gl_query.specs.Tree.{Tree}
use Rattle.gl_pages.specs.declared.ask.Ask.{Ask}
use Rattle.gl_pages.specs.Pages.{found_by, cut, is_chosen}
use Rattle.gl_sight.specs.declared.live.Live.{Live}
use Rattle.gl_sight.specs.Sight.{Seen}

-- by time, and those of one time as they stand
abbrev pub found : Ask → Tree → List Seen → List Seen
found ask query messages = found_by (λ (message : Seen). message.streams) (λ (message : Seen). message.fields) ask query messages

-- a page of messages, and how many were found in all
pub record Found : Type 0 where
  pub total : ℕ
  pub messages : List Seen

abbrev pub page_in : Ask → Tree → List Seen → Found
page_in ask query messages = record { total = length (found ask query messages); messages = cut ask (found ask query messages) }

-- each stream that a search asks for is permitted
abbrev pub asks_within : List ℕ → Ask → Bool
asks_within permitted ask = list_all (is_chosen permitted) ask.chosen

-- a message that is lent, as data
abbrev pub seen_of : Live → Seen
seen_of lent = record { streams = lent.streams.now; fields = lent.fields.now }

abbrev pub live_of : List Live → List Seen
live_of lent = map seen_of lent
