-- What a caller of a search can see (this project): all that a reply depends on, besides the text of the search. No position,
-- no name of an index and no count of a log is in it.
use Rattle.std.specs.Prelude.{◌≡◌, ℕ, Bool, false, List, [], map, filter, Option, Some, None, is_some}
use Rattle.gl_fields.specs.declared.field.Field.{Field}
use Rattle.gl_pages.specs.Pages.{is_chosen, one_chosen}

-- a live message without its position: the ids of the streams in which it stands, and its fields
pub record Seen : Type 0 where
  pub streams : List ℕ
  pub fields : List Field

-- the ids of the streams that a caller is permitted, unless no user has the caller's token; and the messages that the caller
-- sees, in the journal's order
pub record Sight : Type 0 where
  pub permitted : Option (List ℕ)
  pub messages : List Seen

-- a stream is permitted; none is to a caller whose token is no user's
abbrev pub is_permitted : Option (List ℕ) → ℕ → Bool
is_permitted None id = false
is_permitted (Some permitted) id = is_chosen permitted id

-- one of its streams is permitted
abbrev pub is_seen : List ℕ → Seen → Bool
is_seen permitted message = one_chosen permitted message.streams

-- what is seen of a message: those of its streams that are permitted, and its fields
abbrev pub shown : List ℕ → Seen → Seen
shown permitted message = record { streams = filter (is_chosen permitted) message.streams; fields = message.fields }

abbrev pub visible : List ℕ → List Seen → List Seen
visible permitted live = map (shown permitted) (filter (is_seen permitted) live)

-- what is seen of the live messages
abbrev pub visible_to : Option (List ℕ) → List Seen → List Seen
visible_to None live = []
visible_to (Some permitted) live = visible permitted live

-- what a caller with these permitted streams sees of the live messages
abbrev pub sight : Option (List ℕ) → List Seen → Sight
sight permitted live = record { permitted = permitted; messages = visible_to permitted live }

-- The token is known here and there, or in neither; the permitted streams are the same; and what is seen of the live messages is
-- the same, in the journal's order.
pub record Agree (here there : Option (List ℕ)) (live others : List Seen) : Type 0 where
  pub known : is_some here ≡ is_some there
  pub permitted : (id : ℕ) → is_permitted here id ≡ is_permitted there id
  pub visible : visible_to here live ≡ visible_to there others
