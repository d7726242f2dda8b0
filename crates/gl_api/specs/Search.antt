-- The reply to a search (this project): a function of what its caller sees and of the text behind the `?`. The refusals come in
-- this order: UnknownToken, BadParameter, StreamNotPermitted, BadQuery.
use Rattle.std.specs.Prelude.{◌≡◌, ℕ, Bool, true, List, [], if◌then◌else◌, Option, Some, None, unwrap_or, Result, Ok, Err}
use Rattle.std.specs.List.{list_all}
use Rattle.gl_query.specs.QueryReading.{read_tree, units}
use Rattle.gl_query.specs.Refusals.{refusal_of}
use Rattle.gl_query.specs.Tokens.{tokens_of}
use Rattle.gl_query.specs.Tree.{Tree, polish}
use Rattle.gl_pages.specs.declared.ask.Ask.{Ask}
use Rattle.gl_pages.specs.Pages.{is_chosen}
use Rattle.gl_http.specs.declared.reply.Reply.{Reply}
use Rattle.gl_sight.specs.Finding.{asks_within, page_in}
use Rattle.gl_sight.specs.Sight.{Seen, Sight, sight}
use Rattle.gl_bodies.specs.Pages.{page_reply}
use Rattle.gl_bodies.specs.Replies.{bad_parameter_reply, bad_query_reply, not_permitted_reply, unknown_token_reply}
use Rattle.gl_api.specs.declared.parameters.Parameter.{Parameter}
use Rattle.gl_api.specs.declared.parameters.Request.{Request}
use Rattle.gl_api.specs.declared.searching.Searching.{Searching}
use Rattle.gl_api.specs.declared.searching.Searching.TheVariants.{Asked, Answered}
use Rattle.gl_api.specs.Parameters.{parameter_name, request_of}

-- what is asked for: of the streams that were chosen, or of all that are permitted where none were
abbrev pub ask_of : (permitted : List ℕ) → Request → Tree → Ask
ask_of permitted request query = record {
  query = polish query;
  chosen = unwrap_or request.chosen permitted;
  from = request.from;
  to = request.to;
  offset = request.offset;
  limit = request.limit;
}

-- the page that a search gets of messages
abbrev pub found_reply : Ask → Tree → List Seen → Reply
found_reply ask query messages = page_reply (page_in ask query messages).messages (page_in ask query messages).total

abbrev pub query_unless : Option ℕ → Option Tree → Result Tree ℕ
query_unless (Some at) tree = Err at
query_unless None None = Err 0
query_unless None (Some tree) = Ok tree

-- the tree of a query's text, or the byte where it is refused; what isn't refused has a tree, as `read_query` says
unfoldable pub query_in : List ℕ → Result Tree ℕ
query_in text = query_unless (refusal_of text) (read_tree (units (tokens_of text)))

abbrev pub by_query : (permitted : List ℕ) → List Seen → Request → Result Tree ℕ → Reply
by_query permitted messages request (Err at) = bad_query_reply at
by_query permitted messages request (Ok query) = found_reply (ask_of permitted request query) query messages

-- each stream that was chosen is permitted; whether it is there plays no part
abbrev pub are_permitted : (permitted : List ℕ) → Option (List ℕ) → Bool
are_permitted permitted chosen = list_all (is_chosen permitted) (unwrap_or chosen [])

abbrev pub by_streams : (permitted : List ℕ) → List Seen → Request → Reply
by_streams permitted messages request =
    if are_permitted permitted request.chosen then by_query permitted messages request (query_in request.query) else not_permitted_reply

abbrev pub by_request : (permitted : List ℕ) → List Seen → Result Request Parameter → Reply
by_request permitted messages (Err parameter) = bad_parameter_reply (parameter_name parameter)
by_request permitted messages (Ok request) = by_streams permitted messages request

abbrev pub by_caller : Option (List ℕ) → List Seen → List ℕ → Reply
by_caller None messages text = unknown_token_reply
by_caller (Some permitted) messages text = by_request permitted messages (request_of text)

-- the reply to a search
unfoldable pub search_reply : Sight → (text : List ℕ) → Reply
search_reply seen text = by_caller seen.permitted seen.messages text

-- What is read of a search before a message is looked at.

-- whatever messages are live, the reply is what this finds of those that are seen
pub record AsksFor (permitted : List ℕ) (ask : Ask) (reply_of : List Seen → Reply) : Type 0 where
  pub query : Tree
  pub query_is : ask.query ≡ polish query
  pub within : asks_within permitted ask ≡ true
  pub finds : (messages : List Seen) → reply_of messages ≡ found_reply ask query messages

abbrev pub Answers : (permitted : List ℕ) → Searching → (List Seen → Reply) → Type 0
Answers permitted (Asked ask) reply_of = AsksFor permitted ask reply_of
Answers permitted (Answered reply) reply_of = (messages : List Seen) → reply_of messages ≡ reply

-- the same of a caller whose token may be no user's
abbrev pub Asks : Option (List ℕ) → (text : List ℕ) → Searching → Type 0
Asks None text searching = (live : List Seen) → searching ≡ Answered (search_reply (sight None live) text)
Asks (Some permitted) text searching = Answers permitted searching (λ messages. search_reply (record { permitted = Some permitted; messages = messages }) text)
