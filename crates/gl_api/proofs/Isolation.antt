-- A reply depends on nothing but what is seen.
use Rattle.std.proofs.Common.{◌≡◌, ℕ, Bool, true, false, ◌&&◌, ◌||◌, cond, List, [], ◌∷◌, length, filter, take, drop, refl, ◌∙◌, ap}
use Rattle.std.specs.Prelude.{Option, Some, None, Result, Ok, Err, unwrap_or}
use Rattle.std.specs.List.{list_all, list_any}
use Rattle.std.proofs.lemmas.List.Elements.{filter_agree}
use Rattle.gl_fields.specs.declared.field.Field.{Field}
use Rattle.gl_query.specs.Matching.{holds}
use Rattle.gl_query.specs.Tree.{Tree}
use Rattle.gl_pages.specs.Pages.{in_order, is_between, is_chosen, one_chosen, time_of}
use Rattle.gl_http.specs.declared.reply.Reply.{Reply}
use Rattle.gl_sight.specs.Finding.{found}
use Rattle.gl_sight.specs.Sight.{Agree, Seen, is_seen, sight, visible}
use Rattle.gl_bodies.specs.Pages.{page_reply}
use Rattle.gl_bodies.specs.Replies.{not_permitted_reply}
use Rattle.gl_api.specs.declared.parameters.Parameter.{Parameter}
use Rattle.gl_api.specs.declared.parameters.Request.{Request}
use Rattle.gl_api.specs.Parameters.{request_of}
use Rattle.gl_api.specs.Search.{are_permitted, ask_of, by_query, by_request, by_streams, found_reply, query_in, search_reply}

all_agree : {A : Type 0} (f g : A → Bool) → ((x : A) → f x ≡ g x) → (xs : List A) → list_all f xs ≡ list_all g xs
all_agree f g h [] = refl
all_agree f g h (x ∷ xs) = ap (λ b. b && list_all f xs) (h x) ∙ ap (λ b. g x && b) (all_agree f g h xs)

any_agree : {A : Type 0} (f g : A → Bool) → ((x : A) → f x ≡ g x) → (xs : List A) → list_any f xs ≡ list_any g xs
any_agree f g h [] = refl
any_agree f g h (x ∷ xs) = ap (λ b. b || list_any f xs) (h x) ∙ ap (λ b. g x || b) (any_agree f g h xs)

abbrev SameSet : List ℕ → List ℕ → Type 0
SameSet here there = (id : ℕ) → is_chosen here id ≡ is_chosen there id

chosen_agree : (here there : List ℕ) → SameSet here there → (chosen : Option (List ℕ)) (streams : List ℕ) → one_chosen (unwrap_or chosen here) streams ≡ one_chosen (unwrap_or chosen there) streams
chosen_agree here there same None streams = any_agree (is_chosen here) (is_chosen there) same streams
chosen_agree here there same (Some ids) streams = refl

abbrev test : Request → Tree → List Field → Bool → Bool
test request t fields b = b && is_between request.from request.to (time_of fields) && holds t fields

found_agree : (here there : List ℕ) → SameSet here there → (request : Request) (t : Tree) (messages : List Seen)
    → found (ask_of here request t) t messages ≡ found (ask_of there request t) t messages
found_agree here there same request t messages =
    ap (in_order (λ (m : Seen). time_of m.fields))
    (filter_agree (λ (m : Seen). test request t m.fields (one_chosen (unwrap_or request.chosen here) m.streams)) (λ (m : Seen). test request t m.fields (one_chosen (unwrap_or request.chosen there) m.streams))
    (λ m. ap (test request t m.fields) (chosen_agree here there same request.chosen m.streams)) messages)

replies_agree : (here there : List ℕ) → SameSet here there → (request : Request) (t : Tree) (messages : List Seen)
    → found_reply (ask_of here request t) t messages ≡ found_reply (ask_of there request t) t messages
replies_agree here there same request t messages =
    ap (λ (fs : List Seen). page_reply (take request.limit (drop request.offset fs)) (length fs)) (found_agree here there same request t messages)

queries_agree : (here there : List ℕ) → SameSet here there → (request : Request) (query : Result Tree ℕ) (messages : List Seen) → by_query here messages request query ≡ by_query there messages request query
queries_agree here there same request (Err at) messages = refl
queries_agree here there same request (Ok t) messages = replies_agree here there same request t messages

streams_agree : (here there : List ℕ) → SameSet here there → (request : Request) (messages : List Seen) → by_streams here messages request ≡ by_streams there messages request
streams_agree here there same request messages =
    ap (λ b. cond b (by_query here messages request (query_in request.query)) not_permitted_reply)
    (all_agree (is_chosen here) (is_chosen there) same (unwrap_or request.chosen []))
    ∙ ap (λ (r : Reply). cond (are_permitted there request.chosen) r not_permitted_reply) (queries_agree here there same request (query_in request.query) messages)

requests_agree : (here there : List ℕ) → SameSet here there → (request : Result Request Parameter) (messages : List Seen) → by_request here messages request ≡ by_request there messages request
requests_agree here there same (Err parameter) messages = refl
requests_agree here there same (Ok request) messages = streams_agree here there same request messages

pub isolated : (here there : Option (List ℕ)) (live others : List Seen) (text : List ℕ) → Agree here there live others
    → search_reply (sight here live) text ≡ search_reply (sight there others) text
unfolding search_reply
isolated None None live others text agree = refl
isolated None (Some there) live others text agree = let known : false ≡ true = agree.known in cc known
isolated (Some here) None live others text agree = let known : true ≡ false = agree.known in cc known
isolated (Some here) (Some there) live others text agree =
    ap (λ messages. by_request here messages (request_of text)) agree.visible ∙ requests_agree here there agree.permitted (request_of text) (visible there others)

pub hidden : (permitted : List ℕ) (live : List Seen) (text : List ℕ) → visible permitted (filter (is_seen permitted) live) ≡ visible permitted live
    → search_reply (sight (Some permitted) (filter (is_seen permitted) live)) text ≡ search_reply (sight (Some permitted) live) text
unfolding search_reply
hidden permitted live text same = ap (λ messages. by_request permitted messages (request_of text)) same
