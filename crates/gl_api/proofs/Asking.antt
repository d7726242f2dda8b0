-- What a request asks for whose parameters are read.
use Rattle.std.proofs.Common.{◌≡◌, ℕ, ◌+◌, ◌<◌, get_or, take, Bool, true, false, ◌&&◌, ◌||◌, ◌==◌, cond, List, [], ◌∷◌, ◌++◌, length, map, append-nil, refl, sym, ◌∙◌, ap, arith}
use Rattle.std.specs.Prelude.{◌≢◌, Option, Some, None, Result, Ok, Err, option_copied, unwrap_or, filter_map, slice_get, IsUtf8}
use Rattle.std.specs.Str.{is_utf8}
use Rattle.std.proofs.lemmas.Str.{is_utf8-from_IsUtf8, IsUtf8-from_is_utf8}
use Rattle.serde_json.specs.Data.{Data}
use Rattle.serde_json.specs.Read.{read}
use Rattle.gl_query.specs.declared.query.QueryRefusal.TheVariants.{BadQuery, OutOfMemory}
use Rattle.gl_query.specs.Refused.{TellsRefusal}
use Rattle.std.specs.Borrow.{Bor}
use Rattle.std.specs.List.{cons_option, list_all}
use Rattle.std.specs.Slice.{IsItemAt}
use Rattle.std.proofs.lemmas.List.{take_more}
use Rattle.std.proofs.lemmas.List.Elements.{filter_map-append}
use Rattle.std.proofs.lemmas.Option.{slice_get_past, slice_get_read}
use Rattle.gl_query.specs.QueryReading.{read_tree, units}
use Rattle.gl_query.specs.Refusals.{refusal_of}
use Rattle.gl_query.specs.Tokens.{tokens_of}
use Rattle.gl_query.specs.Tree.{Tree}
use Rattle.gl_pages.specs.declared.ask.Ask.{Ask}
use Rattle.gl_pages.specs.Pages.{cut, is_chosen}
use Rattle.gl_http.specs.declared.reply.Reply.{Reply}
use Rattle.gl_sight.specs.Finding.{found}
use Rattle.gl_sight.specs.Sight.{Seen, shown, visible}
use Rattle.gl_bodies.specs.Pages.{page_reply}
use Rattle.gl_bodies.specs.Replies.{bad_parameter_reply, bad_query_reply, not_permitted_reply}
use Rattle.gl_api.specs.declared.parameters.Parameter.{Parameter}
use Rattle.gl_api.specs.declared.parameters.Request.{Request}
use Rattle.gl_api.specs.Commands.{value_in}
use Rattle.gl_api.specs.Parameters.{parameter_name}
use Rattle.gl_api.specs.Search.{AsksFor, are_permitted, ask_of, by_query, by_request, by_streams, found_reply, query_in, query_unless}

all_weaker : {A : Type 0} (f g : A → Bool) → ((x : A) → f x ≡ true → g x ≡ true) → (xs : List A) → list_all f xs ≡ true → list_all g xs ≡ true
all_weaker f g h [] all = refl
all_weaker f g h (x ∷ xs) all = over (f x) (g x) (h x) all (all_weaker f g h xs)
  where
    over : (a b : Bool) → (a ≡ true → b ≡ true) → (a && list_all f xs) ≡ true → (list_all f xs ≡ true → list_all g xs ≡ true) → (b && list_all g xs) ≡ true
    over true true imp all rest = rest all
    over true false imp all rest = imp refl
    over false b imp all rest = cc all

same_itself : (n : ℕ) → (n == n) ≡ true
same_itself n = grind arith

or_true : (a b : Bool) → b ≡ true → (a || b) ≡ true
or_true true b h = refl
or_true false b h = h

-- each of a list is chosen where the list is
all_chosen : (xs : List ℕ) → list_all (is_chosen xs) xs ≡ true
all_chosen [] = refl
all_chosen (x ∷ xs) =
    ap (λ b. (b || is_chosen xs x) && list_all (is_chosen (x ∷ xs)) xs) (same_itself x)
    ∙ all_weaker (is_chosen xs) (is_chosen (x ∷ xs)) (λ id h. or_true (x == id) (is_chosen xs id) h) xs (all_chosen xs)

pub within : (permitted : List ℕ) (chosen : Option (List ℕ)) → are_permitted permitted chosen ≡ true → list_all (is_chosen permitted) (unwrap_or chosen permitted) ≡ true
within permitted None h = all_chosen permitted
within permitted (Some ids) h = h

pub query_is : (text : List ℕ) (t : Tree) → refusal_of text ≡ None → read_tree (units (tokens_of text)) ≡ Some t → query_in text ≡ Ok t
unfolding query_in
query_is text t kept read = ap (λ r. query_unless r (read_tree (units (tokens_of text)))) kept ∙ ap (query_unless None) read

pub query_refused : (text : List ℕ) (at : ℕ) → refusal_of text ≡ Some at → query_in text ≡ Err at
unfolding query_in
query_refused text at is = ap (λ r. query_unless r (read_tree (units (tokens_of text)))) is

pub asks : (permitted : List ℕ) (request : Request) (t : Tree) (ask : Ask) → are_permitted permitted request.chosen ≡ true → query_in request.query ≡ Ok t → ask ≡ ask_of permitted request t
    → AsksFor permitted ask (λ messages. by_streams permitted messages request)
asks permitted request t ask all query is = record {
  query = t;
  query_is = ap (λ (a : Ask). a.query) is;
  within = ap (λ (a : Ask). list_all (is_chosen permitted) a.chosen) is ∙ within permitted request.chosen all;
  finds = λ messages.
      ap (λ b. cond b (by_query permitted messages request (query_in request.query)) not_permitted_reply) all
      ∙ ap (by_query permitted messages request) query ∙ ap (λ (a : Ask). found_reply a t messages) (sym is);
}

pub not_permitted : (permitted : List ℕ) (request : Request) (reply : Reply) → are_permitted permitted request.chosen ≡ false → reply ≡ not_permitted_reply
    → (messages : List Seen) → by_streams permitted messages request ≡ reply
not_permitted permitted request reply none is messages =
    ap (λ b. cond b (by_query permitted messages request (query_in request.query)) not_permitted_reply) none ∙ sym is

pub bad_query : (permitted : List ℕ) (request : Request) (reply : Reply) (at : ℕ) → are_permitted permitted request.chosen ≡ true → refusal_of request.query ≡ Some at → reply ≡ bad_query_reply at
    → (messages : List Seen) → by_streams permitted messages request ≡ reply
bad_query permitted request reply at all refused is messages =
    ap (λ b. cond b (by_query permitted messages request (query_in request.query)) not_permitted_reply) all
    ∙ ap (by_query permitted messages request) (query_refused request.query at refused) ∙ sym is

pub bad_parameter : (permitted : List ℕ) (read : Result Request Parameter) (parameter : Parameter) (reply : Reply) → read ≡ Err parameter → reply ≡ bad_parameter_reply (parameter_name parameter)
    → (messages : List Seen) → by_request permitted messages read ≡ reply
bad_parameter permitted read parameter reply err is messages = ap (by_request permitted messages) err ∙ sym is

-- The page.

pub page_is : (permitted : List ℕ) (ask : Ask) (t : Tree) (live page : List Seen) (total : ℕ) → page ≡ cut ask (found ask t live) → total ≡ length (found ask t live)
    → length (found ask t live) ≡ length (found ask t (visible permitted live)) → map (shown permitted) (cut ask (found ask t live)) ≡ cut ask (found ask t (visible permitted live))
    → page_reply (map (shown permitted) page) total ≡ found_reply ask t (visible permitted live)
page_is permitted ask t live page total page_are total_are total_same page_same =
    ap (λ n. page_reply (map (shown permitted) page) n) (total_are ∙ total_same)
    ∙ ap (λ (ms : List Seen). page_reply ms (length (found ask t (visible permitted live)))) (ap (map (shown permitted)) page_are ∙ page_same)

-- what stands at places where all of a page stands
all_there : {A : Type 0} (at : ℕ → Option A) (places : List ℕ) (page : List A) → map at places ≡ map Some page → filter_map at places ≡ page
all_there at [] [] same = refl
all_there at [] (x ∷ page) same = absurd cc
all_there at (p ∷ places) [] same = absurd cc
all_there at (p ∷ places) (x ∷ page) same =
    let first : at p ≡ Some x = cc in
    let rest : map at places ≡ map Some page = cc in
    rw first (ap (λ xs. x ∷ xs) (all_there at places page rest))

pub messages_are : (live : List Seen) (places rows : List ℕ) (messages page : List Seen) → messages ≡ filter_map (slice_get live) places → places ≡ rows → map (slice_get live) rows ≡ map Some page → messages ≡ page
messages_are live places rows messages page is same there = is ∙ ap (filter_map (slice_get live)) same ∙ all_there (slice_get live) rows page there

pub none_there : (before live : List Seen) (place : ℕ) → slice_get live place ≡ None → before ≡ before ++ filter_map (slice_get live) (place ∷ [])
none_there before live place none = sym (append-nil before) ∙ ap (λ (o : Option Seen). before ++ cons_option o []) (sym none)

pub one_there : (before live : List Seen) (place : ℕ) (x : Seen) → slice_get live place ≡ Some x → before ++ x ∷ [] ≡ before ++ filter_map (slice_get live) (place ∷ [])
one_there before live place x one = ap (λ (o : Option Seen). before ++ cons_option o []) (sym one)

-- what `get` gives
pub got : {X : Type 0} (xs : List X) (i : ℕ) (r : Option (Bor X)) → IsItemAt xs i r → option_copied r ≡ slice_get xs i
got xs i None h = sym (slice_get_past xs i h.3)
got xs i (Some x) h = sym (slice_get_read xs (length xs) i x.now refl h.3.0 h.1)

-- the messages at one place more
pub one_more : (at : ℕ → Option Seen) (places : List ℕ) (i : ℕ) (xs ys : List Seen) → i < length places → ys ≡ xs ++ filter_map at (get_or places i 0 ∷ []) → xs ≡ filter_map at (take i places)
    → ys ≡ filter_map at (take (i + 1) places)
one_more at places i xs ys lt more is =
    more ∙ ap (λ (zs : List Seen). zs ++ filter_map at (get_or places i 0 ∷ [])) is
    ∙ sym (filter_map-append at (take i places) (get_or places i 0 ∷ []))
    ∙ ap (filter_map at) (sym (take_more places i 0 lt))

-- Refusals.

-- the place that a refusal tells
pub told : (at : ℕ) (refused : Option ℕ) → (BadQuery at ≢ OutOfMemory → TellsRefusal (BadQuery at) refused) → refused ≡ Some at
told at refused tells =
    let is : TellsRefusal (BadQuery at) refused = tells (λ e. cc e) in
    let same : at ≡ is.0 = let given = is.2 in cc in
    is.1 ∙ ap (λ (n : ℕ). Some n) (sym same)

-- The body of a command.

pub value_is : (body : List ℕ) (d : Data) → IsUtf8 body → read body ≡ Some d → value_in body ≡ Some d
value_is body d utf8 is = rw (is_utf8-from_IsUtf8 body utf8) is

pub no_value : (body : List ℕ) → (IsUtf8 body → read body ≡ None) → value_in body ≡ None
no_value body none = over (is_utf8 body) (λ is. none (IsUtf8-from_is_utf8 body is))
  where
    over : (test : Bool) → (test ≡ true → read body ≡ None) → cond test (read body) None ≡ None
    over true h = h refl
    over false h = refl
