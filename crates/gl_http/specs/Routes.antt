-- The routes: what a request's target asks for, and by which method.
use Rattle.std.specs.Prelude.{ℕ, Bool, true, false, ◌&&◌, ◌==◌, not, nat_lt, List, [], ◌∷◌, length, codes, Option, Some, None, option_map, if◌then◌else◌, bytes_eq}
use Rattle.std.specs.List.{list_any, before_first, after_first}
use Rattle.std.specs.Str.Lossy.{utf8_lossy}
use Rattle.percent_encoding.specs.Percent.{percent_decode}
use Rattle.gl_http.specs.declared.route.Route.{Route}
use Rattle.gl_http.specs.declared.route.Route.TheVariants.{Gelf, Commands, Search, Streams, System, Rule, Pipeline}

abbrev pub is_question : ℕ → Bool
is_question b = b == 63

-- a target's path ends at its first question mark (RFC 9112, section 3.2.1)
abbrev pub path_of : List ℕ → List ℕ
path_of target = before_first is_question target

-- what stands behind the first question mark
abbrev pub query_of : List ℕ → List ℕ
query_of target = after_first is_question target

-- what follows a text, where the other text begins with it
abbrev pub after_text : List ℕ → List ℕ → Option (List ℕ)
after_text [] path = Some path
after_text (x ∷ text) [] = None
after_text (x ∷ text) (b ∷ path) = if x == b then after_text text path else None

-- some bytes and no slash
abbrev pub is_segment : List ℕ → Bool
is_segment text = nat_lt 0 (length text) && not (list_any (λ b. b == 47) text)

-- the name that a path's last segment stands for: percent-decoded (RFC 3986, section 2.1), then read as UTF-8 with U+FFFD where it isn't
abbrev pub name_in : Option (List ℕ) → Option (List ℕ)
name_in None = None
name_in (Some text) = if is_segment text then Some (utf8_lossy (percent_decode text)) else None

-- the name under a path that begins with this text
abbrev pub name_under : List ℕ → List ℕ → Option (List ℕ)
name_under front path = name_in (after_text front path)

abbrev pub first_of : Option Route → Option Route → Option Route
first_of None other = other
first_of (Some route) other = Some route

abbrev pub named_route : List ℕ → Option Route
named_route path =
    first_of (option_map Rule (name_under (codes "/api/rules/") path)) (option_map Pipeline (name_under (codes "/api/pipelines/") path))

abbrev pub path_route : List ℕ → List ℕ → Option Route
path_route path query =
    if bytes_eq path (codes "/gelf") then Some Gelf
    else (if bytes_eq path (codes "/api/commands") then Some Commands
    else (if bytes_eq path (codes "/api/search") then Some (Search query)
    else (if bytes_eq path (codes "/api/streams") then Some Streams
    else (if bytes_eq path (codes "/api/system") then Some System else named_route path))))

-- the route of a target, if it has one
abbrev pub route_of : List ℕ → Option Route
route_of target = path_route (path_of target) (query_of target)

-- whether a route takes POST; the others take GET
abbrev pub takes_post : Route → Bool
takes_post Gelf = true
takes_post Commands = true
takes_post (Search query) = false
takes_post Streams = false
takes_post System = false
takes_post (Rule name) = false
takes_post (Pipeline name) = false

abbrev pub method_of : Route → List ℕ
method_of route = if takes_post route then codes "POST" else codes "GET"

abbrev pub has_method : Route → List ℕ → Bool
has_method route method = bytes_eq method (method_of route)
