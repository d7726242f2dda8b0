-- The command that is read of a value has numbers in their ranges.
use Rattle.std.specs.Prelude.{◌≡◌, ◌==◌, ◌&&◌, ◌^◌, ⊤, ℕ, Bool, true, false, List, [], ◌∷◌, codes, length, nat_lt, if◌then◌else◌, Option, Some, None, option_map, option_and_then}
use Rattle.std.specs.List.{All, list_all}
use Rattle.std.specs.Str.Parse.{digits_value}
use Rattle.std.specs.Map.{lookup}
use Rattle.std.specs.Str.{bytes_eq}
use Rattle.std.proofs.Common.{refl, arith, subst, cond}
use Rattle.std.proofs.lemmas.Bool.{ltb-true, ltb-false, and_parts}
use Rattle.std.proofs.lemmas.List.Elements.{All-cons}
use Rattle.serde_json.specs.Data.{Data, Items, no_items, item}
use Rattle.serde_json.specs.Find.{as_str, as_bool, as_array}
use Rattle.gl_extract.specs.declared.parts.ExtractorKind.{ExtractorKind}
use Rattle.gl_extract.specs.declared.parts.ExtractorKind.TheVariants as kinds
use Rattle.gl_extract.specs.declared.parts.Condition.{Condition}
use Rattle.gl_extract.specs.declared.parts.Converter.{Converter}
use Rattle.gl_extract.specs.declared.parts.ExtractorParts.{ExtractorParts}
use Rattle.gl_text.specs.Ids.{is_id, is_hex_digit, read_id}
use Rattle.gl_commands.specs.declared.command.Command.{Command}
use Rattle.gl_commands.specs.declared.command.Command.TheVariants.{CreateInput, SetExtractors, CreateIndexSet, CreateStream, SetStream, CreateRule, SetRule, CreatePipeline, SetPipeline, Connect, CreateLookup, SetLookup, CreateGrok, SetGrok, CreateUser, SetUser}
use Rattle.gl_commands.specs.Texts.{extractor_data, command_data, IsNumber, IsId, KindHasNumbers, HasNumbers}
use Rattle.gl_commands.specs.CommandReading.{kind_named, at, said_at, number_at, list_at, width, unless_more, each_of, in_range, as_whole, converter_in, id_in, rule_in, condition_in, regex_in, substring_in, split_in, unless_target, grok_kind_in, extractor_kinds, extractor_kind_in, extractor_in, of_kind, input_in, extractors_in, index_set_in, stream_in, setting_in, connection_in, table_parts, grok_parts, user_parts, command_kinds, keys_in}
use Rattle.gl_commands.proofs.Options.{of_some, of_one, of_two, of_three, of_four, of_five, of_test, of_refusal}

number_is : (d : Data) (key : List ℕ) (n : ℕ) → number_at key d ≡ Some n → IsNumber n
number_is d key n e = of_one IsNumber (at as_whole key d) in_range n e (λ m found says.
    let p = of_refusal (nat_lt 9007199254740992 m) (Some m) n says in
    of_some IsNumber m n p.1 (ltb-false 9007199254740992 m p.0))

id_is_small : (text : List ℕ) (id : ℕ) → read_id text ≡ Some id → IsId id
id_is_small text id e =
    let p = of_test (is_id text) (Some (digits_value 16 text)) id e in
    let small = and_parts (length text == 24 && list_all is_hex_digit text) (nat_lt (digits_value 16 text) (2 ^ 64)) p.0 in
    of_some IsId (digits_value 16 text) id p.1 (ltb-true (digits_value 16 text) (2 ^ 64) small.1)

id_is : (d : Data) (key : List ℕ) (id : ℕ) → said_at read_id key d ≡ Some id → IsId id
id_is d key id e = of_one IsId (at as_str key d) read_id id e (λ text found says. id_is_small text id says)

id_in_is : (d : Data) (id : ℕ) → id_in d ≡ Some id → IsId id
unfolding id_in
id_in_is d id e = of_one IsId (as_str d) read_id id e (λ text found says. id_is_small text id says)

-- lists

cons_of : {A : Type 0} (P : A → Type 0) (o : Option (List A)) (y : A) (ys : List A) → ((more : List A) → o ≡ Some more → All P (y ∷ more)) → option_map (λ xs. y ∷ xs) o ≡ Some ys → All P ys
cons_of P None y ys next e = absurd cc
cons_of P (Some more) y ys next e = of_some (All P) (y ∷ more) ys e (next more refl)

nothing : {A : Type 0} (P : A → Type 0) → All P []
nothing P = λ i d lt. absurd (omega (arith, lt))

each_is : {A : Type 0} (P : A → Type 0) (form : Data → Option A) → ((d : Data) (y : A) → form d ≡ Some y → P y) → (ds : Items) (ys : List A) → each_of form ds ≡ Some ys → All P ys
each_is P form one no_items ys e = of_some (All P) [] ys e (nothing P)
each_is P form one (item d ds) ys e =
    of_one (All P) (form d) (λ y. option_map (λ xs. y ∷ xs) (each_of form ds)) ys e (λ y here rest.
    cons_of P (each_of form ds) y ys (λ more there. All-cons P y more (one d y here) (each_is P form one ds more there)) rest)

list_is : {A : Type 0} (P : A → Type 0) (form : Data → Option A) (d : Data) → ((d : Data) (y : A) → form d ≡ Some y → P y) → (key : List ℕ) (ys : List A) → list_at form key d ≡ Some ys → All P ys
list_is P form d one key ys e = of_one (All P) (at as_array key d) (each_of form) ys e (λ ds found says. each_is P form one ds ys says)

-- what each reader gives of a value

abbrev EachReader : {A : Type 0} → (A → Type 0) → Data → List (List ℕ × (Data → Option A)) → Type 0
EachReader P d [] = ⊤
EachReader {A} P d (reader ∷ readers) = ((y : A) → reader.1 d ≡ Some y → P y) × EachReader P d readers

one_reader : {A : Type 0} (P : A → Type 0) (d : Data) (b : Bool) (reader : Data → Option A) (rest : Option (Data → Option A)) (y : A)
    → (reader d ≡ Some y → P y) → (option_and_then (λ f. f d) rest ≡ Some y → P y) → option_and_then (λ f. f d) (cond b (Some reader) rest) ≡ Some y → P y
one_reader P d true reader rest y here there e = here e
one_reader P d false reader rest y here there e = there e

kind_read : {A : Type 0} (P : A → Type 0) (d : Data) (readers : List (List ℕ × (Data → Option A))) → EachReader P d readers → (kind : List ℕ) (y : A) → of_kind readers d kind ≡ Some y → P y
kind_read P d [] h kind y e = absurd cc
kind_read P d (reader ∷ readers) h kind y e =
    one_reader P d (bytes_eq kind reader.0) reader.1 (lookup (λ name. bytes_eq kind name) readers) y (λ here. h.0 y here) (λ there. kind_read P d readers h.1 kind y there) e

-- extractors

regex_is : (d : Data) (kind : ExtractorKind) → regex_in d ≡ Some kind → KindHasNumbers kind
unfolding regex_in
regex_is d kind e =
    of_two KindHasNumbers (at as_str (codes "pattern") d) (at as_str (codes "target") d) (λ pattern target. Some (kinds.Regex pattern target)) kind e
    (λ pattern target is_pattern is_target made. of_some KindHasNumbers (kinds.Regex pattern target) kind made tt)

substring_is : (d : Data) (kind : ExtractorKind) → substring_in d ≡ Some kind → KindHasNumbers kind
unfolding substring_in
substring_is d kind e =
    of_three KindHasNumbers (number_at (codes "begin") d) (number_at (codes "end") d) (at as_str (codes "target") d) (λ begin end target. Some (kinds.Substring begin end target)) kind e
    (λ begin end target is_begin is_end is_target made. of_some KindHasNumbers (kinds.Substring begin end target) kind made (number_is d (codes "begin") begin is_begin, number_is d (codes "end") end is_end))

split_is : (d : Data) (kind : ExtractorKind) → split_in d ≡ Some kind → KindHasNumbers kind
unfolding split_in
split_is d kind e =
    of_three KindHasNumbers (at as_str (codes "by") d) (number_at (codes "index") d) (at as_str (codes "target") d) (λ by index target. Some (kinds.Split by index target)) kind e
    (λ by index target is_by is_index is_target made. of_some KindHasNumbers (kinds.Split by index target) kind made (number_is d (codes "index") index is_index))

untargeted : (d : Data) (made kind : ExtractorKind) → KindHasNumbers made → unless_target d made ≡ Some kind → KindHasNumbers kind
unfolding unless_target
untargeted d made kind h e =
    of_one KindHasNumbers (at as_str (codes "target") d) (λ target. if length target == 0 then Some made else None) kind e
    (λ target is rest. of_some KindHasNumbers made kind (of_test (length target == 0) (Some made) kind rest).1 h)

grok_kind_is : (d : Data) (kind : ExtractorKind) → grok_kind_in d ≡ Some kind → KindHasNumbers kind
unfolding grok_kind_in
grok_kind_is d kind e =
    of_one KindHasNumbers (at as_str (codes "pattern") d) (λ pattern. unless_target d (kinds.Grok pattern)) kind e
    (λ pattern is rest. untargeted d (kinds.Grok pattern) kind tt rest)

extractor_kind_is : (d : Data) (kind : ExtractorKind) → extractor_kind_in d ≡ Some kind → KindHasNumbers kind
unfolding extractor_kind_in
extractor_kind_is d kind e =
    of_one KindHasNumbers (at as_str (codes "kind") d) (of_kind extractor_kinds d) kind e
    (λ name is rest. kind_read KindHasNumbers d extractor_kinds (regex_is d, (substring_is d, (split_is d, (grok_kind_is d, (λ y made. untargeted d kinds.Json y tt made, tt))))) name kind rest)

abbrev ExtractorHas : ExtractorParts → Type 0
ExtractorHas parts = KindHasNumbers parts.kind

abbrev made_of : ExtractorKind → List ℕ → Bool → Condition → List Converter → ExtractorParts
made_of kind source cut condition converters = record { kind = kind; source = source; cut = cut; condition = condition; converters = converters }

extractor_is : (d : Data) (parts : ExtractorParts) → extractor_in d ≡ Some parts → ExtractorHas parts
unfolding extractor_in
extractor_is d parts e =
    of_five ExtractorHas (extractor_kind_in d) (at as_str (codes "source") d) (at as_bool (codes "cut") d) (at condition_in (codes "condition") d) (list_at converter_in (codes "converters") d)
    (λ kind source cut condition converters. unless_more extractor_data d (made_of kind source cut condition converters)) parts e
    (λ kind source cut condition converters is_kind is_source is_cut is_condition is_converters made.
    let exact = of_test (width d == width (extractor_data (made_of kind source cut condition converters))) (Some (made_of kind source cut condition converters)) parts made in
    of_some ExtractorHas (made_of kind source cut condition converters) parts exact.1 (extractor_kind_is d kind is_kind))

-- commands

input_is : (d : Data) (command : Command) → input_in d ≡ Some command → HasNumbers command
unfolding input_in
input_is d command e =
    of_two HasNumbers (at as_str (codes "name") d) (said_at kind_named (codes "type") d) (λ name kind. Some (CreateInput name kind)) command e
    (λ name kind is_name is_kind made. of_some HasNumbers (CreateInput name kind) command made tt)

extractors_are : (d : Data) (command : Command) → extractors_in d ≡ Some command → HasNumbers command
unfolding extractors_in
extractors_are d command e =
    of_two HasNumbers (at as_str (codes "input") d) (list_at extractor_in (codes "extractors") d) (λ input extractors. Some (SetExtractors input extractors)) command e
    (λ input extractors is_input is_extractors made. of_some HasNumbers (SetExtractors input extractors) command made (list_is ExtractorHas extractor_in d extractor_is (codes "extractors") extractors is_extractors))

index_set_is : (d : Data) (command : Command) → index_set_in d ≡ Some command → HasNumbers command
unfolding index_set_in
index_set_is d command e =
    of_four HasNumbers (at as_str (codes "name") d) (number_at (codes "max_docs") d) (number_at (codes "max_ms") d) (number_at (codes "keep") d) (λ name max_docs max_ms keep. Some (CreateIndexSet name max_docs max_ms keep)) command e
    (λ name max_docs max_ms keep is_name is_max_docs is_max_ms is_keep made. of_some HasNumbers (CreateIndexSet name max_docs max_ms keep) command made (number_is d (codes "max_docs") max_docs is_max_docs, number_is d (codes "max_ms") max_ms is_max_ms, number_is d (codes "keep") keep is_keep))

stream_is : (d : Data) (command : Command) → stream_in d ≡ Some command → HasNumbers command
unfolding stream_in
stream_is d command e =
    of_five HasNumbers (at as_str (codes "name") d) (at as_str (codes "index_set") d) (at as_bool (codes "any") d) (at as_bool (codes "remove_from_default") d) (list_at rule_in (codes "rules") d) (λ name index_set any removes rules. Some (CreateStream name index_set any removes rules)) command e
    (λ name index_set any removes rules is_name is_index_set is_any is_removes is_rules made. of_some HasNumbers (CreateStream name index_set any removes rules) command made tt)

setting_is : (d : Data) (command : Command) → setting_in d ≡ Some command → HasNumbers command
unfolding setting_in
setting_is d command e =
    of_five HasNumbers (said_at read_id (codes "id") d) (at as_bool (codes "any") d) (at as_bool (codes "remove_from_default") d) (at as_bool (codes "paused") d) (list_at rule_in (codes "rules") d) (λ id any removes paused rules. Some (SetStream id any removes paused rules)) command e
    (λ id any removes paused rules is_id is_any is_removes is_paused is_rules made. of_some HasNumbers (SetStream id any removes paused rules) command made (id_is d (codes "id") id is_id))

connection_is : (d : Data) (command : Command) → connection_in d ≡ Some command → HasNumbers command
unfolding connection_in
connection_is d command e =
    of_two HasNumbers (said_at read_id (codes "stream") d) (list_at as_str (codes "pipelines") d) (λ stream pipelines. Some (Connect stream pipelines)) command e
    (λ stream pipelines is_stream is_pipelines made. of_some HasNumbers (Connect stream pipelines) command made (id_is d (codes "stream") stream is_stream))

abbrev UserHas : List ℕ × List ℕ × Bool × List ℕ → Type 0
UserHas parts = All IsId parts.3

user_has : (d : Data) (parts : List ℕ × List ℕ × Bool × List ℕ) → user_parts d ≡ Some parts → UserHas parts
unfolding user_parts
user_has d parts e =
    of_four UserHas (at as_str (codes "name") d) (at as_str (codes "token_sha256") d) (at as_bool (codes "admin") d) (list_at id_in (codes "streams") d) (λ name hash admin streams. Some (name, hash, admin, streams)) parts e
    (λ name hash admin streams is_name is_hash is_admin is_streams made. of_some UserHas (name, hash, admin, streams) parts made (list_is IsId id_in d id_in_is (codes "streams") streams is_streams))

-- a command that is made of what is read
made_is : {A : Type 0} (o : Option A) (make : A → Command) → ((x : A) → o ≡ Some x → HasNumbers (make x)) → (command : Command) → option_and_then (λ x. Some (make x)) o ≡ Some command → HasNumbers command
made_is o make made command e = of_one HasNumbers o (λ x. Some (make x)) command e (λ x is rest. of_some HasNumbers (make x) command rest (made x is))

readers_are : (d : Data) → EachReader HasNumbers d command_kinds
readers_are d =
    (input_is d, (extractors_are d, (index_set_is d, (stream_is d, (setting_is d, (made_is (at as_str (codes "source") d) CreateRule (λ source is. tt), (made_is (at as_str (codes "source") d) SetRule (λ source is. tt), (made_is (at as_str (codes "source") d) CreatePipeline (λ source is. tt), (made_is (at as_str (codes "source") d) SetPipeline (λ source is. tt), (connection_is d, (made_is (table_parts d) (λ parts. CreateLookup parts.0 parts.1 parts.2 parts.3) (λ parts is. tt), (made_is (table_parts d) (λ parts. SetLookup parts.0 parts.1 parts.2 parts.3) (λ parts is. tt), (made_is (grok_parts d) (λ parts. CreateGrok parts.0 parts.1) (λ parts is. tt), (made_is (grok_parts d) (λ parts. SetGrok parts.0 parts.1) (λ parts is. tt), (made_is (user_parts d) (λ parts. CreateUser parts.0 parts.1 parts.2 parts.3) (user_has d), (made_is (user_parts d) (λ parts. SetUser parts.0 parts.1 parts.2 parts.3) (user_has d), tt))))))))))))))))

pub keys_have_numbers : (d : Data) (command : Command) → keys_in d ≡ Some command → HasNumbers command
unfolding keys_in
keys_have_numbers d command e =
    of_one HasNumbers (at as_str (codes "kind") d) (λ kind. option_and_then (unless_more command_data d) (of_kind command_kinds d kind)) command e (λ kind is rest.
    of_one HasNumbers (of_kind command_kinds d kind) (unless_more command_data d) command rest (λ found is_found exact.
    let same = of_test (width d == width (command_data found)) (Some found) command exact in
    of_some HasNumbers found command same.1 (kind_read HasNumbers d command_kinds (readers_are d) kind found is_found)))
