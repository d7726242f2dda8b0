-- What is kept tells what stands, through each change, and the turns that a chunk's cases take.
use Rattle.std.proofs.Common.{◌≡◌, ◌≤◌, ◌<◌, ℕ, suc, ◌+◌, Bool, true, false, cond, T, List, [], ◌∷◌, ◌++◌, map, length, drop, if◌then◌else◌, is_some, max, min, Option, Some, None, refl, sym, ap, subst, ◌∙◌, arith}
use Rattle.std.specs.Prelude.{nat_le}
use Rattle.std.specs.List.{filter, AllByRecursion, IsDistinct}
use Rattle.std.specs.Option.{unwrap_or}
use Rattle.std.specs.Ordering.{nat_cmp, eq_by_cmp}
use Rattle.std.specs.Cmp.{nat_cmp_total, eq_by_cmp_equiv}
use Rattle.std.specs.Map.{lookup, keys_of}
use Rattle.std.specs.FinMap as finite
use Rattle.std.specs.FinMap.{nat_cmp-IsAntisymmetric}
use Rattle.std.specs.BTreeMap as tree
use Rattle.std.specs.BTreeMap.{is_at}
use Rattle.std.proofs.lemmas.Map.Keys.{IsDistinct-from_sorted, IsDistinct-head, IsDistinct-tail, IsDistinct-cons}
use Rattle.std.proofs.lemmas.Map.Entries.{option_filter, lookup-filter-values, length-values_of}
use Rattle.std.proofs.lemmas.Bool.Decides.{nat_tests}
use Rattle.gl_chunks.specs.declared.chunk_set.ChunkSet.{ChunkSet}
use Rattle.gl_chunks.specs.declared.chunks.Chunked.{Chunked}
use Rattle.gl_chunks.specs.declared.chunks.Chunked.TheVariants as answers
use Rattle.gl_chunks.specs.Chunks.{begins_as_chunk, beside, while_live, opened, at_itself, Standing, live_set, has_ended, live_sets, opened_set, with_part, refusal, refusal_by, with_set, with_end, joined, unless, chunk_head, chunk_turn, chunk_answer, at_moment, turn, turn_by, standing_behind, standing_of, Tells, IsTable}

-- ---- what is live
pub live_some : {X : Type 0} (since : X → ℕ) (now : ℕ) (o : Option X) (x : X) → while_live since now o ≡ Some x → o ≡ Some x
live_some since now None x h = h
live_some {X} since now (Some y) x h = elim (nat_le now (since y + 5000)) as (λ b. ◌≡◌ {A = Option X} (cond b (Some y) None) (Some x) → Some y ≡ Some x) [
  | true ↦ λ e. e
  | false ↦ λ e. absurd (subst T (ap is_some (sym e)) tt)
] h

pub live_kept : {X : Type 0} (since : X → ℕ) (now : ℕ) (o : Option X) → cond (is_some (while_live since now o)) o None ≡ while_live since now o
live_kept since now None = refl
live_kept {X} since now (Some x) = elim (nat_le now (since x + 5000)) as (λ b. ◌≡◌ {A = Option X} (cond (is_some (cond b (Some x) None)) (Some x) None) (cond b (Some x) None)) [ true ↦ refl | false ↦ refl ]

same_branch : {X : Type 0} (since : X → ℕ) (m : ℕ) (b : Bool) (w x y : Option X) → while_live since m x ≡ while_live since m y → while_live since m (cond b w x) ≡ while_live since m (cond b w y)
same_branch since m true w x y h = refl
same_branch since m false w x y h = h

-- ---- what is kept tells what stands
pub tells_later : {X : Type 0} (since : X → ℕ) (now m : ℕ) (f g : ℕ → Option X) → now ≤ m → Tells since now f g → Tells since m f g
tells_later since now m f g le t = λ k id h. let later : now ≤ k = omega (arith, le, h) in t k id later

pub tells_put : {X : Type 0} (since : X → ℕ) (now id : ℕ) (w : Option X) (f g f' g' : ℕ → Option X) → ((q : ℕ) → f' q ≡ cond (eq_by_cmp nat_cmp id q) w (f q)) → ((q : ℕ) → g' q ≡ cond (eq_by_cmp nat_cmp q id) w (g q))
    → Tells since now f g → Tells since now f' g'
tells_put {X} since now id w f g f' g' f_is g_is t = λ m q le.
    ap (while_live since m) (f_is q ∙ ap (λ b. cond b w (f q)) ((eq_by_cmp_equiv nat_cmp_total).symm id q))
    ∙ same_branch since m (eq_by_cmp nat_cmp q id) w (f q) (g q) (t m q le) ∙ ap (while_live since m) (sym (g_is q))

pub tells_same : {X : Type 0} (since : X → ℕ) (now : ℕ) (old new : tree.BTreeMap ℕ X) (g : ℕ → Option X) → tree.IsUnchanged old new → Tells since now (tree.get nat_cmp old) g → Tells since now (tree.get nat_cmp new) g
tells_same {X} since now old new g e t = λ m q le. ap (λ (es : List (ℕ × X)). while_live since m (lookup (is_at (nat_cmp q)) es)) e ∙ t m q le

pub keeps_same : (now : ℕ) (a b : tree.BTreeMap ℕ ChunkSet) (x y : tree.BTreeMap ℕ ℕ) (s : Standing) → tree.IsUnchanged a b → tree.IsUnchanged x y → IsTable now a x s → IsTable now b y s
keeps_same now a b x y s e f k = record {
  now_is = k.now_is;
  of_sets = tells_same opened now a b (finite.get s.sets) e k.of_sets;
  of_ended = tells_same at_itself now x y (finite.get s.ended) f k.of_ended;
}

pub keeps_at : (now m moment : ℕ) (a : tree.BTreeMap ℕ ChunkSet) (x : tree.BTreeMap ℕ ℕ) (s : Standing) → m ≡ max now (min moment 253402300799999) → IsTable now a x s → IsTable m a x (at_moment s moment)
keeps_at now m moment a x s m_is k =
    let le : now ≤ m = omega (arith, m_is) in
    record {
      now_is = ap (λ (n : ℕ). max n (min moment 253402300799999)) k.now_is ∙ sym m_is;
      of_sets = tells_later opened now m (tree.get nat_cmp a) (finite.get s.sets) le k.of_sets;
      of_ended = tells_later at_itself now m (tree.get nat_cmp x) (finite.get s.ended) le k.of_ended;
    }

pub keeps_set : (now id : ℕ) (set : ChunkSet) (a b : tree.BTreeMap ℕ ChunkSet) (x : tree.BTreeMap ℕ ℕ) (s : Standing) → ((q : ℕ) → tree.get nat_cmp b q ≡ cond (eq_by_cmp nat_cmp id q) (Some set) (tree.get nat_cmp a q))
    → IsTable now a x s → IsTable now b x (with_set s id set)
keeps_set now id set a b x s is k = record {
  now_is = k.now_is;
  of_sets = tells_put opened now id (Some set) (tree.get nat_cmp a) (finite.get s.sets) (tree.get nat_cmp b) (finite.get (finite.insert s.sets id set)) is (λ q. finite.get-insert nat_cmp_total s.sets id set q) k.of_sets;
  of_ended = k.of_ended;
}

pub keeps_open : (now id : ℕ) (set : ChunkSet) (a b : tree.BTreeMap ℕ ChunkSet) (x : tree.BTreeMap ℕ ℕ) (s : Standing) → Tells opened now (tree.get nat_cmp b) (λ q. cond (eq_by_cmp nat_cmp id q) (Some set) (tree.get nat_cmp a q))
    → IsTable now a x s → IsTable now b x (with_set s id set)
keeps_open now id set a b x s told k = record {
  now_is = k.now_is;
  of_sets = λ m q le. told m q le ∙ tells_put opened now id (Some set) (tree.get nat_cmp a) (finite.get s.sets) (λ p. cond (eq_by_cmp nat_cmp id p) (Some set) (tree.get nat_cmp a p)) (finite.get (finite.insert s.sets id set)) (λ p. refl)
      (λ p. finite.get-insert nat_cmp_total s.sets id set p) k.of_sets m q le;
  of_ended = k.of_ended;
}

pub keeps_end : (now id : ℕ) (a b : tree.BTreeMap ℕ ChunkSet) (x y : tree.BTreeMap ℕ ℕ) (s : Standing) → ((q : ℕ) → tree.get nat_cmp b q ≡ cond (eq_by_cmp nat_cmp id q) None (tree.get nat_cmp a q))
    → ((q : ℕ) → tree.get nat_cmp y q ≡ cond (eq_by_cmp nat_cmp id q) (Some now) (tree.get nat_cmp x q)) → IsTable now a x s → IsTable now b y (with_end s id)
keeps_end now id a b x y s gone put k = record {
  now_is = k.now_is;
  of_sets = tells_put opened now id None (tree.get nat_cmp a) (finite.get s.sets) (tree.get nat_cmp b) (finite.get (finite.remove s.sets id)) gone (λ q. finite.get-remove nat_cmp_total s.sets id q) k.of_sets;
  of_ended = tells_put at_itself now id (Some now) (tree.get nat_cmp x) (finite.get s.ended) (tree.get nat_cmp y) (finite.get (finite.insert s.ended id s.now)) put
      (λ q. finite.get-insert nat_cmp_total s.ended id s.now q ∙ ap (λ (n : ℕ). cond (eq_by_cmp nat_cmp q id) (Some n) (finite.get s.ended q)) k.now_is) k.of_ended;
}

-- ---- how many sets are live
find_is : {X : Type 0} (es : List (ℕ × X)) (q : ℕ) → finite.find nat_cmp q es ≡ lookup (is_at (nat_cmp q)) es
find_is [] q = refl
find_is (e ∷ es) q = ap (cond (is_at (nat_cmp q) e.0) (Some e.1)) (find_is es q)

find_none : {X : Type 0} (es : List (ℕ × X)) (q : ℕ) → AllByRecursion (λ y. eq_by_cmp nat_cmp q y ≡ false) (keys_of es) → finite.find nat_cmp q es ≡ None
find_none [] q h = refl
find_none (e ∷ es) q h = ap (λ b. cond b (Some e.1) (finite.find nat_cmp q es)) h.0 ∙ find_none es q h.1

pub len_is : {X : Type 0} (es : List (ℕ × X)) → IsDistinct (eq_by_cmp nat_cmp) (keys_of es) → finite.len (finite.from_entries {R = nat_cmp} es) ≡ length es
len_is {X} [] d = finite.len-empty nat_cmp X
len_is (e ∷ es) d =
    finite.len-insert nat_cmp_total (finite.from_entries es) e.0 e.1
    ∙ ap (λ o. cond (is_some o) (finite.len (finite.from_entries {R = nat_cmp} es)) (finite.len (finite.from_entries {R = nat_cmp} es) + 1))
    (finite.get-from_entries nat_cmp_total es e.0 ∙ find_none es e.0 (IsDistinct-head (eq_by_cmp nat_cmp) e.0 (keys_of es) d))
    ∙ ap (λ (n : ℕ). n + 1) (len_is es (IsDistinct-tail (eq_by_cmp nat_cmp) e.0 (keys_of es) d)) ∙ omega arith

all_filter : {X : Type 0} (P : ℕ → Type 0) (p : ℕ × X → Bool) (es : List (ℕ × X)) → AllByRecursion P (keys_of es) → AllByRecursion P (keys_of (filter p es))
all_filter P p [] h = h
all_filter P p (e ∷ es) h = elim (p e) as (λ b. AllByRecursion P (keys_of (cond b (e ∷ filter p es) (filter p es)))) [ true ↦ (h.0, all_filter P p es h.1) | false ↦ all_filter P p es h.1 ]

distinct_filter : {X : Type 0} (p : ℕ × X → Bool) (es : List (ℕ × X)) → IsDistinct (eq_by_cmp nat_cmp) (keys_of es) → IsDistinct (eq_by_cmp nat_cmp) (keys_of (filter p es))
distinct_filter p [] d = d
distinct_filter p (e ∷ es) d =
    let rest = distinct_filter p es (IsDistinct-tail (eq_by_cmp nat_cmp) e.0 (keys_of es) d) in
    elim (p e) as (λ b. IsDistinct (eq_by_cmp nat_cmp) (keys_of (cond b (e ∷ filter p es) (filter p es)))) [
      | true ↦ IsDistinct-cons (eq_by_cmp nat_cmp) e.0 (keys_of (filter p es)) (all_filter (λ y. eq_by_cmp nat_cmp e.0 y ≡ false) p es (IsDistinct-head (eq_by_cmp nat_cmp) e.0 (keys_of es) d)) rest
      | false ↦ rest
    ]

values_filter : {X : Type 0} (p : X → Bool) (es : List (ℕ × X)) → length (filter (λ e. p e.1) es) ≡ length (filter p (map (λ e. e.1) es))
values_filter p [] = refl
values_filter p (e ∷ es) = elim (p e.1) as (λ b. length (cond b (e ∷ filter (λ e. p e.1) es) (filter (λ e. p e.1) es)) ≡ length (cond b (e.1 ∷ filter p (map (λ e. e.1) es)) (filter p (map (λ e. e.1) es)))) [
  | true ↦ ap (λ (n : ℕ). suc n) (values_filter p es)
  | false ↦ values_filter p es
]

pub few_pass : {X : Type 0} (p : X → Bool) (xs : List X) → length (filter p xs) ≤ length xs
few_pass p [] = omega arith
few_pass p (x ∷ xs) = let rest = few_pass p xs in elim (p x) as (λ b. length (cond b (x ∷ filter p xs) (filter p xs)) ≤ length (x ∷ xs)) [ true ↦ omega (arith, rest) | false ↦ omega (arith, rest) ]

live_filter : {X : Type 0} (since : X → ℕ) (now : ℕ) (o : Option X) → option_filter (λ x. nat_le now (since x + 5000)) o ≡ while_live since now o
live_filter since now None = refl
live_filter since now (Some x) = refl

-- what `retain` leaves of what is live
pub retained : {X : Type 0} (since : X → ℕ) (now : ℕ) (old new : tree.BTreeMap ℕ X) (id : ℕ) → tree.IsOrdered nat_cmp old → new.entries ≡ filter (λ e. nat_le now (since e.1 + 5000)) old.entries
    → tree.get nat_cmp new id ≡ while_live since now (tree.get nat_cmp old id)
retained {X} since now old new id ordered e =
    ap (lookup (is_at (nat_cmp id))) e
    ∙ lookup-filter-values (eq_by_cmp_equiv nat_cmp_total) (λ (x : X). nat_le now (since x + 5000)) id old.entries (IsDistinct-from_sorted nat_cmp (keys_of old.entries) ordered)
    ∙ live_filter since now (tree.get nat_cmp old id)

pub live_len_is : (now : ℕ) (a : tree.BTreeMap ℕ ChunkSet) (all : finite.FinMap nat_cmp ChunkSet) → tree.IsOrdered nat_cmp a → Tells opened now (tree.get nat_cmp a) (finite.get all)
    → finite.len (live_sets now all) ≡ length (filter (λ set. nat_le now (set.opened + 5000)) (tree.values a))
live_len_is now a all ordered tells =
    let distinct = IsDistinct-from_sorted nat_cmp (keys_of a.entries) ordered in
    let some : List (ℕ × ChunkSet) = filter (λ e. nat_le now (e.1.opened + 5000)) a.entries in
    let same : live_sets now all ≡ finite.from_entries {R = nat_cmp} some = finite.same_map nat_cmp_total nat_cmp-IsAntisymmetric (live_sets now all) (finite.from_entries some) (λ q.
    finite.get-retain_keys all (λ id. is_some (while_live opened now (finite.get all id))) q (λ x e. ap (λ (id : ℕ). is_some (while_live opened now (finite.get all id))) (sym (nat_cmp-IsAntisymmetric q x e)))
    ∙ live_kept opened now (finite.get all q) ∙ sym (tells now q (omega arith)) ∙ sym (live_filter opened now (tree.get nat_cmp a q))
    ∙ sym (lookup-filter-values (eq_by_cmp_equiv nat_cmp_total) (λ (set : ChunkSet). nat_le now (set.opened + 5000)) q a.entries distinct)
    ∙ sym (find_is some q) ∙ sym (finite.get-from_entries nat_cmp_total some q)) in
    ap finite.len same ∙ len_is some (distinct_filter (λ e. nat_le now (e.1.opened + 5000)) a.entries distinct) ∙ values_filter (λ (set : ChunkSet). nat_le now (set.opened + 5000)) a.entries

pub not_full : (now : ℕ) (a : tree.BTreeMap ℕ ChunkSet) (all : finite.FinMap nat_cmp ChunkSet) → tree.IsOrdered nat_cmp a → Tells opened now (tree.get nat_cmp a) (finite.get all)
    → length a.entries < 1024 → false ≡ nat_le 1024 (finite.len (live_sets now all))
not_full now a all ordered tells few =
    let is = live_len_is now a all ordered tells in
    let pass = few_pass (λ (set : ChunkSet). nat_le now (set.opened + 5000)) (tree.values a) in
    let as_many : length (tree.values a) ≡ length a.entries = length-values_of a.entries in
    let below : finite.len (live_sets now all) < 1024 = omega (arith, is, pass, as_many, few) in
    grind (arith, nat_tests, below)

-- ---- the turns
pub ended_is : (now id : ℕ) (a : tree.BTreeMap ℕ ChunkSet) (x : tree.BTreeMap ℕ ℕ) (s : Standing) → IsTable now a x s → has_ended s id ≡ is_some (while_live at_itself now (tree.get nat_cmp x id))
ended_is now id a x s k = ap (λ (n : ℕ). is_some (while_live at_itself n (finite.get s.ended id))) k.now_is ∙ ap is_some (sym (k.of_ended now id (omega arith)))

pub live_is : (now id : ℕ) (a : tree.BTreeMap ℕ ChunkSet) (x : tree.BTreeMap ℕ ℕ) (s : Standing) → IsTable now a x s → live_set s id ≡ while_live opened now (tree.get nat_cmp a id)
live_is now id a x s k = ap (λ (n : ℕ). while_live opened n (finite.get s.sets id)) k.now_is ∙ sym (k.of_sets now id (omega arith))

-- an answer and what is kept, by the turn
abbrev pub Turns : ℕ → tree.BTreeMap ℕ ChunkSet → tree.BTreeMap ℕ ℕ → Chunked → Chunked × Standing → Type 0
Turns now a x answer t = (answer ≡ t.0) × IsTable now a x t.1

pub refused : (now id number count : ℕ) (part : List ℕ) (a : tree.BTreeMap ℕ ChunkSet) (x : tree.BTreeMap ℕ ℕ) (s : Standing) (answer : Chunked) → refusal s id number count ≡ Some answer → IsTable now a x s
    → Turns now a x answer (chunk_turn s id number count part)
unfolding chunk_turn
refused now id number count part a x s answer e k =
    subst (λ (r : Option Chunked). Turns now a x answer (unless s r (joined s id (with_part (unwrap_or (live_set s id) (opened_set s.now count)) number part)))) (sym e) (refl, k)

pub takes : (now id number count : ℕ) (part : List ℕ) (a b : tree.BTreeMap ℕ ChunkSet) (x y : tree.BTreeMap ℕ ℕ) (s : Standing) (answer : Chunked) (o : Option ChunkSet) (t : Chunked × Standing)
    → refusal s id number count ≡ None → live_set s id ≡ o → joined s id (with_part (unwrap_or o (opened_set s.now count)) number part) ≡ t → Turns now b y answer t
    → Turns now b y answer (chunk_turn s id number count part)
unfolding chunk_turn
takes now id number count part a b x y s answer o t none live joins turned =
    subst (λ (u : Chunked × Standing). Turns now b y answer u)
    (sym (ap (λ (r : Option Chunked). unless s r (joined s id (with_part (unwrap_or (live_set s id) (opened_set s.now count)) number part))) none
    ∙ ap (λ (l : Option ChunkSet). joined s id (with_part (unwrap_or l (opened_set s.now count)) number part)) live ∙ joins)) turned

pub refusal_ended : (s : Standing) (id number count : ℕ) → has_ended s id ≡ true → refusal s id number count ≡ Some answers.Repeat
refusal_ended s id number count e = ap (λ (b : Bool). cond b (Some answers.Repeat) (refusal_by s number count (live_set s id))) e

pub refusal_live : (s : Standing) (id number count : ℕ) (o : Option ChunkSet) → has_ended s id ≡ false → live_set s id ≡ o → refusal s id number count ≡ refusal_by s number count o
refusal_live s id number count o e live = ap (λ (b : Bool). cond b (Some answers.Repeat) (refusal_by s number count (live_set s id))) e ∙ ap (refusal_by s number count) live

-- one more datagram
pub behind_more : (s : Standing) (ds : List (ℕ × List ℕ)) (d : ℕ × List ℕ) → standing_behind s (ds ++ d ∷ []) ≡ (turn (standing_behind s ds) d).1
unfolding standing_behind
behind_more s [] d = refl
behind_more s (e ∷ ds) d = behind_more (turn s e).1 ds d

pub keeps_new : (a : tree.BTreeMap ℕ ChunkSet) (x : tree.BTreeMap ℕ ℕ) → tree.IsEmpty a → tree.IsEmpty x → IsTable 0 a x (standing_of [])
unfolding standing_behind
keeps_new a x none none_ended = record {
  now_is = refl;
  of_sets = λ m id le. ap (λ (es : List (ℕ × ChunkSet)). while_live opened m (lookup (is_at (nat_cmp id)) es)) none ∙ ap (while_live opened m) (sym (finite.get-empty {X = ChunkSet} nat_cmp id));
  of_ended = λ m id le. ap (λ (es : List (ℕ × ℕ)). while_live at_itself m (lookup (is_at (nat_cmp id)) es)) none_ended ∙ ap (while_live at_itself m) (sym (finite.get-empty {X = ℕ} nat_cmp id));
}

pub answered : (now m moment : ℕ) (bytes : List ℕ) (list : List (ℕ × List ℕ)) (a b d : tree.BTreeMap ℕ ChunkSet) (x y z : tree.BTreeMap ℕ ℕ) (answer : Chunked) → m ≡ max now (min moment 253402300799999)
    → ((s : Standing) → IsTable m a x s → Turns m b y answer (turn_by s bytes (chunk_head bytes))) → ((s : Standing) → IsTable m b y s → IsTable m d z s) → IsTable now a x (standing_of list)
    → (answer ≡ chunk_answer list moment bytes) × IsTable m d z (standing_of (list ++ (moment, bytes) ∷ []))
unfolding turn
answered now m moment bytes list a b d x y z answer m_is ok kept k =
    let s : Standing = at_moment (standing_of list) moment in
    let t = ok s (keeps_at now m moment a x (standing_of list) m_is k) in
    (t.0, subst (λ (u : Standing). IsTable m d z u) (sym (behind_more (record { now = 0; sets = finite.empty; ended = finite.empty }) list (moment, bytes))) (kept (turn_by s bytes (chunk_head bytes)).1 t.1))

-- ---- the exits of a chunk
pub chunk_repeat : (now id number count : ℕ) (part : List ℕ) (a : tree.BTreeMap ℕ ChunkSet) (x : tree.BTreeMap ℕ ℕ) (s : Standing) → is_some (while_live at_itself now (tree.get nat_cmp x id)) ≡ true → IsTable now a x s
    → Turns now a x answers.Repeat (chunk_turn s id number count part)
chunk_repeat now id number count part a x s is k = refused now id number count part a x s answers.Repeat (refusal_ended s id number count (ended_is now id a x s k ∙ is)) k

pub chunk_beside : (now id number count : ℕ) (part : List ℕ) (a : tree.BTreeMap ℕ ChunkSet) (x : tree.BTreeMap ℕ ℕ) (s : Standing) (set : ChunkSet) (answer : Chunked)
    → is_some (while_live at_itself now (tree.get nat_cmp x id)) ≡ false → while_live opened now (tree.get nat_cmp a id) ≡ Some set → beside set number count ≡ Some answer → IsTable now a x s
    → Turns now a x answer (chunk_turn s id number count part)
chunk_beside now id number count part a x s set answer past live is k =
    refused now id number count part a x s answer (refusal_live s id number count (Some set) (ended_is now id a x s k ∙ past) (live_is now id a x s k ∙ live) ∙ is) k

pub chunk_joins : (now id number count : ℕ) (part : List ℕ) (a b : tree.BTreeMap ℕ ChunkSet) (x y : tree.BTreeMap ℕ ℕ) (s : Standing) (set : ChunkSet) (answer : Chunked) (t : Chunked × Standing)
    → is_some (while_live at_itself now (tree.get nat_cmp x id)) ≡ false → while_live opened now (tree.get nat_cmp a id) ≡ Some set → beside set number count ≡ None → IsTable now a x s
    → joined s id (with_part set number part) ≡ t → Turns now b y answer t → Turns now b y answer (chunk_turn s id number count part)
chunk_joins now id number count part a b x y s set answer t past live is k joins turned =
    takes now id number count part a b x y s answer (Some set) t (refusal_live s id number count (Some set) (ended_is now id a x s k ∙ past) (live_is now id a x s k ∙ live) ∙ is) (live_is now id a x s k ∙ live) joins turned

pub chunk_full : (now id number count : ℕ) (part : List ℕ) (a : tree.BTreeMap ℕ ChunkSet) (x : tree.BTreeMap ℕ ℕ) (s : Standing)
    → is_some (while_live at_itself now (tree.get nat_cmp x id)) ≡ false → while_live opened now (tree.get nat_cmp a id) ≡ None → nat_le 1024 (finite.len (live_sets now s.sets)) ≡ true → IsTable now a x s
    → Turns now a x answers.ChunkTableFull (chunk_turn s id number count part)
chunk_full now id number count part a x s past live full k =
    refused now id number count part a x s answers.ChunkTableFull (refusal_live s id number count None (ended_is now id a x s k ∙ past) (live_is now id a x s k ∙ live)
    ∙ ap (λ (n : ℕ). cond (nat_le 1024 (finite.len (live_sets n s.sets))) (Some answers.ChunkTableFull) None) k.now_is ∙ ap (λ (b : Bool). cond b (Some answers.ChunkTableFull) None) full) k

pub chunk_opens : (now id number count : ℕ) (part : List ℕ) (a b : tree.BTreeMap ℕ ChunkSet) (x y : tree.BTreeMap ℕ ℕ) (s : Standing) (answer : Chunked) (t : Chunked × Standing)
    → is_some (while_live at_itself now (tree.get nat_cmp x id)) ≡ false → while_live opened now (tree.get nat_cmp a id) ≡ None → nat_le 1024 (finite.len (live_sets now s.sets)) ≡ false → IsTable now a x s
    → joined s id (with_part (opened_set now count) number part) ≡ t → Turns now b y answer t → Turns now b y answer (chunk_turn s id number count part)
chunk_opens now id number count part a b x y s answer t past live room k joins turned =
    takes now id number count part a b x y s answer None t (refusal_live s id number count None (ended_is now id a x s k ∙ past) (live_is now id a x s k ∙ live)
    ∙ ap (λ (n : ℕ). cond (nat_le 1024 (finite.len (live_sets n s.sets))) (Some answers.ChunkTableFull) None) k.now_is ∙ ap (λ (b : Bool). cond b (Some answers.ChunkTableFull) None) room)
    (live_is now id a x s k ∙ live) (ap (λ (n : ℕ). joined s id (with_part (opened_set n count) number part)) k.now_is ∙ joins) turned

pub no_head : (now : ℕ) (bytes : List ℕ) (a : tree.BTreeMap ℕ ChunkSet) (x : tree.BTreeMap ℕ ℕ) (s : Standing) (answer : Chunked) → chunk_head bytes ≡ None → answer ≡ (if begins_as_chunk bytes then answers.BadChunk else answers.Plain)
    → IsTable now a x s → Turns now a x answer (turn_by s bytes (chunk_head bytes))
no_head now bytes a x s answer none is k = subst (λ (h : Option (ℕ × ℕ × ℕ)). Turns now a x answer (turn_by s bytes h)) (sym none) (is, k)

pub some_head : (now id number count : ℕ) (part bytes : List ℕ) (b : tree.BTreeMap ℕ ChunkSet) (y : tree.BTreeMap ℕ ℕ) (s : Standing) (answer : Chunked) → chunk_head bytes ≡ Some (id, number, count) → part ≡ drop 12 bytes
    → Turns now b y answer (chunk_turn s id number count part) → Turns now b y answer (turn_by s bytes (chunk_head bytes))
some_head now id number count part bytes b y s answer some part_is t =
    subst (λ (h : Option (ℕ × ℕ × ℕ)). Turns now b y answer (turn_by s bytes h)) (sym some) (subst (λ (p : List ℕ). Turns now b y answer (chunk_turn s id number count p)) part_is t)
